-- Runs of a link: what is read after an event, and events one after the other.
use Rattle.std.proofs.Common.{◌≡◌, ◌≢◌, ℕ, suc, ◌+◌, ◌-◌, List, [], ◌∷◌, ◌++◌, length, get_or, take, drop, ◌<◌, ◌≤◌, Option, Some, None, Err, ap, sym, ◌∙◌, refl, arith}
use Rattle.std.specs.Option.{option_or}
use Rattle.std.specs.List.{concat}
use Rattle.std.proofs.lemmas.List.{append_assoc, map-append, take-append-drop, take_all, take_more}
use Rattle.vpn_base.specs.declared.errors.Or.{Or}
use Rattle.vpn_base.specs.declared.errors.Or.TheVariants.{Memory, Why}
use Rattle.vpn_base.specs.declared.address.Addr.{Addr}
use Rattle.vpn_base.specs.declared.names.Sid.{Sid}
use Rattle.vpn_links.specs.Actions.{Contents, Datagram}
use Rattle.tls_crypt.specs.Packets.{Wrapping}
use Rattle.control_link.specs.declared.envelope.Envelope.{Envelope}
use Rattle.control_link.specs.declared.link.LinkEnd.{LinkEnd}
use Rattle.control_link.specs.declared.runs.LinkSetup.{LinkSetup}
use Rattle.control_link.specs.Envelope.{envelope_begun}
use Rattle.control_link.specs.Links.{KeptLink, Link, LinkStands, link_begun}
use Rattle.control_link.specs.Calls.{Left, Outcome, Told, after_text, datagrams_to, next_text}
use Rattle.control_link.specs.Reading.{read_here, read_with, texts_here, texts_with}
use Rattle.control_link.specs.Runs.{Course, EventAt, after_event, after_events, course_after, course_begun, course_of, event_comes}
use Rattle.control_link.specs.internal.Courses.{IsAt}

less : (n : ℕ) → n ≢ 0 → n ≡ suc (n - 1)
less n some = omega arith

pub read_no_more : (most : ℕ) (l : Link) → most ≡ 0 → read_here most l ≡ l
unfolding read_here
read_no_more most l none = rw none refl

pub no_more_texts : (most : ℕ) (l : Link) → most ≡ 0 → texts_here most l ≡ []
unfolding texts_here
no_more_texts most l none = rw none refl

read_next : (n : ℕ) (l : Link) (o : Option (List ℕ)) → next_text l ≡ o → read_here (suc n) l ≡ read_with o (after_text l) (read_here n (after_text l))
unfolding read_here
read_next n l o is = ap (λ (t : Option (List ℕ)). read_with t (after_text l) (read_here n (after_text l))) is

texts_next : (n : ℕ) (l : Link) (o : Option (List ℕ)) → next_text l ≡ o → texts_here (suc n) l ≡ texts_with o (texts_here n (after_text l))
unfolding texts_here
texts_next n l o is = ap (λ (t : Option (List ℕ)). texts_with t (texts_here n (after_text l))) is

-- no payload of the text is here
pub none_read : (most : ℕ) (l : Link) → most ≢ 0 → next_text l ≡ None → read_here most l ≡ after_text l
none_read most l some none = ap (λ (n : ℕ). read_here n l) (less most some) ∙ read_next (most - 1) l None none

pub none_texts : (most : ℕ) (l : Link) → most ≢ 0 → next_text l ≡ None → texts_here most l ≡ []
none_texts most l some none = ap (λ (n : ℕ). texts_here n l) (less most some) ∙ texts_next (most - 1) l None none

-- one is, and those behind it
pub one_read : (most : ℕ) (l : Link) (payload : List ℕ) → most ≢ 0 → next_text l ≡ Some payload → read_here most l ≡ read_here (most - 1) (after_text l)
one_read most l payload some here = ap (λ (n : ℕ). read_here n l) (less most some) ∙ read_next (most - 1) l (Some payload) here

pub one_text : (most : ℕ) (l : Link) (payload : List ℕ) → most ≢ 0 → next_text l ≡ Some payload → texts_here most l ≡ payload ∷ texts_here (most - 1) (after_text l)
one_text most l payload some here = ap (λ (n : ℕ). texts_here n l) (less most some) ∙ texts_next (most - 1) l (Some payload) here

pub one_behind : (most : ℕ) (l : Link) (payload bytes : List ℕ) → most ≢ 0 → next_text l ≡ Some payload → (bytes ++ payload) ++ concat (texts_here (most - 1) (after_text l)) ≡ bytes ++ concat (texts_here most l)
one_behind most l payload bytes some here =
    append_assoc bytes payload (concat (texts_here (most - 1) (after_text l)))
    ∙ ap (λ (t : List (List ℕ)). bytes ++ concat t) (sym (one_text most l payload some here))

-- ---- events

pub after_events-push : (remote : Sid) (events : List EventAt) (c : Course) (e : EventAt) → after_events remote c (events ++ e ∷ []) ≡ after_event remote (after_events remote c events) e
after_events-push remote [] c e = refl
after_events-push remote (x ∷ events) c e = after_events-push remote events (after_event remote c x) e

after_events-append : (remote : Sid) (xs ys : List EventAt) (c : Course) → after_events remote c (xs ++ ys) ≡ after_events remote (after_events remote c xs) ys
after_events-append remote [] ys c = refl
after_events-append remote (x ∷ xs) ys c = after_events-append remote xs ys (after_event remote c x)

first_stays : (o other : Option LinkEnd) (end : LinkEnd) → o ≡ Some end → option_or o other ≡ Some end
first_stays None other end is = absurd cc
first_stays (Some e) other end is = is

end_stays_once : (remote : Sid) (c : Course) (e : EventAt) (end : LinkEnd) → c.end ≡ Some end → (after_event remote c e).end ≡ Some end
unfolding after_event
end_stays_once remote c e end is = first_stays c.end (event_comes c.link c.envelope e.0 remote e.1.0).end end is

-- the first end stays
end_stays : (remote : Sid) (events : List EventAt) (c : Course) (end : LinkEnd) → c.end ≡ Some end → (after_events remote c events).end ≡ Some end
end_stays remote [] c end is = is
end_stays remote (e ∷ events) c end is = end_stays remote events (after_event remote c e) end (end_stays_once remote c e end is)

-- a run that has ended after some of the events has ended so after all
pub ended_before : (remote : Sid) (n : ℕ) (events : List EventAt) (c : Course) (end : LinkEnd) → (after_events remote c (take n events)).end ≡ Some end → (after_events remote c events).end ≡ Some end
ended_before remote n events c end is =
    ap (λ (t : List EventAt). (after_events remote c t).end) (sym (take-append-drop n events))
    ∙ ap (λ (t : Course). t.end) (after_events-append remote (take n events) (drop n events) c)
    ∙ end_stays remote (drop n events) (after_events remote c (take n events)) end is

-- ---- what an event leaves

-- after what came of an event and after reading, all is as the course says
pub at_after : {W : Type 0} (wrapped : W → Wrapping) (k k' k2 : KeptLink) (env env' : Envelope W) (out out' : Contents) (bytes bytes' : List ℕ) (to : Addr) (c : Course) (o : Outcome) →
    IsAt wrapped k env out bytes to c → Left wrapped k' env' out out' to o → LinkStands k2 (read_here 12 o.link) → bytes' ≡ bytes ++ concat (texts_here 12 o.link) →
    IsAt wrapped k2 env' out' bytes' to (course_after c o)
at_after wrapped k k' k2 env env' out out' bytes bytes' to c o at left link text = record {
  link = link;
  envelope = left.envelope;
  outbox = (
    left.outbox.0 ∙ at.outbox.0,
    left.outbox.1 ∙ ap (λ (d : List Datagram). d ++ datagrams_to to o.datagrams) at.outbox.1
        ∙ sym (map-append (λ (b : List ℕ). record { to = to; bytes = b }) c.datagrams o.datagrams),
  );
  text = text ∙ ap (λ (t : List ℕ). t ++ concat (texts_here 12 o.link)) at.text;
}

-- ---- the course of a run

-- the course after so many of the events
abbrev pub course_at : ℕ → Wrapping → LinkSetup → List EventAt → Course
course_at n wraps setup events =
    after_events setup.remote
    (course_begun (link_begun setup.conn setup.kid setup.first setup.timeout_secs) (envelope_begun wraps setup.own setup.time 1 0)) (take n events)

pub course_whole : (n : ℕ) (wraps : Wrapping) (setup : LinkSetup) (events : List EventAt) → length events ≤ n → course_at n wraps setup events ≡ course_of wraps setup events
unfolding course_of
course_whole n wraps setup events all = ap (λ (t : List EventAt). after_events setup.remote (course_begun (link_begun setup.conn setup.kid setup.first setup.timeout_secs) (envelope_begun wraps setup.own setup.time 1 0)) t) (take_all n events all)

pub course_next : (n : ℕ) (wraps : Wrapping) (setup : LinkSetup) (events : List EventAt) (e : EventAt) → n < length events → e ≡ get_or events n e →
    course_at (n + 1) wraps setup events ≡ after_event setup.remote (course_at n wraps setup events) e
course_next n wraps setup events e below is =
    let begun = course_begun (link_begun setup.conn setup.kid setup.first setup.timeout_secs) (envelope_begun wraps setup.own setup.time 1 0) in
    ap (λ (t : List EventAt). after_events setup.remote begun t) (take_more events n e below ∙ ap (λ (x : EventAt). take n events ++ x ∷ []) (sym is))
    ∙ after_events-push setup.remote (take n events) begun e

pub course_ended : (n : ℕ) (wraps : Wrapping) (setup : LinkSetup) (events : List EventAt) (end : LinkEnd) → (course_at n wraps setup events).end ≡ Some end → (course_of wraps setup events).end ≡ Some end
unfolding course_of
course_ended n wraps setup events end is =
    ended_before setup.remote n events (course_begun (link_begun setup.conn setup.kid setup.first setup.timeout_secs) (envelope_begun wraps setup.own setup.time 1 0)) end is

-- an end that stays is told as before
pub told_still : (A B : Type 0) (fault : Or LinkEnd) (o whole : Option LinkEnd) → ((end : LinkEnd) → o ≡ Some end → whole ≡ Some end) → Told {A = A} (Err fault) o → Told {A = B} (Err fault) whole
told_still A B Memory o whole stays told = tt
told_still A B (Why e) o whole stays told = stays e told
