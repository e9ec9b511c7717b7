-- Before a client's name is known it has no keys, and an answer that gives no name leads to no key exchange.
use Rattle.std.proofs.Common.{◌≡◌, ℕ, zero, suc, Bool, false, List, [], ◌∷◌, ◌++◌, slice_get, Option, Some, None, refl, sym, ap, subst, ◌∙◌}
use Rattle.std.proofs.lemmas.Option.{none-some}
use Rattle.vpn_links.specs.declared.events.Kind.{Kind}
use Rattle.vpn_links.specs.declared.events.Kind.TheVariants as kinds
use Rattle.key_method2.specs.declared.message.Km2.{Km2}
use Rattle.control_link.specs.declared.link.LinkEnd.{LinkEnd}
use Rattle.control_link.specs.Calls as link
use Rattle.peer_table.specs.declared.outcomes.Turn.{Turn}
use Rattle.peer_table.specs.declared.outcomes.Turn.TheVariants as turns
use Rattle.peer_table.specs.EngineAnswers as engine
use Rattle.peer_table.specs.Exchange.{cipher_in, cipher_of}
use Rattle.peer_table.specs.KeySessions.{Opening, Session, Stage, has_keys, is_keyed, newest, newest_session, newest_usable, session_at}
use Rattle.peer_table.specs.Peer.{Outcome, Peer, answered, first_over, gone_on, remote_of, turn_of}
use Rattle.peer_table.specs.Places.{changed_at, last_place, later}
use Rattle.peer_table.specs.Unnamed.{EachOpening, NameComesFirst, OpeningUnlessNamed}
use Rattle.server_engine.specs.Rests.{NameFitsFor}
use Rattle.server_answers.specs.internal.Ahead.{GivesName, GivesNone, NameAhead, NameFound}

-- ---- key sessions in their first stage

changed_opening : (n : ℕ) (f : Session → Session) (ss : List Session) → ((s : Session) → (f s).stage ≡ s.stage) → EachOpening ss → EachOpening (changed_at n f ss)
changed_opening n f [] keeps each = each
changed_opening zero f (s ∷ ss) keeps each = (keeps s ∙ each.0, each.1)
changed_opening (suc n) f (s ∷ ss) keeps each = (each.0, changed_opening n f ss keeps each.1)

some_same : {X : Type 0} {a b : X} → Some a ≡ Some b → a ≡ b
some_same e = cc e

opening_at : (ss : List Session) (n : ℕ) (s : Session) → EachOpening ss → slice_get ss n ≡ Some s → s.stage ≡ Opening
opening_at [] n s each at = absurd (none-some s at)
opening_at (t ∷ ss) zero s each at = ap (λ (x : Session). x.stage) (sym (some_same at)) ∙ each.0
opening_at (t ∷ ss) (suc n) s each at = opening_at ss n s each.1 at

pub each_of : (p : Peer) → NameComesFirst p → p.name ≡ None → EachOpening p.sessions
unfolding NameComesFirst
each_of p first none = subst (λ (name : Option (List ℕ)). OpeningUnlessNamed name p.sessions) none first

-- none has keys
last_none : (ss : List Session) → EachOpening ss → last_place has_keys ss ≡ None
last_none [] each = refl
last_none (s ∷ ss) each = ap (λ (b : Bool). later b (last_place has_keys ss)) (ap is_keyed each.0) ∙ ap (later false) (last_none ss each.1)

pub no_cipher : (p : Peer) → EachOpening p.sessions → cipher_of p ≡ None
unfolding cipher_of newest_usable
no_cipher p each = ap (λ (o : Option ℕ). cipher_in (session_at p.sessions o)) (last_none p.sessions each)

-- its name behind an answer of the engine is the one that it is given, if any
pub found_unnamed : (kind : Kind) (p : Peer) (found : Option (List ℕ)) → p.name ≡ None → NameComesFirst p → GivesName kind found → NameFound kind p found
found_unnamed kind p None none first gives = record { unknown = none; none = gives; first = first }
found_unnamed kind p (Some ahead) none first gives = subst (NameAhead kind ahead p) (sym none) (gives, no_cipher p (each_of p first none))

-- none is prepared for its key exchange
message_none : (p : Peer) (o : Option Session) → ((s : Session) → o ≡ Some s → s.stage ≡ Opening) → engine.message_of p o ≡ None
message_none p None opening = refl
message_none p (Some s) opening = ap (engine.message_in p s) (opening s refl)

none_prepared : (p : Peer) → EachOpening p.sessions → engine.prepared_message p ≡ None
unfolding engine.prepared_message
none_prepared p each = message_none p (newest_session p.sessions) (λ s at. opening_at p.sessions (newest p.sessions) s each at)

-- ---- what an answer leads to

-- no key exchange, and no question for a file
abbrev pub LeadsNowhere : Turn → Type 0
LeadsNowhere turns.Going = Unit {0}
LeadsNowhere (turns.Over cause) = Unit {0}
LeadsNowhere turns.Ignored = ⊥
LeadsNowhere turns.Named = ⊥
LeadsNowhere turns.Exchange = ⊥

-- so it is, and all key sessions are in their first stage still
pub record IsUnnamed (o : Outcome Turn) : Type 0 where
  pub each : EachOpening o.peer.sessions
  pub answer : LeadsNowhere o.answer

goes_on : (turn : Turn) → LeadsNowhere turn → LeadsNowhere (first_over turn turns.Going)
goes_on turns.Going leads = tt
goes_on (turns.Over cause) leads = tt
goes_on turns.Ignored leads = absurd leads
goes_on turns.Named leads = absurd leads
goes_on turns.Exchange leads = absurd leads

leads_on : (turn : Turn) (p : Peer) → EachOpening p.sessions → LeadsNowhere turn → LeadsNowhere (first_over turn (engine.next_turn (engine.prepared_message p) false))
leads_on turn p each leads =
    subst (λ (m : Option (Km2 × ℕ)). LeadsNowhere (first_over turn (engine.next_turn m false))) (sym (none_prepared p each)) (goes_on turn leads)

bad_nowhere : (p : Peer) (o : Option Session) → ((s : Session) → o ≡ Some s → s.stage ≡ Opening) → LeadsNowhere (engine.bad_at p o)
bad_nowhere p None opening = tt
bad_nowhere p (Some s) opening = subst (λ (stage : Stage). LeadsNowhere (engine.bad_in p s stage)) (sym (opening s refl)) (tt {0})

end_nowhere : (end : Option LinkEnd) → LeadsNowhere (first_over turns.Going (turn_of end))
end_nowhere None = tt
end_nowhere (Some end) = tt

text_unnamed : (n : ℕ) (bytes : List ℕ) (now : ℕ) (p : Peer) (o : Option Session) → EachOpening p.sessions → IsUnnamed (engine.text_said n bytes now p o)
text_unnamed n bytes now p None each = record { each = each; answer = tt }
text_unnamed n bytes now p (Some s) each =
    let o = link.said s.link p.envelope bytes (remote_of p) now in
    let after = gone_on n o (answered p turns.Going) in
    let still = changed_opening n (λ s. record s { link = o.link }) p.sessions (λ s. refl) each in
    record { each = still; answer = leads_on after.answer after.peer still (end_nowhere o.end) }

plain_unnamed : (n : ℕ) (bytes : List ℕ) (p : Peer) → EachOpening p.sessions → IsUnnamed (engine.plain_came n bytes p)
unfolding engine.plain_came
plain_unnamed n bytes p each =
    let after = engine.with_plain n bytes p in
    let still = changed_opening n (λ s. record s { plain = s.plain ++ bytes }) p.sessions (λ s. refl) each in
    record {
      each = still;
      answer = leads_on (engine.bad_at after (slice_get after.sessions n)) after still
          (bad_nowhere after (slice_get after.sessions n) (λ s at. opening_at after.sessions n s still at));
    }

answer_unnamed : (kind : Kind) (n now : ℕ) (p : Peer) → GivesNone kind → EachOpening p.sessions → IsUnnamed (engine.answer_in kind n now p)
unfolding engine.text_came
answer_unnamed (kinds.EngineUp conn name) n now p none each = absurd none
answer_unnamed (kinds.EngineText conn bytes) n now p none each = text_unnamed n bytes now p (slice_get p.sessions n) each
answer_unnamed (kinds.EnginePlain conn bytes) n now p none each = plain_unnamed n bytes p each
answer_unnamed (kinds.EngineDown conn) n now p none each = record { each = each; answer = tt }
answer_unnamed (kinds.Datagram from bytes) n now p none each = record { each = each; answer = tt }
answer_unnamed (kinds.DeviceIn bytes) n now p none each = record { each = each; answer = tt }
answer_unnamed kinds.DeviceReady n now p none each = record { each = each; answer = tt }
answer_unnamed (kinds.File cid answer) n now p none each = record { each = each; answer = tt }
answer_unnamed (kinds.Line bytes) n now p none each = record { each = each; answer = tt }
answer_unnamed kinds.Tick n now p none each = record { each = each; answer = tt }
answer_unnamed kinds.Halt n now p none each = record { each = each; answer = tt }

on_unnamed : (kind : Kind) (now : ℕ) (p : Peer) (o : Option ℕ) → GivesNone kind → EachOpening p.sessions → IsUnnamed (engine.answer_on kind now p o)
on_unnamed kind now p None none each = record { each = each; answer = tt }
on_unnamed kind now p (Some n) none each = answer_unnamed kind n now p none each

pub unnamed_came : (kind : Kind) (now : ℕ) (p : Peer) → GivesNone kind → EachOpening p.sessions → IsUnnamed (engine.engine_came kind now p)
unfolding engine.engine_came
unnamed_came kind now p none each = on_unnamed kind now p (engine.session_on (engine.conn_in kind) p) none each

-- no name is looked at then
pub nowhere_fits : (longest : ℕ) (p : Peer) (turn : Turn) → LeadsNowhere turn → NameFitsFor longest p turn
nowhere_fits longest p turns.Going leads = tt
nowhere_fits longest p (turns.Over cause) leads = tt
nowhere_fits longest p turns.Ignored leads = absurd leads
nowhere_fits longest p turns.Named leads = absurd leads
nowhere_fits longest p turns.Exchange leads = absurd leads
