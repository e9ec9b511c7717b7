-- Whole runs of a session, one event more at a time.
use Rattle.std.proofs.Common.{◌≡◌, ◌<◌, ◌≤◌, ◌+◌, ◌-◌, ℕ, zero, suc, true, false, List, [], ◌∷◌, ◌++◌, length, take, drop, get_or, Result, Ok, Err, IfOk, refl, ap, sym, subst, ◌∙◌, arith}
use Rattle.std.proofs.lemmas.List.{append-nil, append_assoc, take_all, take_more}
use Rattle.vpn_base.specs.declared.address.Addr.{Addr}
use Rattle.vpn_base.specs.declared.names.Moment.{Moment}
use Rattle.vpn_base.specs.declared.names.Role.TheVariants.{Server}
use Rattle.vpn_links.specs.Actions.{Action, Contents, Datagram, Holds}
use Rattle.tls_crypt.specs.Packets.{Directions, Wrapping}
use Rattle.tls_crypt.specs.Wrapped.{half, keys_of, read_half, wrapped, written_half}
use Rattle.peer_table.specs.Outboxes.{Leaves}
use Rattle.peer_table.specs.Peer.{Peer, began}
use Rattle.session_runs.specs.declared.runs.Progress.{Progress}
use Rattle.session_runs.specs.declared.runs.SessionAnswer.{SessionAnswer}
use Rattle.session_runs.specs.declared.runs.SessionAnswer.TheVariants as answers
use Rattle.peer_table.specs.declared.outcomes.Turn.{Turn}
use Rattle.peer_table.specs.declared.outcomes.Turn.TheVariants as turns
use Rattle.session_runs.specs.declared.runs.SessionSetup.{SessionSetup}
use Rattle.session_runs.specs.Runs.{Coming, Course, EventAt, after_event, after_event_if, after_events, course_begun, course_with, ends, event_comes, no_earlier, session_run}
use Rattle.session_runs.specs.internal.Courses.{GoesOnUntil, HasCome, IsAt}

-- what holds of an answer, from what is known of it
pub ok_so : {T E : Type 0} (r : Result T E) {P Q : T → Type 0} → ((x : T) → P x → Q x) → IfOk r P → IfOk r Q
ok_so (Ok x) each is = each x is
ok_so (Err e) each is = tt

turn_goes_on : (X : Type 0) (turn : Turn) → ends (answers.Turn turn) ≡ false → X → GoesOnUntil X (answers.Turn turn)
turn_goes_on X turns.Going none x = x
turn_goes_on X turns.Ignored none x = x
turn_goes_on X turns.Named none x = x
turn_goes_on X turns.Exchange none x = x
turn_goes_on X (turns.Over cause) none x = tt

-- a session goes on behind an answer that ends no run
pub goes_on_until : (X : Type 0) (answer : SessionAnswer) → ends answer ≡ false → X → GoesOnUntil X answer
goes_on_until X answers.Nothing none x = x
goes_on_until X (answers.Turn turn) none x = turn_goes_on X turn none x
goes_on_until X (answers.Refused refused) none x = x
goes_on_until X (answers.Message bytes) none x = x
goes_on_until X answers.NoMessage none x = x
goes_on_until X answers.Sealed none x = x
goes_on_until X answers.Spent none x = x
goes_on_until X (answers.Inner bytes) none x = x
goes_on_until X (answers.Fault fault) none x = x

-- ---- what stands behind the front

pub none_behind : (n : ℕ) (xs : List ℕ) → length xs < n → [] ≡ drop n xs
none_behind zero xs short = absurd (omega (arith, short))
none_behind (suc n) [] short = refl
none_behind (suc n) (x ∷ xs) short = none_behind n xs (omega (arith, short))

length_behind : (n : ℕ) (xs : List ℕ) → length (drop n xs) ≤ length xs - n
length_behind zero xs = omega arith
length_behind (suc n) [] = omega arith
length_behind (suc n) (x ∷ xs) = let ih = length_behind n xs in omega (arith, ih)

pub all_behind : (n : ℕ) (xs : List ℕ) → take (length xs - n) (drop n xs) ≡ drop n xs
all_behind n xs = take_all (length xs - n) (drop n xs) (length_behind n xs)

-- nothing was done to the outside
pub nothing_done : (c : Contents) → Holds c (c.effects ++ []) (c.staged ++ [])
nothing_done c = (sym (append-nil c.effects), sym (append-nil c.staged))

-- ---- one event

-- behind the end nothing changes
pub at_end : {S : Type 0} (means : S → Peer → Type 0) (run : Progress S) (out : Contents) (effects : List Action) (staged : List Datagram) (c : Course) (wraps : Wrapping) (to : Addr) (e : EventAt)
    → IsAt means run out effects staged c → run.is_over ≡ true → IsAt means run out effects staged (after_event wraps to c e)
unfolding after_event
at_end means run out effects staged c wraps to e at over =
    subst (IsAt means run out effects staged) (sym (ap (λ b. after_event_if b wraps to c e) (sym at.over ∙ over))) at

behind : (xs a b : List Action) (ys zs : List Action) → zs ≡ ys ++ b → ys ≡ xs ++ a → zs ≡ xs ++ (a ++ b)
behind xs a b ys zs is was = is ∙ ap (λ (t : List Action). t ++ b) was ∙ append_assoc xs a b

behind_staged : (xs a b : List Datagram) (ys zs : List Datagram) → zs ≡ ys ++ b → ys ≡ xs ++ a → zs ≡ xs ++ (a ++ b)
behind_staged xs a b ys zs is was = is ∙ ap (λ (t : List Datagram). t ++ b) was ∙ append_assoc xs a b

answers_so : (xs ys zs : List SessionAnswer) (a b : SessionAnswer) → zs ≡ xs ++ a ∷ [] → xs ≡ ys → a ≡ b → zs ≡ ys ++ b ∷ []
answers_so xs ys zs a b is same one = is ∙ ap (λ (t : List SessionAnswer). t ++ a ∷ []) same ∙ ap (λ (t : SessionAnswer). ys ++ t ∷ []) one

-- what came of an event stands behind all else
pub at_after : {S : Type 0} (means : S → Peer → Type 0) (run next : Progress S) (before after : Contents) (effects : List Action) (staged : List Datagram) (c : Course) (wraps : Wrapping) (to : Addr) (e : EventAt) (answer : SessionAnswer)
    → IsAt means run before effects staged c → run.is_over ≡ false → next.latest ≡ no_earlier run.latest e.0
    → HasCome means next.session before after answer (event_comes wraps to c.peer next.latest e.1)
    → next.is_over ≡ ends answer → next.answers.items ≡ run.answers.items ++ answer ∷ []
    → IsAt means next after effects staged (after_event wraps to c e)
unfolding after_event
at_after means run next before after effects staged c wraps to e answer at going latest come over items =
    let o : Coming = event_comes wraps to c.peer next.latest e.1 in
    let same : next.latest ≡ no_earlier c.latest e.0 = latest ∙ ap (λ (m : Moment). no_earlier m e.0) at.latest in
    let is : after_event_if c.is_over wraps to c e ≡ course_with c next.latest o =
    ap (λ b. after_event_if b wraps to c e) (sym at.over ∙ going) ∙ ap (λ (m : Moment). course_with c m (event_comes wraps to c.peer m e.1)) (sym same) in
    subst (IsAt means next after effects staged) (sym is) (record {
      peer = come.peer;
      latest = refl;
      over = over ∙ ap ends come.answer_is;
      answers = answers_so run.answers.items c.answers next.answers.items answer o.answer items at.answers come.answer_is;
      outbox = (
        behind effects c.effects o.effects before.effects after.effects come.outbox.0 at.outbox.0,
        behind_staged staged c.staged o.staged before.staged after.staged come.outbox.1 at.outbox.1,
      );
    })

-- ---- all events

after_push : (wraps : Wrapping) (to : Addr) (events : List EventAt) (c : Course) (e : EventAt) → after_events wraps to c (events ++ e ∷ []) ≡ after_event wraps to (after_events wraps to c events) e
after_push wraps to [] c e = refl
after_push wraps to (x ∷ events) c e = after_push wraps to events (after_event wraps to c x) e

-- one event more
pub after_next : (wraps : Wrapping) (to : Addr) (c : Course) (n : ℕ) (events : List EventAt) (e : EventAt) → n < length events → e ≡ get_or events n e →
    after_events wraps to c (take (n + 1) events) ≡ after_event wraps to (after_events wraps to c (take n events)) e
after_next wraps to c n events e below is =
    ap (λ (t : List EventAt). after_events wraps to c t) (take_more events n e below ∙ ap (λ (x : EventAt). take n events ++ x ∷ []) (sym is))
    ∙ after_push wraps to (take n events) c e

-- all of them
pub after_whole : (wraps : Wrapping) (to : Addr) (c : Course) (n : ℕ) (events : List EventAt) → length events ≤ n → after_events wraps to c (take n events) ≡ after_events wraps to c events
after_whole wraps to c n events all = ap (λ (t : List EventAt). after_events wraps to c t) (take_all n events all)

-- ---- the run

-- a session that has begun is at the beginning of the run
pub at_begun : {S : Type 0} (means : S → Peer → Type 0) (run : Progress S) (before after : Contents) (setup : SessionSetup) (key : List ℕ)
    → Leaves means run.session before after setup.to (began Server (wrapped (keys_of (half key (written_half Server)))) setup.own setup.timers setup.conn setup.began.0)
    → run.latest ≡ setup.began → run.is_over ≡ false → run.answers.items ≡ [] → IsAt means run after before.effects before.staged (course_begun setup key)
unfolding course_begun
at_begun means run before after setup key left latest over none = record { peer = left.peer; latest = latest; over = over; answers = none; outbox = left.outbox }

-- the keys under which the server unwraps are those under which its clients wrap
pub run_so : (setup : SessionSetup) (key : List ℕ) (events : List EventAt) (wrapper : Directions)
    → wrapper ≡ record { writes = keys_of (half key (written_half Server)); reads = keys_of (half key (read_half Server)) }
    → after_events (wrapped wrapper.reads) setup.to (course_begun setup key) events ≡ session_run setup key events
unfolding session_run
run_so setup key events wrapper is = ap (λ (w : Directions). after_events (wrapped w.reads) setup.to (course_begun setup key) events) is
