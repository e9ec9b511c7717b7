-- A key session that was closed as no longer usable is not usable later: what single changes of the sessions keep.
use Rattle.std.proofs.Common.{◌≡◌, ◌≤◌, ℕ, zero, suc, Bool, true, false, List, [], ◌∷◌, ◌++◌, Option, Some, None, refl, ap, sym, ◌∙◌, arith}
use Rattle.std.proofs.lemmas.Bool.{false≢true}
use Rattle.std.proofs.lemmas.Bool.Decides.{nat_tests}
use Rattle.std.proofs.lemmas.Option.{none-some}
use Rattle.std.specs.Prelude.{not, slice_get}
use Rattle.vpn_base.specs.declared.names.Timers.{Timers}
use Rattle.peer_table.specs.KeySessions.{Named, Opening, Session, began_before, closed, has_keys, in_transition, is_keyed, is_open, newest_usable, retiring, session_at}
use Rattle.peer_table.specs.Peer.{Peer}
use Rattle.peer_table.specs.Places.{changed_at}
use Rattle.session_state.specs.Standing.{RetiredBy, UsableAreOpen}
use Rattle.peer_session.proofs.Retiring.{KeepsKeys, at_more, retiring_changed, retiring_more, transition_changed, transition_more}
use Rattle.session_state.proofs.Usable.{retiring_keyed}

-- ---- facts on the sessions of a client

-- what is said of a client by its timers, its name and its sessions alone
abbrev pub Facts : Type 1
Facts = Timers → Option (List ℕ) → List Session → Type 0

abbrev pub OfPeer : Facts → Peer → Type 0
OfPeer P p = P p.timers p.name p.sessions

-- and whatever its name
abbrev pub AnyName : (Timers → List Session → Type 0) → Facts
AnyName P timers name ss = P timers ss

-- the one before the last with keys can no longer be used at this moment
abbrev pub IsOver : ℕ → Timers → List Session → Type 0
IsOver at timers ss = in_transition timers at ss ≡ false

-- it is open, or can no longer be used
abbrev pub IsRetired : ℕ → Timers → List Session → Type 0
IsRetired at timers ss = (n : ℕ) (s : Session) → retiring ss ≡ Some n → slice_get ss n ≡ Some s → s.is_open ≡ false → IsOver at timers ss

-- a session is open where it was and nowhere else, has keys where it had them and nowhere else, and began when it did
pub record Keeps (f : Session → Session) (s : Session) : Type 0 where
  pub keys : KeepsKeys f s
  pub is_open : (f s).is_open ≡ s.is_open

-- it is in the stage that it was in
pub record KeepsStage (f : Session → Session) (s : Session) : Type 0 where
  pub stage : (f s).stage ≡ s.stage
  pub began : (f s).began ≡ s.began
  pub is_open : (f s).is_open ≡ s.is_open

keeps_keys : (f : Session → Session) (s : Session) → KeepsStage f s → Keeps f s
keeps_keys f s keeps = record { keys = record { keyed = ap is_keyed keeps.stage; began = keeps.began }; is_open = keeps.is_open }

-- a session's stage is that of a known name
abbrev pub named : Session → Session
named s = record s { stage = Named }

named_keeps : (s : Session) → s.stage ≡ Opening → Keeps named s
named_keeps s opening = record { keys = record { keyed = sym (ap is_keyed opening); began = refl }; is_open = refl }

-- a change that keeps these leaves it so, and so do a name for a session that is in its first stage, and a session more that is in it
pub record Stays (P : Facts) : Type 0 where
  pub changed : (timers : Timers) (name : Option (List ℕ)) (n : ℕ) (f : Session → Session) (ss : List Session) → ((s : Session) → slice_get ss n ≡ Some s → KeepsStage f s) →
      P timers name ss → P timers name (changed_at n f ss)
  pub given : (timers : Timers) (before : Option (List ℕ)) (name : List ℕ) (n : ℕ) (ss : List Session) → ((s : Session) → slice_get ss n ≡ Some s → s.stage ≡ Opening) →
      P timers before ss → P timers (Some name) (changed_at n named ss)
  pub more : (timers : Timers) (name : Option (List ℕ)) (ss : List Session) (x : Session) → x.stage ≡ Opening → P timers name ss → P timers name (ss ++ x ∷ [])

-- ---- what stays

pub over_stays : (at : ℕ) → Stays (AnyName (IsOver at))
over_stays at = record {
  changed = λ timers name n f ss keeps is. transition_changed timers at n f ss (λ s here. (keeps_keys f s (keeps s here)).keys) ∙ is;
  given = λ timers before name n ss opening is. transition_changed timers at n named ss (λ s here. (named_keeps s (opening s here)).keys) ∙ is;
  more = λ timers name ss x opening is. transition_more timers at ss x (ap is_keyed opening) ∙ is;
}

-- a session of a changed list stood in the old one
pub stood : (n : ℕ) (f : Session → Session) (ss : List Session) (m : ℕ) (t : Session) → slice_get (changed_at n f ss) m ≡ Some t →
    ((s : Session) → slice_get ss n ≡ Some s → (f s).is_open ≡ s.is_open) → (s : Session) × (slice_get ss m ≡ Some s) × (t.is_open ≡ s.is_open)
stood n f [] m t is same = absurd (none-some t is)
stood zero f (s ∷ ss) zero t is same = (s, refl, let here : f s ≡ t = cc is in ap is_open (sym here) ∙ same s refl)
stood zero f (s ∷ ss) (suc m) t is same = (t, is, refl)
stood (suc n) f (s ∷ ss) zero t is same = (s, refl, let here : s ≡ t = cc is in ap is_open (sym here))
stood (suc n) f (s ∷ ss) (suc m) t is same = stood n f ss m t is same

changed_retired : (at : ℕ) (timers : Timers) (n : ℕ) (f : Session → Session) (ss : List Session) → ((s : Session) → slice_get ss n ≡ Some s → Keeps f s) →
    IsRetired at timers ss → IsRetired at timers (changed_at n f ss)
changed_retired at timers n f ss keeps is = λ m t older here shut.
    let before = stood n f ss m t here (λ s there. (keeps s there).is_open) in
    transition_changed timers at n f ss (λ s there. (keeps s there).keys)
    ∙ is m before.0 (sym (retiring_changed n f ss (λ s there. (keeps s there).keys)) ∙ older) before.1 (sym before.2 ∙ shut)

more_retired : (at : ℕ) (timers : Timers) (ss : List Session) (x : Session) → has_keys x ≡ false → IsRetired at timers ss → IsRetired at timers (ss ++ x ∷ [])
more_retired at timers ss x none is = λ m t older here shut.
    let was = sym (retiring_more ss x none) ∙ older in
    let there = retiring_keyed ss m was in
    transition_more timers at ss x none ∙ is m t was (sym (at_more ss x m there.session there.here) ∙ here) shut

pub retired_stays : (at : ℕ) → Stays (AnyName (IsRetired at))
retired_stays at = record {
  changed = λ timers name n f ss keeps is. changed_retired at timers n f ss (λ s here. keeps_keys f s (keeps s here)) is;
  given = λ timers before name n ss opening is. changed_retired at timers n named ss (λ s here. named_keeps s (opening s here)) is;
  more = λ timers name ss x opening is. more_retired at timers ss x (ap is_keyed opening) is;
}

-- and so does the closing of one
pub closed_over : (at : ℕ) (timers : Timers) (n : ℕ) (ss : List Session) → IsOver at timers ss → IsOver at timers (changed_at n closed ss)
closed_over at timers n ss is = transition_changed timers at n closed ss (λ s here. record { keyed = refl; began = refl }) ∙ is

-- ---- later

passed_later : (seconds since now : ℕ) (o : Option Session) → since ≤ now → not (began_before seconds since o) ≡ false → not (began_before seconds now o) ≡ false
passed_later seconds since now None le is = is
passed_later seconds since now (Some s) le is = grind (arith, nat_tests)

over_later : (timers : Timers) (since now : ℕ) (ss : List Session) → since ≤ now → IsOver since timers ss → IsOver now timers ss
unfolding in_transition
over_later timers since now ss le is = passed_later timers.tran since now (session_at ss (newest_usable ss)) le is

pub retired_later : (since now : ℕ) (timers : Timers) (ss : List Session) → since ≤ now → IsRetired since timers ss → IsRetired now timers ss
retired_later since now timers ss le is = λ n s older here shut. over_later timers since now ss le (is n s older here shut)

open_by : (b c : Bool) → (b ≡ false → c ≡ false) → c ≡ true → b ≡ true
open_by true c shut still = refl
open_by false c shut still = absurd (false≢true (sym (shut refl) ∙ still))

-- so what may be used is open
pub usable_are_open : (since now : ℕ) (p : Peer) → RetiredBy since p → since ≤ now → UsableAreOpen p now
unfolding RetiredBy
usable_are_open since now p is le = λ n s older here still.
    open_by s.is_open (in_transition p.timers now p.sessions)
    (λ shut. retired_later since now p.timers p.sessions le is n s older here shut) still
