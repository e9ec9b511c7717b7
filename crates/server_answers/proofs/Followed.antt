-- What is done of a key exchange before the messages behind it.
use Rattle.std.proofs.Common.{◌≡◌, ◌≤◌, ℕ, List, Option, Some, None, is_some, refl, sym, ap, subst, ◌∙◌}
use Rattle.std.proofs.lemmas.Bool.{false≢true}
use Rattle.vpn_base.specs.declared.names.Cid.{Cid}
use Rattle.vpn_links.specs.Actions.{Action, Contents}
use Rattle.peer_table.specs.Exchange.{all_unread}
use Rattle.peer_table.specs.Peer.{Peer}
use Rattle.server_table.specs.Courses.{Course}
use Rattle.server_table.specs.Exchange.{established_as_asked, exchange_made, messages_taken}
use Rattle.server_table.specs.Lookups.{client_here}
use Rattle.server_table.specs.Table.{Client, Table}
use Rattle.server_state.specs.declared.state.ServerCore.{ServerCore}
use Rattle.server_state.specs.Core.{CourseStands}
use Rattle.server_state.specs.Places.{IsThere}
use Rattle.server_establishing.specs.declared.asking.Prepared.{Prepared}
use Rattle.server_establishing.specs.Prepared.{IsPrepared}
use Rattle.server_answers.proofs.Taken.{Fits, fits_asked, nobody_made}

-- a client of this number that is here has its messages taken
abbrev pub Takes : {S : Type 0} → (S → Peer → Type 0) → ServerCore S → Contents → ServerCore S → Contents → Prepared → ℕ → ℕ → Type 0
Takes means core old next new p left n = (before : List Action) (c : Course) (x : Client) → CourseStands means before core old c → client_here c.table n ≡ Some x
    → IsPrepared c n x p → all_unread x.session.sessions ≤ left → CourseStands means before next new (messages_taken n c)

-- one that is not here has none
abbrev pub TakesNone : {S : Type 0} → (S → Peer → Type 0) → ServerCore S → Contents → ServerCore S → Contents → ℕ → Type 0
TakesNone means core old next new n = (before : List Action) (c : Course) → CourseStands means before core old c → client_here c.table n ≡ None
    → CourseStands means before next new (messages_taken n c)

-- who is at a place is here
not_gone : {S : Type 0} (means : S → Peer → Type 0) (core : ServerCore S) (t : Table) (n i : ℕ) → IsThere means core t n i → client_here t n ≡ None → ⊥
not_gone means core t n i there none = false≢true (ap is_some (sym none ∙ there.client_there))

module _ {S : Type 0} (means : S → Peer → Type 0) (before : List Action) (core next : ServerCore S) (new : Contents) (n i : ℕ) (c : Course) where
  -- so its exchange is not that of nobody
  pub not_nobody_made : IsThere means core c.table n i → client_here c.table n ≡ None → CourseStands means before next new (exchange_made n c)
  not_nobody_made there none = absurd (not_gone means core c.table n i there none)

module _ {S : Type 0} (means : S → Peer → Type 0) (before : List Action) (core : ServerCore S) (out : Contents) (n : ℕ) (c : Course) where
  pub nobody_left_made : client_here c.table n ≡ None → CourseStands means before core out c → CourseStands means before core out (exchange_made n c)
  nobody_left_made none h = subst (CourseStands means before core out) (sym (nobody_made n c none)) h

module _ {S : Type 0} (means : S → Peer → Type 0) (before : List Action) (core : ServerCore S) (old : Contents) (next : ServerCore S) (new : Contents) (n : ℕ) where
  by_here : (left : ℕ) (q : Prepared) (d : Course) (o : Option Client) → client_here d.table n ≡ o → Takes means core old next new q left n → TakesNone means core old next new n
      → CourseStands means before core old d → ((y : Client) → client_here d.table n ≡ Some y → IsPrepared d n y q) → Fits left n d
      → CourseStands means before next new (messages_taken n d)
  by_here left q d None here takes none h prepared fits = none before d h here
  by_here left q d (Some y) here takes none h prepared fits = takes before d y h here (prepared y here) (fits y here)

  -- whether the client is here still or not
  pub all_taken : (left : ℕ) (q : Prepared) (d : Course) → Takes means core old next new q left n → TakesNone means core old next new n → CourseStands means before core old d
      → ((y : Client) → client_here d.table n ≡ Some y → IsPrepared d n y q) → Fits left n d → CourseStands means before next new (messages_taken n d)
  all_taken left q d takes none h prepared fits = by_here left q d (client_here d.table n) refl takes none h prepared fits

  module _ (left : ℕ) (c : Course) (x : Client) (there : client_here c.table n ≡ Some x) (fits : all_unread x.session.sessions ≤ left) where
    -- a key exchange with what it asks for
    pub behind_exchange : (q : Prepared) → Takes means core old next new q left n → TakesNone means core old next new n
        → ((y : Client) → client_here (established_as_asked n c (Some x)).table n ≡ Some y → IsPrepared (established_as_asked n c (Some x)) n y q)
        → CourseStands means before core old (established_as_asked n c (Some x)) → CourseStands means before next new (exchange_made n c)
    behind_exchange q takes none prepared h =
        let then = established_as_asked n c (Some x) in
        subst (λ o. CourseStands means before next new (messages_taken n (established_as_asked n c o))) (sym there)
        (all_taken left q then takes none h prepared (fits_asked left n c x there fits))

-- the same at another name of the number
pub takes_at : {S : Type 0} (means : S → Peer → Type 0) (core : ServerCore S) (old : Contents) (next : ServerCore S) (new : Contents) (p : Prepared) (left : ℕ) (a b : Cid) → a ≡ b
    → Takes means core old next new p left a.0 → Takes means core old next new p left b.0
takes_at means core old next new p left a b same takes = subst (λ (turn : Cid). Takes means core old next new p left turn.0) same takes

pub none_at : {S : Type 0} (means : S → Peer → Type 0) (core : ServerCore S) (old : Contents) (next : ServerCore S) (new : Contents) (a b : Cid) → a ≡ b
    → TakesNone means core old next new a.0 → TakesNone means core old next new b.0
none_at means core old next new a b same takes = subst (λ (turn : Cid). TakesNone means core old next new turn.0) same takes
