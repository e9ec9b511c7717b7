-- How far the messages of a client are taken.
use Rattle.std.specs.Prelude.{◌≡◌, ◌≤◌, ◌+◌, ℕ, zero, suc, List, Some}
use Rattle.vpn_links.specs.Actions.{Action, Contents}
use Rattle.peer_table.specs.Exchange.{all_unread}
use Rattle.peer_table.specs.Peer.{Peer}
use Rattle.server_table.specs.Courses.{Course}
use Rattle.server_table.specs.Exchange.{messages_taken}
use Rattle.server_table.specs.Lookups.{client_here}
use Rattle.server_table.specs.Table.{Client}
use Rattle.server_state.specs.declared.state.ServerCore.{ServerCore}
use Rattle.server_state.specs.Core.{CourseStands}
use Rattle.server_establishing.specs.declared.asking.Prepared.{Prepared}
use Rattle.server_establishing.specs.Prepared.{IsPrepared}

-- if the client of this number is here, this is prepared for it, and no more than so many of its bytes are unread
abbrev pub MayTake : Course → ℕ → Prepared → ℕ → Type 0
MayTake c n p left = (x : Client) → client_here c.table n ≡ Some x → IsPrepared c n x p × (all_unread x.session.sessions ≤ left)

-- the same, and with 0 no message waits
abbrev pub IsUntaken : Course → ℕ → Prepared → ℕ → Type 0
IsUntaken c n p zero = messages_taken n c ≡ c
IsUntaken c n p (suc left) = MayTake c n p (suc left)

-- of the messages that waited at the client of this number some were taken, and these are left
pub record HasTaken {S : Type 0} (means : S → Peer → Type 0) (before : List Action) (core : ServerCore S) (out : Contents) (n : ℕ) (c : Course) (p : Prepared) (left : ℕ) : Type 0 where
  pub so_far : Course
  pub stands : CourseStands means before core out so_far
  pub leads : messages_taken n c ≡ messages_taken n so_far
  pub rest : IsUntaken so_far n p left

-- what was used of an outbox's room is no more than so many effects and bytes without those that are left
pub record Spends (before after : Contents) (effects bytes effects_left bytes_left : ℕ) : Type 0 where
  pub effects_spent : before.spare_effects + effects_left ≤ after.spare_effects + effects
  pub bytes_spent : before.spare_bytes + bytes_left ≤ after.spare_bytes + bytes
