-- How time passes for one client after another.
use Rattle.std.specs.Prelude.{◌≡◌, ℕ, ◌+◌, ◌*◌, ◌^◌, ◌≤◌, Bool, List, length, Option, Some, None}
use Rattle.std.specs.List.{AllByRecursion}
use Rattle.vpn_base.specs.declared.names.Cid.{Cid}
use Rattle.vpn_links.specs.Actions.{Action, Contents}
use Rattle.vpn_links.specs.declared.events.Kind.{Kind}
use Rattle.client_table.specs.Tables.{entries_of}
use Rattle.peer_table.specs.Outboxes.{HasRoom}
use Rattle.peer_table.specs.Peer.{Peer}
use Rattle.server_table.specs.Courses.{Course}
use Rattle.server_table.specs.Time.{client_ticked, clients_ticked}
use Rattle.server_state.specs.declared.state.ServerCore.{ServerCore}
use Rattle.server_state.specs.Core.{CourseStands, GoesOn, IsSound}
use Rattle.server_time.specs.Memory.{AreReady, from_on}
use Rattle.server_time.specs.Turns.{IsNext}

-- Time may pass for all clients from this number on, and has passed for those before it: each of them may begin one key session and open one
-- connection, they have the memory, and the outbox has the room.
pub record MayGoOn {S : Type 0} (is_ready : S → Kind → Bool → ℕ → ℕ → Type 0) (goes_on : S → Type 0) (count since : S → ℕ) (n : ℕ) (core : ServerCore S) (out : Contents)
    : Type 0 where
  pub sound : IsSound goes_on count since core
  pub sessions : AllByRecursion (GoesOn goes_on count since core.events core.moment.0) (from_on n (entries_of core.clients))
  pub opens : core.connections + length (from_on n (entries_of core.clients)) ≤ 2 ^ 13 * core.events
  pub events : core.events ≤ 2 ^ 48
  pub next : IsNext out.staged core.turn.0 n
  pub effects : ℕ
  pub bytes : ℕ
  pub ready : AreReady is_ready (from_on n (entries_of core.clients)) effects bytes
  pub room : HasRoom out effects bytes

-- time has passed for the next client, if there is one
abbrev pub next_ticked : Option Cid → Course → Course
next_ticked None c = c
next_ticked (Some cid) c = client_ticked cid.0 c

-- numbers from this one on are passed over up to that of the next client, and all of them where there is none
abbrev pub PassesTo : ℕ → Option Cid → Course → Type 0
PassesTo n None c = (all : ℕ) → clients_ticked all n c ≡ c
PassesTo n (Some cid) c = (all most : ℕ) → n + all ≡ cid.0 + most → clients_ticked all n c ≡ clients_ticked most cid.0 c

-- Time has passed for all clients before this number: the course reached is the one from which those that are left lead to the end.
pub record HasCome {S : Type 0} (means : S → Peer → Type 0) (before : List Action) (core : ServerCore S) (out : Contents) (n : ℕ) (c : Course) : Type 0 where
  pub reached : Course
  pub stands : CourseStands means before core out reached
  pub rest : (most : ℕ) → n + most ≡ length c.table.clients → clients_ticked (length c.table.clients) 0 c ≡ clients_ticked most n reached
