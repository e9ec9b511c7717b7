-- What holds of the key sessions of every client, whatever comes: all but the newest have keys, and few are open.
use Rattle.std.specs.Prelude.{◌≡◌, ℕ, suc, ◌≤◌, ◌&&◌, Bool, true, false, List, [], ◌∷◌, length, Option, Some, ◌⊎◌}
use Rattle.std.specs.Option.{option_or}
use Rattle.vpn_base.specs.declared.names.Sid.{Sid}
use Rattle.peer_table.specs.ControlPackets.{Incoming, sender}
use Rattle.peer_table.specs.Peer.{Peer}
use Rattle.peer_table.specs.KeySessions.{Session, has_keys}
use Rattle.peer_table.specs.Exchange.{is_open_keyed}

-- one more, where something holds
abbrev pub more_if : Bool → ℕ → ℕ
more_if true n = suc n
more_if false n = n

-- how many of these sessions pass
abbrev pub how_many : (Session → Bool) → List Session → ℕ
how_many passes [] = 0
how_many passes (s ∷ sessions) = more_if (passes s) (how_many passes sessions)

-- whether each session but the last has keys
abbrev pub all_before_have_keys : List Session → Bool
all_before_have_keys [] = true
all_before_have_keys (s ∷ []) = true
all_before_have_keys (s ∷ t ∷ sessions) = has_keys s && all_before_have_keys (t ∷ sessions)

-- a session has begun, each but the newest has keys, and at most two that have keys are open
pub record IsOrderly (sessions : List Session) : Type 0 where
  pub begun : 1 ≤ length sessions
  pub keyed : all_before_have_keys sessions ≡ true
  pub few : how_many is_open_keyed sessions ≤ 2

-- the key sessions of a peer are orderly, and this is the other end's session id, or that none is fixed yet
pub record IsOrderlyFrom (remote : Option Sid) (p : Peer) : Type 0 where
  pub orderly : IsOrderly p.sessions
  pub is_remote : p.remote ≡ remote

-- the same, where a control packet may have fixed the session id
abbrev pub IsOrderlyOrFixed : Option Sid → Incoming → Peer → Type 0
IsOrderlyOrFixed remote i p = IsOrderlyFrom remote p ⊎ IsOrderlyFrom (option_or remote (Some (sender i))) p
