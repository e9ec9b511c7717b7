-- How far a step has come, and the few things that all its cases do.
use Rattle.std.specs.Prelude.{ℕ, suc, ◌+◌, ◌-◌, ◌^◌, min, List, [], ◌∷◌, ◌++◌, map}
use Rattle.vpn_base.specs.declared.address.Addr.{Addr}
use Rattle.vpn_links.specs.Actions.{Action, Datagram, Report, on_wire}
use Rattle.vpn_links.specs.declared.notes.Note.{Note}
use Rattle.peer_table.specs.Places.{changed_at}
use Rattle.peer_table.specs.Outboxes.{actions_of}
use Rattle.peer_table.specs.Peer.{Doing, Opens, Outcome}
use Rattle.server_table.specs.Table.{Client, Table}

-- a control datagram, with the number of the client that it goes to
pub record Staged : Type 0 where
  pub number : ℕ
  pub datagram : Datagram

-- how far a step has come: the table, the effects so far, and the control datagrams that will stand behind all effects
pub record Course : Type 0 where
  pub table : Table
  pub effects : List Action
  pub staged : List Staged

-- one effect more
abbrev pub did : Action → Course → Course
did action c = record c { effects = c.effects ++ action ∷ [] }

-- these effects more
abbrev pub did_all : List Action → Course → Course
did_all actions c = record c { effects = c.effects ++ actions }

-- one note more
abbrev pub reported : Note → Course → Course
reported note c = did (Report note) c

-- the client of a number is changed
abbrev pub with_client : ℕ → (Client → Client) → Table → Table
with_client n change t = record t { clients = changed_at n change t.clients }

-- the same in a course
abbrev pub client_changed : ℕ → (Client → Client) → Course → Course
client_changed n change c = record c { table = with_client n change c.table }

-- all that a step did: its effects, and the control datagrams behind them
abbrev pub outs : Course → List Action
outs c = c.effects ++ map (λ (s : Staged). on_wire s.datagram) c.staged

-- a count of bytes that stays at the greatest u64
abbrev pub counted : ℕ → ℕ → ℕ
counted count more = min (count + more) (2 ^ 64 - 1)

-- ---- what a client's session did

-- how many connections it opened
abbrev pub opened_by : List Doing → ℕ
opened_by [] = 0
opened_by (Opens conn ∷ doings) = suc (opened_by doings)
opened_by (doing ∷ doings) = opened_by doings

-- its control datagrams, to the client's address
abbrev pub staged_to : ℕ → Addr → List (List ℕ) → List Staged
staged_to n to datagrams = map (λ bytes. record { number = n; datagram = record { to = to; bytes = bytes } }) datagrams

-- the session of the client of this number, at this address, has made a call
abbrev pub acted : {A : Type 0} → ℕ → Addr → Outcome A → Course → Course
acted n to o c = record {
  table = record (with_client n (λ x. record x { session = o.peer }) c.table) { connections = c.table.connections + opened_by o.doings };
  effects = c.effects ++ actions_of o.peer.role o.doings;
  staged = c.staged ++ staged_to n to o.datagrams;
}
