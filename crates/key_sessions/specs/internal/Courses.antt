-- Where the slots of a run are.
use Rattle.std.specs.Prelude.{◌≡◌, ℕ, List, Option, Some, None}
use Rattle.peer_table.specs.Peer.{Peer}
use Rattle.vpn_base.specs.declared.names.Timers.{Timers}
use Rattle.key_sessions.specs.declared.runs.BareText.{BareText}
use Rattle.key_sessions.specs.declared.runs.SlotAnswer.{SlotAnswer}
use Rattle.key_sessions.specs.declared.runs.SlotAnswer.TheVariants.{Nothing, Closed}
use Rattle.key_sessions.specs.Runs.{Outcome}
use Rattle.key_sessions.specs.declared.slots.Slots.{Slots}
use Rattle.key_sessions.specs.BareTexts.{bare_stands}
use Rattle.key_sessions.specs.Slots.{IsWhole, SlotsStand}

-- the slots stand for the sessions of a peer with these timers, all texts are there, and its name is known
pub record IsAt (settings : Timers) (slots : Slots BareText) (known : Option (List ℕ)) (p : Peer) : Type 0 where
  pub stands : SlotsStand bare_stands slots p.sessions
  pub whole : IsWhole slots
  pub name : known ≡ p.name
  pub timers : p.timers ≡ settings

-- after an event the slots are where the client is, and this is the answer
pub record Comes (settings : Timers) (slots : Slots BareText) (known : Option (List ℕ)) (answer : SlotAnswer) (o : Outcome) : Type 0 where
  pub at : IsAt settings slots known o.peer
  pub answer_is : answer ≡ o.answer

-- what the text of a closed session tells
abbrev pub closing_told : Option BareText → SlotAnswer
closing_told None = Nothing
closing_told (Some text) = Closed text.conn
