-- What a step of a core does to the outside, without where its bytes lie in memory.
use Rattle.std.specs.Prelude.{◌≡◌, ℕ, ◌+◌, ◌≤◌, Bool, true, false, List, [], ◌∷◌, length, Option}
use Rattle.std.specs.List.{list_any}
use Rattle.vpn_base.specs.declared.names.Cid.{Cid}
use Rattle.vpn_base.specs.declared.names.Conn.{Conn}
use Rattle.vpn_base.specs.declared.names.Role.{Role}
use Rattle.vpn_base.specs.declared.address.Addr.{Addr}
use Rattle.vpn_base.specs.declared.address.Ip4.{Ip4}
use Rattle.vpn_base.specs.Network.{Network}
use Rattle.vpn_links.specs.declared.notes.Note.{Note}
use Rattle.vpn_links.specs.declared.effects.Effect.{Effect}
use Rattle.vpn_links.specs.declared.effects.Effect.TheVariants as effects

-- one effect
pub data Action : Type 0 where
  Wire : Addr → List ℕ → Action
  EngineOpen : Conn → Role → Action
  EnginePut : Conn → List ℕ → Action
  EngineWrite : Conn → List ℕ → Action
  EngineClose : Conn → Action
  Device : List ℕ → Action
  Configure : Ip4 → ℕ → Option Ip4 → List Network → List (List ℕ) → Action
  Ask : Cid → List ℕ → Action
  Say : List ℕ → Action
  Report : Note → Action
  Stop : Action

-- what an effect that is lent does
abbrev pub action : Effect → Action
action (effects.Wire to bytes) = Wire to bytes.now
action (effects.EngineOpen conn role) = EngineOpen conn role
action (effects.EnginePut conn bytes) = EnginePut conn bytes.now
action (effects.EngineWrite conn bytes) = EngineWrite conn bytes.now
action (effects.EngineClose conn) = EngineClose conn
action (effects.Device bytes) = Device bytes.now
action (effects.Configure address len gateway routes rest) = Configure address len gateway routes.now rest.now
action (effects.Ask cid name) = Ask cid name.now
action (effects.Say bytes) = Say bytes.now
action (effects.Report note) = Report note
action effects.Stop = Stop

-- it configures nothing
abbrev pub IsPlain : Effect → Type 0
IsPlain (effects.Configure address len gateway routes rest) = ⊥
IsPlain _ = Unit {0}

-- whether it is a datagram
abbrev pub is_wire : Action → Bool
is_wire (Wire to bytes) = true
is_wire _ = false

-- whether it ends the program
abbrev pub is_stop : Action → Bool
is_stop Stop = true
is_stop _ = false

-- whether one of these ends the program
abbrev pub stops : List Action → Bool
stops actions = list_any is_stop actions

-- the bytes that it carries
abbrev pub carried_bytes : Action → List ℕ
carried_bytes (Wire to bytes) = bytes
carried_bytes (EnginePut conn bytes) = bytes
carried_bytes (EngineWrite conn bytes) = bytes
carried_bytes (Device bytes) = bytes
carried_bytes (Ask cid name) = name
carried_bytes (Say bytes) = bytes
carried_bytes _ = []

-- how many they are
abbrev pub carried : Action → ℕ
carried a = length (carried_bytes a)

-- how many bytes all of these carry
abbrev pub carried_by : List Action → ℕ
carried_by [] = 0
carried_by (a ∷ actions) = carried a + carried_by actions

-- a control datagram that waits behind all effects, and where it goes
pub record Datagram : Type 0 where
  pub to : Addr
  pub bytes : List ℕ

-- how many bytes all of these have
abbrev pub staged_bytes : List Datagram → ℕ
staged_bytes [] = 0
staged_bytes (d ∷ datagrams) = length d.bytes + staged_bytes datagrams

-- a control datagram as an effect
abbrev pub on_wire : Datagram → Action
on_wire d = Wire d.to d.bytes

-- what an outbox holds: effects, and the control datagrams that will stand behind them; for how many more of either, and how many more bytes, there is room
pub record Contents : Type 0 where
  pub effects : List Action
  pub staged : List Datagram
  pub spare_effects : ℕ
  pub spare_bytes : ℕ

-- it holds these, whatever room it has
abbrev pub Holds : Contents → List Action → List Datagram → Type 0
Holds c effects staged = (c.effects ≡ effects) × (c.staged ≡ staged)

-- it has at least the room of an outbox that was made or cleared
abbrev pub HasRoom : Contents → Type 0
HasRoom c = (4 ≤ c.spare_effects) × (4096 ≤ c.spare_bytes)
