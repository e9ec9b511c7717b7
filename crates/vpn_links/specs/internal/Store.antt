-- How an outbox keeps its effects: their bytes lie one behind the other in one store.
use Rattle.std.specs.Prelude.{ℕ, ◌+◌, ◌≤◌, min, List, [], ◌∷◌, length, take, drop}
use Rattle.std.specs.List.{AllByRecursion}
use Rattle.vpn_links.specs.declared.store.Span.{Span}
use Rattle.vpn_links.specs.declared.store.Kept.{Kept}
use Rattle.vpn_links.specs.declared.store.Kept.TheVariants as kept
use Rattle.vpn_links.specs.declared.store.Staged.{Staged}
use Rattle.vpn_links.specs.Actions.{Action, Wire, EngineOpen, EnginePut, EngineWrite, EngineClose, Device, Configure, Ask, Say, Report, Stop, Datagram}

-- the bytes at a place in the store
unfoldable pub part : List ℕ → Span → List ℕ
part store span = take span.len (drop span.start store)

-- what is kept, with its bytes
abbrev pub kept_action : List ℕ → Kept → Action
kept_action store (kept.Wire to span) = Wire to (part store span)
kept_action store (kept.EngineOpen conn role) = EngineOpen conn role
kept_action store (kept.EnginePut conn span) = EnginePut conn (part store span)
kept_action store (kept.EngineWrite conn span) = EngineWrite conn (part store span)
kept_action store (kept.EngineClose conn) = EngineClose conn
kept_action store (kept.Device span) = Device (part store span)
kept_action store (kept.Configure s) = Configure s.address s.len s.gateway s.routes s.rest
kept_action store (kept.Ask cid span) = Ask cid (part store span)
kept_action store (kept.Say span) = Say (part store span)
kept_action store (kept.Report note) = Report note
kept_action store kept.Stop = Stop

-- a staged control datagram, with its bytes
abbrev pub staged_datagram : List ℕ → Staged → Datagram
staged_datagram store s = record { to = s.to; bytes = part store s.span }

-- a place lies within so many bytes
abbrev pub IsWithin : ℕ → Span → Type 0
IsWithin size span = span.start + span.len ≤ size

-- the place of what is kept does, if it has one
abbrev pub IsKeptWithin : ℕ → Kept → Type 0
IsKeptWithin size (kept.Wire to span) = IsWithin size span
IsKeptWithin size (kept.EnginePut conn span) = IsWithin size span
IsKeptWithin size (kept.EngineWrite conn span) = IsWithin size span
IsKeptWithin size (kept.Device span) = IsWithin size span
IsKeptWithin size (kept.Ask cid span) = IsWithin size span
IsKeptWithin size (kept.Say span) = IsWithin size span
IsKeptWithin size _ = Unit {0}

-- the place of a staged datagram does
abbrev pub IsStagedWithin : ℕ → Staged → Type 0
IsStagedWithin size s = IsWithin size s.span

-- a control datagram kept as an effect
abbrev pub kept_datagram : Staged → Kept
kept_datagram s = kept.Wire s.to s.span

-- how many bytes of the store are of this effect
abbrev pub own : Kept → ℕ
own (kept.Wire to span) = span.len
own (kept.EnginePut conn span) = span.len
own (kept.EngineWrite conn span) = span.len
own (kept.Device span) = span.len
own (kept.Ask cid span) = span.len
own (kept.Say span) = span.len
own _ = 0

-- how many are of these effects
abbrev pub own_all : List Kept → ℕ
own_all [] = 0
own_all (k ∷ kept) = own k + own_all kept

-- how many are of these datagrams
abbrev pub own_staged : List Staged → ℕ
own_staged [] = 0
own_staged (s ∷ staged) = s.span.len + own_staged staged

-- what holds of every outbox: all places lie within the store and have bytes of their own, and there is room for the staged datagrams behind the effects
pub record IsSound (effects : List Kept) (staged : List Staged) (size effects_room staged_room bytes_room : ℕ) : Type 0 where
  pub effects_within : AllByRecursion (IsKeptWithin size) effects
  pub staged_within : AllByRecursion (IsStagedWithin size) staged
  pub apart : own_all effects + own_staged staged ≤ size
  pub room : length effects + length staged ≤ min effects_room staged_room
  pub least_effects : 4 ≤ min effects_room staged_room
  pub least_bytes : 4096 ≤ bytes_room
