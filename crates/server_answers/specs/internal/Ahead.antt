-- What is taken ahead of a client's step.
use Rattle.std.specs.Prelude.{◌≡◌, ◌≤◌, ◌<◌, ℕ, true, List, length, Option, Some, None, is_some}
use Rattle.vpn_links.specs.Actions.{Action, Contents}
use Rattle.vpn_links.specs.declared.events.Kind.{Kind}
use Rattle.vpn_links.specs.declared.events.Kind.TheVariants.{EngineUp}
use Rattle.ccd_files.specs.declared.client_file.Ccd.{Ccd}
use Rattle.client_table.specs.Changes.{place_of}
use Rattle.client_table.specs.Tables.{entries_of}
use Rattle.peer_table.specs.EngineAnswers.{kept_name}
use Rattle.peer_table.specs.Exchange.{cipher_of}
use Rattle.peer_table.specs.Peer.{Peer}
use Rattle.peer_table.specs.Unnamed.{NameComesFirst}
use Rattle.server_table.specs.Courses.{Course}
use Rattle.server_table.specs.Establishing.{ccd_in}
use Rattle.server_table.specs.Table.{Client, Table}
use Rattle.server_state.specs.declared.state.ServerCore.{ServerCore}
use Rattle.server_state.specs.Core.{CourseStands, IsSoundAhead, StaysTold}
use Rattle.server_establishing.specs.declared.ahead.Ahead.{Ahead}
use Rattle.server_establishing.specs.declared.asking.Prepared.{Prepared}
use Rattle.server_establishing.specs.declared.asking.Prepared.TheVariants.{Again, New, Nothing}
use Rattle.server_establishing.specs.Ahead.{IsEstablishedWith, IsMadeFor}

-- another core stands for the same, before anything is done for an event
pub record StaysSame {S : Type 0} (means : S → Peer → Type 0) (goes_on : S → Type 0) (count since : S → ℕ) (core next : ServerCore S) : Type 0 where
  pub same : (before : List Action) (out : Contents) (c : Course) → CourseStands means before core out c → CourseStands means before next out c
  pub ahead : IsSoundAhead goes_on count since core → IsSoundAhead goes_on count since next
  pub told : StaysTold since core next
  pub events : next.events ≡ core.events
  pub turn : next.turn ≡ core.turn
  pub mark : next.mark ≡ core.mark

-- the client whose turn it is stands at this place
pub record IsTurnAt {S : Type 0} (core : ServerCore S) (i : ℕ) : Type 0 where
  pub place : place_of core.turn.0 (entries_of core.clients) ≡ Some i
  pub within : i < length (entries_of core.clients)

-- the name that an answer of the engine gives, as it is kept
abbrev pub GivenAhead : Kind → List ℕ → Type 0
GivenAhead (EngineUp conn name) ahead = ahead ≡ kept_name name
GivenAhead kind ahead = ⊥

-- the name that a client has behind an answer of the engine: its own, or, where it has none, and no keys, the one that it is given
abbrev pub NameAhead : Kind → List ℕ → Peer → Option (List ℕ) → Type 0
NameAhead kind ahead p (Some name) = name ≡ ahead
NameAhead kind ahead p None = GivenAhead kind ahead × (cipher_of p ≡ None)

-- an answer of the engine gives no name
abbrev pub GivesNone : Kind → Type 0
GivesNone (EngineUp conn name) = ⊥
GivesNone kind = Unit {0}

-- what an answer of the engine gives: a name, as it is kept, or none
abbrev pub GivesName : Kind → Option (List ℕ) → Type 0
GivesName kind (Some ahead) = GivenAhead kind ahead
GivesName kind None = GivesNone kind

-- a client has no name behind an answer of the engine: its own is not known, so that its key sessions are all in their first stage, and it is given none
pub record IsNameless (kind : Kind) (p : Peer) : Type 0 where
  pub unknown : p.name ≡ None
  pub none : GivesNone kind
  pub first : NameComesFirst p

-- the name that a client has behind an answer of the engine, or that it has none
abbrev pub NameFound : Kind → Peer → Option (List ℕ) → Type 0
NameFound kind p (Some ahead) = NameAhead kind ahead p p.name
NameFound kind p None = IsNameless kind p

-- a name that is known has no more bytes than these, and one that may be given has at most 64
abbrev pub LongestFits : Option (List ℕ) → ℕ → Type 0
LongestFits None longest = 64 ≤ longest
LongestFits (Some name) longest = length name ≤ longest

-- this was made ahead for a client with this name and this file
abbrev pub IsMadeAs : Course → ℕ → List ℕ → Ccd → Prepared → Type 0
IsMadeAs c n name file (New ahead) = IsMadeFor c n name file ahead
IsMadeAs c n name file p = ⊥

-- this is the reply that an established client got
abbrev pub IsAgain : Table → Client → Prepared → Type 0
IsAgain t x (Again replies) = IsEstablishedWith t x (Some replies)
IsAgain t x p = ⊥

-- a client is not established, and this was made ahead for it as it is behind an answer of the engine
pub record IsReadiedNew (kind : Kind) (c : Course) (n : ℕ) (x : Client) (ahead : Ahead) : Type 0 where
  pub not_yet : x.established ≡ None
  pub name : NameAhead kind ahead.name x.session x.session.name
  pub file : ccd_in x.file ≡ ahead.file
  pub made : IsMadeFor c n ahead.name ahead.file ahead

-- this is prepared for a client that an answer of the engine is for; one that is established has a name, and for one that has none nothing is
abbrev pub IsReadied : Kind → Course → ℕ → Client → Prepared → Type 0
IsReadied kind c n x (New ahead) = IsReadiedNew kind c n x ahead
IsReadied kind c n x (Again replies) = IsEstablishedWith c.table x (Some replies) × (is_some x.session.name ≡ true)
IsReadied kind c n x Nothing = IsNameless kind x.session
