-- What is left to do of a step, behind an answer of the engine or a key exchange.
use Rattle.std.specs.Prelude.{◌≡◌, ℕ, Bool, true, false, List}
use Rattle.vpn_base.specs.declared.names.Draw.{Draw}
use Rattle.vpn_links.specs.Actions.{Action, Contents}
use Rattle.peer_table.specs.declared.outcomes.Turn.{Turn}
use Rattle.peer_table.specs.declared.outcomes.Turn.TheVariants as turns
use Rattle.peer_table.specs.Peer.{Peer}
use Rattle.peer_table.specs.Exchange.{cipher_of, exchanged}
use Rattle.peer_table.specs.Peer.{Outcome}
use Rattle.server_table.specs.Courses.{Course, acted}
use Rattle.server_table.specs.Endings.{turned}
use Rattle.server_table.specs.Exchange.{exchange, exchange_made, policy_with}
use Rattle.server_table.specs.Table.{Client}
use Rattle.server_state.specs.declared.state.ServerCore.{ServerCore}
use Rattle.server_state.specs.Core.{CourseStands}
use Rattle.server_engine.specs.Files.{NameFits}

-- a core stands for how far a step has come, and what is left leads to its end
pub record IsLeft {S : Type 0} (means : S → Peer → Type 0) (before : List Action) (core : ServerCore S) (out : Contents) (rest : Course → Course) (done : Course) : Type 0 where
  pub so_far : Course
  pub stands : CourseStands means before core out so_far
  pub leads : done ≡ rest so_far

-- where a file may be asked for after this turn, the name that a call has left is known and has no more bytes than these
abbrev pub NameFitsFor : ℕ → Peer → Turn → Type 0
NameFitsFor longest p turns.Named = NameFits longest p.name
NameFitsFor longest p turns.Exchange = NameFits longest p.name
NameFitsFor longest p turn = Unit {0}

-- the client has made its key exchange, behind which more is done, or it makes none
abbrev pub HasBegun : {S : Type 0} → (S → Peer → Type 0) → List Action → ServerCore S → Contents → Draw → ℕ → Course → Bool → Type 0
HasBegun means before core out draw n c true = IsLeft means before core out (exchange_made n) (exchange draw n c)
HasBegun means before core out draw n c false = CourseStands means before core out (exchange draw n c)

-- the key exchange of a client, by the cipher that its keys have
abbrev pub exchange_of : Draw → Client → Course → Outcome Turn
exchange_of draw x c = exchanged (policy_with c.table.settings.ciphers (cipher_of x.session)) x.peer_id draw x.session

-- the client has made it, or it has ended the client
abbrev pub keys_exchanged : Draw → ℕ → Client → Course → Course
keys_exchanged draw n x c = turned n (exchange_of draw x c).answer (acted n x.address (exchange_of draw x c) c)

-- the client has made its key exchange, behind which it is finished, or it makes none
abbrev pub HasMade : {S : Type 0} → (S → Peer → Type 0) → List Action → ServerCore S → Contents → Draw → ℕ → Client → Course → Bool → Type 0
HasMade means before core out draw n x c true =
    CourseStands means before core out (keys_exchanged draw n x c) × (exchange draw n c ≡ exchange_made n (keys_exchanged draw n x c))
HasMade means before core out draw n x c false = CourseStands means before core out c × (exchange draw n c ≡ c)
