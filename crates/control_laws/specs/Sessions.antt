-- The key sessions of all clients that were ever admitted, and what they took.
use Rattle.std.specs.Prelude.{◌≡◌, ℕ, List, [], ◌++◌, Option, Some, None, slice_get}
use Rattle.reliable_recv.specs.Receiving.{Arrival}
use Rattle.peer_table.specs.KeySessions.{Session}
use Rattle.server_table.specs.Table.{Client, Table}

-- the key session of a number of a client
abbrev pub session_in : ℕ → Option Client → Option Session
session_in k None = None
session_in k (Some x) = slice_get x.session.sessions k

-- key session k of client n
unfoldable pub session_of : Table → ℕ → ℕ → Option Session
session_of t n k = session_in k (slice_get t.clients n)

-- what a key session took, in order: nothing, where there is none yet
abbrev pub taken_in : Option Session → List Arrival
taken_in None = []
taken_in (Some s) = s.link.receiving.taken

-- A key session is there still: it has its connection and its key id, and what it took stands in front of what it has taken since.
pub record IsStillIn (t : Table) (n k : ℕ) (s : Session) : Type 0 where
  pub later : Session
  pub there : session_of t n k ≡ Some later
  pub conn : later.link.conn.0 ≡ s.link.conn.0
  pub kid : later.link.kid ≡ s.link.kid
  pub more : List Arrival
  pub taken : later.link.receiving.taken ≡ s.link.receiving.taken ++ more

-- a key session has this connection
pub record IsOn (t : Table) (conn : ℕ) : Type 0 where
  pub client : ℕ
  pub number : ℕ
  pub session : Session
  pub there : session_of t client number ≡ Some session
  pub on : session.link.conn.0 ≡ conn
