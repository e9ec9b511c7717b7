-- One key session's control link: everything that was sent and taken on it.
use Rattle.std.specs.Prelude.{◌≡◌, ℕ, Bool, false, List, map}
use Rattle.vpn_base.specs.declared.names.Conn.{Conn}
use Rattle.opcode_codec.specs.declared.opcodes.Opcode.{Opcode}
use Rattle.opcode_codec.specs.declared.opcodes.Opcode.TheVariants.{SoftReset, ClientReset, ServerReset}
use Rattle.reliable_send.specs.Sending.{Offered, Sending, begun}
use Rattle.reliable_send.specs.Sides.{Side, Stands}
use Rattle.reliable_recv.specs.Receiving as recv
use Rattle.reliable_recv.specs.Sides as recv_sides

-- its engine connection, key id and reset, what was offered and sent, what was taken and read, and whether the wrap ids ended on it
pub record Link : Type 0 where
  pub conn : Conn
  pub kid : ℕ
  pub first : Opcode
  pub sending : Sending
  pub receiving : recv.Receiving
  pub spent : Bool

-- nothing was sent or taken yet
abbrev pub link_begun : Conn → ℕ → Opcode → ℕ → Link
link_begun conn kid first timeout = record { conn = conn; kid = kid; first = first; sending = begun timeout; receiving = recv.begun; spent = false }

-- what is kept of a link, and in its sides how much more there is room for
pub record KeptLink : Type 0 where
  pub conn : Conn
  pub kid : ℕ
  pub first : Opcode
  pub sending : Side
  pub receiving : recv_sides.Side
  pub spent : Bool

-- an opcode that begins a key session
abbrev pub IsReset : Opcode → Type 0
IsReset SoftReset = Unit {0}
IsReset ClientReset = Unit {0}
IsReset ServerReset = Unit {0}
IsReset _ = ⊥

-- both sides stand for what was sent and taken
pub record IsLinkOf (k : KeptLink) (l : Link) : Type 0 where
  pub conn : k.conn ≡ l.conn
  pub kid : k.kid ≡ l.kid
  pub first : k.first ≡ l.first
  pub sending : Stands k.sending l.sending
  pub receiving : recv_sides.Stands k.receiving l.receiving
  pub spent : k.spent ≡ l.spent

-- the same as one word, which callers do not look into
unfoldable pub LinkStands : KeptLink → Link → Type 0
LinkStands k l = IsLinkOf k l

-- the payloads of a link that were read, in order, that of packet 0 included
abbrev pub read_of : Link → List (List ℕ)
read_of l = recv.in_order l.receiving.read l.receiving.taken 0

-- the pieces that were offered on it, piece 0 included
abbrev pub written_of : Link → List (List ℕ)
written_of l = map (λ (p : Offered). p.bytes) l.sending.pieces

-- ---- a link that is to come

-- the sides of a blank link
pub record Blank : Type 0 where
  pub sending : Side
  pub receiving : recv_sides.Side

-- they stand for nothing sent or taken, with so many seconds from the first sending of a piece to the next
pub record IsBlankOf (b : Blank) (timeout : ℕ) : Type 0 where
  pub sending : Stands b.sending (begun timeout)
  pub receiving : recv_sides.Stands b.receiving recv.begun

-- the same as one word, which callers do not look into
unfoldable pub BlankStands : Blank → ℕ → Type 0
BlankStands b timeout = IsBlankOf b timeout
