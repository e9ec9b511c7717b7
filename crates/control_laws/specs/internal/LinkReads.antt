-- What a control link says of reading what it takes.
use Rattle.std.specs.Prelude.{◌≡◌, ◌++◌, ℕ}
use Rattle.std.specs.List.{concat}
use Rattle.vpn_base.specs.declared.names.Conn.{Conn}
use Rattle.vpn_base.specs.declared.names.Sid.{Sid}
use Rattle.opcode_codec.specs.ControlText.{ControlForm}
use Rattle.opcode_codec.specs.declared.opcodes.Opcode.{Opcode}
use Rattle.reliable_recv.specs.Receiving.{text}
use Rattle.control_link.specs.Calls.{received}
use Rattle.control_link.specs.Envelope.{EnvelopeHistory}
use Rattle.control_link.specs.Links.{Link, link_begun}
use Rattle.control_link.specs.Reading.{NothingWaits, read_here, taken_with, text_read_of, texts_here}

-- a link of which nothing waits has read the text of what it took; once a packet came and what is in order was read, the text has grown by exactly what was given
pub record LinkReads : Type 0 where
  pub begun : (conn : Conn) (kid : ℕ) (first : Opcode) (timeout : ℕ) → NothingWaits (link_begun conn kid first timeout)
  pub whole : (l : Link) → NothingWaits l → text_read_of l ≡ text l.receiving.taken
  pub given : (l : Link) (h : EnvelopeHistory) (v : ControlForm) (remote : Sid) (now : ℕ) → NothingWaits l →
      text_read_of (read_here 12 (received l h v remote now).link) ≡ text_read_of l ++ concat (texts_here 12 (received l h v remote now).link)
  pub taken : (l : Link) (h : EnvelopeHistory) (v : ControlForm) (remote : Sid) (now : ℕ) → NothingWaits l →
      (read_here 12 (received l h v remote now).link).receiving.taken ≡ taken_with l.receiving.taken v.id v.payload
  pub again : (l : Link) (h : EnvelopeHistory) (v : ControlForm) (remote : Sid) (now : ℕ) → NothingWaits l →
      NothingWaits (read_here 12 (received l h v remote now).link)
