-- What a datagram unwraps to, with no way back from a cipher text: a search for what wraps to it.
use Rattle.std.specs.Prelude.{◌≡◌, ◌↔◌, ℕ, ◌-◌, List, length, take, drop, slice_index, Option, Some, None, Result, Ok, Err, option_map}
use Rattle.std.specs.Int.{w32, from_be_bytes}
use Rattle.std.specs.Str.{bytes_eq}
use Rattle.byte_texts.specs.Texts.{IsBytes, text_with}
use Rattle.tls_crypt.specs.declared.header.Header.{Header}
use Rattle.tls_crypt.specs.declared.wrapping.Opened.{Opened}
use Rattle.tls_crypt.specs.declared.wrapping.Unwrap.{Unwrap}
use Rattle.tls_crypt.specs.Packets.{InRange, Packet, Wrapping, wrapped_by}

-- the packet of a plain text whose first byte, session id, wrap id and time are those that stand in the datagram's
-- first 17 bytes
abbrev pub packet_in : List ℕ → List ℕ → Packet
packet_in datagram plain = record {
  first = slice_index datagram 0;
  sid = take 8 (drop 1 datagram);
  id = from_be_bytes w32 (take 4 (drop 9 datagram));
  time = from_be_bytes w32 (take 4 (drop 13 datagram));
  plain = plain;
}

-- the one packet that wraps to the datagram, with the header that stands in it; none where there is none
unfoldable pub unwrapping : Wrapping → List ℕ → Option Packet
unwrapping wraps datagram =
    option_map (packet_in datagram)
    (text_with (λ plain. bytes_eq (wrapped_by wraps (packet_in datagram plain)) datagram) (length datagram - 49))

-- the datagram is what the packet wraps to
pub record Unwraps (wraps : Wrapping) (datagram : List ℕ) (p : Packet) : Type 0 where
  pub in_range : InRange p
  pub bytes : IsBytes p.plain
  pub is_wrapped : datagram ≡ wrapped_by wraps p

-- in a datagram of bytes the search finds the packet that wraps to it, and nothing exactly where none does
pub record FindsWhatUnwraps (wraps : Wrapping) : Type 0 where
  pub some : (datagram : List ℕ) (p : Packet) → IsBytes datagram → (unwrapping wraps datagram ≡ Some p) ↔ Unwraps wraps datagram p
  pub none : (datagram : List ℕ) → IsBytes datagram → (unwrapping wraps datagram ≡ None) ↔ ((p : Packet) → ¬ Unwraps wraps datagram p)

-- the packet of a header and a plain text
abbrev pub packet_of : Header → List ℕ → Packet
packet_of h plain = record { first = h.first; sid = h.sid.0; id = h.id; time = h.time; plain = plain }

-- what unwrapping in place found, by its answer and by the bytes that it leaves from 49 on
abbrev pub unwrapped_in_place : Result Header Unwrap → List ℕ → Option Packet
unwrapped_in_place (Ok h) plain = Some (packet_of h plain)
unwrapped_in_place (Err e) plain = None

-- what unwrapping found, by its answer
abbrev pub unwrapped_view : Result Opened Unwrap → Option Packet
unwrapped_view (Ok o) = Some (record { first = o.first; sid = o.sid.0; id = o.id; time = o.time; plain = o.plain.now })
unwrapped_view (Err e) = None
