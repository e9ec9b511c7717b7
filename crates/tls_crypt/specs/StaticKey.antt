-- The text of a static key (OpenVPN 2.6, src/openvpn/crypto.c, write_key_file and read_key_file).
use Rattle.std.specs.Prelude.{ℕ, zero, suc, ◌+◌, List, [], ◌∷◌, ◌++◌, map, codes, Option, Some, None, Result, Ok, Err, if◌then◌else◌}
use Rattle.std.specs.Str.{bytes_eq}
use Rattle.std.specs.Result.{result_ok}
use Rattle.vpn_base.specs.Lines.{lines_of, content}
use Rattle.hex.specs.Hex.{decode_sized}
use Rattle.tls_crypt.specs.declared.static_key.KeyFault.{KeyFault}
use Rattle.tls_crypt.specs.declared.static_key.KeyKind.TheVariants.{NoBegin, Digits, NoEnd}

-- the line in front of the digits
unfoldable pub begin_line : List ℕ
begin_line = codes "-----BEGIN OpenVPN Static key V1-----"

-- the line behind the digits
unfoldable pub end_line : List ℕ
end_line = codes "-----END OpenVPN Static key V1-----"

-- the lines of a text, without their ends: a line feed, or a carriage return and a line feed
unfoldable pub key_lines : List ℕ → List (List ℕ)
key_lines text = map content (lines_of text)

-- the 16 bytes that a line of 32 hexadecimal digits spells
unfoldable pub digits_of : List ℕ → Option (List ℕ)
digits_of line = result_ok (decode_sized line 16)

-- bytes in front of those of what follows
abbrev pub behind : List ℕ → Result (List ℕ) KeyFault → Result (List ℕ) KeyFault
behind bytes (Ok more) = Ok (bytes ++ more)
behind bytes (Err fault) = Err fault

-- the bytes of a line of digits in front of those of what follows, or the fault that this line is none
abbrev pub with_digits : ℕ → Option (List ℕ) → Result (List ℕ) KeyFault → Result (List ℕ) KeyFault
with_digits line (Some bytes) rest = behind bytes rest
with_digits line None rest = Err (record { line = line; kind = Digits })

-- the bytes of so many lines of digits, behind which the end line stands; `before` lines stand in front
unfoldable pub body : ℕ → ℕ → List (List ℕ) → Result (List ℕ) KeyFault
body zero before [] = Err (record { line = before + 1; kind = NoEnd })
body zero before (line ∷ rest) =
    if bytes_eq line end_line then Ok [] else Err (record { line = before + 1; kind = NoEnd })
body (suc count) before [] = Err (record { line = before + 1; kind = Digits })
body (suc count) before (line ∷ rest) = with_digits (before + 1) (digits_of line) (body count (before + 1) rest)

-- the bytes behind the first begin line; `before` lines stand in front, and the last of all is the
-- fault's line where there is none
unfoldable pub from_begin : ℕ → List (List ℕ) → Result (List ℕ) KeyFault
from_begin before [] = Err (record { line = before; kind = NoBegin })
from_begin before (line ∷ rest) =
    if bytes_eq line begin_line then body 16 (before + 1) rest else from_begin (before + 1) rest

-- the 256 bytes of the key that a text holds, or its first fault; lines are counted from 1
unfoldable pub static_key : List ℕ → Result (List ℕ) KeyFault
static_key text = from_begin 0 (key_lines text)
