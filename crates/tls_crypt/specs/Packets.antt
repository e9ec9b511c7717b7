-- What holds of a way of wrapping control packets: where the header stands, how long a datagram is, and that no
-- two packets wrap to one.
use Rattle.std.specs.Prelude.{◌≡◌, ℕ, ◌+◌, ◌<◌, ◌^◌, List, length, take}
use Rattle.tls_crypt.specs.Wrapped.{Keys, header}

-- what wraps: a first byte, a session id, a wrap id, a time and a plain text to a datagram
abbrev pub Wrapping : Type 0
Wrapping = ℕ → List ℕ → ℕ → ℕ → List ℕ → List ℕ

-- the keys with which an end wraps, and those with which it unwraps
pub record Directions : Type 0 where
  pub writes : Keys
  pub reads : Keys

-- a control packet in its parts
pub record Packet : Type 0 where
  pub first : ℕ
  pub sid : List ℕ
  pub id : ℕ
  pub time : ℕ
  pub plain : List ℕ

-- the session id has 8 bytes, and the wrap id and the time fit 32 bits
pub record InRange (p : Packet) : Type 0 where
  pub sid : length p.sid ≡ 8
  pub id : p.id < 2 ^ 32
  pub time : p.time < 2 ^ 32

-- the datagram that a packet is wrapped to
abbrev pub wrapped_by : Wrapping → Packet → List ℕ
wrapped_by wraps p = wraps p.first p.sid p.id p.time p.plain

-- a datagram begins with its header, and has 32 bytes more than the header and the plain text
abbrev pub IsFramed : Wrapping → Type 0
IsFramed wraps =
    (first : ℕ) (sid : List ℕ) (id time : ℕ) (plain : List ℕ)
    → (take (9 + length sid) (wraps first sid id time plain) ≡ header first sid id time)
    × (length (wraps first sid id time plain) ≡ 41 + length sid + length plain)

-- no two packets wrap to one datagram
abbrev pub IsOneToOne : Wrapping → Type 0
IsOneToOne wraps = (p q : Packet) → InRange p → InRange q → wrapped_by wraps p ≡ wrapped_by wraps q → p ≡ q

-- no packet wraps to the datagram
abbrev pub IsWrappedByNone : Wrapping → List ℕ → Type 0
IsWrappedByNone wraps bytes =
    (first : ℕ) (sid : List ℕ) (id time : ℕ) (plain : List ℕ) → length sid ≡ 8 → ¬ (bytes ≡ wraps first sid id time plain)
