use Rattle.std.proofs.Common.{◌≡◌, ◌+◌, ◌-◌, ◌*◌, length, take}
use Rattle.tls_crypt.specs.StaticKey.{behind, body, key_lines}
use Rattle.tls_crypt.proofs.static_key.key_behind.Given as goal

-- the lines so far are digits, which spell the front of the key
abbrev pub invariant-lines : goal.invariant-lines
invariant-lines l =
    (body 16 l.fn.begin (key_lines l.fn.text) ≡ behind (take (16 * l.k) l.key) (body (16 - l.k) (l.fn.begin + l.k) (key_lines l.rest)))
    × (length l.key ≡ 256)
