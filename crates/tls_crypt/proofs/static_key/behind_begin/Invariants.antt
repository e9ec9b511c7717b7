use Rattle.std.proofs.Common.{◌≡◌, ◌+◌, ◌≤◌, length}
use Rattle.tls_crypt.specs.StaticKey.{from_begin, key_lines, static_key}
use Rattle.tls_crypt.proofs.static_key.behind_begin.Given as goal

-- the lines so far are no begin line
abbrev pub invariant-lines : goal.invariant-lines
invariant-lines l = (static_key l.fn.text ≡ from_begin l.number (key_lines l.rest)) × (l.number + length l.rest ≤ 65536)

abbrev pub decreases-lines : goal.decreases-lines
decreases-lines l = length l.rest
