use Rattle.std.proofs.Common.{◌≡◌, ◌++◌, drop}
use Rattle.vpn_text.specs.Quoted.{escaped}
use Rattle.vpn_text.proofs.quoting.add_escaped.Given as goal

-- what is left to add is the rest of the word
abbrev pub invariant-loop-byte : goal.invariant-loop-byte
invariant-loop-byte l = l.out.items ++ escaped (drop l.byte-index l.word) ≡ l.fn.out.items ++ escaped l.word
