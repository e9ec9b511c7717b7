use Rattle.std.proofs.Common.{◌≡◌, drop}
use Rattle.push_options.specs.Parts.{opening, with_options}
use Rattle.push_options.proofs.parts.whole.Given as goal

-- the options so far stand in the part
abbrev pub invariant-loop-option : goal.invariant-loop-option
invariant-loop-option l = with_options l.part.items (drop l.option-index l.options) ≡ with_options opening l.options
