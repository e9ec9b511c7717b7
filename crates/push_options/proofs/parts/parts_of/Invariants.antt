use Rattle.std.proofs.Common.{◌≡◌, ◌++◌, drop}
use Rattle.push_options.specs.Parts.{opening, parts_from}
use Rattle.push_options.proofs.parts.parts_of.Given as goal

-- the options so far stand in the parts
abbrev pub invariant-loop-option : goal.invariant-loop-option
invariant-loop-option l = l.parts.done ++ parts_from l.parts.part (drop l.option-index l.options) ≡ parts_from opening l.options
