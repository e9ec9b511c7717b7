use Rattle.std.proofs.Common.{◌≡◌, length, nat_eq}
use Rattle.std.specs.List.{slice_split}
use Rattle.key_method2.specs.Info.{first_value}
use Rattle.key_method2.proofs.info.info_value.Given as goal

-- the lines so far have another name
abbrev pub invariant-loop-line : goal.invariant-loop-line
invariant-loop-line l = first_value l.name (slice_split (λ byte. nat_eq byte 10) l.rest) ≡ first_value l.name (slice_split (λ byte. nat_eq byte 10) l.info)

abbrev pub decreases-loop-line : goal.decreases-loop-line
decreases-loop-line l = length (slice_split (λ byte. nat_eq byte 10) l.rest)
