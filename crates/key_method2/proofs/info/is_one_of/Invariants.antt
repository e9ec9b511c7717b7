use Rattle.std.proofs.Common.{◌≡◌, length, nat_eq}
use Rattle.std.specs.List.{slice_split}
use Rattle.key_method2.specs.Info.{is_named}
use Rattle.key_method2.proofs.info.is_one_of.Given as goal

-- the names so far are others
abbrev pub invariant-loop-piece : goal.invariant-loop-piece
invariant-loop-piece l = is_named l.name l.rest ≡ is_named l.name l.names

abbrev pub decreases-loop-piece : goal.decreases-loop-piece
decreases-loop-piece l = length (slice_split (λ byte. nat_eq byte 58) l.rest)
