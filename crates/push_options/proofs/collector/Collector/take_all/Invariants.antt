use Rattle.std.proofs.Common.{◌≡◌, length, nat_eq, false}
use Rattle.std.specs.List.{slice_split}
use Rattle.push_options.specs.Collecting.{is_continued, with_all}
use Rattle.push_options.proofs.collector.Collector.take_all.Given as goal

-- what is left to take says with what was taken what all options say
abbrev pub invariant-options : goal.invariant-options
invariant-options l = record {
  same : with_all l.ours l.fn.self (slice_split (λ c. nat_eq c 44) l.options) ≡ with_all l.ours l.self (slice_split (λ c. nat_eq c 44) l.rest);
  mark : is_continued l.ours false (slice_split (λ c. nat_eq c 44) l.options) ≡ is_continued l.ours l.more (slice_split (λ c. nat_eq c 44) l.rest);
}

abbrev pub decreases-options : goal.decreases-options
decreases-options l = length (slice_split (λ c. nat_eq c 44) l.rest)
