use Rattle.std.proofs.Common.{◌≡◌, length, nat_eq}
use Rattle.std.specs.List.{slice_split}
use Rattle.config_directives.specs.Arguments.{ciphers_in, policy_of}
use Rattle.config_directives.specs.internal.Ciphers.{with_more}
use Rattle.config_directives.proofs.arguments.policy_of.Given as goal

-- the ciphers so far made the policy
abbrev pub invariant-loop-name : goal.invariant-loop-name
invariant-loop-name l = with_more l.policy (ciphers_in l.rest) ≡ policy_of (ciphers_in l.names)

abbrev pub decreases-loop-name : goal.decreases-loop-name
decreases-loop-name l = length (slice_split (λ byte. nat_eq byte 58) l.rest)
