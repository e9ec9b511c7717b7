use Rattle.std.proofs.Common.{◌++◌, List, ℕ, length, ap, ◌∙◌}
use Rattle.std.proofs.lemmas.List.{append-nil}
use Rattle.hmac_kit.specs.Prf.{both_streams, prf_bytes}
use Rattle.hmac_kit.proofs.pseudorandom.prf.Goals as goal

pub returns : goal.returns
unfolding prf_bytes
returns c = c.prf_of_pieces.ensures ∙ ap (λ (seed : List ℕ). both_streams c.args.secret.now (c.args.label.now ++ seed) (length c.args.out.now)) (append-nil c.args.seed.now)
