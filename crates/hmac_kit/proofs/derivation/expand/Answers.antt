use Rattle.std.proofs.Common.{◌≡◌, ◌++◌, List, [], ℕ, ap, ◌∙◌, append_assoc}
use Rattle.std.specs.Prelude.{codes}
use Rattle.std.proofs.lemmas.List.{append-nil}
use Rattle.hmac_kit.specs.Prf.{both_streams, prf_bytes}
use Rattle.hmac_kit.specs.KeyDerivation.{key_block}
use Rattle.hmac_kit.proofs.derivation.expand.Goals as goal

-- five pieces put together from the right, or from the left
regroup : (a b c d : List ℕ) → a ++ (b ++ (c ++ (d ++ []))) ≡ ((a ++ b) ++ c) ++ d
regroup a b c d = simp (append_assoc, append-nil)

pub returns : goal.returns
unfolding prf_bytes key_block
returns c =
    c.prf_of_pieces.ensures
    ∙ ap (λ (seed : List ℕ). both_streams c.args.master.now (codes "OpenVPN key expansion" ++ seed) 256)
    (regroup c.args.client2.now c.args.server2.now c.args.client_sid c.args.server_sid)
