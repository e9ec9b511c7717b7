use Rattle.std.proofs.Common.{◌++◌, List, ℕ, ap, ◌∙◌}
use Rattle.std.specs.Prelude.{codes}
use Rattle.std.proofs.lemmas.List.{append-nil}
use Rattle.hmac_kit.specs.Prf.{both_streams, prf_bytes}
use Rattle.hmac_kit.specs.KeyDerivation.{master_secret}
use Rattle.hmac_kit.proofs.derivation.master.Goals as goal

pub returns : goal.returns
unfolding prf_bytes master_secret
returns c =
    c.prf_of_pieces.ensures
    ∙ ap (λ (last : List ℕ). both_streams c.args.pre.now (codes "OpenVPN master secret" ++ (c.args.client1.now ++ last)) 48) (append-nil c.args.server1.now)
