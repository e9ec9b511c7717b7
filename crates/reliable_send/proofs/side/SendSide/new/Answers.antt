use Rattle.std.proofs.Common.{◌≡◌, List, [], ◌∷◌, ◌++◌, ap, ◌∙◌}
use Rattle.reliable_send.specs.declared.pieces.KeptPiece.{KeptPiece}
use Rattle.reliable_send.specs.Sides.{Stands}
use Rattle.reliable_send.proofs.Cutting.{fresh}
use Rattle.reliable_send.proofs.Standing.{stands_begun}
use Rattle.reliable_send.proofs.side.SendSide.new.Goals as goal

pub returns : goal.returns
unfolding Stands
returns c =
    let none : c.of.result ≡ [] = c.of.ensures ∙ c.new.ensures.items in
    let piece : c.fresh.result ≡ fresh [] = c.fresh.ensures ∙ ap fresh none in
    let items : c.push.new.self.items ≡ fresh [] ∷ [] =
    c.in_ok-push.ensures.items ∙ ap (λ (ps : List KeptPiece). ps ++ c.fresh.result ∷ []) c.new-pieces.ensures.items ∙ ap (λ (p : KeptPiece). p ∷ []) piece in
    record { stands = rw items (stands_begun c.args.timeout_secs c.requires.some c.requires.most) }
