use Rattle.std.proofs.Common.{◌≡◌, ℕ, List, [], ◌++◌, ◌+◌, None, take, append-nil, ap, sym, subst, ◌∙◌}
use Rattle.std.proofs.lemmas.List.{take_more}
use Rattle.std.proofs.lemmas.List.Folds.{concat-append}
use Rattle.std.specs.List.{concat}
use Rattle.socket_frames.specs.declared.frames.Frame.{Frame}
use Rattle.socket_frames.specs.internal.Search.{IsRead}
use Rattle.socket_frames.proofs.Readings.{read_begun}
use Rattle.socket_frames.proofs.reader.read_frames.Goals as goal

pub loop-piece-init : goal.loop-piece-init
loop-piece-init c = subst (λ (given : List Frame). IsRead c.new-reader.result [] given None) (sym c.new-frames.ensures.items) (read_begun c.new-reader.result c.new-reader.ensures)

pub loop-piece-preserved : goal.loop-piece-preserved
loop-piece-preserved c =
    let pieces = c.args.pieces.now in
    let i = c.loop-piece.piece-index in
    let piece = c.as_slice.result.now in
    let grown : concat (take (i + 1) pieces) ≡ concat (take i pieces) ++ piece =
    ap concat (take_more pieces i c.piece-item.result c.loop-piece-test.true)
    ∙ concat-append (take i pieces) _
    ∙ ap (λ (last : List ℕ). concat (take i pieces) ++ last) (append-nil _ ∙ sym c.piece-item.is ∙ sym c.as_slice.ensures) in
    subst (λ (fed : List ℕ). IsRead c.take_whole.new.reader fed c.take_whole.new.frames.items c.in_ok-fault.fault) (sym grown)
    (c.in_ok-fault.ensures _ (c.in_ok-feed.ensures.ok (record { fed = concat (take i pieces); given = c.loop-piece.frames.items }) c.loop-piece.invariant.stands))
