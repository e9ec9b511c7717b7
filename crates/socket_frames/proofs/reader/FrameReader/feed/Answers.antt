use Rattle.std.proofs.Common.{◌≡◌, List, ℕ, ◌++◌, drop, ap, sym, subst, ◌∙◌}
use Rattle.socket_frames.specs.Streams.{Leaves, Stands}
use Rattle.socket_frames.proofs.Readings.{leaves_more}
use Rattle.socket_frames.proofs.reader.FrameReader.feed.Goals as goal

pub returns-clause-ok : goal.returns-clause-ok
unfolding Stands
returns-clause-ok c = λ s stands.
    let piece = c.args.piece.now in
    let kept : drop c.compact.new.start c.extend_from_slice.new.self.items ≡ c.args.self.now ++ piece =
    ap (λ (n : ℕ). drop n c.extend_from_slice.new.self.items) c.in_ok-compact.ensures.ok.1
    ∙ c.in_ok-extend_from_slice.ensures.items
    ∙ ap (λ (bytes : List ℕ). bytes ++ piece) (c.in_ok-compact.ensures.ok.0 ∙ c.self.view_is) in
    subst (λ (left : List ℕ). Leaves (s.fed ++ piece) s.given left) (sym kept) (leaves_more s.fed s.given c.args.self.now piece stands)
