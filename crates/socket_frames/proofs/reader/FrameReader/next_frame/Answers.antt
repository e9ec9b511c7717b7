use Rattle.std.proofs.Common.{◌≡◌, List, ℕ, ◌++◌, ◌∷◌, [], ◌+◌, drop, Ok, ap, sym, subst, ◌∙◌}
use Rattle.std.proofs.lemmas.List.{drop-drop}
use Rattle.socket_frames.specs.Frames.{Whole, front}
use Rattle.socket_frames.specs.Streams.{Leaves, Stands}
use Rattle.socket_frames.specs.internal.Search.{found}
use Rattle.socket_frames.proofs.Readings.{answer_to, leaves_one, next_is}
use Rattle.socket_frames.proofs.reader.FrameReader.next_frame.Goals as goal
use Rattle.socket_frames.proofs.reader.FrameReader.next_frame.Goals.{After-whole_at, In_ok-frame-in-Ok-Some}

-- what the reader keeps is what was searched
kept : (c : After-whole_at) → c.args.self.now ≡ c.behind-left.result.now
kept c = sym c.self.view_is ∙ ap (drop c.self.inside.start) (sym c.deref.ensures.value) ∙ sym c.behind-left.ensures

-- a whole frame stands there
whole : (c : In_ok-frame-in-Ok-Some) → front c.args.self.now ≡ Whole c.in_ok-frame-in-Ok-Some.frame (drop (13 + c.in-Ok-Some.size) c.behind-left.result.now)
whole c =
    ap front (sym c.self.view_is ∙ ap (drop c.self.inside.start) (sym c.deref.ensures.value) ∙ sym c.behind-left.ensures)
    ∙ c.whole_at.ensures.same
    ∙ ap (found c.behind-left.result.now) (c.in-Ok-Some.is ∙ ap Ok c.in-Ok-Some.field-0-is)
    ∙ c.in_ok-frame-in-Ok-Some.ensures

pub returns-in-Err-clause-answer : goal.returns-in-Err-clause-answer
unfolding Stands
returns-in-Err-clause-answer c = λ s stands.
    next_is s c.args.self.now stands
    ∙ ap (λ (left : List ℕ). answer_to (front left)) (kept (goal.at.returns-in-Err-clause-answer c).After-whole_at)
    ∙ ap answer_to (c.whole_at.ensures.same ∙ ap (found c.behind-left.result.now) c.in-Err.is)

pub returns-in-Ok-None-clause-answer : goal.returns-in-Ok-None-clause-answer
unfolding Stands
returns-in-Ok-None-clause-answer c = λ s stands.
    next_is s c.args.self.now stands
    ∙ ap (λ (left : List ℕ). answer_to (front left)) (kept (goal.at.returns-in-Ok-None-clause-answer c).After-whole_at)
    ∙ ap answer_to (c.whole_at.ensures.same ∙ ap (found c.behind-left.result.now) (c.in-Ok-None.is ∙ ap Ok c.in-Ok-None.field-0-is))

pub returns-in_ok-frame-in-Ok-Some-clause-answer : goal.returns-in_ok-frame-in-Ok-Some-clause-answer
unfolding Stands
returns-in_ok-frame-in-Ok-Some-clause-answer c = λ s stands. next_is s c.args.self.now stands ∙ ap answer_to (whole (goal.at.returns-in_ok-frame-in-Ok-Some-clause-answer c).In_ok-frame-in-Ok-Some)

pub returns-in_ok-frame-in-Ok-Some-clause-stands : goal.returns-in_ok-frame-in-Ok-Some-clause-stands
unfolding Stands
returns-in_ok-frame-in-Ok-Some-clause-stands c = λ s stands.
    let items = c.self.inside.bytes.items in
    let rest : drop (13 + c.in-Ok-Some.size) c.behind-left.result.now ≡ drop (c.self.inside.start + (13 + c.in-Ok-Some.size)) items =
    ap (drop (13 + c.in-Ok-Some.size)) (c.behind-left.ensures ∙ ap (drop c.self.inside.start) c.deref.ensures.value)
    ∙ drop-drop (13 + c.in-Ok-Some.size) c.self.inside.start items in
    subst (λ (left : List ℕ). Leaves s.fed (s.given ++ c.in_ok-frame-in-Ok-Some.frame ∷ []) left) rest
    (leaves_one s.fed s.given c.args.self.now c.in_ok-frame-in-Ok-Some.frame _ stands (whole (goal.at.returns-in_ok-frame-in-Ok-Some-clause-stands c).In_ok-frame-in-Ok-Some))
