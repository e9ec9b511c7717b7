use Rattle.std.proofs.Common.{List, ℕ, ◌++◌, ap, ◌∙◌, arith}
use Rattle.socket_frames.specs.declared.frames.Frame.{Frame}
use Rattle.socket_frames.specs.Frames.{front}
use Rattle.socket_frames.proofs.Fronts.{front_spelled}
use Rattle.socket_frames.proofs.frames.write_frame.Goals as goal

pub returns-clause-again : goal.returns-clause-again
returns-clause-again c = λ read rest.
    let f : Frame = record { kind = c.args.kind; conn = c.args.conn; body = c.args.body.now } in
    ap (λ (b : List ℕ). front (b ++ rest)) c.in_ok-bytes.ensures ∙ front_spelled f rest c.requires (omega arith) read
