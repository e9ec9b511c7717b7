use Rattle.std.proofs.Common.{◌≡◌, ℕ, List, drop, ap, ◌∙◌}
use Rattle.key_method2.specs.Reading.{reading}
use Rattle.peer_lines.specs.Standing.{StandsFor}
use Rattle.peer_lines.proofs.Packets.{none_before}
use Rattle.peer_lines.proofs.channels.SessionChannels.message.Goals as goal

pub returns : goal.returns
unfolding StandsFor
returns c = λ s stands none.
    let read : s.read ≡ 0 = (none_before c.args.self.now.window c.args.self.now.packets.items s none stands.packets).1 in
    c.read_km2_view.ensures.exact
    ∙ ap (λ (t : List ℕ). reading c.args.from t) (c.deref.ensures.value ∙ stands.plain ∙ ap (λ (n : ℕ). drop n s.plain) read)
