use Rattle.std.proofs.Common.{ap, ◌∙◌}
use Rattle.tls_crypt.specs.Wrapped.{Keys, tag}
use Rattle.tls_crypt.proofs.half.Half.tag.Goals as goal

pub returns : goal.returns
unfolding tag
returns c =
    c.finish.ensures c.self.inside.hmac _ (c.update-2.ensures _ _ (c.update.ensures _ _ c.new-mac.ensures))
    ∙ ap (λ (k : Keys). tag k c.args.header.now c.args.plain.now) c.self.view_is
