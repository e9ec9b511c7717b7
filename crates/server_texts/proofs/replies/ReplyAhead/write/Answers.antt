use Rattle.std.proofs.Common.{List, ℕ, map, ◌++◌, ap, ◌∙◌}
use Rattle.vpn_links.specs.Actions.{Action, EngineWrite}
use Rattle.server_texts.proofs.Texts.{reply_written}
use Rattle.server_texts.proofs.replies.ReplyAhead.write.Goals as goal

pub returns-clause-reply : goal.returns-clause-reply
returns-clause-reply c = λ s x a are is. (
  c.write_texts.ensures.written.0 ∙ ap (λ (l : List (List ℕ)). c.args.out.now.effects ++ map (EngineWrite c.args.conn) l) (c.as_slice.ensures ∙ c.texts_with.ensures)
      ∙ ap (λ (l : List Action). c.args.out.now.effects ++ l) (reply_written s x a c.args.conn c.args.cipher c.args.self.now are is),
  c.write_texts.ensures.written.1,
)
