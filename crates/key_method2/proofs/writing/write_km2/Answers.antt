use Rattle.std.proofs.Common.{List, ℕ, sym, subst, ◌∙◌}
use Rattle.key_method2.specs.Message.{HasAllTexts}
use Rattle.key_method2.specs.Spelling.{role_of}
use Rattle.key_method2.proofs.Written.{message_bytes-is}
use Rattle.key_method2.proofs.writing.write_km2.Goals as goal

pub returns-clause-is_message : goal.returns-clause-is_message
returns-clause-is_message c =
    let message = c.args.message.now in
    subst (λ (bytes : List ℕ). HasAllTexts (role_of message.source) bytes message) (sym (c.of.ensures ∙ c.in_ok-spelled.ensures.spelled))
    (message_bytes-is message c.in_ok-spelled.ensures.is_source c.requires.options c.requires.user c.requires.pass c.requires.info)
