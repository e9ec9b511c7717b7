use Rattle.std.proofs.Common.{ap, sym, ◌∙◌}
use Rattle.std.proofs.lemmas.List.Splits.{join_with_byte-slice_split}
use Rattle.std.specs.Option.{option_copied}
use Rattle.schedule_text.specs.EventLine.{rest_of}
use Rattle.schedule_text.specs.internal.Arguments.{arguments_of}
use Rattle.schedule_text.proofs.event_words.rest.Goals as goal

pub returns-in-Some : goal.returns-in-Some
returns-in-Some c = sym (ap (λ t. rest_of (arguments_of (option_copied t))) c.in-Some.is ∙ join_with_byte-slice_split 32 c.in-Some.text.now)
