use Rattle.byte_texts.proofs.Searching.{is_text, only_text}
use Rattle.byte_texts.proofs.texts_are_lists_of_bytes.Goals as goal

pub returns : goal.returns
returns c = λ n text. (only_text n text, λ h. is_text n text h.0 h.1)
