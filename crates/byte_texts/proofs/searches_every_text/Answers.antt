use Rattle.byte_texts.proofs.Searching.{found_text, none_found, nothing_passes}
use Rattle.byte_texts.proofs.searches_every_text.Goals as goal

pub returns-clause-found : goal.returns-clause-found
returns-clause-found c = found_text

pub returns-clause-none : goal.returns-clause-none
returns-clause-none c = λ passes n. (none_found passes n, nothing_passes passes n)
