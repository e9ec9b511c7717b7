use Rattle.std.proofs.Common.{ℕ, List, ◌++◌, ◌∷◌, ap, sym, ◌∙◌}
use Rattle.vpn_text.specs.Quoted.{quoted}
use Rattle.ovpn_config.proofs.Spaced.{spaced_more, words_begun}
use Rattle.ovpn_config.proofs.spelling.words_from.Goals as goal

pub words-init : goal.words-init
words-init c =
    words_begun c.new-text.result.items c.write_word.new.out.items c.args.words.now c.args.from c.in-Some.first.now (sym c.in-Some.ensures)
    c.new-text.ensures.items
    (c.in_ok-write_word.ensures.ok ∙ ap (λ (w : List ℕ). c.new-text.result.items ++ quoted w) c.as_slice.ensures)

pub words-preserved : goal.words-preserved
words-preserved c =
    sym (spaced_more c.words.text.items c.add_word.new.text.items c.args.words.now c.words.i c.in-Some-item.word.now (sym c.in-Some-item.ensures)
    (c.in_ok-add_word.ensures ∙ ap (λ (w : List ℕ). c.words.text.items ++ 32 ∷ quoted w) c.as_slice-in-words.ensures))
    ∙ c.words.invariant
