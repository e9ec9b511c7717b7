use Rattle.std.proofs.Common.{◌≡◌, ◌+◌, ◌*◌, ◌/◌, length, bit_xor, get_or, take, refl, sym, ap, ◌∙◌, ◌-◌, arith}
use Rattle.std.specs.Prelude.{map, flat_map}
use Rattle.std.proofs.lemmas.List.{length-set, take-set-le}
use Rattle.aes_core.specs.KeyExpansion.{key_expansion, key_words}
use Rattle.aes_core.specs.internal.Words.{word_bytes}
use Rattle.aes_core.proofs.Expansion.{bytes_next, later_word, next_word_first, words_next}
use Rattle.aes_core.proofs.schedule.expand.Goals as goal

pub key-init : goal.key-init
unfolding key_words
key-init c = (refl, refl, refl)

pub key-preserved : goal.key-preserved
key-preserved c =
    let key = c.args.key.now in
    let words = c.key.words in
    let i = c.key.i in
    let word = c.load_word.result in (
      length-set words i word ∙ c.key.invariant.0,
      words_next key words i word (omega arith) c.key.invariant.1
          (c.load_word.ensures ∙ sym (next_word_first key (key_words key i) i (omega arith))),
      bytes_next key words i word (omega arith) c.key.invariant.2 c.load_word.ensures,
    )

pub rest-preserved : goal.rest-preserved
rest-preserved c =
    let key = c.args.key.now in
    let words = c.rest.words in
    let i = c.rest.i in
    let word = bit_xor (get_or words (i - length key / 4) 0) c.added_word.result in (
      length-set words i word ∙ c.rest.invariant.0,
      words_next key words i word (omega arith) c.rest.invariant.1
          (later_word key words i c.added_word.result (omega arith) (omega arith) (omega arith) c.rest.invariant.1 c.added_word.ensures),
      ap (flat_map word_bytes) (take-set-le (length key / 4) words i word (omega arith)) ∙ c.rest.invariant.2,
    )

pub returns-clause-expanded : goal.returns-clause-expanded
unfolding key_expansion
returns-clause-expanded c =
    let key = c.args.key.now in
    let done : c.rest.i ≡ 4 * (length key / 4 + 6 + 1) = omega (arith, c.rest.auto.i-end (omega arith)) in
    ap (λ n. map word_bytes (take n c.rest.words)) (sym done) ∙ c.rest.invariant.1 ∙ ap (key_words key) done
