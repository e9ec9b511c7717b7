use Rattle.std.proofs.Common.{◌≡◌, ◌+◌, ◌*◌, ◌^◌, ◌<◌, ◌++◌, ℕ, refl, ap, sym, ◌∙◌, arith, take, length, take_all, mod-eq_of_lt, length-append, length-take-le}
use Rattle.rand_chacha.specs.ChaCha.{ChaCha, key_of}
use Rattle.schedule_text.specs.Draws.{draw_of, words_from}
use Rattle.schedule_text.proofs.DrawWords.{place_there, same_long, word_there, words_more}
use Rattle.schedule_text.proofs.draws.draw.Goals as goal

pub loop-i-init : goal.loop-i-init
unfolding words_from
loop-i-init c =
    let seeded = c.from_seed-words.ensures in
    let at = c.set_word_pos.ensures in
    let number : c.args.number < 2 ^ 63 = c.requires in
    let small : 32 * c.from.result < 2 ^ 68 = omega (arith, number, c.from.ensures) in
    record {
      within = omega arith;
      key = ap (λ (g : ChaCha). g.key) at ∙ (ap (λ (g : ChaCha). g.key) seeded ∙ ap key_of c.key_of.ensures);
      stream = ap (λ (g : ChaCha). g.stream) at ∙ ap (λ (g : ChaCha). g.stream) seeded;
      place = ap (λ (g : ChaCha). g.word_pos) at ∙ (mod-eq_of_lt small ∙ omega (arith, c.from.ensures));
      long = refl;
      bytes = refl;
    }

pub loop-i-preserved : goal.loop-i-preserved
loop-i-preserved c =
    let before = c.loop-i.invariant in
    let place = 32 * c.args.number + c.loop-i.i in
    let number : c.args.number < 2 ^ 63 = c.requires in
    let stepped = c.next_word-word.ensures in
    let word = ap (λ (s : ℕ × ChaCha). s.0) stepped ∙ word_there c.args.seed place c.loop-i.words before.key before.stream before.place in
    let four : length c.to_le_bytes.result ≡ 4 = ap length c.to_le_bytes.ensures in
    let end : 4 * (c.loop-i.i + 1) ≡ 4 * c.loop-i.i + length c.to_le_bytes.result = omega (arith, four) in
    record {
      within = omega (arith, c.loop-i-test.true);
      key = ap (λ (s : ℕ × ChaCha). s.1.key) stepped ∙ before.key;
      stream = ap (λ (s : ℕ × ChaCha). s.1.stream) stepped ∙ before.stream;
      place = ap (λ (s : ℕ × ChaCha). s.1.word_pos) stepped ∙ (place_there place c.loop-i.words before.place (omega (arith, number, c.loop-i-test.true)) ∙ omega arith);
      long =
          let m = 4 * c.loop-i.i + length c.to_le_bytes.result in
          let front = take (4 * c.loop-i.i) c.loop-i.bytes ++ c.to_le_bytes.result in
          let size : length front ≡ m = omega (arith, length-append (take (4 * c.loop-i.i) c.loop-i.bytes) c.to_le_bytes.result, length-take-le (4 * c.loop-i.i) c.loop-i.bytes (omega (arith, before.long, c.loop-i-test.true))) in
          same_long m c.loop-i.bytes c.write_at.new.out front c.write_at.ensures.written size c.write_at.ensures.rest (omega (arith, before.long, four, c.loop-i-test.true)) ∙ before.long;
      bytes =
          ap (λ n. take n c.write_at.new.out) end
          ∙ (c.write_at.ensures.written
          ∙ (ap (λ front. front ++ c.to_le_bytes.result) before.bytes
          ∙ (ap (λ more. words_from c.args.seed (32 * c.args.number) c.loop-i.i ++ more) c.to_le_bytes.ensures
          ∙ sym (words_more c.args.seed (32 * c.args.number) c.loop-i.i c.next_word-word.result word))));
    }

pub returns : goal.returns
unfolding draw_of
returns c =
    let all : c.loop-i.i ≡ 30 = omega (arith, c.loop-i-test.false, c.loop-i.invariant.within) in
    let front : take (4 * c.loop-i.i) c.loop-i.bytes ≡ c.loop-i.bytes = take_all (4 * c.loop-i.i) c.loop-i.bytes (omega (arith, c.loop-i.invariant.long, all)) in
    sym front ∙ (c.loop-i.invariant.bytes ∙ ap (words_from c.args.seed (32 * c.args.number)) all)
