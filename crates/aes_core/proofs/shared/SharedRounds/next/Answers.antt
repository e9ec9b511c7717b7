use Rattle.std.proofs.Common.{◌≡◌, ◌≢◌, [], ◌∷◌, ◌++◌, ◌/◌, ◌%◌, ◌^◌, ap, ◌∙◌, arith}
use Rattle.std.proofs.lemmas.Nat.{and_mask}
use Rattle.aes_core.specs.internal.SharedRounds.{two_rounds}
use Rattle.aes_core.proofs.SharedFacts.{same_front}
use Rattle.aes_core.proofs.shared.SharedRounds.next.Goals as goal

pub returns-else-counter-eq0 : goal.returns-else-counter-eq0
returns-else-counter-eq0 c = λ before fits held e.
    let low : c.args.counter % 256 ≢ 0 = λ z. c.if-counter-eq0.false (and_mask c.args.counter 8 ∙ z) in
    let same : before / 2 ^ 8 ≡ c.args.counter / 2 ^ 8 = omega (arith, low) in
    record {
      gives = λ last.
          held.gives last ∙ ap (λ front. two_rounds c.args.words.now (front ++ last ∷ [])) (same_front before c.args.counter same);
    }
