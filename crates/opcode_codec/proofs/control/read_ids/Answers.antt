use Rattle.std.proofs.Common.{◌≡◌, ℕ, ◌+◌, ◌-◌, ◌*◌, ◌<◌, length, take, drop, replicate, arith, refl, ap, sym, ◌∙◌}
use Rattle.std.specs.Int.{w32, from_be_bytes}
use Rattle.std.proofs.lemmas.List.{length-drop, drop-drop, drop-set-lt, drop-replicate, length-replicate}
use Rattle.std.proofs.lemmas.Grind.{take-set_at}
use Rattle.opcode_codec.proofs.ControlLaws.{numbers_more}
use Rattle.opcode_codec.proofs.control.read_ids.Goals as goal

pub loop-k-preserved : goal.loop-k-preserved
loop-k-preserved c =
    let k = c.loop-k.k in
    let within : k < length c.loop-k.ids = omega (arith, length-drop k c.loop-k.ids, ap length c.loop-k.invariant.zeros, length-replicate {A = ℕ} (8 - k) 0) in
    record {
      read =
          let more = numbers_more k c.args.bytes.now in
          let got : c.number_at.result ≡ from_be_bytes w32 (take 4 (drop (4 * k) c.args.bytes.now)) = c.number_at.ensures in
          let step = take-set_at c.loop-k.ids k (k + 1) c.number_at.result refl within in
          cc;
      zeros = drop-set-lt (k + 1) c.loop-k.ids k c.number_at.result (omega arith) ∙ sym (drop-drop 1 k c.loop-k.ids) ∙ ap (drop 1) c.loop-k.invariant.zeros ∙ drop-replicate 1 (8 - k) 0 ∙ ap (λ (n : ℕ). replicate n 0) (omega arith);
    }
