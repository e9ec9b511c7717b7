use Rattle.std.proofs.Common.{◌≡◌, ℕ, ◌+◌, ◌<◌, ◌^◌, [], ◌∷◌, ◌++◌, length, take, get_or, List, arith, refl, ap, sym, ◌∙◌, subst}
use Rattle.std.specs.List.{flat_map, AllByRecursion}
use Rattle.std.specs.Int.{w32, to_be_bytes}
use Rattle.std.proofs.lemmas.List.{take_more, flat_map_more, length-take}
use Rattle.vpn_base.specs.Acks.{acked}
use Rattle.opcode_codec.specs.ControlText.{with_front}
use Rattle.opcode_codec.proofs.ControlLaws.{all_push, length-flat_map}
use Rattle.opcode_codec.proofs.control.put_ids.Goals as goal

pub loop-id-init : goal.loop-id-init
loop-id-init c = record { end = c.put-end.ensures.end; placed = c.put-end.ensures.placed [] c.args.out.now refl refl; fit = tt }

pub loop-id-preserved : goal.loop-id-preserved
loop-id-preserved c =
    let i = c.loop-id.id-index in
    let ids = acked c.args.acks.now in
    let id : ℕ = get_or ids i 0 in
    let text : List ℕ = c.args.acks.now.count ∷ flat_map (to_be_bytes w32) (take i ids) in
    let more : take (i + 1) ids ≡ take i ids ++ id ∷ [] = take_more ids i 0 c.loop-id-test.true in
    let size : length text ≡ c.loop-id.end = omega (arith, length-flat_map (take i ids), length-take i ids, c.loop-id.invariant.end, c.loop-id-test.true) in
    let put : c.put_number-end.new.out ≡ with_front (text ++ to_be_bytes w32 id) c.args.out.now = c.put_number-end.ensures.placed text c.args.out.now size c.loop-id.invariant.placed in
    let joined : text ++ to_be_bytes w32 id ≡ c.args.acks.now.count ∷ flat_map (to_be_bytes w32) (take (i + 1) ids) =
    flat_map_more (to_be_bytes w32) (c.args.acks.now.count ∷ []) (take i ids) id ∙ ap (λ (t : List ℕ). c.args.acks.now.count ∷ flat_map (to_be_bytes w32) t) (sym more) in
    record {
      end = omega (arith, c.put_number-end.ensures.end, c.loop-id.invariant.end);
      placed = put ∙ ap (λ (t : List ℕ). with_front t c.args.out.now) joined;
      fit = subst (λ (t : List ℕ). AllByRecursion (λ id. id < 2 ^ 32) t) (sym more) (all_push (take i ids) id c.loop-id.invariant.fit c.put_number-end.ensures.fits);
    }
