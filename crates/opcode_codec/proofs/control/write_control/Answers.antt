use Rattle.std.proofs.Common.{◌≡◌, ℕ, ◌∷◌, ◌++◌, length, take, drop, List, arith, ap, sym, ◌∙◌}
use Rattle.std.specs.List.{flat_map}
use Rattle.std.specs.Int.{w32, to_be_bytes}
use Rattle.std.proofs.lemmas.List.{take_at, length-append}
use Rattle.vpn_base.specs.Acks.{acked}
use Rattle.opcode_codec.specs.ControlText.{sid_bytes, id_bytes, control_text, control_of, sent_remote, sent_id, sent_payload, sent_form, with_front}
use Rattle.opcode_codec.proofs.ControlLaws.{sent_text, sent_again, length-flat_map}
use Rattle.opcode_codec.proofs.control.write_control.Goals as goal

pub returns-clause-length : goal.returns-clause-length
returns-clause-length c =
    let a = c.args in
    let ids : List ℕ = a.acks.now.count ∷ flat_map (to_be_bytes w32) (acked a.acks.now) in
    let sid = sid_bytes (sent_remote a.acks.now.count a.remote) in
    let fields : List ℕ = id_bytes (sent_id a.op a.id) ++ sent_payload a.op a.payload.now in
    let whole = ap length (sent_text a.op a.acks.now a.remote a.id a.payload.now c.put_ids-end.ensures.count) in
    omega (arith, whole, length-append (ids ++ sid) fields, length-append ids sid, length-flat_map (acked a.acks.now), c.put_ids-end.ensures.count, c.put_ids-end.ensures.end, c.put_remote-end.ensures.end, c.put_fields.ensures.end)

pub returns-clause-written : goal.returns-clause-written
returns-clause-written c =
    let a = c.args in
    let ids : List ℕ = a.acks.now.count ∷ flat_map (to_be_bytes w32) (acked a.acks.now) in
    let sid = sid_bytes (sent_remote a.acks.now.count a.remote) in
    let fields : List ℕ = id_bytes (sent_id a.op a.id) ++ sent_payload a.op a.payload.now in
    let first : length ids ≡ c.put_ids-end.result = omega (arith, length-flat_map (acked a.acks.now), c.put_ids-end.ensures.count, c.put_ids-end.ensures.end) in
    let second : length (ids ++ sid) ≡ c.put_remote-end.result = omega (arith, length-append ids sid, first, c.put_remote-end.ensures.end) in
    let placed = c.put_fields.ensures.placed (ids ++ sid) a.out.now second (c.put_remote-end.ensures.placed ids a.out.now first c.put_ids-end.ensures.placed) in
    placed ∙ ap (λ (t : List ℕ). with_front t a.out.now) (sent_text a.op a.acks.now a.remote a.id a.payload.now c.put_ids-end.ensures.count)

pub returns-clause-again : goal.returns-clause-again
returns-clause-again c =
    let a = c.args in
    let text = control_text (sent_form a.op a.acks.now a.remote a.id a.payload.now) in
    let front : take c.put_fields.result c.put_fields.new.out ≡ text =
    ap (λ (t : List ℕ). take c.put_fields.result t) (returns-clause-written c) ∙ take_at text (drop (length text) a.out.now) c.put_fields.result (sym (returns-clause-length c)) in
    ap (control_of a.op) front ∙ sent_again a.op a.acks.now a.remote a.id a.payload.now c.put_ids-end.ensures.count c.requires.count c.put_ids-end.ensures.fit c.put_remote-end.ensures.length c.ranges.id.fits
