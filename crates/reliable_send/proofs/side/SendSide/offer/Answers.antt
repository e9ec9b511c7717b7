use Rattle.std.proofs.Common.{◌≡◌, Result, Ok, Err, map, refl, ap, sym, subst, ◌∙◌, arith}
use Rattle.std.specs.Prelude.{OnErr}
use Rattle.vpn_base.specs.declared.errors.Or.{Or}
use Rattle.reliable_send.specs.declared.side.TextFull.{TextFull}
use Rattle.reliable_send.specs.Sending.{Sending, cut}
use Rattle.reliable_send.specs.Sides.{IsKeptOf, Side, Stands}
use Rattle.reliable_send.specs.internal.Sound.{waiting}
use Rattle.reliable_send.proofs.Cutting.{few_cuts, fresh}
use Rattle.reliable_send.proofs.Soundness.{sound_offered}
use Rattle.reliable_send.proofs.Standing.{full_by_bytes, full_by_ids, not_full, stands_offered}
use Rattle.reliable_send.proofs.side.SendSide.offer.Goals as goal

pub returns-then-count_waiting-bytes-gt-MOST_WAITING-clause-full : goal.returns-then-count_waiting-bytes-gt-MOST_WAITING-clause-full
unfolding Stands
returns-then-count_waiting-bytes-gt-MOST_WAITING-clause-full c = λ h s.
    let before = subst (λ (w : Side). IsKeptOf w.kept h) (sym c.self.view_is) s in
    let size : c.count_waiting.result ≡ waiting c.self.inside.pieces.items = c.count_waiting.ensures ∙ ap waiting c.deref.ensures.value in
    full_by_bytes _ h c.args.bytes.now before (omega (arith, size))

pub overflow_add-self-inside-2 : goal.overflow_add-self-inside-2
overflow_add-self-inside-2 c =
    omega (arith, few_cuts c.args.bytes.now, c.self.invariant.ids_fit, c.self.inside.pieces.ok.0)

pub returns-then-self-len-gt-IDS-clause-full : goal.returns-then-self-len-gt-IDS-clause-full
unfolding Stands
returns-then-self-len-gt-IDS-clause-full c = λ h s.
    let before = subst (λ (w : Side). IsKeptOf w.kept h) (sym c.self.view_is) s in
    full_by_ids _ h c.args.bytes.now before (omega (arith, c.self.inside.pieces.ok.0))

pub returns-in_err-make_room-clause-fits : goal.returns-in_err-make_room-clause-fits
returns-in_err-make_room-clause-fits c = λ few.
    let room = ap (λ (w : Side). w.spare) c.self.view_is in
    let there = c.in_err-make_room.ensures.fits (omega (arith, few, room, c.count_cut-count.ensures)) (omega (arith, few, room, c.count_cut-count.ensures, c.self.inside.pieces.ok.1)) in absurd cc

-- the kept pieces stand for the same history in any case
stays : (r : Result (Unit {0}) (Or TextFull)) (P : Type 0) → P → OnErr r P
stays (Ok x) P holds = tt
stays (Err e) P holds = holds

pub returns-in_err-make_room-clause-unchanged : goal.returns-in_err-make_room-clause-unchanged
unfolding Stands
returns-in_err-make_room-clause-unchanged c =
    stays c.from_residual.result _ (λ (h : Sending) s. rw c.in_err-make_room.ensures.same (subst (λ (w : Side). IsKeptOf w.kept h) (sym c.self.view_is) s))

pub add_pieces-requires-clause-places : goal.add_pieces-requires-clause-places
add_pieces-requires-clause-places c = omega (arith, c.in_ok-make_room.ensures.ok.1, c.count_cut-count.ensures)

pub add_pieces-requires-clause-rooms : goal.add_pieces-requires-clause-rooms
add_pieces-requires-clause-rooms c = omega (arith, c.in_ok-make_room.ensures.ok.0, c.count_cut-count.ensures)

pub invariant_of-self-2 : goal.invariant_of-self-2
invariant_of-self-2 c =
    let w = c.self.inside in
    let size : c.count_waiting.result ≡ waiting w.pieces.items = c.count_waiting.ensures ∙ ap waiting c.deref.ensures.value in
    rw (c.add_pieces.ensures.added, c.in_ok-make_room.ensures.same)
    (sound_offered w.timeout w.first w.pieces.items (map fresh (cut c.args.bytes.now)) c.args.bytes.now refl (omega (arith, size)) (omega (arith, w.pieces.ok.0, c.count_cut-count.ensures)) c.self.invariant)

pub returns-clause-ok : goal.returns-clause-ok
unfolding Stands
returns-clause-ok c = λ h s.
    let w = c.self.inside in
    let before = subst (λ (w : Side). IsKeptOf w.kept h) (sym c.self.view_is) s in
    let size : c.count_waiting.result ≡ waiting w.pieces.items = c.count_waiting.ensures ∙ ap waiting c.deref.ensures.value in (
      not_full _ h c.args.bytes.now before (omega (arith, size)) (omega (arith, w.pieces.ok.0, c.count_cut-count.ensures)),
      rw (c.add_pieces.ensures.added, c.in_ok-make_room.ensures.same) (stands_offered _ h c.args.bytes.now (map fresh (cut c.args.bytes.now)) refl before),
    )
