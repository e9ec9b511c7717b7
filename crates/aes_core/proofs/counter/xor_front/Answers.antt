use Rattle.std.proofs.Common.{◌≡◌, ◌+◌, ◌-◌, ◌++◌, [], ◌∷◌, length, get_or, take, drop, sym, ap, ◌∙◌, arith, length-drop}
use Rattle.std.proofs.lemmas.List.{take-append-drop, take_more, length-take-le}
use Rattle.aes_core.specs.Field.{xor_bytes}
use Rattle.aes_core.proofs.InPlace.{set-xor, xor_at-append, xor_bytes-nil, xor_bytes-take}
use Rattle.aes_core.proofs.counter.xor_front.Goals as goal

pub bytes-init : goal.bytes-init
bytes-init c =
    let bytes = c.args.bytes.now in
    let at = c.args.at in
    let none : at - at ≡ 0 = omega arith in
    sym
    (ap (λ k. take at bytes ++ xor_bytes (drop at bytes) (take k c.args.block.now)) none
    ∙ ap (λ r. take at bytes ++ r) (xor_bytes-nil (drop at bytes)) ∙ take-append-drop at bytes)

pub bytes-preserved : goal.bytes-preserved
bytes-preserved c =
    let bytes = c.args.bytes.now in
    let block = c.args.block.now in
    let at = c.args.at in
    let i = c.bytes.i in
    let byte = get_or block (i - at) 0 in
    let place : i ≡ at + (i - at) = omega arith in
    let next : i + 1 - at ≡ i - at + 1 = omega arith in
    let read : take (i - at + 1) block ≡ take (i - at) block ++ byte ∷ [] = take_more block (i - at) 0 (omega arith) in
    let len : i - at ≡ length (take (i - at) block) = sym (length-take-le (i - at) block (omega arith)) in
    set-xor c.bytes.bytes i byte (omega arith)
    ∙ ap (λ k. take k c.bytes.bytes ++ xor_bytes (drop k c.bytes.bytes) (byte ∷ [])) place
    ∙ xor_at-append bytes (take (i - at) block) (byte ∷ []) c.bytes.bytes at (i - at) len (omega arith) c.bytes.invariant
    ∙ ap (λ ys. take at bytes ++ xor_bytes (drop at bytes) ys) (sym read ∙ ap (λ k. take k block) (sym next))

pub returns : goal.returns
returns c =
    let bytes = c.args.bytes.now in
    let at = c.args.at in
    let rest : c.bytes.i - at ≡ length (drop at bytes) = omega (arith, length-drop at bytes) in
    c.bytes.invariant
    ∙ ap (λ k. take at bytes ++ xor_bytes (drop at bytes) (take k c.args.block.now)) rest
    ∙ ap (λ r. take at bytes ++ r) (xor_bytes-take (drop at bytes) c.args.block.now)
