use Rattle.std.proofs.Common.{◌≡◌, ℕ, suc, ◌+◌, ◌-◌, ◌<◌, List, [], ◌∷◌, ◌++◌, length, get_or, take, drop, replicate, sym, ap, ◌∙◌, arith, add-zero}
use Rattle.std.proofs.Math.ListN.{set}
use Rattle.std.proofs.lemmas.List.{append_assoc, length-take-le, take_more, set_at, get_or-drop, drop-drop}
use Rattle.reliable_recv.proofs.receiving.take_ids.Goals as goal

-- an id is written behind those that were taken, in front of zeros
put_id : (xs : List ℕ) (k x : ℕ) → k < 8 → k < length xs → x ≡ get_or xs k 0 → set (take k xs ++ replicate (8 - k) 0) k x ≡ take (k + 1) xs ++ replicate (8 - (k + 1)) 0
put_id xs k x room within is =
    let front : length (take k xs) ≡ k = length-take-le k xs (omega arith) in
    let one : 8 - k ≡ suc (8 - (k + 1)) = omega arith in
    rw one
    (set_at (take k xs) 0 (replicate (8 - (k + 1)) 0) x k front
    ∙ sym (append_assoc (take k xs) (x ∷ []) (replicate (8 - (k + 1)) 0))
    ∙ ap (λ (t : List ℕ). t ++ replicate (8 - (k + 1)) 0) (ap (λ (y : ℕ). take k xs ++ y ∷ []) is ∙ sym (take_more xs k 0 within)))

pub loop-k-preserved : goal.loop-k-preserved
loop-k-preserved c =
    let k = c.loop-k.k in
    let xs = c.args.waiting.now.items in
    let room : k < 8 = omega arith in
    let within : k < length xs = omega arith in
    let first : c.take_first.result ≡ get_or xs k 0 =
    c.take_first.ensures.first 0 ∙ ap (λ (t : List ℕ). get_or t 0 0) c.loop-k.invariant.rest ∙ get_or-drop k xs 0 0 ∙ ap (λ (i : ℕ). get_or xs i 0) (add-zero k) in
    record {
      ids = ap (λ (t : List ℕ). set t k c.take_first.result) c.loop-k.invariant.ids ∙ put_id xs k c.take_first.result room within first;
      rest = c.take_first.ensures.rest ∙ ap (λ (t : List ℕ). drop 1 t) c.loop-k.invariant.rest ∙ drop-drop 1 k xs;
      capacity = c.take_first.ensures.capacity ∙ c.loop-k.invariant.capacity;
    }
