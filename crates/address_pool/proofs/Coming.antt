-- One client more.
use Rattle.std.proofs.Common.{◌≡◌, ℕ, suc, ◌+◌, ◌<◌, List, [], ◌∷◌, ◌++◌, length, get_or, drop, drop-cons, Option, None, Err, Result, ap, ◌∙◌, arith}
use Rattle.vpn_base.specs.Answers.{Answers}
use Rattle.vpn_base.specs.declared.address.Ip4.{Ip4}
use Rattle.vpn_base.specs.declared.errors.Or.{Or}
use Rattle.vpn_base.specs.declared.errors.Or.TheVariants.{Memory, Why}
use Rattle.address_pool.specs.declared.PoolEmpty.{PoolEmpty}
use Rattle.address_pool.specs.Arrivals.{next_address, and_then, addresses_from}

-- what the addresses are with the address of the next client
pub next_is : (first last : Ip4) (taken : List Ip4) (wanted : List (Option Ip4)) (i : ℕ) (r : Result Ip4 PoolEmpty) → i < length wanted
    → next_address first last taken (get_or wanted i None) ≡ r
    → addresses_from first last taken (drop i wanted) ≡ and_then r (λ a. addresses_from first last (taken ++ a ∷ []) (drop (i + 1) wanted))
next_is first last taken wanted i r within next =
    let more : suc i ≡ i + 1 = omega arith in
    ap (addresses_from first last taken) (drop-cons wanted i None within)
    ∙ ap (λ (n : Result Ip4 PoolEmpty). and_then n (λ a. addresses_from first last (taken ++ a ∷ []) (drop (suc i) wanted))) next
    ∙ ap (λ (k : ℕ). and_then r (λ a. addresses_from first last (taken ++ a ∷ []) (drop k wanted))) more

-- a refusal that is not want of memory
pub refused_is : (e : Or PoolEmpty) (r : Result Ip4 PoolEmpty) → Answers {A = Ip4} {E = PoolEmpty} (Err e) r → e ≡ Why (record {}) → r ≡ Err (record {})
refused_is Memory r h is = cc
refused_is (Why f) r h is = h
