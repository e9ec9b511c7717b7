-- Reading the next payload of the text, past payload 0.
use Rattle.std.proofs.Common.{◌≡◌, ℕ, zero, suc, ◌+◌, Bool, true, false, List, [], ◌∷◌, ◌++◌, length, take, get_or, ◌<◌, ◌≤◌, Option, Some, None, IsSome, if◌then◌else◌, ap, sym, subst, ◌∙◌, refl, arith}
use Rattle.std.proofs.lemmas.Bool.{ne_eqb, eq-eqb}
use Rattle.std.proofs.lemmas.List.{take_more}
use Rattle.reliable_send.specs.Sending.{Sending, acked}
use Rattle.reliable_recv.specs.Receiving.{Arrival, Receiving, after_next, in_order, in_order_with, next_payload, payload_of}
use Rattle.reliable_recv.specs.Sides.{IsKeptOf, Side, Stands}
use Rattle.control_link.specs.Calls.{after_given, all_acked, given_by, past_reset}

-- room alone changes nothing of what a side stands for
pub same_kept : (side other : Side) (r : Receiving) → other.kept ≡ side.kept → Stands side r → Stands other r
unfolding Stands
same_kept side other r same stands = subst (λ (k : Receiving). IsKeptOf k r) (sym same) stands

-- payload 0 is read where nothing was read yet
pub passed : (side : Side) (r : Receiving) → r.read ≡ 0 → Stands side (after_next r) → Stands side (past_reset r)
passed side r none stands = subst (λ (b : Bool). Stands side (if b then after_next r else r)) (sym (eq-eqb r.read 0 none)) stands

pub not_passed : (side : Side) (r : Receiving) → ¬ (r.read ≡ 0) → Stands side r → Stands side (past_reset r)
not_passed side r some stands = subst (λ (b : Bool). Stands side (if b then after_next r else r)) (sym (ne_eqb r.read 0 some)) stands

pub none_given : (r : Receiving) → r.read ≡ 0 → given_by r ≡ None
none_given r none = ap (λ (b : Bool). if b then None else next_payload r) (eq-eqb r.read 0 none)

pub one_given : (r : Receiving) → ¬ (r.read ≡ 0) → given_by r ≡ next_payload r
one_given r some = ap (λ (b : Bool). if b then None else next_payload r) (ne_eqb r.read 0 some)

pub none_after : (side : Side) (r : Receiving) → r.read ≡ 0 → Stands side r → Stands side (after_given r)
none_after side r none stands = subst (λ (b : Bool). Stands side (if b then r else after_next r)) (sym (eq-eqb r.read 0 none)) stands

pub one_after : (side : Side) (r : Receiving) → ¬ (r.read ≡ 0) → Stands side (after_next r) → Stands side (after_given r)
one_after side r some stands = subst (λ (b : Bool). Stands side (if b then r else after_next r)) (sym (ne_eqb r.read 0 some)) stands

-- one id more is acknowledged
acked_behind : (ids : List ℕ) (id : ℕ) (s : Sending) → all_acked (ids ++ id ∷ []) s ≡ acked (all_acked ids s) id
acked_behind [] id s = refl
acked_behind (first ∷ ids) id s = acked_behind ids id (acked s first)

pub acked_more : (ids : List ℕ) (i d : ℕ) (s : Sending) → i < length ids → all_acked (take (i + 1) ids) s ≡ acked (all_acked (take i ids) s) (get_or ids i d)
acked_more ids i d s below = ap (λ (l : List ℕ). all_acked l s) (take_more ids i d below) ∙ acked_behind (take i ids) (get_or ids i d) s

-- what was read of a side had been taken
pub taken_before : (side : Side) (r : Receiving) → Stands side r → (id : ℕ) → id < r.read → IsSome (payload_of r.taken id)
unfolding Stands
taken_before side r stands = stands.were_taken

here_with : (o : Option (List ℕ)) (n : ℕ) (rest : List (List ℕ)) → IsSome o → length rest ≡ n → length (in_order_with o rest) ≡ suc n
here_with None n rest here count = absurd (let never : false ≡ true = here in cc)
here_with (Some payload) n rest here count = ap (λ (m : ℕ). suc m) count

-- as many payloads are here in order as there are ids, where each is here
pub count_here : (n : ℕ) (taken : List Arrival) (id : ℕ) → ((other : ℕ) → other < id + n → id ≤ other → IsSome (payload_of taken other)) → length (in_order n taken id) ≡ n
unfolding in_order
count_here zero taken id here = refl
count_here (suc n) taken id here =
    here_with (payload_of taken id) n (in_order n taken (id + 1)) (here id (omega arith) (omega arith)) (count_here n taken (id + 1) (λ other less from. here other (omega (arith, less)) (omega (arith, from))))
