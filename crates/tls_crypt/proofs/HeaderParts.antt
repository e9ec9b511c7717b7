-- A header, written and read part by part.
use Rattle.std.proofs.Common.{◌≡◌, ℕ, ◌+◌, ◌≤◌, ◌<◌, List, [], ◌∷◌, ◌++◌, length, get_or, take, drop, ap, sym, ◌∙◌, arith, take_all}
use Rattle.std.proofs.Math.Seq.{drop-cons, take-add}
use Rattle.std.proofs.lemmas.Nat.{be_bytes_4}
use Rattle.std.specs.Int.{w32, to_be_bytes, from_be_bytes}
use Rattle.tls_crypt.specs.Wrapped.{header}

-- four writes, one behind another
pub header_written : (first : ℕ) (sid id_bytes time_bytes : List ℕ) (id time : ℕ) (a b c d : List ℕ) → length sid ≡ 8 → length d ≡ 17
    → id_bytes ≡ to_be_bytes w32 id → time_bytes ≡ to_be_bytes w32 time
    → take 1 a ≡ first ∷ [] → take (1 + length sid) b ≡ take 1 a ++ sid
    → take (9 + length id_bytes) c ≡ take 9 b ++ id_bytes → take (13 + length time_bytes) d ≡ take 13 c ++ time_bytes
    → d ≡ header first sid id time
unfolding header
header_written first sid id_bytes time_bytes id time a b c d size whole is_id is_time at_a at_b at_c at_d =
    let to_b : take 9 b ≡ first ∷ sid =
    sym (ap (λ (n : ℕ). take (1 + n) b) size) ∙ at_b ∙ ap (λ (l : List ℕ). l ++ sid) at_a in
    let to_c : take 13 c ≡ (first ∷ sid) ++ to_be_bytes w32 id =
    sym (ap (λ (l : List ℕ). take (9 + length l) c) is_id) ∙ at_c ∙ ap (λ (l : List ℕ). l ++ id_bytes) to_b ∙ ap (λ (l : List ℕ). (first ∷ sid) ++ l) is_id in
    let to_d : take 17 d ≡ ((first ∷ sid) ++ to_be_bytes w32 id) ++ to_be_bytes w32 time =
    sym (ap (λ (l : List ℕ). take (13 + length l) d) is_time) ∙ at_d ∙ ap (λ (l : List ℕ). l ++ time_bytes) to_c
    ∙ ap (λ (l : List ℕ). ((first ∷ sid) ++ to_be_bytes w32 id) ++ l) is_time in
    sym (take_all 17 d (omega arith)) ∙ to_d

-- four reads, one behind another
pub header_read : (d sid id_bytes time_bytes : List ℕ) (id time : ℕ) → 17 ≤ length d
    → sid ≡ take 8 (drop 1 d) → id_bytes ≡ take 4 (drop 9 d) → time_bytes ≡ take 4 (drop 13 d)
    → length id_bytes ≡ 4 → ((i : ℕ) → get_or id_bytes i 0 < 256) → length time_bytes ≡ 4 → ((i : ℕ) → get_or time_bytes i 0 < 256)
    → id ≡ from_be_bytes w32 id_bytes → time ≡ from_be_bytes w32 time_bytes
    → header (get_or d 0 0) sid id time ≡ take 17 d
unfolding header
header_read d sid id_bytes time_bytes id time long is_sid is_id is_time id_size id_small time_size time_small id_from time_from =
    let sids : (get_or d 0 0 ∷ sid) ≡ take 9 d =
    ap (λ (l : List ℕ). get_or d 0 0 ∷ l) is_sid ∙ ap (take 9) (sym (drop-cons d 0 0 (omega arith))) in
    let ids : (get_or d 0 0 ∷ sid) ++ to_be_bytes w32 id ≡ take 13 d =
    ap (λ (l : List ℕ). l ++ to_be_bytes w32 id) sids ∙ ap (λ (l : List ℕ). take 9 d ++ l) (be_bytes_4 id_bytes id id_size id_small id_from ∙ is_id) ∙ sym (take-add 9 4 d) in
    ap (λ (l : List ℕ). l ++ to_be_bytes w32 time) ids
    ∙ ap (λ (l : List ℕ). take 13 d ++ l) (be_bytes_4 time_bytes time time_size time_small time_from ∙ is_time) ∙ sym (take-add 13 4 d)
