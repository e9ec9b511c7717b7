-- Numbers and addresses all of whose bytes pass a test that digits and dots pass.
use Rattle.std.proofs.Common.{◌≡◌, ℕ, zero, suc, ◌/◌, ◌%◌, ◌^◌, ◌==◌, ◌&&◌, Bool, true, false, cond, List, [], ◌∷◌, ◌++◌, refl, ◌∙◌}
use Rattle.std.specs.List.{list_all}
use Rattle.std.specs.Fmt.{decimal, digit_glyph, digits, digits_onto}
use Rattle.std.proofs.lemmas.List.Folds.{list_all-append}
use Rattle.vpn_base.specs.declared.address.Ip4.{Ip4}
use Rattle.vpn_base.specs.Address.{ip4_text}

pub both_true : (a b : Bool) → a ≡ true → b ≡ true → (a && b) ≡ true
both_true true b p q = q
both_true false b p q = cc

pub append_passes : (p : ℕ → Bool) (xs ys : List ℕ) → list_all p xs ≡ true → list_all p ys ≡ true → list_all p (xs ++ ys) ≡ true
append_passes p xs ys a b = list_all-append p xs ys ∙ both_true (list_all p xs) (list_all p ys) a b

chosen : (b : Bool) (p : ℕ → Bool) (xs ys : List ℕ) → list_all p xs ≡ true → list_all p ys ≡ true → list_all p (cond b xs ys) ≡ true
chosen true p xs ys a b = a
chosen false p xs ys a b = b

onto : (p : ℕ → Bool) → ((n : ℕ) → p (digit_glyph false (n % 10)) ≡ true) → (k n : ℕ) (acc : List ℕ) → list_all p acc ≡ true
    → list_all p (digits_onto k 10 false n acc) ≡ true
onto p glyph zero n acc all = all
onto p glyph (suc k) n acc all =
    let next : List ℕ = digit_glyph false (n % 10) ∷ acc in
    let front : list_all p (digit_glyph false (n % 10) ∷ acc) ≡ true = both_true (p (digit_glyph false (n % 10))) (list_all p acc) (glyph n) all in
    chosen (n / 10 == 0) p next (digits_onto k 10 false (n / 10) next) front (onto p glyph k (n / 10) next front)

pub decimal_passes : (p : ℕ → Bool) → ((n : ℕ) → p (digit_glyph false (n % 10)) ≡ true) → (n : ℕ) → list_all p (decimal n) ≡ true
unfolding digits
decimal_passes p glyph n = onto p glyph 64 n [] refl

dotted : (p : ℕ → Bool) → ((n : ℕ) → p (digit_glyph false (n % 10)) ≡ true) → p 46 ≡ true → (n : ℕ) (rest : List ℕ) → list_all p rest ≡ true
    → list_all p (decimal n ++ 46 ∷ rest) ≡ true
dotted p glyph dot n rest all = append_passes p (decimal n) (46 ∷ rest) (decimal_passes p glyph n) (both_true (p 46) (list_all p rest) dot all)

pub ip4_passes : (p : ℕ → Bool) → ((n : ℕ) → p (digit_glyph false (n % 10)) ≡ true) → p 46 ≡ true → (a : Ip4) → list_all p (ip4_text a) ≡ true
unfolding ip4_text
ip4_passes p glyph dot a =
    let three : List ℕ = decimal (a.0 % 256) in
    let two : List ℕ = decimal (a.0 / 2 ^ 8 % 256) ++ 46 ∷ three in
    let one : List ℕ = decimal (a.0 / 2 ^ 16 % 256) ++ 46 ∷ two in
    dotted p glyph dot (a.0 / 2 ^ 24 % 256) one
    (dotted p glyph dot (a.0 / 2 ^ 16 % 256) two (dotted p glyph dot (a.0 / 2 ^ 8 % 256) three (decimal_passes p glyph (a.0 % 256))))
