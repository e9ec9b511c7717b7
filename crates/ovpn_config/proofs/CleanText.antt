-- Texts without control bytes.
use Rattle.std.proofs.Common.{◌≡◌, ℕ, ◌/◌, ◌%◌, ◌^◌, ◌<◌, ◌==◌, ◌&&◌, ◌||◌, Bool, true, false, not, cond, List, [], ◌∷◌, ◌++◌, refl, ap, sym, ◌∙◌, arith}
use Rattle.std.specs.Prelude.{Some, None, decimal, nat_le}
use Rattle.std.specs.List.{list_all, list_any}
use Rattle.std.proofs.lemmas.List.Folds.{list_all-append}
use Rattle.std.proofs.lemmas.Bool.Decides.{nat_tests}
use Rattle.vpn_base.specs.declared.address.Ip4.{Ip4}
use Rattle.vpn_base.specs.Number.{number_of, is_decimal, is_digit, value_behind}
use Rattle.vpn_base.specs.Address.{ip4_text}
use Rattle.vpn_text.specs.Words.{is_control}
use Rattle.vpn_text.specs.Mask.{mask_text, mask_number}
use Rattle.ovpn_config.specs.internal.Laws.{Laws}

-- no control byte
abbrev pub is_clean : List ℕ → Bool
is_clean bytes = list_all (λ c. not (is_control c)) bytes

abbrev pub are_clean : List (List ℕ) → Bool
are_clean words = list_all (λ word. is_clean word) words

pub and_true : (a b : Bool) → (a && b) ≡ true → (a ≡ true) × (b ≡ true)
and_true true true e = (refl, refl)
and_true true false e = cc
and_true false b e = cc

pub both_true : (a b : Bool) → a ≡ true → b ≡ true → (a && b) ≡ true
both_true true true p q = refl
both_true true false p q = cc
both_true false b p q = cc

pub all-append : {A : Type 0} (p : A → Bool) (xs ys : List A) → list_all p xs ≡ true → list_all p ys ≡ true → list_all p (xs ++ ys) ≡ true
all-append p xs ys a b = list_all-append p xs ys ∙ both_true (list_all p xs) (list_all p ys) a b

-- the two ways to say it
clean_step : (a b : Bool) → (not a && not b) ≡ not (a || b)
clean_step true b = refl
clean_step false b = refl

pub clean-any : (bytes : List ℕ) → is_clean bytes ≡ not (list_any is_control bytes)
clean-any [] = refl
clean-any (c ∷ cs) = ap (λ (b : Bool). not (is_control c) && b) (clean-any cs) ∙ clean_step (is_control c) (list_any is_control cs)

not_true : (b : Bool) → not b ≡ true → b ≡ false
not_true true e = cc
not_true false e = refl

pub no_control : (bytes : List ℕ) → is_clean bytes ≡ true → list_any is_control bytes ≡ false
no_control bytes clean = not_true (list_any is_control bytes) (sym (clean-any bytes) ∙ clean)

-- numbers
clean_digit : (c : ℕ) → is_digit c ≡ true → not (is_control c) ≡ true
clean_digit c digit = grind (arith, nat_tests)

pub clean_digits : (cs : List ℕ) → list_all is_digit cs ≡ true → is_clean cs ≡ true
clean_digits [] digits = refl
clean_digits (c ∷ cs) digits =
    let parts = and_true (is_digit c) (list_all is_digit cs) digits in
    both_true (not (is_control c)) (is_clean cs) (clean_digit c parts.0) (clean_digits cs parts.1)

digits_of_decimal : (cs : List ℕ) → is_decimal cs ≡ true → list_all is_digit cs ≡ true
digits_of_decimal [] decimal = cc
digits_of_decimal (c ∷ []) decimal = both_true (is_digit c) true decimal refl
digits_of_decimal (c ∷ d ∷ cs) decimal = (and_true (not (c == 48)) (list_all is_digit (c ∷ d ∷ cs)) decimal).1

is_some_when : (b : Bool) (m n : ℕ) → cond b (Some m) None ≡ Some n → b ≡ true
is_some_when true m n e = refl
is_some_when false m n e = cc

pub clean_number : (most n : ℕ) (text : List ℕ) → number_of most text ≡ Some n → is_clean text ≡ true
unfolding number_of
clean_number most n text read =
    clean_digits text (digits_of_decimal text (and_true (is_decimal text) (nat_le (value_behind 0 text) most)
    (is_some_when (is_decimal text && nat_le (value_behind 0 text) most) (value_behind 0 text) n read)).0)

pub clean_decimal : Laws → (n : ℕ) → n < 2 ^ 64 → is_clean (decimal n) ≡ true
clean_decimal laws n fits = clean_number n n (decimal n) (laws.decimals n n (omega arith) fits)

-- addresses
clean_byte : Laws → (n : ℕ) → is_clean (decimal (n % 256)) ≡ true
clean_byte laws n = clean_decimal laws (n % 256) (omega arith)

clean_dotted : (a b : List ℕ) → is_clean a ≡ true → is_clean b ≡ true → is_clean (a ++ 46 ∷ b) ≡ true
clean_dotted a b p q = all-append (λ c. not (is_control c)) a (46 ∷ b) p q

pub clean_ip4 : Laws → (a : Ip4) → is_clean (ip4_text a) ≡ true
unfolding ip4_text
clean_ip4 laws a =
    clean_dotted (decimal (a.0 / 2 ^ 24 % 256)) _ (clean_byte laws (a.0 / 2 ^ 24))
    (clean_dotted (decimal (a.0 / 2 ^ 16 % 256)) _ (clean_byte laws (a.0 / 2 ^ 16))
    (clean_dotted (decimal (a.0 / 2 ^ 8 % 256)) _ (clean_byte laws (a.0 / 2 ^ 8)) (clean_byte laws a.0)))

pub clean_mask : Laws → (len : ℕ) → is_clean (mask_text len) ≡ true
unfolding mask_text
clean_mask laws len = clean_ip4 laws (record { 0 = mask_number len })
