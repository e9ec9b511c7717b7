-- Addresses, written and read again.
use Rattle.std.proofs.Common.{◌≡◌, ℕ, ◌+◌, ◌-◌, ◌*◌, ◌/◌, ◌%◌, ◌^◌, ◌<◌, ◌≤◌, ◌==◌, Bool, true, false, ◌&&◌, List, [], ◌∷◌, ◌++◌, drop, drop-drop, Some, refl, ap, sym, ◌∙◌, arith}
use Rattle.std.proofs.lemmas.List.{append_assoc}
use Rattle.std.proofs.lemmas.Grind.{common_steps}
use Rattle.std.proofs.lemmas.Fmt.{digits_decimal}
use Rattle.std.proofs.lemmas.List.Elements.{All-cons, All-nil}
use Rattle.std.proofs.lemmas.List.Splits.{slice_split_at, slice_split_none}
use Rattle.std.specs.Fmt.{decimal}
use Rattle.std.specs.List.{All, list_all, slice_split}
use Rattle.vpn_base.specs.declared.address.Ip4.{Ip4}
use Rattle.vpn_base.specs.Number.{is_digit}
use Rattle.vpn_base.specs.Address.{of_parts, ip4_of, ip4_text}
use Rattle.vpn_base.proofs.Decimals.{own, reads_decimal}

no_dot : (b : Bool) (c : ℕ) → (is_digit c && b) ≡ true → ((c == 46) ≡ false) × (b ≡ true)
no_dot b c digits = grind (arith, common_steps)

-- digits have no dot among them
no_dots : (ds : List ℕ) → list_all is_digit ds ≡ true → All (λ c. (c == 46) ≡ false) ds
no_dots [] digits = All-nil (λ c. (c == 46) ≡ false)
no_dots (c ∷ cs) digits =
    let parts = no_dot (list_all is_digit cs) c digits in
    All-cons (λ (d : ℕ). (d == 46) ≡ false) c cs parts.0 (no_dots cs parts.1)

part : (n : ℕ) (rest : List ℕ) → n < 256 → slice_split (λ c. c == 46) (decimal n ++ 46 ∷ rest) ≡ decimal n ∷ slice_split (λ c. c == 46) rest
part n rest small = slice_split_at (λ c. c == 46) (decimal n) 46 rest (no_dots (decimal n) (digits_decimal own n (omega arith))) refl

last_part : (n : ℕ) → n < 256 → slice_split (λ c. c == 46) (decimal n) ≡ decimal n ∷ []
last_part n small = slice_split_none (λ c. c == 46) (decimal n) (no_dots (decimal n) (digits_decimal own n (omega arith)))

-- four bytes, joined by dots
pub four_read : (a b c d : ℕ) → a < 256 → b < 256 → c < 256 → d < 256
    → of_parts (slice_split (λ c. c == 46) (decimal a ++ 46 ∷ (decimal b ++ 46 ∷ (decimal c ++ 46 ∷ decimal d))))
    ≡ Some (record { 0 = a * 2 ^ 24 + b * 2 ^ 16 + c * 2 ^ 8 + d })
four_read a b c d p q r s =
    rw (part a _ p, part b _ q, part c _ r, last_part d s)
    (rw (reads_decimal 255 a (omega arith) (omega arith), reads_decimal 255 b (omega arith) (omega arith), reads_decimal 255 c (omega arith) (omega arith), reads_decimal 255 d (omega arith) (omega arith)) refl)

whole : (n : ℕ) → n < 2 ^ 32 → n / 2 ^ 24 % 256 * 2 ^ 24 + n / 2 ^ 16 % 256 * 2 ^ 16 + n / 2 ^ 8 % 256 * 2 ^ 8 + n % 256 ≡ n
whole n small = omega arith

-- an address is read again
pub reads_ip4 : (a : Ip4) → a.0 < 2 ^ 32 → ip4_of (ip4_text a) ≡ Some a
unfolding ip4_of ip4_text
reads_ip4 a small =
    four_read (a.0 / 2 ^ 24 % 256) (a.0 / 2 ^ 16 % 256) (a.0 / 2 ^ 8 % 256) (a.0 % 256) (omega arith) (omega arith) (omega arith) (omega arith)
    ∙ ap (λ (n : ℕ). let address : Ip4 = record { 0 = n } in Some address) (whole a.0 small)

-- four bytes, written one after another
pub joined : (a b c d one two three four : List ℕ) → one ≡ a ++ 46 ∷ [] → two ≡ one ++ (b ++ 46 ∷ []) → three ≡ two ++ (c ++ 46 ∷ [])
    → four ≡ three ++ d → four ≡ a ++ 46 ∷ (b ++ 46 ∷ (c ++ 46 ∷ d))
joined a b c d one two three four p q r s = rw (s, r, q, p) (simp append_assoc)

-- what stays behind a place stays behind a later one
pub later : (m n : ℕ) (xs ys : List ℕ) → m ≤ n → drop m xs ≡ drop m ys → drop n xs ≡ drop n ys
later m n xs ys within same =
    let more : n ≡ m + (n - m) = omega arith in
    rw more (sym (drop-drop (n - m) m xs) ∙ ap (drop (n - m)) same ∙ drop-drop (n - m) m ys)

pub top_byte : (n : ℕ) → n < 2 ^ 32 → n / 2 ^ 24 ≡ n / 2 ^ 24 % 256
top_byte n small = omega arith
