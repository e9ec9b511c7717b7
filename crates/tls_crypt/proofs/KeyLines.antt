-- The key's bytes, line by line.
use Rattle.std.proofs.Common.{◌≡◌, ℕ, suc, ◌+◌, List, [], ◌∷◌, ◌++◌, Bool, true, false, cond, if◌then◌else◌, Option, Some, None, Result, Ok, Err, refl, ap, sym, ◌∙◌}
use Rattle.std.proofs.lemmas.List.{append_assoc}
use Rattle.std.specs.Str.{bytes_eq}
use Rattle.std.specs.Result.{MatchResult, result_ok}
use Rattle.hex.specs.declared.error.FromHexError.{FromHexError}
use Rattle.tls_crypt.specs.declared.static_key.KeyFault.{KeyFault}
use Rattle.tls_crypt.specs.declared.static_key.KeyKind.TheVariants.{Digits, NoBegin, NoEnd}
use Rattle.tls_crypt.specs.StaticKey.{behind, with_digits, body, digits_of, from_begin, begin_line, end_line}

abbrev ok_of : Unit {0} → Result (Unit {0}) FromHexError
ok_of u = Ok u

abbrev err_of : FromHexError → Result (Unit {0}) FromHexError
err_of e = Err e

-- bytes behind bytes
pub behind-behind : (a b : List ℕ) (r : Result (List ℕ) KeyFault) → behind a (behind b r) ≡ behind (a ++ b) r
behind-behind a b (Ok more) = ap (λ (l : List ℕ). Ok l) (sym (append_assoc a b more))
behind-behind a b (Err fault) = refl

-- a line of digits
pub body_digits : (count before : ℕ) (lines rest : List (List ℕ)) (line bytes : List ℕ) → lines ≡ line ∷ rest → digits_of line ≡ Some bytes
    → body (suc count) before lines ≡ behind bytes (body count (before + 1) rest)
unfolding body
body_digits count before lines rest line bytes first spelled =
    ap (body (suc count) before) first ∙ ap (λ (d : Option (List ℕ)). with_digits (before + 1) d (body count (before + 1) rest)) spelled

-- a line of anything else
pub body_others : (count before : ℕ) (lines rest : List (List ℕ)) (line : List ℕ) → lines ≡ line ∷ rest → digits_of line ≡ None
    → body (suc count) before lines ≡ Err (record { line = before + 1; kind = Digits })
unfolding body
body_others count before lines rest line first spelled =
    ap (body (suc count) before) first ∙ ap (λ (d : Option (List ℕ)). with_digits (before + 1) d (body count (before + 1) rest)) spelled

-- no line
pub body_missing : (count before : ℕ) (lines : List (List ℕ)) → lines ≡ [] → body (suc count) before lines ≡ Err (record { line = before + 1; kind = Digits })
unfolding body
body_missing count before lines none = ap (body (suc count) before) none

-- what decoding a line into room for 16 bytes answers, as the bytes that it spells
pub spelled : (decoded : Result (List ℕ) FromHexError) (out : List ℕ) (u : Unit {0})
    → MatchResult decoded (λ bytes. (ok_of u ≡ Ok tt) × (out ≡ bytes)) (λ e. ok_of u ≡ Err e) → Some out ≡ result_ok decoded
spelled (Ok bytes) out u h = ap (λ (l : List ℕ). Some l) h.1
spelled (Err e) out u h = cc

pub misspelled : (decoded : Result (List ℕ) FromHexError) (out : List ℕ) (e : FromHexError)
    → MatchResult decoded (λ bytes. (err_of e ≡ Ok tt) × (out ≡ bytes)) (λ f. err_of e ≡ Err f) → None ≡ result_ok decoded
misspelled (Ok bytes) out e h = let no = h.0 in cc
misspelled (Err f) out e h = refl

-- the begin line
pub begin_found : (before : ℕ) (lines rest : List (List ℕ)) (line : List ℕ) → lines ≡ line ∷ rest → true ≡ bytes_eq line begin_line
    → from_begin before lines ≡ body 16 (before + 1) rest
unfolding from_begin
begin_found before lines rest line first is_begin =
    ap (from_begin before) first ∙ ap (λ (b : Bool). cond b (body 16 (before + 1) rest) (from_begin (before + 1) rest)) (sym is_begin)

-- another line
pub begin_passed : (before : ℕ) (lines rest : List (List ℕ)) (line : List ℕ) → lines ≡ line ∷ rest → false ≡ bytes_eq line begin_line
    → from_begin before lines ≡ from_begin (before + 1) rest
unfolding from_begin
begin_passed before lines rest line first is_other =
    ap (from_begin before) first ∙ ap (λ (b : Bool). cond b (body 16 (before + 1) rest) (from_begin (before + 1) rest)) (sym is_other)

-- no line
pub begin_missing : (before : ℕ) (lines : List (List ℕ)) → lines ≡ [] → from_begin before lines ≡ Err (record { line = before; kind = NoBegin })
unfolding from_begin
begin_missing before lines none = ap (from_begin before) none

-- the line where the end line should stand
pub body_end : (before : ℕ) (lines rest : List (List ℕ)) (line : List ℕ) (ends : Bool) → lines ≡ line ∷ rest → ends ≡ bytes_eq line end_line
    → body 0 before lines ≡ (if ends then Ok [] else Err (record { line = before + 1; kind = NoEnd }))
unfolding body
body_end before lines rest line ends first is_end =
    ap (body 0 before) first ∙ ap (λ (b : Bool). cond b (Ok []) (Err (record { line = before + 1; kind = NoEnd }))) (sym is_end)

-- no line where the end line should stand
pub body_unended : (before : ℕ) (lines : List (List ℕ)) → lines ≡ [] → body 0 before lines ≡ Err (record { line = before + 1; kind = NoEnd })
unfolding body
body_unended before lines none = ap (body 0 before) none
