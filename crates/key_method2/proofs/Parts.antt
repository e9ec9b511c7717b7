-- The whole message: its opening, its key source and its texts.
use Rattle.std.proofs.Common.{◌≡◌, ℕ, ◌+◌, ◌<◌, ◌≤◌, List, [], ◌∷◌, ◌++◌, length, take, drop, ltb, false, Option, Some, None, Result, Ok, Err, refl, sym, ap, ◌∙◌, append_assoc, add_assoc, take-add, arith}
use Rattle.std.specs.Option.{unwrap_or}
use Rattle.std.proofs.Math.Seq.{drop-append_seam}
use Rattle.std.proofs.lemmas.Bool.{le-ltb}
use Rattle.std.proofs.lemmas.List.{take_at, drop_at, take_all, length-append, length-drop, length-take-le, take-append-le, drop-append-le}
use Rattle.vpn_base.specs.declared.names.Role.{Role}
use Rattle.vpn_base.specs.declared.names.Role.TheVariants.{Server, Client}
use Rattle.key_method2.specs.declared.message.Source.{Source}
use Rattle.key_method2.specs.declared.message.Km2.{Km2}
use Rattle.key_method2.specs.declared.stop.Stop.{Stop}
use Rattle.key_method2.specs.declared.stop.Stop.TheVariants.{Cut, Wrong}
use Rattle.key_method2.specs.Message.{opening, IsPreMaster, IsSource, source_bytes}
use Rattle.key_method2.specs.Reading.{◌>>=◌, source_length, source_in, source_at, text_at, counted_from, text_from, texts_if_any, message_of, parts_at}
use Rattle.key_method2.proofs.Text.{text_within}
use Rattle.key_method2.proofs.Texts.{pushed, texts_in, if_any-some, drop-add, texts_if_any-counted}
use Rattle.key_method2.proofs.Opening.{differs_again}

abbrev got : {A : Type 0} → A → Result A Stop
got x = Ok x

-- ---- four texts

-- the four texts of the bytes that are left, of which the first has to be there
unfoldable pub four_in : List ℕ → Result (List (List ℕ) × ℕ) Stop
four_in bytes = text_at bytes >>= λ x. pushed x.0 x.1 (texts_in 3 (drop x.1 bytes))

pub four_in-some : (bytes : List ℕ) → 0 < length bytes → four_in bytes ≡ texts_in 4 bytes
unfolding four_in texts_in
four_in-some bytes some = rw (if_any-some bytes some) refl

pub four_in-nothing : four_in [] ≡ Err Cut
unfolding four_in text_at
four_in-nothing = refl

-- ---- behind the source

abbrev pub messaged : Source → Result (List (List ℕ) × ℕ) Stop → Result (Km2 × ℕ) Stop
messaged source (Ok x) = Ok (message_of source x.0, x.1)
messaged source (Err stop) = Err stop

messaged-pushed : (source : Source) (text : List ℕ) (at k : ℕ) (texts : Result (List (List ℕ) × ℕ) Stop)
    → (counted_from (at + k) texts >>= λ others. Ok (message_of source (text ∷ others.0), others.1)) ≡ messaged source (counted_from at (pushed text k texts))
messaged-pushed source text at k (Ok x) = ap (λ (n : ℕ). got (message_of source (text ∷ x.0), n)) (add_assoc at k x.1)
messaged-pushed source text at k (Err Cut) = refl
messaged-pushed source text at k (Err (Wrong place)) = ap (λ (n : ℕ). Err (Wrong n)) (add_assoc at k place)

behind_source : (source : Source) (at : ℕ) (bytes : List ℕ) → at ≤ length bytes
    → (text_from at bytes >>= λ options. texts_if_any 3 options.1 bytes >>= λ others. Ok (message_of source (options.0 ∷ others.0), others.1)) ≡ messaged source (counted_from at (four_in (drop at bytes)))
unfolding four_in text_from
behind_source source at bytes inside = go (text_at (drop at bytes)) refl where
  go : (r : Result (List ℕ × ℕ) Stop) → text_at (drop at bytes) ≡ r
      → (counted_from at (text_at (drop at bytes)) >>= λ options. texts_if_any 3 options.1 bytes >>= λ others. Ok (message_of source (options.0 ∷ others.0), others.1))
      ≡ messaged source (counted_from at (text_at (drop at bytes) >>= λ x. pushed x.0 x.1 (texts_in 3 (drop x.1 (drop at bytes)))))
  go (Ok x) is =
      let within : x.1 ≤ length (drop at bytes) = text_within (drop at bytes) x.0 x.1 is in
      let others = texts_if_any-counted 3 (at + x.1) bytes (omega (arith, length-drop at bytes)) in
      rw (is, others, drop-add at x.1 bytes) (messaged-pushed source x.0 at x.1 (texts_in 3 (drop x.1 (drop at bytes))))
  go (Err Cut) is = rw is refl
  go (Err (Wrong place)) is = rw is refl

-- ---- the source

-- a part of the front is that part of the whole
window : (a b : ℕ) (xs ys : List ℕ) → a + b ≤ length xs → take b (drop a (xs ++ ys)) ≡ take b (drop a xs)
window a b xs ys inside = ap (take b) (drop-append-le a xs ys (omega arith)) ∙ take-append-le b (drop a xs) ys (omega (arith, length-drop a xs))

-- the source does not read past its bytes
source_in-append : (from : Role) (source rest : List ℕ) → length source ≡ source_length from → source_in from (source ++ rest) ≡ source_in from source
source_in-append Server source rest long =
    let one : take 32 (source ++ rest) ≡ take 32 source = take-append-le 32 source rest (omega arith) in
    let two : take 32 (drop 32 (source ++ rest)) ≡ take 32 (drop 32 source) = window 32 32 source rest (omega arith) in
    rw (one, two) refl
source_in-append Client source rest long =
    let pre : take 48 (source ++ rest) ≡ take 48 source = take-append-le 48 source rest (omega arith) in
    let one : take 32 (drop 48 (source ++ rest)) ≡ take 32 (drop 48 source) = window 48 32 source rest (omega arith) in
    let two : take 32 (drop 80 (source ++ rest)) ≡ take 32 (drop 80 source) = window 80 32 source rest (omega arith) in
    rw (pre, one, two) refl

-- a source of so many bytes is a source of that end, and is spelled by them
pub source_in-is : (from : Role) (source : List ℕ) → length source ≡ source_length from → IsSource from (source_in from source) × (source_bytes (source_in from source) ≡ source)
source_in-is Server source long = (
  record {
    pre = tt;
    random1 = length-take-le 32 source (omega arith);
    random2 = length-take-le 32 (drop 32 source) (omega (arith, length-drop 32 source));
  },
  sym (take-add 32 32 source) ∙ take_all 64 source (omega arith),
)
source_in-is Client source long = (
  record {
    pre = length-take-le 48 source (omega arith);
    random1 = length-take-le 32 (drop 48 source) (omega (arith, length-drop 48 source));
    random2 = length-take-le 32 (drop 80 source) (omega (arith, length-drop 80 source));
  },
  ap (λ (front : List ℕ). front ++ take 32 (drop 80 source)) (sym (take-add 48 32 source)) ∙ sym (take-add 80 32 source) ∙ take_all 112 source (omega arith),
)

parts_again : (from : Role) (pre : Option (List ℕ)) (one two : List ℕ) → IsPreMaster from pre → length one ≡ 32 → length two ≡ 32
    → (length (unwrap_or pre [] ++ one ++ two) ≡ source_length from) × (source_in from (unwrap_or pre [] ++ one ++ two) ≡ record { pre = pre; random1 = one; random2 = two })
parts_again Server None one two is long1 long2 =
    (omega (arith, length-append one two), rw (take_at one two 32 long1, drop_at one two 32 long1, take_all 32 two (omega arith)) refl)
parts_again Server (Some pre) one two is long1 long2 = elim is [ ]
parts_again Client None one two is long1 long2 = elim is [ ]
parts_again Client (Some pre) one two is long1 long2 =
    let regrouped : (pre ++ one) ++ two ≡ pre ++ (one ++ two) = append_assoc pre one two in
    let front_long : length (pre ++ one) ≡ 80 = omega (arith, length-append pre one) in
    let first : take 48 ((pre ++ one) ++ two) ≡ pre = ap (take 48) regrouped ∙ take_at pre (one ++ two) 48 is in
    let second : take 32 (drop 48 ((pre ++ one) ++ two)) ≡ one = ap (λ (b : List ℕ). take 32 (drop 48 b)) regrouped ∙ ap (take 32) (drop_at pre (one ++ two) 48 is) ∙ take_at one two 32 long1 in
    let third : take 32 (drop 80 ((pre ++ one) ++ two)) ≡ two = ap (take 32) (drop_at (pre ++ one) two 80 front_long) ∙ take_all 32 two (omega arith) in
    (omega (arith, length-append (pre ++ one) two), rw (first, second, third) refl)

-- a source of an end is read again
pub source_again : (from : Role) (source : Source) → IsSource from source → (length (source_bytes source) ≡ source_length from) × (source_in from (source_bytes source) ≡ source)
source_again from source is = parts_again from source.pre source.random1 source.random2 is.pre is.random1 is.random2

-- ---- the message in three parts

pub parts_at-split : (from : Role) (source rest : List ℕ) → length source ≡ source_length from
    → parts_at from (opening ++ (source ++ rest)) ≡ messaged (source_in from source) (counted_from (5 + source_length from) (four_in rest))
unfolding parts_at source_at
parts_at-split from source rest long =
    let bytes : List ℕ = opening ++ (source ++ rest) in
    let len : length bytes ≡ 5 + (length source + length rest) = omega (arith, length-append source rest) in
    let enough : ltb (length bytes) (5 + source_length from) ≡ false = le-ltb (length bytes) (5 + source_length from) (omega arith) in
    let left : drop (5 + source_length from) bytes ≡ rest = ap (λ (k : ℕ). drop (5 + k) bytes) (sym long) ∙ drop-add 5 (length source) bytes ∙ drop-append_seam source rest in
    let behind = behind_source (source_in from source) (5 + source_length from) bytes (omega arith) in
    rw (differs_again opening (source ++ rest), enough, source_in-append from source rest long) (behind ∙ ap (λ (b : List ℕ). messaged (source_in from source) (counted_from (5 + source_length from) (four_in b))) left)
