-- The front of a file, piece by piece.
use Rattle.std.proofs.Common.{◌≡◌, ℕ, ◌+◌, ◌-◌, ◌<◌, ◌≤◌, min, List, ◌++◌, length, take, drop, ap, sym, ◌∙◌, refl, subst, arith, take-add, length-drop}
use Rattle.std.proofs.lemmas.List.{append-nil, drop_all, take_min, take_all}
use borrow.Rule.Slice.PartMut.{put_mid}
use Rattle.std.proofs.Math.Seq.{take-append-add}
use Rattle.vpn_base.specs.Files.{Holding, Untold, Absent, Held, Copied}
use Rattle.vpn_top.specs.Configuration.{IsFrontOf}

-- the first so many bytes, of which there may be fewer
pub front_least : (n most : ℕ) (text : List ℕ) → n ≡ min (length text) most → take n text ≡ take most text
front_least n most text least =
    ap (λ (m : ℕ). take m text) (least ∙ (omega arith)) ∙ take_min most text

-- so many bytes of the file were read, and stand at the front
abbrev pub IsReadFrom : Holding → ℕ → List ℕ → Type 0
IsReadFrom Untold at bytes = Unit {0}
IsReadFrom Absent at bytes = at ≡ 0
IsReadFrom (Held held) at bytes = (bytes ≡ take at held) × (at ≤ length held)

pub none_read : (h : Holding) (bytes : List ℕ) → IsReadFrom h 0 (take 0 bytes)
none_read Untold bytes = tt
none_read Absent bytes = refl
none_read (Held held) bytes = (refl, omega arith)

split : (at n : ℕ) (bytes piece : List ℕ) → length bytes ≡ at → take (at + n) (bytes ++ piece) ≡ bytes ++ take n piece
split at n bytes piece size =
    subst (λ (m : ℕ). take (m + n) (bytes ++ piece) ≡ bytes ++ take n piece) size (take-append-add bytes piece n)

within : (at n size rest : ℕ) → rest ≡ size - at → n ≤ rest → at ≤ size → at + n ≤ size
within at n size rest is fits before = omega arith

-- a piece more was read
pub more_read : (h : Holding) (at n : ℕ) (bytes piece whole : List ℕ) → length bytes ≡ at → n ≤ length piece → whole ≡ bytes ++ piece → IsReadFrom h at bytes → Copied h at n piece → IsReadFrom h (at + n) (take (at + n) whole)
more_read Untold at n bytes piece whole size fits is before copied = tt
more_read Absent at n bytes piece whole size fits is before copied = absurd copied
more_read (Held held) at n bytes piece whole size fits is before copied = (
  ap (take (at + n)) is ∙ split at n bytes piece size ∙ ap (λ (front : List ℕ). front ++ take n piece) before.0 ∙ ap (λ (next : List ℕ). take at held ++ next) copied.0 ∙ sym (take-add at n held),
  within at n (length held) (length (drop at held)) (length-drop at held) copied.1 before.1,
)

-- the file has ended
pub all_read : (h : Holding) (at most : ℕ) (bytes piece : List ℕ) → 0 < length piece → at ≤ most → IsReadFrom h at bytes → Copied h at 0 piece → IsFrontOf most h bytes
all_read Untold at most bytes piece some fits before copied = tt
all_read Absent at most bytes piece some fits before copied = absurd copied
all_read (Held held) at most bytes piece some fits before copied =
    let ends : length held ≤ at = copied.2 some refl in
    before.0 ∙ take_all at held ends ∙ sym (take_all most held (omega (arith, ends, fits)))

-- the buffer is full
pub full_read : (h : Holding) (at : ℕ) (bytes : List ℕ) → 0 < at → IsReadFrom h at bytes → IsFrontOf at h bytes
full_read Untold at bytes some before = tt
full_read Absent at bytes some before = let never : ⊥ = omega (arith, some, before) in never
full_read (Held held) at bytes some before = before.0

-- what was read behind the first bytes of the buffer
pub put_behind : (at n : ℕ) (xs ys : List ℕ) → at ≤ length xs → n ≡ length xs - at → put_mid at n xs ys ≡ take at xs ++ ys
put_behind at n xs ys within size =
    ap (λ (rest : List ℕ). take at xs ++ (ys ++ rest)) (drop_all n (drop at xs) (omega (arith, length-drop at xs)))
    ∙ ap (λ (l : List ℕ). take at xs ++ l) (append-nil ys)
