-- The front of a file, piece by piece.
use Rattle.std.proofs.Common.{◌≡◌, ℕ, ◌+◌, ◌^◌, ◌<◌, ◌≤◌, List, ◌++◌, length, take, ap, sym, ◌∙◌, arith, take-add, take_all, length-append, length-take-le}
use Rattle.std.proofs.lemmas.List.{append-nil, take-take}
use Rattle.vpn_base.specs.Files.{Holding, Untold, Absent, Held, Copied}
use Rattle.replay_links.specs.Fronts.{IsAll, IsFrontOf, ReadFrom}

-- a piece more was read
pub grown : (h : Holding) (before now buffer : List ℕ) (n : ℕ) → now ≡ before ++ take n buffer → n ≤ length buffer → Copied h (length before) n buffer → ReadFrom h before → ReadFrom h now
grown Untold before now buffer n is fits copied read = tt
grown Absent before now buffer n is fits copied read = absurd copied
grown (Held held) before now buffer n is fits copied read =
    let size : length now ≡ length before + n = omega (arith, ap length is, length-append before (take n buffer), length-take-le n buffer fits) in
    is ∙ (ap (λ l. l ++ take n buffer) read
    ∙ (ap (λ l. take (length before) held ++ l) copied.0
    ∙ (sym (take-add (length before) n held)
    ∙ ap (λ m. take m held) (sym size))))

-- the file has ended
pub ended : (h : Holding) (before now buffer : List ℕ) (n : ℕ) → now ≡ before ++ take n buffer → n ≡ 0 → 0 < length buffer → Copied h (length before) n buffer → ReadFrom h before → IsAll h now
ended Untold before now buffer n is none some copied read = tt
ended Absent before now buffer n is none some copied read = absurd copied
ended (Held held) before now buffer n is none some copied read =
    is ∙ (ap (λ m. before ++ take m buffer) none ∙ (append-nil before ∙ (read ∙ take_all (length before) held (copied.2 some none))))

-- a file that was read to its end, within the limit
pub front_whole : (h : Holding) (now : List ℕ) → IsAll h now → length now ≤ 2 ^ 40 + 1 → IsFrontOf h now
front_whole Untold now all small = small
front_whole Absent now all small = absurd all
front_whole (Held held) now all small = (all ∙ sym (take_all (2 ^ 40 + 1) held (omega (arith, ap length all, small))), small)

-- one that was read past it
pub front_cut : (h : Holding) (text now : List ℕ) → ReadFrom h text → 2 ^ 40 + 1 ≤ length text → now ≡ take (2 ^ 40 + 1) text → IsFrontOf h now
front_cut Untold text now read long cut = omega (arith, ap length cut, length-take-le (2 ^ 40 + 1) text long)
front_cut Absent text now read long cut = absurd (omega (arith, ap length read, long))
front_cut (Held held) text now read long cut = (
  cut ∙ (ap (take (2 ^ 40 + 1)) read ∙ take-take (2 ^ 40 + 1) (length text) held long),
  omega (arith, ap length cut, length-take-le (2 ^ 40 + 1) text long),
)
