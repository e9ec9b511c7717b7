-- What stands at the front of bytes, as more bytes come behind them.
use Rattle.std.proofs.Common.{◌≡◌, ℕ, suc, ◌+◌, ◌-◌, ◌<◌, ◌≤◌, ◌^◌, Bool, true, false, List, ◌∷◌, ◌++◌, length, take, drop, slice_index, ltb, refl, ap, sym, subst, ◌∙◌, arith}
use Rattle.std.proofs.lemmas.Bool.{ltb-false, le-ltb}
use Rattle.std.proofs.lemmas.List.{drop-append-le, take-append-le, length-append, length-drop, get_or_append_left}
use Rattle.std.proofs.Math.Seq.{drop-append_seam, take-append_seam}
use Rattle.byteorder.specs.Endian.{big_bytes, big_number}
use Rattle.byteorder.specs.Numbers.{big_from-append, big_number-reads_back}
use Rattle.socket_frames.specs.declared.frames.Frame.{Frame}
use Rattle.socket_frames.specs.Frames.{Front, Partial, Faulty, Whole, begun, front, held, is_read, kinded, not_long, sized, spelling, told}

-- more bytes change nothing of a fault, nor of a frame, whose rest they follow
abbrev pub Goes : Front → Front → List ℕ → Type 0
Goes Partial after more = Unit {0}
Goes (Faulty fault) after more = after ≡ Faulty fault
Goes (Whole f rest) after more = after ≡ Whole f (rest ++ more)

-- a frame takes at least one byte
abbrev pub Shortens : Front → ℕ → Type 0
Shortens Partial n = Unit {0}
Shortens (Faulty fault) n = Unit {0}
Shortens (Whole f rest) n = length rest < n

module _ (bytes more : List ℕ) where
  shorter : (n : ℕ) → n ≤ length bytes → ltb (length (bytes ++ more)) n ≡ false
  shorter n within = le-ltb (length (bytes ++ more)) n (subst (λ (k : ℕ). n ≤ k) (sym (length-append bytes more)) (omega arith))

  held_goes : (size : ℕ) (short short' : Bool) → ltb (length bytes) (13 + size) ≡ short → ltb (length (bytes ++ more)) (13 + size) ≡ short' → Goes (held bytes size short) (held (bytes ++ more) size short') more
  held_goes size true short' is is' = tt
  held_goes size false true is is' = absurd (let within = ltb-false _ _ is in let e = shorter (13 + size) within in cc)
  held_goes size false false is is' =
      let within : 13 + size ≤ length bytes = ltb-false _ _ is in
      let kind : slice_index (bytes ++ more) 4 ≡ slice_index bytes 4 = get_or_append_left bytes more 0 4 (omega arith) in
      let behind : 8 ≤ length (drop 5 bytes) = subst (λ (k : ℕ). 8 ≤ k) (sym (length-drop 5 bytes)) (omega arith) in
      let conn : big_number 8 (drop 5 (bytes ++ more)) ≡ big_number 8 (drop 5 bytes) = ap (big_number 8) (drop-append-le 5 bytes more (omega arith)) ∙ big_from-append 8 (drop 5 bytes) more behind in
      let within' : size ≤ length (drop 13 bytes) = subst (λ (k : ℕ). size ≤ k) (sym (length-drop 13 bytes)) (omega arith) in
      let body : take size (drop 13 (bytes ++ more)) ≡ take size (drop 13 bytes) = ap (take size) (drop-append-le 13 bytes more (omega arith)) ∙ take-append-le size (drop 13 bytes) more within' in
      let rest : drop (13 + size) (bytes ++ more) ≡ drop (13 + size) bytes ++ more = drop-append-le (13 + size) bytes more within in
      λ i. Whole (record { kind = kind i; conn = conn i; body = body i }) (rest i)

  kinded_goes : (size : ℕ) (read : Bool) → Goes (kinded bytes size read) (kinded (bytes ++ more) size read) more
  kinded_goes size false = refl
  kinded_goes size true = held_goes size (ltb (length bytes) (13 + size)) (ltb (length (bytes ++ more)) (13 + size)) refl refl

  sized_goes : (size : ℕ) (short short' : Bool) → ltb (length bytes) 5 ≡ short → ltb (length (bytes ++ more)) 5 ≡ short' → Goes (sized bytes size short) (sized (bytes ++ more) size short') more
  sized_goes size true short' is is' = tt
  sized_goes size false true is is' = absurd (let within = ltb-false _ _ is in let e = shorter 5 within in cc)
  sized_goes size false false is is' =
      let within : 5 ≤ length bytes = ltb-false _ _ is in
      let kind : slice_index (bytes ++ more) 4 ≡ slice_index bytes 4 = get_or_append_left bytes more 0 4 (omega arith) in
      subst (λ (k : ℕ). Goes (kinded bytes size (is_read (slice_index bytes 4))) (kinded (bytes ++ more) size (is_read k)) more) (sym kind) (kinded_goes size (is_read (slice_index bytes 4)))

  not_long_goes : (n : ℕ) (short : Bool) → Goes (not_long bytes n short) (not_long (bytes ++ more) n short) more
  not_long_goes n true = refl
  not_long_goes n false = sized_goes (n - 9) (ltb (length bytes) 5) (ltb (length (bytes ++ more)) 5) refl refl

  told_goes : (n : ℕ) (long : Bool) → Goes (told bytes n long) (told (bytes ++ more) n long) more
  told_goes n true = refl
  told_goes n false = not_long_goes n (ltb n 9)

  begun_goes : (short short' : Bool) → ltb (length bytes) 4 ≡ short → ltb (length (bytes ++ more)) 4 ≡ short' → Goes (begun bytes short) (begun (bytes ++ more) short') more
  begun_goes true short' is is' = tt
  begun_goes false true is is' = absurd (let within = ltb-false _ _ is in let e = shorter 4 within in cc)
  begun_goes false false is is' =
      let number : big_number 4 (bytes ++ more) ≡ big_number 4 bytes = big_from-append 4 bytes more (ltb-false _ _ is) in
      subst (λ (n : ℕ). Goes (told bytes (big_number 4 bytes) (ltb 65536 (big_number 4 bytes))) (told (bytes ++ more) n (ltb 65536 n)) more) (sym number) (told_goes (big_number 4 bytes) (ltb 65536 (big_number 4 bytes)))

  -- what stood at the front stands there still
  pub front_goes : Goes (front bytes) (front (bytes ++ more)) more
  unfolding front
  front_goes = begun_goes (ltb (length bytes) 4) (ltb (length (bytes ++ more)) 4) refl refl

module _ (bytes : List ℕ) where
  held_shortens : (size : ℕ) (short : Bool) → ltb (length bytes) (13 + size) ≡ short → Shortens (held bytes size short) (length bytes)
  held_shortens size true is = tt
  held_shortens size false is =
      let within = ltb-false _ _ is in
      subst (λ (n : ℕ). n < length bytes) (sym (length-drop (13 + size) bytes)) (omega arith)

  kinded_shortens : (size : ℕ) (read : Bool) → Shortens (kinded bytes size read) (length bytes)
  kinded_shortens size false = tt
  kinded_shortens size true = held_shortens size (ltb (length bytes) (13 + size)) refl

  sized_shortens : (size : ℕ) (short : Bool) → Shortens (sized bytes size short) (length bytes)
  sized_shortens size true = tt
  sized_shortens size false = kinded_shortens size (is_read (slice_index bytes 4))

  not_long_shortens : (n : ℕ) (short : Bool) → Shortens (not_long bytes n short) (length bytes)
  not_long_shortens n true = tt
  not_long_shortens n false = sized_shortens (n - 9) (ltb (length bytes) 5)

  told_shortens : (n : ℕ) (long : Bool) → Shortens (told bytes n long) (length bytes)
  told_shortens n true = tt
  told_shortens n false = not_long_shortens n (ltb n 9)

  begun_shortens : (short : Bool) → Shortens (begun bytes short) (length bytes)
  begun_shortens true = tt
  begun_shortens false = told_shortens (big_number 4 bytes) (ltb 65536 (big_number 4 bytes))

  -- less is left behind a frame
  pub front_shortens : Shortens (front bytes) (length bytes)
  unfolding front
  front_shortens = begun_shortens (ltb (length bytes) 4)

-- a frame is read behind which anything stands
pub front_spelled : (f : Frame) (rest : List ℕ) → length f.body ≤ 65527 → f.conn < 2 ^ 64 → is_read f.kind ≡ true → front (spelling f ++ rest) ≡ Whole f rest
unfolding front spelling
front_spelled f rest fits conn_fits read =
    let size = length f.body in
    let behind = big_bytes 8 f.conn ++ (f.body ++ rest) in
    let bytes = big_bytes 4 (9 + size) ++ (f.kind ∷ behind) in
    let number : big_number 4 bytes ≡ 9 + size = big_number-reads_back 4 (9 + size) (f.kind ∷ behind) (omega arith) in
    let whole : length bytes ≡ 13 + size + length rest = omega (arith, length-append f.body rest) in
    let conn : big_number 8 behind ≡ f.conn = big_number-reads_back 8 f.conn (f.body ++ rest) conn_fits in
    let reached : (13 + size) ≡ suc (suc (suc (suc (suc (suc (suc (suc (suc (suc (suc (suc (suc size)))))))))))) = omega arith in
    let last : drop (13 + size) bytes ≡ rest = ap (λ (n : ℕ). drop n bytes) reached ∙ drop-append_seam f.body rest in
    ap (begun bytes) (le-ltb (length bytes) 4 (omega arith))
    ∙ ap (λ (n : ℕ). told bytes n (ltb 65536 n)) number
    ∙ ap (told bytes (9 + size)) (le-ltb 65536 (9 + size) (omega arith))
    ∙ ap (not_long bytes (9 + size)) (le-ltb (9 + size) 9 (omega arith))
    ∙ ap (sized bytes (9 + size - 9)) (le-ltb (length bytes) 5 (omega arith))
    ∙ ap (λ (n : ℕ). kinded bytes n (is_read f.kind)) (let e : (9 + size - 9) ≡ size = omega arith in e)
    ∙ ap (kinded bytes size) read
    ∙ ap (held bytes size) (le-ltb (length bytes) (13 + size) (omega arith))
    ∙ (λ i. Whole (record { kind = f.kind; conn = conn i; body = take-append_seam f.body rest i }) (last i))
