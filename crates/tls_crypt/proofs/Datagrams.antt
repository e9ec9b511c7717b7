-- What the steps of wrapping and unwrapping make of a datagram.
use Rattle.std.proofs.Common.{◌≡◌, ℕ, ◌+◌, ◌-◌, ◌≤◌, Bool, true, false, not, List, ◌++◌, length, take, drop, refl, ap, sym, ◌∙◌, arith}
use Rattle.std.proofs.Math.Seq.{take-add}
use Rattle.std.proofs.lemmas.List.{append-nil, length-append, length-take-le, length-drop, drop-drop, drop_all, take_at, drop_at, take-append-drop, take-take}
use Rattle.tls_crypt.specs.Wrapped.{Keys, tag, cipher_text, datagram}
use Rattle.tls_crypt.specs.internal.Laws.{length-cipher_text, length-tag, cipher_text_twice, datagram_front, datagram_tag, datagram_text}
use borrow.Rule.Slice.PartMut.{put_mid}

-- after a write to s[at..]
pub put_mid-end : (at n : ℕ) (xs ys : List ℕ) → at ≤ length xs → n ≡ length xs - at → put_mid at n xs ys ≡ take at xs ++ ys
put_mid-end at n xs ys within size =
    ap (λ (rest : List ℕ). take at xs ++ (ys ++ rest)) (drop_all n (drop at xs) (omega (arith, length-drop at xs)))
    ∙ ap (λ (l : List ℕ). take at xs ++ l) (append-nil ys)

-- a header, a tag and a plain text that is enciphered in place
pub wrapped_in_place : (keys : Keys) (front mac plain before after : List ℕ) → length front ≡ 17 → mac ≡ tag keys front plain
    → before ≡ (front ++ mac) ++ plain → after ≡ take 49 before ++ cipher_text keys mac (drop 49 before) → after ≡ datagram keys front plain
unfolding datagram
wrapped_in_place keys front mac plain before after size is_tag is_before is_after =
    let long : length (front ++ mac) ≡ 49 =
    length-append front mac ∙ ap (λ (n : ℕ). n + length mac) size ∙ ap (λ (n : ℕ). 17 + n) (ap length is_tag ∙ length-tag keys front plain) in
    let head : take 49 before ≡ front ++ mac = ap (take 49) is_before ∙ take_at (front ++ mac) plain 49 long in
    let text : drop 49 before ≡ plain = ap (drop 49) is_before ∙ drop_at (front ++ mac) plain 49 long in
    is_after
    ∙ ap (λ (l : List ℕ). l ++ cipher_text keys mac (drop 49 before)) head
    ∙ ap (λ (l : List ℕ). (front ++ mac) ++ cipher_text keys mac l) text
    ∙ ap (λ (m : List ℕ). (front ++ m) ++ cipher_text keys m plain) is_tag

-- a datagram is as long as its parts
pub length-datagram : (keys : Keys) (front plain : List ℕ) → length front ≡ 17 → length (datagram keys front plain) ≡ 49 + length plain
unfolding datagram
length-datagram keys front plain size =
    let mac = tag keys front plain in
    omega (arith, size, length-tag keys front plain, length-cipher_text keys mac plain, length-append front mac, length-append (front ++ mac) (cipher_text keys mac plain))

-- enciphering in place keeps the header and the tag
pub front_kept : (keys : Keys) (mac before after : List ℕ) → 49 ≤ length before → after ≡ take 49 before ++ cipher_text keys mac (drop 49 before)
    → take 49 after ≡ take 49 before
front_kept keys mac before after long is_after =
    ap (take 49) is_after ∙ take_at (take 49 before) _ 49 (length-take-le 49 before long)

pub header_kept : (keys : Keys) (mac before after : List ℕ) → 49 ≤ length before → after ≡ take 49 before ++ cipher_text keys mac (drop 49 before)
    → take 17 after ≡ take 17 before
header_kept keys mac before after long is_after =
    sym (take-take 17 49 after (omega arith)) ∙ ap (take 17) (front_kept keys mac before after long is_after) ∙ take-take 17 49 before (omega arith)

pub text_enciphered : (keys : Keys) (mac before after : List ℕ) → 49 ≤ length before → after ≡ take 49 before ++ cipher_text keys mac (drop 49 before)
    → drop 49 after ≡ cipher_text keys mac (drop 49 before)
text_enciphered keys mac before after long is_after =
    ap (drop 49) is_after ∙ drop_at (take 49 before) _ 49 (length-take-le 49 before long)

-- enciphering in place twice gives the datagram back
pub restored : (keys : Keys) (mac before after again : List ℕ) → 49 ≤ length before → after ≡ take 49 before ++ cipher_text keys mac (drop 49 before)
    → again ≡ take 49 after ++ cipher_text keys mac (drop 49 after) → again ≡ before
restored keys mac before after again long is_after is_again =
    is_again
    ∙ ap (λ (l : List ℕ). l ++ cipher_text keys mac (drop 49 after)) (front_kept keys mac before after long is_after)
    ∙ ap (λ (l : List ℕ). take 49 before ++ cipher_text keys mac l) (text_enciphered keys mac before after long is_after)
    ∙ ap (λ (l : List ℕ). take 49 before ++ l) (cipher_text_twice keys mac (drop 49 before))
    ∙ take-append-drop 49 before

-- a wrapped datagram has the tag of what it is deciphered to
pub right_tag : (keys : Keys) (front plain mac before after : List ℕ) → length front ≡ 17 → 49 ≤ length before → before ≡ datagram keys front plain
    → mac ≡ take 32 (drop 17 before) → after ≡ take 49 before ++ cipher_text keys mac (drop 49 before) → tag keys (take 17 after) (drop 49 after) ≡ mac
right_tag keys front plain mac before after size long is_wrapped is_mac is_after =
    let macs : mac ≡ tag keys front plain = is_mac ∙ ap (λ (d : List ℕ). take 32 (drop 17 d)) is_wrapped ∙ datagram_tag keys front plain size in
    let fronts : take 17 after ≡ front = header_kept keys mac before after long is_after ∙ ap (take 17) is_wrapped ∙ datagram_front keys front plain size in
    let texts : drop 49 before ≡ cipher_text keys mac plain =
    ap (drop 49) is_wrapped ∙ datagram_text keys front plain size ∙ ap (λ (m : List ℕ). cipher_text keys m plain) (sym macs) in
    let plains : drop 49 after ≡ plain =
    text_enciphered keys mac before after long is_after ∙ ap (cipher_text keys mac) texts ∙ cipher_text_twice keys mac plain in
    ap (λ (f : List ℕ). tag keys f (drop 49 after)) fronts ∙ ap (tag keys front) plains ∙ sym macs

-- a datagram with the tag of what it is deciphered to is wrapped
pub is_wrapped : (keys : Keys) (mac before after : List ℕ) → 49 ≤ length before
    → mac ≡ take 32 (drop 17 before) → after ≡ take 49 before ++ cipher_text keys mac (drop 49 before) → tag keys (take 17 after) (drop 49 after) ≡ mac
    → before ≡ datagram keys (take 17 after) (drop 49 after)
unfolding datagram
is_wrapped keys mac before after long is_mac is_after right =
    let front = take 17 after in
    let plain = drop 49 after in
    let text : cipher_text keys mac plain ≡ drop 49 before =
    ap (cipher_text keys mac) (text_enciphered keys mac before after long is_after) ∙ cipher_text_twice keys mac (drop 49 before) in
    let head : front ++ mac ≡ take 49 before =
    ap (λ (f : List ℕ). f ++ mac) (header_kept keys mac before after long is_after) ∙ ap (λ (m : List ℕ). take 17 before ++ m) is_mac ∙ sym (take-add 17 32 before) in
    sym (ap (λ (m : List ℕ). (front ++ m) ++ cipher_text keys m plain) right
    ∙ ap (λ (l : List ℕ). l ++ cipher_text keys mac plain) head
    ∙ ap (λ (l : List ℕ). take 49 before ++ l) text
    ∙ take-append-drop 49 before)

-- what lies behind a later place is kept as well
pub drop_kept : (a b : ℕ) (xs ys : List ℕ) → a ≤ b → drop a xs ≡ drop a ys → drop b xs ≡ drop b ys
drop_kept a b xs ys below same =
    let e : a + (b - a) ≡ b = omega arith in
    sym (ap (λ (n : ℕ). drop n xs) e) ∙ sym (drop-drop (b - a) a xs) ∙ ap (drop (b - a)) same ∙ drop-drop (b - a) a ys ∙ ap (λ (n : ℕ). drop n ys) e

pub not_false : (b : Bool) → false ≡ not b → b ≡ true
not_false true h = refl
not_false false h = h
