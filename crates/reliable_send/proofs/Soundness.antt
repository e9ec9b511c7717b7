-- What holds of every side stays so.
use Rattle.std.proofs.Common.{◌≡◌, ℕ, zero, suc, ◌+◌, ◌-◌, ◌^◌, ◌≤◌, Bool, true, false, cond, List, [], ◌∷◌, ◌++◌, length, drop, map, ap, ◌∙◌, arith}
use Rattle.std.proofs.lemmas.List.{length-append, length-drop, length-map}
use Rattle.std.proofs.lemmas.List.Elements.{All-append, All-cons, All-drop, All-head, All-nil, All-tail}
use Rattle.std.specs.Prelude.{All}
use Rattle.vpn_base.specs.declared.names.Moment.{Moment}
use Rattle.reliable_send.specs.declared.pieces.KeptPiece.{KeptPiece}
use Rattle.reliable_send.specs.Sending.{cut}
use Rattle.reliable_send.specs.internal.Sound.{IsSmall, IsSound, waiting}
use Rattle.reliable_send.specs.internal.Walks.{alter, count_one, counted_pieces, leading, mark}
use Rattle.reliable_send.proofs.Altered.{length-alter}
use Rattle.reliable_send.proofs.Cutting.{fresh, small-cut, waiting-cut}

waiting-append : (ps qs : List KeptPiece) → waiting (ps ++ qs) ≡ waiting ps + waiting qs
waiting-append [] qs = omega arith
waiting-append (p ∷ ps) qs = let rest = waiting-append ps qs in omega (arith, rest)

waiting_drop : (n : ℕ) (ps : List KeptPiece) → waiting (drop n ps) ≤ waiting ps
waiting_drop zero ps = omega arith
waiting_drop (suc n) [] = omega arith
waiting_drop (suc n) (p ∷ ps) = let rest = waiting_drop n ps in omega (arith, rest)

-- a change that makes no piece wait longer
waiting_alter : (change : KeptPiece → KeptPiece) (k : ℕ) (ps : List KeptPiece) → ((p : KeptPiece) → waiting (change p ∷ []) ≤ waiting (p ∷ [])) → waiting (alter change k ps) ≤ waiting ps
waiting_alter change k [] less = omega arith
waiting_alter change zero (p ∷ ps) less = let here = less p in omega (arith, here)
waiting_alter change (suc k) (p ∷ ps) less = let rest = waiting_alter change k ps less in omega (arith, rest)

small_alter : (change : KeptPiece → KeptPiece) (k : ℕ) (ps : List KeptPiece) → ((p : KeptPiece) → IsSmall p → IsSmall (change p)) → All IsSmall ps → All IsSmall (alter change k ps)
small_alter change k [] keeps all = All-nil IsSmall
small_alter change zero (p ∷ ps) keeps all = All-cons IsSmall (change p) ps (keeps p (All-head IsSmall p ps all)) (All-tail IsSmall p ps all)
small_alter change (suc k) (p ∷ ps) keeps all = All-cons IsSmall p (alter change k ps) (All-head IsSmall p ps all) (small_alter change k ps keeps (All-tail IsSmall p ps all))

sound_altered : (change : KeptPiece → KeptPiece) (k t first : ℕ) (ps : List KeptPiece) → ((p : KeptPiece) → waiting (change p ∷ []) ≤ waiting (p ∷ [])) → ((p : KeptPiece) → IsSmall p → IsSmall (change p)) →
    IsSound t first ps → IsSound t first (alter change k ps)
sound_altered change k t first ps less keeps s =
    let same = length-alter change k ps in
    let few = waiting_alter change k ps less in
    record { timeout_fits = s.timeout_fits; ids_fit = omega (arith, s.ids_fit, same); bytes_fit = omega (arith, s.bytes_fit, few); small = small_alter change k ps keeps s.small }

counted_when : (b : Bool) (k t first : ℕ) (now : Moment) (ps : List KeptPiece) → IsSound t first ps → IsSound t first (cond b (alter (count_one t now) k ps) ps)
counted_when true k t first now ps s = sound_altered (count_one t now) k t first ps (λ p. omega arith) (λ p small. small) s
counted_when false k t first now ps s = s

pub sound_counted : (started : Bool) (first t id : ℕ) (now : Moment) (ps : List KeptPiece) → IsSound t first ps → IsSound t first (counted_pieces started first t id now ps)
unfolding counted_pieces
sound_counted started first t id now ps s = counted_when _ (id - first) t first now ps s

mark_less_when : (b : Bool) (p : KeptPiece) → waiting (cond b p (record p { acknowledged = true }) ∷ []) ≤ waiting (p ∷ [])
mark_less_when true p = omega arith
mark_less_when false p = omega arith

mark_small_when : (b : Bool) (p : KeptPiece) → IsSmall p → IsSmall (cond b p (record p { acknowledged = true }))
mark_small_when true p small = small
mark_small_when false p small = small

leading_le_when : (b : Bool) (n m : ℕ) → n ≤ m → cond b (suc n) 0 ≤ suc m
leading_le_when true n m e = omega arith
leading_le_when false n m e = omega arith

pub leading_le : (ps : List KeptPiece) → leading ps ≤ length ps
leading_le [] = omega arith
leading_le (p ∷ ps) = leading_le_when p.acknowledged (leading ps) (length ps) (leading_le ps)

pub sound_acked : (t first k : ℕ) (ps marked : List KeptPiece) → marked ≡ alter mark k ps → IsSound t first ps → IsSound t (first + leading marked) (drop (leading marked) marked)
sound_acked t first k ps marked is s =
    let after : IsSound t first marked = rw is (sound_altered mark k t first ps (λ p. mark_less_when _ p) (λ p small. mark_small_when _ p small) s) in
    let few = leading_le marked in
    let short = length-drop (leading marked) marked in
    let less = waiting_drop (leading marked) marked in
    record { timeout_fits = after.timeout_fits; ids_fit = omega (arith, after.ids_fit, few, short); bytes_fit = omega (arith, after.bytes_fit, less); small = All-drop IsSmall (leading marked) marked after.small }

pub sound_offered : (t first : ℕ) (ps made : List KeptPiece) (bytes : List ℕ) → made ≡ map fresh (cut bytes) → waiting ps + length bytes ≤ 65536 → first + length ps + length (cut bytes) ≤ 2 ^ 32 →
    IsSound t first ps → IsSound t first (ps ++ made)
sound_offered t first ps made bytes is fit ids s =
    let longer = length-append ps made in
    let count : length made ≡ length (cut bytes) = ap length is ∙ length-map (cut bytes) fresh in
    let more = waiting-append ps made in
    let new : waiting made ≡ length bytes = ap waiting is ∙ waiting-cut bytes in
    record { timeout_fits = s.timeout_fits; ids_fit = omega (arith, longer, count); bytes_fit = omega (arith, more, new); small = All-append IsSmall ps made s.small (rw is (small-cut bytes)) }
