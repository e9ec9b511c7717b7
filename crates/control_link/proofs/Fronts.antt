-- The pieces of a text joined are the text, and packets bring them.
use Rattle.std.proofs.Common.{◌≡◌, ℕ, zero, suc, ◌≤◌, List, [], ◌∷◌, ◌++◌, length, take, drop, Option, Some, None, ap, sym, ◌∙◌, refl, arith}
use Rattle.std.specs.List.{AllByRecursion, concat, flat_map}
use Rattle.std.proofs.lemmas.List.{append_assoc, length-drop, take-append-drop}
use Rattle.opcode_codec.specs.ControlText.{ControlForm}
use Rattle.reliable_send.specs.Sending.{cut, cut_into}
use Rattle.reliable_recv.specs.Prefix.{CarryPieces}
use Rattle.reliable_recv.specs.Receiving.{Arrival}
use Rattle.control_link.specs.Texts.{Carries, CarriesPiece, arrival_of, arrivals_of}

concat-cut_into : (most : ℕ) (bytes : List ℕ) → length bytes ≤ most → concat (cut_into most bytes) ≡ bytes
unfolding cut_into
concat-cut_into zero [] within = refl
concat-cut_into zero (b ∷ bytes) within = absurd (omega arith)
concat-cut_into (suc most) [] within = refl
concat-cut_into (suc most) (b ∷ bytes) within =
    let whole : List ℕ = b ∷ bytes in
    let rest : length (drop 1100 whole) ≤ most = omega (arith, length-drop 1100 whole) in
    ap (λ (t : List ℕ). take 1100 whole ++ t) (concat-cut_into most (drop 1100 whole) rest) ∙ take-append-drop 1100 whole

concat-append : (xs ys : List (List ℕ)) → concat (xs ++ ys) ≡ concat xs ++ concat ys
concat-append [] ys = refl
concat-append (x ∷ xs) ys = ap (λ (t : List ℕ). x ++ t) (concat-append xs ys) ∙ sym (append_assoc x (concat xs) (concat ys))

-- the pieces of all parts joined are the parts joined
pub concat-cuts : (parts : List (List ℕ)) → concat (flat_map cut parts) ≡ concat parts
concat-cuts [] = refl
concat-cuts (part ∷ parts) =
    let all : length part ≤ length part = omega arith in
    concat-append (cut part) (flat_map cut parts)
    ∙ ap (λ (t : List ℕ). t ++ concat (flat_map cut parts)) (concat-cut_into (length part) part all)
    ∙ ap (λ (t : List ℕ). part ++ t) (concat-cuts parts)

carry_one : (pieces : List (List ℕ)) (id : Option ℕ) (payload : List ℕ) (rest : List Arrival) → CarriesPiece pieces id payload → CarryPieces pieces rest → CarryPieces pieces (arrival_of id payload ++ rest)
carry_one pieces None payload rest one more = more
carry_one pieces (Some id) payload rest one more = (one, more)

-- what they bring carries the pieces
pub carry_arrivals : (pieces : List (List ℕ)) (packets : List ControlForm) → AllByRecursion (Carries pieces) packets → CarryPieces pieces (arrivals_of packets)
carry_arrivals pieces [] carry = tt
carry_arrivals pieces (v ∷ packets) carry = carry_one pieces v.id v.payload (arrivals_of packets) carry.0 (carry_arrivals pieces packets carry.1)
