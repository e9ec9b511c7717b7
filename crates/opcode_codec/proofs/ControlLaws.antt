-- The plain text of a control packet: what is read is spelled so, and what is spelled so is read.
use Rattle.std.proofs.Common.{◌≡◌, ℕ, zero, suc, ◌+◌, ◌*◌, ◌^◌, ◌<◌, ◌≤◌, Bool, true, false, cond, ltb, eqb, List, [], ◌∷◌, ◌++◌, length, take, drop, Option, Some, None, Result, Ok, Err, refl, sym, ap, subst, ◌∙◌, append_assoc, arith, inl, inr}
use Rattle.std.specs.Prelude.{IfOk, ◌⊎◌}
use Rattle.std.specs.List.{flat_map, AllByRecursion}
use Rattle.std.specs.Int.{w32, from_be_bytes, to_be_bytes}
use Rattle.std.proofs.lemmas.Bool.{ltb-false}
use Rattle.std.proofs.lemmas.List.{append-nil, take_at, drop_at, drop-drop, take-append-drop, length-append, length-take, length-drop}
use Rattle.std.proofs.lemmas.List.Concat.{flat_map-cons}
use Rattle.std.proofs.lemmas.Nat.{be_bytes_4, from_be_bytes-to_be_bytes_4}
use Rattle.vpn_base.specs.declared.names.Acks.{Acks}
use Rattle.vpn_base.specs.declared.names.Sid.{Sid}
use Rattle.vpn_base.specs.declared.names.Malformed.{Malformed}
use Rattle.vpn_base.specs.declared.names.Malformed.TheVariants as faults
use Rattle.opcode_codec.specs.declared.opcodes.Opcode.{Opcode}
use Rattle.opcode_codec.specs.declared.opcodes.Opcode.TheVariants.{Ack}
use Rattle.opcode_codec.specs.declared.control.ControlView.{ControlView}
use Rattle.vpn_base.specs.Acks.{acked}
use Rattle.opcode_codec.specs.ControlText.{ControlForm, control_form, sid_bytes, id_bytes, control_text, IsRemote, AreFields, IsControlText, MayFollow, IsTextOf, numbers_at, fields_at, behind_ids, control_of, seen_control, sent_remote, sent_id, sent_payload, sent_form, HasManyAcks, remote_length, id_length, LacksRemote, IsCutOff}
use Rattle.opcode_codec.proofs.Readings.{IsBytes, IsBytes-take, IsBytes-drop, cut, whole, enough, below}

-- an error is seen as it is
pub seen_err : (r : Result ControlView Malformed) (e : Malformed) → seen_control r ≡ Err e → r ≡ Err e
seen_err (Ok p) e h = cc
seen_err (Err d) e h = cc

-- ---- numbers

-- one number more
pub numbers_more : (n : ℕ) (bytes : List ℕ) → numbers_at (n + 1) bytes ≡ numbers_at n bytes ++ from_be_bytes w32 (take 4 (drop (4 * n) bytes)) ∷ []
unfolding numbers_at
numbers_more zero bytes = refl
numbers_more (suc n) bytes =
    let more : numbers_at (suc (n + 1)) bytes ≡ numbers_at (suc n) bytes ++ from_be_bytes w32 (take 4 (drop (4 * n) (drop 4 bytes))) ∷ [] =
    ap (λ (t : List ℕ). from_be_bytes w32 (take 4 bytes) ∷ t) (numbers_more n (drop 4 bytes)) in
    let at : drop (4 * n) (drop 4 bytes) ≡ drop (4 * suc n) bytes = drop-drop (4 * n) 4 bytes ∙ ap (λ (k : ℕ). drop k bytes) (omega arith) in
    let step : suc n + 1 ≡ suc (n + 1) = omega arith in
    ap (λ (k : ℕ). numbers_at k bytes) step ∙ more ∙ ap (λ (t : List ℕ). numbers_at (suc n) bytes ++ from_be_bytes w32 (take 4 t) ∷ []) at

length-numbers_at : (n : ℕ) (bytes : List ℕ) → length (numbers_at n bytes) ≡ n
unfolding numbers_at
length-numbers_at zero bytes = refl
length-numbers_at (suc n) bytes = ap suc (length-numbers_at n (drop 4 bytes))

numbers_fit : (n : ℕ) (bytes : List ℕ) → IsBytes bytes → AllByRecursion (λ id. id < 2 ^ 32) (numbers_at n bytes)
unfolding numbers_at
numbers_fit zero bytes fits = tt
numbers_fit (suc n) bytes fits =
    let front = IsBytes-take 4 bytes fits in
    (omega (arith, front 0, front 1, front 2, front 3), numbers_fit n (drop 4 bytes) (IsBytes-drop 4 bytes fits))

numbers_spelled : (n : ℕ) (bytes : List ℕ) → IsBytes bytes → 4 * n ≤ length bytes → flat_map (to_be_bytes w32) (numbers_at n bytes) ++ drop (4 * n) bytes ≡ bytes
unfolding numbers_at
numbers_spelled zero bytes fits room = refl
numbers_spelled (suc n) bytes fits room =
    let front = IsBytes-take 4 bytes fits in
    let one : to_be_bytes w32 (from_be_bytes w32 (take 4 bytes)) ≡ take 4 bytes = be_bytes_4 (take 4 bytes) _ (omega (arith, length-take 4 bytes)) front refl in
    let others = numbers_spelled n (drop 4 bytes) (IsBytes-drop 4 bytes fits) (omega (arith, length-drop 4 bytes)) in
    let at : drop (4 * suc n) bytes ≡ drop (4 * n) (drop 4 bytes) = ap (λ (k : ℕ). drop k bytes) (omega arith) ∙ sym (drop-drop (4 * n) 4 bytes) in
    let parts : flat_map (to_be_bytes w32) (numbers_at (suc n) bytes) ≡ take 4 bytes ++ flat_map (to_be_bytes w32) (numbers_at n (drop 4 bytes)) =
    flat_map-cons (to_be_bytes w32) (from_be_bytes w32 (take 4 bytes)) (numbers_at n (drop 4 bytes)) ∙ ap (λ (t : List ℕ). t ++ flat_map (to_be_bytes w32) (numbers_at n (drop 4 bytes))) one in
    ap (λ (t : List ℕ). t ++ drop (4 * suc n) bytes) parts ∙ ap (λ (t : List ℕ). (take 4 bytes ++ flat_map (to_be_bytes w32) (numbers_at n (drop 4 bytes))) ++ t) at
    ∙ append_assoc (take 4 bytes) (flat_map (to_be_bytes w32) (numbers_at n (drop 4 bytes))) (drop (4 * n) (drop 4 bytes))
    ∙ ap (λ (t : List ℕ). take 4 bytes ++ t) others ∙ take-append-drop 4 bytes

numbers_again : (ids tail : List ℕ) → AllByRecursion (λ id. id < 2 ^ 32) ids → numbers_at (length ids) (flat_map (to_be_bytes w32) ids ++ tail) ≡ ids
unfolding numbers_at
numbers_again [] tail fits = refl
numbers_again (id ∷ ids) tail fits =
    let one : from_be_bytes w32 (to_be_bytes w32 id) ≡ id = from_be_bytes-to_be_bytes_4 id fits.0 in
    ap (λ (n : ℕ). n ∷ numbers_at (length ids) (flat_map (to_be_bytes w32) ids ++ tail)) one ∙ ap (λ (t : List ℕ). id ∷ t) (numbers_again ids tail fits.1)

pub length-flat_map : (ids : List ℕ) → length (flat_map (to_be_bytes w32) ids) ≡ 4 * length ids
length-flat_map [] = refl
length-flat_map (id ∷ ids) = omega (arith, length-flat_map ids)

-- ---- errors

-- why a text can't be read, by its count and the length of what is behind it
data WhyNot (op : Opcode) (count len : ℕ) (e : Malformed) : Type 0 where
  many : e ≡ faults.Acks → 8 < count → WhyNot op count len e
  cut_ids : e ≡ faults.Short → count ≤ 8 → len < 4 * count → WhyNot op count len e
  no_remote : e ≡ faults.NoRemote → count ≤ 8 → 4 * count ≤ len → len < 4 * count + remote_length count → WhyNot op count len e
  cut_id : e ≡ faults.Short → count ≤ 8 → 4 * count + remote_length count ≤ len → len < 4 * count + remote_length count + id_length op → WhyNot op count len e

fields_err : (op : Opcode) (ids : List ℕ) (remote : Option Sid) (bytes : List ℕ) (e : Malformed) → fields_at op ids remote bytes ≡ Err e → (e ≡ faults.Short) × (length bytes < id_length op)
unfolding fields_at
fields_err Ack ids remote bytes e h = absurd cc
fields_err op ids remote bytes e h =
    let c = cut (ltb (length bytes) 4) _ faults.Short e h in (sym c.1, grind (arith, c.0))

err_or : {A : Type 0} (b : Bool) (d e : Malformed) (r : Result A Malformed) → cond b (Err d) r ≡ Err e → ((b ≡ true) × (d ≡ e)) ⊎ ((b ≡ false) × (r ≡ Err e))
err_or true d e r h = inl (refl, cc)
err_or false d e r h = inr (refl, h)

not_zero : (n : ℕ) → eqb (suc n) 0 ≡ false
not_zero n = grind arith

behind_err : (op : Opcode) (count : ℕ) (ids bytes : List ℕ) (e : Malformed) → behind_ids op count ids bytes ≡ Err e →
    ((e ≡ faults.NoRemote) × (length bytes < remote_length count))
    ⊎ ((e ≡ faults.Short) × (remote_length count ≤ length bytes) × (length bytes < remote_length count + id_length op))
unfolding behind_ids
behind_err op zero ids bytes e h = let f = fields_err op ids None bytes e h in inr (f.0, omega arith, omega arith)
behind_err op (suc n) ids bytes e h =
    elim (err_or (ltb (length bytes) 8) faults.NoRemote e _ (rw (not_zero n) at h)) [
      | inl l ↦ inl (sym l.1, grind (arith, l.0))
      | inr r ↦ let f = fields_err op ids (Some (record { 0 = take 8 bytes })) (drop 8 bytes) e r.1 in
          inr (f.0, ltb-false _ _ r.0, omega (arith, length-drop 8 bytes, ltb-false (length bytes) 8 r.0))
    ]

why_not : (op : Opcode) (count : ℕ) (rest : List ℕ) (e : Malformed) → control_of op (count ∷ rest) ≡ Err e → WhyNot op count (length rest) e
unfolding control_of
why_not op count rest e h =
    elim (err_or (ltb 8 count) faults.Acks e _ h) [
      | inl l ↦ many (sym l.1) (grind (arith, l.0))
      | inr r ↦ let small : count ≤ 8 = ltb-false _ _ r.0 in
          elim (err_or (ltb (length rest) (4 * count)) faults.Short e _ r.1) [
            | inl l ↦ cut_ids (sym l.1) small (grind (arith, l.0))
            | inr s ↦ let room : 4 * count ≤ length rest = ltb-false _ _ s.0 in
                elim (behind_err op count (numbers_at count rest) (drop (4 * count) rest) e s.1) [
                  | inl l ↦ no_remote l.0 small room (omega (arith, length-drop (4 * count) rest, l.1))
                  | inr t ↦ cut_id t.0 small (omega (arith, length-drop (4 * count) rest, t.1)) (omega (arith, length-drop (4 * count) rest, t.2))
                ]
          ]
    ]

pub many_only : (op : Opcode) (bytes : List ℕ) → control_of op bytes ≡ Err faults.Acks → HasManyAcks bytes
unfolding control_of
many_only op [] h = absurd cc
many_only op (count ∷ rest) h =
    elim (why_not op count rest faults.Acks h) [ many e m ↦ m | cut_ids e a b ↦ absurd cc | no_remote e a b d ↦ absurd cc | cut_id e a b d ↦ absurd cc ]

pub remote_only : (op : Opcode) (bytes : List ℕ) → control_of op bytes ≡ Err faults.NoRemote → LacksRemote bytes
unfolding control_of
remote_only op [] h = absurd cc
remote_only op (count ∷ rest) h =
    elim (why_not op count rest faults.NoRemote h) [ many e m ↦ absurd cc | cut_ids e a b ↦ absurd cc | no_remote e a b d ↦ (a, b, d) | cut_id e a b d ↦ absurd cc ]

pub short_only : (op : Opcode) (bytes : List ℕ) → control_of op bytes ≡ Err faults.Short → IsCutOff op bytes
short_only op [] h = tt
short_only op (count ∷ rest) h =
    elim (why_not op count rest faults.Short h) [ many e m ↦ absurd cc | cut_ids e a b ↦ (a, inl b) | no_remote e a b d ↦ absurd cc | cut_id e a b d ↦ (a, inr (b, d)) ]

pub only_many : (op : Opcode) (bytes : List ℕ) → HasManyAcks bytes → control_of op bytes ≡ Err faults.Acks
unfolding control_of
only_many op [] h = absurd h
only_many op (count ∷ rest) h = rw (below 8 count h) refl

-- with a count in range and all ids there, what is behind them decides
ids_there : (op : Opcode) (count : ℕ) (rest : List ℕ) → count ≤ 8 → 4 * count ≤ length rest →
    control_of op (count ∷ rest) ≡ behind_ids op count (numbers_at count rest) (drop (4 * count) rest)
unfolding control_of
ids_there op count rest small room = rw (enough 8 count small, enough (length rest) (4 * count) room) refl

remote_cut : (op : Opcode) (count : ℕ) (ids bytes : List ℕ) → length bytes < remote_length count → behind_ids op count ids bytes ≡ Err faults.NoRemote
unfolding behind_ids
remote_cut op zero ids bytes h = absurd (omega arith)
remote_cut op (suc n) ids bytes h = rw (not_zero n, below (length bytes) 8 h) refl

pub only_remote : (op : Opcode) (bytes : List ℕ) → LacksRemote bytes → control_of op bytes ≡ Err faults.NoRemote
only_remote op [] h = absurd h
only_remote op (count ∷ rest) h =
    ids_there op count rest h.0 h.1 ∙ remote_cut op count (numbers_at count rest) (drop (4 * count) rest) (omega (arith, length-drop (4 * count) rest, h.1, h.2))

fields_cut : (op : Opcode) (ids : List ℕ) (remote : Option Sid) (bytes : List ℕ) → length bytes < id_length op → fields_at op ids remote bytes ≡ Err faults.Short
unfolding fields_at
fields_cut Ack ids remote bytes h = absurd (omega arith)
fields_cut op ids remote bytes h = rw (below (length bytes) 4 h) refl

-- with the session id there, what is behind it decides
remote_there : (op : Opcode) (count : ℕ) (ids bytes : List ℕ) → remote_length count ≤ length bytes → length bytes < remote_length count + id_length op →
    behind_ids op count ids bytes ≡ Err faults.Short
unfolding behind_ids
remote_there op zero ids bytes room h = fields_cut op ids None bytes (omega arith)
remote_there op (suc n) ids bytes room h =
    rw (not_zero n, enough (length bytes) 8 room) (fields_cut op ids (Some (record { 0 = take 8 bytes })) (drop 8 bytes) (omega (arith, length-drop 8 bytes)))

pub only_short : (op : Opcode) (bytes : List ℕ) → IsCutOff op bytes → control_of op bytes ≡ Err faults.Short
unfolding control_of
only_short op [] h = refl
only_short op (count ∷ rest) h =
    elim h.1 [
      | inl l ↦ rw (enough 8 count h.0, below (length rest) (4 * count) l) refl
      | inr r ↦ ids_there op count rest h.0 (omega (arith, r.0))
          ∙ remote_there op count (numbers_at count rest) (drop (4 * count) rest) (omega (arith, length-drop (4 * count) rest, r.0)) (omega (arith, length-drop (4 * count) rest, r.0, r.1))
    ]

-- ---- what is read is spelled so

ok_or : {A : Type 0} (b : Bool) (d : Malformed) (x : A) (r : Result A Malformed) → cond b (Err d) r ≡ Ok x → (b ≡ false) × (r ≡ Ok x)
ok_or true d x r h = absurd cc
ok_or false d x r h = (refl, h)

abbrev done : ControlForm → Result ControlForm Malformed
done f = Ok f

ok_is : (f g : ControlForm) → done f ≡ done g → f ≡ g
ok_is f g e = cc

-- fields that were read, and what may follow them
record FieldsRead (op : Opcode) (ids : List ℕ) (remote : Option Sid) (bytes : List ℕ) (f : ControlForm) : Type 0 where
  same_ids : f.ids ≡ ids
  same_remote : f.remote ≡ remote
  fit : AreFields op f.id f.payload
  rest : List ℕ
  follows : MayFollow op rest
  spelled : bytes ≡ id_bytes f.id ++ f.payload ++ rest

fields_read : (op : Opcode) (ids : List ℕ) (remote : Option Sid) (bytes : List ℕ) (f : ControlForm) → IsBytes bytes → fields_at op ids remote bytes ≡ Ok f → FieldsRead op ids remote bytes f
unfolding fields_at
fields_read Ack ids remote bytes f fits h =
    subst (λ (g : ControlForm). FieldsRead Ack ids remote bytes g) (ok_is _ f h)
    (record { same_ids = refl; same_remote = refl; fit = refl; rest = bytes; follows = tt; spelled = refl })
fields_read op ids remote bytes f fits h =
    let w = whole (ltb (length bytes) 4) _ f faults.Short h in
    let front = IsBytes-take 4 bytes fits in
    let room : 4 ≤ length bytes = ltb-false _ _ w.0 in
    let small : from_be_bytes w32 (take 4 bytes) < 2 ^ 32 = omega (arith, front 0, front 1, front 2, front 3) in
    let one : to_be_bytes w32 (from_be_bytes w32 (take 4 bytes)) ≡ take 4 bytes = be_bytes_4 (take 4 bytes) _ (omega (arith, length-take 4 bytes)) front refl in
    subst (λ (g : ControlForm). FieldsRead op ids remote bytes g) w.1
    (record {
      same_ids = refl;
      same_remote = refl;
      fit = small;
      rest = [];
      follows = refl;
      spelled = sym (append-nil (to_be_bytes w32 (from_be_bytes w32 (take 4 bytes)) ++ drop 4 bytes) ∙ ap (λ (t : List ℕ). t ++ drop 4 bytes) one ∙ take-append-drop 4 bytes);
    })

regroup : (a b c d e : List ℕ) → (a ++ b) ++ ((c ++ d) ++ e) ≡ (((a ++ b) ++ c) ++ d) ++ e
regroup a b c d e = simp append_assoc

-- fields behind a count, ids and a session id make a text
text_of : (op : Opcode) (ids : List ℕ) (remote : Option Sid) (bytes : List ℕ) (f : ControlForm) → FieldsRead op ids remote bytes f → length ids ≤ 8 →
    AllByRecursion (λ id. id < 2 ^ 32) ids → IsRemote ids remote → IsTextOf op f (((length ids ∷ flat_map (to_be_bytes w32) ids) ++ sid_bytes remote) ++ bytes)
unfolding control_text
text_of op ids remote bytes f r small each there = record {
  fits = record { count = rw r.same_ids small; ids = rw r.same_ids each; remote = rw (r.same_ids, r.same_remote) there; fields = r.fit };
  rest = r.rest;
  follows = r.follows;
  spelled = rw (r.same_ids, r.same_remote) (ap (λ (t : List ℕ). ((length ids ∷ flat_map (to_be_bytes w32) ids) ++ sid_bytes remote) ++ t) r.spelled
      ∙ regroup (length ids ∷ flat_map (to_be_bytes w32) ids) (sid_bytes remote) (id_bytes f.id) f.payload r.rest);
}

behind_found : (op : Opcode) (count : ℕ) (rest : List ℕ) (f : ControlForm) → IsBytes rest → count ≤ 8 → 4 * count ≤ length rest →
    behind_ids op count (numbers_at count rest) (drop (4 * count) rest) ≡ Ok f → IsTextOf op f (count ∷ rest)
unfolding behind_ids numbers_at
behind_found op zero rest f fits small room h =
    text_of op [] None rest f (fields_read op [] None rest f fits h) (omega arith) tt tt
behind_found op (suc n) rest f fits small room h =
    let ids = numbers_at (suc n) rest in
    let bytes = drop (4 * suc n) rest in
    let w = ok_or (ltb (length bytes) 8) faults.NoRemote f _ (rw (not_zero n) at h) in
    let sid : Sid = record { 0 = take 8 bytes } in
    let long : 8 ≤ length bytes = ltb-false _ _ w.0 in
    let r = fields_read op ids (Some sid) (drop 8 bytes) f (IsBytes-drop 8 bytes (IsBytes-drop (4 * suc n) rest fits)) w.1 in
    let size : length ids ≡ suc n = length-numbers_at (suc n) rest in
    let t = text_of op ids (Some sid) (drop 8 bytes) f r (omega (arith, size)) (numbers_fit (suc n) rest fits) (omega (arith, length-take 8 bytes)) in
    let joined : (flat_map (to_be_bytes w32) ids ++ take 8 bytes) ++ drop 8 bytes ≡ rest =
    append_assoc (flat_map (to_be_bytes w32) ids) (take 8 bytes) (drop 8 bytes) ∙ ap (λ (b : List ℕ). flat_map (to_be_bytes w32) ids ++ b) (take-append-drop 8 bytes)
    ∙ numbers_spelled (suc n) rest fits room in
    let whole_text : ((length ids ∷ flat_map (to_be_bytes w32) ids) ++ take 8 bytes) ++ drop 8 bytes ≡ suc n ∷ rest =
    ap (λ (t : List ℕ). length ids ∷ t) joined ∙ ap (λ (k : ℕ). k ∷ rest) size in
    subst (λ (b : List ℕ). IsTextOf op f b) whole_text t

text_found : (op : Opcode) (bytes : List ℕ) (f : ControlForm) → IsBytes bytes → control_of op bytes ≡ Ok f → IsTextOf op f bytes
unfolding control_of
text_found op [] f fits h = absurd cc
text_found op (count ∷ rest) f fits h =
    let a = ok_or (ltb 8 count) faults.Acks f _ h in
    let b = ok_or (ltb (length rest) (4 * count)) faults.Short f _ a.1 in
    behind_found op count rest f (IsBytes-drop 1 (count ∷ rest) fits) (ltb-false _ _ a.0) (ltb-false _ _ b.0) b.1

pub is_found : (r : Result ControlView Malformed) (op : Opcode) (bytes : List ℕ) → IsBytes bytes → seen_control r ≡ control_of op bytes → IfOk r (λ v. IsTextOf op (control_form v) bytes)
is_found (Ok v) op bytes fits h = text_found op bytes (control_form v) fits (sym h)
is_found (Err e) op bytes fits h = tt

-- ---- what is spelled so is read

group : (a b c d e : List ℕ) → (((a ++ b) ++ c) ++ d) ++ e ≡ a ++ (b ++ (c ++ (d ++ e)))
group a b c d e = simp append_assoc

fields_again : (op : Opcode) (ids : List ℕ) (remote : Option Sid) (id : Option ℕ) (payload rest : List ℕ) → AreFields op id payload → MayFollow op rest →
    fields_at op ids remote (id_bytes id ++ (payload ++ rest)) ≡ done (record { ids = ids; remote = remote; id = id; payload = payload })
unfolding fields_at
fields_again Ack ids remote None payload rest fits follows = rw fits refl
fields_again Ack ids remote (Some id) payload rest fits follows = absurd fits
fields_again op ids remote None payload rest fits follows = absurd fits
fields_again op ids remote (Some id) payload rest fits follows =
    let none : payload ++ rest ≡ payload = ap (λ (t : List ℕ). payload ++ t) follows ∙ append-nil payload in
    let number : from_be_bytes w32 (to_be_bytes w32 id) ≡ id = from_be_bytes-to_be_bytes_4 id fits in
    rw (none, enough (length (to_be_bytes w32 id ++ payload)) 4 (omega arith))
    (ap (λ (n : ℕ). done (record { ids = ids; remote = remote; id = Some n; payload = payload })) number)

behind_again : (op : Opcode) (ids : List ℕ) (remote : Option Sid) (id : Option ℕ) (payload rest : List ℕ) → IsRemote ids remote → AreFields op id payload → MayFollow op rest →
    behind_ids op (length ids) ids (sid_bytes remote ++ (id_bytes id ++ (payload ++ rest))) ≡ done (record { ids = ids; remote = remote; id = id; payload = payload })
unfolding behind_ids
behind_again op [] None id payload rest there fits follows = fields_again op [] None id payload rest fits follows
behind_again op [] (Some sid) id payload rest there fits follows = absurd there
behind_again op (x ∷ ids) None id payload rest there fits follows = absurd there
behind_again op (x ∷ ids) (Some sid) id payload rest there fits follows =
    let tail : List ℕ = id_bytes id ++ (payload ++ rest) in
    let long : 8 ≤ length (sid.0 ++ tail) = omega (arith, length-append sid.0 tail, there) in
    rw (not_zero (length ids), enough (length (sid.0 ++ tail)) 8 long, take_at sid.0 tail 8 there, drop_at sid.0 tail 8 there) (fields_again op (x ∷ ids) (Some sid) id payload rest fits follows)

pub text_again : (op : Opcode) (f : ControlForm) (rest : List ℕ) → IsControlText op f → MayFollow op rest → control_of op (control_text f ++ rest) ≡ Ok f
unfolding control_text
text_again op f rest fits follows =
    let ids = flat_map (to_be_bytes w32) f.ids in
    let tail : List ℕ = sid_bytes f.remote ++ (id_bytes f.id ++ (f.payload ++ rest)) in
    let grouped : control_text f ++ rest ≡ length f.ids ∷ (ids ++ tail) = group (length f.ids ∷ ids) (sid_bytes f.remote) (id_bytes f.id) f.payload rest in
    let room : 4 * length f.ids ≤ length (ids ++ tail) = omega (arith, length-append ids tail, length-flat_map f.ids) in
    let read : numbers_at (length f.ids) (ids ++ tail) ≡ f.ids = numbers_again f.ids tail fits.ids in
    let left : drop (4 * length f.ids) (ids ++ tail) ≡ tail = drop_at ids tail (4 * length f.ids) (length-flat_map f.ids) in
    ap (control_of op) grouped ∙ ids_there op (length f.ids) (ids ++ tail) fits.count room
    ∙ ap (λ (n : List ℕ). behind_ids op (length f.ids) n (drop (4 * length f.ids) (ids ++ tail))) read ∙ ap (λ (t : List ℕ). behind_ids op (length f.ids) f.ids t) left
    ∙ behind_again op f.ids f.remote f.id f.payload rest fits.remote fits.fields follows

-- ---- what is written

pub all_push : (xs : List ℕ) (x : ℕ) → AllByRecursion (λ id. id < 2 ^ 32) xs → x < 2 ^ 32 → AllByRecursion (λ id. id < 2 ^ 32) (xs ++ x ∷ [])
all_push [] x each small = (small, tt)
all_push (y ∷ xs) x each small = (each.0, all_push xs x each.1 small)

-- the parts that are written are the text
pub sent_text : (op : Opcode) (acks : Acks) (remote : Sid) (id : ℕ) (payload : List ℕ) → length (acked acks) ≡ acks.count →
    ((acks.count ∷ flat_map (to_be_bytes w32) (acked acks)) ++ sid_bytes (sent_remote acks.count remote)) ++ (id_bytes (sent_id op id) ++ sent_payload op payload)
    ≡ control_text (sent_form op acks remote id payload)
unfolding control_text
sent_text op acks remote id payload count =
    rw count (sym (append_assoc ((acks.count ∷ flat_map (to_be_bytes w32) (acked acks)) ++ sid_bytes (sent_remote acks.count remote)) (id_bytes (sent_id op id)) (sent_payload op payload)))

remote_sent : (ids : List ℕ) (count : ℕ) (remote : Sid) → length ids ≡ count → length remote.0 ≡ 8 → IsRemote ids (sent_remote count remote)
remote_sent [] zero remote same size = tt
remote_sent [] (suc n) remote same size = absurd (omega arith)
remote_sent (x ∷ ids) zero remote same size = absurd (omega arith)
remote_sent (x ∷ ids) (suc n) remote same size = rw (not_zero n) size

fields_sent : (op : Opcode) (id : ℕ) (payload : List ℕ) → id < 2 ^ 32 → AreFields op (sent_id op id) (sent_payload op payload)
fields_sent Ack id payload small = refl
fields_sent op id payload small = small

nothing_follows : (op : Opcode) → MayFollow op []
nothing_follows Ack = tt
nothing_follows op = refl

-- what is written is read again
pub sent_again : (op : Opcode) (acks : Acks) (remote : Sid) (id : ℕ) (payload : List ℕ) → length (acked acks) ≡ acks.count → acks.count ≤ 8 →
    AllByRecursion (λ id. id < 2 ^ 32) (acked acks) → length remote.0 ≡ 8 → id < 2 ^ 32 →
    control_of op (control_text (sent_form op acks remote id payload)) ≡ Ok (sent_form op acks remote id payload)
sent_again op acks remote id payload count small each size fits =
    let f : ControlForm = sent_form op acks remote id payload in
    let is : IsControlText op f = record { count = omega (arith, count); ids = each; remote = remote_sent (acked acks) acks.count remote count size; fields = fields_sent op id payload fits } in
    ap (control_of op) (sym (append-nil (control_text f))) ∙ text_again op f [] is (nothing_follows op)
