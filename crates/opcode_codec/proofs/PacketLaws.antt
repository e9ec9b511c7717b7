-- What is read is spelled so, what is spelled so is read, and which error comes when.
use Rattle.std.proofs.Common.{◌≡◌, ℕ, ◌+◌, ◌*◌, ◌/◌, ◌%◌, ◌^◌, ◌<◌, ◌≤◌, Bool, true, false, cond, ltb, eqb, List, [], ◌∷◌, ◌++◌, length, take, drop, Option, Some, None, Result, Ok, Err, refl, sym, ap, subst, ◌∙◌, append_assoc, arith}
use Rattle.std.specs.Prelude.{IfOk}
use Rattle.std.specs.Int.{w32, from_be_bytes, to_be_bytes}
use Rattle.std.proofs.lemmas.Bool.{ltb-false}
use Rattle.std.proofs.lemmas.List.{take_at, drop_at, drop-drop, take-append-drop, length-append, length-take, length-drop}
use Rattle.std.proofs.lemmas.Nat.{be_bytes_4, from_be_bytes-to_be_bytes_4}
use Rattle.vpn_base.specs.declared.names.Sid.{Sid}
use Rattle.vpn_base.specs.declared.names.Malformed.{Malformed}
use Rattle.vpn_base.specs.declared.names.Malformed.TheVariants as faults
use Rattle.opcode_codec.specs.declared.opcodes.Opcode.{Opcode}
use Rattle.opcode_codec.specs.declared.opcodes.Opcode.TheVariants.{SoftReset, Control, Ack, ClientReset, ServerReset, DataV2}
use Rattle.opcode_codec.specs.declared.packets.Packet.{Packet}
use Rattle.opcode_codec.specs.declared.packets.Packet.TheVariants as packets
use Rattle.opcode_codec.proofs.Readings.{IsBytes, IsBytes-take, IsBytes-drop, cut, whole, enough}
use Rattle.opcode_codec.specs.FirstByte.{code, first_byte, opcode_numbered, opcode_of}
use Rattle.opcode_codec.specs.DataPacket.{DataForm, IsData, data_form, data_of, data_head, data_packet, three_bytes}
use Rattle.opcode_codec.specs.Packet.{PacketForm, Wrapped, Inner, WrappedForm, IsWrapped, IsControl, wrapped_packet, packet_form, seen, shortest, form_behind, packet_with, packet_of, BeginsWith, IsCutBehind, IsCut, IsSpelled}

-- ---- answers

-- an error is seen as it is
pub seen_err : (r : Result Packet Malformed) (e : Malformed) → seen r ≡ Err e → r ≡ Err e
seen_err (Ok p) e h = cc
seen_err (Err d) e h = cc

-- ---- errors

not_empty : (o : Option Opcode) (first : ℕ) (rest : List ℕ) → packet_with o first rest ≡ Err faults.Empty → ⊥
not_empty None first rest h = cc
not_empty (Some op) first rest h =
    let d = (cut (ltb (length (first ∷ rest)) (shortest op)) (form_behind op first rest) faults.Short faults.Empty h).1 in cc

pub empty_only : (bytes : List ℕ) → packet_of bytes ≡ Err faults.Empty → bytes ≡ []
unfolding packet_of
empty_only [] h = refl
empty_only (first ∷ rest) h = absurd (not_empty (opcode_of first) first rest h)

pub only_empty : (bytes : List ℕ) → bytes ≡ [] → packet_of bytes ≡ Err faults.Empty
unfolding packet_of
only_empty bytes h = rw h refl

unknown_behind : (o : Option Opcode) (n first : ℕ) (rest : List ℕ) → packet_with o first rest ≡ Err (faults.Opcode n) → (first ≡ n) × (o ≡ None)
unknown_behind None n first rest h = (cc, refl)
unknown_behind (Some op) n first rest h =
    let d = (cut (ltb (length (first ∷ rest)) (shortest op)) (form_behind op first rest) faults.Short (faults.Opcode n) h).1 in absurd cc

pub unknown_only : (n : ℕ) (bytes : List ℕ) → packet_of bytes ≡ Err (faults.Opcode n) → BeginsWith n bytes × (opcode_of n ≡ None)
unfolding packet_of
unknown_only n [] h = absurd cc
unknown_only n (first ∷ rest) h =
    let u = unknown_behind (opcode_of first) n first rest h in (ap (λ (b : ℕ). b ∷ []) u.0, ap opcode_of (sym u.0) ∙ u.1)

pub only_unknown : (n : ℕ) (bytes : List ℕ) → BeginsWith n bytes → opcode_of n ≡ None → packet_of bytes ≡ Err (faults.Opcode n)
unfolding packet_of
only_unknown n [] begins unknown = absurd cc
only_unknown n (first ∷ rest) begins unknown =
    let same : first ≡ n = cc in rw same (rw unknown refl)

cut_behind : (o : Option Opcode) (first : ℕ) (rest : List ℕ) → packet_with o first rest ≡ Err faults.Short → IsCutBehind o (length (first ∷ rest))
cut_behind None first rest h = absurd cc
cut_behind (Some op) first rest h =
    let c = (cut (ltb (length (first ∷ rest)) (shortest op)) (form_behind op first rest) faults.Short faults.Short h).0 in grind arith

pub cut_only : (bytes : List ℕ) → packet_of bytes ≡ Err faults.Short → IsCut bytes
unfolding packet_of
cut_only [] h = absurd cc
cut_only (first ∷ rest) h = cut_behind (opcode_of first) first rest h

behind_cut : (o : Option Opcode) (first : ℕ) (rest : List ℕ) → IsCutBehind o (length (first ∷ rest)) → packet_with o first rest ≡ Err faults.Short
behind_cut None first rest h = absurd h
behind_cut (Some op) first rest h =
    let below : ltb (length (first ∷ rest)) (shortest op) ≡ true = grind arith in rw below refl

pub only_cut : (bytes : List ℕ) → IsCut bytes → packet_of bytes ≡ Err faults.Short
unfolding packet_of
only_cut [] h = absurd h
only_cut (first ∷ rest) h = behind_cut (opcode_of first) first rest h

-- ---- first bytes

pub code_below : (op : Opcode) (kid : ℕ) → kid < 8 → opcode_of (first_byte op kid) ≡ Some op
code_below SoftReset kid small = let n : (24 + kid) / 8 ≡ 3 = omega arith in rw n refl
code_below Control kid small = let n : (32 + kid) / 8 ≡ 4 = omega arith in rw n refl
code_below Ack kid small = let n : (40 + kid) / 8 ≡ 5 = omega arith in rw n refl
code_below ClientReset kid small = let n : (56 + kid) / 8 ≡ 7 = omega arith in rw n refl
code_below ServerReset kid small = let n : (64 + kid) / 8 ≡ 8 = omega arith in rw n refl
code_below DataV2 kid small = let n : (72 + kid) / 8 ≡ 9 = omega arith in rw n refl

chosen : (b : Bool) (m : Opcode) (rest : Option Opcode) (op : Opcode) (P : Type 0) →
    cond b (Some m) rest ≡ Some op → (b ≡ true → m ≡ op → P) → (rest ≡ Some op → P) → P
chosen true m rest op P h there other = there refl cc
chosen false m rest op P h there other = other h

code_is : (n : ℕ) (op : Opcode) → opcode_numbered n ≡ Some op → code op ≡ n
code_is n op h =
    chosen (eqb n 3) SoftReset _ op (code op ≡ n) h (λ is m. rw (← m) (grind arith))
    (λ h. chosen (eqb n 4) Control _ op (code op ≡ n) h (λ is m. rw (← m) (grind arith))
    (λ h. chosen (eqb n 5) Ack _ op (code op ≡ n) h (λ is m. rw (← m) (grind arith))
    (λ h. chosen (eqb n 7) ClientReset _ op (code op ≡ n) h (λ is m. rw (← m) (grind arith))
    (λ h. chosen (eqb n 8) ServerReset _ op (code op ≡ n) h (λ is m. rw (← m) (grind arith))
    (λ h. chosen (eqb n 9) DataV2 None op (code op ≡ n) h (λ is m. rw (← m) (grind arith))
    (λ (h : None ≡ Some op). absurd cc))))))

first_is : (first : ℕ) (op : Opcode) → opcode_of first ≡ Some op → first_byte op (first % 8) ≡ first
first_is first op h = let c : code op ≡ first / 8 = code_is (first / 8) op h in rw c (omega arith)

-- ---- what is read is spelled so

-- a packet that was read has an opcode, and enough bytes
pub record IsReadAs (o : Option Opcode) (first : ℕ) (rest : List ℕ) (x : PacketForm) : Type 0 where
  pub op : Opcode
  pub is : o ≡ Some op
  pub long : shortest op ≤ length (first ∷ rest)
  pub form : form_behind op first rest ≡ x

read_as : (o : Option Opcode) (first : ℕ) (rest : List ℕ) (x : PacketForm) → packet_with o first rest ≡ Ok x → IsReadAs o first rest x
read_as None first rest x h = absurd cc
read_as (Some op) first rest x h =
    let w = whole (ltb (length (first ∷ rest)) (shortest op)) (form_behind op first rest) x faults.Short h in
    record { op = op; is = refl; long = ltb-false _ _ w.0; form = w.1 }

three_of : (a b c : ℕ) → a < 256 → b < 256 → c < 256 → three_bytes (from_be_bytes w32 (0 ∷ a ∷ b ∷ c ∷ [])) ≡ a ∷ b ∷ c ∷ []
three_of a b c sa sb sc =
    let n : from_be_bytes w32 (0 ∷ a ∷ b ∷ c ∷ []) ≡ a * 65536 + b * 256 + c = omega arith in
    let high : (a * 65536 + b * 256 + c) / 65536 ≡ a = omega arith in
    let middle : (a * 65536 + b * 256 + c) / 256 % 256 ≡ b = omega arith in
    let low : (a * 65536 + b * 256 + c) % 256 ≡ c = omega arith in
    ap three_bytes n ∙ rw (high, middle, low) refl

wrapped_found : (other op : Opcode) (kid : ℕ) (sid : Sid) (first : ℕ) (rest : List ℕ) → opcode_of first ≡ Some other →
    shortest other ≤ length (first ∷ rest) → form_behind other first rest ≡ Wrapped op kid sid → IsSpelled (packets.Wrapped op kid sid) (first ∷ rest)
wrapped_found DataV2 op kid sid first rest is long form = absurd cc
wrapped_found other op kid sid first rest is long form =
    let same : other ≡ op = cc in
    let key : first % 8 ≡ kid = cc in
    let begins : first_byte op kid ≡ first = rw (← key) (first_is first op (is ∙ ap (λ o. Some o) same)) in
    let id : take 8 rest ≡ sid.0 = ap (λ (s : Sid). s.0) cc in
    ((λ d. cc), omega arith, rw begins (ap (λ (t : List ℕ). first ∷ t) id), long)

-- a packet by its parts
abbrev parts : ℕ → List ℕ → List ℕ → List ℕ → List ℕ
parts head peer id behind = head ∷ peer ++ id ++ behind

same_packet : {h k : ℕ} {p q i j t u : List ℕ} → h ≡ k → p ≡ q → i ≡ j → t ≡ u → parts h p i t ≡ parts k q j u
same_packet eh ep ei et = cc

data_fits : (first a b c : ℕ) (rest : List ℕ) → IsBytes (first ∷ a ∷ b ∷ c ∷ rest) → opcode_of first ≡ Some DataV2 →
    24 ≤ length (first ∷ a ∷ b ∷ c ∷ rest) → IsData (data_of (first % 8) (a ∷ b ∷ c ∷ rest)) × (first ∷ a ∷ b ∷ c ∷ rest ≡ data_packet (data_of (first % 8) (a ∷ b ∷ c ∷ rest)))
unfolding data_packet data_head
data_fits first a b c rest bytes is long =
    let behind : IsBytes rest = IsBytes-drop 4 (first ∷ a ∷ b ∷ c ∷ rest) bytes in
    let head : 72 + first % 8 ≡ first = first_is first DataV2 is in
    let peer = three_of a b c (bytes 1) (bytes 2) (bytes 3) in
    let id : to_be_bytes w32 (from_be_bytes w32 (take 4 rest)) ≡ take 4 rest =
    be_bytes_4 (take 4 rest) _ (omega (arith, length-take 4 rest)) (IsBytes-take 4 rest behind) refl in
    let n : from_be_bytes w32 (take 4 rest) < 2 ^ 32 = omega (arith, IsBytes-take 4 rest behind 0, IsBytes-take 4 rest behind 1, IsBytes-take 4 rest behind 2, IsBytes-take 4 rest behind 3) in (
      record { kid = omega arith; peer = omega (arith, bytes 1, bytes 2, bytes 3); id = n; tag = omega (arith, length-take 16 (drop 4 rest), length-drop 4 rest) },
      sym (same_packet head peer id (rw (← drop-drop 16 4 rest) (take-append-drop 16 (drop 4 rest))) ∙ ap (λ (t : List ℕ). first ∷ a ∷ b ∷ c ∷ t) (take-append-drop 4 rest)),
    )

data_found : (f : DataForm) (first : ℕ) (rest : List ℕ) → IsBytes (first ∷ rest) → opcode_of first ≡ Some DataV2 →
    24 ≤ length (first ∷ rest) → data_of (first % 8) rest ≡ f → IsData f × (first ∷ rest ≡ data_packet f)
data_found f first [] bytes is long form = absurd (omega arith)
data_found f first (a ∷ []) bytes is long form = absurd (omega arith)
data_found f first (a ∷ b ∷ []) bytes is long form = absurd (omega arith)
data_found f first (a ∷ b ∷ c ∷ rest) bytes is long form =
    subst (λ (g : DataForm). IsData g × (first ∷ a ∷ b ∷ c ∷ rest ≡ data_packet g)) form (data_fits first a b c rest bytes is long)

inner_found : (other : Opcode) (f : DataForm) (first : ℕ) (rest : List ℕ) → IsBytes (first ∷ rest) → opcode_of first ≡ Some other →
    shortest other ≤ length (first ∷ rest) → form_behind other first rest ≡ Inner f → IsData f × (first ∷ rest ≡ data_packet f)
inner_found DataV2 f first rest bytes is long form = data_found f first rest bytes is long cc
inner_found other f first rest bytes is long form = absurd cc

found : (p : Packet) (bytes : List ℕ) → IsBytes bytes → packet_of bytes ≡ Ok (packet_form p) → IsSpelled p bytes
unfolding packet_of
found p [] fits h = absurd cc
found (packets.Wrapped op kid sid) (first ∷ rest) fits h =
    let r = read_as (opcode_of first) first rest (Wrapped op kid sid) h in
    wrapped_found r.op op kid sid first rest r.is r.long r.form
found (packets.Inner view) (first ∷ rest) fits h =
    let r = read_as (opcode_of first) first rest (Inner (data_form view)) h in
    inner_found r.op (data_form view) first rest fits r.is r.long r.form

pub is_found : (r : Result Packet Malformed) (bytes : List ℕ) → IsBytes bytes → seen r ≡ packet_of bytes → IfOk r (λ p. IsSpelled p bytes)
is_found (Ok p) bytes fits h = found p bytes fits (sym h)
is_found (Err e) bytes fits h = tt

-- ---- what is spelled so is read

long_enough : (o : Option Opcode) (op : Opcode) (first : ℕ) (rest : List ℕ) → o ≡ Some op → shortest op ≤ length (first ∷ rest) →
    packet_with o first rest ≡ Ok (form_behind op first rest)
long_enough o op first rest is long = rw (is, enough (length (first ∷ rest)) (shortest op) long) refl

peer_again : (peer : ℕ) → peer < 2 ^ 24 → from_be_bytes w32 (0 ∷ three_bytes peer) ≡ peer
peer_again peer small = omega arith

same_form : (k p i : ℕ) (t s : List ℕ) (f : DataForm) → k ≡ f.kid → p ≡ f.peer → i ≡ f.id → t ≡ f.tag → s ≡ f.sealed →
    Inner (record { kid = k; peer = p; id = i; tag = t; sealed = s }) ≡ Inner f
same_form k p i t s f ek ep ei et es = rw (ek, ep, ei, et, es) refl

pub data_again : (f : DataForm) → IsData f → packet_of (data_packet f) ≡ Ok (Inner f)
unfolding packet_of data_packet data_head
data_again f fits =
    let first = 72 + f.kid in
    let rest : List ℕ = three_bytes f.peer ++ to_be_bytes w32 f.id ++ (f.tag ++ f.sealed) in
    let long : 24 ≤ length (first ∷ rest) = omega (arith, fits.tag, length-append f.tag f.sealed) in
    let is : opcode_of first ≡ Some DataV2 = code_below DataV2 f.kid fits.kid in
    let key : first % 8 ≡ f.kid = omega (arith, fits.kid) in
    long_enough (opcode_of first) DataV2 first rest is long
    ∙ ap (λ (x : PacketForm). Ok x) (same_form _ _ _ _ _ f key (peer_again f.peer fits.peer) (from_be_bytes-to_be_bytes_4 f.id fits.id)
    (take_at f.tag f.sealed 16 fits.tag) (drop_at f.tag f.sealed 16 fits.tag))

control_form : (op : Opcode) (first : ℕ) (rest : List ℕ) → IsControl op → form_behind op first rest ≡ Wrapped op (first % 8) (record { 0 = take 8 rest })
control_form DataV2 first rest control = absurd (control refl)
control_form op first rest control = refl

control_length : (op : Opcode) → IsControl op → shortest op ≡ 49
control_length DataV2 control = absurd (control refl)
control_length op control = refl

same_wrapped : (op : Opcode) (k l : ℕ) (t : List ℕ) (sid : Sid) → k ≡ l → t ≡ sid.0 → Wrapped op k (record { 0 = t }) ≡ Wrapped op l sid
same_wrapped op k l t sid ek et = rw (ek, et) refl

regroup : (a b c d e : List ℕ) → (((a ++ b) ++ c) ++ d) ++ e ≡ a ++ (b ++ (c ++ (d ++ e)))
regroup a b c d e = simp append_assoc

pub wrapped_again : (w : WrappedForm) → IsWrapped w → packet_of (wrapped_packet w) ≡ Ok (Wrapped w.op w.kid w.sid)
unfolding packet_of wrapped_packet
wrapped_again w fits =
    let first = first_byte w.op w.kid in
    let behind : List ℕ = to_be_bytes w32 w.id ++ (to_be_bytes w32 w.time ++ (w.tag ++ w.ciphertext)) in
    let rest : List ℕ = w.sid.0 ++ behind in
    let regrouped : wrapped_packet w ≡ first ∷ rest = regroup (first ∷ w.sid.0) (to_be_bytes w32 w.id) (to_be_bytes w32 w.time) w.tag w.ciphertext in
    let size : 49 ≤ length (first ∷ rest) = omega (arith, fits.sid, fits.tag, length-append w.sid.0 behind, length-append w.tag w.ciphertext) in
    let long : shortest w.op ≤ length (first ∷ rest) = rw (control_length w.op fits.op) size in
    let is : opcode_of first ≡ Some w.op = code_below w.op w.kid fits.kid in
    let key : first % 8 ≡ w.kid = omega (arith, fits.kid) in
    ap packet_of regrouped ∙ long_enough (opcode_of first) w.op first rest is long
    ∙ ap (λ (x : PacketForm). Ok x) (control_form w.op first rest fits.op ∙ same_wrapped w.op (first % 8) w.kid (take 8 rest) w.sid key (take_at w.sid.0 behind 8 fits.sid))
