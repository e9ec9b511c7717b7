-- What control packets from the wire come to.
use Rattle.std.proofs.Common.{◌≡◌, ℕ, zero, suc, ◌-◌, ◌≤◌, ◌==◌, Bool, true, false, cond, List, [], ◌∷◌, ◌++◌, drop, take, length, Result, Ok, Err, refl, sym, ap, subst, ◌∙◌, arith}
use Rattle.std.specs.Prelude.{OnErr, OnOk, nat_le, nat_lt}
use Rattle.std.specs.List.{flat_map}
use Rattle.std.specs.Int.{to_be_bytes, w32}
use Rattle.std.proofs.lemmas.Grind.{common_steps}
use Rattle.vpn_base.specs.declared.names.Draw.{Draw}
use Rattle.vpn_links.specs.Actions.{Action, Contents}
use Rattle.vpn_links.specs.declared.events.Kind.{Kind}
use Rattle.vpn_links.specs.declared.events.Kind.TheVariants.{Datagram, EngineText, EnginePlain, EngineUp, EngineDown, DeviceIn, DeviceReady, File, Line, Tick, Halt}
use Rattle.vpn_links.specs.declared.notes.Note.TheVariants as notes
use Rattle.client_table.specs.Tables.{entries_of, most_of}
use Rattle.opcode_codec.specs.ControlText.{ControlForm, control_text, id_bytes, sid_bytes}
use Rattle.ovpn_config.specs.declared.settings.Settings.{Settings}
use Rattle.peer_table.specs.Peer.{Peer}
use Rattle.server_table.specs.ControlDatagrams as server
use Rattle.server_table.specs.Courses.{Course, reported}
use Rattle.server_table.specs.DataDatagrams.{FromWire}
use Rattle.server_state.specs.declared.state.ServerCore.{ServerCore}
use Rattle.server_state.specs.Core.{CoreStands, CourseStands}
use Rattle.server_control.specs.Packets.{HasBytes}
use Rattle.server_control.proofs.Free.{full_is}

-- what follows of what holds where there was memory
pub on_ok : {X E A B : Type 0} (r : Result X E) → OnOk r A → (A → B) → OnOk r B
on_ok (Ok x) h into = into h
on_ok (Err e) h into = tt

pub on_err : {X E A : Type 0} (r : Result X E) → A → OnErr r A
on_err (Ok x) h = tt
on_err (Err e) h = h

pub on_err_then : {X E A B : Type 0} (r : Result X E) → OnErr r A → (A → B) → OnErr r B
on_err_then (Ok x) h into = tt
on_err_then (Err e) h into = into h

-- ---- what stands behind the front

pub none_behind : (n : ℕ) (xs : List ℕ) → length xs ≤ n → [] ≡ drop n xs
none_behind zero [] short = refl
none_behind (suc n) [] short = refl
none_behind zero (x ∷ xs) short = absurd (omega (arith, short))
none_behind (suc n) (x ∷ xs) short = none_behind n xs (omega (arith, short))

length_behind : (n : ℕ) (xs : List ℕ) → length (drop n xs) ≤ length xs - n
length_behind zero xs = omega arith
length_behind (suc n) [] = omega arith
length_behind (suc n) (x ∷ xs) = let ih = length_behind n xs in omega (arith, ih)

take_long : (m : ℕ) (xs : List ℕ) → length xs ≤ m → take m xs ≡ xs
take_long zero [] long = refl
take_long (suc m) [] long = refl
take_long zero (x ∷ xs) long = absurd (omega (arith, long))
take_long (suc m) (x ∷ xs) long = ap (λ ys. x ∷ ys) (take_long m xs (omega (arith, long)))

pub all_behind : (n : ℕ) (xs : List ℕ) → take (length xs - n) (drop n xs) ≡ drop n xs
all_behind n xs = take_long (length xs - n) (drop n xs) (length_behind n xs)

-- ---- how long a payload is

longer : (xs ys : List ℕ) → length ys ≤ length (xs ++ ys)
longer [] ys = omega arith
longer (x ∷ xs) ys = let ih = longer xs ys in omega (arith, ih)

front : (xs ys : List ℕ) → length xs ≤ length (xs ++ ys)
front [] ys = omega arith
front (x ∷ xs) ys = let ih = front xs ys in omega (arith, ih)

one_more : (a b : ℕ) → a ≤ b → a ≤ suc b
one_more a b less = omega (arith, less)

text_holds : (f : ControlForm) → length f.payload ≤ length (control_text f)
unfolding control_text
text_holds f =
    let all : length f.payload ≤ length (flat_map (to_be_bytes w32) f.ids ++ sid_bytes f.remote ++ id_bytes f.id ++ f.payload) =
    longer (flat_map (to_be_bytes w32) f.ids ++ sid_bytes f.remote ++ id_bytes f.id) f.payload in
    one_more _ _ all

pub payload_fits : (f : ControlForm) (rest plain : List ℕ) → plain ≡ control_text f ++ rest → length f.payload ≤ length plain
payload_fits f rest plain is =
    let a = text_holds f in
    let b = front (control_text f) rest in
    let c = ap length is in
    omega (arith, a, b, c)

pub fewer : (kind : Kind) (n m : ℕ) → n ≤ m → HasBytes kind m → HasBytes kind n
fewer (Datagram from bytes) n m less has = omega (arith, less, has)
fewer (EngineText conn bytes) n m less has = absurd has
fewer (EnginePlain conn bytes) n m less has = absurd has
fewer (EngineUp conn name) n m less has = absurd has
fewer (EngineDown conn) n m less has = absurd has
fewer (DeviceIn bytes) n m less has = absurd has
fewer DeviceReady n m less has = absurd has
fewer (File cid answer) n m less has = absurd has
fewer (Line bytes) n m less has = absurd has
fewer Tick n m less has = absurd has
fewer Halt n m less has = absurd has

-- ---- a packet of no client

pub is_zero : (n : ℕ) → n ≡ 0 → (n == 0) ≡ true
is_zero n is = grind (arith, common_steps)

pub not_zero : (n : ℕ) → (n ≡ 0 → ⊥) → (n == 0) ≡ false
not_zero n not = grind (arith, common_steps, not)

is_most : (n most : ℕ) → nat_lt n most ≡ false → nat_le most n ≡ true
is_most n most is = grind (arith, common_steps)

is_less : (n most : ℕ) → nat_lt n most ≡ true → nat_le most n ≡ false
is_less n most is = grind (arith, common_steps)

module _ {S : Type 0} (means : S → Peer → Type 0) (before : List Action) (was core : ServerCore S) (out : Contents) (c : Course) (h : CoreStands means was c.table)
    (d : FromWire) (draw : Draw) (r : server.ControlPacket) (b : Bool) (begins : b ≡ true) where
  pub when_full : nat_lt (length (entries_of was.clients)) (most_of was.clients) ≡ false
      → CourseStands means before core out (reported (notes.Full was.settings.max_clients) c) → CourseStands means before core out (server.of_nobody d draw r c b)
  when_full full so =
      subst (λ b. CourseStands means before core out (server.of_nobody d draw r c b)) (sym begins)
      (subst (λ f. CourseStands means before core out (server.admitted_unless_full d draw r c f))
      (sym (is_most (length (entries_of was.clients)) (most_of was.clients) full) ∙ full_is means was c.table h)
      (subst (λ (s : Settings). CourseStands means before core out (reported (notes.Full s.max_clients) c)) h.settings so))

  module _ (room : nat_lt (length (entries_of was.clients)) (most_of was.clients) ≡ true) where
    with_room : CourseStands means before core out (server.admitted_if_wrapped d draw r c) → CourseStands means before core out (server.of_nobody d draw r c b)
    with_room so =
        subst (λ b. CourseStands means before core out (server.of_nobody d draw r c b)) (sym begins)
        (subst (λ f. CourseStands means before core out (server.admitted_unless_full d draw r c f))
        (sym (is_less (length (entries_of was.clients)) (most_of was.clients) room) ∙ full_is means was c.table h) so)

    pub when_unwrapped : (r.packet.id == 0) ≡ true → CourseStands means before core out (reported (notes.Replayed r.packet.time r.packet.id) c)
        → CourseStands means before core out (server.of_nobody d draw r c b)
    when_unwrapped unused so =
        with_room (subst (λ (z : Bool). CourseStands means before core out (cond z (reported (notes.Replayed r.packet.time r.packet.id) c) (server.admitted d draw r c))) (sym unused) so)

    pub when_admitted : (r.packet.id == 0) ≡ false → CourseStands means before core out (server.admitted d draw r c) → CourseStands means before core out (server.of_nobody d draw r c b)
    when_admitted used so =
        with_room (subst (λ (z : Bool). CourseStands means before core out (cond z (reported (notes.Replayed r.packet.time r.packet.id) c) (server.admitted d draw r c))) (sym used) so)

    -- it is admitted
    pub is_admitted : (r.packet.id == 0) ≡ false → server.of_nobody d draw r c b ≡ server.admitted d draw r c
    is_admitted used =
        ap (server.of_nobody d draw r c) begins
        ∙ ap (server.admitted_unless_full d draw r c) (sym (sym (is_less (length (entries_of was.clients)) (most_of was.clients) room) ∙ full_is means was c.table h))
        ∙ ap (λ (z : Bool). cond z (reported (notes.Replayed r.packet.time r.packet.id) c) (server.admitted d draw r c)) used
