-- The payloads of the text that are here: how they are read, and how long they are.
use Rattle.std.proofs.Common.{◌≡◌, ◌≢◌, ◌≤◌, ◌==◌, ◌+◌, ◌-◌, ◌*◌, ◌++◌, ℕ, zero, suc, Bool, true, false, List, [], ◌∷◌, length, max, Option, Some, None, if◌then◌else◌, refl, ap, sym, subst, ◌∙◌, arith}
use Rattle.std.proofs.lemmas.List.{append_assoc}
use Rattle.std.proofs.lemmas.Option.{none-some, same_Some}
use Rattle.std.proofs.Math.Nat.{suc-mul}
use Rattle.vpn_base.specs.declared.names.Conn.{Conn}
use Rattle.vpn_base.specs.declared.names.Role.{Role}
use Rattle.vpn_base.specs.declared.names.Sid.{Sid}
use Rattle.vpn_links.specs.Actions.{Action}
use Rattle.opcode_codec.specs.ControlText.{ControlForm}
use Rattle.reliable_recv.specs.declared.receiving.Got.{Got}
use Rattle.reliable_recv.specs.declared.receiving.Got.TheVariants.{New, Repeat, Ahead}
use Rattle.reliable_recv.specs.Receiving as recv
use Rattle.reliable_recv.specs.Receiving.{Arrival, Receiving, after_next, got, next_payload, payload_of, put_into, read_as, taken_as}
use Rattle.control_link.specs.Calls.{after_given, after_text, next_text, past_reset, put_if, received}
use Rattle.control_link.specs.Envelope.{EnvelopeHistory}
use Rattle.control_link.specs.Links.{Link}
use Rattle.control_link.specs.Reading.{read_here, read_with}
use Rattle.peer_table.specs.ControlPackets.{puts}
use Rattle.peer_table.specs.Outboxes.{actions_of}
use Rattle.peer_lines.specs.Standing.{NoneIsLonger}
use Rattle.peer_lines.proofs.Links.{Frame}

-- ---- what is put

puts_first : (conn : Conn) (role : Role) (payload : List ℕ) (texts : List (List ℕ)) →
    actions_of role (puts conn (payload ∷ [])) ++ actions_of role (puts conn texts) ≡ actions_of role (puts conn (payload ∷ texts))
puts_first conn role [] texts = refl
puts_first conn role (b ∷ bytes) texts = refl

pub puts_on : (conn : Conn) (role : Role) (payload : List ℕ) (texts : List (List ℕ)) (before middle : List Action) →
    middle ≡ before ++ actions_of role (puts conn (payload ∷ [])) →
    middle ++ actions_of role (puts conn texts) ≡ before ++ actions_of role (puts conn (payload ∷ texts))
puts_on conn role payload texts before middle is =
    ap (λ (t : List Action). t ++ actions_of role (puts conn texts)) is
    ∙ append_assoc before (actions_of role (puts conn (payload ∷ []))) (actions_of role (puts conn texts))
    ∙ ap (λ (t : List Action). before ++ t) (puts_first conn role payload texts)

-- ---- what was taken stays

taken_read : (o : Option (List ℕ)) (r : Receiving) → (read_as o r).taken ≡ r.taken
taken_read None r = refl
taken_read (Some payload) r = refl

taken_next : (r : Receiving) → (after_next r).taken ≡ r.taken
unfolding after_next
taken_next r = taken_read (next_payload r) r

taken_if : (b : Bool) (r s t : Receiving) → s.taken ≡ r.taken → t.taken ≡ r.taken → (if b then s else t).taken ≡ r.taken
taken_if true r s t f g = f
taken_if false r s t f g = g

taken_reset : (r : Receiving) → (past_reset r).taken ≡ r.taken
taken_reset r = taken_if (r.read == 0) r (after_next r) r (taken_next r) refl

taken_given : (r : Receiving) → (after_given r).taken ≡ r.taken
taken_given r = taken_if (r.read == 0) r r (after_next r) refl (taken_next r)

pub frame_text : (l : Link) → Frame l (after_text l)
unfolding after_text
frame_text l = record { kid = refl; taken = taken_given (past_reset l.receiving) ∙ taken_reset l.receiving }

pub frame_on : (a b c : Link) → Frame a b → Frame b c → Frame a c
frame_on a b c f g = record { kid = g.kid ∙ f.kid; taken = g.taken ∙ f.taken }

frame_with : (o : Option (List ℕ)) (l a b : Link) → Frame l a → Frame l b → Frame l (read_with o a b)
frame_with None l a b f g = f
frame_with (Some payload) l a b f g = g

pub frame_read : (most : ℕ) (l : Link) → Frame l (read_here most l)
unfolding read_here
frame_read zero l = record { kid = refl; taken = refl }
frame_read (suc most) l =
    frame_with (next_text l) l (after_text l) (read_here most (after_text l)) (frame_text l)
    (frame_on l (after_text l) (read_here most (after_text l)) (frame_text l) (frame_read most (after_text l)))

-- ---- how long they are

pub none_longer : (m n : ℕ) (taken : List Arrival) → m ≤ n → NoneIsLonger m taken → NoneIsLonger n taken
none_longer m n [] below none = tt
none_longer m n (a ∷ taken) below none = (omega (arith, none.0, below), none_longer m n taken below none.1)

none_longer_with : (n : ℕ) (taken : List Arrival) (a : Arrival) → length a.1 ≤ n → NoneIsLonger n taken → NoneIsLonger n (taken ++ a ∷ [])
none_longer_with n [] a short none = (short, tt)
none_longer_with n (x ∷ taken) a short none = (none.0, none_longer_with n taken a short none.1)

none_longer_as : (n : ℕ) (g : Got) (r : Receiving) (id : ℕ) (payload : List ℕ) → length payload ≤ n → NoneIsLonger n r.taken → NoneIsLonger n (taken_as g r id payload).taken
none_longer_as n Ahead r id payload short none = none
none_longer_as n New r id payload short none = none_longer_with n r.taken (id, payload) short none
none_longer_as n Repeat r id payload short none = none_longer_with n r.taken (id, payload) short none

none_longer_put : (n : ℕ) (r : Receiving) (id : Option ℕ) (payload : List ℕ) → length payload ≤ n → NoneIsLonger n r.taken → NoneIsLonger n (put_if r id payload).taken
unfolding put_into
none_longer_put n r None payload short none = none
none_longer_put n r (Some id) payload short none = none_longer_as n (got r id) r id payload short none

-- with the payload of a packet that came
pub none_longer_received : (longest most : ℕ) (l : Link) (h : EnvelopeHistory) (v : ControlForm) (remote : Sid) (now : ℕ) →
    most ≡ max longest (length v.payload) → NoneIsLonger longest l.receiving.taken → NoneIsLonger most (received l h v remote now).link.receiving.taken
unfolding received recv.after_acks
none_longer_received longest most l h v remote now is none =
    none_longer_put most l.receiving v.id v.payload (omega (arith, is)) (none_longer longest most l.receiving.taken (omega (arith, is)) none)

short_if : (n : ℕ) (b : Bool) (x y : List ℕ) (o : Option (List ℕ)) → (if b then Some x else o) ≡ Some y → length x ≤ n → (o ≡ Some y → length y ≤ n) → length y ≤ n
short_if n true x y o is short rest = subst (λ (t : List ℕ). length t ≤ n) (same_Some x y is) short
short_if n false x y o is short rest = rest is

short_payload : (n : ℕ) (taken : List Arrival) (id : ℕ) (payload : List ℕ) → NoneIsLonger n taken → payload_of taken id ≡ Some payload → length payload ≤ n
short_payload n [] id payload none is = absurd (none-some payload is)
short_payload n (a ∷ taken) id payload none is =
    short_if n (a.0 == id) a.1 payload (payload_of taken id) is none.0 (short_payload n taken id payload none.1)

short_given : (n : ℕ) (b : Bool) (r : Receiving) (payload : List ℕ) → NoneIsLonger n r.taken → (if b then None else next_payload r) ≡ Some payload → length payload ≤ n
short_given n true r payload none is = absurd (none-some payload is)
short_given n false r payload none is = short_payload n r.taken r.read payload none is

pub short_text : (n : ℕ) (l : Link) (payload : List ℕ) → NoneIsLonger n l.receiving.taken → next_text l ≡ Some payload → length payload ≤ n
unfolding next_text
short_text n l payload none is =
    let r : Receiving = past_reset l.receiving in
    short_given n (r.read == 0) r payload (subst (λ (t : List Arrival). NoneIsLonger n t) (sym (taken_reset l.receiving)) none) is

-- ---- how much room they take

pub room_left : (most longest : ℕ) → most ≢ 0 → longest + (most - 1) * longest ≡ most * longest
room_left most longest some =
    let less : most ≡ suc (most - 1) = omega arith in
    let e = suc-mul (most - 1) longest in
    let m = ap (λ (n : ℕ). n * longest) less in
    omega (arith, e, m)
