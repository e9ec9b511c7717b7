-- What is read of a stream, and what a reader keeps of it.
use Rattle.std.proofs.Common.{◌≡◌, ℕ, zero, suc, ◌≤◌, List, [], ◌∷◌, ◌++◌, length, drop, Option, None, Some, Result, Ok, Err, append-nil, refl, ap, sym, subst, ◌∙◌, arith}
use Rattle.std.proofs.Math.Seq.{drop-append_seam}
use Rattle.socket_frames.specs.declared.frames.Frame.{Frame}
use Rattle.socket_frames.specs.declared.frames.FrameFault.{FrameFault}
use Rattle.socket_frames.specs.Frames.{Front, Partial, Faulty, Whole, Reading, front, joined, reading, reading_of, Begins}
use Rattle.socket_frames.specs.Streams.{Leaves, Stands, Stream, first_of, next_of, stream_begun}
use Rattle.socket_frames.specs.internal.Search.{IsRead}
use Rattle.socket_frames.proofs.Fronts.{Goes, Shortens, front_goes, front_shortens}

-- readings that agree below a length agree on what is longer by one frame
joined_same : (g : Front) (k : ℕ) (r s : List ℕ → Reading) → Shortens g k → ((rest : List ℕ) → suc (length rest) ≤ k → r rest ≡ s rest) → joined g r ≡ joined g s
joined_same Partial k r s short same = refl
joined_same (Faulty fault) k r s short same = refl
joined_same (Whole f rest) k r s short same = ap (λ (x : Reading). record { frames = f ∷ x.frames; fault = x.fault }) (same rest (omega arith))

-- more turns than bytes change nothing
enough : (n m : ℕ) (bytes : List ℕ) → length bytes ≤ n → length bytes ≤ m → reading_of n bytes ≡ reading_of m bytes
unfolding front
enough zero zero bytes h k = refl
enough zero (suc m) [] h k = refl
enough zero (suc m) (b ∷ bytes) h k = absurd (omega arith)
enough (suc n) zero [] h k = refl
enough (suc n) zero (b ∷ bytes) h k = absurd (omega arith)
enough (suc n) (suc m) bytes h k = joined_same (front bytes) (length bytes) (reading_of n) (reading_of m) (front_shortens bytes) (λ rest short. enough n m rest (omega arith) (omega arith))

-- a frame is read, and then the rest as if it stood alone
pub reading_at : (bytes : List ℕ) → reading bytes ≡ joined (front bytes) reading
unfolding reading
reading_at bytes =
    enough (length bytes) (suc (length bytes)) bytes (omega arith) (omega arith)
    ∙ joined_same (front bytes) (length bytes) (reading_of (length bytes)) (λ (rest : List ℕ). reading_of (length rest) rest) (front_shortens bytes) (λ rest short. enough (length bytes) (length rest) rest (omega arith) (omega arith))

-- what is left is read behind the frames that were given
pub leaves_reading : (bytes : List ℕ) (given : List Frame) (left : List ℕ) → Leaves bytes given left → reading bytes ≡ record { frames = given ++ (reading left).frames; fault = (reading left).fault }
leaves_reading bytes [] left h = sym (ap reading h)
leaves_reading bytes (f ∷ given) left h =
    reading_at bytes ∙ ap (λ (g : Front). joined g reading) h.1
    ∙ ap (λ (x : Reading). record { frames = f ∷ x.frames; fault = x.fault }) (leaves_reading h.0 given left h.2)

-- a piece that follows is left behind the rest
pub leaves_more : (bytes : List ℕ) (given : List Frame) (left piece : List ℕ) → Leaves bytes given left → Leaves (bytes ++ piece) given (left ++ piece)
leaves_more bytes [] left piece h = ap (λ (b : List ℕ). b ++ piece) h
leaves_more bytes (f ∷ given) left piece h =
    (h.0 ++ piece, subst (λ (g : Front). Goes g (front (bytes ++ piece)) piece) h.1 (front_goes bytes piece), leaves_more h.0 given left piece h.2)

-- one frame more is given
pub leaves_one : (bytes : List ℕ) (given : List Frame) (left : List ℕ) (f : Frame) (rest : List ℕ) → Leaves bytes given left → front left ≡ Whole f rest → Leaves bytes (given ++ f ∷ []) rest
leaves_one bytes [] left f rest h found = (rest, ap front (sym h) ∙ found, refl)
leaves_one bytes (g ∷ given) left f rest h found = (h.0, h.1, leaves_one h.0 given left f rest h.2 found)

-- the answer to what stands at the front
abbrev pub answer_to : Front → Result (Option Frame) FrameFault
answer_to Partial = Ok None
answer_to (Faulty fault) = Err fault
answer_to (Whole f rest) = Ok (Some f)

first_joined : (g : Front) → first_of (joined g reading).frames (joined g reading).fault ≡ answer_to g
first_joined Partial = refl
first_joined (Faulty fault) = refl
first_joined (Whole f rest) = refl

-- what is next in the whole stream is the first that is read of what is left
next_left : (s : Stream) (left : List ℕ) → Leaves s.fed s.given left → next_of s ≡ first_of (reading left).frames (reading left).fault
next_left s left h =
    ap (λ (x : Reading). first_of (drop (length s.given) x.frames) x.fault) (leaves_reading s.fed s.given left h)
    ∙ ap (λ (frames : List Frame). first_of frames (reading left).fault) (drop-append_seam s.given (reading left).frames)

-- what is next in the whole stream stands at the front of what is left
pub next_is : (s : Stream) (left : List ℕ) → Leaves s.fed s.given left → next_of s ≡ answer_to (front left)
next_is s left h =
    next_left s left h
    ∙ ap (λ (x : Reading). first_of x.frames x.fault) (reading_at left)
    ∙ first_joined (front left)

first_none : (frames : List Frame) (fault : Option FrameFault) → first_of frames fault ≡ Ok None → (frames ≡ []) × (None ≡ fault)
first_none [] None h = (refl, refl)
first_none [] (Some fault) h = absurd (cc)
first_none (f ∷ frames) fault h = absurd (cc)

first_err : (frames : List Frame) (fault : Option FrameFault) (k : FrameFault) → first_of frames fault ≡ Err k → (frames ≡ []) × (Some k ≡ fault)
first_err [] None k h = absurd (cc)
first_err [] (Some fault) k h = (refl, cc)
first_err (f ∷ frames) fault k h = absurd (cc)

all_given : (s : Stream) (left : List ℕ) (fault : Option FrameFault) → Leaves s.fed s.given left → (reading left).frames ≡ [] → fault ≡ (reading left).fault → IsRead left s.fed s.given fault
unfolding Stands
all_given s left fault h none at =
    let whole = leaves_reading s.fed s.given left h in record {
      stands = h;
      all_given = sym (ap (λ (x : Reading). x.frames) whole ∙ ap (λ (frames : List Frame). s.given ++ frames) none ∙ append-nil s.given);
      at_fault = at ∙ sym (ap (λ (x : Reading). x.fault) whole);
    }

-- where no frame is next, all were given
pub ended_none : (s : Stream) (left : List ℕ) → Stands left s → next_of s ≡ Ok None → IsRead left s.fed s.given None
unfolding Stands
ended_none s left h none =
    let e = first_none (reading left).frames (reading left).fault (sym (next_left s left h) ∙ none) in
    all_given s left None h e.0 e.1

-- and where a fault is
pub ended_err : (s : Stream) (left : List ℕ) (k : FrameFault) → Stands left s → next_of s ≡ Err k → IsRead left s.fed s.given (Some k)
unfolding Stands
ended_err s left k h err =
    let e = first_err (reading left).frames (reading left).fault k (sym (next_left s left h) ∙ err) in
    all_given s left (Some k) h e.0 e.1

-- nothing is read of nothing
pub read_begun : (left : List ℕ) → Stands left stream_begun → IsRead left [] [] None
unfolding reading
read_begun left h = record { stands = h; all_given = refl; at_fault = refl }

stays_on : (n m : ℕ) (g h : Front) (more : List ℕ) (k : FrameFault) → m ≤ suc n → Shortens g m → Goes g h more → (joined g reading).fault ≡ Some k → ((rest : List ℕ) → length rest ≤ n → (reading rest).fault ≡ Some k → reading (rest ++ more) ≡ reading rest) → joined h reading ≡ joined g reading
stays_on n m Partial h more k small short goes at below = absurd (cc)
stays_on n m (Faulty fault) h more k small short goes at below = ap (λ (x : Front). joined x reading) goes
stays_on n m (Whole f rest) h more k small short goes at below =
    ap (λ (x : Front). joined x reading) goes
    ∙ ap (λ (x : Reading). record { frames = f ∷ x.frames; fault = x.fault }) (below rest (omega arith) at)

stays_below : (n : ℕ) (bytes more : List ℕ) (k : FrameFault) → length bytes ≤ n → (reading bytes).fault ≡ Some k → reading (bytes ++ more) ≡ reading bytes
unfolding reading
stays_below zero [] more k small at = absurd (cc)
stays_below zero (b ∷ bytes) more k small at = absurd (omega arith)
stays_below (suc n) bytes more k small at =
    reading_at (bytes ++ more)
    ∙ stays_on n (length bytes) (front bytes) (front (bytes ++ more)) more k small (front_shortens bytes) (front_goes bytes more)
    (sym (ap (λ (x : Reading). x.fault) (reading_at bytes)) ∙ at) (λ rest short fault. stays_below n rest more k short fault)
    ∙ sym (reading_at bytes)

-- a fault stays, whatever follows
pub fault_stays : (bytes more : List ℕ) (k : FrameFault) → (reading bytes).fault ≡ Some k → reading (bytes ++ more) ≡ reading bytes
fault_stays bytes more k at = stays_below (length bytes) bytes more k (omega arith) at

adds_on : (n m : ℕ) (g h : Front) (more : List ℕ) → m ≤ suc n → Shortens g m → Goes g h more → ((rest : List ℕ) → length rest ≤ n → Begins (reading rest).frames (reading (rest ++ more)).frames) → Begins (joined g reading).frames (joined h reading).frames
adds_on n m Partial h more small short goes below = ((joined h reading).frames, refl)
adds_on n m (Faulty fault) h more small short goes below = ([], ap (λ (x : Front). (joined x reading).frames) goes)
adds_on n m (Whole f rest) h more small short goes below =
    let e = below rest (omega arith) in
    (e.0, ap (λ (x : Front). (joined x reading).frames) goes ∙ ap (λ (frames : List Frame). f ∷ frames) e.1)

adds_below : (n : ℕ) (bytes more : List ℕ) → length bytes ≤ n → Begins (reading bytes).frames (reading (bytes ++ more)).frames
unfolding reading
adds_below zero [] more small = ((reading more).frames, refl)
adds_below zero (b ∷ bytes) more small = absurd (omega arith)
adds_below (suc n) bytes more small =
    let e = adds_on n (length bytes) (front bytes) (front (bytes ++ more)) more small (front_shortens bytes) (front_goes bytes more) (λ rest short. adds_below n rest more short) in
    (e.0, ap (λ (x : Reading). x.frames) (reading_at (bytes ++ more)) ∙ e.1 ∙ ap (λ (x : Reading). x.frames ++ e.0) (sym (reading_at bytes)))

-- frames stay, and more may come behind them
pub frames_stay : (bytes more : List ℕ) → Begins (reading bytes).frames (reading (bytes ++ more)).frames
frames_stay bytes more = adds_below (length bytes) bytes more (omega arith)
