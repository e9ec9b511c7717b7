-- The common name of the other end.
use Rattle.std.proofs.Common.{◌≡◌, ◌≢◌, ℕ, zero, suc, ◌≤◌, Bool, true, false, List, [], ◌∷◌, length, Option, Some, None, refl, ap, sym, subst, ◌∙◌, arith}
use Rattle.std.specs.Prelude.{◌&&◌, is_none, is_some, nat_le, not, slice_get, if◌then◌else◌}
use Rattle.std.specs.List.{list_all}
use Rattle.std.specs.Str.{bytes_eq}
use Rattle.std.proofs.lemmas.Bool.{false≢true}
use Rattle.std.proofs.lemmas.Slice.Eq.{bytes_eq-Decides}
use Rattle.std.proofs.lemmas.Option.{none-some}
use Rattle.vpn_base.specs.declared.names.Cause.TheVariants as causes
use Rattle.vpn_base.specs.FileName.{is_file_name, is_name_byte, names_folder}
use Rattle.tls_crypt.specs.Packets.{Wrapping}
use Rattle.peer_table.specs.declared.outcomes.Turn.{Turn}
use Rattle.peer_table.specs.declared.outcomes.Turn.TheVariants.{Ignored, Over}
use Rattle.peer_table.specs.EngineAnswers.{judged_at, kept_name, name_at, name_came, name_given, name_in, name_judged, with_named}
use Rattle.peer_table.specs.KeySessions.{Session, Stage, has_keys, is_keyed, newest}
use Rattle.peer_table.specs.KeySessions as sessions
use Rattle.peer_table.specs.Orderly.{IsOrderly, all_before_have_keys}
use Rattle.peer_table.specs.Peer.{Outcome, Peer, answered}
use Rattle.peer_table.specs.Places.{changed_at}
use Rattle.key_sessions.specs.Changes.{newest_named}
use Rattle.key_sessions.specs.Looks.{newest_seen, stage_of}
use Rattle.key_sessions.specs.Names.{fault_beside, name_fault}
use Rattle.key_sessions.specs.Sessions.{restaged}
use Rattle.key_sessions.specs.declared.name.NameFault.{NameFault}
use Rattle.key_sessions.specs.declared.name.NameFault.TheVariants.{BadName, NameChanged}
use Rattle.key_sessions.specs.declared.slot.Newest.{Newest}
use Rattle.key_sessions.specs.declared.slot.Stage.TheVariants as stages
use Rattle.key_sessions.specs.declared.slots.Slots.{Slots}
use Rattle.key_sessions.specs.Slots.{IsWhole, SlotsStand}
use Rattle.peer_lines.specs.declared.channels.SessionChannels.{SessionChannels}
use Rattle.peer_lines.specs.Standing.{StandsFor}
use Rattle.session_state.specs.declared.session.SessionState.{SessionState}
use Rattle.session_state.specs.Standing.{EachGoesOn, EachGoesOnUnless, EachIsSound, GoesOn, PeerStands}
use Rattle.session_engine.specs.internal.Turns.{LeavesQuietly, cause_named, is_opening}
use Rattle.session_state.proofs.Waits.{newest_at}

-- ---- a name that is not refused is short

short_by : (a b c d : Bool) → (a && b && c && d) ≡ true → b ≡ true
short_by true true c d is = refl
short_by true false c d is = absurd (false≢true is)
short_by false b c d is = absurd (false≢true is)

pub file_name_short : (name : List ℕ) → is_file_name name ≡ true → length name ≤ 64
unfolding is_file_name
file_name_short name is =
    let short : nat_le (length name) 64 ≡ true = short_by (nat_le 1 (length name)) (nat_le (length name) 64) (list_all is_name_byte name) (not (names_folder name)) is in
    grind (arith, short)

file_if : (b : Bool) (name : List ℕ) (known : Option (List ℕ)) → (if b then fault_beside name known else Some BadName) ≡ None → b ≡ true
file_if true name known is = refl
file_if false name known is = absurd (none-some BadName (sym is))

pub name_short : (name : List ℕ) (known : Option (List ℕ)) → name_fault name known ≡ None → length name ≤ 64
unfolding name_fault
name_short name known is = file_name_short name (file_if (is_file_name name) name known is)

-- ---- the newest session has it

sound_named : (k : ℕ) (ss : List Session) (n : ℕ) → EachIsSound k ss → EachIsSound k (changed_at n (restaged sessions.Named) ss)
sound_named k [] n each = each
sound_named k (x ∷ ss) zero each = (record { kid = each.0.kid; read = λ keyed. absurd (false≢true keyed) }, each.1)
sound_named k (x ∷ ss) (suc n) each = (each.0, sound_named (suc k) ss n each.1)

each_named : (ss : List Session) (n : ℕ) → EachGoesOn ss → EachGoesOn (changed_at n (restaged sessions.Named) ss)
each_named [] n each = each
each_named (x ∷ ss) zero each = (each.0, each.1)
each_named (x ∷ ss) (suc n) each = (each.0, each_named ss n each.1)

goes_named : (over : Bool) (ss : List Session) (n : ℕ) → EachGoesOnUnless over ss → EachGoesOnUnless over (changed_at n (restaged sessions.Named) ss)
goes_named true ss n each = tt
goes_named false ss n each = each_named ss n each

pub named_stands : {W : Type 0} (wrapped : W → Wrapping) (before : SessionState W) (slots : Slots SessionChannels) (kept : Option (List ℕ)) (name : List ℕ) (p : Peer) →
    kept ≡ Some name → (SlotsStand StandsFor before.slots p.sessions → SlotsStand StandsFor slots (newest_named p.sessions)) → (IsWhole before.slots → IsWhole slots) →
    PeerStands wrapped before p → PeerStands wrapped (record before { slots = slots; name = kept }) (with_named (newest p.sessions) (record p { name = Some name }))
unfolding PeerStands newest_named
named_stands wrapped before slots kept name p same stands whole is = record {
  role_is = is.role_is;
  timers_are = is.timers_are;
  own_is = is.own_is;
  envelope_stands = is.envelope_stands;
  remote_is = is.remote_is;
  name_is = same;
  asks_is = is.asks_is;
  slots_stand = stands is.slots_stand;
  whole = whole is.whole;
  sound = sound_named 0 p.sessions (newest p.sessions) is.sound;
  each_goes_on = goes_named before.is_over p.sessions (newest p.sessions) is.each_goes_on;
}

pub goes_with_name : {W : Type 0} (before : SessionState W) (slots : Slots SessionChannels) (kept : Option (List ℕ)) → GoesOn before → (IsWhole before.slots → IsWhole slots) →
    GoesOn (record before { slots = slots; name = kept })
unfolding GoesOn
goes_with_name before slots kept goes whole = record {
  not_over = goes.not_over;
  whole = whole goes.whole;
  some_ids = goes.some_ids;
  some_timeout = goes.some_timeout;
  short_timeout = goes.short_timeout;
  blank_for = goes.blank_for;
}

-- ---- the newest session is the only one that may have no name

keyed_first : (x y : Session) (ss : List Session) → (has_keys x && all_before_have_keys (y ∷ ss)) ≡ true → (has_keys x ≡ true) × (all_before_have_keys (y ∷ ss) ≡ true)
keyed_first x y ss is = both (has_keys x) (all_before_have_keys (y ∷ ss)) is
  where
    both : (a b : Bool) → (a && b) ≡ true → (a ≡ true) × (b ≡ true)
    both true true is = (refl, refl)
    both true false is = absurd (false≢true is)
    both false b is = absurd (false≢true is)

keyed_at : (ss : List Session) (n : ℕ) (s : Session) → all_before_have_keys ss ≡ true → slice_get ss n ≡ Some s → n ≢ newest ss → has_keys s ≡ true
keyed_at [] n s keyed at other = absurd (none-some s at)
keyed_at (x ∷ []) zero s keyed at other = absurd (other refl)
keyed_at (x ∷ []) (suc n) s keyed at other = absurd (none-some s at)
keyed_at (x ∷ y ∷ ss) zero s keyed at other =
    let same : x ≡ s = cc at in subst (λ (t : Session). has_keys t ≡ true) same (keyed_first x y ss keyed).0
keyed_at (x ∷ y ∷ ss) (suc n) s keyed at other =
    keyed_at (y ∷ ss) n s (keyed_first x y ss keyed).1 at (λ same. other (omega (arith, same)))

not_opening : (stage : Stage) → is_keyed stage ≡ true → false ≡ is_opening stage
not_opening sessions.Opening is = absurd (false≢true is)
not_opening sessions.Named is = absurd (false≢true is)
not_opening (sessions.Keyed keys) is = refl

-- the number of the newest session as it is seen
pub newest_is : (ss : List Session) (seen : Newest) → newest_seen ss ≡ Some seen → newest ss ≡ seen.number
newest_is ss seen is = ap (λ (r : Newest). r.number) (newest_at ss seen is).seen_so

pub other_opening : (ss : List Session) (seen : Newest) (n : ℕ) (s : Session) → IsOrderly ss → newest_seen ss ≡ Some seen → slice_get ss n ≡ Some s → n ≢ seen.number →
    false ≡ is_opening s.stage
other_opening ss seen n s orderly told at other =
    not_opening s.stage (keyed_at ss n s orderly.keyed at (λ same. other (same ∙ newest_is ss seen told)))

seen_opening : (stage : Stage) → stage_of stage ≡ stages.Opening → true ≡ is_opening stage
seen_opening sessions.Opening is = refl
seen_opening sessions.Named is = cc is
seen_opening (sessions.Keyed keys) is = cc is

seen_named : (stage : Stage) → stage_of stage ≡ stages.Named → false ≡ is_opening stage
seen_named sessions.Opening is = cc is
seen_named sessions.Named is = refl
seen_named (sessions.Keyed keys) is = refl

seen_keyed : (stage : Stage) → stage_of stage ≡ stages.Keyed → false ≡ is_opening stage
seen_keyed sessions.Opening is = cc is
seen_keyed sessions.Named is = refl
seen_keyed (sessions.Keyed keys) is = refl

-- the stage of the session of its number
stage_there : (ss : List Session) (seen : Newest) (n : ℕ) (s : Session) → newest_seen ss ≡ Some seen → slice_get ss n ≡ Some s → n ≡ seen.number → stage_of s.stage ≡ seen.stage
stage_there ss seen n s told at same =
    let there = newest_at ss seen told in
    let number : n ≡ newest ss = same ∙ sym (newest_is ss seen told) in
    let here : Some s ≡ Some there.session = sym at ∙ ap (slice_get ss) number ∙ there.here in
    let is : s ≡ there.session = cc here in
    ap (λ (t : Session). stage_of t.stage) is ∙ ap (λ (r : Newest). r.stage) there.seen_so

pub opening_is : (ss : List Session) (seen : Newest) (n : ℕ) (s : Session) → newest_seen ss ≡ Some seen → slice_get ss n ≡ Some s → n ≡ seen.number → seen.stage ≡ stages.Opening →
    true ≡ is_opening s.stage
opening_is ss seen n s told at same is = seen_opening s.stage (stage_there ss seen n s told at same ∙ is)

pub named_is : (ss : List Session) (seen : Newest) (n : ℕ) (s : Session) → newest_seen ss ≡ Some seen → slice_get ss n ≡ Some s → n ≡ seen.number → seen.stage ≡ stages.Named →
    false ≡ is_opening s.stage
named_is ss seen n s told at same is = seen_named s.stage (stage_there ss seen n s told at same ∙ is)

pub keyed_is : (ss : List Session) (seen : Newest) (n : ℕ) (s : Session) → newest_seen ss ≡ Some seen → slice_get ss n ≡ Some s → n ≡ seen.number → seen.stage ≡ stages.Keyed →
    false ≡ is_opening s.stage
keyed_is ss seen n s told at same is = seen_keyed s.stage (stage_there ss seen n s told at same ∙ is)

-- ---- by the definition

-- the client with the name that it has
same_name : (p : Peer) (name known : List ℕ) → Some known ≡ p.name → name ≡ known → p ≡ record p { name = Some name }
same_name p name known is same = ap (λ (o : Option (List ℕ)). record p { name = o }) (sym is ∙ ap Some (sym same))

equal_names : (name known : List ℕ) → bytes_eq name known ≡ true → name ≡ known
equal_names name known is = (bytes_eq-Decides name known).0 is

given_by : (n : ℕ) (name : List ℕ) (p : Peer) (o : Option (List ℕ)) → o ≡ p.name → fault_beside name o ≡ None →
    judged_at n (is_none o) (with_named n (record p { name = Some name })) ≡ name_given n name p o
given_by n name p None is fits = refl
given_by n name p (Some known) is fits = same_by (bytes_eq name known) (equal_names name known) fits
  where
    same_by : (b : Bool) → (b ≡ true → name ≡ known) → (if b then None else Some NameChanged) ≡ None →
        judged_at n false (with_named n (record p { name = Some name })) ≡ (if b then judged_at n false (with_named n p) else answered p (Over causes.NameChanged))
    same_by true equal fits = ap (λ (q : Peer). judged_at n false (with_named n q)) (sym (same_name p name known is (equal refl)))
    same_by false equal fits = absurd (none-some NameChanged (sym fits))

pub taken_is : (n : ℕ) (name : List ℕ) (p : Peer) → name_fault name p.name ≡ None →
    judged_at n (is_none p.name) (with_named n (record p { name = Some name })) ≡ name_judged n name p
unfolding name_fault
taken_is n name p fits = by_file (is_file_name name) fits
  where
    by_file : (b : Bool) → (if b then fault_beside name p.name else Some BadName) ≡ None →
        judged_at n (is_none p.name) (with_named n (record p { name = Some name })) ≡ (if b then name_given n name p p.name else answered p (Over causes.BadName))
    by_file true fits = given_by n name p p.name refl fits
    by_file false fits = absurd (none-some BadName (sym fits))

refused_by : (n : ℕ) (name : List ℕ) (p : Peer) (o : Option (List ℕ)) (fault : NameFault) → fault_beside name o ≡ Some fault → answered p (Over (cause_named fault)) ≡ name_given n name p o
refused_by n name p None fault is = absurd (none-some fault is)
refused_by n name p (Some known) fault is = changed_by (bytes_eq name known) is
  where
    changed_by : (b : Bool) → (if b then None else Some NameChanged) ≡ Some fault →
        answered p (Over (cause_named fault)) ≡ (if b then judged_at n false (with_named n p) else answered p (Over causes.NameChanged))
    changed_by true is = absurd (none-some fault is)
    changed_by false is = let same : fault ≡ NameChanged = cc is in ap (λ (f : NameFault). answered p (Over (cause_named f))) same

pub refused_is : (n : ℕ) (name : List ℕ) (p : Peer) (fault : NameFault) → name_fault name p.name ≡ Some fault → answered p (Over (cause_named fault)) ≡ name_judged n name p
unfolding name_fault
refused_is n name p fault is = by_file (is_file_name name) is
  where
    by_file : (b : Bool) → (if b then fault_beside name p.name else Some BadName) ≡ Some fault →
        answered p (Over (cause_named fault)) ≡ (if b then name_given n name p p.name else answered p (Over causes.BadName))
    by_file true is = refused_by n name p p.name fault is
    by_file false is = let same : fault ≡ BadName = cc is in ap (λ (f : NameFault). answered p (Over (cause_named f))) same

-- whether the call gives the client its name
pub gives_name : (known : Option (List ℕ)) (gave_name : Bool) → is_some known ≡ not gave_name → gave_name ≡ is_none known
gives_name None true is = refl
gives_name None false is = absurd (false≢true is)
gives_name (Some name) true is = absurd (false≢true (sym is))
gives_name (Some name) false is = refl

-- what the client's session stands for, and what is answered, where the name is taken
pub taken_leaves : {W : Type 0} (wrapped : W → Wrapping) (session : SessionState W) (n : ℕ) (name : List ℕ) (p : Peer) (known : Option (List ℕ)) →
    known ≡ p.name → newest p.sessions ≡ n → name_fault name known ≡ None → PeerStands wrapped session (with_named (newest p.sessions) (record p { name = Some name })) →
    LeavesQuietly (PeerStands wrapped) session (name_judged n name p)
taken_leaves wrapped session n name p known is newest_is fits stands =
    subst (λ (o : Outcome Turn). LeavesQuietly (PeerStands wrapped) session o) (taken_is n name p (ap (name_fault name) (sym is) ∙ fits))
    (record { peer = subst (λ (m : ℕ). PeerStands wrapped session (with_named m (record p { name = Some name }))) newest_is stands; doings = refl; datagrams = refl })

pub taken_answers : (n : ℕ) (name : List ℕ) (p : Peer) (known : Option (List ℕ)) (gave_name : Bool) (turn : Turn) →
    known ≡ p.name → newest p.sessions ≡ n → name_fault name known ≡ None → gave_name ≡ is_none known →
    turn ≡ (judged_at n gave_name (with_named (newest p.sessions) (record p { name = Some name }))).answer → turn ≡ (name_judged n name p).answer
taken_answers n name p known gave_name turn is newest_is fits gave told =
    told
    ∙ ap (λ (m : ℕ). (judged_at n gave_name (with_named m (record p { name = Some name }))).answer) newest_is
    ∙ ap (λ (b : Bool). (judged_at n b (with_named n (record p { name = Some name }))).answer) (gave ∙ ap (λ (o : Option (List ℕ)). is_none o) is)
    ∙ ap (λ (o : Outcome Turn). o.answer) (taken_is n name p (ap (name_fault name) (sym is) ∙ fits))

-- and where it is refused
pub refused_leaves : {W : Type 0} (wrapped : W → Wrapping) (session : SessionState W) (n : ℕ) (name : List ℕ) (p : Peer) (known : Option (List ℕ)) (fault : NameFault) →
    known ≡ p.name → name_fault name known ≡ Some fault → PeerStands wrapped session p → LeavesQuietly (PeerStands wrapped) session (name_judged n name p)
refused_leaves wrapped session n name p known fault is refused stands =
    subst (λ (o : Outcome Turn). LeavesQuietly (PeerStands wrapped) session o) (refused_is n name p fault (ap (name_fault name) (sym is) ∙ refused))
    (record { peer = stands; doings = refl; datagrams = refl })

pub refused_answers : (n : ℕ) (name : List ℕ) (p : Peer) (known : Option (List ℕ)) (fault : NameFault) → known ≡ p.name → name_fault name known ≡ Some fault →
    Over (cause_named fault) ≡ (name_judged n name p).answer
refused_answers n name p known fault is refused = ap (λ (o : Outcome Turn). o.answer) (refused_is n name p fault (ap (name_fault name) (sym is) ∙ refused))

opening_in : (n : ℕ) (name : List ℕ) (p : Peer) (stage : Stage) → is_opening stage ≡ true → name_judged n (kept_name name) p ≡ name_in n name p stage
opening_in n name p sessions.Opening is = refl
opening_in n name p sessions.Named is = absurd (false≢true is)
opening_in n name p (sessions.Keyed keys) is = absurd (false≢true is)

ignored_in : (n : ℕ) (name : List ℕ) (p : Peer) (stage : Stage) → is_opening stage ≡ false → answered p Ignored ≡ name_in n name p stage
ignored_in n name p sessions.Opening is = absurd (false≢true (sym is))
ignored_in n name p sessions.Named is = refl
ignored_in n name p (sessions.Keyed keys) is = refl

pub named_came : (n : ℕ) (name : List ℕ) (p : Peer) (s : Session) → slice_get p.sessions n ≡ Some s → is_opening s.stage ≡ true → name_judged n (kept_name name) p ≡ name_came n name p
unfolding name_came
named_came n name p s at is = opening_in n name p s.stage is ∙ ap (name_at n name p) (sym at)

pub ignored_came : (n : ℕ) (name : List ℕ) (p : Peer) (s : Session) → slice_get p.sessions n ≡ Some s → is_opening s.stage ≡ false → answered p Ignored ≡ name_came n name p
unfolding name_came
ignored_came n name p s at is = ignored_in n name p s.stage is ∙ ap (name_at n name p) (sym at)
