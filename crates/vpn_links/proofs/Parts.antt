-- Parts of a store stay as they are while more bytes are put behind them.
use Rattle.std.proofs.Common.{◌≡◌, ℕ, zero, suc, ◌+◌, ◌-◌, ◌≤◌, List, [], ◌∷◌, ◌++◌, length, take, drop, map, min, ap, sym, subst, ◌∙◌, refl, arith}
use Rattle.std.proofs.lemmas.List.{take-append-le, drop-append-le, length-drop, length-take, length-append, length-map, map-append}
use Rattle.std.proofs.Math.Seq.{take-length, drop-append_seam}
use Rattle.std.specs.List.{AllByRecursion}
use Rattle.vpn_links.specs.declared.store.Span.{Span}
use Rattle.vpn_links.specs.declared.store.Kept.{Kept}
use Rattle.vpn_links.specs.declared.store.Kept.TheVariants as kept
use Rattle.vpn_links.specs.declared.store.Staged.{Staged}
use Rattle.vpn_links.specs.Actions.{Action, Datagram, carried, carried_by, on_wire, staged_bytes}
use Rattle.vpn_links.specs.internal.Store.{part, kept_action, kept_datagram, staged_datagram, own, own_all, own_staged, IsWithin, IsKeptWithin, IsStagedWithin, IsSound}

pub part_append : (store more : List ℕ) (span : Span) → IsWithin (length store) span → part (store ++ more) span ≡ part store span
unfolding part
part_append store more span within =
    ap (take span.len) (drop-append-le span.start store more (omega arith))
    ∙ take-append-le span.len (drop span.start store) more (subst (λ (n : ℕ). span.len ≤ n) (sym (length-drop span.start store)) (omega arith))

pub part_end : (store bytes : List ℕ) (span : Span) → span.start ≡ length store → span.len ≡ length bytes → part (store ++ bytes) span ≡ bytes
unfolding part
part_end store bytes span start len =
    ap (λ (n : ℕ). take n (drop span.start (store ++ bytes))) len
    ∙ ap (λ (n : ℕ). take (length bytes) (drop n (store ++ bytes))) start
    ∙ ap (take (length bytes)) (drop-append_seam store bytes)
    ∙ take-length bytes

pub end_within : (store bytes : List ℕ) (span : Span) → span.start ≡ length store → span.len ≡ length bytes → IsWithin (length (store ++ bytes)) span
end_within store bytes span start len = subst (λ (n : ℕ). span.start + span.len ≤ n) (sym (length-append store bytes)) (omega arith)

kept_append : (store more : List ℕ) (k : Kept) → IsKeptWithin (length store) k → kept_action (store ++ more) k ≡ kept_action store k
kept_append store more (kept.Wire to span) h = ap (λ (bytes : List ℕ). Rattle.vpn_links.specs.Actions.Wire to bytes) (part_append store more span h)
kept_append store more (kept.EngineOpen conn role) h = refl
kept_append store more (kept.EnginePut conn span) h = ap (λ (bytes : List ℕ). Rattle.vpn_links.specs.Actions.EnginePut conn bytes) (part_append store more span h)
kept_append store more (kept.EngineWrite conn span) h = ap (λ (bytes : List ℕ). Rattle.vpn_links.specs.Actions.EngineWrite conn bytes) (part_append store more span h)
kept_append store more (kept.EngineClose conn) h = refl
kept_append store more (kept.Device span) h = ap (λ (bytes : List ℕ). Rattle.vpn_links.specs.Actions.Device bytes) (part_append store more span h)
kept_append store more (kept.Configure setup) h = refl
kept_append store more (kept.Ask cid span) h = ap (λ (bytes : List ℕ). Rattle.vpn_links.specs.Actions.Ask cid bytes) (part_append store more span h)
kept_append store more (kept.Say span) h = ap (λ (bytes : List ℕ). Rattle.vpn_links.specs.Actions.Say bytes) (part_append store more span h)
kept_append store more (kept.Report note) h = refl
kept_append store more kept.Stop h = refl

-- what was kept keeps its bytes
pub all_kept_append : (store more : List ℕ) (ks : List Kept) → AllByRecursion (IsKeptWithin (length store)) ks → map (kept_action (store ++ more)) ks ≡ map (kept_action store) ks
all_kept_append store more [] h = refl
all_kept_append store more (k ∷ ks) h =
    λ i. kept_append store more k h.0 i ∷ all_kept_append store more ks h.1 i

staged_append : (store more : List ℕ) (s : Staged) → IsStagedWithin (length store) s → staged_datagram (store ++ more) s ≡ staged_datagram store s
staged_append store more s h = ap (λ (bytes : List ℕ). record { to = s.to; bytes = bytes }) (part_append store more s.span h)

pub all_staged_append : (store more : List ℕ) (ss : List Staged) → AllByRecursion (IsStagedWithin (length store)) ss → map (staged_datagram (store ++ more)) ss ≡ map (staged_datagram store) ss
all_staged_append store more [] h = refl
all_staged_append store more (s ∷ ss) h =
    λ i. staged_append store more s h.0 i ∷ all_staged_append store more ss h.1 i

within_grows : (size more : ℕ) (k : Kept) → IsKeptWithin size k → IsKeptWithin (size + more) k
within_grows size more (kept.Wire to span) h = omega arith
within_grows size more (kept.EngineOpen conn role) h = tt
within_grows size more (kept.EnginePut conn span) h = omega arith
within_grows size more (kept.EngineWrite conn span) h = omega arith
within_grows size more (kept.EngineClose conn) h = tt
within_grows size more (kept.Device span) h = omega arith
within_grows size more (kept.Configure setup) h = tt
within_grows size more (kept.Ask cid span) h = omega arith
within_grows size more (kept.Say span) h = omega arith
within_grows size more (kept.Report note) h = tt
within_grows size more kept.Stop h = tt

pub all_within_grows : (size more : ℕ) (ks : List Kept) → AllByRecursion (IsKeptWithin size) ks → AllByRecursion (IsKeptWithin (size + more)) ks
all_within_grows size more [] h = tt
all_within_grows size more (k ∷ ks) h = (within_grows size more k h.0, all_within_grows size more ks h.1)

pub all_staged_grows : (size more : ℕ) (ss : List Staged) → AllByRecursion (IsStagedWithin size) ss → AllByRecursion (IsStagedWithin (size + more)) ss
all_staged_grows size more [] h = tt
all_staged_grows size more (s ∷ ss) h = (omega arith, all_staged_grows size more ss h.1)

-- one more at the end
pub all_append_one : {X : Type 0} (P : X → Type 0) (xs : List X) (x : X) → AllByRecursion P xs → P x → AllByRecursion P (xs ++ x ∷ [])
all_append_one P [] x h p = (p, tt)
all_append_one P (y ∷ ys) x h p = (h.0, all_append_one P ys x h.1 p)

pub all_append : {X : Type 0} (P : X → Type 0) (xs ys : List X) → AllByRecursion P xs → AllByRecursion P ys → AllByRecursion P (xs ++ ys)
all_append P [] ys h g = g
all_append P (x ∷ xs) ys h g = (h.0, all_append P xs ys h.1 g)

pub all_take : {X : Type 0} (P : X → Type 0) (n : ℕ) (xs : List X) → AllByRecursion P xs → AllByRecursion P (take n xs)
all_take P zero xs h = tt
all_take P (suc n) [] h = tt
all_take P (suc n) (x ∷ xs) h = (h.0, all_take P n xs h.1)

-- staged datagrams as effects
pub map_kept_datagram : (store : List ℕ) (ss : List Staged) → map (kept_action store) (map kept_datagram ss) ≡ map on_wire (map (staged_datagram store) ss)
map_kept_datagram store [] = refl
map_kept_datagram store (s ∷ ss) = ap (λ (actions : List Rattle.vpn_links.specs.Actions.Action). kept_action store (kept_datagram s) ∷ actions) (map_kept_datagram store ss)

pub all_kept_datagram : (size : ℕ) (ss : List Staged) → AllByRecursion (IsStagedWithin size) ss → AllByRecursion (IsKeptWithin size) (map kept_datagram ss)
all_kept_datagram size [] h = tt
all_kept_datagram size (s ∷ ss) h = (h.0, all_kept_datagram size ss h.1)

-- the first ones of what is kept
pub take_map : {X Y : Type 0} (f : X → Y) (n : ℕ) (xs : List X) → map f (take n xs) ≡ take n (map f xs)
take_map f zero xs = refl
take_map f (suc n) [] = refl
take_map {X} {Y} f (suc n) (x ∷ xs) = ap (λ (l : List Y). f x ∷ l) (take_map f n xs)

-- what effects and datagrams have of the store
own_append : (ks ls : List Kept) → own_all (ks ++ ls) ≡ own_all ks + own_all ls
own_append [] ls = omega arith
own_append (k ∷ ks) ls = let e : own_all (ks ++ ls) ≡ own_all ks + own_all ls = own_append ks ls in omega arith

pub own_append_one : (ks : List Kept) (k : Kept) → own_all (ks ++ k ∷ []) ≡ own_all ks + own k
own_append_one ks k = let e : own_all (ks ++ k ∷ []) ≡ own_all ks + own_all (k ∷ []) = own_append ks (k ∷ []) in omega arith

pub staged_append_one : (ss : List Staged) (s : Staged) → own_staged (ss ++ s ∷ []) ≡ own_staged ss + s.span.len
staged_append_one [] s = omega arith
staged_append_one (t ∷ ss) s = let e : own_staged (ss ++ s ∷ []) ≡ own_staged ss + s.span.len = staged_append_one ss s in omega arith

own_kept_datagram : (ss : List Staged) → own_all (map kept_datagram ss) ≡ own_staged ss
own_kept_datagram [] = refl
own_kept_datagram (s ∷ ss) = ap (λ (n : ℕ). s.span.len + n) (own_kept_datagram ss)

pub own_take : (n : ℕ) (ks : List Kept) → own_all (take n ks) ≤ own_all ks
own_take zero ks = omega arith
own_take (suc n) [] = omega arith
own_take (suc n) (k ∷ ks) = let e : own_all (take n ks) ≤ own_all ks = own_take n ks in omega arith

pub own_staged_take : (n : ℕ) (ss : List Staged) → own_staged (take n ss) ≤ own_staged ss
own_staged_take zero ss = omega arith
own_staged_take (suc n) [] = omega arith
own_staged_take (suc n) (s ∷ ss) = let e : own_staged (take n ss) ≤ own_staged ss = own_staged_take n ss in omega arith

part_at_most : (store : List ℕ) (span : Span) → length (part store span) ≤ span.len
unfolding part
part_at_most store span = subst (λ (n : ℕ). n ≤ span.len) (sym (length-take span.len (drop span.start store))) (omega arith)

carried_at_most : (store : List ℕ) (k : Kept) → carried (kept_action store k) ≤ own k
carried_at_most store (kept.Wire to span) = part_at_most store span
carried_at_most store (kept.EngineOpen conn role) = omega arith
carried_at_most store (kept.EnginePut conn span) = part_at_most store span
carried_at_most store (kept.EngineWrite conn span) = part_at_most store span
carried_at_most store (kept.EngineClose conn) = omega arith
carried_at_most store (kept.Device span) = part_at_most store span
carried_at_most store (kept.Configure setup) = omega arith
carried_at_most store (kept.Ask cid span) = part_at_most store span
carried_at_most store (kept.Say span) = part_at_most store span
carried_at_most store (kept.Report note) = omega arith
carried_at_most store kept.Stop = omega arith

-- effects carry no more bytes than are theirs, and datagrams have no more
pub carried_of : (store : List ℕ) (ks : List Kept) → carried_by (map (kept_action store) ks) ≤ own_all ks
carried_of store [] = omega arith
carried_of store (k ∷ ks) =
    let one : carried (kept_action store k) ≤ own k = carried_at_most store k in
    let others : carried_by (map (kept_action store) ks) ≤ own_all ks = carried_of store ks in
    omega arith

pub staged_of : (store : List ℕ) (ss : List Staged) → staged_bytes (map (staged_datagram store) ss) ≤ own_staged ss
staged_of store [] = omega arith
staged_of store (s ∷ ss) =
    let one : length (part store s.span) ≤ s.span.len = part_at_most store s.span in
    let others : staged_bytes (map (staged_datagram store) ss) ≤ own_staged ss = staged_of store ss in
    omega arith

grown : (n e s e2 : ℕ) → n ≤ min e s → e ≤ e2 → n ≤ min e2 s
grown n e s e2 h more = omega arith

grows : (n e s e2 : ℕ) → n ≤ min e s → e ≤ e2 → n + 0 ≤ min e2 s
grows n e s e2 h more = omega arith

-- the staged datagrams stand behind the effects
pub settled : (store : List ℕ) (ks : List Kept) (ss : List Staged) → map (kept_action store) (ks ++ map kept_datagram ss) ≡ map (kept_action store) ks ++ map on_wire (map (staged_datagram store) ss)
settled store ks ss =
    map-append (kept_action store) ks (map kept_datagram ss)
    ∙ ap (λ (actions : List Action). map (kept_action store) ks ++ actions) (map_kept_datagram store ss)

pub settled_sound : (ks : List Kept) (ss : List Staged) (size e s b e2 : ℕ) → IsSound ks ss size e s b → e ≤ e2 → IsSound (ks ++ map kept_datagram ss) [] size e2 s b
settled_sound ks ss size e s b e2 h more =
    record {
      effects_within = all_append (IsKeptWithin size) ks (map kept_datagram ss) h.effects_within (all_kept_datagram size ss h.staged_within);
      staged_within = tt;
      apart = subst (λ (n : ℕ). n + 0 ≤ size) (sym (own_append ks (map kept_datagram ss) ∙ ap (λ (n : ℕ). own_all ks + n) (own_kept_datagram ss))) (let apart : own_all ks + own_staged ss ≤ size = h.apart in omega arith);
      room = subst (λ (n : ℕ). n + 0 ≤ min e2 s) (sym (length-append ks (map kept_datagram ss) ∙ ap (λ (n : ℕ). length ks + n) (length-map ss kept_datagram))) (grows (length ks + length ss) e s e2 h.room more);
      least_effects = grown 4 e s e2 h.least_effects more;
      least_bytes = h.least_bytes;
    }

-- what was kept, in a store that has grown
pub kept_before : (store new more : List ℕ) (ks ks1 : List Kept) → new ≡ store ++ more → ks1 ≡ ks → AllByRecursion (IsKeptWithin (length store)) ks → map (kept_action new) ks1 ≡ map (kept_action store) ks
kept_before store new more ks ks1 grown same within =
    ap (λ (l : List ℕ). map (kept_action l) ks1) grown ∙ ap (map (kept_action (store ++ more))) same ∙ all_kept_append store more ks within

pub staged_before : (store new more : List ℕ) (ss ss1 : List Staged) → new ≡ store ++ more → ss1 ≡ ss → AllByRecursion (IsStagedWithin (length store)) ss → map (staged_datagram new) ss1 ≡ map (staged_datagram store) ss
staged_before store new more ss ss1 grown same within =
    ap (λ (l : List ℕ). map (staged_datagram l) ss1) grown ∙ ap (map (staged_datagram (store ++ more))) same ∙ all_staged_append store more ss within

-- one effect more
pub kept_added : (store new more : List ℕ) (ks ks1 ks2 : List Kept) (k : Kept) (a : Action) → new ≡ store ++ more → ks1 ≡ ks → ks2 ≡ ks1 ++ k ∷ [] → AllByRecursion (IsKeptWithin (length store)) ks → kept_action new k ≡ a → map (kept_action new) ks2 ≡ map (kept_action store) ks ++ a ∷ []
kept_added store new more ks ks1 ks2 k a grown same one within is =
    ap (map (kept_action new)) one ∙ map-append (kept_action new) ks1 (k ∷ [])
    ∙ ap (λ (actions : List Action). actions ++ kept_action new k ∷ []) (kept_before store new more ks ks1 grown same within)
    ∙ ap (λ (b : Action). map (kept_action store) ks ++ b ∷ []) is

-- one staged datagram more
pub staged_added : (store new more : List ℕ) (ss ss1 ss2 : List Staged) (s : Staged) (d : Datagram) → new ≡ store ++ more → ss1 ≡ ss → ss2 ≡ ss1 ++ s ∷ [] → AllByRecursion (IsStagedWithin (length store)) ss → staged_datagram new s ≡ d → map (staged_datagram new) ss2 ≡ map (staged_datagram store) ss ++ d ∷ []
staged_added store new more ss ss1 ss2 s d grown same one within is =
    ap (map (staged_datagram new)) one ∙ map-append (staged_datagram new) ss1 (s ∷ [])
    ∙ ap (λ (ds : List Datagram). ds ++ staged_datagram new s ∷ []) (staged_before store new more ss ss1 grown same within)
    ∙ ap (λ (b : Datagram). map (staged_datagram store) ss ++ b ∷ []) is

-- places within a store lie within what it has grown to
pub all_within_grown : (store new more : List ℕ) (ks : List Kept) → new ≡ store ++ more → AllByRecursion (IsKeptWithin (length store)) ks → AllByRecursion (IsKeptWithin (length new)) ks
all_within_grown store new more ks grown within =
    subst (λ (n : ℕ). AllByRecursion (IsKeptWithin n) ks) (sym (ap length grown ∙ length-append store more)) (all_within_grows (length store) (length more) ks within)

pub all_staged_grown : (store new more : List ℕ) (ss : List Staged) → new ≡ store ++ more → AllByRecursion (IsStagedWithin (length store)) ss → AllByRecursion (IsStagedWithin (length new)) ss
all_staged_grown store new more ss grown within =
    subst (λ (n : ℕ). AllByRecursion (IsStagedWithin n) ss) (sym (ap length grown ∙ length-append store more)) (all_staged_grows (length store) (length more) ss within)

counted : (m n p q top : ℕ) → m ≡ n + 1 → p ≡ q → n + q + 1 ≤ top → m + p ≤ top
counted m n p q top first second h = omega arith

both_grown : (n e s e2 s2 : ℕ) → n ≤ min e s → e ≤ e2 → s ≤ s2 → n ≤ min e2 s2
both_grown n e s e2 s2 h more_e more_s = omega arith

at_least : (b b2 : ℕ) → 4096 ≤ b → b ≤ b2 → 4096 ≤ b2
at_least b b2 h more = omega arith

pub room_for : (effects staged size size2 e s e2 : ℕ) → effects ≡ size → staged ≡ size2 → effects + staged + 1 ≤ min e s → e ≤ e2 → size + size2 + 1 ≤ min e2 s
room_for effects staged size size2 e s e2 first second h more = omega arith

added_apart : (ks2 ks k ss1 ss new store more : ℕ) → ks2 ≡ ks + (k + 0) → ss1 ≡ ss → new ≡ store + more → k ≡ more → ks + ss ≤ store → ks2 + ss1 ≤ new
added_apart ks2 ks k ss1 ss new store more one same grown len h = omega arith

pub through : (a b c : ℕ) → a ≤ b → b ≤ c → a ≤ c
through a b c h g = omega arith

staged_apart_by : (ks1 ks ss2 ss s new store more : ℕ) → ks1 ≡ ks → ss2 ≡ ss + s → new ≡ store + more → s ≡ more → ks + ss ≤ store → ks1 + ss2 ≤ new
staged_apart_by ks1 ks ss2 ss s new store more same one grown len h = omega arith

cleared_by : (own1 own2 carried1 carried2 len size cap cap2 len2 : ℕ) → carried1 ≤ own1 → carried2 ≤ own2 → own1 + own2 ≤ size → len ≡ size → len ≤ cap → cap2 ≡ cap → len2 ≡ 0 → cap - len + carried1 + carried2 ≤ cap2 - len2
cleared_by own1 own2 carried1 carried2 len size cap cap2 len2 first second h is fits same none = omega arith

-- a cleared outbox has the room of what it held
pub cleared : (store : List ℕ) (ks : List Kept) (ss : List Staged) (len cap cap2 len2 : ℕ) → own_all ks + own_staged ss ≤ length store → len ≡ length store → len ≤ cap → cap2 ≡ cap → len2 ≡ 0
    → cap - len + carried_by (map (kept_action store) ks) + staged_bytes (map (staged_datagram store) ss) ≤ cap2 - len2
cleared store ks ss len cap cap2 len2 h is fits same none =
    cleared_by (own_all ks) (own_staged ss) (carried_by (map (kept_action store) ks)) (staged_bytes (map (staged_datagram store) ss)) len (length store) cap cap2 len2 (carried_of store ks) (staged_of store ss) h is fits same none

-- an outbox with one effect more is sound
pub added_sound : (store new more : List ℕ) (ks ks1 ks2 : List Kept) (k : Kept) (ss ss1 : List Staged) (e s b e2 s2 b2 : ℕ)
    → new ≡ store ++ more → ks1 ≡ ks → ks2 ≡ ks1 ++ k ∷ [] → ss1 ≡ ss → IsSound ks ss (length store) e s b → IsKeptWithin (length new) k
    → own k ≡ length more → length ks + length ss + 1 ≤ min e2 s2 → e ≤ e2 → s ≤ s2 → b ≤ b2 → IsSound ks2 ss1 (length new) e2 s2 b2
added_sound store new more ks ks1 ks2 k ss ss1 e s b e2 s2 b2 grown same one same2 h within len room more_e more_s more_b =
    let ks2_is : ks2 ≡ ks ++ k ∷ [] = one ∙ ap (λ (l : List Kept). l ++ k ∷ []) same in
    let size : length ks2 ≡ length ks + 1 = ap length ks2_is ∙ length-append ks (k ∷ []) in
    let size2 : length ss1 ≡ length ss = ap length same2 in
    record {
      effects_within = subst (AllByRecursion (IsKeptWithin (length new))) (sym ks2_is) (all_append (IsKeptWithin (length new)) ks (k ∷ []) (all_within_grown store new more ks grown h.effects_within) (within, tt));
      staged_within = subst (AllByRecursion (IsStagedWithin (length new))) (sym same2) (all_staged_grown store new more ss grown h.staged_within);
      apart = added_apart (own_all ks2) (own_all ks) (own k) (own_staged ss1) (own_staged ss) (length new) (length store) (length more)
          (ap own_all ks2_is ∙ own_append ks (k ∷ [])) (ap own_staged same2) (ap length grown ∙ length-append store more) len h.apart;
      room = counted (length ks2) (length ks) (length ss1) (length ss) (min e2 s2) size size2 room;
      least_effects = both_grown 4 e s e2 s2 h.least_effects more_e more_s;
      least_bytes = at_least b b2 h.least_bytes more_b;
    }

counted_behind : (m n p q top : ℕ) → m ≡ n → p ≡ q + 1 → n + q + 1 ≤ top → m + p ≤ top
counted_behind m n p q top first second h = omega arith

pub room_behind : (effects staged size size2 e s s2 : ℕ) → effects ≡ size → staged ≡ size2 → effects + staged + 1 ≤ min e s → s ≤ s2 → size + size2 + 1 ≤ min e s2
room_behind effects staged size size2 e s s2 first second h more = omega arith

-- an outbox with one staged datagram more is sound
pub staged_sound : (store new more : List ℕ) (ks ks1 : List Kept) (ss ss1 ss2 : List Staged) (d : Staged) (e s b e2 s2 b2 : ℕ)
    → new ≡ store ++ more → ks1 ≡ ks → ss1 ≡ ss → ss2 ≡ ss1 ++ d ∷ [] → IsSound ks ss (length store) e s b → IsStagedWithin (length new) d
    → d.span.len ≡ length more → length ks + length ss + 1 ≤ min e2 s2 → e ≤ e2 → s ≤ s2 → b ≤ b2 → IsSound ks1 ss2 (length new) e2 s2 b2
staged_sound store new more ks ks1 ss ss1 ss2 d e s b e2 s2 b2 grown same same2 one h within len room more_e more_s more_b =
    let ss2_is : ss2 ≡ ss ++ d ∷ [] = one ∙ ap (λ (l : List Staged). l ++ d ∷ []) same2 in
    record {
      effects_within = subst (AllByRecursion (IsKeptWithin (length new))) (sym same) (all_within_grown store new more ks grown h.effects_within);
      staged_within = subst (AllByRecursion (IsStagedWithin (length new))) (sym ss2_is) (all_append (IsStagedWithin (length new)) ss (d ∷ []) (all_staged_grown store new more ss grown h.staged_within) (within, tt));
      apart = staged_apart_by (own_all ks1) (own_all ks) (own_staged ss2) (own_staged ss) d.span.len (length new) (length store) (length more)
          (ap own_all same) (ap own_staged ss2_is ∙ staged_append_one ss d) (ap length grown ∙ length-append store more) len h.apart;
      room = counted_behind (length ks1) (length ks) (length ss2) (length ss) (min e2 s2) (ap length same) (ap length ss2_is ∙ length-append ss (d ∷ [])) room;
      least_effects = both_grown 4 e s e2 s2 h.least_effects more_e more_s;
      least_bytes = at_least b b2 h.least_bytes more_b;
    }

configured_by : (ks2 ks k ss size : ℕ) → ks2 ≡ ks + k → k ≡ 0 → ks + ss ≤ size → ks2 + ss ≤ size
configured_by ks2 ks k ss size one none h = omega arith

pub room_in : (effects staged size size2 e s e2 : ℕ) → effects ≡ size → staged ≡ size2 → 1 ≤ min e s - (effects + staged) → e ≤ e2 → size + size2 + 1 ≤ min e2 s
room_in effects staged size size2 e s e2 first second h more = omega arith

-- an outbox with one configuration more is sound
pub configured_sound : (ks ks2 : List Kept) (k : Kept) (ss : List Staged) (size e s b e2 : ℕ)
    → ks2 ≡ ks ++ k ∷ [] → IsKeptWithin size k → own k ≡ 0 → IsSound ks ss size e s b → length ks + length ss + 1 ≤ min e2 s → e ≤ e2 → IsSound ks2 ss size e2 s b
configured_sound ks ks2 k ss size e s b e2 one within none h room more_e =
    record {
      effects_within = subst (AllByRecursion (IsKeptWithin size)) (sym one) (all_append (IsKeptWithin size) ks (k ∷ []) h.effects_within (within, tt));
      staged_within = h.staged_within;
      apart = configured_by (own_all ks2) (own_all ks) (own k) (own_staged ss) size (ap own_all one ∙ own_append_one ks k) none h.apart;
      room = counted (length ks2) (length ks) (length ss) (length ss) (min e2 s) (ap length one ∙ length-append ks (k ∷ [])) refl room;
      least_effects = grown 4 e s e2 h.least_effects more_e;
      least_bytes = h.least_bytes;
    }
