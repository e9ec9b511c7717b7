-- The parts of a reply, collected again.
use Rattle.std.proofs.Common.{◌≡◌, ℕ, ◌==◌, ◌&&◌, not, Bool, true, false, cond, List, [], ◌∷◌, ◌++◌, length, Ok, Err, Result, refl, ap, sym, ◌∙◌}
use Rattle.std.specs.Prelude.{Option, Some, None, codes, is_none, nat_le, unwrap_or}
use Rattle.std.specs.List.{All, list_all, slice_split}
use Rattle.std.proofs.lemmas.List.{append_assoc, append-nil}
use Rattle.std.proofs.lemmas.List.Elements.{All-cons, All-nil}
use Rattle.std.proofs.lemmas.List.Splits.{slice_split_at, slice_split_none}
use Rattle.vpn_base.specs.declared.names.Policy.{Policy}
use Rattle.push_options.specs.declared.collector.Pushed.{Pushed}
use Rattle.push_options.specs.declared.collector.PushFault.{PushFault}
use Rattle.push_options.specs.Parts.{fits, last_mark, more_mark, opening, parts_from, reply_parts, with_options}
use Rattle.push_options.specs.Received.{name_of, received, words_in}
use Rattle.push_options.specs.Collecting.{Collected, and_then, answer_with, behind_first, collected, is_continued, is_plain, kept_with, mark_of, nothing, options_in, pushed, pushed_by, some_pushed, unless_waits, with_all, with_one}

-- options with a comma before each
abbrev joined : List (List ℕ) → List ℕ
joined [] = []
joined (o ∷ os) = 44 ∷ (o ++ joined os)

with_options-joined : (text : List ℕ) (os : List (List ℕ)) → with_options text os ≡ text ++ joined os
with_options-joined text [] = sym (append-nil text)
with_options-joined text (o ∷ os) = with_options-joined (text ++ 44 ∷ o) os ∙ append_assoc text (44 ∷ o) (joined os)

joined-append : (xs ys : List (List ℕ)) → joined (xs ++ ys) ≡ joined xs ++ joined ys
joined-append [] ys = refl
joined-append (x ∷ xs) ys =
    ap (λ (l : List ℕ). 44 ∷ (x ++ l)) (joined-append xs ys) ∙ ap (λ (l : List ℕ). 44 ∷ l) (sym (append_assoc x (joined xs) (joined ys)))

joined-one : (o : List ℕ) → joined (o ∷ []) ≡ 44 ∷ o
joined-one o = ap (λ (l : List ℕ). 44 ∷ l) (append-nil o)

joined_more : (done : List (List ℕ)) (o : List ℕ) → (opening ++ joined done) ++ 44 ∷ o ≡ opening ++ joined (done ++ o ∷ [])
joined_more done o =
    append_assoc opening (joined done) (44 ∷ o)
    ∙ ap (λ (l : List ℕ). opening ++ l) (sym (joined-append done (o ∷ []) ∙ ap (λ (l : List ℕ). joined done ++ l) (joined-one o)))

-- no comma
abbrev IsClean : List ℕ → Type 0
IsClean text = All (λ c. (c == 44) ≡ false) text

abbrev AreClean : List (List ℕ) → Type 0
AreClean [] = Unit {0}
AreClean (o ∷ os) = IsClean o × AreClean os

clean-append : (xs : List (List ℕ)) (o : List ℕ) → AreClean xs → IsClean o → AreClean (xs ++ o ∷ [])
clean-append [] o all clean = (clean, tt)
clean-append (x ∷ xs) o all clean = (all.0, clean-append xs o all.1 clean)

and_true : (a b : Bool) → (a && b) ≡ true → (a ≡ true) × (b ≡ true)
and_true true true e = (refl, refl)
and_true true false e = cc
and_true false b e = cc

not_true : (b : Bool) → not b ≡ true → b ≡ false
not_true true e = cc
not_true false e = refl

clean_of : (text : List ℕ) → list_all (λ c. not (c == 44)) text ≡ true → IsClean text
clean_of [] clean = All-nil (λ c. (c == 44) ≡ false)
clean_of (c ∷ cs) clean =
    let parts = and_true (not (c == 44)) (list_all (λ d. not (d == 44)) cs) clean in
    All-cons (λ (d : ℕ). (d == 44) ≡ false) c cs (not_true (c == 44) parts.0) (clean_of cs parts.1)

are_clean : (ours : Policy) (os : List (List ℕ)) → list_all (is_plain ours) os ≡ true → AreClean os
are_clean ours [] plain = tt
are_clean ours (o ∷ os) plain =
    let parts = and_true (is_plain ours o) (list_all (is_plain ours) os) plain in
    let here = and_true (list_all (λ c. not (c == 44)) o) (is_none (mark_of (received ours (words_in o)))) parts.0 in
    (clean_of o here.0, are_clean ours os parts.1)

-- the options of a part are those that stand in it
split_joined : (os : List (List ℕ)) (text : List ℕ) → IsClean text → AreClean os → slice_split (λ c. c == 44) (text ++ joined os) ≡ text ∷ os
split_joined [] text clean all = ap (slice_split (λ c. c == 44)) (append-nil text) ∙ slice_split_none (λ c. c == 44) text clean
split_joined (o ∷ os) text clean all =
    slice_split_at (λ c. c == 44) text 44 (o ++ joined os) clean refl ∙ ap (λ (l : List (List ℕ)). text ∷ l) (split_joined os o all.0 all.1)

opening_clean : IsClean opening
unfolding opening
opening_clean = clean_of opening refl

options_back : (os : List (List ℕ)) → AreClean os → options_in (opening ++ joined os) ≡ os
options_back os all = ap behind_first (split_joined os opening opening_clean all)

-- marks
abbrev last_option : List ℕ
last_option = codes "push-continuation 1"

abbrev more_option : List ℕ
more_option = codes "push-continuation 2"

last_is : last_mark ≡ 44 ∷ last_option
unfolding last_mark
last_is = refl

more_is : more_mark ≡ 44 ∷ more_option
unfolding more_mark
more_is = refl

last_says : (ours : Policy) → mark_of (received ours (words_in last_option)) ≡ Some false
unfolding name_of
last_says ours = refl

more_says : (ours : Policy) → mark_of (received ours (words_in more_option)) ≡ Some true
unfolding name_of
more_says ours = refl

last_adds : (ours : Policy) (c : Collected) → with_one ours c last_option ≡ Ok c
unfolding name_of
last_adds ours c = refl

more_adds : (ours : Policy) (c : Collected) → with_one ours c more_option ≡ Ok c
unfolding name_of
more_adds ours c = refl

-- options behind options
and_then-append : (ours : Policy) (r : Result Collected PushFault) (xs ys : List (List ℕ))
    → ((c : Collected) → with_all ours c (xs ++ ys) ≡ and_then (with_all ours c xs) (λ n. with_all ours n ys))
    → and_then r (λ c. with_all ours c (xs ++ ys)) ≡ and_then (and_then r (λ c. with_all ours c xs)) (λ n. with_all ours n ys)
and_then-append ours (Ok c) xs ys later = later c
and_then-append ours (Err fault) xs ys later = refl

with_all-append : (ours : Policy) (c : Collected) (xs ys : List (List ℕ))
    → with_all ours c (xs ++ ys) ≡ and_then (with_all ours c xs) (λ n. with_all ours n ys)
unfolding with_all
with_all-append ours c [] ys = refl
with_all-append ours c (x ∷ xs) ys = and_then-append ours (with_one ours c x) xs ys (λ n. with_all-append ours n xs ys)

same_then : (ours : Policy) (r : Result Collected PushFault) (m : List ℕ) → ((c : Collected) → with_one ours c m ≡ Ok c)
    → and_then r (λ n. with_all ours n (m ∷ [])) ≡ r
unfolding with_all
same_then ours (Ok c) m adds = ap (λ (r : Result Collected PushFault). and_then r (λ n. Ok n)) (adds c)
same_then ours (Err fault) m adds = refl

with_mark : (ours : Policy) (c : Collected) (xs : List (List ℕ)) (m : List ℕ) → ((n : Collected) → with_one ours n m ≡ Ok n)
    → with_all ours c (xs ++ m ∷ []) ≡ with_all ours c xs
with_mark ours c xs m adds = with_all-append ours c xs (m ∷ []) ∙ same_then ours (with_all ours c xs) m adds

continued-last : (ours : Policy) (more mark : Bool) (xs : List (List ℕ)) (m : List ℕ) → mark_of (received ours (words_in m)) ≡ Some mark
    → is_continued ours more (xs ++ m ∷ []) ≡ mark
unfolding is_continued
continued-last ours more mark [] m says = ap (λ (o : Option Bool). unwrap_or o more) says
continued-last ours more mark (x ∷ xs) m says = continued-last ours (unwrap_or (mark_of (received ours (words_in x))) more) mark xs m says

none_is : (o : Option Bool) → is_none o ≡ true → unwrap_or o false ≡ false
none_is None none = refl
none_is (Some m) none = cc

not_continued : (ours : Policy) (os : List (List ℕ)) → list_all (is_plain ours) os ≡ true → is_continued ours false os ≡ false
unfolding is_continued
not_continued ours [] plain = refl
not_continued ours (o ∷ os) plain =
    let parts = and_true (is_plain ours o) (list_all (is_plain ours) os) plain in
    let here = and_true (list_all (λ c. not (c == 44)) o) (is_none (mark_of (received ours (words_in o)))) parts.0 in
    ap (λ (m : Bool). is_continued ours m os) (none_is (mark_of (received ours (words_in o))) here.1) ∙ not_continued ours os parts.1

-- the last answer waits for nothing
no_wait : (p : Result Pushed PushFault) (later : Result (Option Pushed) PushFault) → unless_waits (and_then p some_pushed) later ≡ and_then p some_pushed
no_wait (Ok p) later = refl
no_wait (Err fault) later = refl

last_answers : (r : Result Collected PushFault) (later : Result (Option Pushed) PushFault) → unless_waits (answer_with false r) later ≡ answer_with false r
last_answers (Ok c) later = no_wait (pushed c) later
last_answers (Err fault) later = refl

-- a part of these options
one_part : (ours : Policy) (c : Collected) (part : List ℕ) (os : List (List ℕ)) (more : Bool) (r : Result Collected PushFault) (parts : List (List ℕ))
    → options_in part ≡ os → is_continued ours false os ≡ more → with_all ours c os ≡ r
    → collected ours c (part ∷ parts) ≡ unless_waits (answer_with more r) (collected ours (kept_with more r) parts)
unfolding collected
one_part ours c part os more r parts has goes says =
    let goes_on : is_continued ours false (options_in part) ≡ more = ap (is_continued ours false) has ∙ goes in
    let taken : with_all ours c (options_in part) ≡ r = ap (with_all ours c) has ∙ says in
    ap (λ (m : Bool). unless_waits (answer_with m (with_all ours c (options_in part))) (collected ours (kept_with m (with_all ours c (options_in part))) parts)) goes_on
    ∙ ap (λ (t : Result Collected PushFault). unless_waits (answer_with more t) (collected ours (kept_with more t) parts)) taken

-- the part that waits, and those behind it
waits : (ours : Policy) (r : Result Collected PushFault) (parts : List (List ℕ)) (options : List (List ℕ))
    → ((n : Collected) → collected ours n parts ≡ answer_with false (with_all ours n options))
    → unless_waits (answer_with true r) (collected ours (kept_with true r) parts) ≡ answer_with false (and_then r (λ n. with_all ours n options))
waits ours (Ok c) parts options later = later c
waits ours (Err fault) parts options later = refl

-- the next option fits, or it does not
collected_by : (b : Bool) (ours : Policy) (c : Collected) (done : List (List ℕ)) (o : List ℕ) (os : List (List ℕ)) → AreClean done → IsClean o
    → ((d : List (List ℕ)) (n : Collected) → AreClean d → collected ours n (parts_from (opening ++ joined d) os) ≡ answer_with false (with_all ours n (d ++ os)))
    → collected ours c (cond b (parts_from ((opening ++ joined done) ++ 44 ∷ o) os) (((opening ++ joined done) ++ more_mark) ∷ parts_from (opening ++ 44 ∷ o) os))
    ≡ answer_with false (with_all ours c (done ++ o ∷ os))
collected_by true ours c done o os all clean later =
    ap (λ (part : List ℕ). collected ours c (parts_from part os)) (joined_more done o)
    ∙ later (done ++ o ∷ []) c (clean-append done o all clean)
    ∙ ap (λ (l : List (List ℕ)). answer_with false (with_all ours c l)) (append_assoc done (o ∷ []) os)
collected_by false ours c done o os all clean later =
    let part : List ℕ = (opening ++ joined done) ++ more_mark in
    let rest = parts_from (opening ++ 44 ∷ o) os in
    let has : options_in part ≡ done ++ more_option ∷ [] =
    ap options_in (ap (λ (m : List ℕ). (opening ++ joined done) ++ m) more_is ∙ joined_more done more_option)
    ∙ options_back (done ++ more_option ∷ []) (clean-append done more_option all (clean_of more_option refl)) in
    one_part ours c part (done ++ more_option ∷ []) true (with_all ours c done) rest has (continued-last ours false true done more_option (more_says ours))
    (with_mark ours c done more_option (more_adds ours))
    ∙ waits ours (with_all ours c done) rest (o ∷ os)
    (λ n. ap (λ (l : List ℕ). collected ours n (parts_from (opening ++ l) os)) (sym (joined-one o)) ∙ later (o ∷ []) n (clean, tt))
    ∙ ap (answer_with false) (sym (with_all-append ours c done (o ∷ os)))

parts_collected : (ours : Policy) (os done : List (List ℕ)) (c : Collected) → AreClean done → AreClean os
    → collected ours c (parts_from (opening ++ joined done) os) ≡ answer_with false (with_all ours c (done ++ os))
parts_collected ours [] done c all clean =
    let part : List ℕ = (opening ++ joined done) ++ last_mark in
    let has : options_in part ≡ done ++ last_option ∷ [] =
    ap options_in (ap (λ (m : List ℕ). (opening ++ joined done) ++ m) last_is ∙ joined_more done last_option)
    ∙ options_back (done ++ last_option ∷ []) (clean-append done last_option all (clean_of last_option refl)) in
    one_part ours c part (done ++ last_option ∷ []) false (with_all ours c done) [] has (continued-last ours false false done last_option (last_says ours))
    (with_mark ours c done last_option (last_adds ours))
    ∙ last_answers (with_all ours c done) _
    ∙ ap (λ (l : List (List ℕ)). answer_with false (with_all ours c l)) (sym (append-nil done))
parts_collected ours (o ∷ os) done c all clean =
    collected_by (fits (opening ++ joined done) o) ours c done o os all clean.0 (λ d n ds. parts_collected ours os d n ds clean.1)

reply_by : (b : Bool) (ours : Policy) (options : List (List ℕ)) → list_all (is_plain ours) options ≡ true
    → collected ours nothing (cond b (with_options opening options ∷ []) (parts_from opening options)) ≡ pushed_by ours options
reply_by true ours options plain =
    let clean = are_clean ours options plain in
    one_part ours nothing (with_options opening options) options false (with_all ours nothing options) []
    (ap options_in (with_options-joined opening options) ∙ options_back options clean) (not_continued ours options plain) refl
    ∙ last_answers (with_all ours nothing options) _
reply_by false ours options plain =
    ap (λ (part : List ℕ). collected ours nothing (parts_from part options)) (sym (append-nil opening))
    ∙ parts_collected ours options [] nothing tt (are_clean ours options plain)

pub reply_collected : (ours : Policy) (options : List (List ℕ)) → list_all (is_plain ours) options ≡ true
    → collected ours nothing (reply_parts options) ≡ pushed_by ours options
unfolding reply_parts
reply_collected ours options plain = reply_by (nat_le (length (with_options opening options)) 1024) ours options plain
