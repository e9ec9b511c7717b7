-- A file that is too long is judged by its front alone.
use Rattle.std.proofs.Common.{◌≡◌, ℕ, suc, zero, ◌+◌, ◌-◌, ◌<◌, ◌≤◌, ◌==◌, ◌||◌, ◌⊎◌, inl, inr, Bool, true, false, cond, List, [], ◌∷◌, ◌++◌, length, take, min, refl, ap, sym, subst, ◌∙◌, arith, length-append}
use Rattle.std.specs.Prelude.{Option, Some, None, option_map, Result, Ok, Err, nat_lt, bytes_eq, All}
use Rattle.std.proofs.lemmas.List.{take-append-le, length-take, take_all}
use Rattle.std.proofs.lemmas.List.Elements.{All-take}
use Rattle.std.proofs.lemmas.List.Splits.{slice_split_none}
use Rattle.std.proofs.lemmas.Bool.{cases_lt, eqb-true, lt-ltb}
use Rattle.std.proofs.Math.Bool.{or-true}
use Rattle.std.proofs.Math.Dec.{eqb-suc-zero}
use Rattle.std.proofs.Math.Seq.{take-append-add}
use Rattle.vpn_base.specs.Lines.{Line, content, lines_of, lines_of_parts, size}
use Rattle.vpn_text.specs.declared.config.ConfigFault.{ConfigFault}
use Rattle.vpn_text.specs.declared.config.ConfigKind.{ConfigKind}
use Rattle.vpn_text.specs.declared.config.ConfigKind.TheVariants.{Long, Control}
use Rattle.vpn_text.specs.ConfigLine.{config_words, words_in, is_over}
use Rattle.vpn_text.specs.Words.{line_words}
use Rattle.config_directives.specs.declared.item.Item.TheVariants.{Block}
use Rattle.config_directives.specs.declared.item.Directive.{Directive}
use Rattle.config_directives.specs.Blocks.{block_end}
use Rattle.config_directives.specs.Entries.{Entry, Faulty, FileLine, Given, begun_by, block_behind, block_begun, entries, has_control, inside_entries, item_begun, line_behind, line_entries, outside_entries, until_end, words_on}
use Rattle.config_directives.specs.Judging.{judged, kind_of, unless_wrong}
use Rattle.ovpn_config.specs.Reading.{settings, settings_from}
use Rattle.ovpn_config.proofs.FirstLines.{line_first}

-- ---- lines

-- behind so many bytes, these lines are the same up to one in which the file grows too long
abbrev AgreeTo : ℕ → List Line → List Line → Type 0
AgreeTo before [] ms = ⊥
AgreeTo before (l ∷ ls) [] = ⊥
AgreeTo before (l ∷ ls) (m ∷ ms) =
    ((is_over (before + size l) ≡ true) × (is_over (before + size m) ≡ true)) ⊎ ((l ≡ m) × AgreeTo (before + size l) ls ms)

-- a block's bytes are the same
until_same : (last : List ℕ) (before : ℕ) (ls ms : List Line) → AgreeTo before ls ms → until_end last before ls ≡ until_end last before ms
unfolding until_end
until_same last before [] ms agree = absurd agree
until_same last before (l ∷ ls) [] agree = absurd agree
until_same last before (l ∷ ls) (m ∷ ms) (inl over) =
    ap (λ (o : Bool). cond (o || bytes_eq (content l) last) (Some []) (option_map (λ (more : List ℕ). content l ++ 10 ∷ more) (until_end last (before + size l) ls))) over.0
    ∙ sym (ap (λ (o : Bool). cond (o || bytes_eq (content m) last) (Some []) (option_map (λ (more : List ℕ). content m ++ 10 ∷ more) (until_end last (before + size m) ms))) over.1)
until_same last before (l ∷ ls) (m ∷ ms) (inr same) =
    ap (λ (bytes : Option (List ℕ)). cond (is_over (before + size l) || bytes_eq (content l) last) (Some []) (option_map (λ (more : List ℕ). content l ++ 10 ∷ more) bytes)) (until_same last (before + size l) ls ms same.1)
    ∙ ap (λ (k : Line). until_end last before (k ∷ ms)) same.0

-- and so is what a line holds
begun_same : (number : ℕ) (name : Option (List ℕ)) (words : List (List ℕ)) (reached : ℕ) (ls ms : List Line) → AgreeTo reached ls ms
    → Given (record { line = number; item = item_begun name words reached ls }) ≡ Given (record { line = number; item = item_begun name words reached ms })
begun_same number None words reached ls ms agree = refl
begun_same number (Some name) words reached ls ms agree =
    ap (λ (bytes : Option (List ℕ)). Given (record { line = number; item = Block name bytes })) (until_same (block_end name) reached ls ms agree)

outside_same : (number : ℕ) (read : Result (List (List ℕ)) ConfigFault) (reached : ℕ) (ls ms : List Line) → AgreeTo reached ls ms
    → outside_entries number read reached ls ≡ outside_entries number read reached ms
outside_same number (Err fault) reached ls ms agree = refl
outside_same number (Ok []) reached ls ms agree = refl
outside_same number (Ok (word ∷ words)) reached ls ms agree = ap (λ (e : Entry). e ∷ []) (begun_same number (begun_by (word ∷ words)) (word ∷ words) reached ls ms agree)

here_same : (block : Option (List ℕ)) (line : FileLine) (ls ms : List Line) → AgreeTo line.reached ls ms → line_entries block line ls ≡ line_entries block line ms
here_same None line ls ms agree = outside_same line.number (words_on line) line.reached ls ms agree
here_same (Some last) line ls ms agree = refl

-- ---- judging

-- the fault of a line in which the file grows too long
abbrev too_long : ℕ → ConfigFault
too_long number = record { line = number; kind = Long; word = [] }

long_words : (number : ℕ) (bytes : List ℕ) (over : Bool) → over ≡ true → config_words number bytes over ≡ Err (too_long number)
unfolding config_words
long_words number bytes over is =
    ap (λ (o : Bool). cond (nat_lt 1024 (length bytes) || o) (Err (too_long number)) (words_in number (line_words bytes))) is
    ∙ ap (λ (b : Bool). cond b (Err (too_long number)) (words_in number (line_words bytes))) (or-true (nat_lt 1024 (length bytes)))

long_inside : (bytes : List ℕ) (over : Bool) → over ≡ true → cond (nat_lt 1024 (length bytes) || over) (Some Long) (cond (has_control bytes) (Some Control) None) ≡ Some Long
long_inside bytes over is =
    ap (λ (o : Bool). cond (nat_lt 1024 (length bytes) || o) (Some Long) (cond (has_control bytes) (Some Control) None)) is
    ∙ ap (λ (b : Bool). cond b (Some Long) (cond (has_control bytes) (Some Control) None)) (or-true (nat_lt 1024 (length bytes)))

stop_over : (ds : List Directive) (block : Option (List ℕ)) (number before : ℕ) (l : Line) (ls : List Line) → is_over (before + size l) ≡ true
    → judged ds (entries block number before (l ∷ ls)) ≡ Err (too_long (number + 1))
unfolding judged entries
stop_over ds None number before l ls over =
    ap (λ (r : Result (List (List ℕ)) ConfigFault). judged ds (outside_entries (number + 1) r (before + size l) ls ++ entries (block_begun r) (number + 1) (before + size l) ls))
    (long_words (number + 1) (content l) (is_over (before + size l)) over)
stop_over ds (Some last) number before l ls over =
    ap (λ (k : Option ConfigKind). judged ds (inside_entries (number + 1) k ++ entries (cond (bytes_eq (content l) last) None (Some last)) (number + 1) (before + size l) ls))
    (long_inside (content l) (is_over (before + size l)) over)

judged_more : (ds : List Directive) (here later other : List Entry) → ((es : List Directive) → judged es later ≡ judged es other)
    → judged ds (here ++ later) ≡ judged ds (here ++ other)
unfolding judged
judged_more ds [] later other same = same ds
judged_more ds (Faulty fault ∷ here) later other same = refl
judged_more ds (Given d ∷ here) later other same = ap (unless_wrong d (kind_of ds d.item)) (judged_more (ds ++ d ∷ []) here later other same)

judged_same : (ds : List Directive) (block : Option (List ℕ)) (number before : ℕ) (ls ms : List Line) → AgreeTo before ls ms
    → judged ds (entries block number before ls) ≡ judged ds (entries block number before ms)
unfolding entries
judged_same ds block number before [] ms agree = absurd agree
judged_same ds block number before (l ∷ ls) [] agree = absurd agree
judged_same ds block number before (l ∷ ls) (m ∷ ms) (inl over) = stop_over ds block number before l ls over.0 ∙ sym (stop_over ds block number before m ms over.1)
judged_same ds block number before (l ∷ ls) (m ∷ ms) (inr same) =
    let line = line_behind number before l in
    ap (λ (here : List Entry). judged ds (here ++ entries (block_behind block line) (number + 1) (before + size l) ls)) (here_same block line ls ms same.1)
    ∙ judged_more ds (line_entries block line ms) (entries (block_behind block line) (number + 1) (before + size l) ls) (entries (block_behind block line) (number + 1) (before + size l) ms)
    (λ es. judged_same es (block_behind block line) (number + 1) (before + size l) ls ms same.1)
    ∙ ap (λ (k : Line). judged ds (entries block number before (k ∷ ms))) same.0

-- such a file is refused
abbrev IsRefused : Result (List Directive) ConfigFault → Type 0
IsRefused (Ok ds) = ⊥
IsRefused (Err fault) = Unit {0}

unless_refused : (d : Directive) (kind : Option ConfigKind) (later : Result (List Directive) ConfigFault) → IsRefused later → IsRefused (unless_wrong d kind later)
unless_refused d None later refused = refused
unless_refused d (Some kind) later refused = tt

refused_more : (ds : List Directive) (here later : List Entry) → ((es : List Directive) → IsRefused (judged es later)) → IsRefused (judged ds (here ++ later))
unfolding judged
refused_more ds [] later refused = refused ds
refused_more ds (Faulty fault ∷ here) later refused = tt
refused_more ds (Given d ∷ here) later refused = unless_refused d (kind_of ds d.item) _ (refused_more (ds ++ d ∷ []) here later refused)

judged_refused : (ds : List Directive) (block : Option (List ℕ)) (number before : ℕ) (ls ms : List Line) → AgreeTo before ls ms
    → IsRefused (judged ds (entries block number before ls))
unfolding entries
judged_refused ds block number before [] ms agree = absurd agree
judged_refused ds block number before (l ∷ ls) [] agree = absurd agree
judged_refused ds block number before (l ∷ ls) (m ∷ ms) (inl over) = subst IsRefused (sym (stop_over ds block number before l ls over.0)) tt
judged_refused ds block number before (l ∷ ls) (m ∷ ms) (inr same) =
    refused_more ds (line_entries block (line_behind number before l) ls) _ (λ es. judged_refused es (block_behind block (line_behind number before l)) (number + 1) (before + size l) ls ms same.1)

settings_same : (last other : ℕ) (r : Result (List Directive) ConfigFault) → IsRefused r → settings_from last r ≡ settings_from other r
settings_same last other (Ok ds) refused = absurd refused
settings_same last other (Err fault) refused = refl

-- ---- texts

-- no line feed stands in these bytes
abbrev NoFeed : List ℕ → Type 0
NoFeed bytes = All (λ c. (c == 10) ≡ false) bytes

-- a text up to its first line feed
record Divided (text : List ℕ) : Type 0 where
  line : List ℕ
  rest : List ℕ
  clean : NoFeed line
  is : text ≡ line ++ 10 ∷ rest

no_feed-cons : (c : ℕ) (cs : List ℕ) → (c == 10) ≡ false → NoFeed cs → NoFeed (c ∷ cs)
no_feed-cons c cs is clean zero d below = is
no_feed-cons c cs is clean (suc k) d below = clean k d (omega arith)

divided_when : (b : Bool) (c : ℕ) (cs : List ℕ) → (c == 10) ≡ b → NoFeed cs ⊎ Divided cs → NoFeed (c ∷ cs) ⊎ Divided (c ∷ cs)
divided_when true c cs is more = inr (record { line = []; rest = cs; clean = λ k d below. absurd (omega arith); is = ap (λ (x : ℕ). x ∷ cs) (eqb-true c 10 is) })
divided_when false c cs is (inl clean) = inl (no_feed-cons c cs is clean)
divided_when false c cs is (inr more) =
    inr (record { line = c ∷ more.line; rest = more.rest; clean = no_feed-cons c more.line is more.clean; is = ap (λ (bytes : List ℕ). c ∷ bytes) more.is })

divided : (text : List ℕ) → NoFeed text ⊎ Divided text
divided [] = inl (λ k d below. absurd (omega arith))
divided (c ∷ cs) = divided_when (c == 10) c cs refl (divided cs)

last_part : (text : List ℕ) → 0 < length text → lines_of_parts (text ∷ []) ≡ record { body = text; ended = false } ∷ []
last_part [] some = absurd (omega arith)
last_part (c ∷ cs) some = ap (λ (b : Bool). cond b [] (record { body = c ∷ cs; ended = false } ∷ [])) (eqb-suc-zero (length cs))

single : (text : List ℕ) → NoFeed text → 0 < length text → lines_of text ≡ record { body = text; ended = false } ∷ []
unfolding lines_of
single text clean some = ap lines_of_parts (slice_split_none (λ c. c == 10) text clean) ∙ last_part text some

-- lines of a text whose first line the file grows too long in
agree_over : (before : ℕ) (ls ms ks ns : List Line) (l m : Line) → ls ≡ l ∷ ks → ms ≡ m ∷ ns → 65536 < before + size l → 65536 < before + size m → AgreeTo before ls ms
agree_over before ls ms ks ns l m is are over more =
    subst (λ (xs : List Line). AgreeTo before xs ms) (sym is) (subst (λ (ys : List Line). AgreeTo before (l ∷ ks) ys) (sym are) (inl (lt-ltb 65536 (before + size l) over, lt-ltb 65536 (before + size m) more)))

agree_same : (before : ℕ) (ls ms ks ns : List Line) (l : Line) → ls ≡ l ∷ ks → ms ≡ l ∷ ns → AgreeTo (before + size l) ks ns → AgreeTo before ls ms
agree_same before ls ms ks ns l is are agree =
    subst (λ (xs : List Line). AgreeTo before xs ms) (sym is) (subst (λ (ys : List Line). AgreeTo before (l ∷ ks) ys) (sym are) (inr (refl, agree)))

-- of one line that no line feed ends
agree_unended : (n before : ℕ) (text : List ℕ) → NoFeed text → n + before ≡ 65537 → before ≤ 65536 → 65536 < before + length text
    → AgreeTo before (lines_of text) (lines_of (take n text))
agree_unended n before text clean all low over =
    let long : length (take n text) ≡ min n (length text) = length-take n text in
    agree_over before (lines_of text) (lines_of (take n text)) [] [] (record { body = text; ended = false }) (record { body = take n text; ended = false })
    (single text clean (omega arith)) (single (take n text) (All-take (λ c. (c == 10) ≡ false) n text clean) (omega arith)) (omega arith) (omega arith)

-- of a line that ends behind the front
agree_cut : (n before : ℕ) (line rest : List ℕ) → NoFeed line → n + before ≡ 65537 → before ≤ 65536 → n ≤ length line
    → AgreeTo before (lines_of (line ++ 10 ∷ rest)) (lines_of (take n (line ++ 10 ∷ rest)))
agree_cut n before line rest clean all low short =
    let long : length (take n line) ≡ min n (length line) = length-take n line in
    agree_over before (lines_of (line ++ 10 ∷ rest)) (lines_of (take n (line ++ 10 ∷ rest))) (lines_of rest) [] (record { body = line; ended = true }) (record { body = take n line; ended = false })
    (line_first line rest clean) (ap lines_of (take-append-le n line (10 ∷ rest) short) ∙ single (take n line) (All-take (λ c. (c == 10) ≡ false) n line clean) (omega arith)) (omega arith) (omega arith)

-- of a line within the front
within : (more : ℕ) (line rest : List ℕ) → take (length line + suc more) (line ++ 10 ∷ rest) ≡ line ++ 10 ∷ take more rest
within more line rest = take-append-add line (10 ∷ rest) (suc more)

agree_within : (more n before : ℕ) (line rest : List ℕ) → NoFeed line → n ≡ length line + suc more
    → AgreeTo (before + (length line + 1)) (lines_of rest) (lines_of (take more rest))
    → AgreeTo before (lines_of (line ++ 10 ∷ rest)) (lines_of (take n (line ++ 10 ∷ rest)))
agree_within more n before line rest clean is agree =
    agree_same before (lines_of (line ++ 10 ∷ rest)) (lines_of (take n (line ++ 10 ∷ rest))) (lines_of rest) (lines_of (take more rest)) (record { body = line; ended = true })
    (line_first line rest clean)
    (ap (λ (k : ℕ). lines_of (take k (line ++ 10 ∷ rest))) is ∙ ap lines_of (within more line rest) ∙ line_first line (take more rest) clean) agree

-- a line that ends with the front
agree_ended : (n before : ℕ) (line rest : List ℕ) → NoFeed line → n ≡ length line + 1 → n + before ≡ 65537
    → AgreeTo before (lines_of (line ++ 10 ∷ rest)) (lines_of (take n (line ++ 10 ∷ rest)))
agree_ended n before line rest clean is all =
    agree_over before (lines_of (line ++ 10 ∷ rest)) (lines_of (take n (line ++ 10 ∷ rest))) (lines_of rest) (lines_of []) (record { body = line; ended = true }) (record { body = line; ended = true })
    (line_first line rest clean) (ap (λ (k : ℕ). lines_of (take k (line ++ 10 ∷ rest))) is ∙ ap lines_of (within 0 line rest) ∙ line_first line [] clean) (omega arith) (omega arith)

-- what is shown of shorter texts
abbrev AgreesBelow : ℕ → Type 0
AgreesBelow fuel = (before : ℕ) (text : List ℕ) → length text ≤ fuel → before ≤ 65536 → 65536 < before + length text
    → AgreeTo before (lines_of text) (lines_of (take (65537 - before) text))

agree_divided : (fuel before : ℕ) (line rest : List ℕ) → AgreesBelow fuel → NoFeed line → length rest ≤ fuel → before ≤ 65536 → 65536 < before + (length line + suc (length rest))
    → AgreeTo before (lines_of (line ++ 10 ∷ rest)) (lines_of (take (65537 - before) (line ++ 10 ∷ rest)))
agree_divided fuel before line rest recur clean short low over =
    elim (cases_lt (before + length line) 65536) [
      | inl inside ↦ agree_within (65537 - (before + (length line + 1))) (65537 - before) before line rest clean (omega arith) (recur (before + (length line + 1)) rest short (omega arith) (omega arith))
      | inr past ↦ elim (cases_lt 65536 (before + length line)) [
        | inl behind ↦ agree_cut (65537 - before) before line rest clean (omega arith) low (omega arith)
        | inr last ↦ agree_ended (65537 - before) before line rest clean (omega arith) (omega arith)
      ]
    ]

agree_when : (fuel before : ℕ) (text : List ℕ) → AgreesBelow fuel → length text ≤ suc fuel → before ≤ 65536 → 65536 < before + length text → NoFeed text ⊎ Divided text
    → AgreeTo before (lines_of text) (lines_of (take (65537 - before) text))
agree_when fuel before text recur short low over (inl clean) = agree_unended (65537 - before) before text clean (omega arith) low over
agree_when fuel before text recur short low over (inr d) =
    let sum : length text ≡ length d.line + suc (length d.rest) = ap (λ (bytes : List ℕ). length bytes) d.is ∙ length-append d.line (10 ∷ d.rest) in
    subst (λ (t : List ℕ). AgreeTo before (lines_of t) (lines_of (take (65537 - before) t))) (sym d.is)
    (agree_divided fuel before d.line d.rest recur d.clean (omega arith) low (omega arith))

agree_from : (fuel : ℕ) → AgreesBelow fuel
agree_from zero before text short low over = absurd (omega arith)
agree_from (suc fuel) before text short low over = agree_when fuel before text (agree_from fuel) short low over (divided text)

-- ---- settings

long_front : (text : List ℕ) → 65537 < length text → settings (take 65537 text) ≡ settings text
unfolding settings
long_front text long =
    let agree : AgreeTo 0 (lines_of text) (lines_of (take 65537 text)) = agree_from (length text) 0 text (omega arith) (omega arith) (omega arith) in
    ap (settings_from (length (lines_of (take 65537 text)))) (sym (judged_same [] None 0 0 (lines_of text) (lines_of (take 65537 text)) agree))
    ∙ settings_same (length (lines_of (take 65537 text))) (length (lines_of text)) (judged [] (entries None 0 0 (lines_of text)))
    (judged_refused [] None 0 0 (lines_of text) (lines_of (take 65537 text)) agree)

pub front_decides : (text : List ℕ) → settings (take 65537 text) ≡ settings text
front_decides text = elim (cases_lt 65537 (length text)) [ inl long ↦ long_front text long | inr short ↦ ap settings (take_all 65537 text short) ]
