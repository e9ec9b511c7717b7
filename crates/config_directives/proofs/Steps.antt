-- One line of a file after another.
use Rattle.std.proofs.Common.{◌≡◌, ℕ, ◌+◌, ◌<◌, List, [], ◌∷◌, ◌++◌, length, Bool, true, false, cond, ◌||◌, Option, Some, None, Result, Ok, Err, refl, ap, sym, ◌∙◌, arith}
use Rattle.std.specs.Prelude.{nat_lt, IsSome}
use Rattle.vpn_base.specs.declared.errors.Or.{Or}
use Rattle.vpn_base.specs.declared.errors.Or.TheVariants.{Memory, Why}
use Rattle.vpn_base.specs.Answers.{Answers, IfWhy}
use Rattle.vpn_base.specs.Lines.{Line, content, lines_of, size}
use Rattle.vpn_text.specs.declared.config.ConfigFault.{ConfigFault}
use Rattle.vpn_text.specs.declared.config.ConfigKind.{ConfigKind}
use Rattle.vpn_text.specs.ConfigLine.{config_words, words_in, is_over}
use Rattle.vpn_text.specs.Words.{line_words}
use Rattle.config_directives.specs.declared.item.Item.{Item}
use Rattle.config_directives.specs.declared.item.Directive.{Directive}
use Rattle.config_directives.specs.Items.{name_of}
use Rattle.config_directives.specs.Entries.{FileLine, Faulty, block_behind, entries, line_behind, line_entries, line_with, inside_entries, inside_kind, item_on, outside_entries}
use Rattle.config_directives.specs.Judging.{judged, kind_of, unless_wrong}
use Rattle.config_directives.specs.internal.Steps.{Adds, Stops}

-- a fault of a line
pub stops_here : (before : List Directive) (fault : ConfigFault) → Stops before (Faulty fault ∷ []) fault
unfolding judged
stops_here before fault = record { stops = λ later. refl }

-- words that are refused
pub stops_words : (before : List Directive) (number : ℕ) (words : Result (List (List ℕ)) ConfigFault) (reached : ℕ) (lines : List Line) (e : Or ConfigFault)
    → Answers (Err e) words → IfWhy e (Stops before (outside_entries number words reached lines))
stops_words before number words reached lines Memory refused = tt
stops_words before number words reached lines (Why fault) refused = rw refused (stops_here before fault)

-- a line within a block
pub stops_inside : (before : List Directive) (number : ℕ) (bytes : List ℕ) (passes : Bool) (kind : ConfigKind) → Some kind ≡ inside_kind bytes passes
    → Stops before (inside_entries number (inside_kind bytes passes)) (record { line = number; kind = kind; word = [] })
stops_inside before number bytes passes kind wrong = rw (← wrong) (stops_here before (record { line = number; kind = kind; word = [] }))

-- a line that is read does not pass the limit
not_long : (long passes : Bool) (fault : ConfigFault) (read : Result (List (List ℕ)) ConfigFault) (words : List (List ℕ))
    → cond (long || passes) (Err fault) read ≡ Ok words → passes ≡ false
not_long true true fault read words is = cc
not_long true false fault read words is = refl
not_long false true fault read words is = cc
not_long false false fault read words is = refl

pub passes_not : (number : ℕ) (line : List ℕ) (passes : Bool) (words : List (List ℕ)) → config_words number line passes ≡ Ok words → passes ≡ false
unfolding config_words
passes_not number line passes words is = not_long (nat_lt 1024 (length line)) passes _ (words_in number (line_words line)) words is

-- a directive that is wrong
pub stops_wrong : (before : List Directive) (number : ℕ) (kind : ConfigKind) (read : Result (List (List ℕ)) ConfigFault) (words : List (List ℕ))
    (reached : ℕ) (lines : List Line) (item : Item) (word : List ℕ) → read ≡ Ok words → 0 < length words → item ≡ item_on words reached lines
    → Some kind ≡ kind_of before item → word ≡ name_of item
    → Stops before (outside_entries number read reached lines) (record { line = number; kind = kind; word = word })
unfolding judged
stops_wrong before number kind read [] reached lines item word is some made wrong named = absurd (omega arith)
stops_wrong before number kind read (name ∷ words) reached lines item word is some made wrong named =
    let d : Directive = record { line = number; item = item_on (name ∷ words) reached lines } in
    record {
      stops = λ later.
          ap (λ (r : Result (List (List ℕ)) ConfigFault). judged before (outside_entries number r reached lines ++ later)) is
          ∙ ap (λ (o : Option ConfigKind). unless_wrong d o (judged (before ++ d ∷ []) later)) (sym (wrong ∙ ap (kind_of before) made))
          ∙ ap (λ (t : List ℕ). Err (record { line = number; kind = kind; word = t })) (sym (named ∙ ap name_of made));
    }

-- a directive with nothing wrong
pub adds_right : (before after : List Directive) (number : ℕ) (read : Result (List (List ℕ)) ConfigFault) (words : List (List ℕ))
    (reached : ℕ) (lines : List Line) (item : Item) → read ≡ Ok words → 0 < length words → item ≡ item_on words reached lines
    → None ≡ kind_of before item → after ≡ before ++ record { line = number; item = item } ∷ []
    → Adds before (outside_entries number read reached lines) after
unfolding judged
adds_right before after number read [] reached lines item is some made right added = absurd (omega arith)
adds_right before after number read (name ∷ words) reached lines item is some made right added =
    let d : Directive = record { line = number; item = item_on (name ∷ words) reached lines } in
    record {
      adds = λ later.
          ap (λ (r : Result (List (List ℕ)) ConfigFault). judged before (outside_entries number r reached lines ++ later)) is
          ∙ ap (λ (o : Option ConfigKind). unless_wrong d o (judged (before ++ d ∷ []) later)) (sym (right ∙ ap (kind_of before) made))
          ∙ ap (λ (i : Item). judged (before ++ record { line = number; item = i } ∷ []) later) (sym made)
          ∙ ap (λ (ds : List Directive). judged ds later) (sym added);
    }

-- the first line and those behind it
pub entries-first : (block : Option (List ℕ)) (number before : ℕ) (lines later : List Line) (first : Line) → lines ≡ first ∷ later
    → entries block number before lines
    ≡ line_entries block (line_behind number before first) later
    ++ entries (block_behind block (line_behind number before first)) (number + 1) (before + size first) later
unfolding entries
entries-first block number before lines later first begins = ap (entries block number before) begins

pub seen : (number before : ℕ) (first : Line) (line : List ℕ) (reached : ℕ) → content first ≡ line → before + size first ≡ reached
    → line_behind number before first ≡ line_with (number + 1) line reached
seen number before first line reached shows sum =
    ap (λ (b : List ℕ). line_with (number + 1) b (before + size first)) shows ∙ ap (line_with (number + 1) line) sum

-- a line that adds to the directives
pub next_adds : (ds after : List Directive) (block around : Option (List ℕ)) (number before taken : ℕ) (lines later : List Line) (first : Line)
    (line : List ℕ) → lines ≡ first ∷ later → content first ≡ line → before + size first ≡ taken
    → Adds ds (line_entries block (line_with (number + 1) line taken) later) after
    → around ≡ block_behind block (line_with (number + 1) line taken)
    → judged ds (entries block number before lines) ≡ judged after (entries around (number + 1) taken later)
next_adds ds after block around number before taken lines later first line begins shows sum adds goes =
    ap (judged ds) (entries-first block number before lines later first begins)
    ∙ ap (λ (l : FileLine). judged ds (line_entries block l later ++ entries (block_behind block l) (number + 1) (before + size first) later))
    (seen number before first line taken shows sum)
    ∙ adds.adds (entries (block_behind block (line_with (number + 1) line taken)) (number + 1) (before + size first) later)
    ∙ ap (λ (b : Option (List ℕ)). judged after (entries b (number + 1) (before + size first) later)) (sym goes)
    ∙ ap (λ (n : ℕ). judged after (entries around (number + 1) n later)) sum

-- a line with a fault
pub next_stops : (ds : List Directive) (e : Or ConfigFault) (block : Option (List ℕ)) (number before : ℕ) (lines later : List Line) (first : Line)
    (line : List ℕ) (reached : ℕ) (all : Result (List Directive) ConfigFault) → all ≡ judged ds (entries block number before lines)
    → lines ≡ first ∷ later → content first ≡ line → before + size first ≡ reached
    → IfWhy e (Stops ds (line_entries block (line_with (number + 1) line reached) later))
    → IfWhy e (λ fault. all ≡ Err fault)
next_stops ds Memory block number before lines later first line reached all is begins shows sum stops = tt
next_stops ds (Why fault) block number before lines later first line reached all is begins shows sum stops =
    is ∙ ap (judged ds) (entries-first block number before lines later first begins)
    ∙ ap (λ (l : FileLine). judged ds (line_entries block l later ++ entries (block_behind block l) (number + 1) (before + size first) later))
    (seen number before first line reached shows sum)
    ∙ stops.stops (entries (block_behind block (line_with (number + 1) line reached)) (number + 1) (before + size first) later)

-- no text has no lines
pub no_lines : (text : List ℕ) → text ≡ [] → lines_of text ≡ []
unfolding lines_of
no_lines text none = ap lines_of none

pub over : (ds : List Directive) (block : Option (List ℕ)) (number before : ℕ) (lines : List Line) → lines ≡ []
    → judged ds (entries block number before lines) ≡ Ok ds
unfolding judged entries
over ds block number before lines none = ap (λ (ls : List Line). judged ds (entries block number before ls)) none

-- a line within a block, by the block
pub stops_within : (ds : List Directive) (block : Option (List ℕ)) (number : ℕ) (bytes : List ℕ) (reached : ℕ) (kind : ConfigKind)
    (lines : List Line) → IsSome block → Some kind ≡ inside_kind bytes (is_over reached)
    → Stops ds (line_entries block (line_with number bytes reached) lines) (record { line = number; kind = kind; word = [] })
stops_within ds None number bytes reached kind lines some wrong = cc
stops_within ds (Some last) number bytes reached kind lines some wrong = stops_inside ds number bytes (is_over reached) kind wrong
