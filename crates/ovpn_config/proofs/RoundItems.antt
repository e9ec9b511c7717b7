-- Directives that are written are read again, one after another.
use Rattle.std.proofs.Common.{◌≡◌, ℕ, ◌+◌, ◌<◌, ◌&&◌, ◌||◌, not, Bool, true, false, cond, List, [], ◌∷◌, ◌++◌, length, refl, ap, sym, subst, ◌∙◌, ◌⊎◌, inl, inr, arith, length-append}
use Rattle.std.specs.Prelude.{Option, Some, None, Ok, bytes_eq, flat_map, option_map}
use Rattle.std.specs.List.{list_all}
use Rattle.std.proofs.lemmas.List.{append_assoc, append-nil}
use Rattle.std.proofs.lemmas.Slice.Eq.{bytes_eq-Decides}
use Rattle.vpn_base.specs.Lines.{Line, lines_of}
use Rattle.vpn_text.specs.declared.config.ConfigKind.{ConfigKind}
use Rattle.vpn_text.specs.Words.{line_words}
use Rattle.config_directives.specs.declared.item.Item.{Item}
use Rattle.config_directives.specs.declared.item.Item.TheVariants.{Words, Block}
use Rattle.config_directives.specs.declared.item.Directive.{Directive}
use Rattle.config_directives.specs.Items.{is_given, items_of, name_of}
use Rattle.config_directives.specs.Blocks.{block_begin, block_end}
use Rattle.config_directives.specs.Names.{block_names, is_among, is_refused}
use Rattle.config_directives.specs.Entries.{Entry, Given, begun_by, block_begun, block_name, entries, item_begun, outside_entries, until_end}
use Rattle.config_directives.specs.Judging.{is_known, is_open, is_taken, judged, kind_of, may_repeat, unless_wrong}
use Rattle.ovpn_config.specs.Spelling.{block_text, item_text, words_text}
use Rattle.ovpn_config.specs.Canonical.{ended, lines_with}
use Rattle.ovpn_config.specs.internal.Laws.{Laws}
use Rattle.ovpn_config.proofs.CleanText.{and_true, are_clean, is_clean}
use Rattle.config_directives.proofs.BlockBytes.{until_found, until_passed}
use Rattle.ovpn_config.proofs.RoundLines.{Fits, content-line, first_fits, inside_line, lines_of-line, outside_line, written_words}

-- a line that may stand within a block
abbrev pub may_stand : List ℕ → List ℕ → Bool
may_stand last line = is_clean line && not (bytes_eq line last)

-- an item that a line or a block spells
abbrev pub CanRead : Item → Type 0
CanRead (Words words) = (are_clean words ≡ true) × (begun_by words ≡ None) × (0 < length words)
CanRead (Block name None) = ⊥
CanRead (Block name (Some bytes)) =
    (is_among block_names name ≡ true) × ((lines : List (List ℕ)) × (bytes ≡ lines_with lines) × (list_all (may_stand (block_end name)) lines ≡ true))

-- a text with its end in front of a rest
pub ended-behind : (text rest : List ℕ) → ended text ++ rest ≡ text ++ 10 ∷ rest
ended-behind text rest = append_assoc text (10 ∷ []) rest

length-ended : (text : List ℕ) → length (ended text) ≡ length text + 1
length-ended text = length-append text (10 ∷ [])

-- the item at a place, and what follows it
pub record ReadsItem (number before : ℕ) (item : Item) (text rest : List ℕ) : Type 0 where
  pub next : ℕ
  pub reads : entries None number before (lines_of (text ++ rest))
      ≡ Given (record { line = number + 1; item = item }) ∷ entries None next (before + length text) (lines_of rest)
  pub fits : Fits (before + length text) rest

-- words
outside_words : (number : ℕ) (words : List (List ℕ)) (reached : ℕ) (lines : List Line) → 0 < length words → begun_by words ≡ None
    → outside_entries number (Ok words) reached lines ≡ Given (record { line = number; item = Words words }) ∷ []
outside_words number [] reached lines some none = absurd (omega arith)
outside_words number (name ∷ words) reached lines some none =
    ap (λ (b : Option (List ℕ)). Given (record { line = number; item = item_begun b (name ∷ words) reached lines }) ∷ []) none

read_words : Laws → (number before : ℕ) (words : List (List ℕ)) (rest : List ℕ) → CanRead (Words words)
    → Fits before (ended (words_text words) ++ rest) → ReadsItem number before (Words words) (ended (words_text words)) rest
read_words laws number before words rest can fits =
    let line = words_text words in
    let read : line_words line ≡ Ok words = laws.words words can.0 in
    let clean : is_clean line ≡ true = laws.clean_lines line words read in
    let first = first_fits before line rest clean (subst (Fits before) (ended-behind line rest) fits) in
    let after : before + (length line + 1) ≡ before + length (ended line) = omega (arith, length-ended line) in
    record {
      next = number + 1;
      reads = ap (λ (t : List ℕ). entries None number before (lines_of t)) (ended-behind line rest)
          ∙ outside_line number before line rest (Ok words) clean first (written_words laws (number + 1) line words read first.short)
          ∙ ap (λ (es : List Entry). es ++ entries (block_begun (Ok words)) (number + 1) (before + (length line + 1)) (lines_of rest))
          (outside_words (number + 1) words (before + (length line + 1)) (lines_of rest) can.2 can.1)
          ∙ ap (λ (b : Option (List ℕ)). Given (record { line = number + 1; item = Words words }) ∷ entries (option_map block_end b) (number + 1) (before + (length line + 1)) (lines_of rest))
          can.1
          ∙ ap (λ (n : ℕ). Given (record { line = number + 1; item = Words words }) ∷ entries None (number + 1) n (lines_of rest)) after;
      fits = subst (λ (n : ℕ). Fits n rest) after first.behind;
    }

-- the lines of a block and the one that ends it, in front of a rest
abbrev block_rest : List (List ℕ) → List ℕ → List ℕ → List ℕ
block_rest lines last rest = lines_with lines ++ (last ++ 10 ∷ rest)

block_rest-cons : (line : List ℕ) (lines : List (List ℕ)) (last rest : List ℕ) → block_rest (line ∷ lines) last rest ≡ line ++ 10 ∷ block_rest lines last rest
block_rest-cons line lines last rest = append_assoc (ended line) (lines_with lines) (last ++ 10 ∷ rest) ∙ ended-behind line (block_rest lines last rest)

same_bytes : (bytes : List ℕ) → bytes_eq bytes bytes ≡ true
same_bytes bytes = (bytes_eq-Decides bytes bytes).1 refl

pub record ReadsBlock (last : List ℕ) (number before : ℕ) (lines : List (List ℕ)) (rest : List ℕ) : Type 0 where
  pub next : ℕ
  pub taken : ℕ
  pub size : taken ≡ before + (length (lines_with lines) + (length last + 1))
  pub reads : entries (Some last) number before (lines_of (block_rest lines last rest)) ≡ entries None next taken (lines_of rest)
  pub until : until_end last before (lines_of (block_rest lines last rest)) ≡ Some (lines_with lines)
  pub fits : Fits taken rest

not_true : (b : Bool) → not b ≡ true → b ≡ false
not_true true e = cc
not_true false e = refl

read_block : (last : List ℕ) (number before : ℕ) (lines : List (List ℕ)) (rest : List ℕ) → is_clean last ≡ true
    → list_all (may_stand last) lines ≡ true → Fits before (block_rest lines last rest) → ReadsBlock last number before lines rest
read_block last number before [] rest clean stand fits =
    let first = first_fits before last rest clean fits in
    let same : cond (bytes_eq last last) None (Some last) ≡ None = ap (λ (b : Bool). cond b None (Some last)) (same_bytes last) in
    record {
      next = number + 1;
      taken = before + (length last + 1);
      size = omega arith;
      reads = inside_line last number before last rest None clean first same;
      until = until_found last last before (record { body = last; ended = true }) (lines_of (last ++ 10 ∷ rest)) (lines_of rest) (lines_of-line last rest clean)
          (content-line last clean) (sym (ap (λ (o : Bool). o || bytes_eq last last) first.within ∙ same_bytes last));
      fits = first.behind;
    }
read_block last number before (line ∷ lines) rest clean stand fits =
    let parts = and_true (may_stand last line) (list_all (may_stand last) lines) stand in
    let here = and_true (is_clean line) (not (bytes_eq line last)) parts.0 in
    let other : bytes_eq line last ≡ false = not_true (bytes_eq line last) here.1 in
    let later = block_rest lines last rest in
    let first = first_fits before line later here.0 (subst (Fits before) (block_rest-cons line lines last rest) fits) in
    let stays : cond (bytes_eq line last) None (Some last) ≡ Some last = ap (λ (b : Bool). cond b None (Some last)) other in
    let more = read_block last (number + 1) (before + (length line + 1)) lines rest clean parts.1 first.behind in
    record {
      next = more.next;
      taken = more.taken;
      size = omega (arith, more.size, length-append (ended line) (lines_with lines), length-ended line);
      reads = ap (λ (t : List ℕ). entries (Some last) number before (lines_of t)) (block_rest-cons line lines last rest)
          ∙ inside_line last number before line later (Some last) here.0 first stays ∙ more.reads;
      until = ap (λ (t : List ℕ). until_end last before (lines_of t)) (block_rest-cons line lines last rest)
          ∙ until_passed last line before (record { body = line; ended = true }) (lines_of (line ++ 10 ∷ later)) (lines_of later) (lines_of-line line later here.0)
          (content-line line here.0) (sym (ap (λ (o : Bool). o || bytes_eq line last) first.within ∙ other))
          ∙ ap (option_map (λ (m : List ℕ). line ++ 10 ∷ m)) more.until
          ∙ ap (λ (m : List ℕ). Some m) (sym (ended-behind line (lines_with lines)));
      fits = more.fits;
    }

-- the line that begins a block, for each name that a block may have
pub record Begins (name : List ℕ) : Type 0 where
  pub clean_begin : is_clean (block_begin name) ≡ true
  pub clean_end : is_clean (block_end name) ≡ true
  pub words : line_words (block_begin name) ≡ Ok (block_begin name ∷ [])
  pub named : block_name (block_begin name) ≡ Some name

or_cases : (a b : Bool) → (a || b) ≡ true → (a ≡ true) ⊎ (b ≡ true)
or_cases true b e = inl refl
or_cases false b e = inr e

-- what holds of each name of a list
abbrev pub Every : (List ℕ → Type 0) → List (List ℕ) → Type 0
Every P [] = Unit {0}
Every P (name ∷ names) = P name × Every P names

pub by_among : (P : List ℕ → Type 0) (names : List (List ℕ)) (name : List ℕ) → Every P names → is_among names name ≡ true → P name
by_among P [] name every among = cc
by_among P (known ∷ names) name every among =
    elim (or_cases (bytes_eq name known) (is_among names name) among) [
      | inl here ↦ subst P (sym ((bytes_eq-Decides name known).0 here)) every.0
      | inr later ↦ by_among P names name every.1 later
    ]

pub begins : (name : List ℕ) → is_among block_names name ≡ true → Begins name
unfolding block_names line_words block_name
begins name among =
    let known : Every Begins block_names = (
      record { clean_begin = refl; clean_end = refl; words = refl; named = refl },
      (
        record { clean_begin = refl; clean_end = refl; words = refl; named = refl },
        (
          record { clean_begin = refl; clean_end = refl; words = refl; named = refl },
          (
            record { clean_begin = refl; clean_end = refl; words = refl; named = refl },
            (record { clean_begin = refl; clean_end = refl; words = refl; named = refl }, tt),
          ),
        ),
      ),
    ) in
    by_among Begins block_names name known among

-- the text of a block, line by line
block_text-rest : (name : List ℕ) (lines : List (List ℕ)) (rest : List ℕ)
    → ended (block_text name (lines_with lines)) ++ rest ≡ block_begin name ++ 10 ∷ block_rest lines (block_end name) rest
block_text-rest name lines rest =
    let front = block_begin name ++ 10 ∷ lines_with lines in
    append_assoc (front ++ block_end name) (10 ∷ []) rest ∙ append_assoc front (block_end name) (10 ∷ rest)
    ∙ append_assoc (block_begin name) (10 ∷ lines_with lines) (block_end name ++ 10 ∷ rest)

length-block : (name : List ℕ) (lines : List (List ℕ))
    → length (ended (block_text name (lines_with lines))) ≡ (length (block_begin name) + 1) + (length (lines_with lines) + (length (block_end name) + 1))
length-block name lines =
    ap (λ (t : List ℕ). length t) (sym (append-nil (ended (block_text name (lines_with lines)))) ∙ block_text-rest name lines [])
    ∙ length-append (block_begin name) (10 ∷ block_rest lines (block_end name) [])
    ∙ omega (arith, length-append (lines_with lines) (block_end name ++ 10 ∷ []), length-append (block_end name) (10 ∷ []))

outside_block : (number : ℕ) (name bytes : List ℕ) (reached : ℕ) (lines : List Line) → block_name (block_begin name) ≡ Some name
    → until_end (block_end name) reached lines ≡ Some bytes
    → outside_entries number (Ok (block_begin name ∷ [])) reached lines ≡ Given (record { line = number; item = Block name (Some bytes) }) ∷ []
outside_block number name bytes reached lines named until =
    ap (λ (b : Option (List ℕ)). Given (record { line = number; item = item_begun b (block_begin name ∷ []) reached lines }) ∷ []) named
    ∙ ap (λ (b : Option (List ℕ)). Given (record { line = number; item = Block name b }) ∷ []) until

read_whole_block : Laws → (number before : ℕ) (name : List ℕ) (lines : List (List ℕ)) (rest : List ℕ) → is_among block_names name ≡ true
    → list_all (may_stand (block_end name)) lines ≡ true → Fits before (ended (block_text name (lines_with lines)) ++ rest)
    → ReadsItem number before (Block name (Some (lines_with lines))) (ended (block_text name (lines_with lines))) rest
read_whole_block laws number before name lines rest among stand fits =
    let b = begins name among in
    let line = block_begin name in
    let last = block_end name in
    let later = block_rest lines last rest in
    let bytes = lines_with lines in
    let first = first_fits before line later b.clean_begin (subst (Fits before) (block_text-rest name lines rest) fits) in
    let block = read_block last (number + 1) (before + (length line + 1)) lines rest b.clean_end stand first.behind in
    let taken : block.taken ≡ before + length (ended (block_text name bytes)) = omega (arith, block.size, length-block name lines) in
    record {
      next = block.next;
      reads = ap (λ (t : List ℕ). entries None number before (lines_of t)) (block_text-rest name lines rest)
          ∙ outside_line number before line later (Ok (line ∷ [])) b.clean_begin first (written_words laws (number + 1) line (line ∷ []) b.words first.short)
          ∙ ap (λ (es : List Entry). es ++ entries (option_map block_end (block_name line)) (number + 1) (before + (length line + 1)) (lines_of later))
          (outside_block (number + 1) name bytes (before + (length line + 1)) (lines_of later) b.named block.until)
          ∙ ap (λ (n : Option (List ℕ)). Given (record { line = number + 1; item = Block name (Some bytes) }) ∷ entries (option_map block_end n) (number + 1) (before + (length line + 1)) (lines_of later)) b.named
          ∙ ap (λ (es : List Entry). Given (record { line = number + 1; item = Block name (Some bytes) }) ∷ es) block.reads
          ∙ ap (λ (n : ℕ). Given (record { line = number + 1; item = Block name (Some bytes) }) ∷ entries None block.next n (lines_of rest)) taken;
      fits = subst (λ (n : ℕ). Fits n rest) taken block.fits;
    }

pub read_item : Laws → (number before : ℕ) (item : Item) (rest : List ℕ) → CanRead item → Fits before (ended (item_text item) ++ rest)
    → ReadsItem number before item (ended (item_text item)) rest
read_item laws number before (Words words) rest can fits = read_words laws number before words rest can fits
read_item laws number before (Block name None) rest can fits = absurd can
read_item laws number before (Block name (Some bytes)) rest can fits =
    let P : List ℕ → Type 0 = λ b. Fits before (ended (block_text name b) ++ rest) → ReadsItem number before (Block name (Some b)) (ended (block_text name b)) rest in
    subst P (sym can.1.1) (λ f. read_whole_block laws number before name can.1.0 rest can.0 can.1.2 f) fits

-- a directive with nothing wrong behind these
pub record IsFine (before : List Item) (item : Item) : Type 0 where
  pub can : CanRead item
  pub known : is_known item ≡ true
  pub allowed : is_refused (name_of item) ≡ false
  pub taken : is_taken item ≡ true
  pub single : (not (may_repeat (name_of item)) && is_given (name_of item) before) ≡ false
  pub closed : is_open item ≡ false

abbrev pub AreFine : List Item → List Item → Type 0
AreFine before [] = Unit {0}
AreFine before (item ∷ items) = IsFine before item × AreFine (before ++ item ∷ []) items

pub kind_none : (directives : List Directive) (item : Item) → IsFine (items_of directives) item → kind_of directives item ≡ None
unfolding kind_of
kind_none directives item fine = rw (fine.known, fine.allowed, fine.taken, fine.single, fine.closed) refl

-- the text of directives
abbrev pub items_text : List Item → List ℕ
items_text items = flat_map (λ item. ended (item_text item)) items

items_of-append : (ds : List Directive) (d : Directive) → items_of (ds ++ d ∷ []) ≡ items_of ds ++ d.item ∷ []
items_of-append [] d = refl
items_of-append (e ∷ ds) d = ap (λ (is : List Item). e.item ∷ is) (items_of-append ds d)

pub record ReadsItems (directives : List Directive) (number before : ℕ) (items : List Item) : Type 0 where
  pub all : List Directive
  pub reads : judged directives (entries None number before (lines_of (items_text items))) ≡ Ok all
  pub same : items_of all ≡ items_of directives ++ items

pub read_items : Laws → (directives : List Directive) (number before : ℕ) (items : List Item) → AreFine (items_of directives) items
    → Fits before (items_text items) → ReadsItems directives number before items
unfolding judged entries lines_of
read_items laws directives number before [] fine fits = record {
  all = directives;
  reads = refl;
  same = sym (append-nil (items_of directives));
}
read_items laws directives number before (item ∷ items) fine fits =
    let one = read_item laws number before item (items_text items) fine.0.can fits in
    let d : Directive = record { line = number + 1; item = item } in
    let after = directives ++ d ∷ [] in
    let then : AreFine (items_of after) items = subst (λ (is : List Item). AreFine is items) (sym (items_of-append directives d)) fine.1 in
    let more = read_items laws after one.next (before + length (ended (item_text item))) items then one.fits in
    record {
      all = more.all;
      reads = ap (judged directives) one.reads
          ∙ ap (λ (k : Option ConfigKind). unless_wrong d k (judged after (entries None one.next (before + length (ended (item_text item))) (lines_of (items_text items)))))
          (kind_none directives item fine.0)
          ∙ more.reads;
      same = more.same ∙ ap (λ (is : List Item). is ++ items) (items_of-append directives d) ∙ append_assoc (items_of directives) (item ∷ []) items;
    }
