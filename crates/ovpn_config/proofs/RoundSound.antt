-- What holds of the directives that a file gives.
use Rattle.std.proofs.Common.{◌≡◌, ℕ, ◌+◌, ◌<◌, ◌&&◌, ◌||◌, not, Bool, true, false, cond, List, [], ◌∷◌, ◌++◌, length, refl, ap, sym, subst, ◌∙◌, arith}
use Rattle.std.specs.Prelude.{Option, Some, None, is_none, Result, Ok, Err, nat_lt, bytes_eq, option_map}
use Rattle.std.specs.List.{list_all}
use Rattle.vpn_base.specs.Lines.{Line, content, size}
use Rattle.vpn_text.specs.declared.words.LineFault.{LineFault}
use Rattle.vpn_text.specs.declared.config.ConfigFault.{ConfigFault}
use Rattle.vpn_text.specs.declared.config.ConfigKind.{ConfigKind}
use Rattle.vpn_text.specs.declared.config.ConfigKind.TheVariants as kinds
use Rattle.vpn_text.specs.ConfigLine.{config_words, words_in, is_over}
use Rattle.vpn_text.specs.Words.{line_words}
use Rattle.config_directives.specs.declared.item.Item.{Item}
use Rattle.config_directives.specs.declared.item.Item.TheVariants.{Block}
use Rattle.config_directives.specs.declared.item.Directive.{Directive}
use Rattle.config_directives.specs.Items.{items_of, name_of}
use Rattle.config_directives.specs.Blocks.{block_end}
use Rattle.config_directives.specs.Names.{is_refused}
use Rattle.config_directives.specs.Entries.{Entry, begun_by, block_begun, block_behind, entries, has_control, inside_entries, inside_kind, item_begun, line_behind, outside_entries, until_end, words_on}
use Rattle.config_directives.specs.Judging.{is_known, is_open, is_repeated, is_taken, judged, kind_of, unless_wrong}
use Rattle.ovpn_config.specs.Canonical.{lines_with}
use Rattle.ovpn_config.specs.internal.Laws.{Laws}
use Rattle.ovpn_config.proofs.CleanText.{both_true, clean-any, is_clean}
use Rattle.ovpn_config.proofs.RoundItems.{CanRead, ended-behind, may_stand}

pub record IsSound (item : Item) : Type 0 where
  pub can : CanRead item
  pub taken : is_taken item ≡ true

abbrev pub AllSound : List Item → Type 0
AllSound [] = Unit {0}
AllSound (item ∷ items) = IsSound item × AllSound items

sound-append : (items : List Item) (item : Item) → AllSound items → IsSound item → AllSound (items ++ item ∷ [])
sound-append [] item all one = (one, tt)
sound-append (i ∷ items) item all one = (all.0, sound-append items item all.1 one)

items_of-append : (ds : List Directive) (d : Directive) → items_of (ds ++ d ∷ []) ≡ items_of ds ++ d.item ∷ []
items_of-append [] d = refl
items_of-append (e ∷ ds) d = ap (λ (is : List Item). e.item ∷ is) (items_of-append ds d)

-- nothing is wrong
pub record HasNothing (item : Item) : Type 0 where
  pub known : is_known item ≡ true
  pub allowed : is_refused (name_of item) ≡ false
  pub taken : is_taken item ≡ true
  pub closed : is_open item ≡ false

parts_by : (k r t p o : Bool) → cond (not (k || r)) (Some kinds.Unknown) (cond r (Some kinds.Refused) (cond (not t) (Some kinds.Arguments) (cond p (Some kinds.Repeated) (cond o (Some kinds.Block) None)))) ≡ None
    → (k ≡ true) × (r ≡ false) × (t ≡ true) × (o ≡ false)
parts_by false false t p o none = cc
parts_by false true t p o none = cc
parts_by true true t p o none = cc
parts_by true false false p o none = cc
parts_by true false true true o none = cc
parts_by true false true false true none = cc
parts_by true false true false false none = (refl, refl, refl, refl)

nothing_of : (before : List Directive) (item : Item) → kind_of before item ≡ None → HasNothing item
unfolding kind_of
nothing_of before item none =
    let parts = parts_by (is_known item) (is_refused (name_of item)) (is_taken item) (is_repeated before item) (is_open item) none in
    record { known = parts.0; allowed = parts.1; taken = parts.2; closed = parts.3 }

-- a line that is read
words_when : (b : Bool) (number : ℕ) (read : Result (List (List ℕ)) LineFault) (words : List (List ℕ))
    → cond b (Err (record { line = number; kind = kinds.Long; word = [] })) (words_in number read) ≡ Ok words → read ≡ Ok words
words_when true number read words is = cc
words_when false number (Ok ws) words is = cc
words_when false number (Err fault) words is = cc

words_of_line : (number : ℕ) (line : List ℕ) (passes : Bool) (words : List (List ℕ)) → config_words number line passes ≡ Ok words → line_words line ≡ Ok words
unfolding config_words
words_of_line number line passes words is = words_when (nat_lt 1024 (length line) || passes) number (line_words line) words is

-- lines within a block
inside_by : (long control : Bool) → cond long (Some kinds.Long) (cond control (Some kinds.Control) None) ≡ None → control ≡ false
inside_by true control none = cc
inside_by false true none = cc
inside_by false false none = refl

inside_clean : (bytes : List ℕ) (passes : Bool) → inside_kind bytes passes ≡ None → is_clean bytes ≡ true
inside_clean bytes passes none =
    clean-any bytes ∙ ap not (inside_by (nat_lt 1024 (length bytes) || passes) (has_control bytes) none)

-- and the file is not too long with them
over_by : (long over control : Bool) → cond (long || over) (Some kinds.Long) (cond control (Some kinds.Control) None) ≡ None → over ≡ false
over_by true over control none = cc
over_by false true control none = cc
over_by false false control none = refl

inside_short : (bytes : List ℕ) (over : Bool) → inside_kind bytes over ≡ None → over ≡ false
inside_short bytes over none = over_by (nat_lt 1024 (length bytes)) over (has_control bytes) none

inside_ok : (ds all : List Directive) (number : ℕ) (kind : Option ConfigKind) (later : List Entry) → judged ds (inside_entries number kind ++ later) ≡ Ok all
    → (kind ≡ None) × (judged ds later ≡ Ok all)
unfolding judged
inside_ok ds all number None later is = (refl, is)
inside_ok ds all number (Some kind) later is = cc

-- the bytes of a block are lines
lined_when : (b : Bool) (last line bytes : List ℕ) (later : Option (List ℕ)) → is_clean line ≡ true → bytes_eq line last ≡ b
    → ((more : List ℕ) → b ≡ false → later ≡ Some more → (lines : List (List ℕ)) × (more ≡ lines_with lines) × (list_all (may_stand last) lines ≡ true))
    → cond b (Some []) (option_map (λ (more : List ℕ). line ++ 10 ∷ more) later) ≡ Some bytes
    → (lines : List (List ℕ)) × (bytes ≡ lines_with lines) × (list_all (may_stand last) lines ≡ true)
lined_when true last line bytes later clean is more until = ([], cc, refl)
lined_when false last line bytes None clean is more until = cc
lined_when false last line bytes (Some m) clean is more until =
    let rest = more m refl refl in
    let made : line ++ 10 ∷ m ≡ bytes = cc in (
      line ∷ rest.0,
      sym made ∙ ap (λ (t : List ℕ). line ++ 10 ∷ t) rest.1 ∙ sym (ended-behind line (lines_with rest.0)),
      both_true (is_clean line && not (bytes_eq line last)) (list_all (may_stand last) rest.0)
          (both_true (is_clean line) (not (bytes_eq line last)) clean (ap not is)) rest.2,
    )

block_lines : (last : List ℕ) (lines : List Line) (number before : ℕ) (ds all : List Directive) (bytes : List ℕ)
    → judged ds (entries (Some last) number before lines) ≡ Ok all → until_end last before lines ≡ Some bytes
    → (ls : List (List ℕ)) × (bytes ≡ lines_with ls) × (list_all (may_stand last) ls ≡ true)
unfolding entries until_end
block_lines last [] number before ds all bytes ok until = cc
block_lines last (line ∷ lines) number before ds all bytes ok until =
    let l = line_behind number before line in
    let here = inside_ok ds all l.number (inside_kind l.bytes (is_over l.reached)) (entries (block_behind (Some last) l) (number + 1) (before + size line) lines) ok in
    let reached = before + size line in
    lined_when (bytes_eq (content line) last) last (content line) bytes (until_end last reached lines) (inside_clean l.bytes (is_over l.reached) here.0) refl
    (λ more other is. block_lines last lines (number + 1) (before + size line) ds all more
    (subst (λ (b : Bool). judged ds (entries (cond b None (Some last)) (number + 1) (before + size line) lines) ≡ Ok all) other here.1) is)
    (subst (λ (o : Bool). cond (o || bytes_eq (content line) last) (Some []) (option_map (λ (more : List ℕ). content line ++ 10 ∷ more) (until_end last reached lines)) ≡ Some bytes)
    (inside_short l.bytes (is_over l.reached) here.0) until)

-- a directive that is added
given_ok : (ds all : List Directive) (d : Directive) (kind : Option ConfigKind) (later : Result (List Directive) ConfigFault) → unless_wrong d kind later ≡ Ok all
    → (kind ≡ None) × (later ≡ Ok all)
given_ok ds all d None later is = (refl, is)
given_ok ds all d (Some kind) later is = cc

open_by : (bytes : Option (List ℕ)) → is_none bytes ≡ false → (b : List ℕ) × (bytes ≡ Some b)
open_by None closed = cc
open_by (Some b) closed = (b, refl)

sound_item : Laws → (begun : Option (List ℕ)) (number before : ℕ) (line : List ℕ) (words : List (List ℕ)) (lines : List Line) (ds all : List Directive)
    → begun_by words ≡ begun → 0 < length words → line_words line ≡ Ok words → HasNothing (item_begun begun words before lines)
    → judged ds (entries (option_map block_end begun) number before lines) ≡ Ok all → IsSound (item_begun begun words before lines)
sound_item laws None number before line words lines ds all is some read nothing later = record {
  can = (laws.clean_words line words read, is, some);
  taken = nothing.taken;
}
sound_item laws (Some name) number before line words lines ds all is some read nothing later =
    let bytes = open_by (until_end (block_end name) before lines) nothing.closed in
    let lined = block_lines (block_end name) lines number before ds all bytes.0 later bytes.1 in
    record {
      can = subst (λ (b : Option (List ℕ)). CanRead (Block name b)) (sym bytes.1) (nothing.known, lined);
      taken = refl;
    }

sound_line : Laws → (read : Result (List (List ℕ)) ConfigFault) (number before : ℕ) (line : List ℕ) (lines : List Line) (ds all : List Directive) (at : ℕ)
    → ((words : List (List ℕ)) → read ≡ Ok words → line_words line ≡ Ok words)
    → ((after : List Directive) → AllSound (items_of after) → judged after (entries (block_begun read) number before lines) ≡ Ok all → AllSound (items_of all))
    → AllSound (items_of ds) → judged ds (outside_entries at read before lines ++ entries (block_begun read) number before lines) ≡ Ok all → AllSound (items_of all)
unfolding judged
sound_line laws (Err fault) number before line lines ds all at words later sound ok = cc
sound_line laws (Ok []) number before line lines ds all at words later sound ok = later ds sound ok
sound_line laws (Ok (name ∷ args)) number before line lines ds all at words later sound ok =
    let item = item_begun (begun_by (name ∷ args)) (name ∷ args) before lines in
    let d : Directive = record { line = at; item = item } in
    let behind = judged (ds ++ d ∷ []) (entries (option_map block_end (begun_by (name ∷ args))) number before lines) in
    let here = given_ok ds all d (kind_of ds item) behind ok in
    let one = sound_item laws (begun_by (name ∷ args)) number before line (name ∷ args) lines (ds ++ d ∷ []) all refl (omega arith) (words (name ∷ args) refl)
    (nothing_of ds item here.0) here.1 in
    later (ds ++ d ∷ []) (subst AllSound (sym (items_of-append ds d)) (sound-append (items_of ds) item sound one)) here.1

pub sound_all : Laws → (lines : List Line) (block : Option (List ℕ)) (number before : ℕ) (ds all : List Directive) → AllSound (items_of ds)
    → judged ds (entries block number before lines) ≡ Ok all → AllSound (items_of all)
unfolding entries judged
sound_all laws [] block number before ds all sound ok = let same : ds ≡ all = cc in subst (λ (d : List Directive). AllSound (items_of d)) same sound
sound_all laws (line ∷ lines) None number before ds all sound ok =
    let l = line_behind number before line in
    sound_line laws (words_on l) (number + 1) (before + size line) (content line) lines ds all l.number
    (λ words is. words_of_line l.number l.bytes (is_over l.reached) words is)
    (λ after good more. sound_all laws lines (block_begun (words_on l)) (number + 1) (before + size line) after all good more)
    sound ok
sound_all laws (line ∷ lines) (Some last) number before ds all sound ok =
    let l = line_behind number before line in
    let here = inside_ok ds all l.number (inside_kind l.bytes (is_over l.reached)) (entries (block_behind (Some last) l) (number + 1) (before + size line) lines) ok in
    sound_all laws lines (block_behind (Some last) l) (number + 1) (before + size line) ds all sound here.1
