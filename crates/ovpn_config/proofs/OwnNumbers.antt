-- The numbers that a file gives are those that it sets.
use Rattle.std.proofs.Common.{◌≡◌, ℕ, ◌-◌, ◌^◌, ◌≤◌, ◌&&◌, Bool, true, false, cond, List, [], ◌∷◌, refl, ap, sym, subst, ◌∙◌, arith}
use Rattle.std.specs.Prelude.{Option, Some, None, Ok, is_some, nat_le, option_and_then, unwrap_or}
use Rattle.std.proofs.lemmas.Bool.Decides.{nat_tests}
use Rattle.vpn_base.specs.declared.names.Role.{Role}
use Rattle.vpn_base.specs.Number.{is_decimal, number_of, value_behind}
use Rattle.config_directives.specs.declared.item.Item.{Item}
use Rattle.config_directives.specs.declared.item.Directive.{Directive}
use Rattle.config_directives.specs.declared.keyword.Keyword.TheVariants as keywords
use Rattle.config_directives.specs.declared.numbers.NumberDirective.TheVariants as numbers
use Rattle.config_directives.specs.Arguments.{if_passes, one_number}
use Rattle.config_directives.specs.Items.{given, items_of}
use Rattle.config_directives.specs.Names.{block_names}
use Rattle.config_directives.specs.Table.{row_at}
use Rattle.ovpn_config.specs.declared.settings.Settings.{Settings}
use Rattle.ovpn_config.specs.Numbers.{SetsNumbers, number_spelled}
use Rattle.ovpn_config.specs.Reading.{directives_in, settings}
use Rattle.ovpn_config.specs.Values.{settings_of, timers_given}
use Rattle.ovpn_config.specs.internal.Laws.{Laws}
use Rattle.ovpn_config.proofs.RoundSound.{AllSound}
use Rattle.ovpn_config.proofs.RoundFacts.{Holds, given_holds}
use Rattle.ovpn_config.proofs.RoundLawful.{from_file}

-- a number below a limit is below each that is higher
le_more : (v high most : ℕ) → nat_le v high ≡ true → high ≤ most → nat_le v most ≡ true
le_more v high most is below = grind (arith, nat_tests)

more_when : (b c : Bool) (v high most n : ℕ) → nat_le v high ≡ c → high ≤ most → cond (b && c) (Some v) None ≡ Some n
    → cond (b && nat_le v most) (Some v) None ≡ Some n
more_when true true v high most n is below read = ap (λ (t : Bool). cond t (Some v) None) (le_more v high most is below) ∙ read
more_when true false v high most n is below read = cc
more_when false c v high most n is below read = cc

number_more : (high most n : ℕ) (word : List ℕ) → high ≤ most → number_of high word ≡ Some n → number_of most word ≡ Some n
unfolding number_of
number_more high most n word below read =
    more_when (is_decimal word) (nat_le (value_behind 0 word) high) (value_behind 0 word) high most n refl below read

-- a word that is taken spells the number that is read
pass_when : (b : Bool) (m otherwise : ℕ) → is_some (cond b (Some m) None) ≡ true → Some m ≡ Some (unwrap_or (cond b (Some m) None) otherwise)
pass_when true m otherwise some = refl
pass_when false m otherwise some = cc

word_spells : (low high otherwise : ℕ) (word : List ℕ) (read : Option ℕ) → number_of high word ≡ read → high ≤ 2 ^ 64 - 1
    → is_some (if_passes (nat_le low) read) ≡ true → number_of (2 ^ 64 - 1) word ≡ Some (unwrap_or (if_passes (nat_le low) read) otherwise)
word_spells low high otherwise word None is small some = cc
word_spells low high otherwise word (Some m) is small some =
    number_more high (2 ^ 64 - 1) m word small is ∙ pass_when (nat_le low m) m otherwise some

words_spell : (low high otherwise : ℕ) (words : List (List ℕ)) → high ≤ 2 ^ 64 - 1 → is_some (one_number low high words) ≡ true
    → number_spelled words ≡ Some (unwrap_or (one_number low high words) otherwise)
words_spell low high otherwise [] small some = cc
words_spell low high otherwise (word ∷ []) small some = word_spells low high otherwise word (number_of high word) refl small some
words_spell low high otherwise (word ∷ next ∷ words) small some = cc

given_spells : (low high otherwise : ℕ) (words : List (List ℕ)) (there : Option (List (List ℕ))) → there ≡ Some words → high ≤ 2 ^ 64 - 1
    → is_some (one_number low high words) ≡ true
    → number_spelled words ≡ Some (unwrap_or (option_and_then (one_number low high) there) otherwise)
given_spells low high otherwise words there is small some =
    words_spell low high otherwise words small some
    ∙ ap (λ (o : Option (List (List ℕ))). Some (unwrap_or (option_and_then (one_number low high) o) otherwise)) (sym is)

sets_numbers : (role : Role) (items : List Item) → AllSound items → SetsNumbers items (settings_of role items)
unfolding settings_of timers_given block_names
sets_numbers role items sound numbers.Port words is =
    given_spells 1 65535 1194 words (given (row_at keywords.Port).name items) is (omega arith)
    (subst (Holds keywords.Port) is (given_holds keywords.Port items sound refl)).0
sets_numbers role items sound numbers.MaxClients words is =
    given_spells 1 4096 1024 words (given (row_at keywords.MaxClients).name items) is (omega arith)
    (subst (Holds keywords.MaxClients) is (given_holds keywords.MaxClients items sound refl)).0
sets_numbers role items sound numbers.RenegSec words is =
    given_spells 0 1000000 3600 words (given (row_at keywords.RenegSec).name items) is (omega arith)
    (subst (Holds keywords.RenegSec) is (given_holds keywords.RenegSec items sound refl)).0
sets_numbers role items sound numbers.TranWindow words is =
    given_spells 1 1000000 3600 words (given (row_at keywords.TranWindow).name items) is (omega arith)
    (subst (Holds keywords.TranWindow) is (given_holds keywords.TranWindow items sound refl)).0
sets_numbers role items sound numbers.HandWindow words is =
    given_spells 1 1000000 60 words (given (row_at keywords.HandWindow).name items) is (omega arith)
    (subst (Holds keywords.HandWindow) is (given_holds keywords.HandWindow items sound refl)).0
sets_numbers role items sound numbers.TlsTimeout words is =
    given_spells 1 60 2 words (given (row_at keywords.TlsTimeout).name items) is (omega arith)
    (subst (Holds keywords.TlsTimeout) is (given_holds keywords.TlsTimeout items sound refl)).0

pub own_numbers : Laws → (text : List ℕ) (s : Settings) (directives : List Directive) → settings text ≡ Ok s → directives_in text ≡ Ok directives
    → SetsNumbers (items_of directives) s
own_numbers laws text s directives read is =
    let file = from_file laws text s read in
    let same : file.all ≡ directives = cc in
    subst (λ (ds : List Directive). SetsNumbers (items_of ds) s) same
    (subst (SetsNumbers (items_of file.all)) file.made (sets_numbers file.role (items_of file.all) file.sound))
