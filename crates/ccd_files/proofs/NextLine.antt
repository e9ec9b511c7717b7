-- One line more.
use Rattle.std.proofs.Common.{◌≡◌, ℕ, ◌+◌, ◌-◌, ◌||◌, Bool, true, false, cond, List, [], length, Ok, Err, Result, refl, ap, ◌∙◌, arith}
use Rattle.std.specs.Prelude.{nat_lt}
use Rattle.vpn_base.specs.Lines.{lines_of, size, BeginsWith}
use Rattle.vpn_text.specs.declared.config.ConfigFault.{ConfigFault}
use Rattle.vpn_text.specs.declared.config.ConfigKind.TheVariants.{Long}
use Rattle.vpn_text.specs.Words.{line_words}
use Rattle.vpn_text.specs.ConfigLine.{config_words, words_in}
use Rattle.ccd_files.specs.declared.client_file.Ccd.{Ccd}
use Rattle.ccd_files.specs.ClientFile.{words_added, line_added, lines_added, and_then}

-- what the lines say with what the first one says
pub line_next : (said : Ccd) (number bytes : ℕ) (text line rest : List ℕ) (r : Result Ccd ConfigFault) → BeginsWith text line rest
    → line_added said (number + 1) line (nat_lt 65536 (bytes + (length text - length rest))) ≡ r
    → lines_added said number bytes (lines_of text)
    ≡ and_then r (λ next. lines_added next (number + 1) (bytes + (length text - length rest)) (lines_of rest))
line_next said number bytes text line rest r first says =
    let takes : size first.first ≡ length text - length rest = omega (arith, first.takes) in
    let go_on : ℕ → Ccd → Result Ccd ConfigFault = λ k next. lines_added next (number + 1) (bytes + k) (lines_of rest) in
    ap (lines_added said number bytes) first.begins
    ∙ ap (λ (l : List ℕ). and_then (line_added said (number + 1) l (nat_lt 65536 (bytes + size first.first))) (go_on (size first.first))) first.shows
    ∙ ap (λ (k : ℕ). and_then (line_added said (number + 1) line (nat_lt 65536 (bytes + k))) (go_on k)) takes
    ∙ ap (λ (n : Result Ccd ConfigFault). and_then n (go_on (length text - length rest))) says

passing : (a : Bool) (e w : Result (List (List ℕ)) ConfigFault) → cond (a || true) e w ≡ e
passing true e w = refl
passing false e w = refl

long_line : (number : ℕ) (line : List ℕ) → config_words number line true ≡ Err (record { line = number; kind = Long; word = [] })
unfolding config_words
long_line number line =
    let fault : ConfigFault = record { line = number; kind = Long; word = [] } in
    passing (nat_lt 1024 (length line)) (Err fault) (words_in number (line_words line))

-- a line that passes the limit of the file says nothing
pub not_passing : (said : Ccd) (number : ℕ) (line : List ℕ) (passes : Bool) (next : Ccd) → line_added said number line passes ≡ Ok next → passes ≡ false
unfolding line_added
not_passing said number line true next says =
    let long = ap (words_added said number) (long_line number line) in
    cc
not_passing said number line false next says = refl
