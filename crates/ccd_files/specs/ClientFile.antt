-- What a client's file says, line by line.
use Rattle.std.specs.Prelude.{ℕ, ◌+◌, is_some, Bool, true, false, List, [], ◌∷◌, ◌++◌, Some, None, Result, Ok, Err, if◌then◌else◌}
use Rattle.vpn_base.specs.Lines.{Line, lines_of, content, size}
use Rattle.vpn_text.specs.declared.config.ConfigFault.{ConfigFault}
use Rattle.vpn_text.specs.declared.config.ConfigKind.{ConfigKind}
use Rattle.vpn_text.specs.declared.config.ConfigKind.TheVariants.{Repeated}
use Rattle.vpn_text.specs.ConfigLine.{config_words, is_over}
use Rattle.ccd_files.specs.declared.client_file.Ccd.{Ccd}
use Rattle.ccd_files.specs.declared.directives.Directive.{Directive}
use Rattle.ccd_files.specs.declared.directives.Directive.TheVariants.{Address, Iroute, Push, Reset, Disable}
use Rattle.ccd_files.specs.Directives.{name_of, directive_of}

-- a file that says nothing
abbrev pub no_ccd : Ccd
no_ccd = record { address = None; iroutes = []; pushes = []; reset = false; disable = false }

-- one directive more; `iroute` and `push` may repeat
abbrev pub added : Ccd → Directive → Result Ccd ConfigKind
added ccd (Address a len) = if is_some ccd.address then Err Repeated else Ok (record ccd { address = Some (a, len) })
added ccd (Iroute net) = Ok (record ccd { iroutes = ccd.iroutes ++ net ∷ [] })
added ccd (Push text) = Ok (record ccd { pushes = ccd.pushes ++ text ∷ [] })
added ccd Reset = if ccd.reset then Err Repeated else Ok (record ccd { reset = true })
added ccd Disable = if ccd.disable then Err Repeated else Ok (record ccd { disable = true })

-- the same, where it is one
abbrev pub added_from : Ccd → Result Directive ConfigKind → Result Ccd ConfigKind
added_from ccd (Ok directive) = added ccd directive
added_from ccd (Err kind) = Err kind

-- a fault in the line of this number, whose first word this is
abbrev pub faulted : ℕ → List ℕ → Result Ccd ConfigKind → Result Ccd ConfigFault
faulted number word (Ok ccd) = Ok ccd
faulted number word (Err kind) = Err (record { line = number; kind = kind; word = word })

-- a line of these words more: none say nothing
abbrev pub words_added : Ccd → ℕ → Result (List (List ℕ)) ConfigFault → Result Ccd ConfigFault
words_added ccd number (Ok []) = Ok ccd
words_added ccd number (Ok (word ∷ words)) = faulted number word (added_from ccd (directive_of (name_of word) words))
words_added ccd number (Err fault) = Err fault

-- one line more
unfoldable pub line_added : Ccd → ℕ → List ℕ → Bool → Result Ccd ConfigFault
line_added ccd number line passes = words_added ccd number (config_words number line passes)

-- what follows a line without a fault
abbrev pub and_then : Result Ccd ConfigFault → (Ccd → Result Ccd ConfigFault) → Result Ccd ConfigFault
and_then (Ok ccd) rest = rest ccd
and_then (Err fault) rest = Err fault

-- these lines more, behind so many lines with so many bytes
abbrev pub lines_added : Ccd → ℕ → ℕ → List Line → Result Ccd ConfigFault
lines_added ccd before bytes [] = Ok ccd
lines_added ccd before bytes (line ∷ lines) =
    and_then (line_added ccd (before + 1) (content line) (is_over (bytes + size line)))
    (λ next. lines_added next (before + 1) (bytes + size line) lines)

-- what a file says, or the fault of its first faulty line
unfoldable pub ccd : List ℕ → Result Ccd ConfigFault
ccd text = lines_added no_ccd 0 0 (lines_of text)
