-- Refusals on the way through a client's file.
use Rattle.std.specs.Prelude.{◌≡◌, ℕ, List, Result, Err}
use Rattle.vpn_base.specs.declared.errors.Or.{Or}
use Rattle.vpn_base.specs.declared.errors.Or.TheVariants.{Memory, Why}
use Rattle.vpn_text.specs.declared.config.ConfigFault.{ConfigFault}
use Rattle.vpn_text.specs.declared.config.ConfigKind.{ConfigKind}
use Rattle.ccd_files.specs.declared.client_file.Ccd.{Ccd}

-- a refusal is the fault that the definition has, unless it is want of memory
abbrev pub Refused : {E : Type 0} → Or E → Result Ccd E → Type 0
Refused Memory wanted = Unit {0}
Refused (Why e) wanted = wanted ≡ Err e

-- the refusal of a line, by that of its directive; memory may run out before its word is copied
abbrev pub IsFaultOf : ℕ → List ℕ → Or ConfigKind → Or ConfigFault → Type 0
IsFaultOf number word e Memory = Unit {0}
IsFaultOf number word Memory (Why fault) = ⊥
IsFaultOf number word (Why kind) (Why fault) = fault ≡ record { line = number; kind = kind; word = word }
