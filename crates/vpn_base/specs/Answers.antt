-- What a call answers, and counts that rise.
use Rattle.std.specs.Prelude.{◌≡◌, ℕ, ◌+◌, ◌-◌, ◌^◌, ◌≤◌, min, Result, Ok, Err}
use Rattle.vpn_base.specs.declared.errors.Or.{Or}
use Rattle.vpn_base.specs.declared.errors.Or.TheVariants.{Memory, Why}

-- the call answers what is wanted, unless memory ran out
abbrev pub Answers : {A E : Type 0} → Result A (Or E) → Result A E → Type 0
Answers (Ok x) wanted = wanted ≡ Ok x
Answers (Err Memory) wanted = Unit {0}
Answers (Err (Why e)) wanted = wanted ≡ Err e

-- a count that stands still at 2^64 - 1 has risen
abbrev pub Rose : ℕ → ℕ → Type 0
Rose before after = min (before + 1) (2 ^ 64 - 1) ≤ after

-- what holds of the call's own reason, if it has one; want of memory has none
abbrev pub IfWhy : {E : Type 0} → Or E → (E → Type 0) → Type 0
IfWhy Memory P = Unit {0}
IfWhy (Why e) P = P e
