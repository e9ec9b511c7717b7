-- What came of telling a refusal.
use Rattle.std.specs.Prelude.{◌≡◌, ◌⊎◌, ℕ, List, Option, Some}
use Rattle.vpn_base.specs.Answers.{Rose}
use Rattle.vpn_top.specs.declared.refusal.Refusal.{Refusal}
use Rattle.vpn_top.specs.declared.refusal.Refusal.TheVariants as refusals
use Rattle.vpn_top.specs.Answer.{Told}

-- it was told; or that memory is short was; or the error output took a front of its line at most
abbrev pub Tells : List ℕ → Refusal → Refusal → Option (List ℕ) → Option (List ℕ) → ℕ → ℕ → Type 0
Tells name refusal told before after faults_before faults_after =
    ((told ≡ refusal) ⊎ (told ≡ refusals.NoMemory) ⊎ ((told ≡ refusals.Output) × Rose faults_before faults_after))
    × Told name (Some told) (faults_before, faults_after) before after
