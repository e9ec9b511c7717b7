use Rattle.std.proofs.Common.{◌≡◌, ℕ, ap, ◌∙◌, inl, inr}
use Rattle.std.specs.Prelude.{◌⊎◌, Option, Some}
use Rattle.vpn_base.specs.Answers.{Rose}
use Rattle.vpn_top.specs.Answer.{exit_status}
use Rattle.vpn_top.specs.declared.refusal.Refusal.{Refusal}
use Rattle.vpn_top.specs.declared.refusal.Refusal.TheVariants as refusals
use Rattle.vpn_top.proofs.top.no_memory.Goals as goal

-- the status of what was told
status_by : (told : Refusal) (status before now : ℕ) → status ≡ exit_status (Some told) → (told ≡ refusals.NoMemory) ⊎ (told ≡ refusals.NoMemory) ⊎ ((told ≡ refusals.Output) × Rose before now) →
    (status ≡ 8) ⊎ ((status ≡ 6) × Rose before now)
status_by told status before now is (inl same) = inl (is ∙ ap (λ (r : Refusal). exit_status (Some r)) same)
status_by told status before now is (inr (inl same)) = inl (is ∙ ap (λ (r : Refusal). exit_status (Some r)) same)
status_by told status before now is (inr (inr failed)) = inr (is ∙ ap (λ (r : Refusal). exit_status (Some r)) failed.0, failed.1)

pub returns : goal.returns
returns g c = status_by c.tell-told.result c.exit_status.result (g.E.Sink.faults c.args.err.now) (g.E.Sink.faults c.tell-told.new.err) c.exit_status.ensures c.tell-told.ensures.told.0
