-- Whose texts are there, from one number on.
use Rattle.std.proofs.Common.{◌≡◌, ℕ, ◌+◌, ◌<◌, false, Option, Some, None, refl, ap, subst, arith, inl, inr}
use Rattle.std.specs.Prelude.{is_some}
use Rattle.std.proofs.lemmas.Bool.{cases_lt, false≢true}
use Rattle.key_sessions.specs.declared.slot.Slot.{Slot}
use Rattle.key_sessions.specs.declared.slots.Slots.{Slots}
use Rattle.key_sessions.specs.Slots.{NoText, newest_number, text_at, text_in}
use Rattle.key_sessions.proofs.Each.{past_end}

is_none : {T : Type 0} (o : Option T) → false ≡ is_some o → o ≡ None
is_none None is = refl
is_none (Some t) is = absurd (false≢true is)

-- none at one number more
pub none_further : {T : Type 0} (slots : Slots T) (from to next : ℕ) → NoText slots from to → false ≡ is_some (text_at slots to) → next ≡ to + 1 → NoText slots from next
none_further slots from to next none here more n reached below = elim (cases_lt n to) [
  | inl before ↦ none n reached before
  | inr not_before ↦ let same : to ≡ n = omega (arith, below, more, not_before) in subst (λ (k : ℕ). text_at slots k ≡ None) same (is_none (text_at slots to) here)
]

-- there is none past the newest
pub none_past : {T : Type 0} (slots : Slots T) (n : ℕ) → newest_number slots < n → text_at slots n ≡ None
unfolding newest_number text_at
none_past {T = T} slots n past = ap (λ (o : Option (Slot T)). text_in o) (past_end slots.earlier.items slots.newest n past)
