-- Whether a session is finished, by what is seen of it.
use Rattle.std.specs.Prelude.{ℕ, zero, suc, ◌&&◌, Bool, true, false}
use Rattle.key_sessions.specs.declared.slot.Newest.{Newest}
use Rattle.key_sessions.specs.declared.slot.Stage.{Stage}
use Rattle.key_sessions.specs.declared.slot.Stage.TheVariants as stages

-- whether it has keys
abbrev pub is_keyed_stage : Stage → Bool
is_keyed_stage stages.Opening = false
is_keyed_stage stages.Named = false
is_keyed_stage stages.Keyed = true

-- session 0 only once its client is established
abbrev pub finished_at : Bool → Bool → ℕ → Bool
finished_at established keyed zero = keyed && established
finished_at established keyed (suc n) = keyed

abbrev pub is_finished_seen : Bool → Newest → Bool
is_finished_seen established newest = finished_at established (is_keyed_stage newest.stage) newest.number
