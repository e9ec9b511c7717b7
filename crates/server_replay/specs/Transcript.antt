-- The lines that a replay writes.
use Rattle.std.specs.Prelude.{ℕ, suc, List, [], ◌∷◌, ◌++◌}
use Rattle.vpn_links.specs.Actions.{Action}
use Rattle.schedule_text.specs.EffectLine.{effect_line}

-- the lines of the effects of the event of this number
abbrev pub effect_lines : ℕ → List Action → List ℕ
effect_lines number [] = []
effect_lines number (action ∷ actions) = effect_line number action ++ effect_lines number actions

-- the lines of the effects of each event, the first of which has this number
abbrev pub transcript_from : ℕ → List (List Action) → List ℕ
transcript_from number [] = []
transcript_from number (actions ∷ outs) = effect_lines number actions ++ transcript_from (suc number) outs

-- the lines of all
abbrev pub transcript : List (List Action) → List ℕ
transcript outs = transcript_from 0 outs
