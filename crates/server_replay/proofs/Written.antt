-- The lines that links of a replay wrote are those of the effects that they were given.
use Rattle.std.proofs.Common.{◌≡◌, ℕ, suc, List, [], ◌∷◌, ◌++◌, refl, ap, ◌∙◌}
use Rattle.vpn_links.specs.Rounds.{Given, Round}
use Rattle.schedule_text.specs.EffectLine.{effect_line}
use Rattle.vpn_node.specs.Running.{actions_of, given_in}
use Rattle.replay_links.specs.Replay as links
use Rattle.server_replay.specs.Transcript.{effect_lines, transcript, transcript_from}

lines_same : (number : ℕ) (given : List Given) → links.effect_lines number given ≡ effect_lines number (actions_of given)
lines_same number [] = refl
lines_same number (g ∷ given) = ap (λ l. effect_line number g.action ++ l) (lines_same number given)

from_same : (number : ℕ) (rounds : List Round) → links.transcript_from number rounds ≡ transcript_from number (given_in rounds)
from_same number [] = refl
from_same number (r ∷ rounds) =
    ap (λ l. l ++ links.transcript_from (suc number) rounds) (lines_same number r.effects)
    ∙ ap (λ l. effect_lines number (actions_of r.effects) ++ l) (from_same (suc number) rounds)

pub transcript_same : (rounds : List Round) → links.transcript rounds ≡ transcript (given_in rounds)
transcript_same rounds = from_same 0 rounds
