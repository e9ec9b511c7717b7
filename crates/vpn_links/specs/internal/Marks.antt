-- How links in memory keep the effects of one event.
use Rattle.std.specs.Prelude.{Bool, List, [], ◌∷◌}
use Rattle.vpn_links.specs.Actions.{Action}
use Rattle.vpn_links.specs.Rounds.{Given}

-- effects, each with whether it was lost
abbrev pub marked : List Action → List Bool → List Given
marked [] lost = []
marked actions [] = []
marked (a ∷ actions) (l ∷ lost) = record { action = a; is_lost = l } ∷ marked actions lost
