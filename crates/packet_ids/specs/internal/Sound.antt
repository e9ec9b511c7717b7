-- What holds of every window.
use Rattle.std.specs.Prelude.{◌≡◌, ℕ, ◌<◌, ◌≤◌, List, length}
use Rattle.std.specs.List.{All}
use Rattle.packet_ids.specs.declared.places.Place.{Place}

-- there are as many places as the window is wide, and no place has a later stamp than the one that counts
pub record IsSound (width stamp : ℕ) (places : List Place) : Type 0 where
  pub some : 0 < width
  pub full : length places ≡ width
  pub stamped : All (λ place. place.stamp ≤ stamp) places
