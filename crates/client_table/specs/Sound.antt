-- What holds of the keys of every table.
use Rattle.std.specs.Prelude.{ℕ, ◌+◌, ◌&&◌, nat_le, nat_lt, Bool, true, List, [], ◌∷◌}
use Rattle.client_table.specs.declared.key.Key.{Key}

-- whether the numbers of keys rise from this one on, and stay below the end
abbrev pub rise_from : ℕ → ℕ → List Key → Bool
rise_from least end [] = nat_le least end
rise_from least end (k ∷ keys) = nat_le least k.number.0 && rise_from (k.number.0 + 1) end keys

-- whether each peer id is one of so many
abbrev pub are_below : ℕ → List Key → Bool
are_below most [] = true
are_below most (k ∷ keys) = nat_lt k.peer_id most && are_below most keys
