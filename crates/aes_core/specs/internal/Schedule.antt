-- What an `AesKey` keeps: the words of the key schedule, and how many rounds there are.
use Rattle.std.specs.Prelude.{◌≡◌, ℕ, ◌+◌, ◌-◌, ◌*◌, ◌%◌, ◌≤◌, List, map, take, flat_map}
use Rattle.aes_core.specs.KeyExpansion.{key_expansion, round_count}
use Rattle.aes_core.specs.internal.Words.{word_bytes}
use Rattle.aes_core.specs.declared.AesKey.TheInside.{Inside}

-- the first words of a key schedule, as many as a key of so many rounds has, as bytes
abbrev pub key_bytes : List ℕ → ℕ → List ℕ
key_bytes words rounds = flat_map word_bytes (take (rounds - 6) words)

-- the words of a key schedule for so many rounds
abbrev pub schedule_words : List ℕ → ℕ → List (List ℕ)
schedule_words words rounds = map word_bytes (take (4 * (rounds + 1)) words)

-- the words are the key schedule of the key that they begin with
pub record IsSchedule (words : List ℕ) (rounds : ℕ) : Type 0 where
  pub low : 10 ≤ rounds
  pub high : rounds ≤ 14
  pub even : rounds % 2 ≡ 0
  pub count : round_count (key_bytes words rounds) ≡ rounds
  pub expanded : schedule_words words rounds ≡ key_expansion (key_bytes words rounds)

-- the key that is kept
abbrev pub key_of : Inside → List ℕ
key_of a = key_bytes a.words a.rounds

-- what is kept is the key schedule of that key
abbrev pub IsExpanded : Inside → Type 0
IsExpanded a = IsSchedule a.words a.rounds
