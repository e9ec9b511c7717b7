-- GHASH of NIST SP 800-38D, section 6.4. A block is a list of 16 bytes.
use Rattle.std.specs.Prelude.{ℕ, zero, suc, ◌-◌, ◌*◌, List, [], ◌∷◌, ◌++◌, length, take, drop, replicate, fold, bit_xor}
use Rattle.std.specs.Int.{w128, div_ceil, from_be_bytes}
use Rattle.ghash_core.specs.Field.{product}

-- the element that a block is
abbrev pub element : List ℕ → ℕ
element block = from_be_bytes w128 block

-- Y i from Y (i - 1) and the block X i, under the hash key h (6.4, step 3)
abbrev pub ghash_step : ℕ → ℕ → List ℕ → ℕ
ghash_step h y block = product (bit_xor y (element block)) h

-- the last Y, from any Y before the blocks
unfoldable pub ghash_from : ℕ → ℕ → List (List ℕ) → ℕ
ghash_from h y blocks = fold (ghash_step h) y blocks

-- GHASH of the blocks under the hash key h: Y 0 is the zero block (6.4)
unfoldable pub ghash : ℕ → List (List ℕ) → ℕ
ghash h blocks = ghash_from h 0 blocks

-- these bytes and zeros up to 16 bytes
abbrev pub filled_up : List ℕ → List ℕ
filled_up bytes = bytes ++ replicate (16 - length bytes) 0

-- the first n blocks of a list of bytes, where a block that has fewer than 16 is filled up with
-- zeros
unfoldable pub first_blocks : List ℕ → ℕ → List (List ℕ)
first_blocks bytes zero = []
first_blocks bytes (suc i) = first_blocks bytes i ++ filled_up (take 16 (drop (16 * i) bytes)) ∷ []

-- a list of bytes as blocks, the last one padded with zeros (7.1, the padding of step 4)
unfoldable pub padded_blocks : List ℕ → List (List ℕ)
padded_blocks bytes = first_blocks bytes (div_ceil (length bytes) 16)
