-- The counter mode (SP 800-38A, section 6.5), whose counter is the whole block (B.1).
use Rattle.std.specs.Prelude.{ℕ, zero, suc, ◌+◌, ◌/◌, ◌%◌, ◌^◌, List, [], ◌++◌, take}
use Rattle.std.specs.Int.{w128, from_be_bytes, to_be_bytes}
use Rattle.aes_core.specs.Cipher.{cipher}

-- the n output blocks of the counters first, first + 1, .., modulo 2 ^ 128 (6.5, B.1)
unfoldable pub output_blocks : List ℕ → ℕ → ℕ → List ℕ
output_blocks key first zero = []
output_blocks key first (suc n) =
    output_blocks key first n ++ cipher key (to_be_bytes w128 ((first + n) % 2 ^ 128))

-- the first n bytes of the output blocks, whose first counter is the block iv (6.5)
unfoldable pub key_stream : List ℕ → List ℕ → ℕ → List ℕ
key_stream key iv n = take n (output_blocks key (from_be_bytes w128 iv) ((n + 15) / 16))
