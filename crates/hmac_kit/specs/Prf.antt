-- The pseudorandom function of TLS 1.0 (RFC 2246, 5).
use Rattle.std.specs.Prelude.{ℕ, zero, suc, ◌+◌, ◌-◌, ◌/◌, List, [], ◌∷◌, ◌++◌, length, take, drop, bit_xor}
use Rattle.hmac_kit.specs.Hmac.{hmac_md5, hmac_sha1}

-- A(i) under an HMAC with its key: A(0) is the seed, A(i) the HMAC of A(i - 1) (RFC 2246, 5)
unfoldable pub chained : (List ℕ → List ℕ) → List ℕ → ℕ → List ℕ
chained mac seed zero = seed
chained mac seed (suc i) = mac (chained mac seed i)

-- HMAC(A(1) + seed) + HMAC(A(2) + seed) + .. + HMAC(A(n) + seed) (RFC 2246, 5)
unfoldable pub blocks : (List ℕ → List ℕ) → List ℕ → ℕ → List ℕ
blocks mac seed zero = []
blocks mac seed (suc n) = blocks mac seed n ++ mac (chained mac seed (suc n) ++ seed)

-- the first n bytes of P_hash; a block has at least one byte, so n blocks are enough (RFC 2246, 5)
unfoldable pub p_hash : (List ℕ → List ℕ) → List ℕ → ℕ → List ℕ
p_hash mac seed n = take n (blocks mac seed n)

-- the exclusive or of two lists of bytes, place by place; behind the end of the second the first stands alone
unfoldable pub xor_bytes : List ℕ → List ℕ → List ℕ
xor_bytes [] ys = []
xor_bytes (x ∷ xs) [] = x ∷ xs
xor_bytes (x ∷ xs) (y ∷ ys) = bit_xor x y ∷ xor_bytes xs ys

-- the length of each half of a secret: of an odd length both have the middle byte (RFC 2246, 5)
abbrev pub half_length : List ℕ → ℕ
half_length secret = (length secret + 1) / 2

-- S1 (RFC 2246, 5)
abbrev pub first_half : List ℕ → List ℕ
first_half secret = take (half_length secret) secret

-- S2 (RFC 2246, 5)
abbrev pub second_half : List ℕ → List ℕ
second_half secret = drop (length secret - half_length secret) secret

-- the first n bytes of P_MD5 under S1 xor P_SHA-1 under S2, both over one seed (RFC 2246, 5)
unfoldable pub both_streams : List ℕ → List ℕ → ℕ → List ℕ
both_streams secret seed n = xor_bytes (p_hash (hmac_md5 (first_half secret)) seed n) (p_hash (hmac_sha1 (second_half secret)) seed n)

-- the first n bytes of PRF(secret, label, seed) = P_MD5(S1, label + seed) xor P_SHA-1(S2, label + seed) (RFC 2246, 5)
unfoldable pub prf_bytes : List ℕ → List ℕ → List ℕ → ℕ → List ℕ
prf_bytes secret label seed n = both_streams secret (label ++ seed) n
