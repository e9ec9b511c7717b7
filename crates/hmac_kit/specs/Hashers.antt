-- What a hasher that is fed in pieces stands for: the key and the text that it was given.
use Rattle.std.specs.Prelude.{ℕ, List, ◌++◌}
use Rattle.sha2.specs.Sha256.{sha256}
use Rattle.sha2.specs.Hashers.{Holds256}
use Rattle.hmac_kit.specs.Hmac.{masked_key}
use Rattle.hmac_kit.specs.declared.hmac.Hmac.{Hmac}
use Rattle.hmac_kit.specs.declared.hmac.HmacSha256.{HmacSha256}

-- the inner hash has taken the key under ipad and then the text, the outer one the key under opad
pub record HoldsText {S : Type 0} (holds : S → List ℕ → Type 0) (hash : List ℕ → List ℕ) (h : Hmac S) (key text : List ℕ) : Type 0 where
  pub inner : holds h.inner (masked_key hash 0x36 key ++ text)
  pub outer : holds h.outer (masked_key hash 0x5c key)

-- the hasher was made with the key, and has taken the text since
unfoldable pub Holds : HmacSha256 → List ℕ → List ℕ → Type 0
Holds h key text = HoldsText Holds256 sha256 h.mac key text
