-- The keys of clients' data packets.
use Rattle.std.specs.Prelude.{ℕ, ◌==◌, ◌&&◌, not, filter, Bool, List, [], ◌∷◌, ◌++◌, Option, Some, None, if◌then◌else◌}

-- the key of a client's data packets of a key id: the bytes of the cipher's key, and the implicit bytes of each nonce
pub record PacketKey : Type 0 where
  pub cid : ℕ
  pub kid : ℕ
  pub key : List ℕ
  pub iv : List ℕ

-- the key is that of this client and key id
abbrev pub is_named : ℕ → ℕ → PacketKey → Bool
is_named cid kid k = (k.cid == cid) && (k.kid == kid)

-- the key of a client and key id, if there is one
abbrev pub key_at : List PacketKey → ℕ → ℕ → Option PacketKey
key_at [] cid kid = None
key_at (k ∷ keys) cid kid = if is_named cid kid k then Some k else key_at keys cid kid

-- the keys of other clients and key ids, in their order
abbrev pub other_keys : List PacketKey → ℕ → ℕ → List PacketKey
other_keys keys cid kid = filter (λ k. not (is_named cid kid k)) keys

-- with a key, which replaces an earlier one of the same client and key id
abbrev pub with_key : List PacketKey → PacketKey → List PacketKey
with_key keys k = other_keys keys k.cid k.kid ++ k ∷ []
