-- The key of a GCM of either length.
use Rattle.std.specs.Prelude.{ℕ, List}
use Rattle.gcm_seal.specs.declared.gcm.AnyGcm.{AnyGcm}
use Rattle.gcm_seal.specs.declared.gcm.AnyGcm.TheVariants.{Short, Long}

-- the key's bytes
abbrev pub key_of : AnyGcm → List ℕ
key_of (Short key) = key
key_of (Long key) = key
