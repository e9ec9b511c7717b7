-- The names of ciphers in texts.
use Rattle.std.specs.Prelude.{ℕ, List, codes}
use Rattle.vpn_base.specs.declared.names.Cipher.{Cipher}
use Rattle.vpn_base.specs.declared.names.Cipher.TheVariants.{Aes128Gcm, Aes256Gcm}

-- the name that OpenSSL gives the cipher
abbrev pub cipher_name : Cipher → List ℕ
cipher_name Aes128Gcm = codes "AES-128-GCM"
cipher_name Aes256Gcm = codes "AES-256-GCM"
