-- Names of ciphers, read.
use Rattle.std.specs.Prelude.{ℕ, List, codes, Option, Some, None, bytes_eq, if◌then◌else◌}
use Rattle.vpn_base.specs.declared.names.Cipher.{Cipher}
use Rattle.vpn_base.specs.declared.names.Cipher.TheVariants.{Aes128Gcm, Aes256Gcm}

-- the cipher of a name that OpenSSL gives it
abbrev pub cipher_named : List ℕ → Option Cipher
cipher_named name =
    if bytes_eq name (codes "AES-256-GCM") then Some Aes256Gcm
    else if bytes_eq name (codes "AES-128-GCM") then Some Aes128Gcm
    else None
