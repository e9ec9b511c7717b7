-- The messages that the ends of this VPN write.
use Rattle.std.specs.Prelude.{ℕ, List, [], ◌∷◌, ◌++◌, map, codes, None}
use Rattle.vpn_base.specs.declared.names.Cipher.{Cipher}
use Rattle.vpn_base.specs.CipherName.{cipher_name}
use Rattle.key_method2.specs.declared.message.Source.{Source}
use Rattle.key_method2.specs.declared.message.Km2.{Km2}
use Rattle.key_method2.specs.Spelling.{message_bytes}

-- the options text of both ends
abbrev pub tunnel_options : List ℕ
tunnel_options = codes "V4,dev-type tun"

-- the server's message: no pre-master secret, and three empty texts behind the options
abbrev pub server_km2 : Source → Km2
server_km2 source = record { source = record source { pre = None }; options = tunnel_options; user = []; pass = []; info = [] }

-- its bytes
unfoldable pub server_message : Source → List ℕ
server_message source = message_bytes (server_km2 source)

-- a line of the peer info, ended by a line feed
abbrev pub line : List ℕ → List ℕ
line text = text ++ 10 ∷ []

-- each of these names behind a colon
abbrev pub behind_colons : List (List ℕ) → List ℕ
behind_colons [] = []
behind_colons (name ∷ names) = 58 ∷ name ++ behind_colons names

-- names joined by colons
abbrev pub joined : List (List ℕ) → List ℕ
joined [] = []
joined (name ∷ names) = name ++ behind_colons names

-- the client's peer info: its version, its platform, what it can do, and its ciphers
abbrev pub client_info : List Cipher → List ℕ
client_info ciphers =
    line (codes "IV_VER=2.6.0") ++ line (codes "IV_PLAT=linux") ++ line (codes "IV_PROTO=2") ++ line (codes "IV_CIPHERS=" ++ joined (map cipher_name ciphers))

-- the client's message: no user name and no password
abbrev pub client_km2 : Source → List Cipher → Km2
client_km2 source ciphers = record { source = source; options = tunnel_options; user = []; pass = []; info = client_info ciphers }

-- its bytes
unfoldable pub client_message : Source → List Cipher → List ℕ
client_message source ciphers = message_bytes (client_km2 source ciphers)
