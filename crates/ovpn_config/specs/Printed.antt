-- How each directive of the table stands in the canonical text.
use Rattle.std.specs.Prelude.{ℕ, Bool, List, [], ◌∷◌, ◌++◌, codes, Option, option_map, option_to_list, map, decimal, if◌then◌else◌}
use Rattle.std.specs.List.{join_with_byte}
use Rattle.vpn_base.specs.declared.address.Addr.{Addr}
use Rattle.vpn_base.specs.declared.names.Cipher.{Cipher}
use Rattle.vpn_base.specs.declared.names.Policy.{Policy}
use Rattle.vpn_base.specs.declared.names.Policy.TheVariants.{Choose, Fixed}
use Rattle.vpn_base.specs.Address.{ip4_text}
use Rattle.vpn_base.specs.CipherName.{cipher_name}
use Rattle.vpn_base.specs.Network.{Network}
use Rattle.vpn_text.specs.Mask.{mask_text}
use Rattle.config_directives.specs.declared.keyword.Keyword.{Keyword}
use Rattle.config_directives.specs.declared.keyword.Keyword.TheVariants as keywords
use Rattle.ovpn_config.specs.declared.settings.Settings.{Settings}
use Rattle.ovpn_config.specs.declared.settings.KeyPlace.{KeyPlace}
use Rattle.ovpn_config.specs.declared.settings.KeyPlace.TheVariants.{Named, Inline}
use Rattle.ovpn_config.specs.Spelling.{block_text, words_text}

-- a directive with one argument
abbrev pub with_word : List ℕ → List ℕ → List ℕ
with_word name word = words_text (name ∷ word ∷ [])

-- a directive with a number
abbrev pub with_number : List ℕ → ℕ → List (List ℕ)
with_number name n = with_word name (decimal n) ∷ []

-- a directive with a network and its mask
abbrev pub with_network : List ℕ → Network → List ℕ
with_network name network = words_text (name ∷ ip4_text network.net ∷ mask_text network.len ∷ [])

-- a directive with two numbers
abbrev pub with_numbers : List ℕ → ℕ × ℕ → List ℕ
with_numbers name numbers = words_text (name ∷ decimal numbers.0 ∷ decimal numbers.1 ∷ [])

-- the text of what is there
abbrev pub if_there : {A : Type 0} → (A → List ℕ) → Option A → List (List ℕ)
if_there text value = option_to_list (option_map text value)

-- a directive that is a switch
abbrev pub switched : List ℕ → Bool → List (List ℕ)
switched name on = if on then words_text (name ∷ []) ∷ [] else []

-- `remote IP PORT`
abbrev pub remote_text : Addr → List ℕ
remote_text to = words_text (codes "remote" ∷ ip4_text to.ip ∷ decimal to.port ∷ [])

-- `tls-crypt FILE`, or the block
abbrev pub key_text : KeyPlace → List ℕ
key_text (Named name) = with_word (codes "tls-crypt") name
key_text (Inline bytes) = block_text (codes "tls-crypt") bytes

-- the ciphers of a policy
abbrev pub ciphers_of : Policy → List Cipher
ciphers_of (Choose first second) = first ∷ option_to_list second
ciphers_of (Fixed only) = only ∷ []

-- their names, joined by colons
abbrev pub cipher_names : Policy → List ℕ
cipher_names policy = join_with_byte 58 (map cipher_name (ciphers_of policy))

-- the texts with which a directive of the table stands there
abbrev pub printed : Keyword → Settings → List (List ℕ)
printed keywords.Server s = if_there (with_network (codes "server")) s.net
printed keywords.Client s = words_text (codes "client" ∷ []) ∷ []
printed keywords.Dev s = with_word (codes "dev") s.dev ∷ []
printed keywords.Topology s = with_word (codes "topology") (codes "subnet") ∷ []
printed keywords.Proto s = with_word (codes "proto") (codes "udp") ∷ []
printed keywords.Port s = with_number (codes "port") s.port
printed keywords.Local s = if_there (λ a. with_word (codes "local") (ip4_text a)) s.local
printed keywords.Remote s = if_there remote_text s.remote
printed keywords.TlsCrypt s = key_text s.key ∷ []
printed keywords.Keepalive s = if_there (with_numbers (codes "keepalive")) s.keepalive
printed keywords.ClientConfigDir s = if_there (with_word (codes "client-config-dir")) s.ccd
printed keywords.CcdExclusive s = switched (codes "ccd-exclusive") s.exclusive
printed keywords.ClientToClient s = switched (codes "client-to-client") s.between
printed keywords.DuplicateCn s = switched (codes "duplicate-cn") s.duplicate
printed keywords.MaxClients s = with_number (codes "max-clients") s.max_clients
printed keywords.Push s = map (with_word (codes "push")) s.pushes
printed keywords.Route s = map (with_network (codes "route")) s.routes
printed keywords.DataCiphers s = with_word (codes "data-ciphers") (cipher_names s.ciphers) ∷ []
printed keywords.RenegSec s = with_number (codes "reneg-sec") s.timers.reneg
printed keywords.TranWindow s = with_number (codes "tran-window") s.timers.tran
printed keywords.HandWindow s = with_number (codes "hand-window") s.timers.hand
printed keywords.TlsTimeout s = with_number (codes "tls-timeout") s.timers.timeout
printed keywords.ReplayWindow s = with_numbers (codes "replay-window") (s.timers.win, s.timers.win_secs) ∷ []
printed keywords.Management s = if_there (λ place. codes "management " ++ place) s.console
