-- The lines that are written of effects.
use Rattle.std.specs.Prelude.{ℕ, List, [], ◌∷◌, ◌++◌, map, codes, Option, Some, None}
use Rattle.std.specs.Fmt.{decimal}
use Rattle.vpn_base.specs.declared.address.Ip4.{Ip4}
use Rattle.vpn_base.specs.declared.names.Role.{Role}
use Rattle.vpn_base.specs.declared.names.Role.TheVariants as roles
use Rattle.vpn_base.specs.Address.{ip4_text}
use Rattle.vpn_base.specs.Network.{Network}
use Rattle.vpn_links.specs.Actions.{Action, Wire, EngineOpen, EnginePut, EngineWrite, EngineClose, Device, Configure, Ask, Say, Report, Stop}
use Rattle.address_text.specs.AddressText.{addr_text}
use Rattle.schedule_text.specs.NoteText.{behind, hex_text, note_words}

-- which end of a session
abbrev pub role_word : Role → List ℕ
role_word roles.Server = codes "server"
role_word roles.Client = codes "client"

-- an address and a length, as 10.8.0.2/24
abbrev pub block_text : Ip4 → ℕ → List ℕ
block_text a len = ip4_text a ++ 47 ∷ decimal len

-- the same for a route
abbrev pub route_text : Network → List ℕ
route_text route = block_text route.net route.len

-- a gateway, if there is one
abbrev pub gateway_word : Option Ip4 → List ℕ
gateway_word None = codes "none"
gateway_word (Some a) = ip4_text a

-- the word that names an effect
abbrev pub effect_word : Action → List ℕ
effect_word (Wire to bytes) = codes "wire"
effect_word (EngineOpen conn role) = codes "engineopen"
effect_word (EnginePut conn bytes) = codes "engineput"
effect_word (EngineWrite conn bytes) = codes "enginewrite"
effect_word (EngineClose conn) = codes "engineclose"
effect_word (Device bytes) = codes "device"
effect_word (Configure address len gateway routes rest) = codes "configure"
effect_word (Ask cid name) = codes "ask"
effect_word (Say bytes) = codes "say"
effect_word (Report note) = codes "report"
effect_word Stop = codes "stop"

-- what an effect says beside
abbrev pub effect_fields : Action → List (List ℕ)
effect_fields (Wire to bytes) = addr_text to ∷ hex_text bytes ∷ []
effect_fields (EngineOpen conn role) = decimal conn.0 ∷ role_word role ∷ []
effect_fields (EnginePut conn bytes) = decimal conn.0 ∷ hex_text bytes ∷ []
effect_fields (EngineWrite conn bytes) = decimal conn.0 ∷ hex_text bytes ∷ []
effect_fields (EngineClose conn) = decimal conn.0 ∷ []
effect_fields (Device bytes) = hex_text bytes ∷ []
effect_fields (Configure address len gateway routes rest) = block_text address len ∷ gateway_word gateway ∷ (map route_text routes ++ map hex_text rest)
effect_fields (Ask cid name) = decimal cid.0 ∷ name ∷ []
effect_fields (Say bytes) = bytes ∷ []
effect_fields (Report note) = note_words note
effect_fields Stop = []

-- the line of an effect of the event of this number, with its line feed
unfoldable pub effect_line : ℕ → Action → List ℕ
effect_line number a = decimal number ++ (behind (effect_word a ∷ effect_fields a) ++ 10 ∷ [])
