-- The options that a server pushes to a client, in their order.
use Rattle.std.specs.Prelude.{ℕ, Bool, List, [], ◌∷◌, ◌++◌, codes, Option, Some, None, if◌then◌else◌}
use Rattle.std.specs.Fmt.{decimal}
use Rattle.vpn_base.specs.declared.address.Ip4.{Ip4}
use Rattle.vpn_base.specs.declared.names.Cipher.{Cipher}
use Rattle.vpn_base.specs.Address.{ip4_text}
use Rattle.vpn_base.specs.CipherName.{cipher_name}
use Rattle.vpn_text.specs.Mask.{mask_text}
use Rattle.push_options.specs.declared.options.PushPlan.{PushPlan}

-- what is pushed: the texts of the configuration, unless the client's file resets them, the gateway, the
-- times of pings, and the client's own texts, address, mask length, peer id and cipher
pub record Plan : Type 0 where
  pub pushes : List (List ℕ)
  pub reset : Bool
  pub gateway : Ip4
  pub keepalive : Option (ℕ × ℕ)
  pub own : List (List ℕ)
  pub address : Ip4
  pub len : ℕ
  pub peer : ℕ
  pub cipher : Cipher

-- the plan behind the references of a call
abbrev pub planned : PushPlan → Plan
planned p = record {
  pushes = p.pushes.now;
  reset = p.reset;
  gateway = p.gateway;
  keepalive = p.keepalive;
  own = p.own.now;
  address = p.address;
  len = p.len;
  peer = p.peer;
  cipher = p.cipher;
}

-- `ping N` and `ping-restart M`, where there are such times
abbrev pub ping_options : Option (ℕ × ℕ) → List (List ℕ)
ping_options None = []
ping_options (Some times) =
    (codes "ping " ++ decimal times.0) ∷ (codes "ping-restart " ++ decimal times.1) ∷ []

-- the options that all clients get
abbrev pub shared_options : Plan → List (List ℕ)
shared_options p =
    p.pushes ++ ((codes "route-gateway " ++ ip4_text p.gateway) ∷ codes "topology subnet" ∷ [] ++ ping_options p.keepalive)

-- the options of this client
abbrev pub own_options : Plan → List (List ℕ)
own_options p =
    p.own ++ ((codes "ifconfig " ++ ip4_text p.address ++ codes " " ++ mask_text p.len)
    ∷ (codes "peer-id " ++ decimal p.peer) ∷ (codes "cipher " ++ cipher_name p.cipher) ∷ [])

-- the options of a reply
unfoldable pub options_of : Plan → List (List ℕ)
options_of p = (if p.reset then [] else shared_options p) ++ own_options p
