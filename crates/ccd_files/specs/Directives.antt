-- The directives of a client's file (the options of OpenVPN 2.6 that a client-specific file may have).
use Rattle.std.specs.Prelude.{ℕ, List, [], ◌∷◌, codes, Option, Some, None, Result, Ok, Err, if◌then◌else◌}
use Rattle.std.specs.Str.{bytes_eq}
use Rattle.vpn_base.specs.declared.address.Ip4.{Ip4}
use Rattle.vpn_base.specs.Address.{ip4_of}
use Rattle.vpn_base.specs.Network.{Network}
use Rattle.vpn_text.specs.declared.config.ConfigKind.{ConfigKind}
use Rattle.vpn_text.specs.declared.config.ConfigKind.TheVariants.{Unknown, Arguments}
use Rattle.vpn_text.specs.Mask.{mask_of, masked_network}
use Rattle.vpn_text.specs.Quoted.{may_be_pushed}
use Rattle.ccd_files.specs.declared.directives.Name.{Name}
use Rattle.ccd_files.specs.declared.directives.Name.TheVariants as names
use Rattle.ccd_files.specs.declared.directives.Directive.{Directive}
use Rattle.ccd_files.specs.declared.directives.Directive.TheVariants as directives

-- the directive that a line's first word names
unfoldable pub name_of : List ℕ → Name
name_of word =
    if bytes_eq word (codes "ifconfig-push") then names.Address
    else if bytes_eq word (codes "iroute") then names.Iroute
    else if bytes_eq word (codes "push") then names.Push
    else if bytes_eq word (codes "push-reset") then names.Reset
    else if bytes_eq word (codes "disable") then names.Disable
    else names.Other

-- the mask of an `iroute` without one
unfoldable pub host_mask : List ℕ
host_mask = codes "255.255.255.255"

-- an address and the length of a mask
abbrev pub address_from : Option Ip4 → Option ℕ → Result Directive ConfigKind
address_from (Some a) (Some len) = Ok (directives.Address a len)
address_from _ _ = Err Arguments

-- IP MASK
abbrev pub address_in : List (List ℕ) → Result Directive ConfigKind
address_in (ip ∷ mask ∷ []) = address_from (ip4_of ip) (mask_of mask)
address_in _ = Err Arguments

-- a network
abbrev pub iroute_from : Option Network → Result Directive ConfigKind
iroute_from (Some net) = Ok (directives.Iroute net)
iroute_from None = Err Arguments

-- NET [MASK]
abbrev pub iroute_in : List (List ℕ) → Result Directive ConfigKind
iroute_in (net ∷ []) = iroute_from (masked_network net host_mask)
iroute_in (net ∷ mask ∷ []) = iroute_from (masked_network net mask)
iroute_in _ = Err Arguments

-- TEXT, which may be pushed
abbrev pub push_in : List (List ℕ) → Result Directive ConfigKind
push_in (text ∷ []) = if may_be_pushed text then Ok (directives.Push text) else Err Arguments
push_in _ = Err Arguments

-- no arguments
abbrev pub alone : Directive → List (List ℕ) → Result Directive ConfigKind
alone directive [] = Ok directive
alone directive (word ∷ words) = Err Arguments

-- the directive of this name with these arguments
abbrev pub directive_of : Name → List (List ℕ) → Result Directive ConfigKind
directive_of names.Address words = address_in words
directive_of names.Iroute words = iroute_in words
directive_of names.Push words = push_in words
directive_of names.Reset words = alone directives.Reset words
directive_of names.Disable words = alone directives.Disable words
directive_of names.Other words = Err Unknown
