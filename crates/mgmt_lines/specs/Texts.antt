-- The texts that answer commands, each a line without its end (the byte counts and the counts of all clients are those
-- of OpenVPN 2.6, doc/management-notes.txt; the other texts are this profile's own).
use Rattle.std.specs.Prelude.{ℕ, ◌/◌, ◌==◌, Bool, List, [], ◌∷◌, ◌++◌, codes, if◌then◌else◌}
use Rattle.std.specs.List.{join_with_byte}
use Rattle.std.specs.Fmt.{decimal}
use Rattle.vpn_base.specs.declared.address.Addr.{Addr}
use Rattle.vpn_base.specs.declared.names.Cid.{Cid}
use Rattle.vpn_base.specs.declared.names.Moment.{Moment}
use Rattle.vpn_base.specs.Address.{ip4_text}
use Rattle.vpn_base.specs.Network.{Network}
use Rattle.address_text.specs.AddressText.{addr_text}
use Rattle.mgmt_lines.specs.declared.commands.CommandFault.{CommandFault}
use Rattle.mgmt_lines.specs.declared.commands.CommandFault.TheVariants as faults
use Rattle.mgmt_lines.specs.declared.fixed.FixedLine.{FixedLine}
use Rattle.mgmt_lines.specs.declared.fixed.FixedLine.TheVariants as lines
use Rattle.mgmt_lines.specs.declared.texts.StatusRow.{StatusRow}

-- the texts with no number and no name in them
abbrev pub fixed_text : FixedLine → List ℕ
fixed_text lines.Commands = codes "Commands: bytecount client-kill help kill load-stats signal status version"
fixed_text lines.Version = codes "OpenVPN Version: vpn profile 2.6"
fixed_text lines.Title = codes "TITLE,vpn"
fixed_text lines.ClientHeader = codes "HEADER,CLIENT_LIST,Name,Real,Virtual,In,Out,Since,Cid,Peer"
fixed_text lines.RouteHeader = codes "HEADER,ROUTING_TABLE,Prefix,Name,Real"
fixed_text lines.End = codes "END"
fixed_text lines.ClientKilled = codes "SUCCESS: client-kill command succeeded"
fixed_text lines.ClientNotKilled = codes "ERROR: client-kill command failed"
fixed_text lines.IntervalChanged = codes "SUCCESS: bytecount interval changed"
fixed_text lines.SignalThrown = codes "SUCCESS: signal SIGTERM thrown"
fixed_text lines.NotOnClient = codes "ERROR: not available on a client"

-- the answer to a line that is no command
abbrev pub fault_text : CommandFault → List ℕ
fault_text faults.Unknown = codes "ERROR: unknown command"
fault_text faults.Arguments = codes "ERROR: bad arguments"
fault_text faults.TooLong = codes "ERROR: command too long"

-- a block of addresses: NET/LEN, and one address without its length
unfoldable pub network_text : Network → List ℕ
network_text p = if p.len == 32 then ip4_text p.net else ip4_text p.net ++ 47 ∷ decimal p.len

-- what marks an address that was learned
abbrev pub mark : Bool → List ℕ
mark learned = if learned then codes "C" else []

-- the whole seconds of a moment
abbrev pub seconds : Moment → ℕ
seconds m = m.0 / 1000

-- a line of fields, with a comma between them
abbrev pub fields : List (List ℕ) → List ℕ
fields texts = join_with_byte 44 texts

-- the time of a status
unfoldable pub time_text : Moment → List ℕ
time_text m = fields (codes "TIME" ∷ decimal (seconds m) ∷ [])

-- a client in a status
unfoldable pub client_text : StatusRow → List ℕ
client_text r = fields (codes "CLIENT_LIST" ∷ r.name ∷ addr_text r.real ∷ ip4_text r.address ∷ decimal r.bytes_in
    ∷ decimal r.bytes_out ∷ decimal r.since ∷ decimal r.cid.0 ∷ decimal r.peer ∷ [])

-- a route in a status: what it leads to, and the name and the address of its owner
unfoldable pub route_text : Network → Bool → List ℕ → Addr → List ℕ
route_text p learned name real = fields (codes "ROUTING_TABLE" ∷ (network_text p ++ mark learned) ∷ name ∷ addr_text real ∷ [])

-- how many packets wait for the device, in a status
unfoldable pub queued_text : ℕ → List ℕ
queued_text n = fields (codes "GLOBAL_STATS" ∷ codes "queued" ∷ decimal n ∷ [])

-- how many clients there are, and all bytes so far
unfoldable pub load_text : ℕ → ℕ → ℕ → List ℕ
load_text clients bytes_in bytes_out =
    codes "SUCCESS: nclients=" ++ decimal clients ++ codes ",bytesin=" ++ decimal bytes_in ++ codes ",bytesout=" ++ decimal bytes_out

-- the bytes of a client
unfoldable pub count_text : Cid → ℕ → ℕ → List ℕ
count_text cid bytes_in bytes_out = codes ">BYTECOUNT_CLI:" ++ fields (decimal cid.0 ∷ decimal bytes_in ∷ decimal bytes_out ∷ [])

-- the bytes of the client that this program is
unfoldable pub own_count_text : ℕ → ℕ → List ℕ
own_count_text bytes_in bytes_out = codes ">BYTECOUNT:" ++ fields (decimal bytes_in ∷ decimal bytes_out ∷ [])

-- so many clients of a name were ended
unfoldable pub name_killed_text : List ℕ → ℕ → List ℕ
name_killed_text name count =
    codes "SUCCESS: common name '" ++ name ++ codes "' found, " ++ decimal count ++ codes " client(s) killed"

-- no client has the name
unfoldable pub name_not_found_text : List ℕ → List ℕ
name_not_found_text name = codes "ERROR: common name '" ++ name ++ codes "' not found"

-- so many clients at an address were ended
unfoldable pub address_killed_text : Addr → ℕ → List ℕ
address_killed_text a count =
    codes "SUCCESS: " ++ decimal count ++ codes " client(s) at address " ++ addr_text a ++ codes " killed"

-- no client is at the address
unfoldable pub address_not_found_text : Addr → List ℕ
address_not_found_text a = codes "ERROR: client at address " ++ addr_text a ++ codes " not found"
