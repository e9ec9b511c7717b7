-- A client is established: it gets its address and its networks, and is told what the server pushes.
use Rattle.std.specs.Prelude.{ℕ, ◌+◌, ◌-◌, ◌^◌, Bool, true, false, List, [], ◌∷◌, ◌++◌, map, codes, Option, Some, None, unwrap_or}
use Rattle.std.specs.Fmt.{decimal}
use Rattle.vpn_base.specs.Address.{ip4_text}
use Rattle.vpn_base.specs.declared.address.Ip4.{Ip4}
use Rattle.vpn_base.specs.declared.names.Cause.TheVariants.{PoolEmpty, Replaced}
use Rattle.vpn_base.specs.declared.names.Cipher.{Cipher}
use Rattle.vpn_base.specs.declared.names.Cipher.TheVariants.{Aes256Gcm}
use Rattle.vpn_base.specs.declared.names.Conn.{Conn}
use Rattle.vpn_base.specs.Network.{Network}
use Rattle.vpn_links.specs.Actions.{Action, EngineWrite, Say}
use Rattle.address_pool.specs.LeastFree.{least_free}
use Rattle.ccd_files.specs.declared.client_file.Ccd.{Ccd}
use Rattle.ccd_files.specs.ClientFile.{no_ccd}
use Rattle.ovpn_config.specs.declared.settings.Settings.{Settings}
use Rattle.push_options.specs.Options.{Plan, options_of}
use Rattle.push_options.specs.Parts.{reply_parts}
use Rattle.peer_table.specs.Exchange.{cipher_of}
use Rattle.route_table.specs.Learned.{rows_of, with_rows}
use Rattle.server_table.specs.Table.{Awaited, Client, Established, FileState, Known, Table, Unasked}
use Rattle.server_table.specs.Lookups.{cid, client_here, established_named, taken_addresses}
use Rattle.server_table.specs.Courses.{Course, with_client}
use Rattle.server_table.specs.Endings.{ended}

-- ---- the server's network

-- the network of the server, which each server has
abbrev pub network : Settings → Network
network s = unwrap_or s.net (record { net = record { 0 = 0 }; len = 32 })

-- the server's own address: the first behind that of the network
abbrev pub gateway : Settings → Ip4
gateway s = record { 0 = (network s).net.0 + 1 }

-- the first address for clients: the second behind that of the network
abbrev pub first_address : Settings → Ip4
first_address s = record { 0 = (network s).net.0 + 2 }

-- the last address for clients: the one before the broadcast address
abbrev pub last_address : Settings → Ip4
last_address s = record { 0 = (network s).net.0 + 2 ^ (32 - (network s).len) - 2 }

-- ---- a client's address

-- an address in the tunnel, and how many bits its network shares
abbrev pub Leased : Type 0
Leased = Ip4 × ℕ

-- the least free address, with the length of the server's network
abbrev pub leased : Settings → Option Ip4 → Option Leased
leased s None = None
leased s (Some a) = Some (a, (network s).len)

-- the address of the client's file, or else the least free one
abbrev pub address_by : Table → Option Leased → Option Leased
address_by t (Some own) = Some own
address_by t None =
    leased t.settings (least_free (first_address t.settings) (last_address t.settings) (taken_addresses t))

-- what a client's file says, where it is known
abbrev pub ccd_in : FileState → Ccd
ccd_in (Known ccd) = ccd
ccd_in (Awaited name) = no_ccd
ccd_in Unasked = no_ccd

-- ---- the push reply

-- the cipher of a client's keys
abbrev pub client_cipher : Client → Cipher
client_cipher x = unwrap_or (cipher_of x.session) Aes256Gcm

-- what is pushed to a client with this address
abbrev pub plan_of : Settings → Client → Leased → Plan
plan_of s x a = record {
  pushes = s.pushes;
  reset = (ccd_in x.file).reset;
  gateway = gateway s;
  keepalive = s.keepalive;
  own = (ccd_in x.file).pushes;
  address = a.0;
  len = a.1;
  peer = x.peer_id;
  cipher = client_cipher x;
}

-- each part is written on the connection, ended by a NUL
abbrev pub written : Conn → List (List ℕ) → List Action
written conn parts = map (λ part. EngineWrite conn (part ++ 0 ∷ [])) parts

-- the reply to a client with this address, on this connection
unfoldable pub reply : Settings → Client → Leased → Conn → List Action
reply s x a conn = written conn (reply_parts (options_of (plan_of s x a)))

-- the address of an established client, with its length: that of its file, or of the server's network
abbrev pub leased_to : Settings → Option Leased → Established → Leased
leased_to s (Some own) e = own
leased_to s None e = (e.address, (network s).len)

-- ---- its rows

-- a client's address as a network of its own
abbrev pub host_route : Ip4 → Network
host_route a = record { net = a; len = 32 }

-- the networks that a client owns: its address, then those of its file
abbrev pub networks_of : Client → Ip4 → List Network
networks_of x a = host_route a ∷ (ccd_in x.file).iroutes

-- ---- what a manager is told

-- a client is established
abbrev pub established_line : ℕ → Action
established_line n = Say (codes ">CLIENT:ESTABLISHED," ++ decimal n)

-- it has this address
abbrev pub address_line : ℕ → Ip4 → Action
address_line n a = Say (codes ">CLIENT:ADDRESS," ++ decimal n ++ codes "," ++ ip4_text a ++ codes ",1")

-- it has this network behind it
abbrev pub network_line : ℕ → Network → Action
network_line n net =
    Say (codes ">CLIENT:ADDRESS," ++ decimal n ++ codes "," ++ ip4_text net.net ++ codes "/" ++ decimal net.len ++ codes ",0")

-- all of this in order
abbrev pub establishing_lines : ℕ → Client → Ip4 → List Action
establishing_lines n x a = established_line n ∷ address_line n a ∷ map (network_line n) (ccd_in x.file).iroutes

-- ---- in order

-- a client with this address in the tunnel
abbrev pub with_address : Ip4 → ℕ → Client → Client
with_address a now x = record x { established = Some (record { address = a; since = now }); sealed_at = now }

-- it has an address: its rows are added, the reply is written, a manager is told
abbrev pub established_at : ℕ → Conn → Client → Course → Leased → Course
established_at n conn x c a = record c {
  table = record (with_client n (with_address a.0 c.table.moment) c.table) { routes = with_rows (rows_of (cid n) (networks_of x a.0)) c.table.routes };
  effects = c.effects ++ (reply c.table.settings x a conn ++ establishing_lines n x a.0);
}

-- with an address the client is established, with none it ends
abbrev pub established_with : ℕ → Conn → Client → Course → Option Leased → Course
established_with n conn x c (Some a) = established_at n conn x c a
established_with n conn x c None = ended n PoolEmpty c

-- the same for the client as it is now
abbrev pub established_for : ℕ → Conn → Course → Option Client → Course
established_for n conn c None = c
established_for n conn c (Some x) = established_with n conn x c (address_by c.table (ccd_in x.file).address)

-- the client of this number gets its address
abbrev pub established_now : ℕ → Conn → Course → Course
established_now n conn c = established_for n conn c (client_here c.table n)

-- an established client of the same name is replaced
abbrev pub replaced : ℕ → Course → Option ℕ → Course
replaced n c None = c
replaced n c (Some m) = ended m (Replaced (cid n)) c

-- nobody is replaced where several clients may have one name
abbrev pub replaced_unless : ℕ → List ℕ → Course → Bool → Course
replaced_unless n name c true = c
replaced_unless n name c false = replaced n c (established_named c.table name)

-- the name of a client, which is known before it is established
abbrev pub name_in : Client → List ℕ
name_in x = unwrap_or x.session.name []

-- the client of this number is established, and its reply is written on this connection
abbrev pub establishing : ℕ → Conn → Course → Option Client → Course
establishing n conn c None = c
establishing n conn c (Some x) = established_now n conn (replaced_unless n (name_in x) c c.table.settings.duplicate)

-- the client of this number is established, if it is here
unfoldable pub client_established : ℕ → Conn → Course → Course
client_established n conn c = establishing n conn c (client_here c.table n)
