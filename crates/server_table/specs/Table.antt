-- What a server knows: everything that its clients ever said, as plain lists and numbers.
use Rattle.std.specs.Prelude.{ℕ, Bool, false, List, [], Option, None}
use Rattle.vpn_base.specs.declared.address.Addr.{Addr}
use Rattle.vpn_base.specs.declared.address.Ip4.{Ip4}
use Rattle.vpn_base.specs.declared.names.Place.{Place}
use Rattle.ccd_files.specs.declared.client_file.Ccd.{Ccd}
use Rattle.ovpn_config.specs.declared.settings.Settings.{Settings}
use Rattle.peer_table.specs.Peer.{Peer}
use Rattle.route_table.specs.Learned as routes

-- what is known of a client's file: it was not looked for, the file of this name was asked for, this is what it says
pub data FileState : Type 0 where
  Unasked : FileState
  Awaited : List ℕ → FileState
  Known : Ccd → FileState

-- an established client: its address in the tunnel, and the moment at which it was established
pub record Established : Type 0 where
  pub address : Ip4
  pub since : ℕ

-- One client: whether it is here still, the peer id by which its data packets name it, the address that its datagrams come from,
-- its session, its file, its address in the tunnel once it is established, the moment of its last fresh packet or else of its admission,
-- the moment of the last packet that was sealed to it or else of its establishing or admission, and how many bytes its data packets had, those that
-- opened fresh and those that were sealed to it. A client that has ended stays as it was then, with its sessions closed.
pub record Client : Type 0 where
  pub is_here : Bool
  pub peer_id : ℕ
  pub address : Addr
  pub session : Peer
  pub file : FileState
  pub established : Option Established
  pub heard : ℕ
  pub sealed_at : ℕ
  pub bytes_in : ℕ
  pub bytes_out : ℕ

-- The server: its settings, the 256 bytes of its static key, every client that was ever admitted, which stands at the place of its
-- number, the rows of its route table with the hosts that it learned, the packets that wait for the device, the oldest first, its
-- moment in milliseconds, how many engine connections were opened, how many bytes all data packets had that opened fresh and that
-- were sealed, the interval of the byte counts in seconds (0 is never) and the moment from which it runs, whether it was stopped,
-- how many events it took, and the key session to which the datagram of the last event went, if there was one.
pub record Table : Type 0 where
  pub settings : Settings
  pub key : List ℕ
  pub clients : List Client
  pub routes : routes.Table
  pub queue : List (List ℕ)
  pub moment : ℕ
  pub connections : ℕ
  pub bytes_in : ℕ
  pub bytes_out : ℕ
  pub count_interval : ℕ
  pub counted_at : ℕ
  pub is_stopped : Bool
  pub events : ℕ
  pub last_taken : Option Place

-- a server to which nothing has come
abbrev pub table_begun : Settings → List ℕ → Table
table_begun settings key = record {
  settings = settings;
  key = key;
  clients = [];
  routes = record { rows = []; learned = [] };
  queue = [];
  moment = 0;
  connections = 0;
  bytes_in = 0;
  bytes_out = 0;
  count_interval = 0;
  counted_at = 0;
  is_stopped = false;
  events = 0;
  last_taken = None;
}
