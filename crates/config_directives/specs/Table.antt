-- The table of directives: the side that each is for, whether a file must have it, whether it may
-- repeat, and which arguments it takes.
use Rattle.std.specs.Prelude.{ℕ, Bool, true, false, List, [], ◌∷◌, ◌++◌, codes, Option, Some, None, is_some, find, bytes_eq}
use Rattle.vpn_base.specs.declared.names.Role.{Role}
use Rattle.vpn_base.specs.declared.names.Role.TheVariants.{Server, Client}
use Rattle.config_directives.specs.declared.keyword.Keyword.{Keyword}
use Rattle.config_directives.specs.declared.keyword.Keyword.TheVariants as keywords
use Rattle.vpn_base.specs.WordCount.{are_none, one_of}
use Rattle.config_directives.specs.declared.numbers.NumberDirective.{NumberDirective}
use Rattle.config_directives.specs.declared.numbers.NumberDirective.TheVariants as numbers
use Rattle.config_directives.specs.Arguments.{cipher_policy, device_name, is_console, is_subnet, is_udp, keepalive_times, local_address, number_behind, push_text, remote_end, replay_window, route_network, server_network}

-- a row of the table
pub record Row : Type 0 where
  -- the first word of its line
  pub name : List ℕ
  -- the side that it is for, or None for both
  pub side : Option Role
  -- whether a file of this side must have it; `server` or `client` decides the side
  pub needed : Role → Bool
  -- whether it may stand more than once
  pub repeats : Bool
  -- whether these are its arguments
  pub takes : List (List ℕ) → Bool

-- needed on no side
abbrev pub nowhere : Role → Bool
nowhere role = false

-- needed on both
abbrev pub everywhere : Role → Bool
everywhere role = true

-- needed at a server
abbrev pub at_server : Role → Bool
at_server Server = true
at_server Client = false

-- needed at a client
abbrev pub at_client : Role → Bool
at_client Server = false
at_client Client = true

-- the row of each directive
abbrev pub row_at : Keyword → Row
row_at keywords.Server = record {
  name = codes "server";
  side = Some Server;
  needed = nowhere;
  repeats = false;
  takes = λ words. is_some (server_network words);
}
row_at keywords.Client = record {
  name = codes "client";
  side = Some Client;
  needed = nowhere;
  repeats = false;
  takes = are_none;
}
row_at keywords.Dev = record {
  name = codes "dev";
  side = None;
  needed = everywhere;
  repeats = false;
  takes = λ words. is_some (device_name words);
}
row_at keywords.Topology = record {
  name = codes "topology";
  side = None;
  needed = at_server;
  repeats = false;
  takes = is_subnet;
}
row_at keywords.Proto = record {
  name = codes "proto";
  side = None;
  needed = nowhere;
  repeats = false;
  takes = is_udp;
}
row_at keywords.Port = record {
  name = codes "port";
  side = None;
  needed = nowhere;
  repeats = false;
  takes = λ words. is_some (number_behind numbers.Port words);
}
row_at keywords.Local = record {
  name = codes "local";
  side = None;
  needed = nowhere;
  repeats = false;
  takes = λ words. is_some (local_address words);
}
row_at keywords.Remote = record {
  name = codes "remote";
  side = Some Client;
  needed = at_client;
  repeats = true;
  takes = λ words. is_some (remote_end words);
}
row_at keywords.TlsCrypt = record {
  name = codes "tls-crypt";
  side = None;
  needed = everywhere;
  repeats = false;
  takes = λ words. is_some (one_of words);
}
row_at keywords.Keepalive = record {
  name = codes "keepalive";
  side = Some Server;
  needed = nowhere;
  repeats = false;
  takes = λ words. is_some (keepalive_times words);
}
row_at keywords.ClientConfigDir = record {
  name = codes "client-config-dir";
  side = Some Server;
  needed = nowhere;
  repeats = false;
  takes = λ words. is_some (one_of words);
}
row_at keywords.CcdExclusive = record {
  name = codes "ccd-exclusive";
  side = Some Server;
  needed = nowhere;
  repeats = false;
  takes = are_none;
}
row_at keywords.ClientToClient = record {
  name = codes "client-to-client";
  side = Some Server;
  needed = nowhere;
  repeats = false;
  takes = are_none;
}
row_at keywords.DuplicateCn = record {
  name = codes "duplicate-cn";
  side = Some Server;
  needed = nowhere;
  repeats = false;
  takes = are_none;
}
row_at keywords.MaxClients = record {
  name = codes "max-clients";
  side = Some Server;
  needed = nowhere;
  repeats = false;
  takes = λ words. is_some (number_behind numbers.MaxClients words);
}
row_at keywords.Push = record {
  name = codes "push";
  side = Some Server;
  needed = nowhere;
  repeats = true;
  takes = λ words. is_some (push_text words);
}
row_at keywords.Route = record {
  name = codes "route";
  side = None;
  needed = nowhere;
  repeats = true;
  takes = λ words. is_some (route_network words);
}
row_at keywords.DataCiphers = record {
  name = codes "data-ciphers";
  side = None;
  needed = nowhere;
  repeats = false;
  takes = λ words. is_some (cipher_policy words);
}
row_at keywords.RenegSec = record {
  name = codes "reneg-sec";
  side = None;
  needed = nowhere;
  repeats = false;
  takes = λ words. is_some (number_behind numbers.RenegSec words);
}
row_at keywords.TranWindow = record {
  name = codes "tran-window";
  side = None;
  needed = nowhere;
  repeats = false;
  takes = λ words. is_some (number_behind numbers.TranWindow words);
}
row_at keywords.HandWindow = record {
  name = codes "hand-window";
  side = None;
  needed = nowhere;
  repeats = false;
  takes = λ words. is_some (number_behind numbers.HandWindow words);
}
row_at keywords.TlsTimeout = record {
  name = codes "tls-timeout";
  side = None;
  needed = nowhere;
  repeats = false;
  takes = λ words. is_some (number_behind numbers.TlsTimeout words);
}
row_at keywords.ReplayWindow = record {
  name = codes "replay-window";
  side = None;
  needed = nowhere;
  repeats = false;
  takes = λ words. is_some (replay_window words);
}
row_at keywords.Management = record {
  name = codes "management";
  side = None;
  needed = nowhere;
  repeats = false;
  takes = is_console;
}

-- the directives of the ends of the tunnel
unfoldable pub link_keywords : List Keyword
link_keywords =
    keywords.Server ∷ keywords.Client ∷ keywords.Dev ∷ keywords.Topology ∷ keywords.Proto ∷ keywords.Port ∷ keywords.Local ∷ keywords.Remote ∷ keywords.TlsCrypt ∷ []

-- the directives of a server for its clients
unfoldable pub client_keywords : List Keyword
client_keywords =
    keywords.Keepalive ∷ keywords.ClientConfigDir ∷ keywords.CcdExclusive ∷ keywords.ClientToClient ∷ keywords.DuplicateCn ∷ keywords.MaxClients ∷ keywords.Push ∷ []

-- the directives of routes, ciphers, timers and the console
unfoldable pub session_keywords : List Keyword
session_keywords =
    keywords.Route ∷ keywords.DataCiphers ∷ keywords.RenegSec ∷ keywords.TranWindow ∷ keywords.HandWindow ∷ keywords.TlsTimeout ∷ keywords.ReplayWindow ∷ keywords.Management ∷ []

-- the table: the rows of these, in this order
unfoldable pub table : List Keyword
table = link_keywords ++ client_keywords ++ session_keywords

-- the directive of a name, if there is one
unfoldable pub keyword_of : List ℕ → Option Keyword
keyword_of name = find (λ keyword. bytes_eq name (row_at keyword).name) table

-- the row of a directive of one number
abbrev pub number_row : NumberDirective → Row
number_row numbers.Port = row_at keywords.Port
number_row numbers.MaxClients = row_at keywords.MaxClients
number_row numbers.RenegSec = row_at keywords.RenegSec
number_row numbers.TranWindow = row_at keywords.TranWindow
number_row numbers.HandWindow = row_at keywords.HandWindow
number_row numbers.TlsTimeout = row_at keywords.TlsTimeout
