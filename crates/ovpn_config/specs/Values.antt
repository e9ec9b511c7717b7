-- What the directives of a file set.
use Rattle.std.specs.Prelude.{ℕ, List, [], codes, Option, Some, None, option_map, option_and_then, unwrap_or, filter_map, if◌then◌else◌}
use Rattle.vpn_base.specs.declared.address.Ip4.{Ip4}
use Rattle.vpn_base.specs.declared.address.Addr.{Addr}
use Rattle.vpn_base.specs.declared.names.Role.{Role}
use Rattle.vpn_base.specs.declared.names.Cipher.TheVariants.{Aes128Gcm, Aes256Gcm}
use Rattle.vpn_base.specs.declared.names.Policy.{Policy}
use Rattle.vpn_base.specs.declared.names.Policy.TheVariants.{Choose}
use Rattle.vpn_base.specs.declared.names.Timers.{Timers}
use Rattle.vpn_base.specs.Network.{Network}
use Rattle.config_directives.specs.declared.item.Item.{Item}
use Rattle.config_directives.specs.declared.item.Item.TheVariants.{Words, Block}
use Rattle.config_directives.specs.Items.{arguments_of, is_named, name_of, first_named, given, is_given}
use Rattle.config_directives.specs.Names.{engine_names, is_among}
use Rattle.vpn_base.specs.WordCount.{one_of}
use Rattle.config_directives.specs.declared.numbers.NumberDirective.{NumberDirective}
use Rattle.config_directives.specs.declared.numbers.NumberDirective.TheVariants as numbers
use Rattle.config_directives.specs.Numbers.{range_of}
use Rattle.config_directives.specs.Table.{number_row}
use Rattle.config_directives.specs.Arguments.{cipher_policy, default_window, keepalive_times, local_address, number_behind, push_text, remote_end, replay_window, route_network, server_network}
use Rattle.ovpn_config.specs.declared.settings.Settings.{Settings}
use Rattle.ovpn_config.specs.declared.settings.KeyPlace.{KeyPlace}
use Rattle.ovpn_config.specs.declared.settings.KeyPlace.TheVariants.{Named, Inline}
use Rattle.ovpn_config.specs.Spelling.{item_text, words_text}

-- the one argument of the directive of this name; empty where there is none
abbrev pub word_given : List ℕ → List Item → List ℕ
word_given name items = unwrap_or (option_and_then one_of (given name items)) []

-- the number of the first such directive, or the one that counts where there is none
abbrev pub number_given : NumberDirective → List Item → ℕ
number_given number items =
    unwrap_or (option_and_then (number_behind number) (given (number_row number).name items)) (range_of number).otherwise

-- `port`
abbrev pub port_given : List Item → ℕ
port_given items = number_given numbers.Port items

-- the server's address, whose port is that of `port` where none stands beside it
abbrev pub end_with : ℕ → Ip4 × Option ℕ → Addr
end_with port there = record { ip = there.0; port = unwrap_or there.1 port }

-- the first `remote`
abbrev pub remote_given : List Item → Option Addr
remote_given items = option_map (end_with (port_given items)) (option_and_then remote_end (given (codes "remote") items))

-- the text of a `push`, and of no other directive
abbrev pub push_in : Item → Option (List ℕ)
push_in item = if is_named (codes "push") item then push_text (arguments_of item) else None

-- the network of a `route`, and of no other directive
abbrev pub route_in : Item → Option Network
route_in item = if is_named (codes "route") item then route_network (arguments_of item) else None

-- both ciphers
abbrev pub default_policy : Policy
default_policy = Choose Aes256Gcm (Some Aes128Gcm)

-- what is passed to the TLS engine of a directive, if it is for the engine
abbrev pub engine_in : Item → Option (List ℕ)
engine_in item = if is_among engine_names (name_of item) then Some (item_text item) else None

-- `tls-crypt FILE`, or the block
abbrev pub place_of : Item → KeyPlace
place_of (Words words) = Named (unwrap_or (one_of (arguments_of (Words words))) [])
place_of (Block name bytes) = Inline (unwrap_or bytes [])

-- the place of the static key; without a `tls-crypt` a file of no name
abbrev pub key_given : List Item → KeyPlace
key_given items = unwrap_or (option_map place_of (first_named (codes "tls-crypt") items)) (Named [])

-- `reneg-sec`, `tran-window`, `hand-window`, `tls-timeout` and `replay-window`
abbrev pub window_given : List Item → ℕ × ℕ
window_given items = unwrap_or (option_and_then replay_window (given (codes "replay-window") items)) default_window

-- the timers of a file
unfoldable pub timers_given : List Item → Timers
timers_given items = record {
  reneg = number_given numbers.RenegSec items;
  tran = number_given numbers.TranWindow items;
  hand = number_given numbers.HandWindow items;
  timeout = number_given numbers.TlsTimeout items;
  win = (window_given items).0;
  win_secs = (window_given items).1;
}

-- what the directives of a file set, each field by the directive of its name
unfoldable pub settings_of : Role → List Item → Settings
settings_of role items = record {
  role = role;
  dev = word_given (codes "dev") items;
  local = option_and_then local_address (given (codes "local") items);
  port = port_given items;
  remote = remote_given items;
  net = option_and_then server_network (given (codes "server") items);
  keepalive = option_and_then keepalive_times (given (codes "keepalive") items);
  ccd = option_and_then one_of (given (codes "client-config-dir") items);
  exclusive = is_given (codes "ccd-exclusive") items;
  between = is_given (codes "client-to-client") items;
  duplicate = is_given (codes "duplicate-cn") items;
  max_clients = number_given numbers.MaxClients items;
  pushes = filter_map push_in items;
  routes = filter_map route_in items;
  ciphers = unwrap_or (option_and_then cipher_policy (given (codes "data-ciphers") items)) default_policy;
  timers = timers_given items;
  key = key_given items;
  console = option_map words_text (given (codes "management") items);
  engine = filter_map engine_in items;
}
