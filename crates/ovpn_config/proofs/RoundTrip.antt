-- The canonical text of the settings of a file is read as these settings.
use Rattle.std.proofs.Common.{◌≡◌, ℕ, ◌≤◌, not, Bool, true, false, cond, List, [], ◌∷◌, ◌++◌, length, refl, ap, sym, ◌∙◌, arith}
use Rattle.std.specs.Prelude.{Option, Some, None, Ok, is_some, bytes_eq, codes, decimal, filter_map, find, flat_map, map, option_map, option_and_then, unwrap_or}
use Rattle.std.specs.List.{cons_option}
use Rattle.std.proofs.lemmas.List.{append-nil}
use Rattle.std.proofs.lemmas.Slice.Eq.{bytes_eq-Decides}
use Rattle.vpn_base.specs.declared.address.Ip4.{Ip4}
use Rattle.vpn_base.specs.declared.address.Addr.{Addr}
use Rattle.vpn_base.specs.declared.names.Role.{Role}
use Rattle.vpn_base.specs.declared.names.Role.TheVariants.{Server, Client}
use Rattle.vpn_base.specs.declared.names.Policy.{Policy}
use Rattle.vpn_base.specs.Address.{ip4_text}
use Rattle.vpn_base.specs.Network.{Network}
use Rattle.vpn_base.specs.Lines.{lines_of}
use Rattle.config_directives.specs.declared.item.Item.{Item}
use Rattle.config_directives.specs.declared.item.Item.TheVariants.{Words}
use Rattle.config_directives.specs.declared.item.Directive.{Directive}
use Rattle.config_directives.specs.declared.keyword.Keyword.{Keyword}
use Rattle.config_directives.specs.declared.keyword.Keyword.TheVariants as keywords
use Rattle.config_directives.specs.Items.{arguments_of, first_named, items_of, name_of}
use Rattle.vpn_base.specs.WordCount.{one_of}
use Rattle.config_directives.specs.Arguments.{cipher_policy, keepalive_times, local_address, one_number, push_text, remote_end, replay_window, route_network, server_network}
use Rattle.config_directives.specs.Names.{engine_names, is_among}
use Rattle.config_directives.specs.Table.{row_at, table}
use Rattle.ovpn_config.specs.declared.settings.Settings.{Settings}
use Rattle.ovpn_config.specs.declared.settings.KeyPlace.{KeyPlace}
use Rattle.ovpn_config.specs.declared.settings.KeyPlace.TheVariants.{Named, Inline}
use Rattle.ovpn_config.specs.Spelling.{item_text, words_text}
use Rattle.ovpn_config.specs.Values.{default_policy, end_with, engine_in, place_of, port_given, push_in, route_in, settings_of, timers_given}
use Rattle.ovpn_config.specs.Reading.{is_astray, missing, settings, settings_from, settings_on, side_of_file, unless_astray, unless_missing}
use Rattle.ovpn_config.specs.Canonical.{KeepsLimits, canonical}
use Rattle.ovpn_config.specs.internal.Laws.{Laws}
use Rattle.ovpn_config.proofs.CleanText.{and_true}
use Rattle.ovpn_config.proofs.RoundNumbers.{IsRead}
use Rattle.ovpn_config.proofs.RoundTable.{are_engine, are_named, engine_gives, engine_none, filter_map-append, found_at, gathered, items_on, key_item, network_item, not_engine, numbers_item, on_named, rows_at, switch_item, there}
use Rattle.ovpn_config.proofs.RoundFacts.{AreTimes, Each, IsPush, IsServerNetwork, IsSmall, Whole}
use Rattle.ovpn_config.proofs.RoundLawful.{IsLawful, IsPlace, OnSide, lawful}
use Rattle.ovpn_config.proofs.RoundGood.{back_local, back_number, back_push, back_remote, back_route, back_server, back_times, back_window}
use Rattle.ovpn_config.proofs.RoundText.{again, again_read, again_right, again_side, again_whole}

-- what is there, is read again
there_when : {B : Type 0} (b : Bool) (item : Item) (read : List (List ℕ) → Option B) (back : B) → b ≡ true → read (arguments_of item) ≡ Some back
    → option_and_then read (option_map arguments_of (cond b (Some item) None)) ≡ Some back
there_when b item read back named is = rw (named, is) refl

pub back_there : {A B : Type 0} (name : List ℕ) (item : A → Item) (read : List (List ℕ) → Option B) (back : A → B) (value : Option A) (P : A → Type 0) → Each P value
    → ((a : A) → bytes_eq (name_of (item a)) name ≡ true) → ((a : A) → P a → read (arguments_of (item a)) ≡ Some (back a))
    → option_and_then read (option_map arguments_of (first_named name (there item value))) ≡ option_map back value
back_there name item read back None P each named reads = refl
back_there name item read back (Some a) P each named reads =
    there_when (bytes_eq (name_of (item a)) name) (item a) read (back a) (named a) (reads a each)

same_map : {A : Type 0} (o : Option A) → option_map (λ (a : A). a) o ≡ o
same_map None = refl
same_map (Some a) = refl

-- the fields, one by one
abbrev row : Role → Option (List (List ℕ)) → Settings → Keyword → Option Item
row side words s k = first_named (row_at k).name (items_on side words s k)

found_again : (side : Role) (words : Option (List (List ℕ))) (passed : List Item) (s : Settings) → are_engine passed ≡ true → (k : Keyword)
    → first_named (row_at k).name (again side words passed s) ≡ row side words s k
found_again side words passed s engine k = found_at (items_on side words s) passed k (on_named side words s) (engine_none k passed engine)

number_back : Laws → (low high otherwise n : ℕ) → low ≤ n → n ≤ high → high ≤ 1000000
    → unwrap_or (option_and_then (one_number low high) (Some (decimal n ∷ []))) otherwise ≡ n
number_back laws low high otherwise n above below small =
    ap (λ (o : Option ℕ). unwrap_or o otherwise) (back_number laws low high n above below (omega arith))

-- the server's network
net_back : Laws → (side : Role) (words : Option (List (List ℕ))) (s : Settings) → Each IsServerNetwork s.net → OnSide side s
    → option_and_then server_network (option_map arguments_of (row side words s keywords.Server)) ≡ s.net
net_back laws Server words s each on =
    back_there (codes "server") (λ (n : Network). network_item (codes "server") n) server_network (λ n. n) s.net IsServerNetwork each (λ n. refl) (λ n e. back_server laws n e)
    ∙ same_map s.net
net_back laws Client words s each on = sym on.1

keepalive_back : Laws → (side : Role) (words : Option (List (List ℕ))) (s : Settings) → Each AreTimes s.keepalive → OnSide side s
    → option_and_then keepalive_times (option_map arguments_of (row side words s keywords.Keepalive)) ≡ s.keepalive
keepalive_back laws Server words s each on =
    back_there (codes "keepalive") (λ (t : ℕ × ℕ). numbers_item (codes "keepalive") t) keepalive_times (λ t. t) s.keepalive AreTimes each (λ n. refl) (λ t e. back_times laws t e)
    ∙ same_map s.keepalive
keepalive_back laws Client words s each on = sym on.2

folder_there : (value : Option (List ℕ)) → option_and_then one_of (option_map arguments_of (first_named (codes "client-config-dir")
    (there (λ t. Words (codes "client-config-dir" ∷ t ∷ [])) value))) ≡ value
folder_there None = refl
folder_there (Some t) = refl

folder_back : (side : Role) (words : Option (List (List ℕ))) (s : Settings) → OnSide side s
    → option_and_then one_of (option_map arguments_of (row side words s keywords.ClientConfigDir)) ≡ s.ccd
folder_back Server words s on = folder_there s.ccd
folder_back Client words s on = sym on.3

switch_there : (name : List ℕ) (on : Bool) → bytes_eq name name ≡ true → is_some (first_named name (switch_item name on)) ≡ on
switch_there name true same = ap (λ (b : Bool). is_some (cond b (Some (Words (name ∷ []))) None)) same
switch_there name false same = refl

exclusive_back : (side : Role) (words : Option (List (List ℕ))) (s : Settings) → OnSide side s → is_some (row side words s keywords.CcdExclusive) ≡ s.exclusive
exclusive_back Server words s on = switch_there (codes "ccd-exclusive") s.exclusive refl
exclusive_back Client words s on = sym on.4

between_back : (side : Role) (words : Option (List (List ℕ))) (s : Settings) → OnSide side s → is_some (row side words s keywords.ClientToClient) ≡ s.between
between_back Server words s on = switch_there (codes "client-to-client") s.between refl
between_back Client words s on = sym on.5

duplicate_back : (side : Role) (words : Option (List (List ℕ))) (s : Settings) → OnSide side s → is_some (row side words s keywords.DuplicateCn) ≡ s.duplicate
duplicate_back Server words s on = switch_there (codes "duplicate-cn") s.duplicate refl
duplicate_back Client words s on = sym on.6

clients_back : Laws → (side : Role) (words : Option (List (List ℕ))) (s : Settings) → (1 ≤ s.max_clients) × (s.max_clients ≤ 4096) → OnSide side s
    → unwrap_or (option_and_then (one_number 1 4096) (option_map arguments_of (row side words s keywords.MaxClients))) 1024 ≡ s.max_clients
clients_back laws Server words s within on = number_back laws 1 4096 1024 s.max_clients within.0 within.1 (omega arith)
clients_back laws Client words s within on = sym on.7

place_of_end : (port : ℕ) (value : Option Addr)
    → option_map (end_with port) (option_map (λ (a : Addr). (a.ip, Some a.port)) value) ≡ value
place_of_end port None = refl
place_of_end port (Some a) = refl

remote_back : Laws → (side : Role) (words : Option (List (List ℕ))) (s : Settings) (port : ℕ) → Each IsPlace s.remote → OnSide side s
    → option_map (end_with port) (option_and_then remote_end (option_map arguments_of (row side words s keywords.Remote))) ≡ s.remote
remote_back laws Server words s port each on = sym on.1
remote_back laws Client words s port each on =
    ap (option_map (end_with port)) (back_there (codes "remote") (λ (a : Addr). Words (codes "remote" ∷ ip4_text a.ip ∷ decimal a.port ∷ [])) remote_end
    (λ (a : Addr). (a.ip, Some a.port)) s.remote IsPlace each (λ n. refl) (λ a e. back_remote laws a.ip a.port e.0 e.1))
    ∙ place_of_end port s.remote

local_back : Laws → (value : Option Ip4) → Each IsSmall value
    → option_and_then local_address (option_map arguments_of (first_named (codes "local") (there (λ (a : Ip4). Words (codes "local" ∷ ip4_text a ∷ [])) value))) ≡ value
local_back laws value each =
    back_there (codes "local") (λ (a : Ip4). Words (codes "local" ∷ ip4_text a ∷ [])) local_address (λ a. a) value IsSmall each (λ n. refl) (λ a e. back_local laws a e)
    ∙ same_map value

key_back : (key : KeyPlace) → unwrap_or (option_map place_of (first_named (codes "tls-crypt") (key_item key ∷ []))) (Named []) ≡ key
key_back (Named name) = refl
key_back (Inline bytes) = refl

console_back : (words : Option (List (List ℕ)))
    → option_map words_text (option_map arguments_of (first_named (codes "management") (there (λ w. Words (codes "management" ∷ w)) words))) ≡ option_map words_text words
console_back None = refl
console_back (Some words) = refl

-- lists
push_only : (i : Item) → bytes_eq (name_of i) (codes "push") ≡ false → push_in i ≡ None
push_only i other = ap (λ (b : Bool). cond b (push_text (arguments_of i)) None) other

route_only : (i : Item) → bytes_eq (name_of i) (codes "route") ≡ false → route_in i ≡ None
route_only i other = ap (λ (b : Bool). cond b (route_network (arguments_of i)) None) other

pushes_there : (pushes : List (List ℕ)) → Whole IsPush pushes → filter_map push_in (map (λ t. Words (codes "push" ∷ t ∷ [])) pushes) ≡ pushes
pushes_there [] whole = refl
pushes_there (t ∷ pushes) whole =
    ap (λ (o : Option (List ℕ)). cons_option o (filter_map push_in (map (λ u. Words (codes "push" ∷ u ∷ [])) pushes))) (back_push t whole.0)
    ∙ ap (λ (l : List (List ℕ)). t ∷ l) (pushes_there pushes whole.1)

routes_there : Laws → (routes : List Network) → Whole IsRead routes → filter_map route_in (map (λ n. network_item (codes "route") n) routes) ≡ routes
routes_there laws [] whole = refl
routes_there laws (n ∷ routes) whole =
    ap (λ (o : Option Network). cons_option o (filter_map route_in (map (λ m. network_item (codes "route") m) routes))) (back_route laws n whole.0)
    ∙ ap (λ (l : List Network). n ∷ l) (routes_there laws routes whole.1)

pushes_on : (side : Role) (words : Option (List (List ℕ))) (s : Settings) → Whole IsPush s.pushes → OnSide side s
    → filter_map push_in (items_on side words s keywords.Push) ≡ s.pushes
pushes_on Server words s whole on = pushes_there s.pushes whole
pushes_on Client words s whole on = sym on.8

of_row : {A : Type 0} (f : Item → Option A) (items : Keyword → List Item) (k : Keyword) (more : List Item) → ((i : Item) → bytes_eq (name_of i) (row_at k).name ≡ false → f i ≡ None)
    → ((j : Keyword) → are_named (row_at j).name (items j) ≡ true) → are_engine more ≡ true
    → filter_map f (flat_map items table ++ more) ≡ filter_map f (items k)
of_row {A} f items k more only named engine =
    gathered f items table (row_at k).name more only named
    ∙ ap (λ (rows : List Keyword). filter_map f (flat_map items rows) ++ filter_map f more) (rows_at k)
    ∙ ap (λ (l : List A). filter_map f (items k ++ []) ++ l) (engine_gives f k more only engine)
    ∙ append-nil (filter_map f (items k ++ []))
    ∙ ap (filter_map f) (append-nil (items k))

-- what is for the TLS engine
engine_none_of : (items : List Item) (name : List ℕ) → are_named name items ≡ true → is_among engine_names name ≡ false → filter_map engine_in items ≡ []
engine_none_of [] name named not = refl
engine_none_of (item ∷ items) name named not =
    let parts = and_true (bytes_eq (name_of item) name) (are_named name items) named in
    let same : name_of item ≡ name = (bytes_eq-Decides (name_of item) name).0 parts.0 in
    ap (λ (b : Bool). cons_option (cond b (Some (item_text item)) None) (filter_map engine_in items)) (ap (is_among engine_names) same ∙ not)
    ∙ engine_none_of items name parts.1 not

engine_of_rows : (items : Keyword → List Item) (rows : List Keyword) → ((j : Keyword) → are_named (row_at j).name (items j) ≡ true) → filter_map engine_in (flat_map items rows) ≡ []
engine_of_rows items [] named = refl
engine_of_rows items (k ∷ rows) named =
    filter_map-append engine_in (items k) (flat_map items rows)
    ∙ ap (λ (l : List (List ℕ)). l ++ filter_map engine_in (flat_map items rows)) (engine_none_of (items k) (row_at k).name (named k) (not_engine k))
    ∙ engine_of_rows items rows named

engine_all : (items : List Item) → are_engine items ≡ true → filter_map engine_in items ≡ map item_text items
engine_all [] engine = refl
engine_all (item ∷ items) engine =
    let parts = and_true (is_among engine_names (name_of item)) (are_engine items) engine in
    ap (λ (b : Bool). cons_option (cond b (Some (item_text item)) None) (filter_map engine_in items)) parts.0
    ∙ ap (λ (l : List (List ℕ)). item_text item ∷ l) (engine_all items parts.1)

engine_back : (items : Keyword → List Item) (more : List Item) → ((j : Keyword) → are_named (row_at j).name (items j) ≡ true) → are_engine more ≡ true
    → filter_map engine_in (flat_map items table ++ more) ≡ map item_text more
engine_back items more named engine =
    filter_map-append engine_in (flat_map items table) more
    ∙ ap (λ (l : List (List ℕ)). l ++ filter_map engine_in more) (engine_of_rows items table named)
    ∙ engine_all more engine

-- the timers
timers_back : Laws → (side : Role) (words : Option (List (List ℕ))) (passed : List Item) (s : Settings) → IsLawful side words passed s
    → timers_given (again side words passed s) ≡ s.timers
unfolding timers_given
timers_back laws side words passed s is =
    let at = found_again side words passed s is.engine_named in
    let number : (low high otherwise : ℕ) → Option Item → ℕ = λ low high otherwise o. unwrap_or (option_and_then (one_number low high) (option_map arguments_of o)) otherwise in
    let window = ap (λ (o : Option Item). unwrap_or (option_and_then replay_window (option_map arguments_of o)) (64, 15)) (at keywords.ReplayWindow)
    ∙ ap (λ (o : Option (ℕ × ℕ)). unwrap_or o (64, 15)) (back_window laws (s.timers.win, s.timers.win_secs) is.window) in
    let reneg = ap (number 0 1000000 3600) (at keywords.RenegSec) ∙ number_back laws 0 1000000 3600 s.timers.reneg (omega arith) is.reneg (omega arith) in
    let tran = ap (number 1 1000000 3600) (at keywords.TranWindow) ∙ number_back laws 1 1000000 3600 s.timers.tran is.tran.0 is.tran.1 (omega arith) in
    let hand = ap (number 1 1000000 60) (at keywords.HandWindow) ∙ number_back laws 1 1000000 60 s.timers.hand is.hand.0 is.hand.1 (omega arith) in
    let timeout = ap (number 1 60 2) (at keywords.TlsTimeout) ∙ number_back laws 1 60 2 s.timers.timeout is.timeout.0 is.timeout.1 (omega arith) in
    λ i. record {
      reneg = reneg i;
      tran = tran i;
      hand = hand i;
      timeout = timeout i;
      win = (window i).0;
      win_secs = (window i).1;
    }

-- all of them
settings_back : Laws → (side : Role) (words : Option (List (List ℕ))) (passed : List Item) (s : Settings) → IsLawful side words passed s
    → settings_of side (again side words passed s) ≡ s
unfolding settings_of
settings_back laws side words passed s is =
    let at = found_again side words passed s is.engine_named in
    let items = items_on side words s in
    let named = on_named side words s in
    let args : Option Item → Option (List (List ℕ)) = λ o. option_map arguments_of o in
    let dev = ap (λ (o : Option Item). unwrap_or (option_and_then one_of (args o)) []) (at keywords.Dev) in
    let listens = ap (λ (o : Option Item). option_and_then local_address (args o)) (at keywords.Local) ∙ local_back laws s.local is.listens in
    let port = ap (λ (o : Option Item). unwrap_or (option_and_then (one_number 1 65535) (args o)) 1194) (at keywords.Port)
    ∙ number_back laws 1 65535 1194 s.port is.port.0 is.port.1 (omega arith) in
    let remote = ap (λ (o : Option Item). option_map (end_with (port_given (again side words passed s))) (option_and_then remote_end (args o))) (at keywords.Remote)
    ∙ remote_back laws side words s (port_given (again side words passed s)) is.remote is.on_side in
    let net = ap (λ (o : Option Item). option_and_then server_network (args o)) (at keywords.Server) ∙ net_back laws side words s is.net is.on_side in
    let keepalive = ap (λ (o : Option Item). option_and_then keepalive_times (args o)) (at keywords.Keepalive) ∙ keepalive_back laws side words s is.keepalive is.on_side in
    let ccd = ap (λ (o : Option Item). option_and_then one_of (args o)) (at keywords.ClientConfigDir) ∙ folder_back side words s is.on_side in
    let exclusive = ap (λ (o : Option Item). is_some o) (at keywords.CcdExclusive) ∙ exclusive_back side words s is.on_side in
    let between = ap (λ (o : Option Item). is_some o) (at keywords.ClientToClient) ∙ between_back side words s is.on_side in
    let duplicate = ap (λ (o : Option Item). is_some o) (at keywords.DuplicateCn) ∙ duplicate_back side words s is.on_side in
    let max_clients = ap (λ (o : Option Item). unwrap_or (option_and_then (one_number 1 4096) (args o)) 1024) (at keywords.MaxClients)
    ∙ clients_back laws side words s is.max_clients is.on_side in
    let pushes = of_row push_in items keywords.Push passed push_only named is.engine_named ∙ pushes_on side words s is.pushes is.on_side in
    let routes = of_row route_in items keywords.Route passed route_only named is.engine_named ∙ routes_there laws s.routes is.routes in
    let ciphers = ap (λ (o : Option Item). unwrap_or (option_and_then cipher_policy (args o)) default_policy) (at keywords.DataCiphers)
    ∙ ap (λ (o : Option Policy). unwrap_or o default_policy) is.ciphers in
    let timers = timers_back laws side words passed s is in
    let key = ap (λ (o : Option Item). unwrap_or (option_map place_of o) (Named [])) (at keywords.TlsCrypt) ∙ key_back s.key in
    let console = ap (λ (o : Option Item). option_map words_text (args o)) (at keywords.Management) ∙ console_back words ∙ sym is.console in
    let engine = engine_back items passed named is.engine_named ∙ sym is.engine in
    let role = sym is.role in
    λ i. record {
      role = role i;
      dev = dev i;
      local = listens i;
      port = port i;
      remote = remote i;
      net = net i;
      keepalive = keepalive i;
      ccd = ccd i;
      exclusive = exclusive i;
      between = between i;
      duplicate = duplicate i;
      max_clients = max_clients i;
      pushes = pushes i;
      routes = routes i;
      ciphers = ciphers i;
      timers = timers i;
      key = key i;
      console = console i;
      engine = engine i;
    }

-- together
reads_when : (last : ℕ) (side : Role) (items : List Item) (all : List Directive) (s : Settings) → items_of all ≡ items → side_of_file items ≡ Some side
    → find (is_astray side) all ≡ None → missing side items ≡ None → settings_of side items ≡ s
    → settings_on last (side_of_file (items_of all)) all ≡ Ok s
unfolding settings_on
reads_when last side items all s same decided right whole back =
    ap (λ (r : Option Role). settings_on last r all) (ap side_of_file same ∙ decided)
    ∙ ap (λ (d : Option Directive). unless_astray d (unless_missing last (missing side (items_of all)) (settings_of side (items_of all)))) right
    ∙ ap (λ (k : Option Keyword). unless_missing last k (settings_of side (items_of all))) (ap (missing side) same ∙ whole)
    ∙ ap (λ (t : Settings). Ok t) (ap (settings_of side) same ∙ back)

pub round_trip : Laws → (text : List ℕ) (s : Settings) → settings text ≡ Ok s → KeepsLimits (canonical s) → settings (canonical s) ≡ Ok s
unfolding settings
round_trip laws text s read keeps =
    let l = lawful laws text s read in
    let is = l.is in
    let items = again l.side l.words l.passed s in
    let got = again_read laws l.side l.words l.passed s is keeps in
    ap (settings_from (length (lines_of (canonical s)))) got.1
    ∙ reads_when (length (lines_of (canonical s))) l.side items got.0 s got.2 (again_side l.side l.words l.passed s is.on_side)
    (again_right l.side l.words l.passed s got.0 is.engine_named got.2) (again_whole l.side l.words l.passed s is.on_side is.engine_named)
    (settings_back laws l.side l.words l.passed s is)
