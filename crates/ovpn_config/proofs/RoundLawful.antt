-- What holds of the settings that a file gives.
use Rattle.std.proofs.Common.{◌≡◌, ℕ, zero, suc, ◌^◌, ◌<◌, ◌≤◌, ◌&&◌, not, Bool, true, false, cond, List, [], ◌∷◌, refl, ap, sym, subst, ◌∙◌, arith}
use Rattle.std.specs.Prelude.{Option, Some, None, Result, Ok, Err, is_some, codes, find, filter_map, map, slice_get, length, option_map, option_and_then, unwrap_or}
use Rattle.std.specs.List.{list_all, cons_option}
use Rattle.vpn_base.specs.declared.address.Ip4.{Ip4}
use Rattle.vpn_base.specs.declared.address.Addr.{Addr}
use Rattle.vpn_base.specs.declared.names.Role.{Role}
use Rattle.vpn_base.specs.declared.names.Role.TheVariants.{Server, Client}
use Rattle.vpn_base.specs.Lines.{lines_of}
use Rattle.vpn_text.specs.declared.config.ConfigFault.{ConfigFault}
use Rattle.config_directives.specs.declared.item.Item.{Item}
use Rattle.config_directives.specs.declared.item.Directive.{Directive}
use Rattle.config_directives.specs.declared.keyword.Keyword.{Keyword}
use Rattle.config_directives.specs.declared.keyword.Keyword.TheVariants as keywords
use Rattle.config_directives.specs.Items.{arguments_of, first_named, given, is_given, is_named, items_of}
use Rattle.vpn_base.specs.WordCount.{one_of}
use Rattle.config_directives.specs.Arguments.{keepalive_times, one_number, push_text, remote_end, server_network}
use Rattle.config_directives.specs.Names.{block_names}
use Rattle.config_directives.specs.Table.{client_keywords, link_keywords, row_at, session_keywords, table}
use Rattle.ovpn_config.specs.declared.settings.Settings.{Settings}
use Rattle.ovpn_config.specs.declared.settings.KeyPlace.TheVariants.{Named}
use Rattle.ovpn_config.specs.Spelling.{item_text, words_text}
use Rattle.ovpn_config.specs.Values.{end_with, place_of, port_given, push_in, settings_of, timers_given}
use Rattle.ovpn_config.specs.Reading.{directives_in, is_astray, is_for_other, missing, settings, settings_from, settings_on, side_of_file, unless_astray, unless_missing}
use Rattle.ovpn_config.specs.internal.Laws.{Laws}
use Rattle.ovpn_config.proofs.CleanText.{and_true, both_true}
use Rattle.ovpn_config.proofs.RoundNumbers.{IsRead}
use Rattle.ovpn_config.proofs.RoundSound.{AllSound, sound_all}
use Rattle.ovpn_config.proofs.RoundTable.{AreGood, are_engine}
use Rattle.ovpn_config.proofs.RoundFacts.{AreTimes, Each, Holds, IsClean, IsDevice, IsEnd, IsKey, IsPolicy, IsPort, IsPush, IsServerNetwork, IsSmall, IsWindow, Whole, astray_none, device_fine, engine_good, engine_items, engine_named, engine_texts, folder_clean, found, given_holds, given_within, keepalive_fine, key_fine, local_small, policy_fine, pushes_fine, remote_fine, routes_fine, server_fine, taken_at, window_fine}

-- the directives of the file
pub record FromFile (read : Result (List Directive) ConfigFault) (s : Settings) : Type 0 where
  pub role : Role
  pub all : List Directive
  pub is : read ≡ Ok all
  pub sound : AllSound (items_of all)
  pub side : side_of_file (items_of all) ≡ Some role
  pub right : find (is_astray role) all ≡ None
  pub whole : missing role (items_of all) ≡ None
  pub made : settings_of role (items_of all) ≡ s

from_parts : (last : ℕ) (role : Role) (all : List Directive) (s : Settings) (astray : Option Directive) (lack : Option Keyword)
    → AllSound (items_of all) → side_of_file (items_of all) ≡ Some role → find (is_astray role) all ≡ astray → missing role (items_of all) ≡ lack
    → unless_astray astray (unless_missing last lack (settings_of role (items_of all))) ≡ Ok s → FromFile (Ok all) s
from_parts last role all s None None sound side right whole is =
    record { role = role; all = all; is = refl; sound = sound; side = side; right = right; whole = whole; made = cc }
from_parts last role all s None (Some k) sound side right whole is = cc
from_parts last role all s (Some d) lack sound side right whole is = cc

from_side : (last : ℕ) (side : Option Role) (all : List Directive) (s : Settings) → AllSound (items_of all) → side_of_file (items_of all) ≡ side
    → settings_on last side all ≡ Ok s → FromFile (Ok all) s
unfolding settings_on
from_side last None all s sound side is = cc
from_side last (Some role) all s sound side is =
    from_parts last role all s (find (is_astray role) all) (missing role (items_of all)) sound side refl refl is

from_judged : (last : ℕ) (r : Result (List Directive) ConfigFault) (s : Settings) → ((all : List Directive) → r ≡ Ok all → AllSound (items_of all))
    → settings_from last r ≡ Ok s → FromFile r s
from_judged last (Err fault) s sound is = cc
from_judged last (Ok all) s sound is = from_side last (side_of_file (items_of all)) all s (sound all refl) refl is

pub from_file : Laws → (text : List ℕ) (s : Settings) → settings text ≡ Ok s → FromFile (directives_in text) s
unfolding settings
from_file laws text s is =
    from_judged (length (lines_of text)) (directives_in text) s (λ all ok. sound_all laws (lines_of text) None 0 0 [] all tt ok) is

-- nothing that is needed is missing
none_when : {A : Type 0} (b : Bool) (p : A → Bool) (x : A) (xs : List A) → p x ≡ b → cond b (Some x) (find p xs) ≡ None
    → (find p xs ≡ None → list_all (λ y. not (p y)) xs ≡ true) → (not (p x) && list_all (λ y. not (p y)) xs) ≡ true
none_when true p x xs is none later = cc
none_when false p x xs is none later = both_true (not (p x)) (list_all (λ y. not (p y)) xs) (ap not is) (later none)

none_all : {A : Type 0} (p : A → Bool) (xs : List A) → find p xs ≡ None → list_all (λ x. not (p x)) xs ≡ true
none_all p [] none = refl
none_all p (x ∷ xs) none = none_when (p x) p x xs refl none (λ e. none_all p xs e)

all_get : (p : Keyword → Bool) (ks : List Keyword) (i : ℕ) (k : Keyword) → list_all p ks ≡ true → slice_get ks i ≡ Some k → p k ≡ true
all_get p [] i k all at = cc
all_get p (j ∷ ks) zero k all at = let same : j ≡ k = cc in sym (ap p same) ∙ (and_true (p j) (list_all p ks) all).0
all_get p (j ∷ ks) (suc i) k all at = all_get p ks i k (and_true (p j) (list_all p ks) all).1 at

given_by : (g : Bool) → not (true && not g) ≡ true → g ≡ true
given_by true e = refl
given_by false e = cc

some_given : (o : Option Item) → is_some o ≡ true → (item : Item) × (o ≡ Some item)
some_given None some = cc
some_given (Some item) some = (item, refl)

abbrev pub IsRemote : Role → List Item → Type 0
IsRemote Server items = Unit {0}
IsRemote Client items = is_given (codes "remote") items ≡ true

pub record Needs (role : Role) (items : List Item) : Type 0 where
  pub dev : is_given (codes "dev") items ≡ true
  pub key : is_given (codes "tls-crypt") items ≡ true
  pub remote : IsRemote role items

remote_needed : (role : Role) (items : List Item) → not ((row_at keywords.Remote).needed role && not (is_given (codes "remote") items)) ≡ true → IsRemote role items
remote_needed Server items e = tt
remote_needed Client items e = given_by (is_given (codes "remote") items) e

pub needs : (role : Role) (items : List Item) → missing role items ≡ None → Needs role items
unfolding missing table link_keywords client_keywords session_keywords
needs role items none =
    let lacks : Keyword → Bool = λ k. (row_at k).needed role && not (is_given (row_at k).name items) in
    let has : Keyword → Bool = λ k. not (lacks k) in
    let all = none_all lacks table none in
    record {
      dev = given_by (is_given (codes "dev") items) (all_get has table 2 keywords.Dev all refl);
      key = given_by (is_given (codes "tls-crypt") items) (all_get has table 8 keywords.TlsCrypt all refl);
      remote = remote_needed role items (all_get has table 7 keywords.Remote all refl);
    }

-- the side that a `server` or `client` decides
side_when : (a b : Bool) (item : Item) (rest : Option Role) (later : Option Item) → (rest ≡ Some Server → is_some later ≡ true)
    → cond a (Some Server) (cond b (Some Client) rest) ≡ Some Server → is_some (cond a (Some item) later) ≡ true
side_when true b item rest later more is = refl
side_when false true item rest later more is = cc
side_when false false item rest later more is = more is

server_side : (items : List Item) → side_of_file items ≡ Some Server → is_given (codes "server") items ≡ true
server_side [] is = cc
server_side (item ∷ items) is =
    side_when (is_named (codes "server") item) (is_named (codes "client") item) item (side_of_file items) (first_named (codes "server") items)
    (λ e. server_side items e) is

-- what holds of them
abbrev pub IsPlace : Addr → Type 0
IsPlace a = (a.ip.0 < 2 ^ 32) × IsPort a.port

abbrev pub OnSide : Role → Settings → Type 0
OnSide Server s = (is_some s.net ≡ true) × (s.remote ≡ None)
OnSide Client s = (is_some s.remote ≡ true) × (s.net ≡ None) × (s.keepalive ≡ None) × (s.ccd ≡ None) × (s.exclusive ≡ false) × (s.between ≡ false)
    × (s.duplicate ≡ false) × (s.max_clients ≡ 1024) × (s.pushes ≡ [])

pub record IsLawful (side : Role) (words : Option (List (List ℕ))) (passed : List Item) (s : Settings) : Type 0 where
  pub role : s.role ≡ side
  pub dev : IsDevice s.dev
  pub listens : Each IsSmall s.local
  pub port : IsPort s.port
  pub remote : Each IsPlace s.remote
  pub net : Each IsServerNetwork s.net
  pub keepalive : Each AreTimes s.keepalive
  pub ccd : Each IsClean s.ccd
  pub max_clients : (1 ≤ s.max_clients) × (s.max_clients ≤ 4096)
  pub pushes : Whole IsPush s.pushes
  pub routes : Whole IsRead s.routes
  pub ciphers : IsPolicy s.ciphers
  pub reneg : s.timers.reneg ≤ 1000000
  pub tran : (1 ≤ s.timers.tran) × (s.timers.tran ≤ 1000000)
  pub hand : (1 ≤ s.timers.hand) × (s.timers.hand ≤ 1000000)
  pub timeout : (1 ≤ s.timers.timeout) × (s.timers.timeout ≤ 60)
  pub window : IsWindow (s.timers.win, s.timers.win_secs)
  pub key : IsKey s.key
  pub console : s.console ≡ option_map words_text words
  pub console_words : Holds keywords.Management words
  pub engine : s.engine ≡ map item_text passed
  pub engine_good : AreGood passed
  pub engine_named : are_engine passed ≡ true
  pub on_side : OnSide side s

port_or : (n : Option ℕ) (port : ℕ) → Each IsPort n → IsPort port → IsPort (unwrap_or n port)
port_or None port each is = is
port_or (Some n) port each is = each

places : (port : ℕ) (there : Option (Ip4 × Option ℕ)) → Each IsEnd there → IsPort port → Each IsPlace (option_map (end_with port) there)
places port None each is = tt
places port (Some r) each is = (each.0, port_or r.1 port each.1 is)

key_place : (items : List Item) (item : Item) → AllSound items → first_named (codes "tls-crypt") items ≡ Some item
    → IsKey (unwrap_or (option_map place_of (first_named (codes "tls-crypt") items)) (Named []))
key_place items item sound is =
    let f = found (codes "tls-crypt") items item sound is in
    subst (λ (o : Option Item). IsKey (unwrap_or (option_map place_of o) (Named []))) (sym is) (key_fine item f.0 f.1)

-- by the side
server_given : (items : List Item) (item : Item) → AllSound items → first_named (codes "server") items ≡ Some item
    → is_some (option_and_then server_network (option_map arguments_of (first_named (codes "server") items))) ≡ true
unfolding block_names
server_given items item sound is =
    let f = found (codes "server") items item sound is in
    subst (λ (o : Option Item). is_some (option_and_then server_network (option_map arguments_of o)) ≡ true) (sym is) (taken_at keywords.Server item f.0 f.1 refl).0

some_mapped : (port : ℕ) (o : Option (Ip4 × Option ℕ)) → is_some o ≡ true → is_some (option_map (end_with port) o) ≡ true
some_mapped port None some = cc
some_mapped port (Some r) some = refl

remote_there : (items : List Item) (item : Item) → AllSound items → first_named (codes "remote") items ≡ Some item
    → is_some (option_map (end_with (port_given items)) (option_and_then remote_end (option_map arguments_of (first_named (codes "remote") items)))) ≡ true
unfolding block_names
remote_there items item sound is =
    let f = found (codes "remote") items item sound is in
    subst (λ (o : Option Item). is_some (option_map (end_with (port_given items)) (option_and_then remote_end (option_map arguments_of o))) ≡ true) (sym is)
    (some_mapped (port_given items) (remote_end (arguments_of item)) (taken_at keywords.Remote item f.0 f.1 refl).0)

push_none : (item : Item) (items : List Item) → is_named (codes "push") item ≡ false → cons_option (push_in item) (filter_map push_in items) ≡ filter_map push_in items
push_none item items is =
    ap (λ (b : Bool). cons_option (cond b (push_text (arguments_of item)) None) (filter_map push_in items)) is

pushes_when : (b : Bool) (item : Item) (items : List Item) → (first_named (codes "push") items ≡ None → filter_map push_in items ≡ [])
    → is_named (codes "push") item ≡ b → cond b (Some item) (first_named (codes "push") items) ≡ None → cons_option (push_in item) (filter_map push_in items) ≡ []
pushes_when true item items later is none = cc
pushes_when false item items later is none = push_none item items is ∙ later none

no_pushes : (items : List Item) → first_named (codes "push") items ≡ None → filter_map push_in items ≡ []
no_pushes [] none = refl
no_pushes (item ∷ items) none = pushes_when (is_named (codes "push") item) item items (λ e. no_pushes items e) refl none

sided : (role : Role) (all : List Directive) → AllSound (items_of all) → side_of_file (items_of all) ≡ Some role → find (is_astray role) all ≡ None
    → Needs role (items_of all) → OnSide role (settings_of role (items_of all))
unfolding settings_of
sided Server all sound side right need =
    let items = items_of all in
    let server = some_given (first_named (codes "server") items) (server_side items side) in (
      server_given items server.0 sound server.1,
      ap (λ (o : Option Item). option_map (end_with (port_given items)) (option_and_then remote_end (option_map arguments_of o)))
          (astray_none Server keywords.Remote all refl right),
    )
sided Client all sound side right need =
    let items = items_of all in
    let remote = some_given (first_named (codes "remote") items) need.remote in
    let gone : (k : Keyword) → is_for_other Client k ≡ true → first_named (row_at k).name items ≡ None = λ k other. astray_none Client k all other right in
    let args : Option Item → Option (List (List ℕ)) = λ o. option_map arguments_of o in (
      remote_there items remote.0 sound remote.1,
      ap (λ (o : Option Item). option_and_then server_network (args o)) (gone keywords.Server refl),
      ap (λ (o : Option Item). option_and_then keepalive_times (args o)) (gone keywords.Keepalive refl),
      ap (λ (o : Option Item). option_and_then one_of (args o)) (gone keywords.ClientConfigDir refl),
      ap (λ (o : Option Item). is_some o) (gone keywords.CcdExclusive refl),
      ap (λ (o : Option Item). is_some o) (gone keywords.ClientToClient refl),
      ap (λ (o : Option Item). is_some o) (gone keywords.DuplicateCn refl),
      ap (λ (o : Option Item). unwrap_or (option_and_then (one_number 1 4096) (args o)) 1024) (gone keywords.MaxClients refl),
      no_pushes items (gone keywords.Push refl),
    )

lawful_of : (role : Role) (all : List Directive) → AllSound (items_of all) → side_of_file (items_of all) ≡ Some role → find (is_astray role) all ≡ None
    → Needs role (items_of all)
    → IsLawful role (given (codes "management") (items_of all)) (engine_items (items_of all)) (settings_of role (items_of all))
unfolding settings_of timers_given block_names
lawful_of role all sound side right need =
    let items = items_of all in
    let dev = some_given (first_named (codes "dev") items) need.dev in
    let key = some_given (first_named (codes "tls-crypt") items) need.key in
    let port : IsPort (port_given items) = given_within 1 65535 1194 (given (codes "port") items) (omega arith) (omega arith) in
    record {
      role = refl;
      dev = device_fine items dev.0 sound dev.1;
      listens = local_small (given (codes "local") items);
      port = port;
      remote = places (port_given items) (option_and_then remote_end (given (codes "remote") items)) (remote_fine (given (codes "remote") items)) port;
      net = server_fine (given (codes "server") items);
      keepalive = keepalive_fine (given (codes "keepalive") items);
      ccd = folder_clean keywords.ClientConfigDir (given (codes "client-config-dir") items) (given_holds keywords.ClientConfigDir items sound refl);
      max_clients = given_within 1 4096 1024 (given (codes "max-clients") items) (omega arith) (omega arith);
      pushes = pushes_fine items sound;
      routes = routes_fine items;
      ciphers = policy_fine (given (codes "data-ciphers") items);
      reneg = (given_within 0 1000000 3600 (given (codes "reneg-sec") items) (omega arith) (omega arith)).1;
      tran = given_within 1 1000000 3600 (given (codes "tran-window") items) (omega arith) (omega arith);
      hand = given_within 1 1000000 60 (given (codes "hand-window") items) (omega arith) (omega arith);
      timeout = given_within 1 60 2 (given (codes "tls-timeout") items) (omega arith) (omega arith);
      window = window_fine (given (codes "replay-window") items);
      key = key_place items key.0 sound key.1;
      console = refl;
      console_words = given_holds keywords.Management items sound refl;
      engine = engine_texts items;
      engine_good = engine_good items sound;
      engine_named = engine_named items;
      on_side = sided role all sound side right need;
    }

pub record Lawful (s : Settings) : Type 0 where
  pub side : Role
  pub words : Option (List (List ℕ))
  pub passed : List Item
  pub is : IsLawful side words passed s

-- settings of a file are lawful
pub lawful : Laws → (text : List ℕ) (s : Settings) → settings text ≡ Ok s → Lawful s
lawful laws text s read =
    let file = from_file laws text s read in
    let items = items_of file.all in
    let words = given (codes "management") items in
    record {
      side = file.role;
      words = words;
      passed = engine_items items;
      is = subst (IsLawful file.role words (engine_items items)) file.made
          (lawful_of file.role file.all file.sound file.side file.right (needs file.role items file.whole));
    }
