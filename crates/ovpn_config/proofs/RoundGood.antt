-- The directives of the canonical text say again what they were made of.
use Rattle.std.proofs.Common.{◌≡◌, ℕ, ◌*◌, ◌^◌, ◌<◌, ◌≤◌, ◌||◌, Bool, true, false, cond, List, [], ◌∷◌, refl, ap, ◌∙◌, arith, nat_eq}
use Rattle.std.specs.Prelude.{Option, Some, None, is_some, codes, decimal, map, option_map}
use Rattle.std.specs.Option.{option_map_or}
use Rattle.std.specs.List.{starts_with}
use Rattle.vpn_base.specs.declared.address.Ip4.{Ip4}
use Rattle.vpn_base.specs.declared.names.Cipher.TheVariants.{Aes128Gcm, Aes256Gcm}
use Rattle.vpn_base.specs.declared.names.Policy.{Policy}
use Rattle.vpn_base.specs.declared.names.Policy.TheVariants.{Choose, Fixed}
use Rattle.vpn_base.specs.declared.names.Role.{Role}
use Rattle.vpn_base.specs.Address.{ip4_of, ip4_text}
use Rattle.vpn_base.specs.Network.{Network}
use Rattle.vpn_text.specs.Mask.{mask_text}
use Rattle.vpn_text.specs.Quoted.{may_be_pushed}
use Rattle.config_directives.specs.declared.item.Item.{Item}
use Rattle.config_directives.specs.declared.item.Item.TheVariants.{Words}
use Rattle.config_directives.specs.declared.keyword.Keyword.{Keyword}
use Rattle.config_directives.specs.declared.keyword.Keyword.TheVariants as keywords
use Rattle.config_directives.specs.Arguments.{both, device_name, if_passes, is_console, is_server_length, keepalive_behind, keepalive_times, local_address, number_in, one_number, port_of, push_text, remote_end, replay_window, route_network, server_network}
use Rattle.config_directives.specs.Names.{block_names, engine_names, is_among, is_idle, is_refused, outside_names, tunnel_names}
use Rattle.config_directives.specs.Table.{keyword_of, row_at}
use Rattle.config_directives.specs.Entries.{begun_by, block_name}
use Rattle.config_directives.specs.Judging.{takes_words}
use Rattle.ovpn_config.specs.declared.settings.Settings.{Settings}
use Rattle.ovpn_config.specs.declared.settings.KeyPlace.{KeyPlace}
use Rattle.ovpn_config.specs.declared.settings.KeyPlace.TheVariants.{Named, Inline}
use Rattle.ovpn_config.specs.Printed.{cipher_names}
use Rattle.ovpn_config.specs.Reading.{is_for_other}
use Rattle.ovpn_config.specs.internal.Laws.{Laws}
use Rattle.ovpn_config.proofs.CleanText.{are_clean, both_true, clean_decimal, clean_ip4, clean_mask, is_clean}
use Rattle.ovpn_config.proofs.RoundNumbers.{IsRead, network_again, number_again}
use Rattle.ovpn_config.proofs.RoundTable.{AreGood, IsGood, items_at, items_on, key_item, keyword_at, network_item, numbers_item, switch_item, there}
use Rattle.ovpn_config.proofs.RoundFacts.{AreTimes, Each, Holds, IsClean, IsDevice, IsKey, IsPort, IsPush, IsServerNetwork, IsSmall, IsWindow, Whole}
use Rattle.ovpn_config.proofs.RoundLawful.{IsLawful, IsPlace}

-- a value that passes
passes : {A : Type 0} (test : A → Bool) (a : A) → test a ≡ true → if_passes test (Some a) ≡ Some a
passes test a is = ap (λ (b : Bool). cond b (Some a) None) is

both_there : {A B : Type 0} (a : Option A) (b : Option B) (x : A) (y : B) → a ≡ Some x → b ≡ Some y → both a b ≡ Some (x, y)
both_there a b x y p q = rw (p, q) refl

-- what each kind of argument says
pub back_number : Laws → (low high n : ℕ) → low ≤ n → n ≤ high → high < 2 ^ 64 → one_number low high (decimal n ∷ []) ≡ Some n
back_number laws low high n above below small = number_again laws low high n above below small

pub back_server : Laws → (n : Network) → IsServerNetwork n → server_network (ip4_text n.net ∷ mask_text n.len ∷ []) ≡ Some n
back_server laws n is = ap (if_passes is_server_length) (network_again laws n is.0) ∙ passes is_server_length n is.1

pub back_route : Laws → (n : Network) → IsRead n → route_network (ip4_text n.net ∷ mask_text n.len ∷ []) ≡ Some n
back_route laws n is = network_again laws n is

pub back_device : (name : List ℕ) → IsDevice name → device_name (name ∷ []) ≡ Some name
back_device name is = passes (λ (n : List ℕ). starts_with nat_eq n (codes "tun")) name is.1

pub back_local : Laws → (a : Ip4) → IsSmall a → local_address (ip4_text a ∷ []) ≡ Some a
back_local laws a is = laws.addresses a is

pub back_remote : Laws → (ip : Ip4) (port : ℕ) → IsSmall ip → IsPort port → remote_end (ip4_text ip ∷ decimal port ∷ []) ≡ Some (ip, Some port)
back_remote laws ip port small is =
    both_there (ip4_of (ip4_text ip)) (option_map (λ (n : ℕ). Some n) (port_of (decimal port))) ip (Some port) (laws.addresses ip small)
    (ap (option_map (λ (n : ℕ). Some n)) (number_again laws 1 65535 port is.0 is.1 (omega arith)))

pub back_times : Laws → (t : ℕ × ℕ) → AreTimes t → keepalive_times (decimal t.0 ∷ decimal t.1 ∷ []) ≡ Some (t.0, t.1)
back_times laws t is =
    ap (λ (o : Option ℕ). keepalive_behind o (decimal t.1)) (number_again laws 1 3600 t.0 is.0 is.1 (omega arith))
    ∙ both_there (Some t.0) (number_in (2 * t.0) 7200 (decimal t.1)) t.0 t.1 refl (number_again laws (2 * t.0) 7200 t.1 is.2 is.3 (omega arith))

pub back_window : Laws → (w : ℕ × ℕ) → IsWindow w → replay_window (decimal w.0 ∷ decimal w.1 ∷ []) ≡ Some (w.0, w.1)
back_window laws w is =
    both_there (number_in 1 1024 (decimal w.0)) (number_in 0 600 (decimal w.1)) w.0 w.1 (number_again laws 1 1024 w.0 is.0 is.1 (omega arith))
    (number_again laws 0 600 w.1 (omega arith) is.2 (omega arith))

pub back_push : (text : List ℕ) → IsPush text → push_text (text ∷ []) ≡ Some text
back_push text is = passes may_be_pushed text is.1

some_is : {A : Type 0} (o : Option A) (a : A) → o ≡ Some a → is_some o ≡ true
some_is o a is = ap is_some is

-- clean words
one_clean : (a : List ℕ) → is_clean a ≡ true → are_clean (a ∷ []) ≡ true
one_clean a p = both_true (is_clean a) true p refl

two_clean : (a b : List ℕ) → is_clean a ≡ true → is_clean b ≡ true → are_clean (a ∷ b ∷ []) ≡ true
two_clean a b p q = both_true (is_clean a) (are_clean (b ∷ [])) p (one_clean b q)

number_clean : Laws → (n most : ℕ) → n ≤ most → most < 2 ^ 64 → is_clean (decimal n) ≡ true
number_clean laws n most below small = clean_decimal laws n (omega arith)

names_clean : (policy : Policy) → is_clean (cipher_names policy) ≡ true
names_clean (Fixed Aes128Gcm) = refl
names_clean (Fixed Aes256Gcm) = refl
names_clean (Choose Aes128Gcm None) = refl
names_clean (Choose Aes256Gcm None) = refl
names_clean (Choose Aes128Gcm (Some Aes128Gcm)) = refl
names_clean (Choose Aes128Gcm (Some Aes256Gcm)) = refl
names_clean (Choose Aes256Gcm (Some Aes128Gcm)) = refl
names_clean (Choose Aes256Gcm (Some Aes256Gcm)) = refl

name_clean : (keyword : Keyword) → is_clean (row_at keyword).name ≡ true
name_clean keywords.Server = refl
name_clean keywords.Client = refl
name_clean keywords.Dev = refl
name_clean keywords.Topology = refl
name_clean keywords.Proto = refl
name_clean keywords.Port = refl
name_clean keywords.Local = refl
name_clean keywords.Remote = refl
name_clean keywords.TlsCrypt = refl
name_clean keywords.Keepalive = refl
name_clean keywords.ClientConfigDir = refl
name_clean keywords.CcdExclusive = refl
name_clean keywords.ClientToClient = refl
name_clean keywords.DuplicateCn = refl
name_clean keywords.MaxClients = refl
name_clean keywords.Push = refl
name_clean keywords.Route = refl
name_clean keywords.DataCiphers = refl
name_clean keywords.RenegSec = refl
name_clean keywords.TranWindow = refl
name_clean keywords.HandWindow = refl
name_clean keywords.TlsTimeout = refl
name_clean keywords.ReplayWindow = refl
name_clean keywords.Management = refl

name_allowed : (keyword : Keyword) → is_refused (row_at keyword).name ≡ false
unfolding tunnel_names outside_names
name_allowed keywords.Server = refl
name_allowed keywords.Client = refl
name_allowed keywords.Dev = refl
name_allowed keywords.Topology = refl
name_allowed keywords.Proto = refl
name_allowed keywords.Port = refl
name_allowed keywords.Local = refl
name_allowed keywords.Remote = refl
name_allowed keywords.TlsCrypt = refl
name_allowed keywords.Keepalive = refl
name_allowed keywords.ClientConfigDir = refl
name_allowed keywords.CcdExclusive = refl
name_allowed keywords.ClientToClient = refl
name_allowed keywords.DuplicateCn = refl
name_allowed keywords.MaxClients = refl
name_allowed keywords.Push = refl
name_allowed keywords.Route = refl
name_allowed keywords.DataCiphers = refl
name_allowed keywords.RenegSec = refl
name_allowed keywords.TranWindow = refl
name_allowed keywords.HandWindow = refl
name_allowed keywords.TlsTimeout = refl
name_allowed keywords.ReplayWindow = refl
name_allowed keywords.Management = refl

known_row : (b c : Bool) (o : Option Keyword) (keyword : Keyword) → o ≡ Some keyword → (is_some o || b || c) ≡ true
known_row b c o keyword is = rw is refl

takes_row : (keyword : Keyword) (args : List (List ℕ)) → (row_at keyword).takes args ≡ true → takes_words (row_at keyword).name args ≡ true
takes_row keyword args takes = ap (λ (o : Option Keyword). option_map_or (λ k. (row_at k).takes args) o true) (keyword_at keyword) ∙ takes

-- a directive of the table
pub good_row : (keyword : Keyword) (args : List (List ℕ)) → are_clean args ≡ true → begun_by ((row_at keyword).name ∷ args) ≡ None
    → (row_at keyword).takes args ≡ true → IsGood (Words ((row_at keyword).name ∷ args))
good_row keyword args clean begins takes = record {
  can = (both_true (is_clean (row_at keyword).name) (are_clean args) (name_clean keyword) clean, begins, omega arith);
  known = known_row (is_among engine_names (row_at keyword).name) (is_idle (row_at keyword).name) (keyword_of (row_at keyword).name) keyword (keyword_at keyword);
  allowed = name_allowed keyword;
  taken = takes_row keyword args takes;
  closed = refl;
}

good_there : {A : Type 0} (item : A → Item) (value : Option A) (P : A → Type 0) → Each P value → ((a : A) → P a → IsGood (item a)) → AreGood (there item value)
good_there item None P each good = tt
good_there item (Some a) P each good = (good a each, tt)

good_map : {A : Type 0} (item : A → Item) (values : List A) (P : A → Type 0) → Whole P values → ((a : A) → P a → IsGood (item a)) → AreGood (map item values)
good_map item [] P each good = tt
good_map item (a ∷ values) P each good = (good a each.0, good_map item values P each.1 good)

good_switch : (keyword : Keyword) (on : Bool) → begun_by ((row_at keyword).name ∷ []) ≡ None → (row_at keyword).takes [] ≡ true
    → AreGood (switch_item (row_at keyword).name on)
good_switch keyword true begins takes = (good_row keyword [] refl begins takes, tt)
good_switch keyword false begins takes = tt

good_key : (key : KeyPlace) → IsKey key → IsGood (key_item key)
unfolding block_names tunnel_names outside_names
good_key (Named name) is = good_row keywords.TlsCrypt (name ∷ []) (one_clean name is) refl refl
good_key (Inline bytes) is = record { can = (refl, is); known = refl; allowed = refl; taken = refl; closed = refl }

good_console : (words : List (List ℕ)) → is_console words ≡ true → are_clean words ≡ true → IsGood (Words (codes "management" ∷ words))
good_console [] console clean = cc
good_console (a ∷ words) console clean = good_row keywords.Management (a ∷ words) clean refl console

good_console_there : (words : Option (List (List ℕ))) → Holds keywords.Management words → AreGood (there (λ w. Words (codes "management" ∷ w)) words)
good_console_there None holds = tt
good_console_there (Some words) holds = (good_console words holds.0 holds.1, tt)

good_number : Laws → (keyword : Keyword) (low high n : ℕ) → low ≤ n → n ≤ high → high < 2 ^ 64
    → ((args : List (List ℕ)) → is_some (one_number low high args) ≡ true → (row_at keyword).takes args ≡ true)
    → begun_by ((row_at keyword).name ∷ decimal n ∷ []) ≡ None → IsGood (Words ((row_at keyword).name ∷ decimal n ∷ []))
good_number laws keyword low high n above below small takes begins =
    good_row keyword (decimal n ∷ []) (one_clean (decimal n) (number_clean laws n high below small)) begins
    (takes (decimal n ∷ []) (some_is _ n (back_number laws low high n above below small)))

pub good_at : Laws → (side : Role) (words : Option (List (List ℕ))) (passed : List Item) (s : Settings) → IsLawful side words passed s
    → (keyword : Keyword) → AreGood (items_at words s keyword)
unfolding block_name
good_at laws side words passed s is keywords.Server =
    good_there (λ n. network_item (codes "server") n) s.net IsServerNetwork is.net
    (λ n e. good_row keywords.Server (ip4_text n.net ∷ mask_text n.len ∷ []) (two_clean (ip4_text n.net) (mask_text n.len) (clean_ip4 laws n.net) (clean_mask laws n.len)) refl (some_is _ n (back_server laws n e)))
good_at laws side words passed s is keywords.Client =
    (good_row keywords.Client [] refl refl refl, tt)
good_at laws side words passed s is keywords.Dev =
    (good_row keywords.Dev (s.dev ∷ []) (one_clean s.dev is.dev.0) refl (some_is _ s.dev (back_device s.dev is.dev)), tt)
good_at laws side words passed s is keywords.Topology =
    (good_row keywords.Topology (codes "subnet" ∷ []) refl refl refl, tt)
good_at laws side words passed s is keywords.Proto =
    (good_row keywords.Proto (codes "udp" ∷ []) refl refl refl, tt)
good_at laws side words passed s is keywords.Port =
    (good_number laws keywords.Port 1 65535 s.port is.port.0 is.port.1 (omega arith) (λ a e. e) refl, tt)
good_at laws side words passed s is keywords.Local =
    good_there (λ a. Words (codes "local" ∷ ip4_text a ∷ [])) s.local IsSmall is.listens
    (λ a e. good_row keywords.Local (ip4_text a ∷ []) (one_clean (ip4_text a) (clean_ip4 laws a)) refl (some_is _ a (back_local laws a e)))
good_at laws side words passed s is keywords.Remote =
    good_there (λ a. Words (codes "remote" ∷ ip4_text a.ip ∷ decimal a.port ∷ [])) s.remote IsPlace is.remote
    (λ a e. good_row keywords.Remote (ip4_text a.ip ∷ decimal a.port ∷ []) (two_clean (ip4_text a.ip) (decimal a.port) (clean_ip4 laws a.ip) (number_clean laws a.port 65535 e.1.1 (omega arith))) refl (some_is _ (a.ip, Some a.port) (back_remote laws a.ip a.port e.0 e.1)))
good_at laws side words passed s is keywords.TlsCrypt =
    (good_key s.key is.key, tt)
good_at laws side words passed s is keywords.Keepalive =
    good_there (λ t. numbers_item (codes "keepalive") t) s.keepalive AreTimes is.keepalive
    (λ t e. good_row keywords.Keepalive (decimal t.0 ∷ decimal t.1 ∷ []) (two_clean (decimal t.0) (decimal t.1) (number_clean laws t.0 3600 e.1 (omega arith)) (number_clean laws t.1 7200 e.3 (omega arith))) refl (some_is _ (t.0, t.1) (back_times laws t e)))
good_at laws side words passed s is keywords.ClientConfigDir =
    good_there (λ t. Words (codes "client-config-dir" ∷ t ∷ [])) s.ccd IsClean is.ccd
    (λ t e. good_row keywords.ClientConfigDir (t ∷ []) (one_clean t e) refl refl)
good_at laws side words passed s is keywords.CcdExclusive =
    good_switch keywords.CcdExclusive s.exclusive refl refl
good_at laws side words passed s is keywords.ClientToClient =
    good_switch keywords.ClientToClient s.between refl refl
good_at laws side words passed s is keywords.DuplicateCn =
    good_switch keywords.DuplicateCn s.duplicate refl refl
good_at laws side words passed s is keywords.MaxClients =
    (good_number laws keywords.MaxClients 1 4096 s.max_clients is.max_clients.0 is.max_clients.1 (omega arith) (λ a e. e) refl, tt)
good_at laws side words passed s is keywords.Push =
    good_map (λ t. Words (codes "push" ∷ t ∷ [])) s.pushes IsPush is.pushes
    (λ t e. good_row keywords.Push (t ∷ []) (one_clean t e.0) refl (some_is _ t (back_push t e)))
good_at laws side words passed s is keywords.Route =
    good_map (λ n. network_item (codes "route") n) s.routes IsRead is.routes
    (λ n e. good_row keywords.Route (ip4_text n.net ∷ mask_text n.len ∷ []) (two_clean (ip4_text n.net) (mask_text n.len) (clean_ip4 laws n.net) (clean_mask laws n.len)) refl (some_is _ n (back_route laws n e)))
good_at laws side words passed s is keywords.DataCiphers =
    (good_row keywords.DataCiphers (cipher_names s.ciphers ∷ []) (one_clean (cipher_names s.ciphers) (names_clean s.ciphers)) refl (some_is _ s.ciphers is.ciphers), tt)
good_at laws side words passed s is keywords.RenegSec =
    (good_number laws keywords.RenegSec 0 1000000 s.timers.reneg (omega arith) is.reneg (omega arith) (λ a e. e) refl, tt)
good_at laws side words passed s is keywords.TranWindow =
    (good_number laws keywords.TranWindow 1 1000000 s.timers.tran is.tran.0 is.tran.1 (omega arith) (λ a e. e) refl, tt)
good_at laws side words passed s is keywords.HandWindow =
    (good_number laws keywords.HandWindow 1 1000000 s.timers.hand is.hand.0 is.hand.1 (omega arith) (λ a e. e) refl, tt)
good_at laws side words passed s is keywords.TlsTimeout =
    (good_number laws keywords.TlsTimeout 1 60 s.timers.timeout is.timeout.0 is.timeout.1 (omega arith) (λ a e. e) refl, tt)
good_at laws side words passed s is keywords.ReplayWindow =
    (good_row keywords.ReplayWindow (decimal s.timers.win ∷ decimal s.timers.win_secs ∷ []) (two_clean (decimal s.timers.win) (decimal s.timers.win_secs) (number_clean laws s.timers.win 1024 is.window.1 (omega arith)) (number_clean laws s.timers.win_secs 600 is.window.2 (omega arith))) refl (some_is _ (s.timers.win, s.timers.win_secs) (back_window laws (s.timers.win, s.timers.win_secs) is.window)), tt)
good_at laws side words passed s is keywords.Management =
    good_console_there words is.console_words

good_when : (b : Bool) (items : List Item) → AreGood items → AreGood (cond b [] items)
good_when true items good = tt
good_when false items good = good

pub good_on : Laws → (side : Role) (words : Option (List (List ℕ))) (passed : List Item) (s : Settings) → IsLawful side words passed s
    → (keyword : Keyword) → AreGood (items_on side words s keyword)
good_on laws side words passed s is keyword = good_when (is_for_other side keyword) (items_at words s keyword) (good_at laws side words passed s is keyword)
