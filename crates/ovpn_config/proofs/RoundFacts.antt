-- What holds of the arguments that a file gives, and of what they set.
use Rattle.std.proofs.Common.{◌≡◌, ℕ, ◌*◌, ◌^◌, ◌<◌, ◌≤◌, ◌||◌, not, Bool, true, false, cond, List, [], ◌∷◌, refl, ap, sym, subst, ◌∙◌, arith, nat_eq}
use Rattle.std.specs.Prelude.{Option, Some, None, is_some, bytes_eq, codes, find, filter, filter_map, map, option_map, option_and_then, unwrap_or}
use Rattle.std.specs.Option.{option_map_or}
use Rattle.std.specs.List.{list_all, cons_option, starts_with}
use Rattle.std.proofs.lemmas.Slice.Eq.{bytes_eq-Decides}
use Rattle.vpn_base.specs.declared.address.Ip4.{Ip4}
use Rattle.vpn_base.specs.declared.names.Role.{Role}
use Rattle.vpn_base.specs.declared.names.Cipher.{Cipher}
use Rattle.vpn_base.specs.declared.names.Cipher.TheVariants.{Aes128Gcm, Aes256Gcm}
use Rattle.vpn_base.specs.declared.names.Policy.{Policy}
use Rattle.vpn_base.specs.declared.names.Policy.TheVariants.{Choose}
use Rattle.vpn_base.specs.Address.{ip4_of}
use Rattle.vpn_base.specs.Network.{Network}
use Rattle.vpn_text.specs.Mask.{masked_network}
use Rattle.vpn_text.specs.Quoted.{may_be_pushed}
use Rattle.config_directives.specs.declared.item.Item.{Item}
use Rattle.config_directives.specs.declared.item.Item.TheVariants.{Words, Block}
use Rattle.config_directives.specs.declared.item.Directive.{Directive}
use Rattle.config_directives.specs.declared.keyword.Keyword.{Keyword}
use Rattle.config_directives.specs.declared.keyword.Keyword.TheVariants as keywords
use Rattle.config_directives.specs.Items.{arguments_of, first_named, given, is_named, items_of, name_of}
use Rattle.config_directives.specs.Blocks.{block_end}
use Rattle.vpn_base.specs.WordCount.{one_of}
use Rattle.config_directives.specs.Arguments.{both, cipher_policy, ciphers_in, if_passes, is_other, is_server_length, keepalive_behind, keepalive_times, local_address, number_in, one_number, policy_of, port_of, push_text, remote_end, replay_window, route_network, server_network}
use Rattle.config_directives.specs.Names.{block_names, engine_names, is_among, is_idle, is_refused, outside_names, tunnel_names}
use Rattle.config_directives.specs.Table.{client_keywords, keyword_of, link_keywords, row_at, session_keywords, table}
use Rattle.config_directives.specs.Judging.{may_repeat}
use Rattle.ovpn_config.specs.declared.settings.KeyPlace.{KeyPlace}
use Rattle.ovpn_config.specs.declared.settings.KeyPlace.TheVariants.{Named, Inline}
use Rattle.ovpn_config.specs.Spelling.{item_text}
use Rattle.ovpn_config.specs.Values.{default_policy, engine_in, place_of, push_in, route_in}
use Rattle.ovpn_config.specs.Printed.{cipher_names}
use Rattle.ovpn_config.specs.Reading.{is_astray, is_for_other}
use Rattle.ovpn_config.specs.Canonical.{lines_with}
use Rattle.ovpn_config.proofs.CleanText.{and_true, are_clean, both_true, is_clean}
use Rattle.ovpn_config.proofs.RoundNumbers.{IsRead, address_small, network_read, number_within}
use Rattle.ovpn_config.proofs.RoundItems.{Every, by_among, may_stand}
use Rattle.ovpn_config.proofs.RoundSound.{AllSound, IsSound}
use Rattle.ovpn_config.proofs.RoundTable.{AreGood, IsGood, are_engine, keyword_at}

no : true ≡ false → ⊥
no e = cc

-- the first directive of a name
found_when : (b : Bool) (name : List ℕ) (item found : Item) (items : List Item) → bytes_eq (name_of item) name ≡ b → AllSound (item ∷ items)
    → (AllSound items → first_named name items ≡ Some found → IsSound found × (bytes_eq (name_of found) name ≡ true))
    → cond b (Some item) (first_named name items) ≡ Some found → IsSound found × (bytes_eq (name_of found) name ≡ true)
found_when true name item found items is sound later here =
    let same : item ≡ found = cc in
    subst (λ (i : Item). IsSound i × (bytes_eq (name_of i) name ≡ true)) same (sound.0, is)
found_when false name item found items is sound later here = later sound.1 here

pub found : (name : List ℕ) (items : List Item) (item : Item) → AllSound items → first_named name items ≡ Some item
    → IsSound item × (bytes_eq (name_of item) name ≡ true)
found name [] item sound is = cc
found name (i ∷ items) item sound is = found_when (bytes_eq (name_of i) name) name i item items refl sound (λ s e. found name items item s e) is

-- its arguments
taken_when : (k : Keyword) (name : List ℕ) (args : List (List ℕ)) → name ≡ (row_at k).name
    → option_map_or (λ keyword. (row_at keyword).takes args) (keyword_of name) true ≡ true → (row_at k).takes args ≡ true
taken_when k name args same taken =
    sym (ap (λ (o : Option Keyword). option_map_or (λ keyword. (row_at keyword).takes args) o true) (ap keyword_of same ∙ keyword_at k)) ∙ taken

pub taken_at : (k : Keyword) (item : Item) → IsSound item → bytes_eq (name_of item) (row_at k).name ≡ true → is_among block_names (row_at k).name ≡ false
    → ((row_at k).takes (arguments_of item) ≡ true) × (are_clean (arguments_of item) ≡ true)
taken_at k (Words []) sound named not = absurd (omega (arith, sound.can.2))
taken_at k (Words (name ∷ args)) sound named not = (
  taken_when k name args ((bytes_eq-Decides name (row_at k).name).0 named) sound.taken,
  (and_true (is_clean name) (are_clean args) sound.can.0).1,
)
taken_at k (Block name None) sound named not = absurd sound.can
taken_at k (Block name (Some bytes)) sound named not =
    let same : name ≡ (row_at k).name = (bytes_eq-Decides name (row_at k).name).0 named in
    let both : true ≡ false = sym sound.can.0 ∙ ap (is_among block_names) same ∙ not in absurd (no both)

-- what holds of the arguments of a directive of the table, where it is given
abbrev pub Holds : Keyword → Option (List (List ℕ)) → Type 0
Holds k None = Unit {0}
Holds k (Some args) = ((row_at k).takes args ≡ true) × (are_clean args ≡ true)

holds_when : (k : Keyword) (items : List Item) (o : Option Item) → AllSound items → is_among block_names (row_at k).name ≡ false
    → first_named (row_at k).name items ≡ o → Holds k (option_map arguments_of o)
holds_when k items None sound not is = tt
holds_when k items (Some item) sound not is = let f = found (row_at k).name items item sound is in taken_at k item f.0 f.1 not

pub given_holds : (k : Keyword) (items : List Item) → AllSound items → is_among block_names (row_at k).name ≡ false → Holds k (given (row_at k).name items)
given_holds k items sound not = holds_when k items (first_named (row_at k).name items) sound not refl

-- a directive of the other side is not given
astray_when : (a b : Bool) (role : Role) (k : Keyword) (d : Directive) (rest : Option Directive) (later : Option Item) → is_astray role d ≡ a
    → bytes_eq (name_of d.item) (row_at k).name ≡ b → is_for_other role k ≡ true → (rest ≡ None → later ≡ None)
    → cond a (Some d) rest ≡ None → cond b (Some d.item) later ≡ None
astray_when true b role k d rest later astray named other more none = cc
astray_when false false role k d rest later astray named other more none = more none
astray_when false true role k d rest later astray named other more none =
    let same : name_of d.item ≡ (row_at k).name = (bytes_eq-Decides (name_of d.item) (row_at k).name).0 named in
    let is : is_astray role d ≡ true =
    ap (λ (o : Option Keyword). option_map_or (is_for_other role) o false) (ap keyword_of same ∙ keyword_at k) ∙ other in
    absurd (no (sym is ∙ astray))

pub astray_none : (role : Role) (k : Keyword) (all : List Directive) → is_for_other role k ≡ true → find (is_astray role) all ≡ None
    → first_named (row_at k).name (items_of all) ≡ None
astray_none role k [] other none = refl
astray_none role k (d ∷ all) other none =
    astray_when (is_astray role d) (bytes_eq (name_of d.item) (row_at k).name) role k d (find (is_astray role) all) (first_named (row_at k).name (items_of all))
    refl refl other (λ e. astray_none role k all other e) none

-- numbers
one_within : (low high : ℕ) (args : List (List ℕ)) (n : ℕ) → one_number low high args ≡ Some n → (low ≤ n) × (n ≤ high)
one_within low high [] n is = cc
one_within low high (w ∷ []) n is = number_within low high n w is
one_within low high (w ∷ v ∷ args) n is = cc

number_when : (low high otherwise : ℕ) (read : Option ℕ) → ((n : ℕ) → read ≡ Some n → (low ≤ n) × (n ≤ high)) → low ≤ otherwise → otherwise ≤ high
    → (low ≤ unwrap_or read otherwise) × (unwrap_or read otherwise ≤ high)
number_when low high otherwise None within above below = (above, below)
number_when low high otherwise (Some n) within above below = within n refl

pub given_within : (low high otherwise : ℕ) (g : Option (List (List ℕ))) → low ≤ otherwise → otherwise ≤ high
    → (low ≤ unwrap_or (option_and_then (one_number low high) g) otherwise) × (unwrap_or (option_and_then (one_number low high) g) otherwise ≤ high)
given_within low high otherwise None above below = (above, below)
given_within low high otherwise (Some args) above below =
    number_when low high otherwise (one_number low high args) (λ n e. one_within low high args n e) above below

-- what is in an option, where there is something
abbrev pub Each : {A : Type 0} → (A → Type 0) → Option A → Type 0
Each P None = Unit {0}
Each P (Some a) = P a

each_when : {A : Type 0} (P : A → Type 0) (o : Option A) → ((a : A) → o ≡ Some a → P a) → Each P o
each_when P None holds = tt
each_when P (Some a) holds = holds a refl

local_when : (args : List (List ℕ)) (a : Ip4) → local_address args ≡ Some a → a.0 < 2 ^ 32
local_when [] a is = cc
local_when (w ∷ []) a is = address_small w a is
local_when (w ∷ v ∷ args) a is = cc

abbrev pub IsSmall : Ip4 → Type 0
IsSmall a = a.0 < 2 ^ 32

pub local_small : (g : Option (List (List ℕ))) → Each IsSmall (option_and_then local_address g)
local_small None = tt
local_small (Some args) = each_when IsSmall (local_address args) (λ a e. local_when args a e)

both_parts : {A B : Type 0} (a : Option A) (b : Option B) (r : A × B) → both a b ≡ Some r → (a ≡ Some r.0) × (b ≡ Some r.1)
both_parts {A} {B} (Some a) (Some b) r is = let same : (a, b) ≡ r = cc in (ap (λ (x : A × B). Some x.0) same, ap (λ (x : A × B). Some x.1) same)
both_parts (Some a) None r is = cc
both_parts None b r is = cc

-- `remote`
abbrev pub IsPort : ℕ → Type 0
IsPort n = (1 ≤ n) × (n ≤ 65535)

abbrev pub IsEnd : Ip4 × Option ℕ → Type 0
IsEnd there = (there.0.0 < 2 ^ 32) × Each IsPort there.1

port_when : (port : List ℕ) (read : Option ℕ) (n : Option ℕ) → port_of port ≡ read → option_map (λ (p : ℕ). Some p) read ≡ Some n → Each IsPort n
port_when port None n is made = cc
port_when port (Some p) n is made = let same : Some p ≡ n = cc in subst (Each IsPort) same (number_within 1 65535 p port is)

none_port : (n : Option ℕ) → Some None ≡ Some n → Each IsPort n
none_port n is = let same : None ≡ n = cc in subst (Each IsPort) same tt

remote_at_when : (ip port : List ℕ) (r : Ip4 × Option ℕ) → both (ip4_of ip) (option_map (λ (n : ℕ). Some n) (port_of port)) ≡ Some r → IsEnd r
remote_at_when ip port r is =
    let parts = both_parts (ip4_of ip) (option_map (λ (n : ℕ). Some n) (port_of port)) r is in
    (address_small ip r.0 parts.0, port_when port (port_of port) r.1 refl parts.1)

udp_when : (b : Bool) (ip port : List ℕ) (r : Ip4 × Option ℕ)
    → cond b (both (ip4_of ip) (option_map (λ (n : ℕ). Some n) (port_of port))) None ≡ Some r → IsEnd r
udp_when true ip port r is = remote_at_when ip port r is
udp_when false ip port r is = cc

remote_when : (args : List (List ℕ)) (r : Ip4 × Option ℕ) → remote_end args ≡ Some r → IsEnd r
remote_when [] r is = cc
remote_when (ip ∷ []) r is =
    let parts = both_parts (ip4_of ip) (Some None) r is in (address_small ip r.0 parts.0, none_port r.1 parts.1)
remote_when (ip ∷ port ∷ []) r is = remote_at_when ip port r is
remote_when (ip ∷ port ∷ proto ∷ []) r is = udp_when (bytes_eq proto (codes "udp")) ip port r is
remote_when (ip ∷ port ∷ proto ∷ more ∷ args) r is = cc

pub remote_fine : (g : Option (List (List ℕ))) → Each IsEnd (option_and_then remote_end g)
remote_fine None = tt
remote_fine (Some args) = each_when IsEnd (remote_end args) (λ r e. remote_when args r e)

-- `server`
abbrev pub IsServerNetwork : Network → Type 0
IsServerNetwork n = IsRead n × (is_server_length n ≡ true)

passes_when : {A : Type 0} (test : A → Bool) (b : Bool) (x a : A) → test x ≡ b → cond b (Some x) None ≡ Some a → (x ≡ a) × (test a ≡ true)
passes_when test true x a is made = let same : x ≡ a = cc in (same, sym (ap test same) ∙ is)
passes_when test false x a is made = cc

if_passes_parts : {A : Type 0} (test : A → Bool) (o : Option A) (a : A) → if_passes test o ≡ Some a → (o ≡ Some a) × (test a ≡ true)
if_passes_parts test None a is = cc
if_passes_parts {A} test (Some x) a is = let parts = passes_when test (test x) x a refl is in (ap (λ (y : A). Some y) parts.0, parts.1)

server_when : (args : List (List ℕ)) (n : Network) → server_network args ≡ Some n → IsServerNetwork n
server_when [] n is = cc
server_when (a ∷ []) n is = cc
server_when (a ∷ b ∷ []) n is =
    let parts = if_passes_parts is_server_length (masked_network a b) n is in (network_read a b n parts.0, parts.1)
server_when (a ∷ b ∷ c ∷ args) n is = cc

pub server_fine : (g : Option (List (List ℕ))) → Each IsServerNetwork (option_and_then server_network g)
server_fine None = tt
server_fine (Some args) = each_when IsServerNetwork (server_network args) (λ n e. server_when args n e)

-- `keepalive`
abbrev pub AreTimes : ℕ × ℕ → Type 0
AreTimes t = (1 ≤ t.0) × (t.0 ≤ 3600) × (2 * t.0 ≤ t.1) × (t.1 ≤ 7200)

times_when : (ping restart : List ℕ) (read : Option ℕ) (t : ℕ × ℕ) → number_in 1 3600 ping ≡ read → keepalive_behind read restart ≡ Some t → AreTimes t
times_when ping restart None t is made = cc
times_when ping restart (Some n) t is made =
    let parts = both_parts (Some n) (number_in (2 * n) 7200 restart) t made in
    let same : n ≡ t.0 = cc in
    let one = number_within 1 3600 n ping is in
    let two = number_within (2 * n) 7200 t.1 restart parts.1 in
    (omega arith, omega arith, omega arith, omega arith)

keepalive_when : (args : List (List ℕ)) (t : ℕ × ℕ) → keepalive_times args ≡ Some t → AreTimes t
keepalive_when [] t is = cc
keepalive_when (a ∷ []) t is = cc
keepalive_when (a ∷ b ∷ []) t is = times_when a b (number_in 1 3600 a) t refl is
keepalive_when (a ∷ b ∷ c ∷ args) t is = cc

pub keepalive_fine : (g : Option (List (List ℕ))) → Each AreTimes (option_and_then keepalive_times g)
keepalive_fine None = tt
keepalive_fine (Some args) = each_when AreTimes (keepalive_times args) (λ t e. keepalive_when args t e)

-- one clean word
abbrev pub IsClean : List ℕ → Type 0
IsClean word = is_clean word ≡ true

one_clean : (args : List (List ℕ)) (word : List ℕ) → are_clean args ≡ true → one_of args ≡ Some word → IsClean word
one_clean [] word clean is = cc
one_clean (a ∷ []) word clean is = let same : a ≡ word = cc in subst IsClean same (and_true (is_clean a) true clean).0
one_clean (a ∷ b ∷ args) word clean is = cc

pub folder_clean : (k : Keyword) (g : Option (List (List ℕ))) → Holds k g → Each IsClean (option_and_then one_of g)
folder_clean k None holds = tt
folder_clean k (Some args) holds = each_when IsClean (one_of args) (λ w e. one_clean args w holds.1 e)

-- `dev`
abbrev pub IsDevice : List ℕ → Type 0
IsDevice name = (is_clean name ≡ true) × (starts_with nat_eq name (codes "tun") ≡ true)

when_some : (b : Bool) (a : List ℕ) → is_some (cond b (Some a) None) ≡ true → b ≡ true
when_some true a some = refl
when_some false a some = cc

device_when : (args : List (List ℕ)) → are_clean args ≡ true → is_some (if_passes (λ name. starts_with nat_eq name (codes "tun")) (one_of args)) ≡ true
    → IsDevice (unwrap_or (one_of args) [])
device_when [] clean some = cc
device_when (a ∷ []) clean some =
    ((and_true (is_clean a) true clean).0, when_some (starts_with nat_eq a (codes "tun")) a some)
device_when (a ∷ b ∷ args) clean some = cc

pub device_fine : (items : List Item) (item : Item) → AllSound items → first_named (codes "dev") items ≡ Some item
    → IsDevice (unwrap_or (option_and_then one_of (option_map arguments_of (first_named (codes "dev") items))) [])
unfolding block_names
device_fine items item sound is =
    let f = found (codes "dev") items item sound is in
    let t = taken_at keywords.Dev item f.0 f.1 refl in
    subst (λ (o : Option Item). IsDevice (unwrap_or (option_and_then one_of (option_map arguments_of o)) [])) (sym is) (device_when (arguments_of item) t.1 t.0)

-- `push`
abbrev pub IsPush : List ℕ → Type 0
IsPush text = (is_clean text ≡ true) × (may_be_pushed text ≡ true)

-- what holds of each of a list
abbrev pub Whole : {A : Type 0} → (A → Type 0) → List A → Type 0
Whole P [] = Unit {0}
Whole P (a ∷ others) = P a × Whole P others

option_whole : {A : Type 0} (P : A → Type 0) (o : Option A) (rest : List A) → ((a : A) → o ≡ Some a → P a) → Whole P rest → Whole P (cons_option o rest)
option_whole P None rest here later = later
option_whole P (Some a) rest here later = (here a refl, later)

push_word : (args : List (List ℕ)) (text : List ℕ) → are_clean args ≡ true → push_text args ≡ Some text → IsPush text
push_word args text clean is = let parts = if_passes_parts may_be_pushed (one_of args) text is in (one_clean args text clean parts.0, parts.1)

clean_args : (item : Item) → IsSound item → are_clean (arguments_of item) ≡ true
clean_args (Words []) sound = refl
clean_args (Words (name ∷ args)) sound = (and_true (is_clean name) (are_clean args) sound.can.0).1
clean_args (Block name bytes) sound = refl

push_when : (b : Bool) (args : List (List ℕ)) (text : List ℕ) → are_clean args ≡ true → cond b (push_text args) None ≡ Some text → IsPush text
push_when true args text clean is = push_word args text clean is
push_when false args text clean is = cc

pub pushes_fine : (items : List Item) → AllSound items → Whole IsPush (filter_map push_in items)
pushes_fine [] sound = tt
pushes_fine (item ∷ items) sound =
    option_whole IsPush (push_in item) (filter_map push_in items)
    (λ t e. push_when (is_named (codes "push") item) (arguments_of item) t (clean_args item sound.0) e) (pushes_fine items sound.1)

-- `route`
route_word : (args : List (List ℕ)) (n : Network) → route_network args ≡ Some n → IsRead n
route_word [] n is = cc
route_word (a ∷ []) n is = network_read a (codes "255.255.255.255") n is
route_word (a ∷ b ∷ []) n is = network_read a b n is
route_word (a ∷ b ∷ c ∷ args) n is = cc

route_when : (b : Bool) (args : List (List ℕ)) (n : Network) → cond b (route_network args) None ≡ Some n → IsRead n
route_when true args n is = route_word args n is
route_when false args n is = cc

pub routes_fine : (items : List Item) → Whole IsRead (filter_map route_in items)
routes_fine [] = tt
routes_fine (item ∷ items) =
    option_whole IsRead (route_in item) (filter_map route_in items) (λ n e. route_when (is_named (codes "route") item) (arguments_of item) n e) (routes_fine items)

-- `replay-window`
abbrev pub IsWindow : ℕ × ℕ → Type 0
IsWindow w = (1 ≤ w.0) × (w.0 ≤ 1024) × (w.1 ≤ 600)

window_one : (a : List ℕ) (w : ℕ × ℕ) → both (number_in 1 1024 a) (Some 15) ≡ Some w → IsWindow w
window_one a w is =
    let parts = both_parts (number_in 1 1024 a) (Some 15) w is in
    let width = number_within 1 1024 w.0 a parts.0 in
    let seconds : 15 ≡ w.1 = cc in (width.0, width.1, omega arith)

window_two : (a b : List ℕ) (w : ℕ × ℕ) → both (number_in 1 1024 a) (number_in 0 600 b) ≡ Some w → IsWindow w
window_two a b w is =
    let parts = both_parts (number_in 1 1024 a) (number_in 0 600 b) w is in
    let width = number_within 1 1024 w.0 a parts.0 in
    let seconds = number_within 0 600 w.1 b parts.1 in (width.0, width.1, seconds.1)

window_when : (args : List (List ℕ)) (w : ℕ × ℕ) → replay_window args ≡ Some w → IsWindow w
window_when [] w is = cc
window_when (a ∷ []) w is = window_one a w is
window_when (a ∷ b ∷ []) w is = window_two a b w is
window_when (a ∷ b ∷ c ∷ args) w is = cc

window_or : (o : Option (ℕ × ℕ)) → ((w : ℕ × ℕ) → o ≡ Some w → IsWindow w) → IsWindow (unwrap_or o (64, 15))
window_or None holds = (omega arith, omega arith, omega arith)
window_or (Some w) holds = holds w refl

pub window_fine : (g : Option (List (List ℕ))) → IsWindow (unwrap_or (option_and_then replay_window g) (64, 15))
window_fine None = (omega arith, omega arith, omega arith)
window_fine (Some args) = window_or (replay_window args) (λ w e. window_when args w e)

-- `data-ciphers`
abbrev pub IsPolicy : Policy → Type 0
IsPolicy policy = policy_of (ciphers_in (cipher_names policy)) ≡ Some policy

find_when : (b : Bool) (p : Cipher → Bool) (c x : Cipher) (rest : Option Cipher) → p c ≡ b → (rest ≡ Some x → p x ≡ true) → cond b (Some c) rest ≡ Some x → p x ≡ true
find_when true p c x rest is later found = let same : c ≡ x = cc in sym (ap p same) ∙ is
find_when false p c x rest is later found = later found

find_passes : (p : Cipher → Bool) (cs : List Cipher) (x : Cipher) → find p cs ≡ Some x → p x ≡ true
find_passes p [] x is = cc
find_passes p (c ∷ cs) x is = find_when (p c) p c x (find p cs) refl (λ e. find_passes p cs x e) is

policy_when : (first : Cipher) (second : Option Cipher) → ((c : Cipher) → second ≡ Some c → is_other first c ≡ true) → IsPolicy (Choose first second)
policy_when Aes128Gcm None other = refl
policy_when Aes256Gcm None other = refl
policy_when Aes128Gcm (Some Aes128Gcm) other = absurd (no (sym (other Aes128Gcm refl)))
policy_when Aes128Gcm (Some Aes256Gcm) other = refl
policy_when Aes256Gcm (Some Aes128Gcm) other = refl
policy_when Aes256Gcm (Some Aes256Gcm) other = absurd (no (sym (other Aes256Gcm refl)))

ciphers_when : (cs : List Cipher) (policy : Policy) → policy_of cs ≡ Some policy → IsPolicy policy
ciphers_when [] policy is = cc
ciphers_when (first ∷ more) policy is =
    let same : Choose first (find (is_other first) more) ≡ policy = cc in
    subst IsPolicy same (policy_when first (find (is_other first) more) (λ c e. find_passes (is_other first) more c e))

policy_word : (o : Option (List ℕ)) (policy : Policy) → option_and_then (λ (names : List ℕ). policy_of (ciphers_in names)) o ≡ Some policy → IsPolicy policy
policy_word None policy is = cc
policy_word (Some names) policy is = ciphers_when (ciphers_in names) policy is

policy_or : (o : Option Policy) → ((p : Policy) → o ≡ Some p → IsPolicy p) → IsPolicy (unwrap_or o default_policy)
policy_or None holds = refl
policy_or (Some p) holds = holds p refl

pub policy_fine : (g : Option (List (List ℕ))) → IsPolicy (unwrap_or (option_and_then cipher_policy g) default_policy)
policy_fine None = refl
policy_fine (Some args) = policy_or (cipher_policy args) (λ p e. policy_word (one_of args) p e)

-- `tls-crypt`
abbrev pub IsKey : KeyPlace → Type 0
IsKey (Named name) = is_clean name ≡ true
IsKey (Inline bytes) = (lines : List (List ℕ)) × (bytes ≡ lines_with lines) × (list_all (may_stand (block_end (codes "tls-crypt"))) lines ≡ true)

named_key : (args : List (List ℕ)) → are_clean args ≡ true → is_some (one_of args) ≡ true → is_clean (unwrap_or (one_of args) []) ≡ true
named_key [] clean some = cc
named_key (a ∷ []) clean some = (and_true (is_clean a) true clean).0
named_key (a ∷ b ∷ args) clean some = cc

pub key_fine : (item : Item) → IsSound item → bytes_eq (name_of item) (codes "tls-crypt") ≡ true → IsKey (place_of item)
key_fine (Words []) sound named = absurd (omega (arith, sound.can.2))
key_fine (Words (name ∷ args)) sound named =
    named_key args (clean_args (Words (name ∷ args)) sound)
    (taken_when keywords.TlsCrypt name args ((bytes_eq-Decides name (codes "tls-crypt")).0 named) sound.taken)
key_fine (Block name None) sound named = absurd sound.can
key_fine (Block name (Some bytes)) sound named =
    let P : List ℕ → Type 0 = λ n. (lines : List (List ℕ)) × (bytes ≡ lines_with lines) × (list_all (may_stand (block_end n)) lines ≡ true) in
    subst P ((bytes_eq-Decides name (codes "tls-crypt")).0 named) sound.can.1

-- what is for the TLS engine
abbrev pub engine_items : List Item → List Item
engine_items items = filter (λ item. is_among engine_names (name_of item)) items

engine_text_when : (b : Bool) (item : Item) (items : List Item) → filter_map engine_in items ≡ map item_text (engine_items items)
    → cons_option (cond b (Some (item_text item)) None) (filter_map engine_in items) ≡ map item_text (cond b (item ∷ engine_items items) (engine_items items))
engine_text_when true item items later = ap (λ (l : List (List ℕ)). item_text item ∷ l) later
engine_text_when false item items later = later

pub engine_texts : (items : List Item) → filter_map engine_in items ≡ map item_text (engine_items items)
engine_texts [] = refl
engine_texts (item ∷ items) = engine_text_when (is_among engine_names (name_of item)) item items (engine_texts items)

are_engine_when : (b : Bool) (item : Item) (items : List Item) → is_among engine_names (name_of item) ≡ b → are_engine (engine_items items) ≡ true
    → are_engine (cond b (item ∷ engine_items items) (engine_items items)) ≡ true
are_engine_when true item items is later = both_true (is_among engine_names (name_of item)) (are_engine (engine_items items)) is later
are_engine_when false item items is later = later

pub engine_named : (items : List Item) → are_engine (engine_items items) ≡ true
engine_named [] = refl
engine_named (item ∷ items) = are_engine_when (is_among engine_names (name_of item)) item items refl (engine_named items)

-- no row and no refusal has such a name
pub record IsEngine (name : List ℕ) : Type 0 where
  pub row : keyword_of name ≡ None
  pub allowed : is_refused name ≡ false

pub engine_of : (name : List ℕ) → is_among engine_names name ≡ true → IsEngine name
unfolding engine_names keyword_of table link_keywords client_keywords session_keywords tunnel_names outside_names
engine_of name among =
    let one : (name : List ℕ) → keyword_of name ≡ None → is_refused name ≡ false → IsEngine name = λ n row allowed. record { row = row; allowed = allowed } in
    let known : Every IsEngine engine_names = (one _ refl refl, (one _ refl refl, (one _ refl refl, (one _ refl refl, (one _ refl refl, (one _ refl refl, (one _ refl refl, (one _ refl refl, (one _ refl refl, (one _ refl refl, tt)))))))))) in
    by_among IsEngine engine_names name known among

known_by : (a b c : Bool) → b ≡ true → (a || b || c) ≡ true
known_by true b c e = refl
known_by false true c e = refl
known_by false false c e = cc

good_item : (item : Item) → IsSound item → is_among engine_names (name_of item) ≡ true → IsGood item
good_item (Words []) sound among = absurd (omega (arith, sound.can.2))
good_item (Words (name ∷ args)) sound among =
    let e = engine_of name among in
    record { can = sound.can; known = known_by (is_some (keyword_of name)) (is_among engine_names name) (is_idle name) among; allowed = e.allowed; taken = sound.taken; closed = refl }
good_item (Block name None) sound among = absurd sound.can
good_item (Block name (Some bytes)) sound among =
    record { can = sound.can; known = sound.can.0; allowed = (engine_of name among).allowed; taken = refl; closed = refl }

good_when : (b : Bool) (item : Item) (items : List Item) → is_among engine_names (name_of item) ≡ b → IsSound item → AreGood (engine_items items)
    → AreGood (cond b (item ∷ engine_items items) (engine_items items))
good_when true item items is sound later = (good_item item sound is, later)
good_when false item items is sound later = later

pub engine_good : (items : List Item) → AllSound items → AreGood (engine_items items)
engine_good [] sound = tt
engine_good (item ∷ items) sound = good_when (is_among engine_names (name_of item)) item items refl sound.0 (engine_good items sound.1)

-- it may repeat
may_when : (name : List ℕ) → keyword_of name ≡ None → may_repeat name ≡ true
may_when name none = ap (λ (o : Option Keyword). option_map_or (λ keyword. (row_at keyword).repeats) o true) none

pub engine_may : (items : List Item) → are_engine items ≡ true → list_all (λ item. may_repeat (name_of item)) items ≡ true
engine_may [] engine = refl
engine_may (item ∷ items) engine =
    let parts = and_true (is_among engine_names (name_of item)) (are_engine items) engine in
    both_true (may_repeat (name_of item)) (list_all (λ i. may_repeat (name_of i)) items) (may_when (name_of item) (engine_of (name_of item) parts.0).row) (engine_may items parts.1)
