-- The directives that the canonical text has, and how they are found again.
use Rattle.std.proofs.Common.{◌≡◌, ℕ, ◌&&◌, ◌||◌, not, Bool, true, false, cond, List, [], ◌∷◌, ◌++◌, refl, ap, sym, subst, ◌∙◌}
use Rattle.std.specs.Prelude.{Option, Some, None, is_some, bytes_eq, codes, decimal, flat_map, map, filter, filter_map, option_map, option_to_list, if◌then◌else◌}
use Rattle.std.specs.Option.{option_or}
use Rattle.std.specs.List.{list_all, cons_option}
use Rattle.std.proofs.lemmas.List.{append_assoc, append-nil}
use Rattle.std.proofs.lemmas.List.Folds.{find-append}
use Rattle.std.proofs.lemmas.Slice.Eq.{bytes_eq-Decides}
use Rattle.vpn_base.specs.Address.{ip4_text}
use Rattle.vpn_base.specs.Network.{Network}
use Rattle.vpn_base.specs.declared.names.Role.{Role}
use Rattle.vpn_text.specs.Mask.{mask_text}
use Rattle.config_directives.specs.declared.item.Item.{Item}
use Rattle.config_directives.specs.declared.item.Item.TheVariants.{Words, Block}
use Rattle.config_directives.specs.declared.keyword.Keyword.{Keyword}
use Rattle.config_directives.specs.declared.keyword.Keyword.TheVariants as keywords
use Rattle.config_directives.specs.Items.{first_named, is_given, is_named, name_of}
use Rattle.config_directives.specs.Names.{engine_names, is_among, is_refused}
use Rattle.config_directives.specs.Table.{client_keywords, keyword_of, link_keywords, row_at, session_keywords, table}
use Rattle.config_directives.specs.Judging.{is_known, is_taken, is_open, may_repeat}
use Rattle.ovpn_config.specs.declared.settings.Settings.{Settings}
use Rattle.ovpn_config.specs.declared.settings.KeyPlace.{KeyPlace}
use Rattle.ovpn_config.specs.declared.settings.KeyPlace.TheVariants.{Named, Inline}
use Rattle.ovpn_config.specs.Printed.{cipher_names}
use Rattle.ovpn_config.specs.Reading.{is_for_other}
use Rattle.ovpn_config.proofs.CleanText.{and_true, both_true}
use Rattle.ovpn_config.proofs.RoundItems.{AreFine, CanRead, IsFine}

-- the directive of what is there
abbrev pub there : {A : Type 0} → (A → Item) → Option A → List Item
there item value = option_to_list (option_map item value)

abbrev pub network_item : List ℕ → Network → Item
network_item name n = Words (name ∷ ip4_text n.net ∷ mask_text n.len ∷ [])

abbrev pub numbers_item : List ℕ → ℕ × ℕ → Item
numbers_item name t = Words (name ∷ decimal t.0 ∷ decimal t.1 ∷ [])

abbrev pub switch_item : List ℕ → Bool → List Item
switch_item name on = if on then Words (name ∷ []) ∷ [] else []

abbrev pub key_item : KeyPlace → Item
key_item (Named name) = Words (codes "tls-crypt" ∷ name ∷ [])
key_item (Inline bytes) = Block (codes "tls-crypt") (Some bytes)

-- the directives of a row; the first argument is the words of the console
abbrev pub items_at : Option (List (List ℕ)) → Settings → Keyword → List Item
items_at console s keywords.Server = there (λ n. network_item (codes "server") n) s.net
items_at console s keywords.Client = Words (codes "client" ∷ []) ∷ []
items_at console s keywords.Dev = Words (codes "dev" ∷ s.dev ∷ []) ∷ []
items_at console s keywords.Topology = Words (codes "topology" ∷ codes "subnet" ∷ []) ∷ []
items_at console s keywords.Proto = Words (codes "proto" ∷ codes "udp" ∷ []) ∷ []
items_at console s keywords.Port = Words (codes "port" ∷ decimal s.port ∷ []) ∷ []
items_at console s keywords.Local = there (λ a. Words (codes "local" ∷ ip4_text a ∷ [])) s.local
items_at console s keywords.Remote = there (λ a. Words (codes "remote" ∷ ip4_text a.ip ∷ decimal a.port ∷ [])) s.remote
items_at console s keywords.TlsCrypt = key_item s.key ∷ []
items_at console s keywords.Keepalive = there (λ t. numbers_item (codes "keepalive") t) s.keepalive
items_at console s keywords.ClientConfigDir = there (λ t. Words (codes "client-config-dir" ∷ t ∷ [])) s.ccd
items_at console s keywords.CcdExclusive = switch_item (codes "ccd-exclusive") s.exclusive
items_at console s keywords.ClientToClient = switch_item (codes "client-to-client") s.between
items_at console s keywords.DuplicateCn = switch_item (codes "duplicate-cn") s.duplicate
items_at console s keywords.MaxClients = Words (codes "max-clients" ∷ decimal s.max_clients ∷ []) ∷ []
items_at console s keywords.Push = map (λ t. Words (codes "push" ∷ t ∷ [])) s.pushes
items_at console s keywords.Route = map (λ n. network_item (codes "route") n) s.routes
items_at console s keywords.DataCiphers = Words (codes "data-ciphers" ∷ cipher_names s.ciphers ∷ []) ∷ []
items_at console s keywords.RenegSec = Words (codes "reneg-sec" ∷ decimal s.timers.reneg ∷ []) ∷ []
items_at console s keywords.TranWindow = Words (codes "tran-window" ∷ decimal s.timers.tran ∷ []) ∷ []
items_at console s keywords.HandWindow = Words (codes "hand-window" ∷ decimal s.timers.hand ∷ []) ∷ []
items_at console s keywords.TlsTimeout = Words (codes "tls-timeout" ∷ decimal s.timers.timeout ∷ []) ∷ []
items_at console s keywords.ReplayWindow = numbers_item (codes "replay-window") (s.timers.win, s.timers.win_secs) ∷ []
items_at console s keywords.Management = there (λ words. Words (codes "management" ∷ words)) console

-- those that stand in a file of this side
abbrev pub items_on : Role → Option (List (List ℕ)) → Settings → Keyword → List Item
items_on role console s keyword = if is_for_other role keyword then [] else items_at console s keyword

-- each of them has the name
abbrev pub are_named : List ℕ → List Item → Bool
are_named name items = list_all (λ item. bytes_eq (name_of item) name) items

there_named : {A : Type 0} (item : A → Item) (name : List ℕ) (value : Option A) → ((a : A) → bytes_eq (name_of (item a)) name ≡ true)
    → are_named name (there item value) ≡ true
there_named item name None named = refl
there_named item name (Some a) named = both_true (bytes_eq (name_of (item a)) name) true (named a) refl

map_named : {A : Type 0} (item : A → Item) (name : List ℕ) (values : List A) → ((a : A) → bytes_eq (name_of (item a)) name ≡ true)
    → are_named name (map item values) ≡ true
map_named item name [] named = refl
map_named item name (a ∷ values) named = both_true (bytes_eq (name_of (item a)) name) (are_named name (map item values)) (named a) (map_named item name values named)

switch_named : (name : List ℕ) (on : Bool) → bytes_eq name name ≡ true → are_named name (switch_item name on) ≡ true
switch_named name true same = both_true (bytes_eq name name) true same refl
switch_named name false same = refl

key_named : (key : KeyPlace) → are_named (codes "tls-crypt") (key_item key ∷ []) ≡ true
key_named (Named name) = refl
key_named (Inline bytes) = refl

pub at_named : (console : Option (List (List ℕ))) (s : Settings) (keyword : Keyword) → are_named (row_at keyword).name (items_at console s keyword) ≡ true
at_named console s keywords.Server = there_named (λ n. network_item (codes "server") n) (codes "server") s.net (λ a. refl)
at_named console s keywords.Client = refl
at_named console s keywords.Dev = refl
at_named console s keywords.Topology = refl
at_named console s keywords.Proto = refl
at_named console s keywords.Port = refl
at_named console s keywords.Local = there_named (λ a. Words (codes "local" ∷ ip4_text a ∷ [])) (codes "local") s.local (λ a. refl)
at_named console s keywords.Remote = there_named (λ a. Words (codes "remote" ∷ ip4_text a.ip ∷ decimal a.port ∷ [])) (codes "remote") s.remote (λ a. refl)
at_named console s keywords.TlsCrypt = key_named s.key
at_named console s keywords.Keepalive = there_named (λ t. numbers_item (codes "keepalive") t) (codes "keepalive") s.keepalive (λ a. refl)
at_named console s keywords.ClientConfigDir = there_named (λ t. Words (codes "client-config-dir" ∷ t ∷ [])) (codes "client-config-dir") s.ccd (λ a. refl)
at_named console s keywords.CcdExclusive = switch_named (codes "ccd-exclusive") s.exclusive refl
at_named console s keywords.ClientToClient = switch_named (codes "client-to-client") s.between refl
at_named console s keywords.DuplicateCn = switch_named (codes "duplicate-cn") s.duplicate refl
at_named console s keywords.MaxClients = refl
at_named console s keywords.Push = map_named (λ t. Words (codes "push" ∷ t ∷ [])) (codes "push") s.pushes (λ a. refl)
at_named console s keywords.Route = map_named (λ n. network_item (codes "route") n) (codes "route") s.routes (λ a. refl)
at_named console s keywords.DataCiphers = refl
at_named console s keywords.RenegSec = refl
at_named console s keywords.TranWindow = refl
at_named console s keywords.HandWindow = refl
at_named console s keywords.TlsTimeout = refl
at_named console s keywords.ReplayWindow = refl
at_named console s keywords.Management = there_named (λ words. Words (codes "management" ∷ words)) (codes "management") console (λ a. refl)

named_when : (b : Bool) (name : List ℕ) (items : List Item) → are_named name items ≡ true → are_named name (cond b [] items) ≡ true
named_when true name items named = refl
named_when false name items named = named

pub on_named : (role : Role) (console : Option (List (List ℕ))) (s : Settings) (keyword : Keyword) → are_named (row_at keyword).name (items_on role console s keyword) ≡ true
on_named role console s keyword = named_when (is_for_other role keyword) (row_at keyword).name (items_at console s keyword) (at_named console s keyword)

-- none or one
abbrev pub is_short : List Item → Bool
is_short [] = true
is_short (item ∷ []) = true
is_short _ = false

-- a directive that may not repeat stands once at most
abbrev pub is_single : Keyword → List Item → Bool
is_single keyword items = (row_at keyword).repeats || is_short items

there_short : {A : Type 0} (item : A → Item) (value : Option A) → is_short (there item value) ≡ true
there_short item None = refl
there_short item (Some a) = refl

switch_short : (name : List ℕ) (on : Bool) → is_short (switch_item name on) ≡ true
switch_short name true = refl
switch_short name false = refl

at_single : (console : Option (List (List ℕ))) (s : Settings) (keyword : Keyword) → is_single keyword (items_at console s keyword) ≡ true
at_single console s keywords.Server = there_short (λ n. network_item (codes "server") n) s.net
at_single console s keywords.Client = refl
at_single console s keywords.Dev = refl
at_single console s keywords.Topology = refl
at_single console s keywords.Proto = refl
at_single console s keywords.Port = refl
at_single console s keywords.Local = there_short (λ a. Words (codes "local" ∷ ip4_text a ∷ [])) s.local
at_single console s keywords.Remote = refl
at_single console s keywords.TlsCrypt = refl
at_single console s keywords.Keepalive = there_short (λ t. numbers_item (codes "keepalive") t) s.keepalive
at_single console s keywords.ClientConfigDir = there_short (λ t. Words (codes "client-config-dir" ∷ t ∷ [])) s.ccd
at_single console s keywords.CcdExclusive = switch_short (codes "ccd-exclusive") s.exclusive
at_single console s keywords.ClientToClient = switch_short (codes "client-to-client") s.between
at_single console s keywords.DuplicateCn = switch_short (codes "duplicate-cn") s.duplicate
at_single console s keywords.MaxClients = refl
at_single console s keywords.Push = refl
at_single console s keywords.Route = refl
at_single console s keywords.DataCiphers = refl
at_single console s keywords.RenegSec = refl
at_single console s keywords.TranWindow = refl
at_single console s keywords.HandWindow = refl
at_single console s keywords.TlsTimeout = refl
at_single console s keywords.ReplayWindow = refl
at_single console s keywords.Management = there_short (λ words. Words (codes "management" ∷ words)) console

or_true : (b : Bool) → (b || true) ≡ true
or_true true = refl
or_true false = refl

single_when : (b : Bool) (keyword : Keyword) (items : List Item) → is_single keyword items ≡ true → is_single keyword (cond b [] items) ≡ true
single_when true keyword items single = or_true (row_at keyword).repeats
single_when false keyword items single = single

pub on_single : (role : Role) (console : Option (List (List ℕ))) (s : Settings) (keyword : Keyword) → is_single keyword (items_on role console s keyword) ≡ true
on_single role console s keyword = single_when (is_for_other role keyword) keyword (items_at console s keyword) (at_single console s keyword)

-- what the table says of its own names
pub may_repeat_at : (keyword : Keyword) → may_repeat (row_at keyword).name ≡ (row_at keyword).repeats
unfolding keyword_of table link_keywords client_keywords session_keywords
may_repeat_at keywords.Server = refl
may_repeat_at keywords.Client = refl
may_repeat_at keywords.Dev = refl
may_repeat_at keywords.Topology = refl
may_repeat_at keywords.Proto = refl
may_repeat_at keywords.Port = refl
may_repeat_at keywords.Local = refl
may_repeat_at keywords.Remote = refl
may_repeat_at keywords.TlsCrypt = refl
may_repeat_at keywords.Keepalive = refl
may_repeat_at keywords.ClientConfigDir = refl
may_repeat_at keywords.CcdExclusive = refl
may_repeat_at keywords.ClientToClient = refl
may_repeat_at keywords.DuplicateCn = refl
may_repeat_at keywords.MaxClients = refl
may_repeat_at keywords.Push = refl
may_repeat_at keywords.Route = refl
may_repeat_at keywords.DataCiphers = refl
may_repeat_at keywords.RenegSec = refl
may_repeat_at keywords.TranWindow = refl
may_repeat_at keywords.HandWindow = refl
may_repeat_at keywords.TlsTimeout = refl
may_repeat_at keywords.ReplayWindow = refl
may_repeat_at keywords.Management = refl

pub keyword_at : (keyword : Keyword) → keyword_of (row_at keyword).name ≡ Some keyword
unfolding keyword_of table link_keywords client_keywords session_keywords
keyword_at keywords.Server = refl
keyword_at keywords.Client = refl
keyword_at keywords.Dev = refl
keyword_at keywords.Topology = refl
keyword_at keywords.Proto = refl
keyword_at keywords.Port = refl
keyword_at keywords.Local = refl
keyword_at keywords.Remote = refl
keyword_at keywords.TlsCrypt = refl
keyword_at keywords.Keepalive = refl
keyword_at keywords.ClientConfigDir = refl
keyword_at keywords.CcdExclusive = refl
keyword_at keywords.ClientToClient = refl
keyword_at keywords.DuplicateCn = refl
keyword_at keywords.MaxClients = refl
keyword_at keywords.Push = refl
keyword_at keywords.Route = refl
keyword_at keywords.DataCiphers = refl
keyword_at keywords.RenegSec = refl
keyword_at keywords.TranWindow = refl
keyword_at keywords.HandWindow = refl
keyword_at keywords.TlsTimeout = refl
keyword_at keywords.ReplayWindow = refl
keyword_at keywords.Management = refl

pub not_engine : (keyword : Keyword) → is_among engine_names (row_at keyword).name ≡ false
unfolding engine_names
not_engine keywords.Server = refl
not_engine keywords.Client = refl
not_engine keywords.Dev = refl
not_engine keywords.Topology = refl
not_engine keywords.Proto = refl
not_engine keywords.Port = refl
not_engine keywords.Local = refl
not_engine keywords.Remote = refl
not_engine keywords.TlsCrypt = refl
not_engine keywords.Keepalive = refl
not_engine keywords.ClientConfigDir = refl
not_engine keywords.CcdExclusive = refl
not_engine keywords.ClientToClient = refl
not_engine keywords.DuplicateCn = refl
not_engine keywords.MaxClients = refl
not_engine keywords.Push = refl
not_engine keywords.Route = refl
not_engine keywords.DataCiphers = refl
not_engine keywords.RenegSec = refl
not_engine keywords.TranWindow = refl
not_engine keywords.HandWindow = refl
not_engine keywords.TlsTimeout = refl
not_engine keywords.ReplayWindow = refl
not_engine keywords.Management = refl

-- the names of directives are different
abbrev pub is_apart : Keyword → List Keyword → Bool
is_apart keyword others = list_all (λ other. not (bytes_eq (row_at keyword).name (row_at other).name)) others

abbrev pub are_apart : List Keyword → Bool
are_apart [] = true
are_apart (keyword ∷ others) = is_apart keyword others && are_apart others

pub table_apart : are_apart table ≡ true
unfolding table link_keywords client_keywords session_keywords
table_apart = refl

not_true : (b : Bool) → not b ≡ true → b ≡ false
not_true true e = cc
not_true false e = refl

-- items of one name have no other
pub none_named : (name other : List ℕ) (items : List Item) → are_named name items ≡ true → bytes_eq name other ≡ false → first_named other items ≡ None
none_named name other [] named apart = refl
none_named name other (item ∷ items) named apart =
    let parts = and_true (bytes_eq (name_of item) name) (are_named name items) named in
    let same : name_of item ≡ name = (bytes_eq-Decides (name_of item) name).0 parts.0 in
    let here : bytes_eq (name_of item) other ≡ false = ap (λ (n : List ℕ). bytes_eq n other) same ∙ apart in
    ap (λ (b : Bool). cond b (Some item) (first_named other items)) here ∙ none_named name other items parts.1 apart

-- what is true of the directives of the canonical text, but that each stands once
pub record IsGood (item : Item) : Type 0 where
  pub can : CanRead item
  pub known : is_known item ≡ true
  pub allowed : is_refused (name_of item) ≡ false
  pub taken : is_taken item ≡ true
  pub closed : is_open item ≡ false

abbrev pub AreGood : List Item → Type 0
AreGood [] = Unit {0}
AreGood (item ∷ items) = IsGood item × AreGood items

fine_of : (before : List Item) (item : Item) → IsGood item → (not (may_repeat (name_of item)) && is_given (name_of item) before) ≡ false → IsFine before item
fine_of before item good single = record {
  can = good.can;
  known = good.known;
  allowed = good.allowed;
  taken = good.taken;
  single = single;
  closed = good.closed;
}

may_not : (m g : Bool) → m ≡ true → (not m && g) ≡ false
may_not m g may = rw may refl

pub repeated_fine : (before items rest : List Item) → AreGood items → list_all (λ item. may_repeat (name_of item)) items ≡ true
    → AreFine (before ++ items) rest → AreFine before (items ++ rest)
repeated_fine before [] rest good may later = subst (λ (b : List Item). AreFine b rest) (append-nil before) later
repeated_fine before (item ∷ items) rest good may later =
    let parts = and_true (may_repeat (name_of item)) (list_all (λ i. may_repeat (name_of i)) items) may in (
      fine_of before item good.0 (may_not (may_repeat (name_of item)) (is_given (name_of item) before) parts.0),
      repeated_fine (before ++ item ∷ []) items rest good.1 parts.1
          (subst (λ (b : List Item). AreFine b rest) (sym (append_assoc before (item ∷ []) items)) later),
    )

named_may : (name : List ℕ) (items : List Item) → are_named name items ≡ true → may_repeat name ≡ true → list_all (λ item. may_repeat (name_of item)) items ≡ true
named_may name [] named may = refl
named_may name (item ∷ items) named may =
    let parts = and_true (bytes_eq (name_of item) name) (are_named name items) named in
    let same : name_of item ≡ name = (bytes_eq-Decides (name_of item) name).0 parts.0 in
    both_true (may_repeat (name_of item)) (list_all (λ i. may_repeat (name_of i)) items) (ap may_repeat same ∙ may) (named_may name items parts.1 may)

not_given : (m g : Bool) → g ≡ false → (not m && g) ≡ false
not_given true g none = refl
not_given false g none = none

short_fine : (before items rest : List Item) (name : List ℕ) → is_short items ≡ true → are_named name items ≡ true → is_given name before ≡ false → AreGood items
    → AreFine (before ++ items) rest → AreFine before (items ++ rest)
short_fine before [] rest name short named unseen good later = subst (λ (b : List Item). AreFine b rest) (append-nil before) later
short_fine before (item ∷ []) rest name short named unseen good later =
    let same : name_of item ≡ name = (bytes_eq-Decides (name_of item) name).0 (and_true (bytes_eq (name_of item) name) true named).0 in
    (fine_of before item good.0 (not_given (may_repeat (name_of item)) (is_given (name_of item) before) (ap (λ (n : List ℕ). is_given n before) same ∙ unseen)), later)
short_fine before (item ∷ next ∷ items) rest name short named unseen good later = cc

pub row_fine : (before items rest : List Item) (keyword : Keyword) (repeats : Bool) → (row_at keyword).repeats ≡ repeats → (repeats || is_short items) ≡ true
    → are_named (row_at keyword).name items ≡ true → is_given (row_at keyword).name before ≡ false → AreGood items
    → AreFine (before ++ items) rest → AreFine before (items ++ rest)
row_fine before items rest keyword true is single named unseen good later =
    repeated_fine before items rest good (named_may (row_at keyword).name items named (may_repeat_at keyword ∙ is)) later
row_fine before items rest keyword false is single named unseen good later =
    short_fine before items rest (row_at keyword).name single named unseen good later

-- none of these names is there
abbrev pub are_unseen : List Item → List Keyword → Bool
are_unseen before rows = list_all (λ keyword. not (is_given (row_at keyword).name before)) rows

or_none : (o : Option Item) → is_some o ≡ false → is_some (option_or o None) ≡ false
or_none None none = refl
or_none (Some item) none = cc

still_unseen : (before items : List Item) (name other : List ℕ) → is_given other before ≡ false → are_named name items ≡ true → bytes_eq name other ≡ false
    → is_given other (before ++ items) ≡ false
still_unseen before items name other unseen named apart =
    ap is_some (find-append (is_named other) before items ∙ ap (option_or (first_named other before)) (none_named name other items named apart)) ∙ or_none (first_named other before) unseen

unseen_after : (before items : List Item) (keyword : Keyword) (rows : List Keyword) → are_unseen before rows ≡ true → is_apart keyword rows ≡ true
    → are_named (row_at keyword).name items ≡ true → are_unseen (before ++ items) rows ≡ true
unseen_after before items keyword [] unseen apart named = refl
unseen_after before items keyword (other ∷ rows) unseen apart named =
    let u = and_true (not (is_given (row_at other).name before)) (are_unseen before rows) unseen in
    let a = and_true (not (bytes_eq (row_at keyword).name (row_at other).name)) (is_apart keyword rows) apart in
    both_true (not (is_given (row_at other).name (before ++ items))) (are_unseen (before ++ items) rows)
    (ap not (still_unseen before items (row_at keyword).name (row_at other).name (not_true _ u.0) named (not_true _ a.0)))
    (unseen_after before items keyword rows u.1 a.1 named)

-- the whole table, then more that may repeat
pub table_fine : (items : Keyword → List Item) (rows : List Keyword) (before more : List Item) → ((k : Keyword) → AreGood (items k))
    → ((k : Keyword) → are_named (row_at k).name (items k) ≡ true) → ((k : Keyword) → is_single k (items k) ≡ true)
    → are_apart rows ≡ true → are_unseen before rows ≡ true → AreGood more → list_all (λ item. may_repeat (name_of item)) more ≡ true
    → AreFine before (flat_map items rows ++ more)
table_fine items [] before more good named single apart unseen extra may =
    subst (λ (l : List Item). AreFine before l) (append-nil more) (repeated_fine before more [] extra may tt)
table_fine items (keyword ∷ rows) before more good named single apart unseen extra may =
    let a = and_true (is_apart keyword rows) (are_apart rows) apart in
    let u = and_true (not (is_given (row_at keyword).name before)) (are_unseen before rows) unseen in
    subst (AreFine before) (sym (append_assoc (items keyword) (flat_map items rows) more))
    (row_fine before (items keyword) (flat_map items rows ++ more) keyword (row_at keyword).repeats refl (single keyword) (named keyword)
    (not_true _ u.0) (good keyword)
    (table_fine items rows (before ++ items keyword) more good named single a.1
    (unseen_after before (items keyword) keyword rows u.1 a.0 (named keyword)) extra may))

-- the directive of a name, by the rows of that name
abbrev pub rows_named : List ℕ → List Keyword → List Keyword
rows_named name rows = filter (λ keyword. bytes_eq (row_at keyword).name name) rows

found_when : (b : Bool) (items : Keyword → List Item) (keyword : Keyword) (rows : List Keyword) (name : List ℕ) (more : List Item)
    → bytes_eq (row_at keyword).name name ≡ b → are_named (row_at keyword).name (items keyword) ≡ true
    → first_named name (flat_map items rows ++ more) ≡ first_named name (flat_map items (rows_named name rows))
    → option_or (first_named name (items keyword)) (first_named name (flat_map items rows ++ more))
    ≡ first_named name (flat_map items (cond b (keyword ∷ rows_named name rows) (rows_named name rows)))
found_when true items keyword rows name more is named later =
    ap (option_or (first_named name (items keyword))) later ∙ sym (find-append (is_named name) (items keyword) (flat_map items (rows_named name rows)))
found_when false items keyword rows name more is named later =
    ap (λ (o : Option Item). option_or o (first_named name (flat_map items rows ++ more))) (none_named (row_at keyword).name name (items keyword) named is) ∙ later

pub first_in_table : (items : Keyword → List Item) (rows : List Keyword) (name : List ℕ) (more : List Item)
    → ((k : Keyword) → are_named (row_at k).name (items k) ≡ true) → first_named name more ≡ None
    → first_named name (flat_map items rows ++ more) ≡ first_named name (flat_map items (rows_named name rows))
first_in_table items [] name more named none = none
first_in_table items (keyword ∷ rows) name more named none =
    ap (first_named name) (append_assoc (items keyword) (flat_map items rows) more)
    ∙ find-append (is_named name) (items keyword) (flat_map items rows ++ more)
    ∙ found_when (bytes_eq (row_at keyword).name name) items keyword rows name more refl (named keyword) (first_in_table items rows name more named none)

cons_append : {B : Type 0} (o : Option B) (xs ys : List B) → cons_option o (xs ++ ys) ≡ cons_option o xs ++ ys
cons_append None xs ys = refl
cons_append (Some b) xs ys = refl

-- the same for what each directive of a name gives
pub given_none : {A : Type 0} (f : Item → Option A) (name other : List ℕ) (items : List Item) → ((i : Item) → bytes_eq (name_of i) name ≡ false → f i ≡ None)
    → are_named other items ≡ true → bytes_eq other name ≡ false → filter_map f items ≡ []
given_none f name other [] only named apart = refl
given_none {A} f name other (item ∷ items) only named apart =
    let parts = and_true (bytes_eq (name_of item) other) (are_named other items) named in
    let same : name_of item ≡ other = (bytes_eq-Decides (name_of item) other).0 parts.0 in
    let here : f item ≡ None = only item (ap (λ (n : List ℕ). bytes_eq n name) same ∙ apart) in
    ap (λ (o : Option A). cons_option o (filter_map f items)) here ∙ given_none f name other items only parts.1 apart

pub filter_map-append : {A B : Type 0} (f : A → Option B) (xs ys : List A) → filter_map f (xs ++ ys) ≡ filter_map f xs ++ filter_map f ys
filter_map-append f [] ys = refl
filter_map-append {A} {B} f (x ∷ xs) ys = ap (cons_option (f x)) (filter_map-append f xs ys) ∙ cons_append (f x) (filter_map f xs) (filter_map f ys)

-- a directive of the table is found again in the whole
pub rows_at : (keyword : Keyword) → rows_named (row_at keyword).name table ≡ keyword ∷ []
unfolding table link_keywords client_keywords session_keywords
rows_at keywords.Server = refl
rows_at keywords.Client = refl
rows_at keywords.Dev = refl
rows_at keywords.Topology = refl
rows_at keywords.Proto = refl
rows_at keywords.Port = refl
rows_at keywords.Local = refl
rows_at keywords.Remote = refl
rows_at keywords.TlsCrypt = refl
rows_at keywords.Keepalive = refl
rows_at keywords.ClientConfigDir = refl
rows_at keywords.CcdExclusive = refl
rows_at keywords.ClientToClient = refl
rows_at keywords.DuplicateCn = refl
rows_at keywords.MaxClients = refl
rows_at keywords.Push = refl
rows_at keywords.Route = refl
rows_at keywords.DataCiphers = refl
rows_at keywords.RenegSec = refl
rows_at keywords.TranWindow = refl
rows_at keywords.HandWindow = refl
rows_at keywords.TlsTimeout = refl
rows_at keywords.ReplayWindow = refl
rows_at keywords.Management = refl

pub found_at : (items : Keyword → List Item) (more : List Item) (keyword : Keyword) → ((k : Keyword) → are_named (row_at k).name (items k) ≡ true)
    → first_named (row_at keyword).name more ≡ None
    → first_named (row_at keyword).name (flat_map items table ++ more) ≡ first_named (row_at keyword).name (items keyword)
found_at items more keyword named none =
    let name = (row_at keyword).name in
    first_in_table items table name more named none
    ∙ ap (λ (rows : List Keyword). first_named name (flat_map items rows)) (rows_at keyword)
    ∙ ap (first_named name) (append-nil (items keyword))

-- what is for the TLS engine has no name of the table
abbrev pub are_engine : List Item → Bool
are_engine items = list_all (λ item. is_among engine_names (name_of item)) items

engine_other : (name known : List ℕ) (b : Bool) → bytes_eq name known ≡ b → is_among engine_names name ≡ true → is_among engine_names known ≡ false → b ≡ false
engine_other name known true is among not =
    let same : name ≡ known = (bytes_eq-Decides name known).0 is in
    let both : true ≡ false = sym among ∙ ap (is_among engine_names) same ∙ not in cc
engine_other name known false is among not = refl

pub engine_none : (keyword : Keyword) (more : List Item) → are_engine more ≡ true → first_named (row_at keyword).name more ≡ None
engine_none keyword [] engine = refl
engine_none keyword (item ∷ more) engine =
    let parts = and_true (is_among engine_names (name_of item)) (are_engine more) engine in
    let other : bytes_eq (name_of item) (row_at keyword).name ≡ false =
    engine_other (name_of item) (row_at keyword).name (bytes_eq (name_of item) (row_at keyword).name) refl parts.0 (not_engine keyword) in
    ap (λ (b : Bool). cond b (Some item) (first_named (row_at keyword).name more)) other ∙ engine_none keyword more parts.1

-- what the directives of a name give, of the whole
gathered_when : {A : Type 0} (b : Bool) (f : Item → Option A) (items : Keyword → List Item) (keyword : Keyword) (rows : List Keyword) (name : List ℕ)
    (more : List Item) → bytes_eq (row_at keyword).name name ≡ b → ((i : Item) → bytes_eq (name_of i) name ≡ false → f i ≡ None)
    → are_named (row_at keyword).name (items keyword) ≡ true
    → filter_map f (items keyword) ++ (filter_map f (flat_map items (rows_named name rows)) ++ filter_map f more)
    ≡ filter_map f (flat_map items (cond b (keyword ∷ rows_named name rows) (rows_named name rows))) ++ filter_map f more
gathered_when {A} true f items keyword rows name more is only named =
    sym (append_assoc (filter_map f (items keyword)) (filter_map f (flat_map items (rows_named name rows))) (filter_map f more))
    ∙ ap (λ (l : List A). l ++ filter_map f more) (sym (filter_map-append f (items keyword) (flat_map items (rows_named name rows))))
gathered_when {A} false f items keyword rows name more is only named =
    ap (λ (l : List A). l ++ (filter_map f (flat_map items (rows_named name rows)) ++ filter_map f more))
    (given_none f name (row_at keyword).name (items keyword) only named is)

pub gathered : {A : Type 0} (f : Item → Option A) (items : Keyword → List Item) (rows : List Keyword) (name : List ℕ) (more : List Item)
    → ((i : Item) → bytes_eq (name_of i) name ≡ false → f i ≡ None) → ((k : Keyword) → are_named (row_at k).name (items k) ≡ true)
    → filter_map f (flat_map items rows ++ more) ≡ filter_map f (flat_map items (rows_named name rows)) ++ filter_map f more
gathered f items [] name more only named = refl
gathered {A} f items (keyword ∷ rows) name more only named =
    ap (filter_map f) (append_assoc (items keyword) (flat_map items rows) more)
    ∙ filter_map-append f (items keyword) (flat_map items rows ++ more)
    ∙ ap (λ (l : List A). filter_map f (items keyword) ++ l) (gathered f items rows name more only named)
    ∙ gathered_when (bytes_eq (row_at keyword).name name) f items keyword rows name more refl only (named keyword)

-- what is for the TLS engine gives nothing that a directive of the table gives
pub engine_gives : {A : Type 0} (f : Item → Option A) (keyword : Keyword) (more : List Item) → ((i : Item) → bytes_eq (name_of i) (row_at keyword).name ≡ false → f i ≡ None)
    → are_engine more ≡ true → filter_map f more ≡ []
engine_gives f keyword [] only engine = refl
engine_gives {A} f keyword (item ∷ more) only engine =
    let parts = and_true (is_among engine_names (name_of item)) (are_engine more) engine in
    let other : bytes_eq (name_of item) (row_at keyword).name ≡ false =
    engine_other (name_of item) (row_at keyword).name (bytes_eq (name_of item) (row_at keyword).name) refl parts.0 (not_engine keyword) in
    ap (λ (o : Option A). cons_option o (filter_map f more)) (only item other) ∙ engine_gives f keyword more only parts.1
