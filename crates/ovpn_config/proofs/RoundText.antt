-- The canonical text is that of its directives, and they are read again.
use Rattle.std.proofs.Common.{◌≡◌, ℕ, ◌&&◌, not, Bool, true, false, cond, List, [], ◌∷◌, ◌++◌, refl, ap, sym, subst, ◌∙◌, arith}
use Rattle.std.specs.Prelude.{Option, Some, None, Ok, is_some, bytes_eq, codes, decimal, find, flat_map, map, option_map}
use Rattle.std.specs.Option.{option_map_or}
use Rattle.std.specs.List.{list_all}
use Rattle.std.proofs.lemmas.List.{append_assoc}
use Rattle.std.proofs.lemmas.Slice.Eq.{bytes_eq-Decides}
use Rattle.vpn_base.specs.declared.address.Addr.{Addr}
use Rattle.vpn_base.specs.declared.names.Role.{Role}
use Rattle.vpn_base.specs.declared.names.Role.TheVariants.{Server, Client}
use Rattle.vpn_base.specs.Address.{ip4_text}
use Rattle.vpn_base.specs.Network.{Network}
use Rattle.vpn_base.specs.Lines.{lines_of}
use Rattle.vpn_text.specs.Quoted.{quoted}
use Rattle.config_directives.specs.declared.item.Item.{Item}
use Rattle.config_directives.specs.declared.item.Item.TheVariants.{Words}
use Rattle.config_directives.specs.declared.item.Directive.{Directive}
use Rattle.config_directives.specs.declared.keyword.Keyword.{Keyword}
use Rattle.config_directives.specs.declared.keyword.Keyword.TheVariants as keywords
use Rattle.config_directives.specs.Items.{first_named, is_given, items_of, name_of}
use Rattle.config_directives.specs.Arguments.{is_console}
use Rattle.config_directives.specs.Names.{engine_names, is_among}
use Rattle.config_directives.specs.Table.{client_keywords, keyword_of, link_keywords, row_at, session_keywords, table}
use Rattle.config_directives.specs.Entries.{entries}
use Rattle.config_directives.specs.Judging.{judged}
use Rattle.ovpn_config.specs.declared.settings.Settings.{Settings}
use Rattle.ovpn_config.specs.declared.settings.KeyPlace.{KeyPlace}
use Rattle.ovpn_config.specs.declared.settings.KeyPlace.TheVariants.{Named, Inline}
use Rattle.ovpn_config.specs.Spelling.{item_text, words_text}
use Rattle.ovpn_config.specs.Printed.{if_there, key_text, printed, remote_text, switched, with_network, with_numbers, with_word}
use Rattle.ovpn_config.specs.Reading.{is_astray, is_for_other, missing, side_of_file}
use Rattle.ovpn_config.specs.Canonical.{KeepsLimits, canonical, ended, lines_with, written}
use Rattle.ovpn_config.specs.internal.Laws.{Laws}
use Rattle.ovpn_config.proofs.CleanText.{all-append, and_true, both_true}
use Rattle.ovpn_config.proofs.RoundLines.{Fits}
use Rattle.ovpn_config.proofs.RoundItems.{AreFine, items_text, read_items}
use Rattle.ovpn_config.proofs.RoundTable.{are_engine, are_named, are_unseen, at_named, engine_none, found_at, items_at, items_on, key_item, keyword_at, network_item, numbers_item, on_named, on_single, switch_item, table_apart, table_fine, there}
use Rattle.ovpn_config.proofs.RoundFacts.{Holds, engine_may, engine_of}
use Rattle.ovpn_config.proofs.RoundLawful.{IsLawful, OnSide}
use Rattle.ovpn_config.proofs.RoundGood.{good_on}

-- the text of several directives
pub items_text-append : (xs ys : List Item) → items_text (xs ++ ys) ≡ items_text xs ++ items_text ys
items_text-append [] ys = refl
items_text-append (x ∷ xs) ys =
    ap (λ (t : List ℕ). ended (item_text x) ++ t) (items_text-append xs ys) ∙ sym (append_assoc (ended (item_text x)) (items_text xs) (items_text ys))

there_text : {A : Type 0} (text : A → List ℕ) (item : A → Item) (value : Option A) → ((a : A) → text a ≡ item_text (item a))
    → lines_with (if_there text value) ≡ items_text (there item value)
there_text text item None same = refl
there_text text item (Some a) same = ap (λ (t : List ℕ). ended t ++ []) (same a)

map_text : {A : Type 0} (text : A → List ℕ) (item : A → Item) (values : List A) → ((a : A) → text a ≡ item_text (item a))
    → lines_with (map text values) ≡ items_text (map item values)
map_text text item [] same = refl
map_text text item (a ∷ values) same =
    ap (λ (t : List ℕ). ended t ++ lines_with (map text values)) (same a)
    ∙ ap (λ (t : List ℕ). ended (item_text (item a)) ++ t) (map_text text item values same)

switch_text : (name : List ℕ) (on : Bool) → lines_with (switched name on) ≡ items_text (switch_item name on)
switch_text name true = refl
switch_text name false = refl

key_lines : (key : KeyPlace) → lines_with (key_text key ∷ []) ≡ items_text (key_item key ∷ [])
key_lines (Named name) = refl
key_lines (Inline bytes) = refl

console_text : (words : Option (List (List ℕ))) → Holds keywords.Management words
    → lines_with (if_there (λ (place : List ℕ). codes "management " ++ place) (option_map words_text words)) ≡ items_text (there (λ w. Words (codes "management" ∷ w)) words)
unfolding quoted
console_text None holds = refl
console_text (Some []) holds = let no : is_console [] ≡ true = holds.0 in cc
console_text (Some (a ∷ words)) holds = refl

text_at : (side : Role) (words : Option (List (List ℕ))) (passed : List Item) (s : Settings) → IsLawful side words passed s
    → (keyword : Keyword) → lines_with (printed keyword s) ≡ items_text (items_at words s keyword)
text_at side words passed s is keywords.Server = there_text (with_network (codes "server")) (λ n. network_item (codes "server") n) s.net (λ a. refl)
text_at side words passed s is keywords.Client = refl
text_at side words passed s is keywords.Dev = refl
text_at side words passed s is keywords.Topology = refl
text_at side words passed s is keywords.Proto = refl
text_at side words passed s is keywords.Port = refl
text_at side words passed s is keywords.Local = there_text (λ a. with_word (codes "local") (ip4_text a)) (λ a. Words (codes "local" ∷ ip4_text a ∷ [])) s.local (λ a. refl)
text_at side words passed s is keywords.Remote = there_text remote_text (λ a. Words (codes "remote" ∷ ip4_text a.ip ∷ decimal a.port ∷ [])) s.remote (λ a. refl)
text_at side words passed s is keywords.TlsCrypt = key_lines s.key
text_at side words passed s is keywords.Keepalive = there_text (with_numbers (codes "keepalive")) (λ t. numbers_item (codes "keepalive") t) s.keepalive (λ a. refl)
text_at side words passed s is keywords.ClientConfigDir = there_text (with_word (codes "client-config-dir")) (λ t. Words (codes "client-config-dir" ∷ t ∷ [])) s.ccd (λ a. refl)
text_at side words passed s is keywords.CcdExclusive = switch_text (codes "ccd-exclusive") s.exclusive
text_at side words passed s is keywords.ClientToClient = switch_text (codes "client-to-client") s.between
text_at side words passed s is keywords.DuplicateCn = switch_text (codes "duplicate-cn") s.duplicate
text_at side words passed s is keywords.MaxClients = refl
text_at side words passed s is keywords.Push = map_text (with_word (codes "push")) (λ t. Words (codes "push" ∷ t ∷ [])) s.pushes (λ a. refl)
text_at side words passed s is keywords.Route = map_text (with_network (codes "route")) (λ n. network_item (codes "route") n) s.routes (λ a. refl)
text_at side words passed s is keywords.DataCiphers = refl
text_at side words passed s is keywords.RenegSec = refl
text_at side words passed s is keywords.TranWindow = refl
text_at side words passed s is keywords.HandWindow = refl
text_at side words passed s is keywords.TlsTimeout = refl
text_at side words passed s is keywords.ReplayWindow = refl
text_at side words passed s is keywords.Management = ap (λ (o : Option (List ℕ)). lines_with (if_there (λ (place : List ℕ). codes "management " ++ place) o)) is.console ∙ console_text words is.console_words

text_when : (b : Bool) (texts : List (List ℕ)) (items : List Item) → lines_with texts ≡ items_text items → lines_with (cond b [] texts) ≡ items_text (cond b [] items)
text_when true texts items same = refl
text_when false texts items same = same

text_on : (side : Role) (words : Option (List (List ℕ))) (passed : List Item) (s : Settings) → IsLawful side words passed s
    → (keyword : Keyword) → written s keyword ≡ items_text (items_on side words s keyword)
text_on side words passed s is keyword =
    ap (λ (r : Role). lines_with (cond (is_for_other r keyword) [] (printed keyword s))) is.role
    ∙ text_when (is_for_other side keyword) (printed keyword s) (items_at words s keyword) (text_at side words passed s is keyword)

text_of_rows : (s : Settings) (items : Keyword → List Item) (rows : List Keyword) → ((k : Keyword) → written s k ≡ items_text (items k))
    → flat_map (written s) rows ≡ items_text (flat_map items rows)
text_of_rows s items [] same = refl
text_of_rows s items (k ∷ rows) same =
    ap (λ (t : List ℕ). t ++ flat_map (written s) rows) (same k)
    ∙ ap (λ (t : List ℕ). items_text (items k) ++ t) (text_of_rows s items rows same)
    ∙ sym (items_text-append (items k) (flat_map items rows))

passed_text : (items : List Item) → lines_with (map item_text items) ≡ items_text items
passed_text [] = refl
passed_text (item ∷ items) = ap (λ (t : List ℕ). ended (item_text item) ++ t) (passed_text items)

-- all directives of the canonical text
abbrev pub again : Role → Option (List (List ℕ)) → List Item → Settings → List Item
again side words passed s = flat_map (items_on side words s) table ++ passed

pub canonical_text : (side : Role) (words : Option (List (List ℕ))) (passed : List Item) (s : Settings) → IsLawful side words passed s
    → canonical s ≡ items_text (again side words passed s)
unfolding canonical
canonical_text side words passed s is =
    ap (λ (t : List ℕ). t ++ lines_with s.engine) (text_of_rows s (items_on side words s) table (text_on side words passed s is))
    ∙ ap (λ (t : List (List ℕ)). items_text (flat_map (items_on side words s) table) ++ lines_with t) is.engine
    ∙ ap (λ (t : List ℕ). items_text (flat_map (items_on side words s) table) ++ t) (passed_text passed)
    ∙ sym (items_text-append (flat_map (items_on side words s) table) passed)

-- they are read again
none_seen : are_unseen [] table ≡ true
unfolding table link_keywords client_keywords session_keywords
none_seen = refl

pub again_fine : Laws → (side : Role) (words : Option (List (List ℕ))) (passed : List Item) (s : Settings) → IsLawful side words passed s
    → AreFine [] (again side words passed s)
again_fine laws side words passed s is =
    table_fine (items_on side words s) table [] passed (good_on laws side words passed s is) (on_named side words s) (on_single side words s)
    table_apart none_seen is.engine_good (engine_may passed is.engine_named)

pub again_read : Laws → (side : Role) (words : Option (List (List ℕ))) (passed : List Item) (s : Settings) → IsLawful side words passed s
    → KeepsLimits (canonical s) → (all : List Directive) × (judged [] (entries None 0 0 (lines_of (canonical s))) ≡ Ok all) × (items_of all ≡ again side words passed s)
again_read laws side words passed s is keeps =
    let items = again side words passed s in
    let same = canonical_text side words passed s is in
    let fits : Fits 0 (items_text items) = subst (Fits 0) same (record { lines = keeps.lines; whole = omega (arith, keeps.whole) }) in
    let read = read_items laws [] 0 0 items (again_fine laws side words passed s is) fits in
    (read.all, ap (λ (t : List ℕ). judged [] (entries None 0 0 (lines_of t))) same ∙ read.reads, read.same)

-- none of them is on the wrong side
abbrev astray_item : Role → Item → Bool
astray_item role item = option_map_or (is_for_other role) (keyword_of (name_of item)) false

abbrev pub are_right : Role → List Item → Bool
are_right role items = list_all (λ item. not (astray_item role item)) items

right_named : (role : Role) (keyword : Keyword) (items : List Item) → is_for_other role keyword ≡ false → are_named (row_at keyword).name items ≡ true
    → are_right role items ≡ true
right_named role keyword [] not named = refl
right_named role keyword (item ∷ items) side named =
    let parts = and_true (bytes_eq (name_of item) (row_at keyword).name) (are_named (row_at keyword).name items) named in
    let same : name_of item ≡ (row_at keyword).name = (bytes_eq-Decides (name_of item) (row_at keyword).name).0 parts.0 in
    let here : astray_item role item ≡ false =
    ap (λ (o : Option Keyword). option_map_or (is_for_other role) o false) (ap keyword_of same ∙ keyword_at keyword) ∙ side in
    both_true (not (astray_item role item)) (are_right role items) (ap not here) (right_named role keyword items side parts.1)

right_when : (b : Bool) (role : Role) (keyword : Keyword) (items : List Item) → is_for_other role keyword ≡ b → are_named (row_at keyword).name items ≡ true
    → are_right role (cond b [] items) ≡ true
right_when true role keyword items is named = refl
right_when false role keyword items is named = right_named role keyword items is named

right_rows : (role : Role) (words : Option (List (List ℕ))) (s : Settings) (rows : List Keyword) → are_right role (flat_map (items_on role words s) rows) ≡ true
right_rows role words s [] = refl
right_rows role words s (k ∷ rows) =
    all-append (λ item. not (astray_item role item)) (items_on role words s k) (flat_map (items_on role words s) rows)
    (right_when (is_for_other role k) role k (items_at words s k) refl (at_named words s k)) (right_rows role words s rows)

right_engine : (role : Role) (items : List Item) → are_engine items ≡ true → are_right role items ≡ true
right_engine role [] engine = refl
right_engine role (item ∷ items) engine =
    let parts = and_true (is_among engine_names (name_of item)) (are_engine items) engine in
    let here : astray_item role item ≡ false = ap (λ (o : Option Keyword). option_map_or (is_for_other role) o false) (engine_of (name_of item) parts.0).row in
    both_true (not (astray_item role item)) (are_right role items) (ap not here) (right_engine role items parts.1)

astray_by : (b : Bool) (role : Role) (d : Directive) (all : List Directive) → is_astray role d ≡ b → not b ≡ true → find (is_astray role) all ≡ None
    → cond b (Some d) (find (is_astray role) all) ≡ None
astray_by true role d all is not later = cc
astray_by false role d all is not later = later

none_astray : (role : Role) (all : List Directive) → are_right role (items_of all) ≡ true → find (is_astray role) all ≡ None
none_astray role [] right = refl
none_astray role (d ∷ all) right =
    let parts = and_true (not (astray_item role d.item)) (are_right role (items_of all)) right in
    astray_by (is_astray role d) role d all refl parts.0 (none_astray role all parts.1)

pub again_right : (side : Role) (words : Option (List (List ℕ))) (passed : List Item) (s : Settings) (all : List Directive) → are_engine passed ≡ true
    → items_of all ≡ again side words passed s → find (is_astray side) all ≡ None
again_right side words passed s all engine same =
    none_astray side all (subst (λ (items : List Item). are_right side items ≡ true) (sym same)
    (all-append (λ item. not (astray_item side item)) (flat_map (items_on side words s) table) passed (right_rows side words s table) (right_engine side passed engine)))

-- the first of them decides the side
server_first : (o : Option Network) (n : Network) (rest passed : List Item) → o ≡ Some n
    → side_of_file ((there (λ (m : Network). network_item (codes "server") m) o ++ rest) ++ passed) ≡ Some Server
server_first o n rest passed is = rw is refl

some_of : (o : Option Network) → is_some o ≡ true → (n : Network) × (o ≡ Some n)
some_of None some = cc
some_of (Some n) some = (n, refl)

pub again_side : (side : Role) (words : Option (List (List ℕ))) (passed : List Item) (s : Settings) → OnSide side s
    → side_of_file (again side words passed s) ≡ Some side
unfolding table link_keywords client_keywords session_keywords
again_side Server words passed s on = let net = some_of s.net on.0 in server_first s.net net.0 _ passed net.1
again_side Client words passed s on = refl

-- none is missing
find_none : (p : Keyword → Bool) (rows : List Keyword) → ((k : Keyword) → p k ≡ false) → find p rows ≡ None
find_none p [] never = refl
find_none p (k ∷ rows) never = ap (λ (b : Bool). cond b (Some k) (find p rows)) (never k) ∙ find_none p rows never

key_there : (key : KeyPlace) → is_some (first_named (codes "tls-crypt") (key_item key ∷ [])) ≡ true
key_there (Named name) = refl
key_there (Inline bytes) = refl

remote_by : (o : Option Addr) → is_some o ≡ true
    → (true && not (is_some (first_named (codes "remote") (there (λ (a : Addr). Words (codes "remote" ∷ ip4_text a.ip ∷ decimal a.port ∷ [])) o)))) ≡ false
remote_by None some = cc
remote_by (Some a) some = refl

remote_there : (side : Role) (words : Option (List (List ℕ))) (s : Settings) → OnSide side s
    → ((row_at keywords.Remote).needed side && not (is_some (first_named (codes "remote") (items_on side words s keywords.Remote)))) ≡ false
remote_there Server words s on = refl
remote_there Client words s on = remote_by s.remote on.0

needed_by : (n g : Bool) → g ≡ true → (n && not g) ≡ false
needed_by true g is = rw is refl
needed_by false g is = refl

not_lacking : (side : Role) (words : Option (List (List ℕ))) (s : Settings) → OnSide side s → (keyword : Keyword)
    → ((row_at keyword).needed side && not (is_some (first_named (row_at keyword).name (items_on side words s keyword)))) ≡ false
not_lacking side words s on keywords.Server = refl
not_lacking side words s on keywords.Client = refl
not_lacking side words s on keywords.Dev = refl
not_lacking side words s on keywords.Topology = needed_by ((row_at keywords.Topology).needed side) true refl
not_lacking side words s on keywords.Proto = refl
not_lacking side words s on keywords.Port = refl
not_lacking side words s on keywords.Local = refl
not_lacking side words s on keywords.Remote = remote_there side words s on
not_lacking side words s on keywords.TlsCrypt = needed_by true (is_some (first_named (codes "tls-crypt") (key_item s.key ∷ []))) (key_there s.key)
not_lacking side words s on keywords.Keepalive = refl
not_lacking side words s on keywords.ClientConfigDir = refl
not_lacking side words s on keywords.CcdExclusive = refl
not_lacking side words s on keywords.ClientToClient = refl
not_lacking side words s on keywords.DuplicateCn = refl
not_lacking side words s on keywords.MaxClients = refl
not_lacking side words s on keywords.Push = refl
not_lacking side words s on keywords.Route = refl
not_lacking side words s on keywords.DataCiphers = refl
not_lacking side words s on keywords.RenegSec = refl
not_lacking side words s on keywords.TranWindow = refl
not_lacking side words s on keywords.HandWindow = refl
not_lacking side words s on keywords.TlsTimeout = refl
not_lacking side words s on keywords.ReplayWindow = refl
not_lacking side words s on keywords.Management = refl

pub again_whole : (side : Role) (words : Option (List (List ℕ))) (passed : List Item) (s : Settings) → OnSide side s → are_engine passed ≡ true
    → missing side (again side words passed s) ≡ None
unfolding missing
again_whole side words passed s on engine =
    find_none (λ k. (row_at k).needed side && not (is_given (row_at k).name (again side words passed s))) table
    (λ k. ap (λ (o : Option Item). (row_at k).needed side && not (is_some o)) (found_at (items_on side words s) passed k (on_named side words s) (engine_none k passed engine))
    ∙ not_lacking side words s on k)
