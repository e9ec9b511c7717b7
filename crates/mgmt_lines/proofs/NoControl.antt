-- The lines that are written have no control byte.
use Rattle.std.proofs.Common.{◌≡◌, ℕ, ◌%◌, ◌==◌, Bool, true, false, not, cond, List, ◌∷◌, ◌++◌, refl, arith}
use Rattle.std.specs.Prelude.{codes}
use Rattle.std.specs.Fmt.{decimal, digit_glyph}
use Rattle.std.proofs.lemmas.Grind.{common_steps}
use Rattle.vpn_base.specs.declared.address.Ip4.{Ip4}
use Rattle.vpn_base.specs.declared.address.Addr.{Addr}
use Rattle.vpn_base.specs.declared.names.Cid.{Cid}
use Rattle.vpn_base.specs.declared.names.Moment.{Moment}
use Rattle.vpn_base.specs.Address.{ip4_text}
use Rattle.vpn_base.specs.Network.{Network}
use Rattle.vpn_text.specs.Words.{is_control}
use Rattle.address_text.specs.AddressText.{addr_text}
use Rattle.mgmt_lines.specs.declared.texts.StatusRow.{StatusRow}
use Rattle.mgmt_lines.specs.Laws.{is_clean}
use Rattle.mgmt_lines.specs.Texts.{network_text, mark, seconds, time_text, client_text, route_text, queued_text, load_text, count_text, own_count_text, name_killed_text, name_not_found_text, address_killed_text, address_not_found_text}
use Rattle.mgmt_lines.proofs.Passing.{append_passes, both_true, decimal_passes, ip4_passes}

abbrev passes : ℕ → Bool
passes c = not (is_control c)

-- a text without control bytes, in a form that shows the text
record Clean (text : List ℕ) : Type 0 where
  ok : is_clean text ≡ true

given : (text : List ℕ) → is_clean text ≡ true → Clean text
given text clean = record { ok = clean }

-- two such texts, one behind the other
join : (xs ys : List ℕ) → Clean xs → Clean ys → Clean (xs ++ ys)
join xs ys a b = record { ok = append_passes passes xs ys a.ok b.ok }

-- the same with a byte between them
parted : (xs : List ℕ) (c : ℕ) (ys : List ℕ) → Clean xs → not (is_control c) ≡ true → Clean ys → Clean (xs ++ c ∷ ys)
parted xs c ys a between b = join xs (c ∷ ys) a (record { ok = both_true (not (is_control c)) (is_clean ys) between b.ok })

glyph : (n : ℕ) → not (is_control (digit_glyph false (n % 10))) ≡ true
glyph n = grind (arith, common_steps)

number : (n : ℕ) → Clean (decimal n)
number n = record { ok = decimal_passes passes glyph n }

ip4 : (a : Ip4) → Clean (ip4_text a)
ip4 a = record { ok = ip4_passes passes glyph refl a }

addr : (a : Addr) → Clean (addr_text a)
unfolding addr_text
addr a = parted (ip4_text a.ip) 58 (decimal a.port) (ip4 a.ip) refl (number a.port)

network_by : (b : Bool) (p : Network) → Clean (cond b (ip4_text p.net) (ip4_text p.net ++ 47 ∷ decimal p.len))
network_by true p = ip4 p.net
network_by false p = parted (ip4_text p.net) 47 (decimal p.len) (ip4 p.net) refl (number p.len)

network : (p : Network) → Clean (network_text p)
unfolding network_text
network p = network_by (p.len == 32) p

marked : (learned : Bool) → Clean (mark learned)
marked true = record { ok = refl }
marked false = record { ok = refl }

-- a field with others behind it
field : (one rest : List ℕ) → Clean one → Clean rest → Clean (one ++ 44 ∷ rest)
field one rest clean others = parted one 44 rest clean refl others

pub time : (m : Moment) → is_clean (time_text m) ≡ true
unfolding time_text
time m = (field (codes "TIME") (decimal (seconds m)) (record { ok = refl }) (number (seconds m))).ok

pub client : (r : StatusRow) → is_clean r.name ≡ true → is_clean (client_text r) ≡ true
unfolding client_text
client r clean =
    (field (codes "CLIENT_LIST") _ (record { ok = refl })
    (field r.name _ (given r.name clean)
    (field (addr_text r.real) _ (addr r.real)
    (field (ip4_text r.address) _ (ip4 r.address)
    (field (decimal r.bytes_in) _ (number r.bytes_in)
    (field (decimal r.bytes_out) _ (number r.bytes_out)
    (field (decimal r.since) _ (number r.since)
    (field (decimal r.cid.0) (decimal r.peer) (number r.cid.0) (number r.peer))))))))).ok

pub route : (p : Network) (learned : Bool) (name : List ℕ) (real : Addr) → is_clean name ≡ true → is_clean (route_text p learned name real) ≡ true
unfolding route_text
route p learned name real clean =
    (field (codes "ROUTING_TABLE") _ (record { ok = refl })
    (field (network_text p ++ mark learned) _ (join (network_text p) (mark learned) (network p) (marked learned))
    (field name (addr_text real) (given name clean) (addr real)))).ok

pub queued : (n : ℕ) → is_clean (queued_text n) ≡ true
unfolding queued_text
queued n = (field (codes "GLOBAL_STATS") _ (record { ok = refl }) (field (codes "queued") (decimal n) (record { ok = refl }) (number n))).ok

pub load : (clients bytes_in bytes_out : ℕ) → is_clean (load_text clients bytes_in bytes_out) ≡ true
unfolding load_text
load clients bytes_in bytes_out =
    (join _ (decimal bytes_out)
    (join _ (codes ",bytesout=")
    (join _ (decimal bytes_in)
    (join _ (codes ",bytesin=") (join (codes "SUCCESS: nclients=") (decimal clients) (record { ok = refl }) (number clients)) (record { ok = refl }))
    (number bytes_in)) (record { ok = refl })) (number bytes_out)).ok

pub count : (cid : Cid) (bytes_in bytes_out : ℕ) → is_clean (count_text cid bytes_in bytes_out) ≡ true
unfolding count_text
count cid bytes_in bytes_out =
    (join (codes ">BYTECOUNT_CLI:") _ (record { ok = refl })
    (field (decimal cid.0) _ (number cid.0) (field (decimal bytes_in) (decimal bytes_out) (number bytes_in) (number bytes_out)))).ok

pub own_count : (bytes_in bytes_out : ℕ) → is_clean (own_count_text bytes_in bytes_out) ≡ true
unfolding own_count_text
own_count bytes_in bytes_out =
    (join (codes ">BYTECOUNT:") _ (record { ok = refl }) (field (decimal bytes_in) (decimal bytes_out) (number bytes_in) (number bytes_out))).ok

pub name_killed : (name : List ℕ) (n : ℕ) → is_clean name ≡ true → is_clean (name_killed_text name n) ≡ true
unfolding name_killed_text
name_killed name n clean =
    (join _ (codes " client(s) killed")
    (join _ (decimal n)
    (join _ (codes "' found, ") (join (codes "SUCCESS: common name '") name (record { ok = refl }) (given name clean)) (record { ok = refl }))
    (number n)) (record { ok = refl })).ok

pub name_not_found : (name : List ℕ) → is_clean name ≡ true → is_clean (name_not_found_text name) ≡ true
unfolding name_not_found_text
name_not_found name clean =
    (join _ (codes "' not found") (join (codes "ERROR: common name '") name (record { ok = refl }) (given name clean)) (record { ok = refl })).ok

pub address_killed : (a : Addr) (n : ℕ) → is_clean (address_killed_text a n) ≡ true
unfolding address_killed_text
address_killed a n =
    (join _ (codes " killed")
    (join _ (addr_text a)
    (join _ (codes " client(s) at address ") (join (codes "SUCCESS: ") (decimal n) (record { ok = refl }) (number n)) (record { ok = refl }))
    (addr a)) (record { ok = refl })).ok

pub address_not_found : (a : Addr) → is_clean (address_not_found_text a) ≡ true
unfolding address_not_found_text
address_not_found a =
    (join _ (codes " not found") (join (codes "ERROR: client at address ") (addr_text a) (record { ok = refl }) (addr a)) (record { ok = refl })).ok
