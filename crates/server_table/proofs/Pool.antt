-- The address that the pool gives.
use Rattle.std.proofs.Common.{◌≡◌, ◌≤◌, ◌<◌, ℕ, zero, suc, ◌+◌, ◌-◌, ◌==◌, not, cond, Bool, true, false, List, [], ◌∷◌, find, filter_map, Option, Some, None, refl, sym, ap, ◌∙◌, subst, arith, option_map}
use Rattle.std.specs.Prelude.{if◌then◌else◌, slice_get}
use Rattle.std.specs.List.{cons_option, list_any, range_with_len}
use Rattle.std.proofs.lemmas.Bool.{eqb-false, or_parts, false≢true}
use Rattle.vpn_base.specs.declared.address.Ip4.{Ip4}
use Rattle.ovpn_config.specs.declared.settings.Settings.{Settings}
use Rattle.address_pool.specs.LeastFree.{is_taken, least_free}
use Rattle.server_table.specs.Table.{Client, Established, Table}
use Rattle.server_table.specs.Lookups.{address_in, taken_addresses}
use Rattle.server_table.specs.Establishing.{Leased, address_by, first_address, last_address, leased}
use Rattle.server_table.specs.Pool.{IsFree}
use Rattle.server_table.proofs.Places.{none_some, some_same}

-- a number that was found in a range
record IsFound (test : ℕ → Bool) (first len n : ℕ) : Type 0 where
  pub passes : test n ≡ true
  pub from : first ≤ n
  pub below : n < first + len

found_step : (test : ℕ → Bool) (first len n : ℕ) (b : Bool) → test first ≡ b → cond b (Some first) (find test (range_with_len (first + 1) len)) ≡ Some n →
    (find test (range_with_len (first + 1) len) ≡ Some n → IsFound test (first + 1) len n) → IsFound test first (suc len) n
found_step test first len n true is e ih =
    let same : first ≡ n = some_same e in
    record { passes = ap test (sym same) ∙ is; from = omega (arith, same); below = omega (arith, same) }
found_step test first len n false is e ih =
    let f = ih e in record { passes = f.passes; from = omega (arith, f.from); below = omega (arith, f.below) }

found : (test : ℕ → Bool) (first len n : ℕ) → find test (range_with_len first len) ≡ Some n → IsFound test first len n
found test first zero n e = absurd (none_some e)
found test first (suc len) n e = found_step test first len n (test first) refl e (λ there. found test (first + 1) len n there)

not_true : (b : Bool) → not b ≡ true → b ≡ false
not_true true e = absurd (false≢true e)
not_true false e = refl

mapped : (o : Option ℕ) (a : Ip4) → option_map (λ (n : ℕ). let ip : Ip4 = record { 0 = n } in ip) o ≡ Some a → o ≡ Some a.0
mapped None a e = absurd (none_some e)
mapped (Some n) a e = ap (λ (ip : Ip4). Some ip.0) (some_same e)

record IsLeast (first last : Ip4) (taken : List Ip4) (a : Ip4) : Type 0 where
  pub from : first.0 ≤ a.0
  pub to : a.0 ≤ last.0
  pub free : is_taken taken a.0 ≡ false

least_is : (first last : Ip4) (taken : List Ip4) (a : Ip4) → least_free first last taken ≡ Some a → IsLeast first last taken a
unfolding least_free
least_is first last taken a e =
    let f = found (λ n. not (is_taken taken n)) first.0 (last.0 + 1 - first.0) a.0
    (mapped (find (λ n. not (is_taken taken n)) (range_with_len first.0 (last.0 + 1 - first.0))) a e) in
    record { from = f.from; to = omega (arith, f.from, f.below); free = not_true (is_taken taken a.0) f.passes }

leased_some : (s : Settings) (o : Option Ip4) (a : Leased) → leased s o ≡ Some a → o ≡ Some a.0
leased_some s None a e = absurd (none_some e)
leased_some s (Some ip) a e = ap (λ (l : Leased). Some l.0) (some_same e)

here_in : (x : Client) (e : Established) → x.is_here ≡ true → x.established ≡ Some e → address_in x ≡ Some e.address
here_in x e here is =
    ap (λ (b : Bool). if b then option_map (λ (e : Established). e.address) x.established else None) here
    ∙ ap (λ (o : Option Established). option_map (λ (e : Established). e.address) o) is

rest_of : (n : ℕ) (o : Option Ip4) (xs : List Ip4) → list_any (λ a. a.0 == n) (cons_option o xs) ≡ false → list_any (λ (a : Ip4). a.0 == n) xs ≡ false
rest_of n None xs e = e
rest_of n (Some a) xs e = (or_parts (a.0 == n) (list_any (λ (a : Ip4). a.0 == n) xs) e).1

-- no client that is here and established has an address that is not taken
nobody : (n : ℕ) (clients : List Client) → is_taken (filter_map address_in clients) n ≡ false →
    (i : ℕ) (x : Client) (e : Established) → slice_get clients i ≡ Some x → x.is_here ≡ true → x.established ≡ Some e → e.address.0 ≡ n → ⊥
nobody n [] free i x e there here is same = none_some there
nobody n (y ∷ clients) free zero x e there here is same =
    let known : address_in y ≡ Some e.address = ap address_in (some_same there) ∙ here_in x e here is in
    let first : list_any (λ (a : Ip4). a.0 == n) (cons_option (Some e.address) (filter_map address_in clients)) ≡ false
    = subst (λ (o : Option Ip4). list_any (λ (a : Ip4). a.0 == n) (cons_option o (filter_map address_in clients)) ≡ false) known free in
    eqb-false e.address.0 n (or_parts (e.address.0 == n) (list_any (λ (a : Ip4). a.0 == n) (filter_map address_in clients)) first).0 same
nobody n (y ∷ clients) free (suc i) x e there here is same =
    nobody n clients (rest_of n (address_in y) (filter_map address_in clients) free) i x e there here is same

-- what the pool gives is free
pub given_free : (t : Table) (a : Leased) → address_by t None ≡ Some a → IsFree t a.0
unfolding taken_addresses
given_free t a e =
    let f = least_is (first_address t.settings) (last_address t.settings) (taken_addresses t) a.0
    (leased_some t.settings (least_free (first_address t.settings) (last_address t.settings) (taken_addresses t)) a e) in
    record { from_first = f.from; to_last = f.to; not_taken = f.free; of_nobody = nobody a.0.0 t.clients f.free }
