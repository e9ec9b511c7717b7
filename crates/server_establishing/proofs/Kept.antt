-- What was made ahead stays right where only its client is changed.
use Rattle.std.proofs.Common.{◌≡◌, ℕ, zero, suc, Bool, true, false, cond, List, [], ◌∷◌, slice_get, option_map, Option, Some, None, refl, sym, ap, subst, ◌∙◌}
use Rattle.std.specs.Prelude.{filter_map, is_some, unwrap_or}
use Rattle.std.specs.List.{cons_option}
use Rattle.std.proofs.lemmas.Bool.{false≢true}
use Rattle.vpn_base.specs.declared.address.Ip4.{Ip4}
use Rattle.vpn_base.specs.declared.names.Cause.{Cause}
use Rattle.vpn_base.specs.declared.names.Cause.TheVariants.{PoolEmpty, Replaced}
use Rattle.vpn_base.specs.declared.names.Conn.{Conn}
use Rattle.address_pool.specs.LeastFree.{least_free}
use Rattle.ccd_files.specs.declared.client_file.Ccd.{Ccd}
use Rattle.ovpn_config.specs.declared.settings.Settings.{Settings}
use Rattle.peer_table.specs.Places.{changed_at, earlier, first_place}
use Rattle.server_table.specs.Courses.{Course}
use Rattle.server_table.specs.Endings.{ended, ended_as, gone}
use Rattle.server_table.specs.Establishing.{Leased, address_by, ccd_in, client_established, established_at, established_for, established_with, first_address, last_address, leased, leased_to, network, replaced, replaced_unless, with_address}
use Rattle.server_table.specs.Lookups.{address_in, cid, client_here, established_named, if_here, is_established_as, taken_addresses}
use Rattle.server_table.specs.Table.{Client, Established, Table}
use Rattle.server_establishing.specs.declared.ahead.Ahead.{Ahead}
use Rattle.server_texts.specs.Replies.{AreRepliesTo}
use Rattle.server_establishing.specs.declared.ahead.LeaseAhead.{LeaseAhead}
use Rattle.server_establishing.specs.Ahead.{IsEstablishedWith, IsMadeFor, KeepsPlace, RepliesStand, lease_of, replies_in}
use Rattle.server_establishing.proofs.Held.{settings_same}
use Rattle.server_establishing.proofs.Placed.{client_there, some_is}
use Rattle.server_establishing.proofs.Replaced.{ahead_then, here_then, in_order, none_of}

-- ---- the address of the reply

by_free : (s : Settings) (o : Option Ip4) (a : Leased) (e : Established) → leased s o ≡ Some a → e.address ≡ a.0 → leased_to s None e ≡ a
by_free s None a e is at = absurd (false≢true (ap is_some is))
by_free s (Some b) a e is at =
    let first : (b, (network s).len) ≡ a = some_is (b, (network s).len) a is in
    ap (λ k. (k, (network s).len)) (at ∙ sym (ap (λ (a : Leased). a.0) first)) ∙ first

leased_again : (t : Table) (own : Option Leased) (a : Leased) (e : Established) → address_by t own ≡ Some a → e.address ≡ a.0 → leased_to t.settings own e ≡ a
leased_again t (Some own) a e is at = some_is own a is
leased_again t None a e is at =
    by_free t.settings (least_free (first_address t.settings) (last_address t.settings) (taken_addresses t)) a e is at

-- ---- one client is changed

first_same : (p : Client → Bool) (g : Client → Client) (x : Client) (clients : List Client) (n : ℕ) → slice_get clients n ≡ Some x → p (g x) ≡ p x
    → first_place p (changed_at n g clients) ≡ first_place p clients
first_same p g x [] n there same = refl
first_same p g x (y ∷ clients) zero there same =
    ap (λ b. earlier b (first_place p clients)) (subst (λ x. p (g x) ≡ p x) (sym (some_is y x there)) same)
first_same p g x (y ∷ clients) (suc n) there same = ap (earlier (p y)) (first_same p g x clients n there same)

address_same : (g : Client → Client) → KeepsPlace g → (y : Client) → address_in (g y) ≡ address_in y
address_same g keeps y =
    ap (λ b. cond b (option_map (λ (e : Established). e.address) (g y).established) None) (keeps.here y)
    ∙ ap (λ o. cond y.is_here (option_map (λ (e : Established). e.address) o) None) (keeps.established y)

addresses_same : (g : Client → Client) → ((y : Client) → address_in (g y) ≡ address_in y) → (n : ℕ) (clients : List Client)
    → filter_map address_in (changed_at n g clients) ≡ filter_map address_in clients
addresses_same g same n [] = refl
addresses_same g same zero (y ∷ clients) = ap (λ o. cons_option o (filter_map address_in clients)) (same y)
addresses_same g same (suc n) (y ∷ clients) = ap (cons_option (address_in y)) (addresses_same g same n clients)

addresses_behind : (g : Client → Client) → ((y : Client) → address_in (g y) ≡ address_in y) → (m n : ℕ) (clients : List Client)
    → filter_map address_in (changed_at m gone (changed_at n g clients)) ≡ filter_map address_in (changed_at m gone clients)
addresses_behind g same m n [] = refl
addresses_behind g same zero zero (y ∷ clients) = refl
addresses_behind g same zero (suc n) (y ∷ clients) = addresses_same g same n clients
addresses_behind g same (suc m) zero (y ∷ clients) = ap (λ o. cons_option o (filter_map address_in (changed_at m gone clients))) (same y)
addresses_behind g same (suc m) (suc n) (y ∷ clients) = ap (cons_option (address_in y)) (addresses_behind g same m n clients)

by_here : (y : Client) (b : Bool) → is_some (cond b (Some y) None) ≡ b
by_here y true = refl
by_here y false = refl

here_alike : (g : Client → Client) → ((y : Client) → (g y).is_here ≡ y.is_here) → (m n : ℕ) (clients : List Client)
    → is_some (if_here (slice_get (changed_at n g clients) m)) ≡ is_some (if_here (slice_get clients m))
here_alike g same m n [] = refl
here_alike g same zero zero (y ∷ clients) = by_here (g y) (g y).is_here ∙ same y ∙ sym (by_here y y.is_here)
here_alike g same zero (suc n) (y ∷ clients) = refl
here_alike g same (suc m) zero (y ∷ clients) = refl
here_alike g same (suc m) (suc n) (y ∷ clients) = here_alike g same m n clients

changed_there : (g : Client → Client) (x : Client) (clients : List Client) (n : ℕ) → slice_get clients n ≡ Some x → slice_get (changed_at n g clients) n ≡ Some (g x)
changed_there g x [] n there = absurd (false≢true (ap is_some there))
changed_there g x (y ∷ clients) zero there = ap (λ (o : Option Client). Some (g (unwrap_or o x))) there
changed_there g x (y ∷ clients) (suc n) there = changed_there g x clients n there

here_is : (o : Option Client) (y z : Client) → o ≡ Some z → if_here o ≡ Some y → y ≡ z
here_is o y z is here = by_flag z.is_here (sym (ap if_here is) ∙ here)
  where
    by_flag : (b : Bool) → cond b (Some z) None ≡ Some y → y ≡ z
    by_flag true is = sym (some_is z y is)
    by_flag false is = absurd (false≢true (ap is_some is))

module _ (c then : Course) (n : ℕ) (g : Client → Client) (x : Client) (there : client_here c.table n ≡ Some x) (none : x.established ≡ None) (keeps : KeepsPlace g)
    (settings : then.table.settings ≡ c.table.settings) (clients : then.table.clients ≡ changed_at n g c.table.clients) where
  taken_same : filter_map address_in then.table.clients ≡ filter_map address_in c.table.clients
  taken_same = ap (filter_map address_in) clients ∙ addresses_same g (address_same g keeps) n c.table.clients

  taken_ended : (m : ℕ) (cause : Cause) (q p : Option Client) → is_some q ≡ is_some p
      → taken_addresses (ended_as m cause then q).table ≡ taken_addresses (ended_as m cause c p).table
  unfolding taken_addresses
  taken_ended m cause None None alike = taken_same
  taken_ended m cause (Some y) (Some z) alike =
      ap (λ l. filter_map address_in (changed_at m gone l)) clients ∙ addresses_behind g (address_same g keeps) m n c.table.clients
  taken_ended m cause None (Some z) alike = absurd (false≢true alike)
  taken_ended m cause (Some y) None alike = absurd (false≢true (sym alike))

  alike_here : (m : ℕ) → is_some (client_here then.table m) ≡ is_some (client_here c.table m)
  unfolding client_here
  alike_here m = ap (λ (l : List Client). is_some (if_here (slice_get l m))) clients ∙ here_alike g keeps.here m n c.table.clients

  taken_replaced : (o : Option ℕ) → taken_addresses (replaced n then o).table ≡ taken_addresses (replaced n c o).table
  unfolding ended taken_addresses
  taken_replaced None = taken_same
  taken_replaced (Some m) = taken_ended m (Replaced (cid n)) (client_here then.table m) (client_here c.table m) (alike_here m)

  named_same : (name : List ℕ) → established_named then.table name ≡ established_named c.table name
  unfolding established_named
  named_same name =
      ap (first_place (is_established_as name)) clients
      ∙ first_same (is_established_as name) g x c.table.clients n (client_there c.table n x there)
      (none_of (g x).is_here (is_some (g x).established) _ (ap is_some (keeps.established x ∙ none))
      ∙ sym (none_of x.is_here (is_some x.established) _ (ap is_some none)))

  taken_unless : (name : List ℕ) (b : Bool) → taken_addresses (replaced_unless n name then b).table ≡ taken_addresses (replaced_unless n name c b).table
  unfolding taken_addresses
  taken_unless name true = taken_same
  taken_unless name false = ap (λ o. taken_addresses (replaced n then o).table) (named_same name) ∙ taken_replaced (established_named c.table name)

  address_still : (name : List ℕ) (b : Bool) (own : Option Leased)
      → address_by (replaced_unless n name then b).table own ≡ address_by (replaced_unless n name c b).table own
  address_still name b (Some own) = refl
  address_still name b None =
      let s : Settings = (replaced_unless n name then b).table.settings in
      ap (λ l. leased s (least_free (first_address s) (last_address s) l)) (taken_unless name b)
      ∙ ap (λ (s : Settings). leased s (least_free (first_address s) (last_address s) (taken_addresses (replaced_unless n name c b).table)))
      (settings_same n name then b ∙ settings ∙ sym (settings_same n name c b))

  peer_still : (y : Client) → client_here then.table n ≡ Some y → y.peer_id ≡ x.peer_id
  unfolding client_here
  peer_still y here =
      ap (λ (y : Client). y.peer_id) (here_is (slice_get then.table.clients n) y (g x)
      (ap (λ (l : List Client). slice_get l n) clients ∙ changed_there g x c.table.clients n (client_there c.table n x there)) here)
      ∙ keeps.peer_id x

  pub made_then : (name : List ℕ) (file : Ccd) (ahead : Ahead) → IsMadeFor c n name file ahead → IsMadeFor then n name file ahead
  made_then name file ahead made = record {
    name_is = made.name_is;
    file_is = made.file_is;
    lease = made.lease ∙ sym (ap (λ (s : Settings). address_by (replaced_unless n name then s.duplicate).table file.address) settings
        ∙ address_still name c.table.settings.duplicate file.address);
    replies = λ y here. subst (λ p. RepliesStand then.table.settings file p ahead.lease) (sym (peer_still y here))
        (subst (λ (s : Settings). RepliesStand s file x.peer_id ahead.lease) (sym settings) (made.replies x there));
  }

-- ---- the reply that is written again

module _ (n : ℕ) (conn : Conn) (x : Client) (c : Course) (here : client_here c.table n ≡ Some x) where
  ended_none : (cause : Cause) → client_here (ended_as n cause c (Some x)).table n ≡ None
  unfolding client_here
  ended_none cause = ap if_here (changed_there gone x c.table.clients n (client_there c.table n x here))

  it_ends : (cause : Cause) (y : Client) → client_here (ended n cause c).table n ≡ Some y → ⊥
  unfolding ended
  it_ends cause y is =
      false≢true (ap is_some (sym (ap (λ o. client_here (ended_as n cause c o).table n) here ∙ ended_none cause) ∙ is))

  it_is : (a : Leased) (y : Client) → client_here (established_at n conn x c a).table n ≡ Some y → y ≡ with_address a.0 c.table.moment x
  unfolding client_here
  it_is a y is =
      let g : Client → Client = with_address a.0 c.table.moment in
      here_is (slice_get (changed_at n g c.table.clients) n) y (g x) (changed_there g x c.table.clients n (client_there c.table n x here)) is

  by_lease : (lease : Option LeaseAhead) (y : Client) → option_map lease_of lease ≡ address_by c.table (ccd_in x.file).address
      → RepliesStand c.table.settings (ccd_in x.file) x.peer_id lease
      → client_here (established_with n conn x c (option_map lease_of lease)).table n ≡ Some y
      → IsEstablishedWith (established_with n conn x c (option_map lease_of lease)).table y (replies_in lease)
  by_lease None y is replies there = absurd (it_ends PoolEmpty y there)
  by_lease (Some l) y is replies there =
      let t = (established_at n conn x c (lease_of l)).table in
      let e : Established = record { address = l.address; since = c.table.moment } in
      subst (λ y. IsEstablishedWith t y (Some l.replies)) (sym (it_is (lease_of l) y there))
      (record {
        when = e;
        established = refl;
        again = subst (λ a. AreRepliesTo c.table.settings (ccd_in x.file) x.peer_id a l.replies)
            (sym (leased_again c.table (ccd_in x.file).address (lease_of l) e (sym is) refl)) replies;
      })

pub again_then : (c : Course) (n : ℕ) (conn : Conn) (ahead : Ahead) (x y : Client) → client_here c.table n ≡ Some x → x.established ≡ None
    → x.session.name ≡ Some ahead.name → ccd_in x.file ≡ ahead.file → IsMadeFor c n ahead.name ahead.file ahead
    → client_here (client_established n conn c).table n ≡ Some y → IsEstablishedWith (client_established n conn c).table y (replies_in ahead.lease)
again_then c n conn ahead x y there none named file made is =
    let then = replaced_unless n ahead.name c c.table.settings.duplicate in
    let here = here_then n ahead.name c x there none in
    let of = ahead_then n ahead.name c x there none ahead named refl file made in
    let same : established_with n conn x then (option_map lease_of ahead.lease) ≡ client_established n conn c =
    ap (established_with n conn x then) of.lease ∙ sym (ap (established_for n conn then) here) ∙ in_order n ahead.name c x there none conn named in
    subst (λ (c : Course). IsEstablishedWith c.table y (replies_in ahead.lease)) same
    (by_lease n conn x then here ahead.lease y of.lease of.replies (ap (λ (c : Course). client_here c.table n) same ∙ is))
