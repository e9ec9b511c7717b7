-- What clients have in common, and at most one of them.
use Rattle.std.proofs.Common.{◌≡◌, ℕ, ◌==◌, Bool, true, List, [], ◌∷◌, ◌++◌, length, Option, Some, None, refl, sym, ap, ◌∙◌, subst, inl, inr}
use Rattle.std.specs.Prelude.{◌⊎◌, ◌&&◌, slice_get}
use Rattle.std.proofs.lemmas.Bool.{and_from, and_parts, eq-eqb, eqb-true, false≢true}
use lib.Pointwise.{bytes_decides}
use Rattle.vpn_base.specs.declared.address.Addr.{Addr}
use Rattle.vpn_base.specs.declared.names.Sid.{Sid}
use Rattle.peer_table.specs.Places.{changed_at}
use Rattle.server_table.specs.Table.{Client}
use Rattle.server_table.specs.Lookups.{has_session, is_address, is_sid}
use Rattle.server_table.specs.Sound.{AtMostOne}
use Rattle.server_table.proofs.Places.{FirstAt, WasChanged, got_appended, got_changed}

-- ---- by address and session id

-- what it means that a client has this address and session id
pub record SessionIs (from : Addr) (sid : Sid) (x : Client) : Type 0 where
  pub here : x.is_here ≡ true
  pub ip : x.address.ip.0 ≡ from.ip.0
  pub port : x.address.port ≡ from.port
  pub known : Sid
  pub remote : x.session.remote ≡ Some known
  pub same : known.0 ≡ sid.0

record SidIs (sid : Sid) (o : Option Sid) : Type 0 where
  pub known : Sid
  pub remote : o ≡ Some known
  pub same : known.0 ≡ sid.0

sid_is : (sid : Sid) (o : Option Sid) → is_sid sid o ≡ true → SidIs sid o
sid_is sid None e = absurd (false≢true e)
sid_is sid (Some known) e = record { known = known; remote = refl; same = (bytes_decides known.0 sid.0).0 e }

pub session_is : (from : Addr) (sid : Sid) (x : Client) → has_session from sid x ≡ true → SessionIs from sid x
session_is from sid x e =
    let p = and_parts (x.is_here && is_address x.address from) (is_sid sid x.session.remote) e in
    let q = and_parts x.is_here (is_address x.address from) p.0 in
    let r = and_parts (x.address.ip.0 == from.ip.0) (x.address.port == from.port) q.1 in
    let s = sid_is sid x.session.remote p.1 in
    record {
      here = q.0;
      ip = eqb-true x.address.ip.0 from.ip.0 r.0;
      port = eqb-true x.address.port from.port r.1;
      known = s.known;
      remote = s.remote;
      same = s.same;
    }

pub has_session_of : (from : Addr) (sid : Sid) (x : Client) → SessionIs from sid x → has_session from sid x ≡ true
has_session_of from sid x s =
    and_from (x.is_here && is_address x.address from) (is_sid sid x.session.remote)
    (and_from x.is_here (is_address x.address from) s.here
    (and_from (x.address.ip.0 == from.ip.0) (x.address.port == from.port) (eq-eqb x.address.ip.0 from.ip.0 s.ip) (eq-eqb x.address.port from.port s.port)))
    (ap (is_sid sid) s.remote ∙ (bytes_decides s.known.0 sid.0).1 s.same)

-- ---- at most one

-- where each that passes passed before
pub shadowed : (passes : Client → Bool) (clients later : List Client) →
    ((i : ℕ) (z : Client) → slice_get later i ≡ Some z → passes z ≡ true → FirstAt passes clients i) → AtMostOne passes clients → AtMostOne passes later
shadowed passes clients later back one m n x y xt yt xp yp =
    let p = back m x xt xp in
    let q = back n y yt yp in
    one m n p.item q.item p.there q.there p.passed q.passed

-- an item of a changed list that passes passed before
pub changed_back : (passes : Client → Bool) (n : ℕ) (f : Client → Client) (clients : List Client) →
    ((y : Client) → slice_get clients n ≡ Some y → passes (f y) ≡ true → passes y ≡ true) →
    (i : ℕ) (z : Client) → slice_get (changed_at n f clients) i ≡ Some z → passes z ≡ true → FirstAt passes clients i
changed_back passes n f clients keeps i z there is = go (got_changed n i f clients z there)
  where
    go : WasChanged n i f clients z ⊎ (slice_get clients i ≡ Some z) → FirstAt passes clients i
    go (inl w) = record {
      item = w.item;
      there = w.there;
      passed = keeps w.item (subst (λ (k : ℕ). slice_get clients k ≡ Some w.item) w.place w.there) (subst (λ (y : Client). passes y ≡ true) w.changed is);
    }
    go (inr e) = record { item = z; there = e; passed = is }

-- where one passes once it is changed, no other does
pub joined : (passes : Client → Bool) (n : ℕ) (f : Client → Client) (clients : List Client) →
    ((x : Client) → slice_get clients n ≡ Some x → passes (f x) ≡ true → (i : ℕ) (y : Client) → slice_get clients i ≡ Some y → passes y ≡ true → i ≡ n) →
    AtMostOne passes clients → AtMostOne passes (changed_at n f clients)
joined passes n f clients alone one i j x y xt yt xp yp = go (got_changed n i f clients x xt) (got_changed n j f clients y yt)
  where
    at : {k : ℕ} {z : Client} (w : WasChanged n k f clients z) → slice_get clients n ≡ Some w.item
    at w = subst (λ (k : ℕ). slice_get clients k ≡ Some w.item) w.place w.there

    go : WasChanged n i f clients x ⊎ (slice_get clients i ≡ Some x) → WasChanged n j f clients y ⊎ (slice_get clients j ≡ Some y) → i ≡ j
    go (inl v) (inl w) = v.place ∙ sym w.place
    go (inl v) (inr e) = v.place ∙ sym (alone v.item (at v) (subst (λ (z : Client). passes z ≡ true) v.changed xp) j y e yp)
    go (inr e) (inl w) = alone w.item (at w) (subst (λ (z : Client). passes z ≡ true) w.changed yp) i x e xp ∙ sym w.place
    go (inr d) (inr e) = one i j x y d e xp yp

-- where one more passes, no other does
pub one_more : (passes : Client → Bool) (clients : List Client) (x : Client) →
    (passes x ≡ true → (i : ℕ) (y : Client) → slice_get clients i ≡ Some y → passes y ≡ true → ⊥) →
    AtMostOne passes clients → AtMostOne passes (clients ++ x ∷ [])
one_more passes clients x alone one i j y z yt zt yp zp = go (got_appended clients x i y yt) (got_appended clients x j z zt)
  where
    go : ((i ≡ length clients) × (y ≡ x)) ⊎ (slice_get clients i ≡ Some y) → ((j ≡ length clients) × (z ≡ x)) ⊎ (slice_get clients j ≡ Some z) → i ≡ j
    go (inl v) (inl w) = v.0 ∙ sym w.0
    go (inl v) (inr e) = absurd (alone (subst (λ (u : Client). passes u ≡ true) v.1 yp) j z e zp)
    go (inr e) (inl w) = absurd (alone (subst (λ (u : Client). passes u ≡ true) w.1 zp) i y e yp)
    go (inr d) (inr e) = one i j y z d e yp zp
