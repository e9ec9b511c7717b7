-- A client is here as it was when whoever it replaces has ended.
use Rattle.std.proofs.Common.{◌≡◌, ℕ, zero, suc, ◌&&◌, Bool, true, false, List, [], ◌∷◌, slice_get, Option, Some, None, refl, sym, ap, subst, ◌∙◌, arith}
use Rattle.std.specs.Prelude.{is_some, unwrap_or}
use Rattle.std.proofs.lemmas.Bool.{false≢true}
use Rattle.std.proofs.lemmas.Grind.{common_steps}
use Rattle.vpn_base.specs.declared.names.Cause.{Cause}
use Rattle.vpn_base.specs.declared.names.Cause.TheVariants.{Replaced}
use Rattle.vpn_base.specs.declared.names.Conn.{Conn}
use Rattle.ovpn_config.specs.declared.settings.Settings.{Settings}
use Rattle.peer_table.specs.Places.{changed_at, earlier, first_place}
use Rattle.server_table.specs.Courses.{Course}
use Rattle.server_table.specs.Endings.{ended, ended_as, gone}
use Rattle.server_table.specs.Establishing.{address_by, ccd_in, client_established, established_now, establishing, replaced, replaced_unless}
use Rattle.server_table.specs.Lookups.{cid, client_here, established_named, if_here, is_established_as}
use Rattle.server_table.specs.Table.{Client}
use Rattle.server_establishing.specs.declared.ahead.Ahead.{Ahead}
use Rattle.server_establishing.specs.Ahead.{IsAheadOf, IsMadeFor, RepliesStand}
use Rattle.server_establishing.proofs.Held.{settings_same}
use Rattle.server_establishing.proofs.Placed.{client_there, some_is}

-- ---- another client is changed

at_first : (p : Client → Bool) (x y : Client) (clients : List Client) (n m : ℕ) → p y ≡ true → Some 0 ≡ Some m → slice_get (y ∷ clients) n ≡ Some x → p x ≡ false
    → slice_get (changed_at m gone (y ∷ clients)) n ≡ Some x
at_first p x y clients zero zero here is there not = absurd (false≢true (sym not ∙ sym (ap p (some_is y x there)) ∙ here))
at_first p x y clients (suc n) zero here is there not = there
at_first p x y clients n (suc m) here is there not = absurd (grind (arith, common_steps, some_is 0 (suc m) is))

at_later : (x y : Client) (clients : List Client) (k n m : ℕ) → Some (suc k) ≡ Some m → slice_get (y ∷ clients) n ≡ Some x
    → ((l : ℕ) → slice_get clients l ≡ Some x → slice_get (changed_at k gone clients) l ≡ Some x) → slice_get (changed_at m gone (y ∷ clients)) n ≡ Some x
at_later x y clients k n m is there rest =
    subst (λ m. slice_get (changed_at m gone (y ∷ clients)) n ≡ Some x) (some_is (suc k) m is) (by_place n there)
  where
    by_place : (n : ℕ) → slice_get (y ∷ clients) n ≡ Some x → slice_get (changed_at (suc k) gone (y ∷ clients)) n ≡ Some x
    by_place zero there = there
    by_place (suc n) there = rest n there

step : (p : Client → Bool) (x y : Client) (clients : List Client) (n m : ℕ) (b : Bool) (o : Option ℕ) → p y ≡ b → earlier b o ≡ Some m → slice_get (y ∷ clients) n ≡ Some x
    → p x ≡ false → ((k l : ℕ) → o ≡ Some k → slice_get clients l ≡ Some x → slice_get (changed_at k gone clients) l ≡ Some x)
    → slice_get (changed_at m gone (y ∷ clients)) n ≡ Some x
step p x y clients n m true o here is there not rest = at_first p x y clients n m here is there not
step p x y clients n m false None here is there not rest = absurd (false≢true (ap is_some is))
step p x y clients n m false (Some k) here is there not rest = at_later x y clients k n m is there (λ l at. rest k l refl at)

stays : (p : Client → Bool) (x : Client) (clients : List Client) (n m : ℕ) → first_place p clients ≡ Some m → slice_get clients n ≡ Some x → p x ≡ false
    → slice_get (changed_at m gone clients) n ≡ Some x
stays p x [] n m first there not = absurd (false≢true (ap is_some there))
stays p x (y ∷ clients) n m first there not =
    step p x y clients n m (p y) (first_place p clients) refl first there not (λ k l first there. stays p x clients l k first there not)

-- ---- the client that is replaced

pub none_of : (a b d : Bool) → b ≡ false → (a && b && d) ≡ false
none_of true true d is = absurd (false≢true (sym is))
none_of true false d is = refl
none_of false b d is = refl

module _ (n : ℕ) (name : List ℕ) (c : Course) (x : Client) (there : client_here c.table n ≡ Some x) (none : x.established ≡ None) where
  other_ends : (m : ℕ) (cause : Cause) (o : Option Client) → established_named c.table name ≡ Some m → client_here (ended_as m cause c o).table n ≡ Some x
  unfolding client_here established_named
  other_ends m cause None named = there
  other_ends m cause (Some y) named =
      let slot = client_there c.table n x there in
      ap if_here (stays (is_established_as name) x c.table.clients n m named slot (none_of x.is_here (is_some x.established) _ (ap is_some none)))
      ∙ sym (ap if_here slot) ∙ there

  here_by : (o : Option ℕ) → established_named c.table name ≡ o → client_here (replaced n c o).table n ≡ Some x
  unfolding ended
  here_by None named = there
  here_by (Some m) named = other_ends m (Replaced (cid n)) (client_here c.table m) named

  here_still : (b : Bool) → client_here (replaced_unless n name c b).table n ≡ Some x
  here_still true = there
  here_still false = here_by (established_named c.table name) refl

  pub here_then : client_here (replaced_unless n name c c.table.settings.duplicate).table n ≡ Some x
  here_then = here_still c.table.settings.duplicate

  -- what was made before it is what it gets then
  pub ahead_then : (ahead : Ahead) → x.session.name ≡ Some name → ahead.name ≡ name → ccd_in x.file ≡ ahead.file → IsMadeFor c n name ahead.file ahead
      → IsAheadOf (replaced_unless n name c c.table.settings.duplicate).table x ahead
  ahead_then ahead named is file made =
      let behind = (replaced_unless n name c c.table.settings.duplicate).table in
      record {
        not_yet = none;
        name = named ∙ ap Some (sym is);
        file = file;
        lease = made.lease ∙ ap (λ f. address_by behind f.address) (sym file);
        replies = subst (λ f. RepliesStand behind.settings f x.peer_id ahead.lease) (sym file)
            (subst (λ (s : Settings). RepliesStand s ahead.file x.peer_id ahead.lease) (sym (settings_same n name c c.table.settings.duplicate)) (made.replies x there));
      }

  pub in_order : (conn : Conn) → x.session.name ≡ Some name
      → established_now n conn (replaced_unless n name c c.table.settings.duplicate) ≡ client_established n conn c
  unfolding client_established
  in_order conn named =
      ap (λ name. established_now n conn (replaced_unless n name c c.table.settings.duplicate)) (sym (ap (λ o. unwrap_or o []) named))
      ∙ ap (establishing n conn c) (sym there)
