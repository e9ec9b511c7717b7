-- The address that a client gives up.
use Rattle.std.proofs.Common.{◌≡◌, ℕ, zero, suc, true, cond, List, [], ◌∷◌, slice_get, option_map, Option, Some, None, refl, sym, ap, subst, ◌∙◌}
use Rattle.std.specs.Prelude.{filter_map, is_some, unwrap_or}
use Rattle.std.specs.List.{cons_option}
use Rattle.std.proofs.lemmas.Bool.{false≢true}
use Rattle.vpn_base.specs.declared.address.Ip4.{Ip4}
use Rattle.vpn_base.specs.declared.names.Cause.{Cause}
use Rattle.vpn_base.specs.declared.names.Moment.{Moment}
use Rattle.client_table.specs.Tables.{entries_of}
use Rattle.peer_table.specs.Peer.{Peer}
use Rattle.peer_table.specs.Places.{changed_at}
use Rattle.server_table.specs.Courses.{Course}
use Rattle.server_table.specs.Endings.{ended, ended_as, gone}
use Rattle.server_table.specs.Lookups.{address_in, client_here, taken_addresses}
use Rattle.server_table.specs.Table.{Client, Established}
use Rattle.server_state.specs.declared.client.ClientState.{ClientState}
use Rattle.server_state.specs.declared.state.ServerCore.{ServerCore}
use Rattle.server_state.specs.Core.{established_at}
use Rattle.server_state.specs.Places.{IsThere}
use Rattle.server_establishing.specs.internal.Taking.{GivesUp, IsGivenUp}
use Rattle.server_establishing.proofs.Placed.{client_there}

behind_another : (a : Ip4) (o : Option Ip4) (was left : List Ip4) → IsGivenUp a was left → IsGivenUp a (cons_option o was) (cons_option o left)
behind_another a None was left h = h
behind_another a (Some b) was left h = record {
  front = b ∷ h.front;
  behind = h.behind;
  among = ap (λ (l : List Ip4). b ∷ l) h.among;
  others = ap (λ (l : List Ip4). b ∷ l) h.others;
}

first_given : (a : Ip4) (o : Option Ip4) (rest : List Ip4) → o ≡ Some a → IsGivenUp a (cons_option o rest) rest
first_given a o rest some =
    subst (λ o. IsGivenUp a (cons_option o rest) rest) (sym some) (record { front = []; behind = rest; among = refl; others = refl })

one_given : (a : Ip4) (x : Client) (clients : List Client) (m : ℕ) → slice_get clients m ≡ Some x → address_in x ≡ Some a
    → IsGivenUp a (filter_map address_in clients) (filter_map address_in (changed_at m gone clients))
one_given a x [] m there has = absurd (false≢true (ap is_some there))
one_given a x (y ∷ clients) zero there has =
    first_given a (address_in y) (filter_map address_in clients) (ap (λ (o : Option Client). address_in (unwrap_or o y)) there ∙ has)
one_given a x (y ∷ clients) (suc m) there has =
    behind_another a (address_in y) (filter_map address_in clients) (filter_map address_in (changed_at m gone clients)) (one_given a x clients m there has)

none_given : (x : Client) (clients : List Client) (m : ℕ) → slice_get clients m ≡ Some x → address_in x ≡ None
    → filter_map address_in (changed_at m gone clients) ≡ filter_map address_in clients
none_given x [] m there none = refl
none_given x (y ∷ clients) zero there none =
    sym (ap (λ o. cons_option o (filter_map address_in clients)) (ap (λ (o : Option Client). address_in (unwrap_or o y)) there ∙ none))
none_given x (y ∷ clients) (suc m) there none = ap (cons_option (address_in y)) (none_given x clients m there none)

address_is : (x : Client) (o : Option (Ip4 × Moment)) → x.is_here ≡ true → option_map established_at o ≡ x.established → address_in x ≡ option_map (λ p. p.0) o
address_is x None here is = ap (λ b. cond b (option_map (λ (e : Established). e.address) x.established) None) here ∙ ap (option_map (λ (e : Established). e.address)) (sym is)
address_is x (Some p) here is = ap (λ b. cond b (option_map (λ (e : Established). e.address) x.established) None) here ∙ ap (option_map (λ (e : Established). e.address)) (sym is)

by_address : (x : Client) (clients : List Client) (m : ℕ) (o : Option Ip4) → slice_get clients m ≡ Some x → address_in x ≡ o
    → GivesUp o (filter_map address_in clients) (filter_map address_in (changed_at m gone clients))
by_address x clients m None there is = none_given x clients m there is
by_address x clients m (Some a) there is = one_given a x clients m there is

module _ {S : Type 0} (means : S → Peer → Type 0) (core : ServerCore S) (c : Course) (m : ℕ) (cause : Cause) where
  -- nobody has this number
  pub nobody_gives : client_here c.table m ≡ None → taken_addresses (ended m cause c).table ≡ taken_addresses c.table
  unfolding ended
  nobody_gives none = ap (λ o. taken_addresses (ended_as m cause c o).table) none

  -- the client at a place
  pub somebody_gives : (i : ℕ) (v : ClientState S) (l : IsThere means core c.table m i)
      → option_map (λ e. e.value) (slice_get (entries_of core.clients) i) ≡ Some v
      → GivesUp (option_map (λ p. p.0) v.established) (taken_addresses c.table) (taken_addresses (ended m cause c).table)
  unfolding ended taken_addresses
  somebody_gives i v l value =
      let value_is : l.entry.value ≡ v = ap (λ o. unwrap_or o v) (sym (ap (λ o. option_map (λ e. e.value) o) l.entry_there) ∙ value) in
      let has : address_in l.client ≡ option_map (λ p. p.0) v.established =
      address_is l.client v.established l.here (ap (λ (v : ClientState S). option_map established_at v.established) (sym value_is) ∙ l.stands.state.established) in
      subst (λ o. GivesUp (option_map (λ p. p.0) v.established) (filter_map address_in c.table.clients) (filter_map address_in (ended_as m cause c o).table.clients))
      (sym l.client_there)
      (by_address l.client c.table.clients m (option_map (λ p. p.0) v.established) (client_there c.table m l.client l.client_there) has)
