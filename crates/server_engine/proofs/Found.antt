-- Which client has a connection.
use Rattle.std.proofs.Common.{◌≡◌, ℕ, zero, suc, ◌+◌, ◌<◌, ◌==◌, length, Bool, true, false, List, [], ◌∷◌, slice_get, option_map, Option, Some, None, refl, sym, ap, subst, ◌∙◌, arith}
use Rattle.std.specs.Prelude.{◌&&◌, is_some, unwrap_or}
use Rattle.std.proofs.lemmas.Bool.{false≢true}
use Rattle.std.proofs.lemmas.Grind.{common_steps}
use Rattle.vpn_base.specs.declared.names.Conn.{Conn}
use Rattle.client_table.specs.declared.key.Key.{Key}
use Rattle.client_table.specs.Entries.{Entry}
use Rattle.client_table.specs.Tables.{entries_of}
use Rattle.peer_table.specs.EngineAnswers.{open_with}
use Rattle.peer_table.specs.Peer.{Peer}
use Rattle.peer_table.specs.Places.{earlier, first_place}
use Rattle.server_table.specs.Lookups.{by_connection, has_connection}
use Rattle.server_table.specs.Table.{Client, Table}
use Rattle.server_state.specs.declared.client.ClientState.{ClientState}
use Rattle.server_state.specs.declared.state.ServerCore.{ServerCore}
use Rattle.server_state.specs.Core.{CoreStands, IsOfClient}
use Rattle.server_state.specs.Standing.{FirstStands, StandFrom}

-- no session before a place has the connection
abbrev pub HasNot : {S : Type 0} → (S → Peer → Type 0) → Conn → ℕ → List (Entry (ClientState S)) → Type 0
HasNot means conn i es = (j : ℕ) (e : Entry _) → j < i → slice_get es j ≡ Some e → (p : Peer) → means e.value.session p → is_some (open_with conn p) ≡ false

module _ {S : Type 0} (means : S → Peer → Type 0) (conn : Conn) where
  has : (x : Client) (b : Bool) → x.is_here ≡ true → is_some (open_with conn x.session) ≡ b → has_connection conn x ≡ b
  has x b here is = ap (λ h. h && is_some (open_with conn x.session)) here ∙ is

  gone : (x : Client) → x.is_here ≡ false → has_connection conn x ≡ false
  gone x away = ap (λ h. h && is_some (open_with conn x.session)) away

  behind : (i : ℕ) (e : Entry (ClientState S)) (es : List (Entry (ClientState S))) → HasNot means conn (suc i) (e ∷ es) → HasNot means conn i es
  behind i e es not_yet j f lt at = not_yet (suc j) f (omega (arith, lt)) at

  next : (n m : ℕ) (b : Bool) (o : Option ℕ) → b ≡ false → option_map (λ i. suc n + i) o ≡ Some m → option_map (λ i. n + i) (earlier b o) ≡ Some m
  next n m b None is found = absurd (false≢true (ap is_some found))
  next n m b (Some i) is found = ap (λ b. option_map (λ i. n + i) (earlier b (Some i))) is ∙ ap Some (omega arith) ∙ found

  found_step : (n i : ℕ) (e : Entry (ClientState S)) (x : Client) (clients : List Client) (es : List (Entry (ClientState S))) (b : Bool) → x.is_here ≡ b
      → FirstStands (IsOfClient means) (λ es. StandFrom (IsOfClient means) es (suc n) clients) n x es b → HasNot means conn i es → slice_get es i ≡ Some e
      → ((p : Peer) → means e.value.session p → is_some (open_with conn p) ≡ true)
      → ((es : List (Entry (ClientState S))) (i : ℕ) → StandFrom (IsOfClient means) es (suc n) clients → HasNot means conn i es → slice_get es i ≡ Some e
      → option_map (λ i. suc n + i) (first_place (has_connection conn) clients) ≡ Some e.key.number.0)
      → option_map (λ i. n + i) (first_place (has_connection conn) (x ∷ clients)) ≡ Some e.key.number.0
  found_step n i e x clients [] true here h not_yet at passes ih = absurd h
  found_step n zero e x clients (f ∷ es) true here h not_yet at passes ih =
      let same : f ≡ e = ap (λ o. unwrap_or o f) at in
      ap (λ b. option_map (λ i. n + i) (earlier b (first_place (has_connection conn) clients)))
      (has x true here (passes x.session (subst (λ (e : Entry (ClientState S)). means e.value.session x.session) same h.0.state.session)))
      ∙ ap Some (omega (arith, h.0.number, ap (λ (e : Entry (ClientState S)). e.key.number.0) same))
  found_step n (suc i) e x clients (f ∷ es) true here h not_yet at passes ih =
      next n e.key.number.0 (has_connection conn x) (first_place (has_connection conn) clients)
      (has x false here (not_yet 0 f (omega arith) refl x.session h.0.state.session)) (ih es i h.1 (behind i f es not_yet) at)
  found_step n i e x clients es false here h not_yet at passes ih =
      next n e.key.number.0 (has_connection conn x) (first_place (has_connection conn) clients) (gone x here) (ih es i h not_yet at)

  found_from : (e : Entry (ClientState S)) (clients : List Client) (es : List (Entry (ClientState S))) (n i : ℕ) → StandFrom (IsOfClient means) es n clients
      → HasNot means conn i es → slice_get es i ≡ Some e → ((p : Peer) → means e.value.session p → is_some (open_with conn p) ≡ true)
      → option_map (λ i. n + i) (first_place (has_connection conn) clients) ≡ Some e.key.number.0
  found_from e [] es n i h not_yet at passes = absurd (false≢true (ap is_some (sym (ap (λ (es : List (Entry (ClientState S))). slice_get es i) h) ∙ at)))
  found_from e (x ∷ clients) es n i h not_yet at passes =
      found_step n i e x clients es x.is_here refl h not_yet at passes
      (λ es i h not_yet at. found_from e clients es (suc n) i h not_yet at passes)

  none_step : (n : ℕ) (x : Client) (clients : List Client) (es : List (Entry (ClientState S))) (b : Bool) → x.is_here ≡ b
      → FirstStands (IsOfClient means) (λ es. StandFrom (IsOfClient means) es (suc n) clients) n x es b
      → ((j : ℕ) (e : Entry (ClientState S)) → slice_get es j ≡ Some e → (p : Peer) → means e.value.session p → is_some (open_with conn p) ≡ false)
      → ((es : List (Entry (ClientState S))) → StandFrom (IsOfClient means) es (suc n) clients
      → ((j : ℕ) (e : Entry (ClientState S)) → slice_get es j ≡ Some e → (p : Peer) → means e.value.session p → is_some (open_with conn p) ≡ false)
      → first_place (has_connection conn) clients ≡ None)
      → first_place (has_connection conn) (x ∷ clients) ≡ None
  none_step n x clients [] true here h none ih = absurd h
  none_step n x clients (f ∷ es) true here h none ih =
      ap (λ b. earlier b (first_place (has_connection conn) clients)) (has x false here (none 0 f refl x.session h.0.state.session))
      ∙ ap (earlier false) (ih es h.1 (λ j e at. none (suc j) e at))
  none_step n x clients es false here h none ih =
      ap (λ b. earlier b (first_place (has_connection conn) clients)) (gone x here) ∙ ap (earlier false) (ih es h none)

  none_from : (clients : List Client) (es : List (Entry (ClientState S))) (n : ℕ) → StandFrom (IsOfClient means) es n clients
      → ((j : ℕ) (e : Entry (ClientState S)) → slice_get es j ≡ Some e → (p : Peer) → means e.value.session p → is_some (open_with conn p) ≡ false)
      → first_place (has_connection conn) clients ≡ None
  none_from [] es n h none = refl
  none_from (x ∷ clients) es n h none = none_step n x clients es x.is_here refl h none (λ es h none. none_from clients es (suc n) h none)

module _ {S : Type 0} (means : S → Peer → Type 0) (core : ServerCore S) (t : Table) (h : CoreStands means core t) (conn : Conn) where
  from_zero : (o : Option ℕ) → option_map (λ i. 0 + i) o ≡ o
  from_zero None = refl
  from_zero (Some i) = ap Some (omega arith)

  value_and_key : (i : ℕ) (o : Option (Entry (ClientState S))) (v : ClientState S) (k : Key) → option_map (λ e. e.value) o ≡ Some v → option_map (λ e. e.key) o ≡ Some k
      → o ≡ Some (record { key = k; value = v })
  value_and_key i None v k value key = absurd (false≢true (ap is_some value))
  value_and_key i (Some e) v k value key =
      ap (λ (e : Entry (ClientState S)). Some e)
      (ap (λ o. record { key = unwrap_or o e.key; value = e.value }) key ∙ ap (λ o. record { key = k; value = unwrap_or o e.value }) value)

  -- the client at this place has the connection
  pub found : (i : ℕ) (v : ClientState S) (k : Key) → HasNot means conn i (entries_of core.clients)
      → option_map (λ e. e.value) (slice_get (entries_of core.clients) i) ≡ Some v → option_map (λ e. e.key) (slice_get (entries_of core.clients) i) ≡ Some k
      → ((p : Peer) → means v.session p → is_some (open_with conn p) ≡ true) → Some k.number.0 ≡ by_connection t conn
  unfolding by_connection
  found i v k not_yet value key passes =
      sym (sym (from_zero (first_place (has_connection conn) t.clients))
      ∙ found_from means conn (record { key = k; value = v }) t.clients (entries_of core.clients) 0 i h.clients not_yet
      (value_and_key i (slice_get (entries_of core.clients) i) v k value key) passes)

  within : {X : Type 0} (xs : List X) (j : ℕ) (x : X) → slice_get xs j ≡ Some x → j < length xs
  within [] j x at = absurd (false≢true (ap is_some at))
  within (y ∷ xs) zero x at = omega arith
  within (y ∷ xs) (suc j) x at = let ih = within xs j x at in omega (arith, ih)

  -- no client has it
  pub none_found : HasNot means conn (length (entries_of core.clients)) (entries_of core.clients) → None ≡ by_connection t conn
  unfolding by_connection
  none_found none =
      sym (none_from means conn t.clients (entries_of core.clients) 0 h.clients
      (λ j e at. none j e (within (entries_of core.clients) j e at) at))

last_or_not : {S : Type 0} (means : S → Peer → Type 0) (conn : Conn) (i : ℕ) (es : List (Entry (ClientState S))) (v : ClientState S) → HasNot means conn i es
    → option_map (λ e. e.value) (slice_get es i) ≡ Some v → ((p : Peer) → means v.session p → is_some (open_with conn p) ≡ false)
    → (j : ℕ) (e : Entry (ClientState S)) → j < i + 1 → slice_get es j ≡ Some e → (p : Peer) → means e.value.session p → (b : Bool) → (j == i) ≡ b
    → is_some (open_with conn p) ≡ false
last_or_not means conn i es v not_yet value fails j e lt at p stands true is =
    let same : j ≡ i = grind (arith, common_steps) in
    let value_is : e.value ≡ v = ap (λ o. unwrap_or o v) (sym (ap (λ o. option_map (λ e. e.value) o) (sym (ap (slice_get es) same) ∙ at)) ∙ value) in
    fails p (subst (λ (v : ClientState _). means v.session p) value_is stands)
last_or_not means conn i es v not_yet value fails j e lt at p stands false is =
    let less : j < i = grind (arith, common_steps) in
    not_yet j e less at p stands

-- one place more
pub one_more : {S : Type 0} (means : S → Peer → Type 0) (conn : Conn) (i : ℕ) (es : List (Entry (ClientState S))) (v : ClientState S) → HasNot means conn i es
    → option_map (λ e. e.value) (slice_get es i) ≡ Some v → ((p : Peer) → means v.session p → is_some (open_with conn p) ≡ false) → HasNot means conn (i + 1) es
one_more means conn i es v not_yet value fails j e lt at p stands = last_or_not means conn i es v not_yet value fails j e lt at p stands (j == i) refl
