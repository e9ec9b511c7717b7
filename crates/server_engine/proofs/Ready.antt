-- Clients stay ready where one of them is changed.
use Rattle.std.proofs.Common.{◌≡◌, ℕ, zero, suc, ◌<◌, ◌⊎◌, inl, inr, true, List, [], ◌∷◌, length, slice_get, option_map, Option, Some, None, refl, sym, ap, subst, ◌∙◌}
use Rattle.std.specs.Prelude.{is_some, unwrap_or}
use Rattle.std.proofs.lemmas.Bool.{false≢true}
use Rattle.vpn_base.specs.declared.names.Cid.{Cid}
use Rattle.client_table.specs.declared.table.ClientTable.{ClientTable}
use Rattle.client_table.specs.Changes as table
use Rattle.client_table.specs.Entries.{Entry}
use Rattle.client_table.specs.Tables.{entries_of}
use Rattle.server_state.specs.declared.client.ClientState.{ClientState}
use Rattle.server_state.specs.declared.state.ServerCore.{ServerCore}
use Rattle.server_state.specs.Places.{IsChangedAt}
use Rattle.server_engine.specs.Calls.{IsNamedAt, MayExchangeAt, MayExchangeNow, StaysReady}
use Rattle.server_engine.proofs.Called.{length_at, place_kept, same_place, value_now, within_kept}
use Rattle.server_engine.proofs.Judged.{value_is}

-- an item of a list of which one was changed, as it was before
record Was {X : Type 0} (f : X → X) (i j : ℕ) (xs : List X) (y : X) : Type 0 where
  was : X
  there : slice_get xs j ≡ Some was
  same : (y ≡ was) ⊎ ((y ≡ f was) × (i ≡ j))

later : {X : Type 0} (y was z : X) (i j : ℕ) → (y ≡ was) ⊎ ((y ≡ z) × (i ≡ j)) → (y ≡ was) ⊎ ((y ≡ z) × (suc i ≡ suc j))
later y was z i j (inl same) = inl same
later y was z i j (inr changed) = inr (changed.0, ap suc changed.1)

was_at : {X : Type 0} (f : X → X) (i j : ℕ) (xs : List X) (y : X) → slice_get (table.changed_at i f xs) j ≡ Some y → Was f i j xs y
was_at f i j [] y at = absurd (false≢true (ap is_some at))
was_at f zero zero (x ∷ xs) y at = record { was = x; there = refl; same = inr (ap (λ (o : Option _). unwrap_or o y) (sym at), refl) }
was_at f zero (suc j) (x ∷ xs) y at = record { was = y; there = at; same = inl refl }
was_at f (suc i) zero (x ∷ xs) y at = record { was = y; there = at; same = inl refl }
was_at f (suc i) (suc j) (x ∷ xs) y at =
    let r = was_at f i j xs y at in
    record { was = r.was; there = r.there; same = later y r.was (f r.was) i j r.same }

-- the entry of a value
record HasEntry {V : Type 0} (o : Option (Entry V)) (v : V) : Type 0 where
  entry : Entry V
  there : o ≡ Some entry
  value : entry.value ≡ v

entry_of : {V : Type 0} (o : Option (Entry V)) (v : V) → option_map (λ (e : Entry V). e.value) o ≡ Some v → HasEntry o v
entry_of None v at = absurd (false≢true (ap is_some at))
entry_of (Some e) v at = record { entry = e; there = refl; value = ap (λ o. unwrap_or o v) at }

module _ {S : Type 0} (may_exchange : S → Type 0) (core : ServerCore S) (i : ℕ) (v w : ClientState S) (ct : ClientTable (ClientState S))
    (is : IsChangedAt core i (table.with_value w) ct) (at : option_map (λ e. e.value) (slice_get (entries_of core.clients) i) ≡ Some v) where
  was_in : (j : ℕ) (e : Entry (ClientState S)) → slice_get (entries_of ct) j ≡ Some e → Was (table.with_value w) i j (entries_of core.clients) e
  was_in j e there = was_at (table.with_value w) i j (entries_of core.clients) e (sym (ap (λ es. slice_get es j) is.entries_are) ∙ there)

  named_so : w.established ≡ v.established → (j : ℕ) (e was : Entry (ClientState S)) → slice_get (entries_of core.clients) j ≡ Some was → IsNamedAt core j
      → (e ≡ was) ⊎ ((e ≡ table.with_value w was) × (i ≡ j)) → is_some e.value.established ≡ true → is_some e.key.name ≡ true
  named_so same j e was there named (inl is) some =
      ap (λ (e : Entry (ClientState S)). is_some e.key.name) is ∙ named was there (ap (λ (e : Entry (ClientState S)). is_some e.value.established) (sym is) ∙ some)
  named_so same j e was there named (inr is) some =
      let value : was.value ≡ v = value_is (slice_get (entries_of core.clients) j) was v there (ap (λ j. option_map (λ e. e.value) (slice_get (entries_of core.clients) j)) (sym is.1) ∙ at) in
      ap (λ (e : Entry (ClientState S)). is_some e.key.name) is.0
      ∙ named was there
      (ap (λ (v : ClientState S). is_some v.established) value ∙ ap is_some (sym same) ∙ ap (λ (e : Entry (ClientState S)). is_some e.value.established) (sym is.0) ∙ some)

  -- they have names still
  pub named_still : w.established ≡ v.established → (j : ℕ) → IsNamedAt core j → IsNamedAt (record core { clients = ct }) j
  named_still same j named e there some =
      let r = was_in j e there in
      named_so same j e r.was r.there named r.same some

  exchange_so : w.session ≡ v.session → (j : ℕ) (e was : Entry (ClientState S)) (u : ClientState S) → slice_get (entries_of core.clients) j ≡ Some was → MayExchangeAt may_exchange core j
      → e.value ≡ u → (e ≡ was) ⊎ ((e ≡ table.with_value w was) × (i ≡ j)) → may_exchange u.session
  exchange_so same j e was u there may value (inl is) =
      may u (ap (λ o. option_map (λ e. e.value) o) there ∙ ap (λ (e : Entry (ClientState S)). Some e.value) (sym is) ∙ ap Some value)
  exchange_so same j e was u there may value (inr is) =
      subst may_exchange (sym same ∙ ap (λ (e : Entry (ClientState S)). e.value.session) (sym is.0) ∙ ap (λ (u : ClientState S). u.session) value)
      (may v (ap (λ j. option_map (λ e. e.value) (slice_get (entries_of core.clients) j)) (sym is.1) ∙ at))

  -- they stay ready where the session is the same
  pub stays_ready : w.established ≡ v.established → w.session ≡ v.session → StaysReady may_exchange core (record core { clients = ct })
  stays_ready established session = record {
    places = λ n. ap (table.place_of n) is.entries_are ∙ same_place n i w (entries_of core.clients);
    many = ap length is.entries_are ∙ length_at (table.with_value w) i (entries_of core.clients);
    exchange = λ j may u there.
        let e = entry_of (slice_get (entries_of ct) j) u there in
        let r = was_in j e.entry e.there in
        exchange_so session j e.entry r.was u r.there may e.value r.same;
    named = named_still established;
  }

  exchange_new : (u : ClientState S) → may_exchange w.session → Some w ≡ Some u → may_exchange u.session
  exchange_new u may same = subst (λ (u : ClientState S). may_exchange u.session) (ap (λ o. unwrap_or o u) same) may

  -- the client whose turn it is may make its exchange, where its session may
  pub ready_now : table.place_of core.turn.0 (entries_of core.clients) ≡ Some i → i < length (entries_of core.clients) → IsNamedAt core i → w.established ≡ v.established
      → may_exchange w.session → MayExchangeNow may_exchange (record core { clients = ct }) i
  ready_now place within named established may = record {
    place = place_kept core core.turn.0 i v w ct is place;
    within = within_kept core core.turn.0 i v w ct is within;
    exchange = λ u there. exchange_new u may (sym (value_now core core.turn.0 i v w ct is at) ∙ there);
    named = named_still established i named;
  }

-- nothing was changed
pub same_ready : {S : Type 0} (may_exchange : S → Type 0) (core : ServerCore S) → StaysReady may_exchange core core
same_ready may_exchange core = record { places = λ n. refl; many = refl; exchange = λ i may. may; named = λ i named. named }

-- a client that may make its exchange may do so in a core that stays ready, where it is the same one's turn
pub ready_after : {S : Type 0} (may_exchange : S → Type 0) (core next : ServerCore S) (i : ℕ) → MayExchangeNow may_exchange core i → StaysReady may_exchange core next
    → next.turn ≡ core.turn → MayExchangeNow may_exchange next i
ready_after may_exchange core next i now stays turn = record {
  place = ap (λ (who : Cid). table.place_of who.0 (entries_of next.clients)) turn ∙ stays.places core.turn.0 ∙ now.place;
  within = subst (λ k. i < k) (sym stays.many) now.within;
  exchange = stays.exchange i now.exchange;
  named = stays.named i now.named;
}
