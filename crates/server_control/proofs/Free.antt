-- Peer ids that are free, and whether a server is full, by the entries of its table.
use Rattle.std.proofs.Common.{◌≡◌, ℕ, zero, suc, ◌+◌, ◌<◌, ◌≤◌, ◌==◌, Bool, true, false, cond, List, [], ◌∷◌, length, refl, sym, ap, ◌∙◌, arith}
use Rattle.std.specs.Prelude.{◌&&◌, ◌||◌, count_by, nat_lt, nat_le}
use Rattle.std.specs.List.{fold, list_any}
use Rattle.std.proofs.lemmas.Bool.{false≢true}
use Rattle.std.proofs.lemmas.Grind.{common_steps}
use Rattle.client_table.specs.Changes.{by_key}
use Rattle.client_table.specs.Entries.{Entry}
use Rattle.client_table.specs.Finding as keys
use Rattle.client_table.specs.PeerIds as ids
use Rattle.client_table.specs.Tables.{entries_of, most_of}
use Rattle.peer_table.specs.Peer.{Peer}
use Rattle.server_table.specs.Lookups.{free_peer_id, greatest_peer_id, has_peer_id, is_full, unused_from}
use Rattle.server_table.specs.Table.{Client, Table}
use Rattle.server_state.specs.declared.client.ClientState.{ClientState}
use Rattle.server_state.specs.declared.state.ServerCore.{ServerCore}
use Rattle.server_state.specs.Core.{CoreStands, IsOfClient}
use Rattle.server_state.specs.Standing.{FirstStands, StandFrom}

module _ {S : Type 0} (means : S → Peer → Type 0) where
  any_step : (m n : ℕ) (x : Client) (clients : List Client) (es : List (Entry (ClientState S))) (b : Bool) → x.is_here ≡ b
      → FirstStands (IsOfClient means) (λ es. StandFrom (IsOfClient means) es (suc n) clients) n x es b
      → ((es : List (Entry (ClientState S))) → StandFrom (IsOfClient means) es (suc n) clients → list_any (by_key (keys.has_peer_id m)) es ≡ list_any (has_peer_id m) clients)
      → list_any (by_key (keys.has_peer_id m)) es ≡ list_any (has_peer_id m) (x ∷ clients)
  any_step m n x clients [] true here h ih = absurd h
  any_step m n x clients (e ∷ es) true here h ih = rw (here, h.0.peer_id, ih es h.1) refl
  any_step m n x clients es false here h ih = rw (here) (ih es h)

  any_same : (m : ℕ) (clients : List Client) (es : List (Entry (ClientState S))) (n : ℕ) → StandFrom (IsOfClient means) es n clients
      → list_any (by_key (keys.has_peer_id m)) es ≡ list_any (has_peer_id m) clients
  any_same m [] es n h = ap (list_any (by_key (keys.has_peer_id m))) h
  any_same m (x ∷ clients) es n h = any_step m n x clients es x.is_here refl h (λ es h. any_same m clients es (suc n) h)

  counted : ℕ → List Client → ℕ
  counted a clients = fold (λ a x. a + cond x.is_here 1 0) a clients

  count_step : (n a : ℕ) (x : Client) (clients : List Client) (es : List (Entry (ClientState S))) (b : Bool) → x.is_here ≡ b
      → FirstStands (IsOfClient means) (λ es. StandFrom (IsOfClient means) es (suc n) clients) n x es b
      → ((es : List (Entry (ClientState S))) (a : ℕ) → StandFrom (IsOfClient means) es (suc n) clients → a + length es ≡ counted a clients)
      → a + length es ≡ counted (a + cond b 1 0) clients
  count_step n a x clients [] true here h ih = absurd h
  count_step n a x clients (e ∷ es) true here h ih =
      let more : a + suc (length es) ≡ (a + 1) + length es = omega arith in
      more ∙ ih es (a + 1) h.1
  count_step n a x clients es false here h ih = let same : a + length es ≡ (a + 0) + length es = omega arith in same ∙ ih es (a + 0) h

  count_same : (clients : List Client) (es : List (Entry (ClientState S))) (n a : ℕ) → StandFrom (IsOfClient means) es n clients
      → a + length es ≡ counted a clients
  unfolding counted
  count_same [] es n a h = let none : length es ≡ 0 = ap length h in omega (arith, none)
  count_same (x ∷ clients) es n a h = count_step n a x clients es x.is_here refl h (λ es a h. count_same clients es (suc n) a h)

  length_is : (clients : List Client) (es : List (Entry (ClientState S))) → StandFrom (IsOfClient means) es 0 clients → length es ≡ count_by (λ (x : Client). x.is_here) clients
  unfolding counted
  length_is clients es h = let zero_more : length es ≡ 0 + length es = omega arith in zero_more ∙ count_same clients es 0 0 h

  -- whether the server is full
  pub full_is : (core : ServerCore S) (t : Table) → CoreStands means core t → nat_le (most_of core.clients) (length (entries_of core.clients)) ≡ is_full t
  unfolding is_full
  full_is core t h =
      ap (λ k. nat_le k (length (entries_of core.clients))) h.most ∙ ap (nat_le t.settings.max_clients) (length_is t.clients (entries_of core.clients) h.clients)

-- ---- the least that is free

is_below : (n m : ℕ) → nat_lt n m ≡ true → n < m
is_below n m is = grind (arith, common_steps)

is_equal : (n m : ℕ) → n ≤ m → nat_lt n m ≡ false → n ≡ m
is_equal n m most is = grind (arith, common_steps)

module _ (clients : List Client) (least : ℕ) (below : (m : ℕ) → m < least → list_any (has_peer_id m) clients ≡ true) (free : list_any (has_peer_id least) clients ≡ false) where
  mutual
    find_step : (most n : ℕ) (b c : Bool) → n ≤ least → least ≤ n + suc most → nat_lt n least ≡ b → list_any (has_peer_id n) clients ≡ c
        → ((n : ℕ) → n ≤ least → least ≤ n + most → unused_from most n clients ≡ least) → unused_from (suc most) n clients ≡ least
    find_step most n true true lo hi lt used ih = rw (used) (ih (suc n) (omega (arith, is_below n least lt)) (omega (arith, hi)))
    find_step most n true false lo hi lt used ih = absurd (false≢true (sym used ∙ below n (is_below n least lt)))
    find_step most n false true lo hi lt used ih = absurd (false≢true (sym free ∙ ap (λ k. list_any (has_peer_id k) clients) (sym (is_equal n least lo lt)) ∙ used))
    find_step most n false false lo hi lt used ih = rw (used) (is_equal n least lo lt)

  found : (most n : ℕ) → n ≤ least → least ≤ n + most → unused_from most n clients ≡ least
  found zero n lo hi = omega (arith, lo, hi)
  found (suc most) n lo hi = find_step most n (nat_lt n least) (list_any (has_peer_id n) clients) lo hi refl refl (λ n lo hi. found most n lo hi)

apart : (k m : ℕ) (b : Bool) → k < m → (k == m) ≡ b → b ≡ false
apart k m true less is = absurd (grind (arith, common_steps))
apart k m false less is = refl

none_above : (m : ℕ) (clients : List Client) → greatest_peer_id clients < m → list_any (has_peer_id m) clients ≡ false
none_above m [] less = refl
none_above m (x ∷ clients) less =
    let not_this : (x.peer_id == m) ≡ false = apart x.peer_id m (x.peer_id == m) (omega (arith, less)) refl in
    let not_those = none_above m clients (omega (arith, less)) in
    none_step x.is_here (x.peer_id == m) (list_any (has_peer_id m) clients) not_this not_those
  where
    none_step : (b c d : Bool) → c ≡ false → d ≡ false → ((b && c) || d) ≡ false
    none_step true c d is also = rw (is, also) refl
    none_step false c d is also = also

not_more : (least most : ℕ) → (b : Bool) → nat_lt most least ≡ b → (most < least → ⊥) → least ≤ most
not_more least most true is none = absurd (none (is_below most least is))
not_more least most false is none = grind (arith, common_steps)

-- the least free peer id of the table of clients is that of the server
pub free_is : {S : Type 0} (means : S → Peer → Type 0) (core : ServerCore S) (t : Table) → CoreStands means core t
    → ids.IsLeastUnused (λ n. by_key (keys.has_peer_id n)) (ids.free_peer_id (entries_of core.clients)) (entries_of core.clients)
    → ids.free_peer_id (entries_of core.clients) ≡ free_peer_id t
unfolding free_peer_id
free_is means core t h is =
    let es = entries_of core.clients in
    let least = ids.free_peer_id es in
    let same : (m : ℕ) → list_any (by_key (keys.has_peer_id m)) es ≡ list_any (has_peer_id m) t.clients = λ m. any_same means m t.clients es 0 h.clients in
    let below : (m : ℕ) → m < least → list_any (has_peer_id m) t.clients ≡ true = λ m less. sym (same m) ∙ is.least m less in
    let top = suc (greatest_peer_id t.clients) in
    let few : least ≤ top = not_more least top (nat_lt top least) refl (λ less. false≢true (sym (none_above top t.clients (omega arith)) ∙ below top less)) in
    sym (found t.clients least below (sym (same least) ∙ is.unused) top 0 (omega arith) (omega (arith, few)))
