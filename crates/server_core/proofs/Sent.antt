-- Which key session sent a packet.
use Rattle.std.proofs.Common.{◌≡◌, ℕ, zero, suc, ◌+◌, ◌<◌, ◌==◌, length, Bool, true, false, List, [], ◌∷◌, slice_get, option_map, Option, Some, None, Result, refl, sym, ap, subst, ◌∙◌, arith}
use Rattle.std.specs.Prelude.{is_some, unwrap_or, if◌then◌else◌}
use Rattle.std.specs.Option.{option_or}
use Rattle.std.proofs.lemmas.Bool.{false≢true}
use Rattle.std.proofs.lemmas.Grind.{common_steps}
use Rattle.vpn_base.specs.declared.address.Addr.{Addr}
use Rattle.vpn_base.specs.declared.names.Malformed.{Malformed}
use Rattle.vpn_base.specs.declared.names.Place.{Place}
use Rattle.opcode_codec.specs.Packet.{PacketForm, packet_of}
use Rattle.client_table.specs.declared.key.Key.{Key}
use Rattle.client_table.specs.Entries.{Entry}
use Rattle.peer_table.specs.Naming.{place}
use Rattle.peer_table.specs.Peer.{Peer}
use Rattle.server_table.specs.Senders.{first_sent, kid_in, sent_by, sent_from, sent_here, sent_packet}
use Rattle.server_table.specs.Table.{Client, Table}
use Rattle.server_state.specs.declared.client.ClientState.{ClientState}
use Rattle.server_state.specs.Core.{IsOfClient}
use Rattle.server_state.specs.Standing.{FirstStands, StandFrom}
use Rattle.server_core.specs.internal.{sent_of}

-- no client before a place may have sent it
abbrev pub NoneSent : {S : Type 0} → (S → Peer → Type 0) → Addr → PacketForm → ℕ → List (Entry (ClientState S)) → Type 0
NoneSent means to packet i es = (j : ℕ) (e : Entry _) (p : Peer) → j < i → slice_get es j ≡ Some e → means e.value.session p → sent_of to packet e p ≡ None

module _ {S : Type 0} (means : S → Peer → Type 0) (to : Addr) (packet : PacketForm) where
  here_from : (n : ℕ) (e : Entry (ClientState S)) (x : Client) → x.is_here ≡ true → IsOfClient means e n x → sent_from to packet x ≡ sent_of to packet e x.session
  here_from n e x here h =
      ap (λ (b : Bool). if b then sent_here to packet x.address x.peer_id (place (kid_in packet) x.session) else None) here
      ∙ sym (ap (λ (a : Addr). sent_here to packet a e.key.peer_id (place (kid_in packet) x.session)) h.address
      ∙ ap (λ k. sent_here to packet x.address k (place (kid_in packet) x.session)) h.peer_id)

  gone_from : (x : Client) → x.is_here ≡ false → sent_from to packet x ≡ None
  gone_from x away = ap (λ (b : Bool). if b then sent_here to packet x.address x.peer_id (place (kid_in packet) x.session) else None) away

  behind : (i : ℕ) (e : Entry (ClientState S)) (es : List (Entry (ClientState S))) → NoneSent means to packet (suc i) (e ∷ es) → NoneSent means to packet i es
  behind i e es none j f p less at stands = none (suc j) f p (omega (arith, less)) at stands

  -- the first is none, so that it is one behind
  next_is : (x : Client) (clients : List Client) (o : Option Place) → sent_from to packet x ≡ None → first_sent to packet clients ≡ o → first_sent to packet (x ∷ clients) ≡ o
  next_is x clients o none rest = ap (λ first. option_or first (first_sent to packet clients)) none ∙ rest

  found_step : (n i : ℕ) (e : Entry (ClientState S)) (at : Place) (x : Client) (clients : List Client) (es : List (Entry (ClientState S))) (b : Bool) → x.is_here ≡ b
      → FirstStands (IsOfClient means) (λ es. StandFrom (IsOfClient means) es (suc n) clients) n x es b → NoneSent means to packet i es → slice_get es i ≡ Some e
      → ((p : Peer) → means e.value.session p → sent_of to packet e p ≡ Some at)
      → ((es : List (Entry (ClientState S))) (i : ℕ) → StandFrom (IsOfClient means) es (suc n) clients → NoneSent means to packet i es → slice_get es i ≡ Some e
      → first_sent to packet clients ≡ Some at)
      → first_sent to packet (x ∷ clients) ≡ Some at
  found_step n i e at x clients [] true here h none there sends ih = absurd h
  found_step n zero e at x clients (f ∷ es) true here h none there sends ih =
      let same : f ≡ e = ap (λ o. unwrap_or o f) there in
      ap (λ first. option_or first (first_sent to packet clients))
      (here_from n f x here h.0
      ∙ ap (λ (e : Entry (ClientState S)). sent_of to packet e x.session) same
      ∙ sends x.session (subst (λ (e : Entry (ClientState S)). means e.value.session x.session) same h.0.state.session))
  found_step n (suc i) e at x clients (f ∷ es) true here h none there sends ih =
      next_is x clients (Some at) (here_from n f x here h.0 ∙ none 0 f x.session (omega arith) refl h.0.state.session) (ih es i h.1 (behind i f es none) there)
  found_step n i e at x clients es false here h none there sends ih = next_is x clients (Some at) (gone_from x here) (ih es i h none there)

  -- the client at this place has sent it
  pub found : (e : Entry (ClientState S)) (at : Place) (clients : List Client) (es : List (Entry (ClientState S))) (n i : ℕ) → StandFrom (IsOfClient means) es n clients
      → NoneSent means to packet i es → slice_get es i ≡ Some e → ((p : Peer) → means e.value.session p → sent_of to packet e p ≡ Some at)
      → first_sent to packet clients ≡ Some at
  found e at [] es n i h none there sends = absurd (false≢true (ap is_some (sym (ap (λ (es : List (Entry (ClientState S))). slice_get es i) h) ∙ there)))
  found e at (x ∷ clients) es n i h none there sends =
      found_step n i e at x clients es x.is_here refl h none there sends (λ es i h none there. found e at clients es (suc n) i h none there sends)

  none_step : (n : ℕ) (x : Client) (clients : List Client) (es : List (Entry (ClientState S))) (b : Bool) → x.is_here ≡ b
      → FirstStands (IsOfClient means) (λ es. StandFrom (IsOfClient means) es (suc n) clients) n x es b → NoneSent means to packet (length es) es
      → ((es : List (Entry (ClientState S))) → StandFrom (IsOfClient means) es (suc n) clients → NoneSent means to packet (length es) es → first_sent to packet clients ≡ None)
      → first_sent to packet (x ∷ clients) ≡ None
  none_step n x clients [] true here h none ih = absurd h
  none_step n x clients (f ∷ es) true here h none ih =
      next_is x clients None (here_from n f x here h.0 ∙ none 0 f x.session (omega arith) refl h.0.state.session) (ih es h.1 (behind (length es) f es none))
  none_step n x clients es false here h none ih = next_is x clients None (gone_from x here) (ih es h none)

  -- no client has
  pub none_found : (clients : List Client) (es : List (Entry (ClientState S))) (n : ℕ) → StandFrom (IsOfClient means) es n clients → NoneSent means to packet (length es) es
      → first_sent to packet clients ≡ None
  none_found [] es n h none = refl
  none_found (x ∷ clients) es n h none = none_step n x clients es x.is_here refl h none (λ es h none. none_found clients es (suc n) h none)

  last_or_not : (i : ℕ) (es : List (Entry (ClientState S))) → NoneSent means to packet i es
      → ((e : Entry (ClientState S)) (p : Peer) → slice_get es i ≡ Some e → means e.value.session p → sent_of to packet e p ≡ None)
      → (j : ℕ) (e : Entry (ClientState S)) (p : Peer) → j < i + 1 → slice_get es j ≡ Some e → means e.value.session p → (b : Bool) → (j == i) ≡ b → sent_of to packet e p ≡ None
  last_or_not i es none last j e p less at stands true is =
      let same : j ≡ i = grind (arith, common_steps) in last e p (subst (λ k. slice_get es k ≡ Some e) same at) stands
  last_or_not i es none last j e p less at stands false is =
      let before : j < i = grind (arith, common_steps) in none j e p before at stands

  -- one place more
  pub one_more : (i : ℕ) (es : List (Entry (ClientState S))) → NoneSent means to packet i es
      → ((e : Entry (ClientState S)) (p : Peer) → slice_get es i ≡ Some e → means e.value.session p → sent_of to packet e p ≡ None) → NoneSent means to packet (i + 1) es
  one_more i es none last j e p less at stands = last_or_not i es none last j e p less at stands (j == i) refl

-- what stands at a place
pub record IsEntryAt {V : Type 0} (es : List (Entry V)) (i : ℕ) : Type 0 where
  pub entry : Entry V
  pub there : slice_get es i ≡ Some entry

pub entry_there : {V : Type 0} (es : List (Entry V)) (i : ℕ) → i < length es → IsEntryAt es i
entry_there [] i less = absurd (omega (arith, less))
entry_there (e ∷ es) zero less = record { entry = e; there = refl }
entry_there (e ∷ es) (suc i) less = let rest = entry_there es i (omega (arith, less)) in record { entry = rest.entry; there = rest.there }

-- the key and the value of what stands at a place
pub entry_is : {V : Type 0} (es : List (Entry V)) (i : ℕ) (e : Entry V) (k : Key) (v : V) → slice_get es i ≡ Some e → option_map (λ e. e.key) (slice_get es i) ≡ Some k
    → option_map (λ e. e.value) (slice_get es i) ≡ Some v → (k ≡ e.key) × (v ≡ e.value)
entry_is es i e k v there key value = (
  ap (λ o. unwrap_or o k) (sym key ∙ ap (λ o. option_map (λ e. e.key) o) there),
  ap (λ o. unwrap_or o v) (sym value ∙ ap (λ o. option_map (λ e. e.value) o) there),
)

-- by what packet a datagram is
pub by_packet : (t : Table) (to : Addr) (datagram : List ℕ) (r : Result PacketForm Malformed) → r ≡ packet_of datagram → sent_packet to t.clients r ≡ sent_by t to datagram
unfolding sent_by
by_packet t to datagram r is = ap (sent_packet to t.clients) is
