-- What a key exchange leaves of a client's session.
use Rattle.std.proofs.Common.{◌≡◌, ℕ, zero, suc, ◌<◌, List, [], ◌∷◌, ◌++◌, length, inl, slice_get, option_map, Option, Some, None, refl, sym, ap, ◌∙◌, arith}
use Rattle.std.specs.Prelude.{is_some, unwrap_or}
use Rattle.std.proofs.lemmas.Bool.{false≢true}
use Rattle.vpn_base.specs.declared.names.Cipher.{Cipher}
use Rattle.vpn_base.specs.declared.names.Draw.{Draw}
use Rattle.vpn_base.specs.declared.names.Policy.{Policy}
use Rattle.vpn_base.specs.declared.names.Role.{Role}
use Rattle.key_method2.specs.declared.message.Km2.{Km2}
use Rattle.key_method2.specs.declared.message.Source.{Source}
use Rattle.key_method2.specs.Messages.{server_message}
use Rattle.client_table.specs.declared.key.Key.{Key}
use Rattle.client_table.specs.Entries.{Entry}
use Rattle.peer_table.specs.declared.outcomes.Turn.{Turn}
use Rattle.peer_table.specs.declared.outcomes.Turn.TheVariants.{Going}
use Rattle.peer_table.specs.EngineAnswers.{prepared_message}
use Rattle.peer_table.specs.Exchange as exchange
use Rattle.peer_table.specs.KeySessions.{Session, newest, newest_session}
use Rattle.peer_table.specs.Outboxes.{actions_of}
use Rattle.peer_table.specs.Peer.{Outcome, Peer, remote_of}
use Rattle.peer_table.specs.Places.{places_from}
use Rattle.server_state.specs.Calls.{opens_in}
use Rattle.server_engine.proofs.Called.{CallKeeps}

write_opens : (role : Role) (bytes : List ℕ) (s : Option Session) → opens_in (actions_of role (exchange.writing bytes s)) ≡ 0
write_opens role bytes None = refl
write_opens role bytes (Some s) = refl

both_open : (role : Role) (bytes : List ℕ) (s t : Option Session) → opens_in (actions_of role (exchange.writing bytes s ++ exchange.closing t)) ≡ 0
both_open role bytes None None = refl
both_open role bytes None (Some t) = refl
both_open role bytes (Some s) None = refl
both_open role bytes (Some s) (Some t) = refl

closed_keeps : (p : Peer) (bytes : List ℕ) (s : Option Session) (o : Outcome Turn) (n : Option ℕ) → o.peer.remote ≡ p.remote → o.peer.name ≡ p.name
    → o.doings ≡ exchange.writing bytes s → CallKeeps p (exchange.session_closed n o)
closed_keeps p bytes s o None remote name doings = record {
  remote = remote;
  opens = ap (λ doings. opens_in (actions_of o.peer.role doings)) doings ∙ write_opens o.peer.role bytes s;
  name = inl name;
}
closed_keeps p bytes s o (Some n) remote name doings = record {
  remote = remote;
  opens = ap (λ doings. opens_in (actions_of o.peer.role (doings ++ exchange.closing (slice_get o.peer.sessions n)))) doings
      ∙ both_open o.peer.role bytes s (slice_get o.peer.sessions n);
  name = inl name;
}

-- the exchange before a session that is one too many is closed
abbrev keyed : ℕ → Peer → Source → Km2 → ℕ → Cipher → Outcome Turn
keyed peer_id p own message used cipher = record {
  peer = record (exchange.with_keys (newest p.sessions)
      (record { block = exchange.block_of message.source own (remote_of p).0 p.envelope.own.0; cipher = cipher; peer_id = peer_id }) used p)
      { asks_push = exchange.asks_with (newest p.sessions) message.info p };
  doings = exchange.writing (server_message own) (newest_session p.sessions);
  datagrams = [];
  answer = Going;
}

with_keeps : (peer_id : ℕ) (p : Peer) (own : Source) (message : Km2) (used : ℕ) (cipher : Option Cipher) → CallKeeps p (exchange.exchanged_with peer_id p own message used cipher)
with_keeps peer_id p own message used None = record { remote = refl; opens = refl; name = inl refl }
with_keeps peer_id p own message used (Some cipher) =
    let o = keyed peer_id p own message used cipher in
    closed_keeps p (server_message own) (newest_session p.sessions) o (exchange.oldest_of (places_from exchange.is_open_keyed 0 o.peer.sessions)) refl refl refl

from_keeps : (policy : Policy) (peer_id : ℕ) (p : Peer) (own : Source) (message : Option (Km2 × ℕ)) → CallKeeps p (exchange.exchanged_from policy peer_id p own message)
from_keeps policy peer_id p own None = record { remote = refl; opens = refl; name = inl refl }
from_keeps policy peer_id p own (Some message) = with_keeps peer_id p own message.0 message.1 (exchange.chosen policy message.0.info)

pub keeps : (policy : Policy) (peer_id : ℕ) (draw : Draw) (p : Peer) → CallKeeps p (exchange.exchanged policy peer_id draw p)
unfolding exchange.exchanged
keeps policy peer_id draw p = from_keeps policy peer_id p (exchange.server_source draw) (prepared_message p)

-- ---- the peer id

-- something stands at a place that is there
pub nowhere : {V : Type 0} (xs : List (Entry V)) (i : ℕ) → i < length xs → None ≡ option_map (λ (e : Entry V). e.key) (slice_get xs i) → ⊥
nowhere [] i within none = omega (arith, within)
nowhere (x ∷ xs) zero within none = false≢true (ap is_some none)
nowhere (x ∷ xs) (suc i) within none = nowhere xs i (omega (arith, within)) none

-- the peer id of a key
pub peer_id_of : {V : Type 0} (o : Option (Entry V)) (k : Key) → Some k ≡ option_map (λ (e : Entry V). e.key) o → option_map (λ (e : Entry V). e.key.peer_id) o ≡ Some k.peer_id
peer_id_of None k is = absurd (false≢true (sym (ap is_some is)))
peer_id_of (Some e) k is = ap (λ (o : Option Key). option_map (λ (k : Key). k.peer_id) o) (sym is)

-- that of the client
pub peer_id_is : {V : Type 0} (o : Option (Entry V)) (e : Entry V) (peer_id : ℕ) → o ≡ Some e → option_map (λ (e : Entry V). e.key.peer_id) o ≡ Some peer_id → peer_id ≡ e.key.peer_id
peer_id_is o e peer_id there is = ap (λ (o : Option ℕ). unwrap_or o peer_id) (sym is ∙ ap (λ o. option_map (λ (e : Entry _). e.key.peer_id) o) there)
