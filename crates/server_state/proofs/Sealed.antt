-- What sealing leaves.
use Rattle.std.proofs.Common.{◌≡◌, append-nil, ℕ, Bool, true, false, cond, List, [], ◌∷◌, ◌++◌, length, slice_get, Option, Some, None, Result, Ok, Err, option_map, refl, sym, ap, subst, ◌∙◌}
use Rattle.std.specs.Prelude.{unwrap_or}
use Rattle.vpn_base.specs.declared.address.Addr.{Addr}
use Rattle.vpn_links.specs.Actions.{Action, Contents, Holds, Stop, Wire, action, carried_bytes}
use Rattle.vpn_links.specs.declared.effects.Effect.{Effect}
use Rattle.vpn_links.specs.declared.notes.Note.TheVariants.{KeySpent}
use Rattle.packet_ids.specs.declared.sending.Spent.{Spent}
use Rattle.client_table.specs.declared.table.ClientTable.{ClientTable}
use Rattle.client_table.specs.Changes as table
use Rattle.client_table.specs.Tables.{admitted_by, entries_of, most_of}
use Rattle.peer_table.specs.DataPackets.{ids_are_spent, sealed_by, sealed_in, sealed_to}
use Rattle.peer_table.specs.KeySessions.{Keys, Session, keys_of, newest_usable, session_at}
use Rattle.peer_table.specs.Outboxes.{wired}
use Rattle.peer_table.specs.Peer.{Outcome, Peer}
use Rattle.server_table.specs.Courses.{Course, counted, reported, with_client}
use Rattle.server_table.specs.InnerPackets as server
use Rattle.server_table.specs.Lookups.{cid, client_here, if_here}
use Rattle.server_table.specs.Table.{Client}
use Rattle.server_state.specs.declared.client.ClientState.{ClientState}
use Rattle.server_state.specs.declared.state.ServerCore.{ServerCore}
use Rattle.server_state.specs.Core.{CourseStands, IsOfClient, StateStands}
use Rattle.server_state.specs.Places.{HasValueFor}
use Rattle.server_state.specs.internal.Sealing.{Seals, TellsSealed, after_sealing}
use Rattle.server_state.proofs.Standing.{Located}
use Rattle.server_state.proofs.Changed.{client_changed, client_kept, nobody_at, there_at, with_bytes_out, with_state}
use Rattle.server_state.proofs.Courses.{did_stands}

-- the bytes of a datagram that is lent
pub length_is : (e : Option Effect) (to : Addr) (datagram : List ℕ) → option_map action e ≡ Some (Wire to datagram)
    → length (carried_bytes (unwrap_or (option_map action e) Stop)) ≡ length datagram
length_is e to datagram is = ap (λ (o : Option Action). length (carried_bytes (unwrap_or o Stop))) is

-- ---- the session

-- sealing leaves the other end's session id and name, and everything where it fails
record SealingKeeps (p : Peer) (o : Outcome (Result (List ℕ) Spent)) : Type 0 where
  remote : o.peer.remote ≡ p.remote
  name : o.peer.name ≡ p.name
  failed : (s : Spent) → o.answer ≡ Err s → o.peer ≡ p

by_keeps : (p : Peer) (inner : List ℕ) (n : ℕ) (s : Session) (k : Option Keys) (spent : Bool) → SealingKeeps p (sealed_by p inner n s k spent)
by_keeps p inner n s (Some k) false = record { remote = refl; name = refl; failed = λ s e. cc }
by_keeps p inner n s (Some k) true = record { remote = refl; name = refl; failed = λ s e. refl }
by_keeps p inner n s None spent = record { remote = refl; name = refl; failed = λ s e. refl }

in_keeps : (p : Peer) (inner : List ℕ) (n : Option ℕ) (s : Option Session) → SealingKeeps p (sealed_in p inner n s)
in_keeps p inner (Some n) (Some s) = by_keeps p inner n s (keys_of s.stage) (ids_are_spent s)
in_keeps p inner (Some n) None = record { remote = refl; name = refl; failed = λ s e. refl }
in_keeps p inner None s = record { remote = refl; name = refl; failed = λ s e. refl }

keeps : (p : Peer) (inner : List ℕ) → SealingKeeps p (sealed_to inner p)
unfolding sealed_to
keeps p inner = in_keeps p inner (newest_usable p.sessions) (session_at p.sessions (newest_usable p.sessions))

-- ---- the core

module _ {S : Type 0} (means : S → Peer → Type 0) (before : List Action) (core : ServerCore S) (old : Contents) (c : Course) (h : CourseStands means before core old c)
    (m : ℕ) (inner : List ℕ) where
  -- the client of the number is here
  here_is : (x : Client) → slice_get c.table.clients m ≡ Some x → x.is_here ≡ true → client_here c.table m ≡ Some x
  unfolding client_here
  here_is x there here = ap if_here there ∙ ap (λ b. cond b (Some x) None) here

  -- nobody is
  pub none_sealed : table.place_of m (entries_of core.clients) ≡ None → CourseStands means before core old (server.sealed_to m inner c)
  unfolding server.sealed_to
  none_sealed none = subst (λ o. CourseStands means before core old (server.sealed_for m inner c o)) (sym (nobody_at means core c.table m h.table none)) h

  module _ (i : ℕ) (place : table.place_of m (entries_of core.clients) ≡ Some i) (to : Addr)
      (key : option_map (λ e. e.key.address) (slice_get (entries_of core.clients) i) ≡ Some to) (v w : ClientState S)
      (value : option_map (λ e. e.value) (slice_get (entries_of core.clients) i) ≡ Some v) (ct : ClientTable (ClientState S))
      (is : entries_of ct ≡ table.changed_at i (table.with_value w) (entries_of core.clients)) (admitted : admitted_by ct ≡ admitted_by core.clients)
      (most : most_of ct ≡ most_of core.clients) (file : w.file ≡ v.file) where
    l : Located (IsOfClient means) (λ e. e.key.number.0) (λ e n x is. is.number) m (entries_of core.clients) 0 m c.table.clients i
    l = there_at means core c.table m i h.table place

    value_is : l.entry.value ≡ v
    value_is = ap (λ o. unwrap_or o v) (sym (ap (λ o. option_map (λ e. e.value) o) l.entry_there) ∙ value)

    state_was : StateStands means v l.client
    state_was = subst (λ v. StateStands means v l.client) value_is l.stands.state

    file_kept : w.file ≡ l.entry.value.file
    file_kept = file ∙ sym (ap (λ (v : ClientState S). v.file) value_is)

    address_is : to ≡ l.client.address
    address_is =
        sym (ap (λ o. unwrap_or o to) (sym (ap (λ o. option_map (λ e. e.key.address) o) l.entry_there) ∙ key)) ∙ l.stands.address

    ok_step : (new : Contents) (size b : ℕ) (peer : Peer) (a : Result (List ℕ) Spent) → b ≡ counted core.bytes_out size
        → peer.remote ≡ l.client.session.remote → peer.name ≡ l.client.session.name → StateStands means w (after_sealing core.moment.0 l.client peer a)
        → Holds new (old.effects ++ wired to a) old.staged → TellsSealed (Ok size) a
        → CourseStands means before (record core { clients = ct; bytes_out = b }) new (server.sealed_as m l.client c peer a)
    ok_step new size b peer (Ok d) more remote name state holds told =
        let g : Client → Client = server.with_sent c.table.moment peer (length d) in
        did_stands means before (record core { clients = ct; bytes_out = b }) old new (Wire l.client.address d)
        (record c { table = record (with_client m g c.table) { bytes_out = counted c.table.bytes_out (length d) } })
        (record {
          table = with_bytes_out means (record core { clients = ct }) (with_client m g c.table) b (counted c.table.bytes_out (length d))
              (client_changed means core c.table m i ct w g h.table l is admitted most l.here
              (with_state means l.entry m l.client (g l.client) w l.stands refl refl remote name refl refl file_kept
              (subst (λ (now : ℕ). StateStands means w (server.with_sent now peer (length d) l.client)) h.table.moment state))
              (λ y. refl))
              (more ∙ ap (counted core.bytes_out) told ∙ ap (λ k. counted k (length d)) h.table.bytes_out);
          outbox = h.outbox;
          in_turn = h.in_turn;
        })
        (subst (λ (address : Addr). Holds new (old.effects ++ Wire address d ∷ []) old.staged) address_is holds)
    ok_step new size b peer (Err s) more remote name state holds told = absurd told

    -- it was sealed
    pub ok_sealed : (new : Contents) (size b : ℕ) → b ≡ counted core.bytes_out size
        → ((x : Client) → StateStands means v x → Seals means w old new to core.moment.0 x (Ok size) (sealed_to inner x.session))
        → CourseStands means before (record core { clients = ct; bytes_out = b }) new (server.sealed_to m inner c)
    unfolding server.sealed_to
    ok_sealed new size b more seals =
        let o = sealed_to inner l.client.session in
        let s = seals l.client state_was in
        subst (λ x. CourseStands means before (record core { clients = ct; bytes_out = b }) new (server.sealed_for m inner c x))
        (sym (here_is l.client l.client_there l.here))
        (ok_step new size b o.peer o.answer more (keeps l.client.session inner).remote (keeps l.client.session inner).name s.state s.outbox s.told)

    err_step : (mid new : Contents) (spent : Spent) (peer : Peer) (a : Result (List ℕ) Spent) → ((s : Spent) → a ≡ Err s → peer ≡ l.client.session)
        → StateStands means w (after_sealing core.moment.0 l.client peer a) → Holds mid (old.effects ++ wired to a) old.staged → TellsSealed (Err spent) a
        → ((c : Course) → CourseStands means before (record core { clients = ct }) mid c → CourseStands means before (record core { clients = ct }) new (reported (KeySpent (cid m)) c))
        → CourseStands means before (record core { clients = ct }) new (server.sealed_as m l.client c peer a)
    err_step mid new spent peer (Ok d) same state holds told tells = absurd told
    err_step mid new spent peer (Err s) same state holds told tells =
        tells c (record {
          table = client_kept means core c.table m i ct w h.table l is admitted most file_kept
              (subst (λ (p : Peer). StateStands means w (record l.client { session = p })) (same s refl) state);
          outbox = (holds.0 ∙ append-nil old.effects ∙ h.outbox.0, holds.1 ∙ h.outbox.1);
          in_turn = h.in_turn;
        })

    -- its packet ids are spent
    pub err_sealed : (mid new : Contents) (spent : Spent)
        → ((x : Client) → StateStands means v x → Seals means w old mid to core.moment.0 x (Err spent) (sealed_to inner x.session))
        → ((c : Course) → CourseStands means before (record core { clients = ct }) mid c → CourseStands means before (record core { clients = ct }) new (reported (KeySpent (cid m)) c))
        → CourseStands means before (record core { clients = ct }) new (server.sealed_to m inner c)
    unfolding server.sealed_to
    err_sealed mid new spent seals tells =
        let o = sealed_to inner l.client.session in
        let s = seals l.client state_was in
        subst (λ x. CourseStands means before (record core { clients = ct }) new (server.sealed_for m inner c x))
        (sym (here_is l.client l.client_there l.here))
        (err_step mid new spent o.peer o.answer (keeps l.client.session inner).failed s.state s.outbox s.told tells)

-- ---- the table of clients

-- another value at the place of a number, and none where nobody has it
pub value_for : {S : Type 0} (m i : ℕ) (w : ClientState S) (before after : ClientTable (ClientState S)) → table.place_of m (entries_of before) ≡ Some i
    → entries_of after ≡ table.changed_at i (table.with_value w) (entries_of before) → admitted_by after ≡ admitted_by before → most_of after ≡ most_of before
    → HasValueFor m before after
value_for m i w before after place is admitted most = record {
  change = λ v. w;
  entries_are = is ∙ sym (ap (λ (o : Option ℕ). table.changed_where o (table.with_value w) (entries_of before)) place);
  admitted_is = admitted;
  most_is = most;
}

pub no_value_for : {S : Type 0} (m : ℕ) (before : ClientTable (ClientState S)) → table.place_of m (entries_of before) ≡ None → HasValueFor m before before
no_value_for m before none = record {
  change = λ v. v;
  entries_are = sym (ap (λ (o : Option ℕ). table.changed_where o (λ e. table.with_value e.value e) (entries_of before)) none);
  admitted_is = refl;
  most_is = refl;
}
