-- Messages that are passed.
use Rattle.std.proofs.Common.{◌≡◌, ℕ, ◌≤◌, true, false, List, [], ◌∷◌, length, slice_get, option_map, Option, Some, None, refl, sym, ap, subst, ◌∙◌, arith}
use Rattle.std.specs.Str.{bytes_eq}
use Rattle.std.proofs.lemmas.Bool.{false≢true}
use Rattle.vpn_base.specs.declared.names.Conn.{Conn}
use Rattle.vpn_links.specs.Actions.{Action, Contents}
use Rattle.vpn_links.specs.declared.notes.Note.TheVariants.{Ignored}
use Rattle.client_table.specs.declared.table.ClientTable.{ClientTable}
use Rattle.client_table.specs.Changes as table
use Rattle.client_table.specs.Tables.{entries_of}
use Rattle.peer_table.specs.Exchange.{after_message, after_message_in, next_message, waiting_in}
use Rattle.peer_table.specs.Peer.{Peer}
use Rattle.server_table.specs.Courses.{Course, client_changed, reported}
use Rattle.server_table.specs.Exchange.{message_came, messages_taken_by, messages_taken_of, other_message, push_request, requested}
use Rattle.server_table.specs.Lookups.{cid, client_here}
use Rattle.server_table.specs.Table.{Client, Table}
use Rattle.server_state.specs.declared.client.ClientState.{ClientState}
use Rattle.server_state.specs.declared.state.ServerCore.{ServerCore}
use Rattle.server_state.specs.Core.{CourseStands, FileStands, established_at, name_once}
use Rattle.server_state.specs.Places.{IsChangedAt, IsThere}
use Rattle.server_engine.specs.declared.messages.Waiting.{Waiting}
use Rattle.server_engine.specs.declared.messages.Waiting.TheVariants as found
use Rattle.server_engine.specs.Messages.{IsPassed, Sees, passed}
use Rattle.server_engine.proofs.Asked.{same_client}
use Rattle.server_engine.proofs.Judged.{state_at, value_is}

-- a message leaves the other end's session id and name
record MessageKeeps (p next : Peer) : Type 0 where
  remote : next.remote ≡ p.remote
  name : next.name ≡ p.name

in_keeps : (n : Option ℕ) (p : Peer) → MessageKeeps p (after_message_in n p)
in_keeps None p = record { remote = refl; name = refl }
in_keeps (Some n) p = record { remote = refl; name = refl }

message_keeps : (p : Peer) → MessageKeeps p (after_message p)
unfolding after_message
message_keeps p = in_keeps (waiting_in p) p

-- ---- the core

module _ {S : Type 0} (means : S → Peer → Type 0) (before : List Action) (core : ServerCore S) (c : Course) (out : Contents) (n i : ℕ) (h : CourseStands means before core out c)
    (there : IsThere means core c.table n i) (v : ClientState S) (at : option_map (λ e. e.value) (slice_get (entries_of core.clients) i) ≡ Some v) where
  -- it was passed
  pub passed_at : (w : ClientState S) (ct : ClientTable (ClientState S)) → IsChangedAt core i (table.with_value w) ct → w ≡ record v { session = w.session }
      → ((p : Peer) → means v.session p → means w.session (after_message p))
      → CourseStands means before (record core { clients = ct }) out (client_changed n (λ x. record x { session = after_message x.session }) c)
  passed_at w ct is others passed =
      let x = there.client in
      let s = state_at means core c.table n i v there at in
      let kept = message_keeps x.session in
      let file : w.file ≡ there.entry.value.file =
      ap (λ (w : ClientState S). w.file) others ∙ sym (ap (λ (v : ClientState S). v.file) (value_is (slice_get (entries_of core.clients) i) there.entry v there.entry_there at)) in
      record {
        table = there.changed ct (table.with_value w) (λ x. record x { session = after_message x.session }) is there.here
            (record {
              number = there.stands.number;
              peer_id = there.stands.peer_id;
              address = there.stands.address;
              remote = kept.remote ∙ there.stands.remote;
              name = there.stands.name ∙ sym (ap (λ name. name_once name x.established) kept.name);
              file = subst (λ name. FileStands name w.file x.file) (sym kept.name) (subst (λ file. FileStands x.session.name file x.file) (sym file) there.stands.file);
              state = record {
                session = passed x.session s.session;
                established = ap (λ (w : ClientState S). option_map established_at w.established) others ∙ s.established;
                heard = ap (λ (w : ClientState S). w.heard.0) others ∙ s.heard;
                sealed_at = ap (λ (w : ClientState S). w.sealed_at.0) others ∙ s.sealed_at;
                bytes_in = ap (λ (w : ClientState S). w.bytes_in) others ∙ s.bytes_in;
                bytes_out = ap (λ (w : ClientState S). w.bytes_out) others ∙ s.bytes_out;
              };
            })
            (λ y. refl);
        outbox = h.outbox;
        in_turn = h.in_turn;
      }

-- ---- what it is

none_waits : (behind : Course → Course) (n : ℕ) (c : Course) (m : Option (Conn × List ℕ)) → Sees found.Nothing m → messages_taken_of behind n c m ≡ c
none_waits behind n c None sees = refl
none_waits behind n c (Some m) sees = absurd sees

no_length : (b : ℕ) (bytes : List ℕ) → length (b ∷ bytes) ≡ 0 → ⊥
no_length b bytes none = omega (arith, none)

no_byte : 1 ≤ 0 → ⊥
no_byte some = omega (arith, some)

empty_came : (n : ℕ) (c : Course) (conn : Conn) (bytes : List ℕ) → length bytes ≡ 0 → message_came n c conn bytes ≡ c
empty_came n c conn [] none = refl
empty_came n c conn (b ∷ bytes) none = absurd (no_length b bytes none)

empty_waits : (behind : Course → Course) (n : ℕ) (c : Course) (m : Option (Conn × List ℕ)) → Sees found.Empty m → messages_taken_of behind n c m ≡ behind (passed n c)
empty_waits behind n c None sees = absurd sees
empty_waits behind n c (Some m) sees = ap behind (empty_came n (passed n c) m.0 m.1 sees)

other_came : (n : ℕ) (c : Course) (conn : Conn) (bytes : List ℕ) → 1 ≤ length bytes → bytes_eq bytes push_request ≡ false → message_came n c conn bytes ≡ reported (Ignored (cid n)) c
other_came n c conn [] some other = absurd (no_byte some)
other_came n c conn (b ∷ bytes) some other = ap (other_message n conn c) other

other_waits : (behind : Course → Course) (n : ℕ) (c : Course) (m : Option (Conn × List ℕ)) → Sees found.Other m
    → messages_taken_of behind n c m ≡ behind (reported (Ignored (cid n)) (passed n c))
other_waits behind n c None sees = absurd sees
other_waits behind n c (Some m) sees = ap behind (other_came n (passed n c) m.0 m.1 sees.0 sees.1)

request_came : (n : ℕ) (c : Course) (on conn : Conn) (bytes : List ℕ) → on ≡ conn → bytes_eq bytes push_request ≡ true
    → message_came n c conn bytes ≡ requested n on c (client_here c.table n)
request_came n c on conn [] same request = absurd (false≢true request)
request_came n c on conn (b ∷ bytes) same request = ap (other_message n conn c) request ∙ ap (λ conn. requested n conn c (client_here c.table n)) (sym same)

request_waits : (behind : Course → Course) (n : ℕ) (c : Course) (on : Conn) (m : Option (Conn × List ℕ)) → Sees (found.Request on) m
    → messages_taken_of behind n c m ≡ behind (requested n on (passed n c) (client_here (passed n c).table n))
request_waits behind n c on None sees = absurd sees
request_waits behind n c on (Some m) sees = ap behind (request_came n (passed n c) on m.0 m.1 sees.0 sees.1)

module _ {S : Type 0} (means : S → Peer → Type 0) (before : List Action) (core : ServerCore S) (c : Course) (n i : ℕ) (there : IsThere means core c.table n i)
    (v : ClientState S) (at : option_map (λ e. e.value) (slice_get (entries_of core.clients) i) ≡ Some v) (seen : Waiting)
    (sees : (p : Peer) → means v.session p → Sees seen (next_message p)) (next : ServerCore S) (out : Contents) where
  sees_as : (found : Waiting) → seen ≡ found → Sees found (next_message there.client.session)
  sees_as found is =
      subst (λ seen. Sees seen (next_message there.client.session)) is (sees there.client.session (state_at means core c.table n i v there at).session)

  by_client : (behind : Course → Course) → messages_taken_by behind n c (client_here c.table n) ≡ messages_taken_of behind n c (next_message there.client.session)
  by_client behind = ap (messages_taken_by behind n c) there.client_there

  pub nothing_taken : seen ≡ found.Nothing → CourseStands means before next out c → IsPassed means before next out n c found.Nothing
  nothing_taken is h = (h, λ behind. by_client behind ∙ none_waits behind n c (next_message there.client.session) (sees_as found.Nothing is))

  pub empty_taken : seen ≡ found.Empty → CourseStands means before next out (passed n c) → IsPassed means before next out n c found.Empty
  empty_taken is h = record {
    so_far = passed n c;
    stands = h;
    leads = λ behind. by_client behind ∙ empty_waits behind n c (next_message there.client.session) (sees_as found.Empty is);
  }

  pub request_taken : (conn : Conn) → seen ≡ found.Request conn → CourseStands means before next out (passed n c) → IsPassed means before next out n c (found.Request conn)
  request_taken conn is h = record {
    so_far = passed n c;
    stands = h;
    leads = λ behind. by_client behind ∙ request_waits behind n c conn (next_message there.client.session) (sees_as (found.Request conn) is);
  }

  pub other_taken : seen ≡ found.Other → CourseStands means before next out (reported (Ignored (cid n)) (passed n c)) → IsPassed means before next out n c found.Other
  other_taken is h = record {
    so_far = reported (Ignored (cid n)) (passed n c);
    stands = h;
    leads = λ behind. by_client behind ∙ other_waits behind n c (next_message there.client.session) (sees_as found.Other is);
  }

-- it is found so at the client of its number
pub seen_at : {S : Type 0} (means : S → Peer → Type 0) (core : ServerCore S) (t : Table) (n i : ℕ) → IsThere means core t n i → (v : ClientState S)
    → option_map (λ e. e.value) (slice_get (entries_of core.clients) i) ≡ Some v → (seen found : Waiting) → ((p : Peer) → means v.session p → Sees seen (next_message p))
    → seen ≡ found → (x : Client) → client_here t n ≡ Some x → Sees found (next_message x.session)
seen_at means core t n i there v at seen found sees is x here =
    subst (λ (x : Client). Sees found (next_message x.session)) (same_client (client_here t n) there.client x there.client_there here)
    (subst (λ seen. Sees seen (next_message there.client.session)) is (sees there.client.session (state_at means core t n i v there at).session))
