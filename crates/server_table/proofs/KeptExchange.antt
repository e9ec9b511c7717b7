-- A key exchange, and the messages behind it, keep what a course keeps.
use Rattle.std.proofs.Common.{◌≡◌, ℕ, zero, suc, Bool, true, false, List, [], ◌∷◌, Option, Some, None, refl, bytes_eq}
use Rattle.vpn_base.specs.declared.names.Conn.{Conn}
use Rattle.vpn_base.specs.declared.names.Draw.{Draw}
use Rattle.vpn_links.specs.Actions.{Report}
use Rattle.vpn_links.specs.declared.notes.Note.TheVariants as notes
use Rattle.peer_table.specs.declared.outcomes.Turn.{Turn}
use Rattle.peer_table.specs.Exchange.{after_message, cipher_of, exchanged, first_conn, next_message}
use Rattle.peer_table.specs.Orderly.{IsOrderly, IsOrderlyFrom}
use Rattle.peer_table.specs.Peer.{Outcome}
use Rattle.server_table.specs.Table.{Awaited, Client, Established, FileState, Known, Table, Unasked}
use Rattle.server_table.specs.Lookups.{cid, client_here}
use Rattle.server_table.specs.Courses.{Course, acted, client_changed}
use Rattle.server_table.specs.Endings.{turned}
use Rattle.server_table.specs.Establishing.{ccd_in, leased_to, reply}
use Rattle.server_table.specs.Exchange.{asks_to_be_established, established_as_asked, established_if, established_on, exchange, exchange_acted, exchange_for, exchange_made, exchange_with, message_came, messages_taken, messages_taken_by, messages_taken_for, messages_taken_of, messages_taken_upto, most_messages, other_message, policy_with, push_request, requested, requested_as}
use Rattle.server_table.specs.internal.CallsKeepOrder.{CallsKeepOrder}
use Rattle.server_table.proofs.Kept.{Kept, done_kept, orderly_from}
use Rattle.server_table.proofs.Keeps.{acted_kept, did_kept, keeps_kept}
use Rattle.server_table.proofs.KeptEndings.{turned_kept}
use Rattle.server_table.proofs.KeptEstablishing.{client_established_kept, plain_reply}

module _ (calls : CallsKeepOrder) {a : Table} {k : ℕ} where
  -- ---- messages

  requested_as_kept : (n : ℕ) (conn : Conn) (x : Client) (c : Course) (e : Option Established) → Kept a k c → Kept a k (requested_as n conn x c e)
  requested_as_kept n conn x c None is = client_established_kept calls n conn c is
  requested_as_kept n conn x c (Some e) is =
      let l = leased_to c.table.settings (ccd_in x.file).address e in
      done_kept (reply c.table.settings x l conn) (plain_reply c.table.settings x l conn) is

  requested_kept : (n : ℕ) (conn : Conn) (c : Course) (x : Option Client) → Kept a k c → Kept a k (requested n conn c x)
  requested_kept n conn c None is = is
  requested_kept n conn c (Some x) is = requested_as_kept n conn x c x.established is

  other_message_kept : (n : ℕ) (conn : Conn) (c : Course) (b : Bool) → Kept a k c → Kept a k (other_message n conn c b)
  other_message_kept n conn c true is = requested_kept n conn c (client_here c.table n) is
  other_message_kept n conn c false is = did_kept (Report (notes.Ignored (cid n))) c refl is

  message_came_kept : (n : ℕ) (c : Course) (conn : Conn) (bytes : List ℕ) → Kept a k c → Kept a k (message_came n c conn bytes)
  message_came_kept n c conn [] is = is
  message_came_kept n c conn (b ∷ bytes) is = other_message_kept n conn c (bytes_eq (b ∷ bytes) push_request) is

  passed_kept : (n : ℕ) (c : Course) → Kept a k c → Kept a k (client_changed n (λ x. record x { session = after_message x.session }) c)
  passed_kept n c is =
      keeps_kept n (λ x. record x { session = after_message x.session })
      (λ y there. record {
        peer_id = refl;
        here = refl;
        address = refl;
        established = λ e. e;
        session = λ o. calls.message y.session.remote y.session (orderly_from y.session o);
      }) is

  taken_of_kept : (behind : Course → Course) → ((c : Course) → Kept a k c → Kept a k (behind c)) → (n : ℕ) (c : Course) (m : Option (Conn × List ℕ)) →
      Kept a k c → Kept a k (messages_taken_of behind n c m)
  taken_of_kept behind keeps n c None is = is
  taken_of_kept behind keeps n c (Some m) is =
      let d = client_changed n (λ x. record x { session = after_message x.session }) c in
      keeps (message_came n d m.0 m.1) (message_came_kept n d m.0 m.1 (passed_kept n c is))

  taken_by_kept : (behind : Course → Course) → ((c : Course) → Kept a k c → Kept a k (behind c)) → (n : ℕ) (c : Course) (x : Option Client) →
      Kept a k c → Kept a k (messages_taken_by behind n c x)
  taken_by_kept behind keeps n c None is = is
  taken_by_kept behind keeps n c (Some x) is = taken_of_kept behind keeps n c (next_message x.session) is

  taken_upto_kept : (most n : ℕ) (c : Course) → Kept a k c → Kept a k (messages_taken_upto most n c)
  unfolding messages_taken_upto
  taken_upto_kept zero n c is = is
  taken_upto_kept (suc most) n c is = taken_by_kept (messages_taken_upto most n) (λ d kept. taken_upto_kept most n d kept) n c (client_here c.table n) is

  taken_for_kept : (n : ℕ) (c : Course) (x : Option Client) → Kept a k c → Kept a k (messages_taken_for n c x)
  taken_for_kept n c None is = is
  taken_for_kept n c (Some x) is = taken_upto_kept (most_messages x) n c is

  pub messages_kept : (n : ℕ) (c : Course) → Kept a k c → Kept a k (messages_taken n c)
  unfolding messages_taken
  messages_kept n c is = taken_for_kept n c (client_here c.table n) is

  -- ---- the exchange

  established_on_kept : (n : ℕ) (c : Course) (conn : Option Conn) → Kept a k c → Kept a k (established_on n c conn)
  established_on_kept n c None is = is
  established_on_kept n c (Some conn) is = client_established_kept calls n conn c is

  established_if_kept : (n : ℕ) (c : Course) (x : Client) (b : Bool) → Kept a k c → Kept a k (established_if n c x b)
  established_if_kept n c x false is = is
  established_if_kept n c x true is = established_on_kept n c (first_conn x.session) is

  as_asked_kept : (n : ℕ) (c : Course) (x : Option Client) → Kept a k c → Kept a k (established_as_asked n c x)
  as_asked_kept n c None is = is
  as_asked_kept n c (Some x) is = established_if_kept n c x (asks_to_be_established x) is

  made_kept : (n : ℕ) (c : Course) → Kept a k c → Kept a k (exchange_made n c)
  made_kept n c is = messages_kept n (established_as_asked n c (client_here c.table n)) (as_asked_kept n c (client_here c.table n) is)

  exchange_acted_kept : (n : ℕ) (x : Client) (c : Course) (o : Outcome Turn) → client_here c.table n ≡ Some x →
      (IsOrderly x.session.sessions → IsOrderlyFrom x.session.remote o.peer) → Kept a k c → Kept a k (exchange_acted n x c o)
  exchange_acted_kept n x c o here orderly is =
      made_kept n (turned n o.answer (acted n x.address o c)) (turned_kept calls n o.answer (acted n x.address o c) (acted_kept n x o c here orderly is))

  exchange_with_kept : (draw : Draw) (n : ℕ) (x : Client) (c : Course) (file : FileState) → client_here c.table n ≡ Some x → Kept a k c → Kept a k (exchange_with draw n x c file)
  exchange_with_kept draw n x c (Known file) here is =
      let policy = policy_with c.table.settings.ciphers (cipher_of x.session) in
      exchange_acted_kept n x c (exchanged policy x.peer_id draw x.session) here
      (λ o. calls.exchange x.session.remote policy x.peer_id draw x.session (orderly_from x.session o)) is
  exchange_with_kept draw n x c (Awaited name) here is = is
  exchange_with_kept draw n x c Unasked here is = is

  exchange_for_kept : (draw : Draw) (n : ℕ) (c : Course) (x : Option Client) → client_here c.table n ≡ x → Kept a k c → Kept a k (exchange_for draw n c x)
  exchange_for_kept draw n c None here is = is
  exchange_for_kept draw n c (Some x) here is = exchange_with_kept draw n x c x.file here is

  pub exchange_kept : (draw : Draw) (n : ℕ) (c : Course) → Kept a k c → Kept a k (exchange draw n c)
  unfolding exchange
  exchange_kept draw n c is = exchange_for_kept draw n c (client_here c.table n) refl is
