-- The engine and the files answer: establishing, exchange, messages.
use Rattle.std.proofs.Common.{◌≡◌, ℕ, zero, suc, ◌&&◌, Bool, true, false, List, [], ◌∷◌, Option, Some, None, option_map, refl, sym, ap, ◌∙◌, subst, inl, inr, nat_lt, bytes_eq, is_some, is_none, Result, Ok, Err}
use Rattle.std.specs.Prelude.{slice_get}
use Rattle.std.proofs.lemmas.Bool.{and_parts, false≢true}
use Rattle.vpn_base.specs.declared.names.Cause.{Cause}
use Rattle.vpn_base.specs.declared.names.Cause.TheVariants.{CcdFailed, CcdRefused, Disabled, EngineDown, NoCcd, PoolEmpty, Replaced, Unread}
use Rattle.vpn_base.specs.declared.names.Cid.{Cid}
use Rattle.vpn_base.specs.declared.names.Conn.{Conn}
use Rattle.vpn_base.specs.declared.names.Draw.{Draw}
use Rattle.vpn_links.specs.Actions.{Ask}
use Rattle.vpn_links.specs.declared.events.Kind.{Kind}
use Rattle.vpn_links.specs.declared.events.Kind.TheVariants.{EngineText}
use Rattle.vpn_links.specs.declared.events.FileAnswer.{FileAnswer}
use Rattle.vpn_links.specs.declared.events.FileAnswer.TheVariants.{Held, Missing, Failed}
use Rattle.vpn_links.specs.declared.notes.Note.TheVariants as notes
use Rattle.vpn_text.specs.declared.config.ConfigFault.{ConfigFault}
use Rattle.ccd_files.specs.declared.client_file.Ccd.{Ccd}
use Rattle.ccd_files.specs.ClientFile.{ccd, no_ccd}
use Rattle.ovpn_config.specs.declared.settings.Settings.{Settings}
use Rattle.push_options.specs.Options.{options_of}
use Rattle.push_options.specs.Parts.{reply_parts}
use Rattle.peer_table.specs.declared.outcomes.Turn.{Turn}
use Rattle.peer_table.specs.declared.outcomes.Turn.TheVariants.{Going, Ignored, Named, Exchange, Over}
use Rattle.peer_table.specs.KeySessions.{Session, has_keys, session_at}
use Rattle.peer_table.specs.EngineAnswers.{engine_came}
use Rattle.peer_table.specs.Exchange.{after_message, cipher_of, exchanged, first_conn, has_message, is_open_keyed, most_unread, next_message, waiting_in, waiting_message}
use Rattle.peer_table.specs.Peer.{Outcome, Peer}
use Rattle.server_table.specs.Table.{Awaited, Client, Established, FileState, Known, Table, Unasked}
use Rattle.server_table.specs.Lookups.{by_connection, cid, client_here, established_named, if_here, is_established_as}
use Rattle.server_table.specs.Courses.{Course, acted, client_changed}
use Rattle.server_table.specs.Endings.{ended, ended_as, gone, turned}
use Rattle.server_table.specs.Engine.{answer_acted, answer_at, answer_for, asked, asked_by, asked_for, asked_in, asked_once, default_name, down_at, engine_acted, engine_answered, engine_is_down, file_accepted, file_at, file_came, file_for, file_given, file_is, file_known, file_lacking, file_missing, file_read, gone_on, unread_if, unread_judged, unread_limit, unread_of}
use Rattle.server_table.specs.Establishing.{Leased, address_by, ccd_in, client_established, established_for, established_with, establishing, leased_to, name_in, plan_of, replaced, replaced_unless, reply, written}
use Rattle.server_table.specs.Exchange.{asks_to_be_established, established_as_asked, established_if, established_on, exchange, exchange_for, exchange_made, exchange_with, message_came, messages_taken, messages_taken_by, messages_taken_for, messages_taken_of, messages_taken_upto, most_messages, other_message, policy_with, push_request, requested, requested_as}
use Rattle.server_laws.specs.HandedOn.{carrying}
use Rattle.server_laws.specs.WellKept.{HaveKeys}
use Rattle.server_table.proofs.Places.{first_is, get_changed, get_other, none_some, some_same}
use Rattle.server_laws.proofs.Peers.{keys_at}
use Rattle.server_laws.proofs.CallsKeep.{CallKept, call_same, engine_call, exchange_call, message_call}
use Rattle.server_table.proofs.Keeps.{here_at}
use Rattle.server_laws.proofs.Closed.{IsClosed, IsReady, altered, ended_kept, reported_kept, turned_kept}

-- ---- what is told

written_quiet : (conn : Conn) (parts : List (List ℕ)) → carrying (written conn parts) ≡ []
written_quiet conn [] = refl
written_quiet conn (part ∷ parts) = written_quiet conn parts

pub reply_quiet : (s : Settings) (x : Client) (l : Leased) (conn : Conn) → carrying (reply s x l conn) ≡ []
unfolding reply
reply_quiet s x l conn = written_quiet conn (reply_parts (options_of (plan_of s x l)))

-- ---- a file that is not known

abbrev is_known : FileState → Bool
is_known (Known ccd) = true
is_known _ = false

not_known : (y : Client) → is_known y.file ≡ false → (file : Ccd) → y.file ≡ Known file → ⊥
not_known y is file e = false≢true (sym is ∙ ap is_known e)

-- ---- who is established by a message has keys

waiting_keys : (p : Peer) (n : Option ℕ) (s : Option Session) → waiting_in p ≡ n → session_at p.sessions n ≡ s → is_some s ≡ true → HaveKeys p.sessions
unfolding waiting_in
waiting_keys p None None is there e = absurd (false≢true e)
waiting_keys p None (Some s) is there e = absurd (none_some there)
waiting_keys p (Some n) None is there e = absurd (false≢true e)
waiting_keys p (Some n) (Some s) is there e =
    let f = first_is has_message p.sessions n is in
    keys_at p.sessions n f.item f.there (and_parts f.item.is_open (has_keys f.item) (and_parts (is_open_keyed f.item) _ f.passed).0).1

message_keys : (p : Peer) (s : Option Session) → session_at p.sessions (waiting_in p) ≡ s → (m : Conn × List ℕ) → option_map waiting_message s ≡ Some m → HaveKeys p.sessions
message_keys p None there m e = absurd (none_some e)
message_keys p (Some s) there m e = waiting_keys p (waiting_in p) (Some s) refl there refl

next_keys : (p : Peer) (m : Conn × List ℕ) → next_message p ≡ Some m → HaveKeys p.sessions
unfolding next_message
next_keys p m e = message_keys p (session_at p.sessions (waiting_in p)) refl m e

-- ---- who is replaced is another client

named_other : (t : Table) (n m : ℕ) (x : Client) (name : List ℕ) → client_here t n ≡ Some x → x.established ≡ None → established_named t name ≡ Some m → n ≡ m → ⊥
unfolding established_named
named_other t n m x name here none is same =
    let f = first_is (is_established_as name) t.clients m is in
    let at : f.item ≡ x = some_same (sym f.there ∙ subst (λ (k : ℕ). slice_get t.clients k ≡ Some x) same (here_at t n x here).there) in
    let est : is_some f.item.established ≡ true = (and_parts f.item.is_here (is_some f.item.established) (and_parts (f.item.is_here && is_some f.item.established) _ f.passed).0).1 in
    false≢true (sym (ap (λ (o : Option Established). is_some o) (ap (λ (y : Client). y.established) at ∙ none)) ∙ est)

others_here : (n m : ℕ) (c : Course) (y : Option Client) (cause : Cause) → (n ≡ m → ⊥) → client_here (ended_as m cause c y).table n ≡ client_here c.table n
unfolding client_here
others_here n m c None cause apart = refl
others_here n m c (Some y) cause apart = ap if_here (get_other m n gone c.table.clients apart)

ended_here : (n m : ℕ) (c : Course) (cause : Cause) → (n ≡ m → ⊥) → client_here (ended m cause c).table n ≡ client_here c.table n
unfolding ended
ended_here n m c cause apart = others_here n m c (client_here c.table m) cause apart

module _ {P : Course → Type 0} (closed : IsClosed P) where
  -- ---- establishing

  established_with_kept : (n : ℕ) (conn : Conn) (x : Client) (c : Course) (l : Option Leased) → client_here c.table n ≡ Some x → IsReady x → P c → P (established_with n conn x c l)
  established_with_kept n conn x c (Some l) here ready is = closed.establishes n conn x l c here ready is
  established_with_kept n conn x c None here ready is = ended_kept closed n PoolEmpty c is

  established_for_kept : (n : ℕ) (conn : Conn) (c : Course) (x : Option Client) → client_here c.table n ≡ x → ((y : Client) → x ≡ Some y → IsReady y) → P c →
      P (established_for n conn c x)
  established_for_kept n conn c None here ready is = is
  established_for_kept n conn c (Some x) here ready is = established_with_kept n conn x c (address_by c.table (ccd_in x.file).address) here (ready x refl) is

  replaced_kept : (n : ℕ) (c : Course) (m : Option ℕ) → P c → P (replaced n c m)
  replaced_kept n c None is = is
  replaced_kept n c (Some m) is = ended_kept closed m (Replaced (cid n)) c is

  replaced_unless_kept : (n : ℕ) (name : List ℕ) (c : Course) (b : Bool) → P c → P (replaced_unless n name c b)
  replaced_unless_kept n name c true is = is
  replaced_unless_kept n name c false is = replaced_kept n c (established_named c.table name) is

  replaced_here : (n : ℕ) (name : List ℕ) (x : Client) (c : Course) (m : Option ℕ) → client_here c.table n ≡ Some x → x.established ≡ None → established_named c.table name ≡ m →
      client_here (replaced n c m).table n ≡ Some x
  replaced_here n name x c None here none is = here
  replaced_here n name x c (Some m) here none is = ended_here n m c (Replaced (cid n)) (named_other c.table n m x name here none is) ∙ here

  unless_here : (n : ℕ) (name : List ℕ) (x : Client) (c : Course) (b : Bool) → client_here c.table n ≡ Some x → x.established ≡ None →
      client_here (replaced_unless n name c b).table n ≡ Some x
  unless_here n name x c true here none = here
  unless_here n name x c false here none = replaced_here n name x c (established_named c.table name) here none refl

  establishing_kept : (n : ℕ) (conn : Conn) (c : Course) (x : Option Client) → client_here c.table n ≡ x → ((y : Client) → x ≡ Some y → IsReady y) → P c →
      P (establishing n conn c x)
  establishing_kept n conn c None here ready is = is
  establishing_kept n conn c (Some x) here ready is =
      let d = replaced_unless n (name_in x) c c.table.settings.duplicate in
      let r = ready x refl in
      established_for_kept n conn d (client_here d.table n) refl
      (λ y e. subst IsReady (some_same (sym (unless_here n (name_in x) x c c.table.settings.duplicate here r.new) ∙ e)) r)
      (replaced_unless_kept n (name_in x) c c.table.settings.duplicate is)

  pub client_established_kept : (n : ℕ) (conn : Conn) (c : Course) → ((y : Client) → client_here c.table n ≡ Some y → IsReady y) → P c → P (client_established n conn c)
  unfolding client_established
  client_established_kept n conn c ready is = establishing_kept n conn c (client_here c.table n) refl ready is

  -- ---- messages

  requested_as_kept : (n : ℕ) (conn : Conn) (x : Client) (c : Course) (e : Option Established) → client_here c.table n ≡ Some x → x.established ≡ e → HaveKeys x.session.sessions → P c →
      P (requested_as n conn x c e)
  requested_as_kept n conn x c None here none keys is =
      client_established_kept n conn c (λ y there. subst IsReady (some_same (sym here ∙ there)) (record { new = none; keys = inr keys })) is
  requested_as_kept n conn x c (Some e) here none keys is =
      let l = leased_to c.table.settings (ccd_in x.file).address e in
      closed.quiet (reply c.table.settings x l conn) c (reply_quiet c.table.settings x l conn) is

  requested_kept : (n : ℕ) (conn : Conn) (c : Course) (x : Option Client) → client_here c.table n ≡ x → ((y : Client) → x ≡ Some y → HaveKeys y.session.sessions) → P c →
      P (requested n conn c x)
  requested_kept n conn c None here keys is = is
  requested_kept n conn c (Some x) here keys is = requested_as_kept n conn x c x.established here refl (keys x refl) is

  other_message_kept : (n : ℕ) (conn : Conn) (c : Course) (b : Bool) → ((y : Client) → client_here c.table n ≡ Some y → HaveKeys y.session.sessions) → P c →
      P (other_message n conn c b)
  other_message_kept n conn c true keys is = requested_kept n conn c (client_here c.table n) refl keys is
  other_message_kept n conn c false keys is = reported_kept closed (notes.Ignored (cid n)) c is

  message_came_kept : (n : ℕ) (c : Course) (conn : Conn) (bytes : List ℕ) → ((y : Client) → client_here c.table n ≡ Some y → HaveKeys y.session.sessions) → P c →
      P (message_came n c conn bytes)
  message_came_kept n c conn [] keys is = is
  message_came_kept n c conn (b ∷ bytes) keys is = other_message_kept n conn c (bytes_eq (b ∷ bytes) push_request) keys is

  taken_of_kept : (behind : Course → Course) → ((c : Course) → P c → P (behind c)) → (n : ℕ) (x : Client) (c : Course) (m : Option (Conn × List ℕ)) →
      client_here c.table n ≡ Some x → next_message x.session ≡ m → P c → P (messages_taken_of behind n c m)
  taken_of_kept behind keeps n x c None here next is = is
  taken_of_kept behind keeps n x c (Some m) here next is =
      let f : Client → Client = λ x. record x { session = after_message x.session } in
      let d = client_changed n f c in
      let peer = message_call x.session in
      let there : slice_get d.table.clients n ≡ Some (f x) = get_changed n f c.table.clients x (here_at c.table n x here).there in
      keeps (message_came n d m.0 m.1)
      (message_came_kept n d m.0 m.1
      (λ y at. subst (λ (z : Client). HaveKeys z.session.sessions) (some_same (sym there ∙ (here_at d.table n y at).there)) (peer.kept.keys (next_keys x.session m next)))
      (altered closed n x f c here (record { here = refl; peer_id = refl; established = refl; session = peer; file = λ file e. e }) is))

  taken_by_kept : (behind : Course → Course) → ((c : Course) → P c → P (behind c)) → (n : ℕ) (c : Course) (x : Option Client) → client_here c.table n ≡ x → P c →
      P (messages_taken_by behind n c x)
  taken_by_kept behind keeps n c None here is = is
  taken_by_kept behind keeps n c (Some x) here is = taken_of_kept behind keeps n x c (next_message x.session) here refl is

  taken_upto_kept : (most n : ℕ) (c : Course) → P c → P (messages_taken_upto most n c)
  unfolding messages_taken_upto
  taken_upto_kept zero n c is = is
  taken_upto_kept (suc most) n c is = taken_by_kept (messages_taken_upto most n) (λ d kept. taken_upto_kept most n d kept) n c (client_here c.table n) refl is

  taken_for_kept : (n : ℕ) (c : Course) (x : Option Client) → P c → P (messages_taken_for n c x)
  taken_for_kept n c None is = is
  taken_for_kept n c (Some x) is = taken_upto_kept (most_messages x) n c is

  pub messages_kept : (n : ℕ) (c : Course) → P c → P (messages_taken n c)
  unfolding messages_taken
  messages_kept n c is = taken_for_kept n c (client_here c.table n) is

  -- ---- the exchange

  established_on_kept : (n : ℕ) (c : Course) (conn : Option Conn) → ((y : Client) → client_here c.table n ≡ Some y → IsReady y) → P c → P (established_on n c conn)
  established_on_kept n c None ready is = is
  established_on_kept n c (Some conn) ready is = client_established_kept n conn c ready is

  none_of : (o : Option Established) → is_none o ≡ true → o ≡ None
  none_of None e = refl
  none_of (Some x) e = absurd (false≢true e)

  ready_if : (x : Client) → asks_to_be_established x ≡ true → IsReady x
  ready_if x e =
      let p = and_parts x.session.asks_push (is_none x.established) e in record { new = none_of x.established p.1; keys = inl p.0 }

  established_if_kept : (n : ℕ) (c : Course) (x : Client) (b : Bool) → client_here c.table n ≡ Some x → asks_to_be_established x ≡ b → P c → P (established_if n c x b)
  established_if_kept n c x false here asks is = is
  established_if_kept n c x true here asks is =
      established_on_kept n c (first_conn x.session) (λ y there. subst IsReady (some_same (sym here ∙ there)) (ready_if x asks)) is

  as_asked_kept : (n : ℕ) (c : Course) (x : Option Client) → client_here c.table n ≡ x → P c → P (established_as_asked n c x)
  as_asked_kept n c None here is = is
  as_asked_kept n c (Some x) here is = established_if_kept n c x (asks_to_be_established x) here refl is

  made_kept : (n : ℕ) (c : Course) → P c → P (exchange_made n c)
  made_kept n c is = messages_kept n (established_as_asked n c (client_here c.table n)) (as_asked_kept n c (client_here c.table n) refl is)

  exchange_with_kept : (draw : Draw) (n : ℕ) (x : Client) (c : Course) (file : FileState) → client_here c.table n ≡ Some x → x.file ≡ file → P c → P (exchange_with draw n x c file)
  exchange_with_kept draw n x c (Known file) here known is =
      let policy = policy_with c.table.settings.ciphers (cipher_of x.session) in
      let o = exchanged policy x.peer_id draw x.session in
      made_kept n (turned n o.answer (acted n x.address o c))
      (turned_kept closed n o.answer (acted n x.address o c)
      (closed.exchanges n x file o c here known (exchange_call policy x.peer_id draw x.session) is))
  exchange_with_kept draw n x c (Awaited name) here known is = is
  exchange_with_kept draw n x c Unasked here known is = is

  exchange_for_kept : (draw : Draw) (n : ℕ) (c : Course) (x : Option Client) → client_here c.table n ≡ x → P c → P (exchange_for draw n c x)
  exchange_for_kept draw n c None here is = is
  exchange_for_kept draw n c (Some x) here is = exchange_with_kept draw n x c x.file here refl is

  pub exchange_course_kept : (draw : Draw) (n : ℕ) (c : Course) → P c → P (exchange draw n c)
  unfolding exchange
  exchange_course_kept draw n c is = exchange_for_kept draw n c (client_here c.table n) refl is

  -- ---- the client's file

  file_is_kept : (n : ℕ) (x : Client) (file : FileState) (c : Course) → client_here c.table n ≡ Some x → is_known x.file ≡ false → P c → P (file_is n file c)
  file_is_kept n x file c here unknown is =
      altered closed n x (λ x. record x { file = file }) c here
      (record { here = refl; peer_id = refl; established = refl; session = call_same x.session; file = λ known e. absurd (not_known x unknown known e) }) is

  asked_for_kept : (n : ℕ) (x : Client) (name : List ℕ) (c : Course) → client_here c.table n ≡ Some x → is_known x.file ≡ false → P c → P (asked_for n name c)
  asked_for_kept n x name c here unknown is = closed.quiet (Ask (cid n) name ∷ []) (file_is n (Awaited name) c) refl (file_is_kept n x (Awaited name) c here unknown is)

  asked_in_kept : (n : ℕ) (x : Client) (name : List ℕ) (c : Course) (folder : Option (List ℕ)) → client_here c.table n ≡ Some x → is_known x.file ≡ false → P c →
      P (asked_in n name c folder)
  asked_in_kept n x name c None here unknown is = file_is_kept n x (Known no_ccd) c here unknown is
  asked_in_kept n x name c (Some folder) here unknown is = asked_for_kept n x name c here unknown is

  asked_once_kept : (n : ℕ) (x : Client) (c : Course) (file : FileState) → client_here c.table n ≡ Some x → x.file ≡ file → P c → P (asked_once n x c file)
  asked_once_kept n x c Unasked here file is = asked_in_kept n x (name_in x) c c.table.settings.ccd here (ap is_known file) is
  asked_once_kept n x c (Awaited name) here file is = is
  asked_once_kept n x c (Known known) here file is = is

  asked_by_kept : (n : ℕ) (c : Course) (x : Option Client) → client_here c.table n ≡ x → P c → P (asked_by n c x)
  asked_by_kept n c None here is = is
  asked_by_kept n c (Some x) here is = asked_once_kept n x c x.file here refl is

  asked_kept : (n : ℕ) (c : Course) → P c → P (asked n c)
  unfolding asked
  asked_kept n c is = asked_by_kept n c (client_here c.table n) refl is

  -- ---- the end of a step

  unread_if_kept : (n : ℕ) (c : Course) (b : Bool) → P c → P (unread_if n c b)
  unread_if_kept n c false is = is
  unread_if_kept n c true is = ended_kept closed n Unread c is

  unread_of_kept : (n : ℕ) (c : Course) (x : Option Client) → P c → P (unread_of n c x)
  unread_of_kept n c None is = is
  unread_of_kept n c (Some x) is = unread_if_kept n c (nat_lt unread_limit (most_unread x.session.sessions)) is

  unread_kept : (n : ℕ) (c : Course) → P c → P (unread_judged n c)
  unfolding unread_judged
  unread_kept n c is = unread_of_kept n c (client_here c.table n) is

  -- ---- the engine

  gone_on_kept : (draw : Draw) (n : ℕ) (c : Course) (turn : Turn) → P c → P (gone_on draw n c turn)
  gone_on_kept draw n c Going is = unread_kept n (messages_taken n c) (messages_kept n c is)
  gone_on_kept draw n c Ignored is = reported_kept closed (notes.Ignored (cid n)) c is
  gone_on_kept draw n c Named is = unread_kept n (asked n c) (asked_kept n c is)
  gone_on_kept draw n c Exchange is = unread_kept n (exchange draw n (asked n c)) (exchange_course_kept draw n (asked n c) (asked_kept n c is))
  gone_on_kept draw n c (Over cause) is = ended_kept closed n cause c is

  engine_acted_kept : (draw : Draw) (n : ℕ) (x : Client) (c : Course) (o : Outcome Turn) → client_here c.table n ≡ Some x → CallKept x.session o.peer → P c →
      P (engine_acted draw n x c o)
  engine_acted_kept draw n x c o here peer is = gone_on_kept draw n (acted n x.address o c) o.answer (closed.acts n x o c here peer is)

  answer_acted_kept : (draw : Draw) (n : ℕ) (x : Client) (c : Course) (kind : Kind) (o : Outcome Turn) → client_here c.table n ≡ Some x → CallKept x.session o.peer → P c →
      P (answer_acted draw n x c kind o)
  answer_acted_kept draw n x c (EngineText conn bytes) o here peer is = turned_kept closed n o.answer (acted n x.address o c) (closed.acts n x o c here peer is)
  answer_acted_kept draw n x c kind o here peer is = engine_acted_kept draw n x c o here peer is

  answer_for_kept : (draw : Draw) (kind : Kind) (n : ℕ) (c : Course) (x : Option Client) → client_here c.table n ≡ x → P c → P (answer_for draw kind n c x)
  answer_for_kept draw kind n c None here is = is
  answer_for_kept draw kind n c (Some x) here is =
      answer_acted_kept draw n x c kind (engine_came kind c.table.moment x.session) here (engine_call kind c.table.moment x.session) is

  answer_at_kept : (draw : Draw) (conn : Conn) (kind : Kind) (c : Course) (n : Option ℕ) → P c → P (answer_at draw conn kind c n)
  answer_at_kept draw conn kind c None is = reported_kept closed (notes.UnknownConn conn) c is
  answer_at_kept draw conn kind c (Some n) is = answer_for_kept draw kind n c (client_here c.table n) refl is

  pub engine_answered_kept : (draw : Draw) (conn : Conn) (kind : Kind) (c : Course) → P c → P (engine_answered draw conn kind c)
  unfolding engine_answered
  engine_answered_kept draw conn kind c is = answer_at_kept draw conn kind c (by_connection c.table conn) is

  down_at_kept : (conn : Conn) (c : Course) (n : Option ℕ) → P c → P (down_at conn c n)
  down_at_kept conn c None is = reported_kept closed (notes.UnknownConn conn) c is
  down_at_kept conn c (Some n) is = ended_kept closed n EngineDown c is

  pub down_kept : (conn : Conn) (c : Course) → P c → P (engine_is_down conn c)
  unfolding engine_is_down
  down_kept conn c is = down_at_kept conn c (by_connection c.table conn) is

  -- ---- files

  known_kept : (draw : Draw) (n : ℕ) (x : Client) (file : Ccd) (c : Course) → client_here c.table n ≡ Some x → is_known x.file ≡ false → P c → P (file_known draw n file c)
  known_kept draw n x file c here unknown is =
      unread_kept n (exchange draw n (file_is n (Known file) c)) (exchange_course_kept draw n (file_is n (Known file) c) (file_is_kept n x (Known file) c here unknown is))

  accepted_kept : (draw : Draw) (n : ℕ) (x : Client) (c : Course) (file : Ccd) (b : Bool) → client_here c.table n ≡ Some x → is_known x.file ≡ false → P c → P (file_accepted draw n c file b)
  accepted_kept draw n x c file true here unknown is = ended_kept closed n Disabled c is
  accepted_kept draw n x c file false here unknown is = known_kept draw n x file c here unknown is

  read_kept : (draw : Draw) (n : ℕ) (x : Client) (c : Course) (r : Result Ccd ConfigFault) → client_here c.table n ≡ Some x → is_known x.file ≡ false → P c → P (file_read draw n c r)
  read_kept draw n x c (Err fault) here unknown is = ended_kept closed n (CcdRefused fault.line) c is
  read_kept draw n x c (Ok file) here unknown is = accepted_kept draw n x c file file.disable here unknown is

  missing_kept : (draw : Draw) (n : ℕ) (x : Client) (c : Course) (b : Bool) → client_here c.table n ≡ Some x → is_known x.file ≡ false → P c → P (file_missing draw n c b)
  missing_kept draw n x c true here unknown is = known_kept draw n x no_ccd c here unknown is
  missing_kept draw n x c false here unknown is = asked_for_kept n x default_name c here unknown is

  lacking_kept : (draw : Draw) (n : ℕ) (x : Client) (name : List ℕ) (c : Course) (b : Bool) → client_here c.table n ≡ Some x → is_known x.file ≡ false → P c →
      P (file_lacking draw n name c b)
  lacking_kept draw n x name c true here unknown is = ended_kept closed n NoCcd c is
  lacking_kept draw n x name c false here unknown is = missing_kept draw n x c (bytes_eq name default_name) here unknown is

  given_kept : (draw : Draw) (n : ℕ) (x : Client) (name : List ℕ) (c : Course) (answer : FileAnswer) → client_here c.table n ≡ Some x → is_known x.file ≡ false → P c →
      P (file_given draw n name c answer)
  given_kept draw n x name c (Held text) here unknown is = read_kept draw n x c (ccd text) here unknown is
  given_kept draw n x name c Missing here unknown is = lacking_kept draw n x name c c.table.settings.exclusive here unknown is
  given_kept draw n x name c Failed here unknown is = ended_kept closed n CcdFailed c is

  file_for_kept : (draw : Draw) (n : ℕ) (x : Client) (answer : FileAnswer) (c : Course) (file : FileState) → client_here c.table n ≡ Some x → x.file ≡ file → P c →
      P (file_for draw n answer c file)
  file_for_kept draw n x answer c (Awaited name) here file is = given_kept draw n x name c answer here (ap is_known file) is
  file_for_kept draw n x answer c (Known known) here file is = reported_kept closed (notes.Unasked (cid n)) c is
  file_for_kept draw n x answer c Unasked here file is = reported_kept closed (notes.Unasked (cid n)) c is

  file_at_kept : (draw : Draw) (n : ℕ) (answer : FileAnswer) (c : Course) (x : Option Client) → client_here c.table n ≡ x → P c → P (file_at draw n answer c x)
  file_at_kept draw n answer c None here is = reported_kept closed (notes.Unasked (cid n)) c is
  file_at_kept draw n answer c (Some x) here is = file_for_kept draw n x answer c x.file here refl is

  pub file_came_kept : (draw : Draw) (id : Cid) (answer : FileAnswer) (c : Course) → P c → P (file_came draw id answer c)
  unfolding file_came
  file_came_kept draw id answer c is = file_at_kept draw id.0 answer c (client_here c.table id.0) refl is
