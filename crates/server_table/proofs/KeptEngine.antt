-- Answers of the engine and of files keep what a course keeps.
use Rattle.std.proofs.Common.{◌≡◌, ℕ, Bool, true, false, List, Option, Some, None, refl, nat_lt, bytes_eq, Result, Ok, Err}
use Rattle.vpn_base.specs.declared.names.Cause.TheVariants.{CcdFailed, CcdRefused, Disabled, EngineDown, NoCcd, Unread}
use Rattle.vpn_base.specs.declared.names.Cid.{Cid}
use Rattle.vpn_base.specs.declared.names.Conn.{Conn}
use Rattle.vpn_base.specs.declared.names.Draw.{Draw}
use Rattle.vpn_links.specs.Actions.{Ask, Report}
use Rattle.vpn_links.specs.declared.events.Kind.{Kind}
use Rattle.vpn_links.specs.declared.events.Kind.TheVariants.{EngineText}
use Rattle.vpn_links.specs.declared.events.FileAnswer.{FileAnswer}
use Rattle.vpn_links.specs.declared.events.FileAnswer.TheVariants.{Held, Missing, Failed}
use Rattle.vpn_links.specs.declared.notes.Note.TheVariants as notes
use Rattle.vpn_text.specs.declared.config.ConfigFault.{ConfigFault}
use Rattle.ccd_files.specs.declared.client_file.Ccd.{Ccd}
use Rattle.ccd_files.specs.ClientFile.{ccd, no_ccd}
use Rattle.peer_table.specs.declared.outcomes.Turn.{Turn}
use Rattle.peer_table.specs.declared.outcomes.Turn.TheVariants.{Going, Ignored, Named, Exchange, Over}
use Rattle.peer_table.specs.EngineAnswers.{engine_came}
use Rattle.peer_table.specs.Exchange.{most_unread}
use Rattle.peer_table.specs.Orderly.{IsOrderly, IsOrderlyFrom}
use Rattle.peer_table.specs.Peer.{Outcome}
use Rattle.server_table.specs.Table.{Awaited, Client, FileState, Known, Table, Unasked}
use Rattle.server_table.specs.Lookups.{by_connection, cid, client_here}
use Rattle.server_table.specs.Courses.{Course, acted}
use Rattle.server_table.specs.Engine.{answer_acted, answer_at, answer_for, asked, asked_by, asked_for, asked_in, asked_once, default_name, down_at, engine_acted, engine_answered, engine_is_down, file_accepted, file_at, file_came, file_for, file_given, file_is, file_known, file_lacking, file_missing, file_read, gone_on, unread_if, unread_judged, unread_limit, unread_of}
use Rattle.server_table.specs.Establishing.{name_in}
use Rattle.server_table.specs.Exchange.{exchange, messages_taken}
use Rattle.server_table.specs.internal.CallsKeepOrder.{CallsKeepOrder}
use Rattle.server_table.proofs.Kept.{Kept, orderly_from}
use Rattle.server_table.proofs.Keeps.{acted_kept, did_kept, keeps_kept}
use Rattle.server_table.proofs.KeptEndings.{ended_kept, turned_kept}
use Rattle.server_table.proofs.KeptExchange.{exchange_kept, messages_kept}
use Rattle.server_table.proofs.Settled.{Settled, kept_settled, refusal_settled}

module _ {a : Table} {k : ℕ} where
  file_is_kept : (n : ℕ) (file : FileState) (c : Course) → Kept a k c → Kept a k (file_is n file c)
  file_is_kept n file c is =
      keeps_kept n (λ x. record x { file = file })
      (λ y there. record { peer_id = refl; here = refl; address = refl; established = λ e. e; session = orderly_from y.session }) is

  asked_for_kept : (n : ℕ) (name : List ℕ) (c : Course) → Kept a k c → Kept a k (asked_for n name c)
  asked_for_kept n name c is = did_kept (Ask (cid n) name) (file_is n (Awaited name) c) refl (file_is_kept n (Awaited name) c is)

  asked_in_kept : (n : ℕ) (name : List ℕ) (c : Course) (folder : Option (List ℕ)) → Kept a k c → Kept a k (asked_in n name c folder)
  asked_in_kept n name c None is = file_is_kept n (Known no_ccd) c is
  asked_in_kept n name c (Some folder) is = asked_for_kept n name c is

  asked_once_kept : (n : ℕ) (x : Client) (c : Course) (file : FileState) → Kept a k c → Kept a k (asked_once n x c file)
  asked_once_kept n x c Unasked is = asked_in_kept n (name_in x) c c.table.settings.ccd is
  asked_once_kept n x c (Awaited name) is = is
  asked_once_kept n x c (Known file) is = is

  asked_by_kept : (n : ℕ) (c : Course) (x : Option Client) → Kept a k c → Kept a k (asked_by n c x)
  asked_by_kept n c None is = is
  asked_by_kept n c (Some x) is = asked_once_kept n x c x.file is

  asked_kept : (n : ℕ) (c : Course) → Kept a k c → Kept a k (asked n c)
  unfolding asked
  asked_kept n c is = asked_by_kept n c (client_here c.table n) is

module _ (calls : CallsKeepOrder) {a : Table} {k : ℕ} where
  -- ---- the end of a step

  unread_if_kept : (n : ℕ) (c : Course) (b : Bool) → Kept a k c → Kept a k (unread_if n c b)
  unread_if_kept n c false is = is
  unread_if_kept n c true is = ended_kept calls n Unread c is

  unread_of_kept : (n : ℕ) (c : Course) (x : Option Client) → Kept a k c → Kept a k (unread_of n c x)
  unread_of_kept n c None is = is
  unread_of_kept n c (Some x) is = unread_if_kept n c (nat_lt unread_limit (most_unread x.session.sessions)) is

  unread_kept : (n : ℕ) (c : Course) → Kept a k c → Kept a k (unread_judged n c)
  unfolding unread_judged
  unread_kept n c is = unread_of_kept n c (client_here c.table n) is

  -- ---- the engine

  gone_on_kept : (draw : Draw) (n : ℕ) (c : Course) (turn : Turn) → Kept a k c → Kept a k (gone_on draw n c turn)
  gone_on_kept draw n c Going is = unread_kept n (messages_taken n c) (messages_kept calls n c is)
  gone_on_kept draw n c Ignored is = did_kept (Report (notes.Ignored (cid n))) c refl is
  gone_on_kept draw n c Named is = unread_kept n (asked n c) (asked_kept n c is)
  gone_on_kept draw n c Exchange is = unread_kept n (exchange draw n (asked n c)) (exchange_kept calls draw n (asked n c) (asked_kept n c is))
  gone_on_kept draw n c (Over cause) is = ended_kept calls n cause c is

  engine_acted_kept : (draw : Draw) (n : ℕ) (x : Client) (c : Course) (o : Outcome Turn) → client_here c.table n ≡ Some x →
      (IsOrderly x.session.sessions → IsOrderlyFrom x.session.remote o.peer) → Kept a k c → Kept a k (engine_acted draw n x c o)
  engine_acted_kept draw n x c o here orderly is = gone_on_kept draw n (acted n x.address o c) o.answer (acted_kept n x o c here orderly is)

  answer_acted_kept : (draw : Draw) (n : ℕ) (x : Client) (c : Course) (kind : Kind) (o : Outcome Turn) → client_here c.table n ≡ Some x →
      (IsOrderly x.session.sessions → IsOrderlyFrom x.session.remote o.peer) → Kept a k c → Kept a k (answer_acted draw n x c kind o)
  answer_acted_kept draw n x c (EngineText conn bytes) o here orderly is = turned_kept calls n o.answer (acted n x.address o c) (acted_kept n x o c here orderly is)
  answer_acted_kept draw n x c kind o here orderly is = engine_acted_kept draw n x c o here orderly is

  answer_for_kept : (draw : Draw) (kind : Kind) (n : ℕ) (c : Course) (x : Option Client) → client_here c.table n ≡ x → Kept a k c → Kept a k (answer_for draw kind n c x)
  answer_for_kept draw kind n c None here is = is
  answer_for_kept draw kind n c (Some x) here is =
      answer_acted_kept draw n x c kind (engine_came kind c.table.moment x.session) here
      (λ o. calls.engine x.session.remote kind c.table.moment x.session (orderly_from x.session o)) is

  answer_at_settled : (draw : Draw) (conn : Conn) (kind : Kind) (c : Course) (n : Option ℕ) → c.table ≡ a → Kept a k c → Settled a k (answer_at draw conn kind c n)
  answer_at_settled draw conn kind c None same is = refusal_settled (notes.UnknownConn conn) c same is
  answer_at_settled draw conn kind c (Some n) same is =
      kept_settled (answer_for draw kind n c (client_here c.table n)) (answer_for_kept draw kind n c (client_here c.table n) refl is)

  pub engine_settled : (draw : Draw) (conn : Conn) (kind : Kind) (c : Course) → c.table ≡ a → Kept a k c → Settled a k (engine_answered draw conn kind c)
  unfolding engine_answered
  engine_settled draw conn kind c same is = answer_at_settled draw conn kind c (by_connection c.table conn) same is

  down_at_settled : (conn : Conn) (c : Course) (n : Option ℕ) → c.table ≡ a → Kept a k c → Settled a k (down_at conn c n)
  down_at_settled conn c None same is = refusal_settled (notes.UnknownConn conn) c same is
  down_at_settled conn c (Some n) same is = kept_settled (down_at conn c (Some n)) (ended_kept calls n EngineDown c is)

  pub down_settled : (conn : Conn) (c : Course) → c.table ≡ a → Kept a k c → Settled a k (engine_is_down conn c)
  unfolding engine_is_down
  down_settled conn c same is = down_at_settled conn c (by_connection c.table conn) same is

  -- ---- files

  known_kept : (draw : Draw) (n : ℕ) (file : Ccd) (c : Course) → Kept a k c → Kept a k (file_known draw n file c)
  known_kept draw n file c is =
      unread_kept n (exchange draw n (file_is n (Known file) c)) (exchange_kept calls draw n (file_is n (Known file) c) (file_is_kept n (Known file) c is))

  accepted_kept : (draw : Draw) (n : ℕ) (c : Course) (file : Ccd) (b : Bool) → Kept a k c → Kept a k (file_accepted draw n c file b)
  accepted_kept draw n c file true is = ended_kept calls n Disabled c is
  accepted_kept draw n c file false is = known_kept draw n file c is

  read_kept : (draw : Draw) (n : ℕ) (c : Course) (r : Result Ccd ConfigFault) → Kept a k c → Kept a k (file_read draw n c r)
  read_kept draw n c (Err fault) is = ended_kept calls n (CcdRefused fault.line) c is
  read_kept draw n c (Ok file) is = accepted_kept draw n c file file.disable is

  missing_kept : (draw : Draw) (n : ℕ) (c : Course) (b : Bool) → Kept a k c → Kept a k (file_missing draw n c b)
  missing_kept draw n c true is = known_kept draw n no_ccd c is
  missing_kept draw n c false is = asked_for_kept n default_name c is

  lacking_kept : (draw : Draw) (n : ℕ) (name : List ℕ) (c : Course) (b : Bool) → Kept a k c → Kept a k (file_lacking draw n name c b)
  lacking_kept draw n name c true is = ended_kept calls n NoCcd c is
  lacking_kept draw n name c false is = missing_kept draw n c (bytes_eq name default_name) is

  given_kept : (draw : Draw) (n : ℕ) (name : List ℕ) (c : Course) (answer : FileAnswer) → Kept a k c → Kept a k (file_given draw n name c answer)
  given_kept draw n name c (Held text) is = read_kept draw n c (ccd text) is
  given_kept draw n name c Missing is = lacking_kept draw n name c c.table.settings.exclusive is
  given_kept draw n name c Failed is = ended_kept calls n CcdFailed c is

  file_for_settled : (draw : Draw) (n : ℕ) (answer : FileAnswer) (c : Course) (file : FileState) → c.table ≡ a → Kept a k c → Settled a k (file_for draw n answer c file)
  file_for_settled draw n answer c (Awaited name) same is = kept_settled (file_given draw n name c answer) (given_kept draw n name c answer is)
  file_for_settled draw n answer c (Known file) same is = refusal_settled (notes.Unasked (cid n)) c same is
  file_for_settled draw n answer c Unasked same is = refusal_settled (notes.Unasked (cid n)) c same is

  file_at_settled : (draw : Draw) (n : ℕ) (answer : FileAnswer) (c : Course) (x : Option Client) → c.table ≡ a → Kept a k c → Settled a k (file_at draw n answer c x)
  file_at_settled draw n answer c None same is = refusal_settled (notes.Unasked (cid n)) c same is
  file_at_settled draw n answer c (Some x) same is = file_for_settled draw n answer c x.file same is

  pub file_settled : (draw : Draw) (id : Cid) (answer : FileAnswer) (c : Course) → c.table ≡ a → Kept a k c → Settled a k (file_came draw id answer c)
  unfolding file_came
  file_settled draw id answer c same is = file_at_settled draw id.0 answer c (client_here c.table id.0) same is
