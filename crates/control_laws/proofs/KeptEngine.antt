-- Answers of the engine and of files leave all lines.
use Rattle.std.proofs.Common.{◌≡◌, ℕ, Bool, true, false, List, Option, Some, None, refl, nat_lt, bytes_eq, Result, Ok, Err}
use Rattle.vpn_base.specs.declared.names.Cause.TheVariants.{CcdFailed, CcdRefused, Disabled, EngineDown, NoCcd, Unread}
use Rattle.vpn_base.specs.declared.names.Cid.{Cid}
use Rattle.vpn_base.specs.declared.names.Conn.{Conn}
use Rattle.vpn_base.specs.declared.names.Draw.{Draw}
use Rattle.vpn_links.specs.Actions.{Ask, Report}
use Rattle.vpn_links.specs.declared.events.Kind.{Kind}
use Rattle.vpn_links.specs.declared.events.Kind.TheVariants.{EngineText}
use Rattle.vpn_links.specs.declared.events.FileAnswer.{FileAnswer}
use Rattle.vpn_links.specs.declared.events.FileAnswer.TheVariants.{Held, Missing, Failed}
use Rattle.vpn_links.specs.declared.notes.Note.TheVariants as notes
use Rattle.vpn_text.specs.declared.config.ConfigFault.{ConfigFault}
use Rattle.ccd_files.specs.declared.client_file.Ccd.{Ccd}
use Rattle.ccd_files.specs.ClientFile.{ccd, no_ccd}
use Rattle.peer_table.specs.declared.outcomes.Turn.{Turn}
use Rattle.peer_table.specs.declared.outcomes.Turn.TheVariants.{Going, Ignored, Named, Exchange, Over}
use Rattle.peer_table.specs.EngineAnswers.{engine_came}
use Rattle.peer_table.specs.Exchange.{most_unread}
use Rattle.reliable_recv.specs.Receiving.{Arrival}
use Rattle.peer_table.specs.Peer.{Outcome}
use Rattle.server_table.specs.Table.{Awaited, Client, FileState, Known, Unasked}
use Rattle.server_table.specs.Lookups.{by_connection, cid, client_here}
use Rattle.server_table.specs.Courses.{Course, acted}
use Rattle.server_table.specs.Engine.{answer_acted, answer_at, answer_for, asked, asked_by, asked_for, asked_in, asked_once, default_name, down_at, engine_acted, engine_answered, engine_is_down, file_accepted, file_at, file_came, file_for, file_given, file_is, file_known, file_lacking, file_missing, file_read, gone_on, unread_if, unread_judged, unread_limit, unread_of}
use Rattle.server_table.specs.Establishing.{name_in}
use Rattle.server_table.specs.Exchange.{exchange, messages_taken}
use Rattle.control_laws.proofs.Calls.{IsQuietCall, engine_quiet}
use Rattle.control_laws.proofs.Kept.{Before, Kept}
use Rattle.control_laws.proofs.Keeps.{did_kept, quiet_acted, same_kept}
use Rattle.control_laws.proofs.KeptEndings.{ended_kept, turned_kept}
use Rattle.control_laws.proofs.KeptExchange.{exchange_kept, messages_kept}

module _ {brought : ℕ → ℕ → Arrival → Type 0} {base : Before} where
  file_is_kept : (n : ℕ) (file : FileState) (c : Course) → Kept brought base c → Kept brought base (file_is n file c)
  file_is_kept n file c is = same_kept c.table.clients n (λ x. record x { file = file }) (λ y. refl) is

  asked_for_kept : (n : ℕ) (name : List ℕ) (c : Course) → Kept brought base c → Kept brought base (asked_for n name c)
  asked_for_kept n name c is = did_kept (Ask (cid n) name) (file_is n (Awaited name) c) refl (file_is_kept n (Awaited name) c is)

  asked_in_kept : (n : ℕ) (name : List ℕ) (c : Course) (folder : Option (List ℕ)) → Kept brought base c → Kept brought base (asked_in n name c folder)
  asked_in_kept n name c None is = file_is_kept n (Known no_ccd) c is
  asked_in_kept n name c (Some folder) is = asked_for_kept n name c is

  asked_once_kept : (n : ℕ) (x : Client) (c : Course) (file : FileState) → Kept brought base c → Kept brought base (asked_once n x c file)
  asked_once_kept n x c Unasked is = asked_in_kept n (name_in x) c c.table.settings.ccd is
  asked_once_kept n x c (Awaited name) is = is
  asked_once_kept n x c (Known file) is = is

  asked_by_kept : (n : ℕ) (c : Course) (x : Option Client) → Kept brought base c → Kept brought base (asked_by n c x)
  asked_by_kept n c None is = is
  asked_by_kept n c (Some x) is = asked_once_kept n x c x.file is

  asked_kept : (n : ℕ) (c : Course) → Kept brought base c → Kept brought base (asked n c)
  unfolding asked
  asked_kept n c is = asked_by_kept n c (client_here c.table n) is

module _ {brought : ℕ → ℕ → Arrival → Type 0} {base : Before} where
  -- ---- the end of a step

  unread_if_kept : (n : ℕ) (c : Course) (b : Bool) → Kept brought base c → Kept brought base (unread_if n c b)
  unread_if_kept n c false is = is
  unread_if_kept n c true is = ended_kept n Unread c is

  unread_of_kept : (n : ℕ) (c : Course) (x : Option Client) → Kept brought base c → Kept brought base (unread_of n c x)
  unread_of_kept n c None is = is
  unread_of_kept n c (Some x) is = unread_if_kept n c (nat_lt unread_limit (most_unread x.session.sessions)) is

  unread_kept : (n : ℕ) (c : Course) → Kept brought base c → Kept brought base (unread_judged n c)
  unfolding unread_judged
  unread_kept n c is = unread_of_kept n c (client_here c.table n) is

  -- ---- the engine

  gone_on_kept : (draw : Draw) (n : ℕ) (c : Course) (turn : Turn) → Kept brought base c → Kept brought base (gone_on draw n c turn)
  gone_on_kept draw n c Going is = unread_kept n (messages_taken n c) (messages_kept n c is)
  gone_on_kept draw n c Ignored is = did_kept (Report (notes.Ignored (cid n))) c refl is
  gone_on_kept draw n c Named is = unread_kept n (asked n c) (asked_kept n c is)
  gone_on_kept draw n c Exchange is = unread_kept n (exchange draw n (asked n c)) (exchange_kept draw n (asked n c) (asked_kept n c is))
  gone_on_kept draw n c (Over cause) is = ended_kept n cause c is

  engine_acted_kept : (draw : Draw) (n : ℕ) (x : Client) (c : Course) (o : Outcome Turn) → client_here c.table n ≡ Some x →
      IsQuietCall x.session o → Kept brought base c → Kept brought base (engine_acted draw n x c o)
  engine_acted_kept draw n x c o here quiet is = gone_on_kept draw n (acted n x.address o c) o.answer (quiet_acted n x o c here quiet is)

  answer_acted_kept : (draw : Draw) (n : ℕ) (x : Client) (c : Course) (kind : Kind) (o : Outcome Turn) → client_here c.table n ≡ Some x →
      IsQuietCall x.session o → Kept brought base c → Kept brought base (answer_acted draw n x c kind o)
  answer_acted_kept draw n x c (EngineText conn bytes) o here quiet is = turned_kept n o.answer (acted n x.address o c) (quiet_acted n x o c here quiet is)
  answer_acted_kept draw n x c kind o here quiet is = engine_acted_kept draw n x c o here quiet is

  answer_for_kept : (draw : Draw) (kind : Kind) (n : ℕ) (c : Course) (x : Option Client) → client_here c.table n ≡ x → Kept brought base c → Kept brought base (answer_for draw kind n c x)
  answer_for_kept draw kind n c None here is = is
  answer_for_kept draw kind n c (Some x) here is =
      answer_acted_kept draw n x c kind (engine_came kind c.table.moment x.session) here
      (engine_quiet kind c.table.moment x.session) is

  answer_at_kept : (draw : Draw) (conn : Conn) (kind : Kind) (c : Course) (n : Option ℕ) → Kept brought base c → Kept brought base (answer_at draw conn kind c n)
  answer_at_kept draw conn kind c None is = did_kept (Report (notes.UnknownConn conn)) c refl is
  answer_at_kept draw conn kind c (Some n) is =
      answer_for_kept draw kind n c (client_here c.table n) refl is

  pub engine_kept : (draw : Draw) (conn : Conn) (kind : Kind) (c : Course) → Kept brought base c → Kept brought base (engine_answered draw conn kind c)
  unfolding engine_answered
  engine_kept draw conn kind c is = answer_at_kept draw conn kind c (by_connection c.table conn) is

  down_at_kept : (conn : Conn) (c : Course) (n : Option ℕ) → Kept brought base c → Kept brought base (down_at conn c n)
  down_at_kept conn c None is = did_kept (Report (notes.UnknownConn conn)) c refl is
  down_at_kept conn c (Some n) is = ended_kept n EngineDown c is

  pub down_kept : (conn : Conn) (c : Course) → Kept brought base c → Kept brought base (engine_is_down conn c)
  unfolding engine_is_down
  down_kept conn c is = down_at_kept conn c (by_connection c.table conn) is

  -- ---- files

  known_kept : (draw : Draw) (n : ℕ) (file : Ccd) (c : Course) → Kept brought base c → Kept brought base (file_known draw n file c)
  known_kept draw n file c is =
      unread_kept n (exchange draw n (file_is n (Known file) c)) (exchange_kept draw n (file_is n (Known file) c) (file_is_kept n (Known file) c is))

  accepted_kept : (draw : Draw) (n : ℕ) (c : Course) (file : Ccd) (b : Bool) → Kept brought base c → Kept brought base (file_accepted draw n c file b)
  accepted_kept draw n c file true is = ended_kept n Disabled c is
  accepted_kept draw n c file false is = known_kept draw n file c is

  read_kept : (draw : Draw) (n : ℕ) (c : Course) (r : Result Ccd ConfigFault) → Kept brought base c → Kept brought base (file_read draw n c r)
  read_kept draw n c (Err fault) is = ended_kept n (CcdRefused fault.line) c is
  read_kept draw n c (Ok file) is = accepted_kept draw n c file file.disable is

  missing_kept : (draw : Draw) (n : ℕ) (c : Course) (b : Bool) → Kept brought base c → Kept brought base (file_missing draw n c b)
  missing_kept draw n c true is = known_kept draw n no_ccd c is
  missing_kept draw n c false is = asked_for_kept n default_name c is

  lacking_kept : (draw : Draw) (n : ℕ) (name : List ℕ) (c : Course) (b : Bool) → Kept brought base c → Kept brought base (file_lacking draw n name c b)
  lacking_kept draw n name c true is = ended_kept n NoCcd c is
  lacking_kept draw n name c false is = missing_kept draw n c (bytes_eq name default_name) is

  given_kept : (draw : Draw) (n : ℕ) (name : List ℕ) (c : Course) (answer : FileAnswer) → Kept brought base c → Kept brought base (file_given draw n name c answer)
  given_kept draw n name c (Held text) is = read_kept draw n c (ccd text) is
  given_kept draw n name c Missing is = lacking_kept draw n name c c.table.settings.exclusive is
  given_kept draw n name c Failed is = ended_kept n CcdFailed c is

  file_for_kept : (draw : Draw) (n : ℕ) (answer : FileAnswer) (c : Course) (file : FileState) → Kept brought base c → Kept brought base (file_for draw n answer c file)
  file_for_kept draw n answer c (Awaited name) is = given_kept draw n name c answer is
  file_for_kept draw n answer c (Known file) is = did_kept (Report (notes.Unasked (cid n))) c refl is
  file_for_kept draw n answer c Unasked is = did_kept (Report (notes.Unasked (cid n))) c refl is

  file_at_kept : (draw : Draw) (n : ℕ) (answer : FileAnswer) (c : Course) (x : Option Client) → Kept brought base c → Kept brought base (file_at draw n answer c x)
  file_at_kept draw n answer c None is = did_kept (Report (notes.Unasked (cid n))) c refl is
  file_at_kept draw n answer c (Some x) is = file_for_kept draw n answer c x.file is

  pub file_kept : (draw : Draw) (id : Cid) (answer : FileAnswer) (c : Course) → Kept brought base c → Kept brought base (file_came draw id answer c)
  unfolding file_came
  file_kept draw id answer c is = file_at_kept draw id.0 answer c (client_here c.table id.0) is
