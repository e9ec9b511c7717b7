-- The TLS engine and the files answer: the name of a client, its plain text, its file.
use Rattle.std.specs.Prelude.{ℕ, nat_lt, Bool, true, false, List, codes, Option, Some, None, Result, Ok, Err}
use Rattle.std.specs.Str.{bytes_eq}
use Rattle.vpn_base.specs.declared.names.Cause.TheVariants.{CcdFailed, CcdRefused, Disabled, EngineDown, NoCcd, Unread}
use Rattle.vpn_base.specs.declared.names.Cid.{Cid}
use Rattle.vpn_base.specs.declared.names.Conn.{Conn}
use Rattle.vpn_base.specs.declared.names.Draw.{Draw}
use Rattle.vpn_links.specs.Actions.{Ask}
use Rattle.vpn_links.specs.declared.events.Kind.{Kind}
use Rattle.vpn_links.specs.declared.events.Kind.TheVariants.{EngineText}
use Rattle.vpn_links.specs.declared.events.FileAnswer.{FileAnswer}
use Rattle.vpn_links.specs.declared.events.FileAnswer.TheVariants.{Held, Missing, Failed}
use Rattle.vpn_links.specs.declared.notes.Note.TheVariants as notes
use Rattle.vpn_text.specs.declared.config.ConfigFault.{ConfigFault}
use Rattle.ccd_files.specs.declared.client_file.Ccd.{Ccd}
use Rattle.ccd_files.specs.ClientFile.{ccd, no_ccd}
use Rattle.peer_table.specs.declared.outcomes.Turn.{Turn}
use Rattle.peer_table.specs.declared.outcomes.Turn.TheVariants.{Going, Ignored, Named, Exchange, Over}
use Rattle.peer_table.specs.EngineAnswers.{engine_came}
use Rattle.peer_table.specs.Exchange.{most_unread}
use Rattle.peer_table.specs.Peer.{Outcome}
use Rattle.server_table.specs.Table.{Awaited, Client, FileState, Known, Unasked}
use Rattle.server_table.specs.Lookups.{by_connection, cid, client_here}
use Rattle.server_table.specs.Courses.{Course, acted, client_changed, did, reported}
use Rattle.server_table.specs.Endings.{ended, turned}
use Rattle.server_table.specs.Establishing.{name_in}
use Rattle.server_table.specs.Exchange.{exchange, messages_taken}

-- ---- the client's file

-- what is known of the client's file has changed
abbrev pub file_is : ℕ → FileState → Course → Course
file_is n file c = client_changed n (λ x. record x { file = file }) c

-- a file of this name is asked for
abbrev pub asked_for : ℕ → List ℕ → Course → Course
asked_for n name c = did (Ask (cid n) name) (file_is n (Awaited name) c)

-- with a folder for such files the one of the client's name is asked for; without one, there is none
abbrev pub asked_in : ℕ → List ℕ → Course → Option (List ℕ) → Course
asked_in n name c None = file_is n (Known no_ccd) c
asked_in n name c (Some folder) = asked_for n name c

-- a file is asked for where none was asked for before
abbrev pub asked_once : ℕ → Client → Course → FileState → Course
asked_once n x c Unasked = asked_in n (name_in x) c c.table.settings.ccd
asked_once n x c (Awaited name) = c
asked_once n x c (Known file) = c

-- the same for the client as it is now
abbrev pub asked_by : ℕ → Course → Option Client → Course
asked_by n c None = c
asked_by n c (Some x) = asked_once n x c x.file

-- the client of this number has a name: its file is looked for
unfoldable pub asked : ℕ → Course → Course
asked n c = asked_by n c (client_here c.table n)

-- ---- the end of a step

-- as many bytes may stay unread
abbrev pub unread_limit : ℕ
unread_limit = 8192

-- too many of them end the client
abbrev pub unread_if : ℕ → Course → Bool → Course
unread_if n c false = c
unread_if n c true = ended n Unread c

-- the same for the client as it is now
abbrev pub unread_of : ℕ → Course → Option Client → Course
unread_of n c None = c
unread_of n c (Some x) = unread_if n c (nat_lt unread_limit (most_unread x.session.sessions))

-- how much the client of this number has left unread
unfoldable pub unread_judged : ℕ → Course → Course
unread_judged n c = unread_of n c (client_here c.table n)

-- ---- the engine

-- what follows plain text or a name, by what the session answers
abbrev pub gone_on : Draw → ℕ → Course → Turn → Course
gone_on draw n c Going = unread_judged n (messages_taken n c)
gone_on draw n c Ignored = reported (notes.Ignored (cid n)) c
gone_on draw n c Named = unread_judged n (asked n c)
gone_on draw n c Exchange = unread_judged n (exchange draw n (asked n c))
gone_on draw n c (Over cause) = ended n cause c

-- the session has answered
abbrev pub engine_acted : Draw → ℕ → Client → Course → Outcome Turn → Course
engine_acted draw n x c o = gone_on draw n (acted n x.address o c) o.answer

-- text for the other end was staged, or has ended the client
abbrev pub text_acted : ℕ → Client → Course → Outcome Turn → Course
text_acted n x c o = turned n o.answer (acted n x.address o c)

-- what follows, by what the engine has
abbrev pub answer_acted : Draw → ℕ → Client → Course → Kind → Outcome Turn → Course
answer_acted draw n x c (EngineText conn bytes) o = text_acted n x c o
answer_acted draw n x c kind o = engine_acted draw n x c o

-- of the client of this number
abbrev pub answer_for : Draw → Kind → ℕ → Course → Option Client → Course
answer_for draw kind n c None = c
answer_for draw kind n c (Some x) = answer_acted draw n x c kind (engine_came kind c.table.moment x.session)

-- of the client that has the connection
abbrev pub answer_at : Draw → Conn → Kind → Course → Option ℕ → Course
answer_at draw conn kind c None = reported (notes.UnknownConn conn) c
answer_at draw conn kind c (Some n) = answer_for draw kind n c (client_here c.table n)

-- the engine has text, plain text or a name on a connection
unfoldable pub engine_answered : Draw → Conn → Kind → Course → Course
engine_answered draw conn kind c = answer_at draw conn kind c (by_connection c.table conn)

-- the connection is down at the client that has it
abbrev pub down_at : Conn → Course → Option ℕ → Course
down_at conn c None = reported (notes.UnknownConn conn) c
down_at conn c (Some n) = ended n EngineDown c

-- the engine says that a connection is down
unfoldable pub engine_is_down : Conn → Course → Course
engine_is_down conn c = down_at conn c (by_connection c.table conn)

-- ---- files

-- a file is known: the exchange may go on
abbrev pub file_known : Draw → ℕ → Ccd → Course → Course
file_known draw n file c = unread_judged n (exchange draw n (file_is n (Known file) c))

-- a client may be disabled
abbrev pub file_accepted : Draw → ℕ → Course → Ccd → Bool → Course
file_accepted draw n c file true = ended n Disabled c
file_accepted draw n c file false = file_known draw n file c

-- a text that is refused ends the client
abbrev pub file_read : Draw → ℕ → Course → Result Ccd ConfigFault → Course
file_read draw n c (Err fault) = ended n (CcdRefused fault.line) c
file_read draw n c (Ok file) = file_accepted draw n c file file.disable

-- the name of the file for all clients that have none
abbrev pub default_name : List ℕ
default_name = codes "DEFAULT"

-- a missing file that was the one for all, and then the client has none; or that of the client's name, and then the one for all is asked for
abbrev pub file_missing : Draw → ℕ → Course → Bool → Course
file_missing draw n c true = file_known draw n no_ccd c
file_missing draw n c false = asked_for n default_name c

-- a missing file: where each client needs one of its own, that ends it
abbrev pub file_lacking : Draw → ℕ → List ℕ → Course → Bool → Course
file_lacking draw n name c true = ended n NoCcd c
file_lacking draw n name c false = file_missing draw n c (bytes_eq name default_name)

-- the answer to a question for the file of this name
abbrev pub file_given : Draw → ℕ → List ℕ → Course → FileAnswer → Course
file_given draw n name c (Held text) = file_read draw n c (ccd text)
file_given draw n name c Missing = file_lacking draw n name c c.table.settings.exclusive
file_given draw n name c Failed = ended n CcdFailed c

-- nobody waits for it, or the client does
abbrev pub file_for : Draw → ℕ → FileAnswer → Course → FileState → Course
file_for draw n answer c (Awaited name) = file_given draw n name c answer
file_for draw n answer c (Known file) = reported (notes.Unasked (cid n)) c
file_for draw n answer c Unasked = reported (notes.Unasked (cid n)) c

-- the same where it is here
abbrev pub file_at : Draw → ℕ → FileAnswer → Course → Option Client → Course
file_at draw n answer c None = reported (notes.Unasked (cid n)) c
file_at draw n answer c (Some x) = file_for draw n answer c x.file

-- a question for a client's file is answered
unfoldable pub file_came : Draw → Cid → FileAnswer → Course → Course
file_came draw id answer c = file_at draw id.0 answer c (client_here c.table id.0)
