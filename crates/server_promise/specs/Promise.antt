-- What a server promises of every run: of each event, over the table as the event finds it, and of the run as a whole.
use Rattle.std.specs.Prelude.{◌≡◌, ◌≢◌, ℕ, Bool, true, false, List, [], ◌∷◌, ◌++◌, Option, Some, None}
use Rattle.std.specs.List.{AllByRecursion}
use Rattle.vpn_base.specs.declared.address.Addr.{Addr}
use Rattle.vpn_base.specs.declared.names.Cid.{Cid}
use Rattle.vpn_links.specs.Actions.{Report}
use Rattle.vpn_links.specs.Steps.{Lack, LacksAll, LacksHost, LacksNothing}
use Rattle.vpn_links.specs.declared.events.Event.{Event}
use Rattle.vpn_links.specs.declared.events.Kind.TheVariants.{Datagram, DeviceIn, Tick}
use Rattle.vpn_links.specs.declared.notes.Note.TheVariants as notes
use Rattle.ip_packets.specs.Inner.{source}
use Rattle.route_table.specs.Owner.{owner}
use Rattle.inner_verdict.specs.declared.Verdict.TheVariants.{BadSource}
use Rattle.ovpn_config.specs.declared.settings.Settings.{Settings}
use Rattle.control_link.specs.Reading.{text_read_of}
use Rattle.peer_table.specs.KeySessions.{Session}
use Rattle.server_table.specs.Table.{Table, table_begun}
use Rattle.server_table.specs.ControlDatagrams.{ControlPacket}
use Rattle.server_table.specs.Courses.{Course}
use Rattle.server_table.specs.DataDatagrams.{ping}
use Rattle.server_table.specs.Lookups.{cid}
use Rattle.server_table.specs.Runs.{Entry, after_all}
use Rattle.server_table.specs.Step.{is_over, step}
use Rattle.server_laws.specs.Accepted.{Accepts}
use Rattle.server_laws.specs.HandedOn.{BringsOne, IsDealtWith, IsForward, IsPingToOneHere, IsQuiet, IsSentOn, carrying, verdict_on}
use Rattle.server_laws.specs.Waiting.{all_appended, all_given}
use Rattle.control_laws.specs.Brought.{IsTakenIn, WasBrought}
use Rattle.control_laws.specs.Puts.{all_outs, put_on}
use Rattle.control_laws.specs.Sessions.{session_of}
use Rattle.control_laws.specs.Tests.{MeetsAll}

-- ---- what an event does

-- whether there is no memory to learn a host
abbrev pub lacks_host : Lack → Bool
lacks_host LacksHost = true
lacks_host lack = false

-- by what lacks: an event that lacks memory as a whole changes nothing, and that is reported
abbrev pub course_lacking : Table → Event → Lack → Course
course_lacking t event LacksNothing = step false t event
course_lacking t event LacksAll = record { table = t; effects = Report notes.NoMemory ∷ []; staged = [] }
course_lacking t event LacksHost = step true t event

-- the same for an entry of a run
abbrev pub course_at : Table → Entry → Course
course_at t entry = course_lacking t entry.0 entry.1

-- ---- inner packets

-- Of a run from this table on: whatever comes, each event is one of those below.
pub record PacketsKept (t : Table) (entries : List Entry) : Type 0 where
  -- A datagram hands nothing on, or one packet: the one to which it opens under a usable key of the client with its peer id, with a fresh id, whose source this client owns; and it goes to the one that the verdict names, alone.
  pub handed_on : (before rest : List Entry) (entry : Entry) (from : Addr) (datagram : List ℕ) → entries ≡ before ++ entry ∷ rest → entry.0.kind ≡ Datagram from datagram →
      BringsOne (after_all t before) entry.0 (course_at (after_all t before) entry)
  -- It is the first time: no packet id is accepted twice under one key session of one client.
  pub first_time : (before between rest : List Entry) (first second : Entry) (n k id : ℕ) (inner other : List ℕ) →
      entries ≡ (before ++ first ∷ between) ++ second ∷ rest → Accepts (after_all t before) first.0 n k id inner →
      Accepts (after_all t (before ++ first ∷ between)) second.0 n k id other → ⊥
  -- What was given to the device, and then what waits for it, is what was appended, in order and each packet once.
  pub in_order : all_given t entries ++ (after_all t entries).queue ≡ all_appended t entries
  -- A packet of the device is sealed to the one client that owns its destination, or a note says why not.
  pub of_device : (before rest : List Entry) (entry : Entry) (inner : List ℕ) → entries ≡ before ++ entry ∷ rest → is_over (after_all t before) ≡ false →
      entry.0.kind ≡ DeviceIn inner → IsDealtWith (after_all t before) None inner (course_at (after_all t before) entry)
  -- When time passes nothing is handed on; only pings are sealed, each to a client that is here, at its address.
  pub at_ticks : (before rest : List Entry) (entry : Entry) → entries ≡ before ++ entry ∷ rest → entry.0.kind ≡ Tick →
      ((course_at (after_all t before) entry).table.queue ≡ (after_all t before).queue)
      × AllByRecursion (IsPingToOneHere (course_at (after_all t before) entry).table) (carrying (course_at (after_all t before) entry).effects)
  -- Any other event hands nothing on.
  pub at_others : (before rest : List Entry) (entry : Entry) → entries ≡ before ++ entry ∷ rest → IsQuiet entry.0.kind →
      ((course_at (after_all t before) entry).table.queue ≡ (after_all t before).queue) × (carrying (course_at (after_all t before) entry).effects ≡ [])
  -- None is lost: a packet that opens fresh under a usable key is handed on, or one note says why not, and each note only where its cause holds.
  pub dealt_with : (before rest : List Entry) (entry : Entry) (n k id : ℕ) (inner : List ℕ) → entries ≡ before ++ entry ∷ rest → Accepts (after_all t before) entry.0 n k id inner →
      IsDealtWith (after_all t before) (Some n) inner (course_at (after_all t before) entry)
  -- One that is no ping and has a target is handed on, unless the target has used its last packet id or the queue is full.
  pub sent_on : (before rest : List Entry) (entry : Entry) (n k id : ℕ) (inner : List ℕ) → entries ≡ before ++ entry ∷ rest → Accepts (after_all t before) entry.0 n k id inner →
      inner ≢ ping → IsForward (verdict_on (after_all t before) (Some n) inner) → IsSentOn (after_all t before) n inner (course_at (after_all t before) entry)
  -- A source that the client owns is never refused.
  pub owned : (before : List Entry) (n : ℕ) (inner : List ℕ) (found : Option Cid) → owner (after_all t before).routes.rows (source inner) ≡ Some (cid n) →
      verdict_on (after_all t before) (Some n) inner ≢ BadSource found

-- ---- control text

-- Of a run of a server of these settings and this static key: control text is read in order, without gap or repeat.
pub record TextKept (settings : Settings) (key : List ℕ) (entries : List Entry) : Type 0 where
  -- What is put to the engine on the connection of a key session, in order, is the text that its link has read.
  pub in_order : (n k : ℕ) (s : Session) → session_of (after_all (table_begun settings key) entries) n k ≡ Some s →
      put_on s.link.conn.0 (all_outs (table_begun settings key) entries) ≡ text_read_of s.link
  -- No two key sessions share a connection.
  pub apart : (n k m j : ℕ) (s r : Session) → session_of (after_all (table_begun settings key) entries) n k ≡ Some s →
      session_of (after_all (table_begun settings key) entries) m j ≡ Some r → s.link.conn.0 ≡ r.link.conn.0 → (n ≡ m) × (k ≡ j)
  -- Each payload that was read was brought by a datagram of this run that meets all tests for that key session.
  pub brought : (n k : ℕ) (s : Session) → session_of (after_all (table_begun settings key) entries) n k ≡ Some s →
      AllByRecursion (WasBrought settings key entries n k) s.link.receiving.taken
  -- None is lost: a control packet that meets all tests is taken in its step, where it does not lack memory as a whole.
  pub none_lost : (before rest : List Entry) (entry : Entry) (r : ControlPacket) (n k : ℕ) → entries ≡ before ++ entry ∷ rest → entry.1 ≢ LacksAll →
      MeetsAll key (after_all (table_begun settings key) before) entry.0 r n k → IsTakenIn (lacks_host entry.1) (after_all (table_begun settings key) before) entry.0 r n k

-- ---- both

-- the promise about a run of a server of these settings and this static key
pub record Promise (settings : Settings) (key : List ℕ) (entries : List Entry) : Type 0 where
  pub packets : PacketsKept (table_begun settings key) entries
  pub texts : TextKept settings key entries
