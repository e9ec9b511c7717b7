-- What brought a payload that a key session took, and what becomes of a packet that meets all tests.
use Rattle.std.specs.Prelude.{◌≡◌, ◌≢◌, ℕ, Bool, List, ◌∷◌, ◌++◌, Some}
use Rattle.vpn_links.specs.declared.events.Event.{Event}
use Rattle.vpn_links.specs.Steps.{LacksAll}
use Rattle.reliable_recv.specs.Receiving.{Arrival, text}
use Rattle.control_link.specs.Reading.{taken_with}
use Rattle.ovpn_config.specs.declared.settings.Settings.{Settings}
use Rattle.peer_table.specs.KeySessions.{Session, kid_of}
use Rattle.server_table.specs.Table.{Table, table_begun}
use Rattle.server_table.specs.ControlDatagrams.{ControlPacket}
use Rattle.server_table.specs.Courses.{outs}
use Rattle.server_table.specs.Runs.{Entry, after_all}
use Rattle.server_table.specs.Step.{step}
use Rattle.control_laws.specs.Puts.{put_on}
use Rattle.control_laws.specs.Sessions.{session_of, taken_in}
use Rattle.control_laws.specs.Tests.{MeetsAll, carried_kid}

-- an event brings this payload to session k of client n: a control packet meets all tests, carries the session's key id, and has this packet id and this payload
pub record Brings (key : List ℕ) (t : Table) (event : Event) (n k : ℕ) (a : Arrival) : Type 0 where
  pub packet : ControlPacket
  pub meets : MeetsAll key t event packet n k
  pub kid : carried_kid packet ≡ kid_of k
  pub id : packet.form.id ≡ Some a.0
  pub payload : packet.form.payload ≡ a.1

-- an event of a run has brought it, which did not lack as a whole
pub record WasBrought (settings : Settings) (key : List ℕ) (entries : List Entry) (n k : ℕ) (a : Arrival) : Type 0 where
  pub before : List Entry
  pub entry : Entry
  pub more : List Entry
  pub split : entries ≡ before ++ entry ∷ more
  pub took : entry.1 ≢ LacksAll
  pub brings : Brings key (after_all (table_begun settings key) before) entry.0 n k a

-- In a step session k of client n took a packet: it stands behind all that the session took, if it lies less than 12 above the least that
-- is not there yet; and what is then read beyond what was read before is put on the session's connection.
pub record IsTakenIn (lacks : Bool) (t : Table) (event : Event) (r : ControlPacket) (n k : ℕ) : Type 0 where
  pub session : Session
  pub there : session_of (step lacks t event).table n k ≡ Some session
  pub taken : session.link.receiving.taken ≡ taken_with (taken_in (session_of t n k)) r.form.id r.form.payload
  pub put : text session.link.receiving.taken ≡ text (taken_in (session_of t n k)) ++ put_on session.link.conn.0 (outs (step lacks t event))
