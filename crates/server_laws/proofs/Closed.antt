-- What holds of every course of a step, if it holds where the step begins and each thing that a step does keeps it.
use Rattle.std.proofs.Common.{◌≡◌, ℕ, Bool, true, false, List, [], ◌∷◌, ◌++◌, length, Option, Some, None, refl, sym, ap, ◌∙◌, subst, nat_le}
use Rattle.std.specs.Prelude.{◌⊎◌, slice_get, if◌then◌else◌}
use Rattle.vpn_base.specs.declared.address.Addr.{Addr}
use Rattle.vpn_base.specs.declared.address.Ip4.{Ip4}
use Rattle.vpn_base.specs.declared.names.Cause.{Cause}
use Rattle.vpn_base.specs.declared.names.Conn.{Conn}
use Rattle.vpn_base.specs.declared.names.Draw.{Draw}
use Rattle.vpn_base.specs.declared.names.Place.{Place}
use Rattle.vpn_links.specs.Actions.{Action, Device, Report}
use Rattle.vpn_links.specs.declared.notes.Note.{Note}
use Rattle.ccd_files.specs.declared.client_file.Ccd.{Ccd}
use Rattle.route_table.specs.Owner.{owner}
use Rattle.route_table.specs.Learned.{with_host}
use Rattle.peer_table.specs.declared.outcomes.Turn.{Turn}
use Rattle.peer_table.specs.declared.outcomes.Turn.TheVariants.{Going, Ignored, Named, Exchange, Over}
use Rattle.peer_table.specs.Peer.{Outcome}
use Rattle.peer_table.specs.DataPackets as packets
use Rattle.server_table.specs.Table.{Client, Known, Table}
use Rattle.server_table.specs.Lookups.{cid, client_here, if_here}
use Rattle.server_table.specs.Courses.{Course, acted, client_changed, did, did_all, reported}
use Rattle.server_table.specs.Endings.{ended, ended_as, turned}
use Rattle.server_table.specs.Establishing.{Leased, established_at}
use Rattle.server_table.specs.InnerPackets.{most_queued, sealed_with}
use Rattle.server_table.specs.ControlDatagrams.{client_begun, session_begun, with_admitted}
use Rattle.server_table.specs.DataDatagrams.{went_to}
use Rattle.server_laws.specs.HandedOn.{carrying}
use Rattle.server_laws.specs.WellKept.{HaveKeys}
use Rattle.server_table.proofs.Places.{some_same}
use Rattle.server_laws.proofs.CallsKeep.{CallKept, ExchangeKept}
use Rattle.server_table.proofs.Keeps.{here_at}

-- ---- clients

-- what a change of a client keeps
pub record ClientKept (y z : Client) : Type 0 where
  pub here : z.is_here ≡ y.is_here
  pub peer_id : z.peer_id ≡ y.peer_id
  pub established : z.established ≡ y.established
  pub session : CallKept y.session z.session
  pub file : (ccd : Ccd) → y.file ≡ Known ccd → z.file ≡ Known ccd

pub here_from : (t : Table) (n : ℕ) (x : Client) → slice_get t.clients n ≡ Some x → x.is_here ≡ true → client_here t n ≡ Some x
unfolding client_here
here_from t n x there here = ap if_here there ∙ ap (λ (b : Bool). if b then Some x else None) here

-- what holds of the client there holds of any that stands there
pub at_place : (Q : Client → Type 0) (clients : List Client) (n : ℕ) (x : Client) → slice_get clients n ≡ Some x → Q x → (y : Client) → slice_get clients n ≡ Some y → Q y
at_place Q clients n x there is y at = subst Q (some_same (sym there ∙ at)) is

-- ---- the things that a step does

-- a client may be established now
pub record IsReady (x : Client) : Type 0 where
  pub new : x.established ≡ None
  pub keys : (x.session.asks_push ≡ true) ⊎ HaveKeys x.session.sessions

-- It does what carries no packet; sets what no law here speaks of; a client's session makes a call, or its exchange; a client changes,
-- ends, is established, is admitted.
pub record IsClosed (P : Course → Type 0) : Type 0 where
  pub quiet : (actions : List Action) (c : Course) → carrying actions ≡ [] → P c → P (did_all actions c)
  pub other : (counted into outof : ℕ) (stopped : Bool) (c : Course) → P c →
      P (record c { table = record c.table { counted_at = counted; bytes_in = into; bytes_out = outof; is_stopped = stopped } })
  pub acts : (n : ℕ) (x : Client) (o : Outcome Turn) (c : Course) → client_here c.table n ≡ Some x → CallKept x.session o.peer → P c → P (acted n x.address o c)
  pub exchanges : (n : ℕ) (x : Client) (ccd : Ccd) (o : Outcome Turn) (c : Course) → client_here c.table n ≡ Some x → x.file ≡ Known ccd →
      ExchangeKept x.peer_id x.session o.peer → P c → P (acted n x.address o c)
  pub alters : (n : ℕ) (f : Client → Client) (c : Course) → ((y : Client) → slice_get c.table.clients n ≡ Some y → ClientKept y (f y)) → P c →
      P (client_changed n f c)
  pub ends : (n : ℕ) (cause : Cause) (x : Client) (c : Course) → client_here c.table n ≡ Some x → P c → P (ended_as n cause c (Some x))
  pub establishes : (n : ℕ) (conn : Conn) (x : Client) (l : Leased) (c : Course) → client_here c.table n ≡ Some x → IsReady x → P c →
      P (established_at n conn x c l)
  pub admits : (from : Addr) (draw : Draw) (c : Course) → P c → P (with_admitted (client_begun c.table from (session_begun c.table draw).peer) c)

-- a datagram goes to a key session
abbrev pub Goes : (Course → Type 0) → Type 0
Goes P = (to : Option Place) (c : Course) → P c → P (record c { table = went_to to c.table })

-- this packet is sealed to a client
pub record SealsOf (P : Course → Type 0) (inner : List ℕ) : Type 0 where
  pub seals : (n : ℕ) (x : Client) (c : Course) → client_here c.table n ≡ Some x → P c → P (sealed_with n x c (packets.sealed_to inner x.session))

-- the packets of clients and of the device are dealt with
pub record DealsWith (P : Course → Type 0) : Type 0 where
  pub seals : (inner : List ℕ) → SealsOf P inner
  pub learns : (n : ℕ) (host : Ip4) (c : Course) → owner c.table.routes.rows host ≡ Some (cid n) → P c →
      P (record c { table = record c.table { routes = with_host host (cid n) c.table.routes } })
  pub queues : (inner : List ℕ) (c : Course) → nat_le most_queued (length c.table.queue) ≡ false → P c →
      P (record c { table = record c.table { queue = c.table.queue ++ inner ∷ [] } })
  pub dequeues : (packet : List ℕ) (rest : List (List ℕ)) (c : Course) → c.table.queue ≡ packet ∷ rest → P c →
      P (did (Device packet) (record c { table = record c.table { queue = rest } }))

module _ {P : Course → Type 0} (closed : IsClosed P) where
  pub reported_kept : (note : Note) (c : Course) → P c → P (reported note c)
  reported_kept note c is = closed.quiet (Report note ∷ []) c refl is

  -- a call of a client's session, whatever it answers
  pub acted_kept : {A : Type 0} (n : ℕ) (x : Client) (o : Outcome A) (c : Course) → client_here c.table n ≡ Some x → CallKept x.session o.peer → P c → P (acted n x.address o c)
  acted_kept n x o c here peer is =
      closed.acts n x (record { peer = o.peer; doings = o.doings; datagrams = o.datagrams; answer = Going }) c here peer is

  -- a client that is here is changed
  pub altered : (n : ℕ) (x : Client) (f : Client → Client) (c : Course) → client_here c.table n ≡ Some x → ClientKept x (f x) → P c → P (client_changed n f c)
  altered n x f c here kept is =
      closed.alters n f c (at_place (λ y. ClientKept y (f y)) c.table.clients n x (here_at c.table n x here).there kept) is

  pub ended_by : (n : ℕ) (cause : Cause) (c : Course) (x : Option Client) → client_here c.table n ≡ x → P c → P (ended_as n cause c x)
  ended_by n cause c None here is = is
  ended_by n cause c (Some x) here is = closed.ends n cause x c here is

  pub ended_kept : (n : ℕ) (cause : Cause) (c : Course) → P c → P (ended n cause c)
  unfolding ended
  ended_kept n cause c is = ended_by n cause c (client_here c.table n) refl is

  pub turned_kept : (n : ℕ) (turn : Turn) (c : Course) → P c → P (turned n turn c)
  turned_kept n Going c is = is
  turned_kept n Ignored c is = is
  turned_kept n Named c is = is
  turned_kept n Exchange c is = is
  turned_kept n (Over cause) c is = ended_kept n cause c is
