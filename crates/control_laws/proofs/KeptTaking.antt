-- A client's session takes a control packet: its line gains what the packet brings, or a line begins and takes it.
use Rattle.std.proofs.Common.{◌≡◌, ◌+◌, ℕ, suc, true, [], ◌∷◌, length, Option, Some, None, refl, sym, ap, ◌∙◌, subst, add-zero, append_assoc, Result, Ok, Err}
use Rattle.std.specs.Prelude.{slice_get, option_map}
use Rattle.vpn_base.specs.declared.names.Freshness.TheVariants.{Fresh}
use Rattle.vpn_base.specs.declared.names.Place.{Place}
use Rattle.vpn_links.specs.Actions.{EngineOpen, Report}
use Rattle.vpn_links.specs.declared.notes.Note.TheVariants as notes
use Rattle.reliable_recv.specs.Receiving.{Arrival, begun}
use Rattle.control_link.specs.Calls as link
use Rattle.control_link.specs.Reading.{IsReadUp, read_here, texts_here}
use Rattle.peer_table.specs.declared.outcomes.Refused.{Refused}
use Rattle.peer_table.specs.declared.outcomes.Refused.TheVariants.{Replayed, BadKey}
use Rattle.peer_table.specs.declared.outcomes.Turn.{Turn}
use Rattle.peer_table.specs.ControlPackets.{Incoming, begun_by, control_came, next_session, puts, sender, taken_as, with_next}
use Rattle.peer_table.specs.KeySessions.{Session, kid_of}
use Rattle.peer_table.specs.Outboxes.{actions_of}
use Rattle.peer_table.specs.Peer.{Outcome, Peer}
use Rattle.peer_table.specs.Places.{changed_at}
use Rattle.packet_ids.specs.LongFreshness.{long_freshness}
use Rattle.server_table.specs.Table.{Client, Table}
use Rattle.server_table.specs.Lookups.{cid, client_here}
use Rattle.server_table.specs.Courses.{Course, acted, client_changed}
use Rattle.server_table.specs.DataDatagrams.{went_to}
use Rattle.server_table.specs.ControlDatagrams.{ControlPacket, control_answered, control_for, control_place, incoming, to_client, with_fresh}
use Rattle.control_laws.specs.internal.LinkReads.{LinkReads}
use Rattle.control_laws.proofs.Calls.{are_still, next_put, none_next}
use Rattle.control_laws.proofs.Came.{Began, ControlCame, NotTaken, Took, what_came}
use Rattle.control_laws.proofs.Lines.{ItemPut, both_put, changed_put, get_changed, get_last, get_map, line_at, line_of, lines_in, lines_of, map_put}
use Rattle.control_laws.proofs.Kept.{Before, Kept, begun_line, takes_kept}
use Rattle.control_laws.proofs.Begins.{begins_kept}
use Rattle.server_table.proofs.Keeps.{here_at}
use Rattle.control_laws.proofs.Keeps.{acted_put, count_kept, did_kept, effects_kept, line_put, line_there, quiet_acted, same_kept, with_session}
use Rattle.control_laws.proofs.KeptEndings.{turned_kept}
use Rattle.control_laws.proofs.Placed.{FoundLive, FoundNext, IsFound}
use Rattle.control_laws.proofs.Takes.{puts_opened, takes_line}

-- the packet is fresh as a wrap at this client, and is for its session of this number
pub record IsForSession (t : Table) (x : Client) (r : ControlPacket) (k : ℕ) : Type 0 where
  pub fresh : long_freshness x.session.envelope.accepted r.packet.time r.packet.id (record { 0 = t.moment }) ≡ Fresh
  pub placed : IsFound t x r k

-- what the packet brings to a session of client n that takes it is brought
abbrev pub BringsTo : (ℕ → ℕ → Arrival → Type 0) → ℕ → ControlPacket → Table → Client → Type 0
BringsTo brought n r t x = (k : ℕ) → IsForSession t x r k → (id : ℕ) → r.form.id ≡ Some id → brought n k (id, r.form.payload)

-- the session with the link after it took a packet, and what was then in order was read
abbrev pub took : link.Outcome → Session → Session
took o s = record s { link = read_here 12 o.link }

-- the lines of a peer of which one session took
pub taken_put : (p : Peer) (i : Incoming) (k : ℕ) (s : Session) (o : link.Outcome) → slice_get p.sessions k ≡ Some s →
    ItemPut (lines_in p) (lines_in (taken_as p i k o).peer) k (line_of (took o s))
taken_put p i k s o there = map_put line_of p.sessions (changed_at k (took o) p.sessions) k (took o s) (changed_put k (took o) p.sessions s there)

module _ (reads : LinkReads) (up : IsReadUp begun) {brought : ℕ → ℕ → Arrival → Type 0} {base : Before} where
  -- the live session took it
  took_acted : (r : ControlPacket) (n : ℕ) (x : Client) (c : Course) (k : ℕ) (s : Session) → client_here c.table n ≡ Some x → slice_get x.session.sessions k ≡ Some s →
      ((id : ℕ) → r.form.id ≡ Some id → brought n k (id, r.form.payload)) → Kept brought base c →
      Kept brought base (acted n x.address (taken_as x.session (incoming r c x) k
      (link.received s.link x.session.envelope r.form (sender (incoming r c x)) c.table.moment)) c)
  took_acted r n x c k s here there brings is =
      let i = incoming r c x in
      let lo = link.received s.link x.session.envelope r.form (sender i) c.table.moment in
      let o = taken_as x.session i k lo in
      let at = (here_at c.table n x here).there in
      let line : line_at (lines_of c.table.clients) n k ≡ Some (line_of s) =
      line_there c.table.clients n k x (Some (line_of s)) at (get_map line_of x.session.sessions k ∙ ap (λ s. option_map line_of s) there) in
      count_kept (ap (λ more. c.table.connections + more) (puts_opened lo.link.conn (texts_here 12 lo.link)) ∙ add-zero c.table.connections)
      (takes_kept (lines_of (changed_at n (with_session o.peer) c.table.clients)) n k (line_of s) (line_of (took lo s))
      (actions_of x.session.role (puts lo.link.conn (texts_here 12 lo.link))) line
      (acted_put c.table.clients n k x o.peer (line_of (took lo s)) at (taken_put x.session i k s lo there))
      (takes_line reads brought n k s x.session.envelope r.form (sender i) c.table.moment x.session.role (is.each n k (line_of s) line).read brings) is)

  -- it began the next session, which took it
  began_acted : (r : ControlPacket) (n : ℕ) (x : Client) (c : Course) → client_here c.table n ≡ Some x →
      ((id : ℕ) → r.form.id ≡ Some id → brought n (length x.session.sessions) (id, r.form.payload)) → Kept brought base c →
      Kept brought base (acted n x.address (begun_by x.session (incoming r c x) true) c)
  began_acted r n x c here brings is =
      let i = incoming r c x in
      let q = with_next i.next_conn c.table.moment x.session in
      let s = next_session i.next_conn c.table.moment x.session in
      let k = length x.session.sessions in
      let lo = link.received s.link q.envelope r.form (sender i) c.table.moment in
      let o = taken_as q i k lo in
      let at = (here_at c.table n x here).there in
      let mid = changed_at n (with_session q) c.table.clients in
      let role = x.session.role in
      let texts = puts lo.link.conn (texts_here 12 lo.link) in
      let opens =
      acted_put c.table.clients n k x q (begun_line i.next_conn.0 (kid_of k)) at (next_put i.next_conn c.table.moment x.session) in
      let begun_kept = begins_kept (lines_of mid) n k i.next_conn role up refl
      (line_there c.table.clients n k x None at (none_next x.session.sessions)) opens is in
      effects_kept (sym (append_assoc c.effects (EngineOpen i.next_conn role ∷ []) (actions_of role texts)))
      (count_kept (ap (λ more. c.table.connections + suc more) (puts_opened lo.link.conn (texts_here 12 lo.link)))
      (takes_kept (lines_of (changed_at n (with_session o.peer) c.table.clients)) n k (line_of s) (line_of (took lo s)) (actions_of role texts) opens.there
      (line_put mid (changed_at n (with_session o.peer) c.table.clients) n k (with_session q x) (with_session o.peer x) (line_of (took lo s))
      (get_changed n (with_session q) c.table.clients x at)
      (both_put n (with_session q) (with_session o.peer) c.table.clients x at)
      (taken_put q i k s lo (get_last x.session.sessions s)))
      (takes_line reads brought n k s q.envelope r.form (sender i) c.table.moment role up brings) begun_kept))

  came_acted : (r : ControlPacket) (n : ℕ) (x : Client) (c : Course) (o : Outcome (Result Turn Refused)) → client_here c.table n ≡ Some x →
      BringsTo brought n r c.table x → ControlCame x.session (incoming r c x) o → Kept brought base c → Kept brought base (acted n x.address o c)
  came_acted r n x c o here brings (NotTaken same none) is =
      quiet_acted n x o c here (record { lines = same; still = ap are_still none }) is
  came_acted r n x c o here brings (Took k s fresh there live came) is =
      subst (λ o. Kept brought base (acted n x.address o c)) (sym came)
      (took_acted r n x c k s here there (brings k (record { fresh = fresh; placed = FoundLive s there live })) is)
  came_acted r n x c o here brings (Began fresh none begins came) is =
      subst (λ o. Kept brought base (acted n x.address o c)) (sym came)
      (began_acted r n x c here (brings (length x.session.sessions) (record { fresh = fresh; placed = FoundNext none begins refl })) is)

  answered_kept : (n : ℕ) (to : Option Place) (c : Course) (answer : Result Turn Refused) → Kept brought base c → Kept brought base (control_answered n to c answer)
  answered_kept n to c (Ok turn) is =
      let d = record c { table = went_to to c.table } in
      turned_kept n turn (client_changed n (with_fresh c.table.moment) d) (same_kept c.table.clients n (with_fresh c.table.moment) (λ y. refl) is)
  answered_kept n to c (Err (BadKey kid)) is =
      did_kept (Report (notes.BadKey (cid n) kid)) (client_changed n (with_fresh c.table.moment) c) refl
      (same_kept c.table.clients n (with_fresh c.table.moment) (λ y. refl) is)
  answered_kept n to c (Err (Replayed time id)) is = did_kept (Report (notes.Replayed time id)) c refl is

  control_for_kept : (r : ControlPacket) (n : ℕ) (c : Course) (x : Option Client) → client_here c.table n ≡ x →
      ((x : Client) → client_here c.table n ≡ Some x → BringsTo brought n r c.table x) → Kept brought base c → Kept brought base (control_for r n c x)
  control_for_kept r n c None here brings is = is
  control_for_kept r n c (Some x) here brings is =
      let o = control_came x.session (incoming r c x) in
      answered_kept n (control_place (incoming r c x) x.session o.peer) (acted n x.address o c) o.answer
      (came_acted r n x c o here (brings x here) (what_came x.session (incoming r c x)) is)

  pub to_client_kept : (r : ControlPacket) (n : ℕ) (c : Course) → ((x : Client) → client_here c.table n ≡ Some x → BringsTo brought n r c.table x) →
      Kept brought base c → Kept brought base (to_client r n c)
  unfolding to_client
  to_client_kept r n c brings is = control_for_kept r n c (client_here c.table n) refl brings is
