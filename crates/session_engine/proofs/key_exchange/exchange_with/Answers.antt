use Rattle.std.proofs.Common.{◌≡◌, ◌≤◌, ◌++◌, ◌∷◌, [], ℕ, List, Option, Some, ap, sym, subst, ◌∙◌, refl}
use Rattle.std.specs.Prelude.{length, replicate, slice_get, unwrap_or}
use Rattle.vpn_base.specs.declared.names.Sid.{Sid}
use Rattle.vpn_links.specs.Actions.{Holds}
use Rattle.control_link.specs.Links.{Link}
use Rattle.key_method2.specs.Messages.{server_message}
use Rattle.key_sessions.specs.declared.slot.Newest.{Newest}
use Rattle.key_sessions.specs.Changes.{exchanged_in, newest_keyed, one_closed}
use Rattle.key_sessions.specs.Sessions.{keys_made}
use Rattle.key_sessions.specs.Slots.{SlotsStand}
use Rattle.peer_table.specs.Exchange.{exchanged_with}
use Rattle.peer_table.specs.KeySessions.{Keys, is_keyed, newest}
use Rattle.peer_table.specs.Outboxes.{Leaves, actions_of}
use Rattle.peer_table.specs.Peer.{Writes, remote_of}
use Rattle.peer_lines.specs.Standing.{StandsFor}
use Rattle.session_state.specs.Standing.{PeerStands}
use Rattle.session_engine.specs.declared.key_exchange.Prepared.{Prepared}
use Rattle.session_engine.specs.internal.Exchanges.{IsTextOf}
use Rattle.session_engine.proofs.ExchangeSteps.{same_keys}
use Rattle.session_engine.proofs.Exchanged.{keyed_now}
use Rattle.session_engine.proofs.Exchanging.{exchange_count, exchange_goes_on, exchange_leaves}
use Rattle.session_engine.proofs.Found.{PreparedAt, prepared_at}
use Rattle.session_state.proofs.Keeping.{sound_at, whole_of}
use Rattle.session_state.proofs.Waits.{newest_at}
use Rattle.session_engine.proofs.key_exchange.exchange_with.Goals as goal

pub nothing_is_read_before_keys-requires : goal.nothing_is_read_before_keys-requires
nothing_is_read_before_keys-requires g c = whole_of c.args.session.now c.requires.goes_on

pub make_keys-closed-requires-clause-whole : goal.make_keys-closed-requires-clause-whole
make_keys-closed-requires-clause-whole g c = whole_of c.args.session.now c.requires.goes_on

pub returns-clause-left : goal.returns-clause-left
unfolding PeerStands
returns-clause-left g c = λ policy p message to stands there same.
    let ss = p.sessions in
    let used : c.args.prepared.now.used ≡ message.1 = ap (λ (r : Prepared). r.used) same in
    let at : PreparedAt p c.args.prepared.now.used = subst (PreparedAt p) (sym used) (prepared_at p message there) in
    let keys : Keys = keys_made message.0.source c.args.own.now (remote_of p) p.envelope.own c.args.cipher c.args.peer_id in
    let made = same_keys c.args.prepared.now.source message.0.source c.args.own.now c.unwrap_or-remote.result (remote_of p) c.args.session.now.own p.envelope.own c.args.cipher c.args.peer_id
    (ap (λ (r : Prepared). r.source) same) (c.unwrap_or-remote.ensures ∙ ap (λ (o : Option Sid). unwrap_or o (record { 0 = replicate 8 0 })) stands.remote_is) stands.own_is in
    let mid : SlotsStand StandsFor c.make_keys-closed.new.slots (exchanged_in keys ss) =
    subst (λ (k : Keys). SlotsStand StandsFor c.make_keys-closed.new.slots (exchanged_in k ss)) made (c.make_keys-closed.ensures.made c.args.peer_id ss stands.slots_stand) in
    let given : IsTextOf c.make_keys-closed.result (one_closed (newest_keyed keys ss)) =
    subst (λ (k : Keys). IsTextOf c.make_keys-closed.result (one_closed (newest_keyed k ss))) made (c.make_keys-closed.ensures.given c.args.peer_id ss stands.slots_stand) in
    let seen = newest_at ss c.newest.result (c.newest.ensures.seen ss stands.slots_stand) in
    let number : newest ss ≡ c.newest.result.number = ap (λ (r : Newest). r.number) seen.seen_so in
    let unread = c.nothing_is_read_before_keys.ensures ss at.session stands.slots_stand (subst (λ (n : ℕ). slice_get ss n ≡ Some at.session) number at.here) (ap is_keyed at.named) in
    let keyed = keyed_now keys ss at.session at.here in
    let written = c.write_message.ensures.written (exchanged_in keys ss) (newest ss) keyed.session keys mid keyed.last keyed.here keyed.stage refl (keyed.read ∙ unread)
    (ap (λ (l : Link). l.kid) keyed.link ∙ (sound_at ss (newest ss) at.session stands.sound at.here).kid)
    (subst (λ (t : List ℕ). c.args.prepared.now.used ≤ length t) (sym keyed.plain) at.within) in
    let wrote : Holds c.write_message.new.out (c.reserve.new.self.effects ++ actions_of p.role (Writes at.session.link.conn (server_message c.args.own.now) ∷ [])) c.reserve.new.self.staged =
    subst (λ (l : Link). Holds c.write_message.new.out (c.reserve.new.self.effects ++ actions_of p.role (Writes l.conn (server_message c.args.own.now) ∷ [])) c.reserve.new.self.staged)
    keyed.link (written.1 p.role) in
    subst (λ (u : ℕ). Leaves (PeerStands g.W.Wrap.wrapped) (record c.args.session.now { slots = c.write_message.new.slots; asks_push = c.args.prepared.now.asks_push })
    c.args.out.now c.close_given.new.out to (exchanged_with c.args.peer_id p c.args.own.now message.0 u (Some c.args.cipher))) used
    (exchange_leaves g.W.Wrap.wrapped c.args.session.now c.write_message.new.slots c.args.prepared.now.asks_push c.args.out.now c.reserve.new.self c.write_message.new.out c.close_given.new.out
    to p message.0 c.args.prepared.now.used c.args.peer_id c.args.cipher c.args.own.now keys (ap (λ (r : Prepared). r.asks_push) same) refl stands at
    written.0 c.write_message.ensures.whole c.reserve.ensures.same wrote (c.close_given.ensures.closed (one_closed (newest_keyed keys ss)) p.role given))

pub returns-clause-goes_on : goal.returns-clause-goes_on
returns-clause-goes_on g c = exchange_goes_on c.args.session.now c.write_message.new.slots c.args.prepared.now.asks_push c.requires.goes_on c.write_message.ensures.whole

pub returns-clause-count : goal.returns-clause-count
returns-clause-count g c = exchange_count c.args.session.now c.write_message.new.slots c.args.prepared.now.asks_push (c.write_message.ensures.number ∙ c.make_keys-closed.ensures.number)
