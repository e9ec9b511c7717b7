-- Data packets of one key session, as data packets of the client.
use Rattle.std.proofs.Common.{◌≡◌, ℕ, ◌+◌, Bool, true, false, List, [], ◌∷◌, ◌++◌, Option, Some, None, refl, ap, subst, ◌∙◌}
use Rattle.std.specs.Prelude.{slice_get, not, is_ok}
use Rattle.vpn_base.specs.declared.address.Addr.{Addr}
use Rattle.vpn_base.specs.declared.names.Freshness.{Freshness}
use Rattle.vpn_base.specs.declared.names.Freshness.TheVariants.{Fresh, Zero, Old, Seen, Late}
use Rattle.vpn_base.specs.declared.names.Moment.{Moment}
use Rattle.vpn_base.specs.declared.names.Role.{Role}
use Rattle.vpn_links.specs.Actions.{Contents, Holds, Wire}
use Rattle.packet_ids.specs.Freshness.{freshness, recorded}
use Rattle.data_channel.specs.Channels.{received_after, received_judged}
use Rattle.tls_crypt.specs.Packets.{Wrapping}
use Rattle.peer_table.specs.DataPackets.{ids_are_spent, opened_by, opened_under, sealed_by, sealed_under}
use Rattle.peer_table.specs.DataPackets as table
use Rattle.peer_table.specs.KeySessions.{Keys, Session, has_keys, is_keyed, keys_of, kid_of}
use Rattle.peer_table.specs.KeySessions as sessions
use Rattle.std.proofs.lemmas.Option.{none-some}
use Rattle.peer_table.specs.Outboxes.{LeavesSealed, wired}
use Rattle.peer_table.specs.Peer.{Peer, other}
use Rattle.peer_table.specs.Places.{changed_at}
use Rattle.key_sessions.specs.declared.slots.Slots.{Slots}
use Rattle.key_sessions.specs.Slots.{SlotsStand}
use Rattle.peer_lines.specs.declared.channels.SessionChannels.{SessionChannels}
use Rattle.peer_lines.specs.Standing.{StandsFor}
use Rattle.peer_lines.specs.Calls.{after_opening, after_sealing, opening_answer, sealed_as, sealed_if, sealing_answer}
use Rattle.peer_lines.specs.Calls as lines
use Rattle.session_state.specs.declared.session.SessionState.{SessionState}
use Rattle.session_state.specs.Standing.{IsPeerOf, PeerStands}
use Rattle.session_state.proofs.Keeping.{PutBack, alike, no_change, sound_at, text_put}

-- ---- sealing

sealed_by_case : {W : Type 0} (wrapped : W → Wrapping) (before : SessionState W) (taken slots : Slots SessionChannels) (p : Peer) (n : ℕ) (s : Session) (keys : Keys)
    (inner : List ℕ) (text : SessionChannels) (was is_now : Contents) (to : Addr) (b : Bool) →
    IsPeerOf wrapped before p → SlotsStand StandsFor taken p.sessions → slice_get p.sessions n ≡ Some s → PutBack taken slots n text →
    StandsFor text (sealed_if s b) → Holds is_now (was.effects ++ wired to (sealed_as before.role keys s inner b)) was.staged →
    LeavesSealed (PeerStands wrapped) (record before { slots = slots }) was is_now to (sealed_by p inner n s (Some keys) b)
sealed_by_case wrapped before taken slots p n s keys inner text was is_now to false is stands at put text_stands holds = record {
  peer = subst (λ (ss : List Session). PeerStands wrapped (record before { slots = slots }) (record p { sessions = ss }))
      (alike p.sessions n s (λ _. record s { sealed = s.sealed + 1 }) (λ t. record t { sealed = t.sealed + 1 }) at refl)
      (text_put wrapped before taken slots p n s (record s { sealed = s.sealed + 1 }) text is stands at put text_stands
      (record { began = refl; is_open = refl; stage = refl; kid = refl; read = λ keyed read. read; spent = λ spent. spent }));
  outbox = subst (λ (kid : ℕ). Holds is_now (was.effects ++ Wire to (sealed_under p.role keys kid (s.sealed + 1) inner) ∷ []) was.staged) (sound_at p.sessions n s is.sound at).kid
      (subst (λ (role : Role). Holds is_now (was.effects ++ Wire to (sealed_under role keys s.link.kid (s.sealed + 1) inner) ∷ []) was.staged) is.role_is holds);
}
sealed_by_case wrapped before taken slots p n s keys inner text was is_now to true is stands at put text_stands holds = record {
  peer = subst (λ (ss : List Session). PeerStands wrapped (record before { slots = slots }) (record p { sessions = ss }))
      (no_change p.sessions n s at)
      (text_put wrapped before taken slots p n s s text is stands at put text_stands
      (record { began = refl; is_open = refl; stage = refl; kid = refl; read = λ keyed read. read; spent = λ spent. spent }));
  outbox = holds;
}

-- what sealing in the session of a number leaves
pub sealed_leaves : {W : Type 0} (wrapped : W → Wrapping) (before : SessionState W) (taken slots : Slots SessionChannels) (p : Peer) (n : ℕ) (s : Session) (keys : Keys)
    (inner : List ℕ) (text : SessionChannels) (was is_now : Contents) (to : Addr) →
    IsPeerOf wrapped before p → SlotsStand StandsFor taken p.sessions → slice_get p.sessions n ≡ Some s → PutBack taken slots n text →
    StandsFor text (after_sealing s) → Holds is_now (was.effects ++ wired to (sealing_answer before.role keys inner s)) was.staged →
    LeavesSealed (PeerStands wrapped) (record before { slots = slots }) was is_now to (sealed_by p inner n s (Some keys) (ids_are_spent s))
unfolding after_sealing sealing_answer
sealed_leaves wrapped before taken slots p n s keys inner text was is_now to is stands at put text_stands holds =
    sealed_by_case wrapped before taken slots p n s keys inner text was is_now to (ids_are_spent s) is stands at put text_stands holds

ok_by : (p : Peer) (inner : List ℕ) (n : ℕ) (s : Session) (keys : Keys) (b : Bool) → not b ≡ is_ok (sealed_by p inner n s (Some keys) b).answer
ok_by p inner n s keys true = refl
ok_by p inner n s keys false = refl

pub sealed_ok : (p : Peer) (inner : List ℕ) (n : ℕ) (s : Session) (keys : Keys) → not (ids_are_spent s) ≡ is_ok (sealed_by p inner n s (Some keys) (ids_are_spent s)).answer
sealed_ok p inner n s keys = ok_by p inner n s keys (ids_are_spent s)

-- a session whose stage has keys has them
pub has_them : (s : Session) (keys : Keys) → keys_of s.stage ≡ Some keys → has_keys s ≡ true
has_them s keys keyed = of_stage s.stage keyed
  where
    of_stage : (stage : sessions.Stage) → keys_of stage ≡ Some keys → is_keyed stage ≡ true
    of_stage sessions.Opening e = absurd (none-some keys e)
    of_stage sessions.Named e = absurd (none-some keys e)
    of_stage (sessions.Keyed k) e = refl

-- ---- opening

judged_case : {W : Type 0} (wrapped : W → Wrapping) (before : SessionState W) (slots : Slots SessionChannels) (p : Peer) (n : ℕ) (s : Session) (moment : Moment) (id : ℕ) (inner : List ℕ) (f : Freshness) →
    slice_get p.sessions n ≡ Some s →
    PeerStands wrapped (record before { slots = slots }) (record p { sessions = changed_at n (λ _. record s { received = received_judged s.received id moment f }) p.sessions }) →
    PeerStands wrapped (record before { slots = slots }) (table.opened_judged p n s moment id inner f).peer
judged_case wrapped before slots p n s moment id inner Fresh at stands =
    subst (λ (ss : List Session). PeerStands wrapped (record before { slots = slots }) (record p { sessions = ss }))
    (alike p.sessions n s (λ _. record s { received = recorded s.received id moment }) (λ t. record t { received = recorded t.received id moment }) at refl) stands
judged_case wrapped before slots p n s moment id inner Zero at stands =
    subst (λ (ss : List Session). PeerStands wrapped (record before { slots = slots }) (record p { sessions = ss })) (no_change p.sessions n s at) stands
judged_case wrapped before slots p n s moment id inner Old at stands =
    subst (λ (ss : List Session). PeerStands wrapped (record before { slots = slots }) (record p { sessions = ss })) (no_change p.sessions n s at) stands
judged_case wrapped before slots p n s moment id inner Seen at stands =
    subst (λ (ss : List Session). PeerStands wrapped (record before { slots = slots }) (record p { sessions = ss })) (no_change p.sessions n s at) stands
judged_case wrapped before slots p n s moment id inner Late at stands =
    subst (λ (ss : List Session). PeerStands wrapped (record before { slots = slots }) (record p { sessions = ss })) (no_change p.sessions n s at) stands

opened_case : {W : Type 0} (wrapped : W → Wrapping) (before : SessionState W) (slots : Slots SessionChannels) (p : Peer) (n : ℕ) (s : Session) (moment : Moment) (o : Option (ℕ × List ℕ)) →
    slice_get p.sessions n ≡ Some s →
    PeerStands wrapped (record before { slots = slots }) (record p { sessions = changed_at n (λ _. record s { received = received_after s.received moment o }) p.sessions }) →
    PeerStands wrapped (record before { slots = slots }) (table.opened_as p n s moment o).peer
opened_case wrapped before slots p n s moment None at stands =
    subst (λ (ss : List Session). PeerStands wrapped (record before { slots = slots }) (record p { sessions = ss })) (no_change p.sessions n s at) stands
opened_case wrapped before slots p n s moment (Some o) at stands =
    judged_case wrapped before slots p n s moment o.0 o.1 (freshness s.received o.0 moment) at stands

-- what opening in the session of a number leaves
pub opened_leaves : {W : Type 0} (wrapped : W → Wrapping) (before : SessionState W) (taken slots : Slots SessionChannels) (p : Peer) (n : ℕ) (s : Session) (keys : Keys)
    (datagram : List ℕ) (moment : Moment) (text : SessionChannels) →
    IsPeerOf wrapped before p → SlotsStand StandsFor taken p.sessions → slice_get p.sessions n ≡ Some s → PutBack taken slots n text →
    StandsFor text (after_opening before.role keys datagram moment s) →
    PeerStands wrapped (record before { slots = slots }) (opened_by p datagram n s moment (Some keys)).peer
unfolding after_opening
opened_leaves wrapped before taken slots p n s keys datagram moment text is stands at put text_stands =
    let kept : StandsFor text (record s { received = received_after s.received moment (opened_under (other p.role) keys (kid_of n) datagram) }) =
    subst (λ (kid : ℕ). StandsFor text (record s { received = received_after s.received moment (opened_under (other p.role) keys kid datagram) })) (sound_at p.sessions n s is.sound at).kid
    (subst (λ (role : Role). StandsFor text (record s { received = received_after s.received moment (opened_under (other role) keys s.link.kid datagram) })) is.role_is text_stands) in
    opened_case wrapped before slots p n s moment (opened_under (other p.role) keys (kid_of n) datagram) at
    (text_put wrapped before taken slots p n s (record s { received = received_after s.received moment (opened_under (other p.role) keys (kid_of n) datagram) }) text is stands at put kept
    (record { began = refl; is_open = refl; stage = refl; kid = refl; read = λ keyed read. read; spent = λ spent. spent }))

judged_answer : (p : Peer) (n : ℕ) (s : Session) (moment : Moment) (id : ℕ) (inner : List ℕ) (f : Freshness) → lines.opened_judged s.received id inner f ≡ (table.opened_judged p n s moment id inner f).answer
judged_answer p n s moment id inner Fresh = refl
judged_answer p n s moment id inner Zero = refl
judged_answer p n s moment id inner Old = refl
judged_answer p n s moment id inner Seen = refl
judged_answer p n s moment id inner Late = refl

opened_answer : (p : Peer) (n : ℕ) (s : Session) (moment : Moment) (o : Option (ℕ × List ℕ)) → lines.opened_as s.received moment o ≡ (table.opened_as p n s moment o).answer
opened_answer p n s moment None = refl
opened_answer p n s moment (Some o) = judged_answer p n s moment o.0 o.1 (freshness s.received o.0 moment)

-- and what is answered
pub opened_tells : {W : Type 0} (wrapped : W → Wrapping) (before : SessionState W) (p : Peer) (n : ℕ) (s : Session) (keys : Keys) (datagram : List ℕ) (moment : Moment) →
    IsPeerOf wrapped before p → slice_get p.sessions n ≡ Some s → opening_answer before.role keys datagram moment s ≡ (opened_by p datagram n s moment (Some keys)).answer
unfolding opening_answer
opened_tells wrapped before p n s keys datagram moment is at =
    ap (λ (role : Role). lines.opened_as s.received moment (opened_under (other role) keys s.link.kid datagram)) is.role_is
    ∙ ap (λ (kid : ℕ). lines.opened_as s.received moment (opened_under (other p.role) keys kid datagram)) (sound_at p.sessions n s is.sound at).kid
    ∙ opened_answer p n s moment (opened_under (other p.role) keys (kid_of n) datagram)
