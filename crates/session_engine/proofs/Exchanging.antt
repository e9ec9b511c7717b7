-- What the client's session stands for after a key exchange, and what the call comes to.
use Rattle.std.proofs.Common.{◌≡◌, ℕ, zero, suc, ◌+◌, Bool, true, false, List, [], ◌∷◌, ◌++◌, Option, Some, None, refl, ap, sym, subst, ◌∙◌}
use Rattle.std.specs.Prelude.{option_map}
use Rattle.std.proofs.lemmas.List.{append-nil}
use Rattle.std.proofs.lemmas.Option.{none-some}
use Rattle.vpn_base.specs.declared.address.Addr.{Addr}
use Rattle.vpn_base.specs.declared.names.Cipher.{Cipher}
use Rattle.vpn_base.specs.declared.names.Draw.{Draw}
use Rattle.vpn_base.specs.declared.names.Policy.{Policy}
use Rattle.vpn_links.specs.Actions.{Contents, Holds}
use Rattle.tls_crypt.specs.Packets.{Wrapping}
use Rattle.control_link.specs.Calls.{datagrams_to}
use Rattle.control_link.specs.Links.{Link}
use Rattle.key_method2.specs.declared.message.Km2.{Km2}
use Rattle.key_method2.specs.declared.message.Source.{Source}
use Rattle.key_method2.specs.Messages.{server_message}
use Rattle.peer_table.specs.EngineAnswers.{prepared_message}
use Rattle.peer_table.specs.Exchange.{asks_with, chosen, closing, exchanged, exchanged_from, exchanged_with, is_open_keyed, oldest_of, server_source, session_closed, writing}
use Rattle.peer_table.specs.KeySessions.{Keys, Session, closed, newest, newest_session, session_at}
use Rattle.peer_table.specs.Outboxes.{Leaves, actions_of}
use Rattle.peer_table.specs.Peer.{Doing, Outcome, Peer, Writes, answered, remote_of}
use Rattle.peer_table.specs.Places.{changed_at, places_from}
use Rattle.peer_table.specs.declared.outcomes.Turn.{Turn}
use Rattle.peer_table.specs.declared.outcomes.Turn.TheVariants.{Going}
use Rattle.key_sessions.specs.Changes.{closed_in, exchanged_in, newest_keyed, one_closed}
use Rattle.key_sessions.specs.Sessions.{keys_made}
use Rattle.key_sessions.specs.declared.slots.Slots.{Slots}
use Rattle.key_sessions.specs.Slots.{IsWhole, SlotsStand, newest_number}
use Rattle.peer_lines.specs.Calls.{with_read}
use Rattle.peer_lines.specs.Standing.{StandsFor}
use Rattle.peer_lines.specs.declared.channels.SessionChannels.{SessionChannels}
use Rattle.session_state.specs.declared.session.SessionState.{SessionState}
use Rattle.session_engine.specs.declared.key_exchange.Prepared.{Prepared}
use Rattle.session_engine.specs.internal.Exchanges.{prepared_as}
use Rattle.session_state.specs.Standing.{EachGoesOn, EachGoesOnUnless, EachIsSound, GoesOn, IsPeerOf, IsSound, PeerStands, count}
use Rattle.session_state.proofs.Ends.{only_done, then_done}
use Rattle.session_engine.proofs.Found.{PreparedAt}
use Rattle.session_engine.proofs.Exchanged.{exchanged_as, same_closing, same_sessions}

-- ---- what holds of every session

sound_kept : (k n : ℕ) (f : Session → Session) (ss : List Session) → ((m : ℕ) (s : Session) → IsSound m s → IsSound m (f s)) → EachIsSound k ss → EachIsSound k (changed_at n f ss)
sound_kept k n f [] kept each = each
sound_kept k zero f (s ∷ ss) kept each = (kept k s each.0, each.1)
sound_kept k (suc n) f (s ∷ ss) kept each = (each.0, sound_kept (suc k) n f ss kept each.1)

sound_closed : (o : Option ℕ) (ss : List Session) → EachIsSound 0 ss → EachIsSound 0 (closed_in o ss)
sound_closed None ss each = each
sound_closed (Some m) ss each = sound_kept 0 m closed ss (λ k s is. record { kid = is.kid; read = is.read }) each

goes_kept : (n : ℕ) (f : Session → Session) (ss : List Session) → ((s : Session) → (f s).link ≡ s.link) → EachGoesOn ss → EachGoesOn (changed_at n f ss)
goes_kept n f [] same each = each
goes_kept zero f (s ∷ ss) same each = (ap (λ (l : Link). l.spent) (same s) ∙ each.0, each.1)
goes_kept (suc n) f (s ∷ ss) same each = (each.0, goes_kept n f ss same each.1)

goes_unless : (over : Bool) (n : ℕ) (f : Session → Session) (ss : List Session) → ((s : Session) → (f s).link ≡ s.link) →
    EachGoesOnUnless over ss → EachGoesOnUnless over (changed_at n f ss)
goes_unless true n f ss same each = tt
goes_unless false n f ss same each = goes_kept n f ss same each

goes_closed : (over : Bool) (o : Option ℕ) (ss : List Session) → EachGoesOnUnless over ss → EachGoesOnUnless over (closed_in o ss)
goes_closed over None ss each = each
goes_closed over (Some m) ss each = goes_unless over m closed ss (λ s. refl) each

-- ---- the whole

-- a session is closed last, if there is one to close
closed_last : {S : Type 0} (means : S → Peer → Type 0) (session : S) (before after : Contents) (to : Addr) (o : Option ℕ) (x : Outcome Turn) →
    means session (record x.peer { sessions = closed_in o x.peer.sessions }) →
    Holds after (before.effects ++ actions_of x.peer.role (x.doings ++ closing (session_at x.peer.sessions o))) (before.staged ++ datagrams_to to x.datagrams) →
    Leaves means session before after to (session_closed o x)
closed_last means session before after to None x stands holds = record {
  peer = stands;
  outbox = (holds.0 ∙ ap (λ (ds : List Doing). before.effects ++ actions_of x.peer.role ds) (append-nil x.doings), holds.1);
}
closed_last means session before after to (Some m) x stands holds = record { peer = stands; outbox = holds }

pub exchange_leaves : {W : Type 0} (wrapped : W → Wrapping) (before : SessionState W) (slots : Slots SessionChannels) (asks : Bool) (c0 c1 c2 c3 : Contents) (to : Addr) (p : Peer)
    (message : Km2) (used peer_id : ℕ) (cipher : Cipher) (own : Source) (keys : Keys) →
    asks ≡ asks_with (newest p.sessions) message.info p → keys ≡ keys_made message.source own (remote_of p) p.envelope.own cipher peer_id →
    IsPeerOf wrapped before p → (at : PreparedAt p used) →
    SlotsStand StandsFor slots (changed_at (newest p.sessions) (with_read used) (exchanged_in keys p.sessions)) → IsWhole slots →
    Holds c1 c0.effects c0.staged →
    Holds c2 (c1.effects ++ actions_of p.role (Writes at.session.link.conn (server_message own) ∷ [])) c1.staged →
    Holds c3 (c2.effects ++ actions_of p.role (closing (one_closed (newest_keyed keys p.sessions)))) c2.staged →
    Leaves (PeerStands wrapped) (record before { slots = slots; asks_push = asks }) c0 c3 to (exchanged_with peer_id p own message used (Some cipher))
unfolding PeerStands
exchange_leaves wrapped before slots asks c0 c1 c2 c3 to p message used peer_id cipher own keys asking made is at stands whole first second third =
    let ss = p.sessions in
    let keyed = λ (k : Keys). changed_at (newest ss) (exchanged_as k used) ss in
    let oldest = λ (k : Keys). oldest_of (places_from is_open_keyed 0 (keyed k)) in
    let done : List Doing = Writes at.session.link.conn (server_message own) ∷ [] in
    let written : done ≡ writing (server_message own) (newest_session ss) = ap (writing (server_message own)) (sym at.here) in
    let holds = then_done p.role c0.effects done (closing (one_closed (newest_keyed keys ss))) c2 c3 c0.staged (only_done p.role done c0 c1 c2 first second) third in
    let o : Outcome Turn = record {
      peer = record p { sessions = keyed (keys_made message.source own (remote_of p) p.envelope.own cipher peer_id); asks_push = asks_with (newest ss) message.info p };
      doings = writing (server_message own) (newest_session ss);
      datagrams = [];
      answer = Going;
    } in
    closed_last (PeerStands wrapped) (record before { slots = slots; asks_push = asks }) c0 c3 to
    (oldest (keys_made message.source own (remote_of p) p.envelope.own cipher peer_id)) o
    (record {
      role_is = is.role_is;
      timers_are = is.timers_are;
      own_is = is.own_is;
      envelope_stands = is.envelope_stands;
      remote_is = is.remote_is;
      name_is = is.name_is;
      asks_is = asking;
      slots_stand = subst (SlotsStand StandsFor slots) (same_sessions used keys ss ∙ ap (λ (k : Keys). closed_in (oldest k) (keyed k)) made) stands;
      whole = whole;
      sound = sound_closed (oldest (keys_made message.source own (remote_of p) p.envelope.own cipher peer_id)) _
          (sound_kept 0 (newest ss) (exchanged_as (keys_made message.source own (remote_of p) p.envelope.own cipher peer_id) used) ss
          (λ m s sound. record { kid = sound.kid; read = λ has. at.some }) is.sound);
      each_goes_on = goes_closed before.is_over (oldest (keys_made message.source own (remote_of p) p.envelope.own cipher peer_id)) _
          (goes_unless before.is_over (newest ss) (exchanged_as (keys_made message.source own (remote_of p) p.envelope.own cipher peer_id) used) ss (λ s. refl) is.each_goes_on);
    }) (
      holds.0 ∙ ap (λ (ds : List Doing). c0.effects ++ actions_of p.role (ds ++ closing (one_closed (newest_keyed keys ss)))) written
          ∙ ap (λ (ds : List Doing). c0.effects ++ actions_of p.role (writing (server_message own) (newest_session ss) ++ ds))
          (same_closing used keys ss ∙ ap (λ (k : Keys). closing (session_at (keyed k) (oldest k))) made),
      holds.1 ∙ sym (append-nil c0.staged),
    )

pub exchange_goes_on : {W : Type 0} (before : SessionState W) (slots : Slots SessionChannels) (asks : Bool) → GoesOn before → IsWhole slots →
    GoesOn (record before { slots = slots; asks_push = asks })
unfolding GoesOn
exchange_goes_on before slots asks goes whole = record {
  not_over = goes.not_over;
  whole = whole;
  some_ids = goes.some_ids;
  some_timeout = goes.some_timeout;
  short_timeout = goes.short_timeout;
  blank_for = goes.blank_for;
}

pub exchange_count : {W : Type 0} (before : SessionState W) (slots : Slots SessionChannels) (asks : Bool) → newest_number slots ≡ newest_number before.slots →
    count (record before { slots = slots; asks_push = asks }) ≡ count before
unfolding count
exchange_count before slots asks same = ap (λ (n : ℕ). n + 1) same

-- ---- what the call comes to

none_by : (policy : Policy) (peer_id : ℕ) (p : Peer) (own : Source) (o : Option (Km2 × ℕ)) → None ≡ option_map (prepared_as policy p) o →
    answered p Going ≡ exchanged_from policy peer_id p own o
none_by policy peer_id p own None is = refl
none_by policy peer_id p own (Some m) is = absurd (none-some (prepared_as policy p m) is)

pub none_exchanged : (policy : Policy) (peer_id : ℕ) (draw : Draw) (p : Peer) → None ≡ option_map (prepared_as policy p) (prepared_message p) →
    answered p Going ≡ exchanged policy peer_id draw p
unfolding exchanged
none_exchanged policy peer_id draw p is = none_by policy peer_id p (server_source draw) (prepared_message p) is

-- the message of which this was taken
pub record TakenOf (policy : Policy) (p : Peer) (prepared : Prepared) : Type 0 where
  pub message : Km2 × ℕ
  pub there : prepared_message p ≡ Some message
  pub same : prepared ≡ prepared_as policy p message

taken_by : (policy : Policy) (p : Peer) (prepared : Prepared) (o : Option (Km2 × ℕ)) → prepared_message p ≡ o → Some prepared ≡ option_map (prepared_as policy p) o → TakenOf policy p prepared
taken_by policy p prepared None there is = absurd (none-some prepared (sym is))
taken_by policy p prepared (Some m) there is = record { message = m; there = there; same = cc is }

pub taken_of : (policy : Policy) (p : Peer) (prepared : Prepared) → Some prepared ≡ option_map (prepared_as policy p) (prepared_message p) → TakenOf policy p prepared
taken_of policy p prepared is = taken_by policy p prepared (prepared_message p) refl is

pub exchanged_is : (policy : Policy) (peer_id : ℕ) (draw : Draw) (p : Peer) (prepared : Prepared) (cipher : Option Cipher) → (taken : TakenOf policy p prepared) → prepared.cipher ≡ cipher →
    exchanged_with peer_id p (server_source draw) taken.message.0 taken.message.1 cipher ≡ exchanged policy peer_id draw p
unfolding exchanged
exchanged_is policy peer_id draw p prepared cipher taken is =
    let chosen_is : cipher ≡ chosen policy taken.message.0.info = sym is ∙ ap (λ (r : Prepared). r.cipher) taken.same in
    ap (exchanged_with peer_id p (server_source draw) taken.message.0 taken.message.1) chosen_is
    ∙ ap (exchanged_from policy peer_id p (server_source draw)) (sym taken.there)

answer_kept : (o : Option ℕ) (x : Outcome Turn) → x.answer ≡ (session_closed o x).answer
answer_kept None x = refl
answer_kept (Some m) x = refl

pub still_going : (peer_id : ℕ) (p : Peer) (own : Source) (message : Km2) (used : ℕ) (cipher : Cipher) → Going ≡ (exchanged_with peer_id p own message used (Some cipher)).answer
still_going peer_id p own message used cipher = answer_kept _ _
