-- A control packet begins the next key session: what the client's session stands for then, and what is answered.
use Rattle.std.proofs.Common.{◌≡◌, ◌++◌, ℕ, Bool, true, false, List, [], ◌∷◌, length, Option, Some, Ok, refl, ap, sym, subst, ◌∙◌}
use Rattle.std.specs.Prelude.{is_some}
use Rattle.std.specs.Option.{option_or}
use Rattle.std.proofs.lemmas.Bool.{false≢true}
use Rattle.std.proofs.lemmas.List.{append_assoc}
use Rattle.vpn_base.specs.declared.address.Addr.{Addr}
use Rattle.vpn_base.specs.declared.names.Conn.{Conn}
use Rattle.vpn_base.specs.declared.names.Role.{Role}
use Rattle.vpn_base.specs.declared.names.Sid.{Sid}
use Rattle.vpn_base.specs.declared.names.Timers.{Timers}
use Rattle.vpn_links.specs.Actions.{Action, Contents, Datagram, EngineOpen, Holds}
use Rattle.opcode_codec.specs.declared.opcodes.Opcode.TheVariants.{SoftReset}
use Rattle.tls_crypt.specs.Packets.{Wrapping}
use Rattle.control_link.specs.declared.envelope.Envelope.{Envelope}
use Rattle.control_link.specs.declared.link.LinkEnd.{LinkEnd}
use Rattle.control_link.specs.Calls.{datagrams_to}
use Rattle.control_link.specs.Envelope.{EnvelopeStands}
use Rattle.key_sessions.specs.declared.slots.Slots.{Slots}
use Rattle.key_sessions.specs.Sessions.{BeginsAt}
use Rattle.key_sessions.specs.Slots.{IsWhole, SlotsStand}
use Rattle.peer_lines.specs.declared.blank.SessionBlank.{SessionBlank}
use Rattle.peer_lines.specs.declared.channels.SessionChannels.{SessionChannels}
use Rattle.peer_lines.specs.Calls.{GoesOn as LinkGoesOn, Leaves as LineLeaves, packet_taken}
use Rattle.peer_lines.specs.Standing.{BlankFor, StandsFor}
use Rattle.peer_table.specs.declared.outcomes.Turn.{Turn}
use Rattle.peer_table.specs.ControlPackets.{Incoming, begun_by, next_session, sender, wrap_accepted}
use Rattle.peer_table.specs.KeySessions.{Session, session_begun}
use Rattle.peer_table.specs.Outboxes.{Leaves, actions_of}
use Rattle.peer_table.specs.Peer.{Peer, turn_of}
use Rattle.peer_table.specs.Places.{changed_at}
use Rattle.session_state.specs.declared.session.SessionState.{SessionState}
use Rattle.session_state.specs.Standing.{BlankIsFor, GoesOn, IsPeerOf, PeerStands, count}
use Rattle.session_state.proofs.Keeping.{goes_if, goes_more, goes_of, sound_more}
use Rattle.session_control.proofs.Taking.{all_stand, not_told}
use Rattle.session_control.proofs.Wraps.{packet_own}

-- ---- the next session

-- the one that the code begins
pub next_is : (p : Peer) (timers : Timers) (conn : Conn) (number now : ℕ) → timers ≡ p.timers → number ≡ length p.sessions → session_begun timers conn number SoftReset now ≡ next_session conn now p
next_is p timers conn number now same at =
    ap (λ (t : Timers). session_begun t conn number SoftReset now) same ∙ ap (λ (n : ℕ). session_begun p.timers conn n SoftReset now) at

pub begins : (p : Peer) (i : Incoming) → BeginsAt i.moment.0 (packet_taken (next_session i.next_conn i.moment.0 p) p.envelope i.form (sender i) i.moment.0).session
unfolding packet_taken
begins p i = record { began = refl; is_open = refl; stage = refl }

changed_last : (ss : List Session) (s : Session) (f : Session → Session) → changed_at (length ss) f (ss ++ s ∷ []) ≡ ss ++ f s ∷ []
changed_last [] s f = refl
changed_last (x ∷ ss) s f = ap (λ (xs : List Session). x ∷ xs) (changed_last ss s f)

-- what a packet leaves that began a session
pub begun_left : {W : Type 0} (wrapped : W → Wrapping) (before : SessionState W) (middle env : Envelope W) (slots : Slots SessionChannels) (remote : Option Sid) (over : Bool) (end : Option LinkEnd)
    (text : SessionChannels) (was opened is_now : Contents) (to : Addr) (p : Peer) (i : Incoming) →
    IsPeerOf wrapped before p → before.is_over ≡ false →
    Holds opened (was.effects ++ EngineOpen i.next_conn before.role ∷ []) was.staged →
    LinkGoesOn (next_session i.next_conn i.moment.0 p) (packet_taken (next_session i.next_conn i.moment.0 p) p.envelope i.form (sender i) i.moment.0) →
    LineLeaves wrapped text middle opened is_now to (packet_taken (next_session i.next_conn i.moment.0 p) p.envelope i.form (sender i) i.moment.0) →
    end ≡ (packet_taken (next_session i.next_conn i.moment.0 p) p.envelope i.form (sender i) i.moment.0).end → over ≡ is_some end →
    SlotsStand StandsFor slots (p.sessions ++ (packet_taken (next_session i.next_conn i.moment.0 p) p.envelope i.form (sender i) i.moment.0).session ∷ []) → IsWhole slots →
    EnvelopeStands wrapped env (wrap_accepted i (packet_taken (next_session i.next_conn i.moment.0 p) p.envelope i.form (sender i) i.moment.0).envelope) →
    remote ≡ option_or before.remote (Some (sender i)) →
    Leaves (PeerStands wrapped) (record before { envelope = env; slots = slots; remote = remote; is_over = over }) was is_now to (begun_by p i true)
unfolding packet_taken
begun_left wrapped before middle env slots remote over end text was opened is_now to p i is not_over first goes left told is_over stands whole envelope same =
    let s = next_session i.next_conn i.moment.0 p in
    let o = packet_taken s p.envelope i.form (sender i) i.moment.0 in
    record {
      peer = subst (λ (ss : List Session). PeerStands wrapped (record before { envelope = env; slots = slots; remote = remote; is_over = over })
          (record p { envelope = wrap_accepted i o.envelope; remote = option_or p.remote (Some (sender i)); sessions = ss }))
          (sym (changed_last p.sessions s (λ t. record t { link = o.session.link })))
          (all_stand wrapped before env slots remote (option_or p.remote (Some (sender i))) over p (wrap_accepted i o.envelope) (p.sessions ++ o.session ∷ [])
          is envelope (packet_own s p.envelope i.form (sender i) i.moment.0)
          (same ∙ ap (λ (r : Option Sid). option_or r (Some (sender i))) is.remote_is)
          stands whole
          (sound_more p.sessions o.session is.sound (record { kid = goes.kid; read = λ keyed. absurd (false≢true keyed) }))
          (goes_if over (p.sessions ++ o.session ∷ [])
          (λ none. goes_more p.sessions o.session (goes_of before.is_over p.sessions not_over is.each_goes_on) (goes.spent (not_told over end o.end is_over told none)))));
      outbox = (
        (left.outbox p.role).0
            ∙ ap (λ (es : List Action). es ++ actions_of p.role o.doings) first.0
            ∙ append_assoc was.effects (EngineOpen i.next_conn before.role ∷ []) (actions_of p.role o.doings)
            ∙ ap (λ (r : Role). was.effects ++ EngineOpen i.next_conn r ∷ actions_of p.role o.doings) is.role_is,
        (left.outbox p.role).1 ∙ ap (λ (ds : List Datagram). ds ++ datagrams_to to o.datagrams) first.1,
      );
    }

-- what is answered
pub begun_answer : (p : Peer) (i : Incoming) (end : Option LinkEnd) (turn : Turn) → end ≡ (packet_taken (next_session i.next_conn i.moment.0 p) p.envelope i.form (sender i) i.moment.0).end →
    turn ≡ turn_of end → Ok turn ≡ (begun_by p i true).answer
unfolding packet_taken
begun_answer p i end turn told is = ap Ok (is ∙ ap turn_of told)

-- ---- its memory

pub blank_stands : {W : Type 0} (wrapped : W → Wrapping) (before : SessionState W) (blank : Option SessionBlank) (p : Peer) → PeerStands wrapped before p → PeerStands wrapped (record before { blank = blank }) p
unfolding PeerStands
blank_stands wrapped before blank p is = record {
  role_is = is.role_is;
  timers_are = is.timers_are;
  own_is = is.own_is;
  envelope_stands = is.envelope_stands;
  remote_is = is.remote_is;
  name_is = is.name_is;
  asks_is = is.asks_is;
  slots_stand = is.slots_stand;
  whole = is.whole;
  sound = is.sound;
  each_goes_on = is.each_goes_on;
}

pub goes_with_blank : {W : Type 0} (before : SessionState W) (blank : Option SessionBlank) → GoesOn before → BlankIsFor blank before.timers → GoesOn (record before { blank = blank })
unfolding GoesOn
goes_with_blank before blank goes is = record {
  not_over = goes.not_over;
  whole = goes.whole;
  some_ids = goes.some_ids;
  some_timeout = goes.some_timeout;
  short_timeout = goes.short_timeout;
  blank_for = is;
}

pub blank_count : {W : Type 0} (before : SessionState W) (blank : Option SessionBlank) → count (record before { blank = blank }) ≡ count before
unfolding count
blank_count before blank = refl

-- the memory that is there is for its timers
pub blank_of : {W : Type 0} (before : SessionState W) (blank : SessionBlank) → GoesOn before → before.blank ≡ Some blank → BlankFor blank before.timers
unfolding GoesOn
blank_of before blank goes is = subst (λ (o : Option SessionBlank). BlankIsFor o before.timers) is goes.blank_for
