-- Keys that are due are renewed.
use Rattle.std.proofs.Common.{◌≡◌, ◌≢◌, ◌+◌, ◌*◌, ◌^◌, ◌==◌, ◌&&◌, ℕ, zero, suc, not, Bool, true, false, List, [], ◌∷◌, ◌++◌, length, Option, Some, None, refl, sym, ap, ◌∙◌, subst, length-append, nat_le, arith}
use Rattle.std.specs.Prelude.{slice_get}
use Rattle.std.proofs.lemmas.Bool.{and_from, eqb-true, false≢true, le-leb, or_left, or_right}
use Rattle.vpn_base.specs.declared.names.Timers.{Timers}
use Rattle.control_link.specs.Calls as link
use Rattle.peer_table.specs.declared.outcomes.Turn.{Turn}
use Rattle.vpn_base.specs.declared.names.Cause.TheVariants.{PingRestart}
use Rattle.peer_table.specs.declared.outcomes.Turn.TheVariants.{Going, Over}
use Rattle.peer_table.specs.ControlPackets.{is_finished_as, newest_is_finished, next_session, with_next}
use Rattle.peer_table.specs.Exchange.{session_closed}
use Rattle.peer_table.specs.KeySessions.{Session, began_before, closed, has_keys, has_passed, newest, newest_session}
use Rattle.peer_table.specs.Peer.{Opens, Outcome, Peer, answered, ready_sent_in, remote_of}
use Rattle.peer_table.specs.Places.{changed_at}
use Rattle.peer_table.specs.Time.{Ticking, gone_by, is_late, is_worn, renewed, renews, resent, resent_in, retired, staying, ticked, ticked_idle, ticked_late}
use Rattle.control_laws.specs.Renewals.{AreDue, AreOld, AreWorn, IsRenewed}
use Rattle.control_laws.proofs.Actions.{none_some, some_same}
use Rattle.control_laws.proofs.Lines.{get_changed, get_last}

-- ---- whether they are due

finished_as : (established : Bool) (n : ℕ) (s : Session) → established ≡ true → has_keys s ≡ true → is_finished_as established n (Some s) ≡ true
finished_as established zero s is keyed = and_from (has_keys s) established keyed is
finished_as established (suc n) s is keyed = keyed

finished : (established : Bool) (all : List Session) (s : Session) → established ≡ true → newest_session all ≡ Some s → has_keys s ≡ true →
    newest_is_finished established all ≡ true
unfolding newest_is_finished
finished established all s is there keyed =
    ap (λ (o : Option Session). is_finished_as established (newest all) o) there ∙ finished_as established (newest all) s is keyed

not_zero : (n : ℕ) → n ≢ 0 → not (n == 0) ≡ true
not_zero n is = go (n == 0) refl
  where
    go : (b : Bool) → (n == 0) ≡ b → not (n == 0) ≡ true
    go true e = absurd (is (eqb-true n 0 e))
    go false e = ap not e

worn : (timers : Timers) (at : ℕ) (s : Session) → has_keys s ≡ true → AreDue timers at s → is_worn timers at (Some s) ≡ true
worn timers at s keyed (AreOld lasts passed) =
    or_left (not (timers.reneg == 0) && has_passed timers.reneg s.began at) (has_keys s && nat_le (255 * 2 ^ 24) s.sealed)
    (and_from (not (timers.reneg == 0)) (has_passed timers.reneg s.began at) (not_zero timers.reneg lasts) (le-leb (s.began + 1000 * timers.reneg) at passed))
worn timers at s keyed (AreWorn many) =
    or_right (not (timers.reneg == 0) && has_passed timers.reneg s.began at) (has_keys s && nat_le (255 * 2 ^ 24) s.sealed)
    (and_from (has_keys s) (nat_le (255 * 2 ^ 24) s.sealed) keyed (le-leb (255 * 2 ^ 24) s.sealed many))

-- ---- what comes before leaves the number of sessions

changed_length : (n : ℕ) (f : Session → Session) (all : List Session) → length (changed_at n f all) ≡ length all
changed_length n f [] = refl
changed_length zero f (s ∷ all) = refl
changed_length (suc n) f (s ∷ all) = ap suc (changed_length n f all)

resent_in_length : (n at : ℕ) (c : Outcome Turn) (s : Option Session) → length (resent_in n at c s).peer.sessions ≡ length c.peer.sessions
resent_in_length n at c None = refl
resent_in_length n at c (Some s) =
    changed_length n (λ x. record x { link = (link.ticked s.link c.peer.envelope (remote_of c.peer) at).link }) c.peer.sessions

resent_length : (at : ℕ) (numbers : List ℕ) (c : Outcome Turn) → length (resent at numbers c).peer.sessions ≡ length c.peer.sessions
resent_length at [] c = refl
resent_length at (n ∷ numbers) c =
    resent_length at numbers (resent_in n at c (slice_get c.peer.sessions n)) ∙ resent_in_length n at c (slice_get c.peer.sessions n)

closed_length : (n : Option ℕ) (c : Outcome Turn) → length (session_closed n c).peer.sessions ≡ length c.peer.sessions
closed_length None c = refl
closed_length (Some n) c = changed_length n closed c.peer.sessions

-- ---- the next session begins

ready_renewed : (p : Peer) (t : Ticking) (c : Outcome Turn) (s : Option Session) → length c.peer.sessions ≡ length p.sessions →
    slice_get (with_next t.next_conn t.at c.peer).sessions (length c.peer.sessions) ≡ s → Some (next_session t.next_conn t.at c.peer) ≡ s →
    IsRenewed p t (ready_sent_in (length c.peer.sessions) t.at (record c { peer = with_next t.next_conn t.at c.peer; doings = c.doings ++ Opens t.next_conn ∷ [] }) s)
ready_renewed p t c None same there is = absurd (none_some (sym is))
ready_renewed p t c (Some s) same there is =
    let q = with_next t.next_conn t.at c.peer in
    let o = link.with_ready s.link q.envelope [] (remote_of q) t.at in
    let next : next_session t.next_conn t.at c.peer ≡ s = some_same is in
    record {
      session = record s { link = o.link };
      there = subst (λ (n : ℕ). slice_get (changed_at (length c.peer.sessions) (λ x. record x { link = o.link }) q.sessions) n ≡ Some (record s { link = o.link })) same
          (get_changed (length c.peer.sessions) (λ x. record x { link = o.link }) q.sessions s there);
      one_more = changed_length (length c.peer.sessions) (λ x. record x { link = o.link }) q.sessions
          ∙ (let e = length-append c.peer.sessions (next_session t.next_conn t.at c.peer ∷ []) in omega (arith, e, same));
      began = sym (ap (λ (x : Session). x.began) next);
      is_open = sym (ap (λ (x : Session). x.is_open) next);
      conn = sym (ap (λ (x : Session). x.link.conn) next);
    }

next_renewed : (p : Peer) (t : Ticking) (c : Outcome Turn) (b : Bool) → b ≡ true → length c.peer.sessions ≡ length p.sessions → IsRenewed p t (renewed t b c)
next_renewed p t c true is same =
    ready_renewed p t c (slice_get (with_next t.next_conn t.at c.peer).sessions (length c.peer.sessions)) same refl
    (sym (get_last c.peer.sessions (next_session t.next_conn t.at c.peer)))
next_renewed p t c false is same = absurd (false≢true is)

gone_renewed : (p : Peer) (t : Ticking) (n : Option ℕ) → renews p t ≡ true → IsRenewed p t (gone_by p t n)
gone_renewed p t n is =
    let c = resent t.at (staying p n) (answered p Going) in
    next_renewed p t (session_closed n c) (renews p t) is (closed_length n c ∙ resent_length t.at (staying p n) (answered p Going))

idle_renewed : (p : Peer) (t : Ticking) (b : Bool) → b ≡ false → renews p t ≡ true → IsRenewed p t (ticked_idle p t b)
idle_renewed p t true is due = absurd (false≢true (sym is))
idle_renewed p t false is due = gone_renewed p t (retired p t.at) due

late_renewed : (p : Peer) (t : Ticking) (b : Bool) → b ≡ false → t.idle ≡ false → renews p t ≡ true → IsRenewed p t (ticked_late p t b)
late_renewed p t true is idle due = absurd (false≢true (sym is))
late_renewed p t false is idle due = idle_renewed p t t.idle idle due

pub keys_renewed : (p : Peer) (t : Ticking) (s : Session) → t.established ≡ true → t.idle ≡ false → newest_session p.sessions ≡ Some s → has_keys s ≡ true →
    AreDue p.timers t.at s → IsRenewed p t (ticked t p)
unfolding ticked
keys_renewed p t s established idle there keyed due =
    let done = finished t.established p.sessions s established there keyed in
    let old = ap (λ (o : Option Session). is_worn p.timers t.at o) there ∙ worn p.timers t.at s keyed due in
    late_renewed p t (is_late p t)
    (ap (λ (b : Bool). not b && began_before p.timers.hand t.at (newest_session p.sessions)) done) idle
    (and_from (newest_is_finished t.established p.sessions && t.established) (is_worn p.timers t.at (newest_session p.sessions))
    (and_from (newest_is_finished t.established p.sessions) t.established done established) old)

over_idle : (p : Peer) (t : Ticking) (b : Bool) → b ≡ true → (ticked_idle p t b).answer ≡ Over PingRestart
over_idle p t true is = refl
over_idle p t false is = absurd (false≢true is)

late_over : (p : Peer) (t : Ticking) (b : Bool) → b ≡ false → t.idle ≡ true → (ticked_late p t b).answer ≡ Over PingRestart
late_over p t true is idle = absurd (false≢true (sym is))
late_over p t false is idle = over_idle p t t.idle idle

-- silence for too long ends it first
pub idle_ends : (p : Peer) (t : Ticking) (s : Session) → t.established ≡ true → t.idle ≡ true → newest_session p.sessions ≡ Some s → has_keys s ≡ true →
    (ticked t p).answer ≡ Over PingRestart
unfolding ticked
idle_ends p t s established idle there keyed =
    late_over p t (is_late p t)
    (ap (λ (b : Bool). not b && began_before p.timers.hand t.at (newest_session p.sessions)) (finished t.established p.sessions s established there keyed)) idle
