use Rattle.std.proofs.Common.{suc, ◌-◌, get_or, length, take, drop, sym, subst}
use Rattle.std.specs.Prelude.{not, slice_get}
use Rattle.std.specs.List.{filter}
use Rattle.peer_table.specs.Time.{is_number, resent}
use Rattle.peer_session.specs.internal.Ticking.{AreOpenYet, HasDone, resent_unless}
use Rattle.peer_session.proofs.Ticking.{first_and_rest, one_step, open_at, others_open}
use Rattle.peer_session.proofs.tick.+tick_each.Goals as goal

pub returns-in-len1-up-clause-done : goal.returns-in-len1-up-clause-done
returns-in-len1-up-clause-done g t c = λ before o least done are.
    let now = c.args.now.0 in
    let is_retired = is_number c.args.retired in
    let n = get_or c.args.numbers.now 0 0 in
    let rest = take (length c.args.numbers.now - 1) (drop 1 c.args.numbers.now) in
    let split = first_and_rest c.args.numbers.now c.in-len1-up.len_at_least in
    let due = subst (λ ns. AreOpenYet least ns o.peer.sessions) split are in
    let there = open_at (slice_get o.peer.sessions n) due.1 in
    let one = subst (λ b. HasDone g.W.Wrap.wrapped c.tick_unless-turn.new.session c.tick_unless-turn.result before c.tick_unless-turn.new.out c.args.to (resent_unless b n now o)) c.is_number.ensures
    (c.tick_unless-turn.ensures.done before o there.session done there.here there.is_open there.goes) in
    let all = c.tick_each.ensures.done before (resent_unless (is_retired n) n now o) (suc n) one (others_open (is_retired n) n now rest o due.2) in
    subst (λ ns. HasDone g.W.Wrap.wrapped c.tick_each.new.session c.tick_each.result before c.tick_each.new.out c.args.to (resent now (filter (λ m. not (is_retired m)) ns) o)) (sym split)
    (subst (HasDone g.W.Wrap.wrapped c.tick_each.new.session c.tick_each.result before c.tick_each.new.out c.args.to) (one_step is_retired n now (filter (λ m. not (is_retired m)) rest) o) all)
