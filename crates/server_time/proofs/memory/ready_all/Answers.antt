use Rattle.std.proofs.Common.{◌≡◌, ◌+◌, ◌-◌, ◌^◌, ◌<◌, ℕ, drop, length, subst, arith}
use Rattle.client_table.specs.Tables.{entries_of}
use Rattle.server_time.specs.Memory.{AreReady}
use Rattle.server_time.proofs.Ready.{all_go_on, one_more_ready, stays_on}
use Rattle.server_time.proofs.memory.ready_all.Goals as goal

pub ready_at-requires-clause-sessions : goal.ready_at-requires-clause-sessions
ready_at-requires-clause-sessions g c =
    all_go_on g.S.ClientSession.stands g.S.ClientSession.goes_on g.S.ClientSession.count g.S.ClientSession.since c.args.core.now c.loop-left.core
    c.loop-left.invariant.stays (2 ^ 63) c.requires.sessions

pub returns-in_err-more_effects-clause-stays : goal.returns-in_err-more_effects-clause-stays
returns-in_err-more_effects-clause-stays g c =
    stays_on g.S.ClientSession.stands g.S.ClientSession.goes_on g.S.ClientSession.count g.S.ClientSession.since c.args.core.now c.loop-left.core c.ready_at.new.core
    c.loop-left.invariant.stays c.ready_at.ensures.stays

pub returns-in_err-effects-clause-stays : goal.returns-in_err-effects-clause-stays
returns-in_err-effects-clause-stays g c =
    stays_on g.S.ClientSession.stands g.S.ClientSession.goes_on g.S.ClientSession.count g.S.ClientSession.since c.args.core.now c.loop-left.core c.ready_at.new.core
    c.loop-left.invariant.stays c.ready_at.ensures.stays

pub returns-in_err-bytes-clause-stays : goal.returns-in_err-bytes-clause-stays
returns-in_err-bytes-clause-stays g c =
    stays_on g.S.ClientSession.stands g.S.ClientSession.goes_on g.S.ClientSession.count g.S.ClientSession.since c.args.core.now c.loop-left.core c.ready_at.new.core
    c.loop-left.invariant.stays c.ready_at.ensures.stays

pub loop-left-preserved : goal.loop-left-preserved
loop-left-preserved g c =
    let left = c.loop-left.left in
    let was = entries_of c.loop-left.core.clients in
    let es = entries_of c.ready_at.new.core.clients in
    let again : left ≡ left - 1 + 1 = omega (arith, c.loop-left-test.true) in
    let within : left - 1 < length es = omega (arith, c.loop-left-test.true, c.loop-left.invariant.within, c.ready_at.ensures.stays.number) in
    record {
      stays = stays_on g.S.ClientSession.stands g.S.ClientSession.goes_on g.S.ClientSession.count g.S.ClientSession.since c.args.core.now c.loop-left.core c.ready_at.new.core
          c.loop-left.invariant.stays c.ready_at.ensures.stays;
      within = omega (arith, c.loop-left.invariant.within, c.ready_at.ensures.stays.number);
      ready = one_more_ready g.S.ClientSession.is_ready es was (left - 1) within c.in_ok-more_effects.more_effects c.in_ok-more_effects.more_bytes
          c.loop-left.effects c.loop-left.bytes c.in_ok-effects.effects c.in_ok-bytes.bytes c.in_ok-more_effects.ensures.ready c.ready_at.ensures.behind
          (subst (λ (k : ℕ). AreReady g.S.ClientSession.is_ready (drop k was) c.loop-left.effects c.loop-left.bytes) again c.loop-left.invariant.ready)
          c.in_ok-effects.ensures c.in_ok-bytes.ensures;
    }
