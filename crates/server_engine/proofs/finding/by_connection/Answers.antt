use Rattle.std.proofs.Common.{◌≡◌, length, sym, subst, ◌∙◌, arith}
use Rattle.client_table.specs.Tables.{entries_of}
use Rattle.server_engine.proofs.Found.{HasNot, found, none_found, one_more}
use Rattle.server_engine.proofs.finding.by_connection.Goals as goal

pub loop-i-preserved : goal.loop-i-preserved
loop-i-preserved g c =
    let core = c.args.core.now in (
      omega (arith, c.loop-i-test.true),
      c.loop-i.invariant.1,
      one_more g.S.ClientSession.stands c.args.conn c.loop-i.i (entries_of core.clients) c.look_at.result.now c.loop-i.invariant.2 c.look_at.ensures
          (λ p stands. sym (c.has_conn.ensures p stands) ∙ c.if-has_conn.false),
    )

pub returns-then-has_conn : goal.returns-then-has_conn
returns-then-has_conn g c t h =
    found g.S.ClientSession.stands c.args.core.now t h c.args.conn c.loop-i.i c.look_at.result.now c.key_at.result.now c.loop-i.invariant.2 c.look_at.ensures c.key_at.ensures
    (λ p stands. sym (c.has_conn.ensures p stands) ∙ c.if-has_conn.true)

pub returns : goal.returns
returns g c t h =
    let core = c.args.core.now in
    let all : c.loop-i.i ≡ length (entries_of core.clients) = omega (arith, c.loop-i-test.false, c.loop-i.invariant.0, c.loop-i.invariant.1) in
    none_found g.S.ClientSession.stands core t h c.args.conn (subst (λ n. HasNot g.S.ClientSession.stands c.args.conn n (entries_of core.clients)) all c.loop-i.invariant.2)
