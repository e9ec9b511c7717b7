use Rattle.std.proofs.Common.{◌≡◌, Bool, ap, sym, subst, ◌∙◌, arith}
use Rattle.peer_table.specs.ControlPackets.{begun_by}
use Rattle.peer_table.specs.Outboxes.{Leaves, LeavesUnless, incoming}
use Rattle.session_state.specs.Standing.{PeerStands, count}
use Rattle.session_state.proofs.Ends.{if_ok}
use Rattle.session_control.proofs.Placing.{refused_left}
use Rattle.session_state.proofs.Keeping.{whole_of}
use Rattle.session_control.proofs.Taking.{goes_on_after, is_not_over}
use Rattle.session_control.proofs.control.begin_or_refuse.Goals as goal

pub returns-then-begins_next-clause-left : goal.returns-then-begins_next-clause-left
returns-then-begins_next-clause-left g c = λ p stands fresh.
    let i = incoming c.args.opened.now c.args.view.now c.args.next_conn c.args.established c.args.now in
    subst (λ (b : Bool). LeavesUnless c.begin_next.result (PeerStands g.W.Wrap.wrapped) c.begin_next.new.session c.args.out.now c.begin_next.new.out c.args.to p (begun_by p i b))
    (sym c.if-begins_next.true ∙ c.begins_next.ensures.test p c.args.next_conn c.args.now stands)
    (c.begin_next.ensures.left p c.args.established stands fresh)

pub returns-then-begins_next-clause-answer : goal.returns-then-begins_next-clause-answer
returns-then-begins_next-clause-answer g c = if_ok c.begin_next.result _ _
    (λ answer is p stands fresh.
    let i = incoming c.args.opened.now c.args.view.now c.args.next_conn c.args.established c.args.now in
    subst (λ (b : Bool). answer ≡ (begun_by p i b).answer) (sym c.if-begins_next.true ∙ c.begins_next.ensures.test p c.args.next_conn c.args.now stands) (is p c.args.established stands))
    c.begin_next.ensures.answer

pub returns-else-begins_next-clause-left : goal.returns-else-begins_next-clause-left
unfolding PeerStands
returns-else-begins_next-clause-left g c = λ p stands fresh.
    let i = incoming c.args.opened.now c.args.view.now c.args.next_conn c.args.established c.args.now in
    let none = sym c.if-begins_next.false ∙ c.begins_next.ensures.test p c.args.next_conn c.args.now stands in
    subst (λ (b : Bool). Leaves (PeerStands g.W.Wrap.wrapped) (record c.args.session.now { envelope = c.accept_wrap.new.env }) c.args.out.now c.args.out.now c.args.to (begun_by p i b)) none
    (refused_left g.W.Wrap.wrapped c.args.session.now c.accept_wrap.new.env c.args.out.now c.args.to p i stands (c.accept_wrap.ensures p.envelope stands.envelope_stands fresh))

pub returns-else-begins_next-clause-answer : goal.returns-else-begins_next-clause-answer
returns-else-begins_next-clause-answer g c = λ p stands fresh.
    let i = incoming c.args.opened.now c.args.view.now c.args.next_conn c.args.established c.args.now in
    ap (λ (b : Bool). (begun_by p i b).answer) (sym c.if-begins_next.false ∙ c.begins_next.ensures.test p c.args.next_conn c.args.now stands)

pub returns-else-begins_next-clause-goes_on : goal.returns-else-begins_next-clause-goes_on
returns-else-begins_next-clause-goes_on g c = goes_on_after c.args.session.now c.accept_wrap.new.env c.args.session.now.slots c.args.session.now.remote c.args.session.now.is_over c.requires.goes_on
    (is_not_over c.args.session.now c.requires.goes_on) (whole_of c.args.session.now c.requires.goes_on)

pub returns-else-begins_next-clause-count : goal.returns-else-begins_next-clause-count
unfolding count
returns-else-begins_next-clause-count g c = omega arith
