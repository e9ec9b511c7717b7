use Rattle.key_sessions.specs.declared.slot.Change.TheVariants.{Take}
use Rattle.key_sessions.proofs.Steps.{answer_stands, taken_stands, taken_there, taken_whole}
use Rattle.key_sessions.proofs.Held.{none_taken, other_text}
use Rattle.key_sessions.proofs.slots.Slots.take_text.Goals as goal

pub returns-clause-some : goal.returns-clause-some
returns-clause-some g c = λ ss are. taken_there g.T.SessionText.stands_for c.args.self.now ss c.args.number c.change.result c.change.ensures.text c.requires are

pub returns-clause-text : goal.returns-clause-text
returns-clause-text g c = answer_stands g.T.SessionText.stands_for Take c.args.self.now c.args.number c.change.result c.change.ensures.text

pub returns-clause-stands : goal.returns-clause-stands
returns-clause-stands g c = λ ss are. taken_stands g.T.SessionText.stands_for c.args.self.now c.change.new.self ss c.args.number (record { slot = c.change.ensures.slot; none = c.change.ensures.none }) are

pub returns-clause-whole : goal.returns-clause-whole
returns-clause-whole g c = taken_whole c.args.self.now c.change.new.self c.args.number (record { slot = c.change.ensures.slot; none = c.change.ensures.none }) c.requires

pub returns-clause-others : goal.returns-clause-others
returns-clause-others g c = λ n other. other_text c.args.self.now c.change.new.self Take c.args.number n (record { slot = c.change.ensures.slot; none = c.change.ensures.none }) other

pub returns-clause-none : goal.returns-clause-none
returns-clause-none g c = none_taken c.args.self.now c.change.new.self c.args.number c.change.result c.change.ensures.text (record { slot = c.change.ensures.slot; none = c.change.ensures.none }) c.requires
