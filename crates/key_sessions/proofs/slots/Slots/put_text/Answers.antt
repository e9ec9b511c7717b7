use Rattle.key_sessions.proofs.Steps.{put_stands, put_whole}
use Rattle.key_sessions.specs.declared.slot.Change.TheVariants.{Put}
use Rattle.key_sessions.proofs.Held.{other_text, put_text_is}
use Rattle.key_sessions.proofs.slots.Slots.put_text.Goals as goal

pub returns-clause-stands : goal.returns-clause-stands
returns-clause-stands g c = λ ss change are keeps texts.
    put_stands g.T.SessionText.stands_for c.args.self.now c.change.new.self ss c.args.number c.args.text c.conn_of-conn.result change
    (record { slot = c.change.ensures.slot; none = c.change.ensures.none }) are keeps c.conn_of-conn.ensures texts

pub returns-clause-whole : goal.returns-clause-whole
returns-clause-whole g c = put_whole c.args.self.now c.change.new.self c.args.number c.args.text c.conn_of-conn.result (record { slot = c.change.ensures.slot; none = c.change.ensures.none }) c.requires

pub returns-clause-put : goal.returns-clause-put
returns-clause-put g c = put_text_is c.args.self.now c.change.new.self c.args.text c.conn_of-conn.result c.args.number (record { slot = c.change.ensures.slot; none = c.change.ensures.none })

pub returns-clause-others : goal.returns-clause-others
returns-clause-others g c = λ n other. other_text c.args.self.now c.change.new.self (Put c.args.text c.conn_of-conn.result) c.args.number n (record { slot = c.change.ensures.slot; none = c.change.ensures.none }) other
