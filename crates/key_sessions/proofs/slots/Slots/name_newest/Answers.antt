use Rattle.std.proofs.Common.{refl}
use Rattle.key_sessions.proofs.Restages.{named_stands, named_whole}
use Rattle.key_sessions.proofs.slots.Slots.name_newest.Goals as goal

pub returns-in-Ok-clause-named : goal.returns-in-Ok-clause-named
returns-in-Ok-clause-named g c = λ ss are.
    named_stands g.T.SessionText.stands_for g.T.SessionText.restaged c.of.result c.args.self.now _ ss (record { earlier = refl; newest = refl }) c.requires are

pub returns-in-Ok-clause-whole : goal.returns-in-Ok-clause-whole
returns-in-Ok-clause-whole g c = λ whole. named_whole c.of.result c.args.self.now _ (record { earlier = refl; newest = refl }) c.requires whole
