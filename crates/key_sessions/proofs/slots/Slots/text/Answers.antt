use Rattle.std.proofs.Common.{ap, sym, ◌∙◌}
use Rattle.std.specs.Option.{option_copied}
use Rattle.peer_table.specs.Time.{is_open_session}
use Rattle.key_sessions.specs.declared.slot.Change.TheVariants.{Take}
use Rattle.key_sessions.specs.internal.Steps.{given_at}
use Rattle.key_sessions.proofs.Held.{lent_stands, lent_there}
use Rattle.key_sessions.proofs.Usable.{none_at}
use Rattle.key_sessions.proofs.slots.Slots.text.Goals as goal

pub returns-in-None-clause-some : goal.returns-in-None-clause-some
returns-in-None-clause-some g c = λ whole ss are.
    let none = none_at g.T.SessionText.stands_for c.args.self.now ss c.args.number are (sym c.slot.ensures ∙ ap option_copied c.in-None.is) in
    sym (ap is_open_session none)

pub returns-in-Some-clause-some : goal.returns-in-Some-clause-some
returns-in-Some-clause-some g c = λ whole ss are.
    lent_there g.T.SessionText.stands_for c.args.self.now ss c.args.number c.as_ref.result
    (c.as_ref.ensures.value ∙ ap (given_at Take) (sym (ap option_copied c.in-Some.is) ∙ c.slot.ensures)) whole are

pub returns-in-Some-clause-text : goal.returns-in-Some-clause-text
returns-in-Some-clause-text g c =
    lent_stands g.T.SessionText.stands_for c.args.self.now c.args.number c.as_ref.result
    (c.as_ref.ensures.value ∙ ap (given_at Take) (sym (ap option_copied c.in-Some.is) ∙ c.slot.ensures))
