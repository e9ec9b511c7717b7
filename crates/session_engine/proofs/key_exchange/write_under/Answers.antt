use Rattle.std.proofs.Common.{◌≡◌, ◌<◌, ap, sym, subst, ◌∙◌, refl}
use Rattle.std.specs.Prelude.{is_some}
use Rattle.peer_table.specs.KeySessions.{Session}
use Rattle.peer_lines.specs.Calls.{with_read}
use Rattle.peer_lines.specs.Standing.{StandsFor}
use Rattle.session_state.proofs.Ends.{ok_value}
use Rattle.session_engine.proofs.ExchangeSteps.{kid_fits}
use Rattle.session_state.proofs.Keeping.{not_there}
use Rattle.session_engine.proofs.key_exchange.write_under.Goals as goal

pub exchange-written-requires-clause-kid : goal.exchange-written-requires-clause-kid
exchange-written-requires-clause-kid c = subst (λ kid. kid < 8) (sym c.kid_of.ensures) (kid_fits c.args.number)

pub returns-in-None-clause-written : goal.returns-in-None-clause-written
returns-in-None-clause-written c = λ ss s stands at is_open stage unread kid within.
    absurd (not_there ss c.args.number s (ap is_some (sym c.in-None.is) ∙ c.take_text.ensures.some ss stands) at is_open)

pub returns-in-Some-clause-written : goal.returns-in-Some-clause-written
returns-in-Some-clause-written c = λ ss s stands at is_open stage unread kid within.
    let made = ok_value c.exchange-written.result _ (c.exchange-written.ensures.fits c.requires.room)
    (c.exchange-written.ensures.made s (c.in-Some.ensures.text ss s stands at) unread (kid ∙ sym c.kid_of.ensures) within stage) in (
      c.put_text.ensures.stands ss (with_read c.args.used) (c.take_text.ensures.stands ss stands)
          (λ t here. record { began = refl; is_open = refl; stage = refl })
          (λ t here. let same : s ≡ t = cc (here, at) in subst (λ (x : Session). StandsFor c.exchange-written.new.self (with_read c.args.used x)) same made.0),
      made.1,
    )
