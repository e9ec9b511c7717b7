use Rattle.std.proofs.Common.{◌+◌, sym, ap, ◌∙◌, refl}
use Rattle.std.proofs.lemmas.Bool.{false≢true}
use Rattle.peer_table.specs.KeySessions.{is_keyed}
use Rattle.session_state.specs.Standing.{GoesOn, PeerStands, count}
use Rattle.peer_session.proofs.begin.session_of.Goals as goal

pub returns-clause-stands : goal.returns-clause-stands
unfolding PeerStands
returns-clause-stands g c = λ h s envelope own text first. record {
  role_is = refl;
  timers_are = refl;
  own_is = own;
  envelope_stands = envelope;
  remote_is = refl;
  name_is = refl;
  asks_is = refl;
  slots_stand = c.new.ensures.stands s (c.begin-first.ensures.stands s text (record { began = first.began; is_open = first.is_open; stage = first.stage }));
  whole = c.new.ensures.whole;
  sound = (record { kid = first.kid; read = λ keyed. absurd (false≢true (sym (ap is_keyed first.stage) ∙ keyed)) }, tt);
  each_goes_on = (first.spent, tt);
}

pub returns-clause-goes_on : goal.returns-clause-goes_on
unfolding GoesOn
returns-clause-goes_on g c = record {
  not_over = refl;
  whole = c.new.ensures.whole;
  some_ids = c.requires.window;
  some_timeout = c.requires.some_timeout;
  short_timeout = c.requires.short_timeout;
  blank_for = tt;
}

pub returns-clause-count : goal.returns-clause-count
unfolding count
returns-clause-count g c = ap (λ n. n + 1) c.new.ensures.number
