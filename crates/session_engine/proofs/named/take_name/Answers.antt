use Rattle.std.proofs.Common.{subst, ◌∙◌, ◌≡◌, ◌≤◌, List, ℕ, length}
use Rattle.peer_table.specs.EngineAnswers.{kept_name}
use Rattle.session_engine.proofs.Names.{goes_with_name, name_short, named_stands}
use Rattle.session_engine.proofs.Saying.{as_many}
use Rattle.session_engine.proofs.named.take_name.Goals as goal

pub newest_name-session-requires : goal.newest_name-session-requires
newest_name-session-requires g c = record {
  short = λ name is.
      let same : kept_name c.args.name.now ≡ name = cc (c.in-Ok.ensures.name, is) in
      subst (λ (n : List ℕ). length n ≤ 64) same (name_short _ _ c.in-Ok.ensures.judged);
}

pub returns-in-Ok-clause-named : goal.returns-in-Ok-clause-named
returns-in-Ok-clause-named g c = λ p stands.
    named_stands g.W.Wrap.wrapped c.args.session.now c.name_newest.new.slots c.newest_name-session.result (kept_name c.args.name.now) p
    (c.newest_name-session.ensures.copy ∙ c.in-Ok.ensures.name) (c.in-Ok.ensures.named p.sessions) c.name_newest.ensures.whole stands

pub returns-in-Ok-clause-goes_on : goal.returns-in-Ok-clause-goes_on
returns-in-Ok-clause-goes_on g c = goes_with_name c.args.session.now c.name_newest.new.slots c.newest_name-session.result c.requires.goes_on c.name_newest.ensures.whole

pub returns-in-Ok-clause-count : goal.returns-in-Ok-clause-count
returns-in-Ok-clause-count g c = as_many c.args.session.now _ c.name_newest.ensures.number
