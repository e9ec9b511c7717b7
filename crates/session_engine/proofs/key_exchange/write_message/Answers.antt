use Rattle.std.proofs.Common.{◌≡◌, ℕ, Some, sym, subst, ◌∙◌}
use Rattle.std.specs.Prelude.{slice_get}
use Rattle.std.proofs.lemmas.Option.{none-some}
use Rattle.key_sessions.specs.Slots.{SlotsStand}
use Rattle.peer_table.specs.KeySessions.{kid_of}
use Rattle.peer_table.specs.Places.{changed_at}
use Rattle.peer_lines.specs.Calls.{with_read}
use Rattle.peer_lines.specs.Standing.{StandsFor}
use Rattle.session_engine.proofs.key_exchange.write_message.Goals as goal

pub returns-in-None-clause-written : goal.returns-in-None-clause-written
returns-in-None-clause-written c = λ ss n s keys stands last at stage id unread kid within.
    absurd (none-some n (sym c.in-None.is ∙ c.newest_usable.ensures.number ss stands ∙ last))

pub returns-in-Some-clause-written : goal.returns-in-Some-clause-written
returns-in-Some-clause-written c = λ ss n s keys stands last at stage id unread kid within.
    let here = sym c.in-Some.is ∙ c.newest_usable.ensures.number ss stands in
    let same : c.in-Some.number ≡ n = cc (here, last) in
    let there = subst (λ (m : ℕ). slice_get ss m ≡ Some s) (sym same) at in
    let written = c.write_in.ensures.written ss s keys stands there (c.newest_usable.ensures.is_open ss stands c.in-Some.number s (sym here) there) stage id unread
    (subst (λ (m : ℕ). s.link.kid ≡ kid_of m) (sym same) kid) within in
    (subst (λ (m : ℕ). SlotsStand StandsFor c.write_in.new.slots (changed_at m (with_read c.args.used) ss)) same written.0, written.1)
