use Rattle.std.proofs.Common.{◌≡◌, Bool, List, ℕ, take, Some, None, position, ap, sym, ◌∙◌}
use Rattle.peer_table.specs.Exchange.{is_nul, unread}
use Rattle.peer_table.specs.KeySessions.{Session}
use Rattle.peer_lines.specs.Calls.{message_if, waiting}
use Rattle.peer_lines.specs.Standing.{StandsFor}
use Rattle.peer_lines.proofs.Nuls.{a_nul, before_nul, no_nul}
use Rattle.peer_lines.proofs.channels.SessionChannels.next_message.Goals as goal

none_waits : (s : Session) → position is_nul (unread s) ≡ None → None ≡ waiting s
unfolding waiting
none_waits s is = sym (ap (λ (b : Bool). message_if s b) (no_nul (unread s) is))

one_waits : (s : Session) (i : ℕ) → position is_nul (unread s) ≡ Some i → Some (take i (unread s)) ≡ waiting s
unfolding waiting
one_waits s i is = sym (ap (λ (b : Bool). message_if s b) (a_nul (unread s) i is) ∙ ap (λ (t : List ℕ). Some t) (before_nul (unread s) i is))

pub returns-in-None : goal.returns-in-None
unfolding StandsFor
returns-in-None c = λ s stands.
    none_waits s (ap (λ (t : List ℕ). position is_nul t) (sym stands.plain ∙ sym c.deref.ensures.value) ∙ sym c.in-None.ensures.place)

pub returns-in-Some : goal.returns-in-Some
unfolding StandsFor
returns-in-Some c = λ s stands.
    ap (λ (t : List ℕ). Some (take c.in-Some.place t)) (c.deref-in-Some.ensures.value ∙ stands.plain)
    ∙ one_waits s c.in-Some.place (ap (λ (t : List ℕ). position is_nul t) (sym stands.plain ∙ sym c.deref.ensures.value) ∙ sym c.in-Some.ensures.place)
