-- What is done to the outside, one thing after the other.
use Rattle.std.proofs.Common.{◌≡◌, ℕ, List, [], ◌∷◌, ◌++◌, Option, Some, None, Result, Ok, Err, IfOk, IsOk, OnOk, refl, ap, sym, ◌∙◌}
use Rattle.std.specs.Prelude.{option_map, slice_get, IfSome, IfNone}
use Rattle.std.proofs.lemmas.List.{append-nil, append_assoc}
use Rattle.std.proofs.lemmas.Bool.{false≢true}
use Rattle.vpn_base.specs.declared.names.Role.{Role}
use Rattle.vpn_links.specs.Actions.{Action, Contents, Datagram, EngineClose, Holds}
use Rattle.key_sessions.specs.Looks.{seen_as, seen_at}
use Rattle.key_sessions.specs.declared.slot.SessionSeen.{SessionSeen}
use Rattle.peer_table.specs.Exchange.{closing}
use Rattle.peer_table.specs.KeySessions.{Session}
use Rattle.peer_table.specs.Outboxes.{action_of, actions_of}
use Rattle.peer_table.specs.Peer.{Doing}

pub actions_append : (role : Role) (a b : List Doing) → actions_of role (a ++ b) ≡ actions_of role a ++ actions_of role b
actions_append role [] b = refl
actions_append role (x ∷ a) b = ap (λ (ys : List Action). action_of role x ∷ ys) (actions_append role a b)

-- two things that were done stand one behind the other
pub then_done : (role : Role) (effects : List Action) (a b : List Doing) (middle after : Contents) (staged : List Datagram) →
    Holds middle (effects ++ actions_of role a) staged → Holds after (middle.effects ++ actions_of role b) middle.staged → Holds after (effects ++ actions_of role (a ++ b)) staged
then_done role effects a b middle after staged first second = (
  second.0 ∙ ap (λ (es : List Action). es ++ actions_of role b) first.0 ∙ append_assoc effects (actions_of role a) (actions_of role b)
      ∙ ap (λ (es : List Action). effects ++ es) (sym (actions_append role a b)),
  second.1 ∙ first.1,
)

-- the same where nothing was done first
pub only_done : (role : Role) (a : List Doing) (before middle after : Contents) → Holds middle before.effects before.staged →
    Holds after (middle.effects ++ actions_of role a) middle.staged → Holds after (before.effects ++ actions_of role a) before.staged
only_done role a before middle after first second =
    (second.0 ∙ ap (λ (es : List Action). es ++ actions_of role a) first.0, second.1 ∙ first.1)

pub nothing_done : (role : Role) (c : Contents) → Holds c (c.effects ++ actions_of role []) c.staged
nothing_done role c = (sym (append-nil c.effects), refl)

-- what closing a session does, by what is seen of it
abbrev pub closing_seen : Option SessionSeen → List Action
closing_seen None = []
closing_seen (Some seen) = EngineClose seen.conn ∷ []

closing_by : (role : Role) (n : ℕ) (o : Option Session) → closing_seen (option_map (seen_as n) o) ≡ actions_of role (closing o)
closing_by role n None = refl
closing_by role n (Some s) = refl

pub closing_is : (role : Role) (ss : List Session) (n : ℕ) (seen : Option SessionSeen) → seen ≡ seen_at ss n → closing_seen seen ≡ actions_of role (closing (slice_get ss n))
unfolding seen_at
closing_is role ss n seen is = ap closing_seen is ∙ closing_by role n (slice_get ss n)

-- what an Ok that has to be one says
pub ok_value : {A E : Type 0} (r : Result A E) (X : Type 0) → IsOk r → OnOk r X → X
ok_value (Ok a) X is x = x
ok_value (Err e) X is x = absurd (false≢true is)

pub if_ok : {A E : Type 0} (r : Result A E) (P Q : A → Type 0) → ((a : A) → P a → Q a) → IfOk r P → IfOk r Q
if_ok (Ok a) P Q weaker p = weaker a p
if_ok (Err e) P Q weaker p = tt

pub if_some : {A : Type 0} (o : Option A) (P Q : A → Type 0) → ((a : A) → P a → Q a) → IfSome o P → IfSome o Q
if_some (Some a) P Q weaker p = weaker a p
if_some None P Q weaker p = tt

pub if_none : {A : Type 0} (o : Option A) (P Q : Type 0) → (P → Q) → IfNone o P → IfNone o Q
if_none (Some a) P Q weaker p = tt
if_none None P Q weaker p = weaker p
