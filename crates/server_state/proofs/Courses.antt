-- How far a step has come, after one effect more.
use Rattle.std.proofs.Common.{List, [], ◌∷◌, ◌++◌, ap, ◌∙◌}
use Rattle.std.proofs.lemmas.List.{append_assoc}
use Rattle.vpn_links.specs.Actions.{Action, Contents, Datagram, Holds}
use Rattle.peer_table.specs.Peer.{Peer}
use Rattle.server_table.specs.Courses.{Course, did}
use Rattle.server_state.specs.declared.state.ServerCore.{ServerCore}
use Rattle.server_state.specs.Core.{CourseStands}

-- one effect more behind what was there before and the effects so far
pub one_more : (before effects : List Action) (staged : List Datagram) (old new : Contents) (action : Action) → Holds old (before ++ effects) staged
    → Holds new (old.effects ++ action ∷ []) old.staged → Holds new (before ++ (effects ++ action ∷ [])) staged
one_more before effects staged old new action was is =
    (is.0 ∙ ap (λ (all : List Action). all ++ action ∷ []) was.0 ∙ append_assoc before effects (action ∷ []), is.1 ∙ was.1)

-- the same for a core
pub did_stands : {S : Type 0} (means : S → Peer → Type 0) (before : List Action) (core : ServerCore S) (old new : Contents) (action : Action) (c : Course)
    → CourseStands means before core old c → Holds new (old.effects ++ action ∷ []) old.staged → CourseStands means before core new (did action c)
did_stands means before core old new action c h is = record {
  table = h.table;
  outbox = one_more before c.effects _ old new action h.outbox is;
  in_turn = h.in_turn;
}
