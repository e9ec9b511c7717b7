use Rattle.std.proofs.Common.{◌≡◌, List}
use Rattle.vpn_links.specs.Actions.{Action}
use Rattle.peer_table.specs.Outboxes.{HasRoom}
use Rattle.server_table.specs.Courses.{Course}
use Rattle.server_state.specs.Core.{CourseStands, IsSound}
use Rattle.server_establishing.specs.Prepared.{IsKept}
use Rattle.server_answers.specs.Rooms.{messages_bytes, messages_effects}
use Rattle.server_answers.specs.internal.Taking.{HasTaken, MayTake, Spends}
use Rattle.server_answers.proofs.messages.take_messages.Given as goal

-- some messages were taken, and these are left
abbrev pub invariant-loop-left : goal.invariant-loop-left
invariant-loop-left g l = record {
  kept : IsKept l.core l.prepared;
  room : HasRoom l.out (messages_effects l.prepared l.left) (messages_bytes l.prepared l.left);
  first : l.core.mark ≡ 0;
  sound : IsSound g.S.ClientSession.goes_on g.S.ClientSession.count g.S.ClientSession.since l.core;
  taken : (before : List Action) (c : Course) → CourseStands g.S.ClientSession.stands before l.fn.core l.fn.out c → MayTake c l.fn.core.turn.0 l.fn.prepared l.fn.left
      → HasTaken g.S.ClientSession.stands before l.core l.out l.fn.core.turn.0 c l.prepared l.left;
  spends : Spends l.fn.out l.out (messages_effects l.fn.prepared l.fn.left) (messages_bytes l.fn.prepared l.fn.left) (messages_effects l.prepared l.left) (messages_bytes l.prepared l.left);
  turn_stays : l.core.turn ≡ l.fn.core.turn;
  mark_stays : l.core.mark ≡ l.fn.core.mark;
}

abbrev pub decreases-loop-left : goal.decreases-loop-left
decreases-loop-left g l = l.left
