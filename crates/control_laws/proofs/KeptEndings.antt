-- The end of a client leaves its lines.
use Rattle.std.proofs.Common.{◌≡◌, ℕ, Bool, true, false, List, [], ◌∷◌, Option, Some, None, refl}
use Rattle.std.specs.Prelude.{if◌then◌else◌}
use Rattle.vpn_base.specs.declared.names.Cause.{Cause}
use Rattle.reliable_recv.specs.Receiving.{Arrival}
use Rattle.peer_table.specs.declared.outcomes.Turn.{Turn}
use Rattle.peer_table.specs.declared.outcomes.Turn.TheVariants.{Going, Ignored, Named, Exchange, Over}
use Rattle.peer_table.specs.KeySessions.{Session}
use Rattle.peer_table.specs.Outboxes.{actions_of}
use Rattle.peer_table.specs.Peer.{Closes}
use Rattle.peer_table.specs.Time.{closings}
use Rattle.server_table.specs.Table.{Client, Established}
use Rattle.server_table.specs.Lookups.{client_here}
use Rattle.server_table.specs.Courses.{Course}
use Rattle.server_table.specs.Endings.{disconnect_line, ended, ended_as, ending_effects, gone, turned}
use Rattle.control_laws.proofs.Actions.{are_quiet, quiet_append}
use Rattle.control_laws.proofs.Calls.{are_still, closed_lines, still_quiet}
use Rattle.control_laws.proofs.Kept.{Before, Kept, quiet_kept}
use Rattle.control_laws.proofs.Keeps.{same_kept}

closings_still : (all : List Session) → are_still (closings all) ≡ true
closings_still [] = refl
closings_still (s ∷ all) = go (closings_still all) s.is_open
  where
    go : are_still (closings all) ≡ true → (b : Bool) → are_still (if b then Closes s.link.conn ∷ closings all else closings all) ≡ true
    go rest true = rest
    go rest false = rest

line_quiet : (n : ℕ) (e : Option Established) → are_quiet (disconnect_line n e) ≡ true
line_quiet n None = refl
line_quiet n (Some e) = refl

ending_quiet : (n : ℕ) (cause : Cause) (x : Client) → are_quiet (ending_effects n cause x) ≡ true
ending_quiet n cause x =
    quiet_append (disconnect_line n x.established) (actions_of x.session.role (closings x.session.sessions)) (line_quiet n x.established)
    (still_quiet x.session.role (closings x.session.sessions) (closings_still x.session.sessions))

module _ {brought : ℕ → ℕ → Arrival → Type 0} {base : Before} where
  ended_as_kept : (n : ℕ) (cause : Cause) (c : Course) (x : Option Client) → Kept brought base c → Kept brought base (ended_as n cause c x)
  ended_as_kept n cause c None is = is
  ended_as_kept n cause c (Some x) is = quiet_kept (ending_effects n cause x) (ending_quiet n cause x) (same_kept c.table.clients n gone (λ y. closed_lines y.session) is)

  pub ended_kept : (n : ℕ) (cause : Cause) (c : Course) → Kept brought base c → Kept brought base (ended n cause c)
  unfolding ended
  ended_kept n cause c is = ended_as_kept n cause c (client_here c.table n) is

  pub turned_kept : (n : ℕ) (turn : Turn) (c : Course) → Kept brought base c → Kept brought base (turned n turn c)
  turned_kept n Going c is = is
  turned_kept n Ignored c is = is
  turned_kept n Named c is = is
  turned_kept n Exchange c is = is
  turned_kept n (Over cause) c is = ended_kept n cause c is
