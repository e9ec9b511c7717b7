use Rattle.peer_lines.proofs.GoingOn.{begun_goes_on, due_goes_on, packet_goes_on, text_goes_on}
use Rattle.peer_lines.proofs.laws.links_go_on.Goals as goal

pub returns-clause-packet : goal.returns-clause-packet
returns-clause-packet c = packet_goes_on

pub returns-clause-text : goal.returns-clause-text
returns-clause-text c = text_goes_on

pub returns-clause-begun : goal.returns-clause-begun
returns-clause-begun c = begun_goes_on

pub returns-clause-due : goal.returns-clause-due
returns-clause-due c = due_goes_on
