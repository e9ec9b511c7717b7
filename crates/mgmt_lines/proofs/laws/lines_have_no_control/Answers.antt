use Rattle.mgmt_lines.proofs.NoControl as lines
use Rattle.mgmt_lines.proofs.laws.lines_have_no_control.Goals as goal

pub returns-clause-time : goal.returns-clause-time
returns-clause-time c = lines.time

pub returns-clause-client : goal.returns-clause-client
returns-clause-client c = lines.client

pub returns-clause-route : goal.returns-clause-route
returns-clause-route c = lines.route

pub returns-clause-queued : goal.returns-clause-queued
returns-clause-queued c = lines.queued

pub returns-clause-load : goal.returns-clause-load
returns-clause-load c = lines.load

pub returns-clause-count : goal.returns-clause-count
returns-clause-count c = lines.count

pub returns-clause-own_count : goal.returns-clause-own_count
returns-clause-own_count c = lines.own_count

pub returns-clause-name_killed : goal.returns-clause-name_killed
returns-clause-name_killed c = lines.name_killed

pub returns-clause-name_not_found : goal.returns-clause-name_not_found
returns-clause-name_not_found c = lines.name_not_found

pub returns-clause-address_killed : goal.returns-clause-address_killed
returns-clause-address_killed c = lines.address_killed

pub returns-clause-address_not_found : goal.returns-clause-address_not_found
returns-clause-address_not_found c = lines.address_not_found
