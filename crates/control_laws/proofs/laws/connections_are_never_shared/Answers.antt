use Rattle.control_laws.proofs.RunLaws.{apart_all, below_all, beyond_none, covered_all, opened_all}
use Rattle.control_laws.proofs.laws.connections_are_never_shared.Goals as goal

pub returns-clause-opened : goal.returns-clause-opened
returns-clause-opened c = opened_all c.link_reads.ensures

pub returns-clause-apart : goal.returns-clause-apart
returns-clause-apart c = apart_all c.link_reads.ensures

pub returns-clause-below : goal.returns-clause-below
returns-clause-below c = below_all c.link_reads.ensures

pub returns-clause-covered : goal.returns-clause-covered
returns-clause-covered c = covered_all c.link_reads.ensures

pub returns-clause-beyond : goal.returns-clause-beyond
returns-clause-beyond c = beyond_none c.link_reads.ensures
