use Rattle.server_table.proofs.EarlyControl.{admitting_is_no_refusal, taking_is_no_refusal}
use Rattle.server_table.proofs.EarlyEngine.{answering_is_no_refusal, down_is_no_refusal, filing_is_no_refusal}
use Rattle.server_table.proofs.EarlyTime.{time_is_no_refusal}
use Rattle.server_table.proofs.refusals.what_is_done_is_no_refusal.Goals as goal

pub returns-clause-packet : goal.returns-clause-packet
returns-clause-packet c r n course fresh = taking_is_no_refusal r n course fresh

pub returns-clause-admission : goal.returns-clause-admission
returns-clause-admission c from bytes lacks draw r course fresh = admitting_is_no_refusal from bytes lacks draw r course fresh

pub returns-clause-answer : goal.returns-clause-answer
returns-clause-answer c draw conn kind n course is fresh = answering_is_no_refusal draw conn kind n course is fresh

pub returns-clause-file : goal.returns-clause-file
returns-clause-file c draw id answer course x name there waits fresh = filing_is_no_refusal draw id answer course x name there waits fresh

pub returns-clause-down : goal.returns-clause-down
returns-clause-down c conn course n is fresh = down_is_no_refusal conn course n is fresh

pub returns-clause-time : goal.returns-clause-time
returns-clause-time c course fresh = time_is_no_refusal course fresh
