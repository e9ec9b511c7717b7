use Rattle.control_laws.proofs.RunLaws.{put_is_read, put_is_text}
use Rattle.control_laws.proofs.StepLaws.{step_puts}
use Rattle.control_laws.proofs.laws.control_text_is_put_in_order.Goals as goal

pub returns-clause-text : goal.returns-clause-text
returns-clause-text c = put_is_text c.link_reads.ensures

pub returns-clause-read : goal.returns-clause-read
returns-clause-read c = put_is_read c.link_reads.ensures

pub returns-clause-step : goal.returns-clause-step
returns-clause-step c = step_puts c.link_reads.ensures
