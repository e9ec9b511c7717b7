use Rattle.std.proofs.Common.{ap, sym, ◌∙◌, arith}
use Rattle.vpn_base.specs.declared.names.Malformed.TheVariants as faults
use Rattle.opcode_codec.specs.ControlText.{seen_control, control_of}
use Rattle.opcode_codec.proofs.ControlLaws.{seen_err, is_found, text_again, many_only, only_many, remote_only, only_remote, short_only, only_short}
use Rattle.opcode_codec.proofs.control.read_control.Goals as goal

pub returns-clause-found : goal.returns-clause-found
returns-clause-found c = is_found c.read_text.result c.args.op c.args.plain.now (λ i. omega (arith, c.type_inv.plain i)) c.read_text.ensures.exact

pub returns-clause-only : goal.returns-clause-only
returns-clause-only c = λ f rest fits follows e. c.read_text.ensures.exact ∙ ap (control_of c.args.op) e ∙ text_again c.args.op f rest fits follows

pub returns-clause-many : goal.returns-clause-many
returns-clause-many c = (
  λ e. many_only c.args.op c.args.plain.now (sym c.read_text.ensures.exact ∙ ap seen_control e),
  λ e. seen_err c.read_text.result faults.Acks (c.read_text.ensures.exact ∙ only_many c.args.op c.args.plain.now e),
)

pub returns-clause-no_remote : goal.returns-clause-no_remote
returns-clause-no_remote c = (
  λ e. remote_only c.args.op c.args.plain.now (sym c.read_text.ensures.exact ∙ ap seen_control e),
  λ e. seen_err c.read_text.result faults.NoRemote (c.read_text.ensures.exact ∙ only_remote c.args.op c.args.plain.now e),
)

pub returns-clause-short : goal.returns-clause-short
returns-clause-short c = (
  λ e. short_only c.args.op c.args.plain.now (sym c.read_text.ensures.exact ∙ ap seen_control e),
  λ e. seen_err c.read_text.result faults.Short (c.read_text.ensures.exact ∙ only_short c.args.op c.args.plain.now e),
)
