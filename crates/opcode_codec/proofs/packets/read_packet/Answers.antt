use Rattle.std.proofs.Common.{ap, sym, ◌∙◌, arith}
use Rattle.vpn_base.specs.declared.names.Malformed.TheVariants as faults
use Rattle.opcode_codec.specs.Packet.{seen, packet_of}
use Rattle.opcode_codec.proofs.PacketLaws.{seen_err, is_found, data_again, wrapped_again, empty_only, only_empty, unknown_only, only_unknown, cut_only, only_cut}
use Rattle.opcode_codec.proofs.packets.read_packet.Goals as goal

pub returns-clause-found : goal.returns-clause-found
returns-clause-found c = is_found c.read_any.result c.args.d.now (λ i. omega (arith, c.type_inv.d i)) c.read_any.ensures

pub returns-clause-only_data : goal.returns-clause-only_data
returns-clause-only_data c = λ f fits e. c.read_any.ensures ∙ ap packet_of e ∙ data_again f fits

pub returns-clause-only_wrapped : goal.returns-clause-only_wrapped
returns-clause-only_wrapped c = λ w fits e. c.read_any.ensures ∙ ap packet_of e ∙ wrapped_again w fits

pub returns-clause-empty : goal.returns-clause-empty
returns-clause-empty c =
    (λ e. empty_only c.args.d.now (sym c.read_any.ensures ∙ ap seen e), λ e. seen_err c.read_any.result faults.Empty (c.read_any.ensures ∙ only_empty c.args.d.now e))

pub returns-clause-opcode : goal.returns-clause-opcode
returns-clause-opcode c = λ first. (
  λ e. unknown_only first c.args.d.now (sym c.read_any.ensures ∙ ap seen e),
  λ e. seen_err c.read_any.result (faults.Opcode first) (c.read_any.ensures ∙ only_unknown first c.args.d.now e.0 e.1),
)

pub returns-clause-short : goal.returns-clause-short
returns-clause-short c =
    (λ e. cut_only c.args.d.now (sym c.read_any.ensures ∙ ap seen e), λ e. seen_err c.read_any.result faults.Short (c.read_any.ensures ∙ only_cut c.args.d.now e))
