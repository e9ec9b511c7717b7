use Rattle.std.proofs.Common.{ap, sym, subst, ◌∙◌}
use Rattle.vpn_text.specs.declared.config.ConfigFault.{ConfigFault}
use Rattle.config_directives.specs.Entries.{inside_kind, line_entries, line_with}
use Rattle.config_directives.specs.internal.Steps.{Stops}
use Rattle.config_directives.proofs.Steps.{stops_within}
use Rattle.config_directives.proofs.lines.Reader.take_inside.Goals as goal

pub returns-in-Some-clause-stops : goal.returns-in-Some-clause-stops
returns-in-Some-clause-stops c = λ lines.
    let self = c.args.self.now in
    let P : ConfigFault → Type 0 = λ fault. Stops self.directives.items (line_entries self.block (line_with c.args.number c.args.line.now c.args.reached) lines) fault in
    subst P (sym c.line_fault.ensures)
    (stops_within self.directives.items self.block c.args.number c.args.line.now c.args.reached c.in-Some.kind lines c.requires
    (c.in-Some.ensures ∙ ap (inside_kind c.args.line.now) c.is_over.ensures))
