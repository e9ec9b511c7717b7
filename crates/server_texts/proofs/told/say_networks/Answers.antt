use Rattle.std.proofs.Common.{◌∙◌, sym, arith}
use Rattle.server_table.specs.Establishing.{network_line}
use Rattle.server_texts.proofs.Items.{item_more}
use Rattle.server_texts.proofs.told.say_networks.Goals as goal

pub networks-preserved : goal.networks-preserved
networks-preserved c =
    record {
      effects = item_more (network_line c.args.cid.0) _ _ c.args.networks.now c.networks.i c.in-Some.network (sym c.in-Some.ensures) c.say_network.ensures.said.0 ∙ c.networks.invariant.effects;
      staged = c.say_network.ensures.said.1 ∙ c.networks.invariant.staged;
      effects_left = omega (arith, c.say_network.ensures.uses.effects_left, c.networks.invariant.effects_left);
      bytes_left = omega (arith, c.say_network.ensures.uses.bytes_left, c.networks.invariant.bytes_left);
    }
