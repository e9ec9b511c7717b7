use Rattle.std.proofs.Common.{map}
use Rattle.schedule_text.specs.EffectLine.{block_text, gateway_word, route_text}
use Rattle.schedule_text.specs.NoteText.{hex_text}
use Rattle.schedule_text.proofs.Behind.{put_four}
use Rattle.schedule_text.proofs.effect_line.put_setup.Goals as goal

pub returns : goal.returns
returns c =
    put_four c.args.line.now.items (block_text c.args.address c.args.len) (gateway_word c.args.gateway)
    c.put_block.new.line.items c.put_gateway.new.line.items c.put_routes.new.line.items c.put_texts.new.line.items
    (map route_text c.args.routes.now) (map hex_text c.args.rest.now)
    c.in_ok-put_block.ensures c.in_ok-put_gateway.ensures c.in_ok-put_routes.ensures c.in_ok-put_texts.ensures
