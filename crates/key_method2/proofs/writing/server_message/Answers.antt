use Rattle.std.proofs.Common.{rules, ◌≡◌, length}
use Rattle.key_method2.proofs.Written.{server_parts, server_is}
use Rattle.key_method2.proofs.writing.server_message.Goals as goal

pub returns-clause-spelled : goal.returns-clause-spelled
returns-clause-spelled c =
    let source = c.args.source.now in
    let one : length source.random1 ≡ 32 = search rules in
    let two : length source.random2 ≡ 32 = search rules in
    let long : length c.write_part-5.new.out ≡ 93 = search rules in
    server_parts source _ _ _ _ c.write_part-5.new.out one two long c.write_part.ensures c.write_part-2.ensures c.write_part-3.ensures c.write_part-4.ensures c.write_part-5.ensures

pub returns-clause-is_message : goal.returns-clause-is_message
returns-clause-is_message c =
    let source = c.args.source.now in
    let one : length source.random1 ≡ 32 = search rules in
    let two : length source.random2 ≡ 32 = search rules in
    server_is source c.write_part-5.new.out one two (returns-clause-spelled c)
