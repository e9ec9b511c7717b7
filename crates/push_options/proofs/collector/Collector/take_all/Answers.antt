use Rattle.std.proofs.Common.{◌∙◌}
use Rattle.push_options.proofs.Taken.{all_first, last_mark_is, last_refused, last_taken, mark_first, refused_first}
use Rattle.push_options.proofs.collector.Collector.take_all.Goals as goal

pub options-preserved : goal.options-preserved
options-preserved c =
    record {
      same = c.options.invariant.same ∙ all_first c.args.ours c.options.self c.take_one.new.self c.in-Some.option.now _ _ c.in-Some.ensures c.in-Ok.ensures.ok;
      mark = c.options.invariant.mark ∙ mark_first c.args.ours c.options.more c.in-Ok.next c.in-Some.option.now _ _ c.in-Some.ensures c.in-Ok.ensures.more;
    }

pub returns-in-Err-clause-err : goal.returns-in-Err-clause-err
returns-in-Err-clause-err c =
    refused_first c.args.ours c.options.self c.in-Some.option.now _ _ _ c.in-Err.e c.options.invariant.same c.in-Some.ensures c.in-Err.ensures.err

pub returns-clause-more : goal.returns-clause-more
returns-clause-more c =
    last_mark_is c.args.ours c.options.more c.options.rest.now _ _ c.take_one-2.result c.options.invariant.mark c.in_default.ensures c.take_one-2.ensures.more

pub returns-clause-ok : goal.returns-clause-ok
returns-clause-ok c =
    last_taken c.args.ours c.options.self c.take_one-2.new.self c.options.rest.now _ _ c.take_one-2.result c.options.invariant.same c.in_default.ensures
    c.take_one-2.ensures.ok

pub returns-clause-err : goal.returns-clause-err
returns-clause-err c =
    last_refused c.args.ours c.options.self c.options.rest.now _ _ c.take_one-2.result c.options.invariant.same c.in_default.ensures c.take_one-2.ensures.err
