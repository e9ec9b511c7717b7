use Rattle.std.proofs.Common.{List, ℕ, ◌+◌, ◌++◌, length, take, ap, ◌∙◌, arith}
use Rattle.std.proofs.lemmas.Slice.{take-put_mid, drop-put_mid}
use Rattle.vpn_base.proofs.writing.write_at.Goals as goal

pub returns-clause-written : goal.returns-clause-written
returns-clause-written c =
    let after = c.copy_from_slice.ensures.after in
    take-put_mid c.args.at _ c.args.out.now c.copy_from_slice.new.self (c.args.at + length c.args.bytes.now) (omega (arith, ap length after)) (omega arith)
    ∙ ap (λ (l : List ℕ). take c.args.at c.args.out.now ++ l) after

pub returns-clause-rest : goal.returns-clause-rest
returns-clause-rest c =
    let after = c.copy_from_slice.ensures.after in
    drop-put_mid c.args.at _ c.args.out.now c.copy_from_slice.new.self (c.args.at + length c.args.bytes.now) (omega arith) (omega arith) (omega (arith, ap length after))
