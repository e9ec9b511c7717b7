use Rattle.std.proofs.Common.{rules, ◌≡◌, ℕ, suc, ◌+◌, ◌-◌, ◌*◌, Bool, cond, List, [], ◌++◌, length, take, take_all, Ok, Err, ap, sym, ◌∙◌, arith}
use Rattle.std.proofs.lemmas.List.{append-nil}
use Rattle.tls_crypt.specs.declared.static_key.KeyKind.TheVariants.{NoEnd}
use Rattle.tls_crypt.specs.StaticKey.{behind, body, key_lines}
use Rattle.tls_crypt.proofs.KeyLines.{behind-behind}
use Rattle.tls_crypt.proofs.static_key.key_behind.Goals as goal

pub returns-in-None-clause-fault : goal.returns-in-None-clause-fault
returns-in-None-clause-fault c =
    let k = c.lines.k in
    let begin = c.args.begin in
    let front = take (16 * k) c.lines.key in
    let left : 16 - k ≡ suc (15 - k) = omega arith in
    c.lines.invariant.0
    ∙ ap (λ (n : ℕ). behind front (body n (begin + k) (key_lines c.lines.rest.now))) left
    ∙ ap (behind front) (c.in-None.ensures.others (15 - k) (begin + k))

pub lines-preserved : goal.lines-preserved
lines-preserved c =
    let k = c.lines.k in
    let begin = c.args.begin in
    let front = take (16 * k) c.lines.key in
    let bytes = c.in-Some.found.0 in
    let rest = key_lines c.in-Some.found.1.now in
    let size : length bytes ≡ 16 = search rules in
    let left : 16 - k ≡ suc (15 - k) = omega arith in
    let next : 16 * k + 16 ≡ 16 * (k + 1) = omega arith in
    let written : front ++ bytes ≡ take (16 * (k + 1)) c.write_at.new.out =
    sym c.write_at.ensures.written ∙ ap (λ (n : ℕ). take (16 * k + n) c.write_at.new.out) size ∙ ap (λ (n : ℕ). take n c.write_at.new.out) next in
    let fewer : 15 - k ≡ 16 - (k + 1) = omega arith in
    let later : begin + k + 1 ≡ begin + (k + 1) = omega arith in
    let kept : length c.write_at.new.out ≡ 256 = search rules in (
      c.lines.invariant.0
          ∙ ap (λ (n : ℕ). behind front (body n (begin + k) (key_lines c.lines.rest.now))) left
          ∙ ap (behind front) (c.in-Some.ensures.digits (15 - k) (begin + k))
          ∙ behind-behind front bytes (body (15 - k) (begin + k + 1) rest)
          ∙ ap (λ (l : List ℕ). behind l (body (15 - k) (begin + k + 1) rest)) written
          ∙ ap (λ (n : ℕ). behind (take (16 * (k + 1)) c.write_at.new.out) (body n (begin + k + 1) rest)) fewer
          ∙ ap (λ (n : ℕ). behind (take (16 * (k + 1)) c.write_at.new.out) (body (16 - (k + 1)) n rest)) later,
      kept,
    )

pub returns-then-ends-clause-key : goal.returns-then-ends-clause-key
returns-then-ends-clause-key c =
    let begin = c.args.begin in
    let key = c.lines.key in
    let rest = key_lines c.lines.rest.now in
    let all : c.lines.k ≡ 16 = omega arith in
    let size : length key ≡ 256 = c.lines.invariant.1 in
    c.lines.invariant.0
    ∙ ap (λ (k : ℕ). behind (take (16 * k) key) (body (16 - k) (begin + k) rest)) all
    ∙ ap (behind (take 256 key)) (c.ends.ensures (begin + 16) ∙ ap (λ (b : Bool). cond b (Ok []) (Err (record { line = begin + 16 + 1; kind = NoEnd }))) c.if-ends.true)
    ∙ ap (λ (l : List ℕ). Ok l) (append-nil (take 256 key) ∙ take_all 256 key (omega arith))
