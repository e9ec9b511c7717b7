use Rattle.std.proofs.Common.{sym, ap, refl, ◌∙◌, ◌≡◌, ◌+◌, ◌-◌, ◌||◌, ◌++◌, ◌∷◌, [], List, ℕ, length, arith}
use Rattle.std.specs.Prelude.{option_map, bytes_eq, Some}
use Rattle.vpn_base.specs.Lines.{lines_of, size}
use Rattle.vpn_text.specs.ConfigLine.{is_over}
use Rattle.config_directives.specs.Entries.{until_end}
use Rattle.config_directives.proofs.BlockBytes.{until_found, until_passed, until_over, behind_line, in_front_of_none, no_bytes}
use Rattle.config_directives.proofs.lines.until_end.Goals as goal

pub lines-init : goal.lines-init
lines-init c =
    let before = c.args.size - length c.args.text.now in
    record {
      within = c.requires;
      kept = no_bytes (until_end c.args.last.now before (lines_of c.args.text.now))
          ∙ ap (λ (b : List ℕ). option_map (λ (m : List ℕ). b ++ m) (until_end c.args.last.now before (lines_of c.args.text.now))) (sym c.new-bytes.ensures.items);
    }

pub returns-then-ends_block : goal.returns-then-ends_block
returns-then-ends_block c =
    let first = c.in-Some.ensures.first in
    let line = c.in-Some.line.now in
    let taken : c.args.size - length c.lines.rest.now + size first.first ≡ c.args.size - length c.in-Some.behind.now = omega (arith, first.takes, c.lines.invariant.within) in
    ap (λ (b : List ℕ). Some b) c.of.ensures
    ∙ sym (c.lines.invariant.kept
    ∙ in_front_of_none c.lines.bytes.items _ (until_found c.args.last.now line _ first.first _ _ first.begins first.shows
    (c.if-ends_block.ensures ∙ ap (λ (n : ℕ). is_over n || bytes_eq line c.args.last.now) (sym taken))))

pub lines-preserved : goal.lines-preserved
lines-preserved c =
    let first = c.in-Some.ensures.first in
    let bytes = c.lines.bytes.items in
    let line = c.in-Some.line.now in
    let reached = c.args.size - length c.in-Some.behind.now in
    let later = until_end c.args.last.now reached (lines_of c.in-Some.behind.now) in
    let taken : c.args.size - length c.lines.rest.now + size first.first ≡ reached = omega (arith, first.takes, c.lines.invariant.within) in
    let kept : c.push.new.self.items ≡ bytes ++ line ++ 10 ∷ [] =
    c.in_ok-push.ensures.items ∙ ap (λ (b : List ℕ). b ++ 10 ∷ []) c.in_ok-extend_from_slice.ensures.items in
    record {
      within = omega (arith, c.lines.invariant.within, c.in-Some.ensures.shorter);
      kept = c.lines.invariant.kept
          ∙ ap (option_map (λ (m : List ℕ). bytes ++ m)) (until_passed c.args.last.now line _ first.first _ _ first.begins first.shows
          (c.if-ends_block.ensures ∙ ap (λ (n : ℕ). is_over n || bytes_eq line c.args.last.now) (sym taken))
          ∙ ap (λ (n : ℕ). option_map (λ (m : List ℕ). line ++ 10 ∷ m) (until_end c.args.last.now n (lines_of c.in-Some.behind.now))) taken)
          ∙ behind_line bytes line later
          ∙ ap (λ (b : List ℕ). option_map (λ (m : List ℕ). b ++ m) later) (sym kept);
    }

pub returns : goal.returns
returns c =
    sym (c.lines.invariant.kept ∙ ap (option_map (λ (m : List ℕ). c.lines.bytes.items ++ m)) (until_over _ _ c.lines.rest.now (c.in_default.ensures.none.0 refl)))
