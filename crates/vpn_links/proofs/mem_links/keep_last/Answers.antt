use Rattle.std.proofs.Common.{◌≡◌, ◌-◌, ◌++◌, ◌∷◌, [], ℕ, List, length, get_or, slice_set, ap, subst, ◌∙◌, arith}
use Rattle.vpn_links.specs.Actions.{action}
use Rattle.vpn_links.specs.Rounds.{Given}
use Rattle.vpn_links.proofs.RoundLaws.{last_set}
use Rattle.vpn_links.proofs.mem_links.keep_last.Goals as goal

pub returns-clause-ok : goal.returns-clause-ok
returns-clause-ok c =
    let items = c.args.effects.now.items in
    let last = c.index_mut-last.result.now in
    let given : Given = record { action = action c.args.e.now; is_lost = c.args.is_lost } in
    let count : c.len-count.result ≡ length items = c.len-count.ensures ∙ c.args.effects.now.ok.0 in
    ap (λ (l : List Given). slice_set items (c.len-count.result - 1) l) c.in_ok-keep.ensures.ok
    ∙ ap (λ (n : ℕ). slice_set items (n - 1) (last ++ given ∷ [])) count
    ∙ last_set items given last last (omega arith) (subst (λ (n : ℕ). last ≡ get_or items (n - 1) last) count c.index_mut-last.ensures.value)
