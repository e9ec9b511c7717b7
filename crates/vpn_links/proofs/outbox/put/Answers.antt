use Rattle.std.proofs.Common.{List, ℕ, ap, ◌∙◌, refl, length}
use Rattle.vpn_links.specs.internal.Store.{part}
use Rattle.vpn_links.proofs.Parts.{part_end}
use Rattle.vpn_links.proofs.outbox.put.Goals as goal

pub returns-clause-part : goal.returns-clause-part
returns-clause-part c =
    ap (λ (l : List ℕ). part l (record { start = c.len-start.result; len = length c.args.bytes.now })) c.in_ok-extend_from_slice.ensures.items
    ∙ part_end c.args.store.now.items c.args.bytes.now (record { start = c.len-start.result; len = length c.args.bytes.now }) (c.len-start.ensures ∙ c.args.store.now.ok.0) refl
