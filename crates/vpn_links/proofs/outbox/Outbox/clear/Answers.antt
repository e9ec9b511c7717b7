use Rattle.std.proofs.Common.{◌+◌, ◌-◌, ◌≤◌, subst, vec_len, vec_capacity}
use Rattle.vpn_links.specs.Actions.{Contents, carried_by, staged_bytes}
use Rattle.vpn_links.proofs.Parts.{cleared}
use Rattle.vpn_links.proofs.outbox.Outbox.clear.Goals as goal

pub returns-clause-bytes : goal.returns-clause-bytes
returns-clause-bytes c =
    subst (λ (v : Contents). v.spare_bytes + carried_by v.effects + staged_bytes v.staged ≤ vec_capacity c.clear-3.new.self - vec_len c.clear-3.new.self) c.self.view_is
    (cleared c.self.inside.bytes.items c.self.inside.effects.items c.self.inside.staged.items _ _ _ _ c.self.invariant.apart c.self.inside.bytes.ok.0 (search) c.clear-3.ensures.capacity c.clear-3.ensures.len)
