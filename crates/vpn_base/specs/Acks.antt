-- The packet ids that a control packet acknowledges (OpenVPN network protocol, reliability layer of the control channel).
use Rattle.std.specs.Prelude.{◌≡◌, ℕ, ◌-◌, ◌≤◌, List, take, drop, replicate}
use Rattle.vpn_base.specs.declared.names.Acks.{Acks}

-- the ids that are acknowledged
abbrev pub acked : Acks → List ℕ
acked acks = take acks.count acks.ids

-- at most 8 ids count, and those that don't are 0
pub record AreAcks (acks : Acks) : Type 0 where
  pub count : acks.count ≤ 8
  pub zeros : drop acks.count acks.ids ≡ replicate (8 - acks.count) 0
