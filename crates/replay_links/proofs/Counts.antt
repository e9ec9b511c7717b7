-- Counts of faults.
use Rattle.std.proofs.Common.{◌≡◌, ℕ, ◌+◌, ◌-◌, ◌^◌, ◌≤◌, refl, arith, true, false, Bool, nat_le, if◌then◌else◌, leb-false, leb-true}
use Rattle.vpn_base.specs.Answers.{Rose}
use Rattle.vpn_links.specs.declared.links.LinkFault.{LinkFault}
use Rattle.vpn_links.specs.declared.links.LinkFault.TheVariants as faults
use Rattle.replay_links.specs.Replay.{Replay, before_cut, fault_count, replay_faults}

counts_rise : (f o u m r f1 o1 u1 m1 r1 : ℕ) → f ≤ f1 → o ≤ o1 → u ≤ u1 → m ≤ m1 → r ≤ r1 → (k : LinkFault) → fault_count f o u m r k ≤ fault_count f1 o1 u1 m1 r1 k
counts_rise f o u m r f1 o1 u1 m1 r1 hf ho hu hm hr faults.Wire = hu
counts_rise f o u m r f1 o1 u1 m1 r1 hf ho hu hm hr faults.Engine = hu
counts_rise f o u m r f1 o1 u1 m1 r1 hf ho hu hm hr faults.Device = hu
counts_rise f o u m r f1 o1 u1 m1 r1 hf ho hu hm hr faults.Console = hu
counts_rise f o u m r f1 o1 u1 m1 r1 hf ho hu hm hr faults.Random = hu
counts_rise f o u m r f1 o1 u1 m1 r1 hf ho hu hm hr faults.Input = omega (arith, hf, hm)
counts_rise f o u m r f1 o1 u1 m1 r1 hf ho hu hm hr faults.Output = ho
counts_rise f o u m r f1 o1 u1 m1 r1 hf ho hu hm hr faults.Schedule = hr

-- no count falls
pub never_fall : {F S : Type 0} (files : F → ℕ) (out : S → ℕ) (r next : Replay F S) → files r.files ≤ files next.files → out r.out ≤ out next.out →
    before_cut r.is_cut (out r.out) ≤ before_cut next.is_cut (out next.out) →
    r.missing ≤ next.missing → r.refused ≤ next.refused → (k : LinkFault) → replay_faults files out r k ≤ replay_faults files out next k
never_fall files out r next hf ho hu hm hr =
    counts_rise (files r.files) (out r.out) (before_cut r.is_cut (out r.out)) r.missing r.refused
    (files next.files) (out next.out) (before_cut next.is_cut (out next.out)) next.missing next.refused hf ho hu hm hr

-- what has risen has not fallen
pub risen : (before now : ℕ) → before ≤ 2 ^ 64 - 1 → Rose before now → before ≤ now
risen before now small rose = omega (arith, small, rose)

cut_by : (before now : ℕ) (full : Bool) → nat_le (2 ^ 64 - 1) now ≡ full → before ≤ now → Rose before now → before + 1 ≤ (if full then now + 1 else now)
cut_by before now true is grows rose = omega (arith, grows)
cut_by before now false is grows rose = omega (arith, leb-false (2 ^ 64 - 1) now is, rose)

-- a line was cut
pub cut_rises : (before now : ℕ) → before ≤ now → Rose before now → before_cut false before ≤ before_cut true now
cut_rises before now grows rose = cut_by before now (nat_le (2 ^ 64 - 1) now) refl grows rose

rose_by : (before now : ℕ) (full : Bool) → nat_le (2 ^ 64 - 1) now ≡ full → before + 1 ≤ (if full then now + 1 else now) → Rose before now
rose_by before now true is within = omega (arith, leb-true (2 ^ 64 - 1) now is)
rose_by before now false is within = omega (arith, within)

-- and so the sink's count rose
pub rises_cut : (before now : ℕ) → before_cut false before ≤ before_cut true now → Rose before now
rises_cut before now within = rose_by before now (nat_le (2 ^ 64 - 1) now) refl within
