-- How long a packet is that goes on.
use Rattle.std.specs.Prelude.{ℕ, ◌≤◌, List, length}
use Rattle.inner_verdict.specs.declared.Verdict.{Verdict}
use Rattle.inner_verdict.specs.declared.Verdict.TheVariants.{ToClient, ToDevice}

-- a packet that goes to a client or to the device has at most 1,500 bytes
abbrev pub IsShortTo : Verdict → List ℕ → Type 0
IsShortTo (ToClient target) inner = length inner ≤ 1500
IsShortTo ToDevice inner = length inner ≤ 1500
IsShortTo verdict inner = Unit {0}
