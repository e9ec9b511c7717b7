-- A line that was cut by the sink.
use Rattle.std.specs.Prelude.{◌≡◌, ℕ, ◌+◌, ◌≤◌, true, List, length, take, Option}
use Rattle.vpn_base.specs.Sink.{appended}
use Rattle.vpn_base.specs.declared.errors.Or.{Or}
use Rattle.vpn_base.specs.declared.errors.Or.TheVariants.{Memory, Why}
use Rattle.replay_links.specs.Replay.{Replay}

-- what holds of want of memory, and of the call's own reason
abbrev pub MatchOr : {E : Type 0} → Or E → Type 0 → (E → Type 0) → Type 0
MatchOr Memory M P = M
MatchOr (Why e) M P = P e

-- the first n bytes of it were written
pub record Cut {F S : Type 0} (contents now : Option (List ℕ)) (r next : Replay F S) (line : List ℕ) : Type 0 where
  pub n : ℕ
  pub within : n ≤ length line
  pub wrote : now ≡ appended contents (take n line)
  pub same : next ≡ record r { out = next.out; written = r.written + n; is_cut = true }
