-- What a pool keeps of the takings: for each address how often it was taken.
use Rattle.std.specs.Prelude.{◌≡◌, ℕ, ◌==◌, count_by}
use Rattle.address_pool.specs.declared.Pool.{Pool}
use Rattle.address_pool.specs.LeastFree.{Takings}
use Rattle.address_pool.specs.Counts.{count_of}

-- the pool holds these takings, in whichever order they came
pub record Holds (pool : Pool) (t : Takings) : Type 0 where
  pub begins : pool.first ≡ t.first
  pub ends : pool.last ≡ t.last
  pub counts : (n : ℕ) → count_of pool.counts n ≡ count_by (λ a. a.0 == n) t.taken
