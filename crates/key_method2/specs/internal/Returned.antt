-- What the functions that read return, beside reading on lists.
use Rattle.std.specs.Prelude.{◌≡◌, ℕ, ◌≤◌, Result, Ok, Err}
use Rattle.key_method2.specs.declared.stop.Stop.{Stop}
use Rattle.key_method2.specs.declared.stop.Stop.TheVariants.{Cut, Wrong}

-- what a function returned, seen by view, is what reading gives
abbrev pub Gives : {X Y : Type 0} → (X → Y) → Result X Stop → Result Y Stop → Type 0
Gives view (Ok x) read = read ≡ Ok (view x)
Gives view (Err stop) read = read ≡ Err stop

-- a wrong byte stands at this place or before
abbrev pub StopsBy : ℕ → Stop → Type 0
StopsBy limit Cut = Unit {0}
StopsBy limit (Wrong place) = place ≤ limit

-- what was read ends at this place or before, or a wrong byte stands there
abbrev pub EndsBy : {X : Type 0} → ℕ → Result (X × ℕ) Stop → Type 0
EndsBy limit (Ok x) = x.1 ≤ limit
EndsBy limit (Err stop) = StopsBy limit stop
