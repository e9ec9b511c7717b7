-- As many values as keys.
use Rattle.std.proofs.Common.{◌≡◌, ℕ, length, ◌∙◌}
use Rattle.std.specs.Global.{Vec}
use Rattle.std.specs.Vec.{with_item}
use Rattle.std.proofs.lemmas.List.{length-set}
use Rattle.client_table.specs.declared.key.Key.{Key}

-- where there are as many values as keys, there are so also where one value is another
pub same_length : {V : Type 0} (keys : Vec Key) (values : Vec V) (i : ℕ) (w : V)
    → length values.items ≡ length keys.items → length (with_item values i w).items ≡ length keys.items
same_length keys values i w same = length-set values.items i w ∙ same
