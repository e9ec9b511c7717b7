-- A table with another value is the same with whichever proofs of its ghost fields.
use Rattle.std.proofs.Common.{◌≡◌, ℕ, true, length, ap, ◌∙◌}
use Rattle.std.proofs.Math.Nat.{ℕ_set}
use Rattle.std.proofs.Math.Bool.{Bool-set}
use Rattle.std.specs.Prelude.{nat_le}
use Rattle.std.specs.Vec.{with_item}
use Rattle.client_table.specs.declared.table.ClientTable.{ClientTable}
use Rattle.client_table.specs.Tables.{with_value_at}
use Rattle.client_table.specs.Pairs.{same_length}
use Rattle.client_table.specs.Sound.{are_below, rise_from}

pub same_table : {V : Type 0} (t : ClientTable V) (i : ℕ) (w : V) (p : length (with_item t.values i w).items ≡ length t.keys.items)
    (q : rise_from 0 t.admitted t.keys.items ≡ true) (r : are_below t.most t.keys.items ≡ true) (f : nat_le (length t.keys.items) t.most ≡ true)
    → record { most = t.most; admitted = t.admitted; keys = t.keys; values = with_item t.values i w; paired = p; rising = q; peers = r; few = f } ≡ with_value_at t i w
same_table {V = V} t i w p q r f =
    let made : (length (with_item t.values i w).items ≡ length t.keys.items) → (rise_from 0 t.admitted t.keys.items ≡ true) → (are_below t.most t.keys.items ≡ true)
    → (nat_le (length t.keys.items) t.most ≡ true) → ClientTable V =
    λ p q r f. record { most = t.most; admitted = t.admitted; keys = t.keys; values = with_item t.values i w; paired = p; rising = q; peers = r; few = f } in
    ap (λ p. made p q r f) (ℕ_set _ _ p (same_length t.keys t.values i w t.paired))
    ∙ ap (λ q. made (same_length t.keys t.values i w t.paired) q r f) (Bool-set _ _ q t.rising)
    ∙ ap (λ r. made (same_length t.keys t.values i w t.paired) t.rising r f) (Bool-set _ _ r t.peers)
    ∙ ap (λ f. made (same_length t.keys t.values i w t.paired) t.rising t.peers f) (Bool-set _ _ f t.few)
