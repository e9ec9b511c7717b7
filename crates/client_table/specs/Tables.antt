-- What a table has: one list of entries, in order of admission.
use Rattle.std.specs.Prelude.{◌≡◌, ◌-◌, ℕ, min, List, vec_len, vec_capacity}
use Rattle.std.specs.Vec.{with_item}
use Rattle.client_table.specs.declared.table.ClientTable.{ClientTable}
use Rattle.client_table.specs.Entries.{Entry, entries}
use Rattle.client_table.specs.Pairs.{same_length}

-- the entries of a table
abbrev pub entries_of : {V : Type 0} → ClientTable V → List (Entry V)
entries_of t = entries t.keys.items t.values.items

-- how many clients there may be
abbrev pub most_of : {V : Type 0} → ClientTable V → ℕ
most_of t = t.most

-- how many were admitted so far, which is the number of the next one
abbrev pub admitted_by : {V : Type 0} → ClientTable V → ℕ
admitted_by t = t.admitted

-- for how many more clients it has memory
abbrev pub spare_of : {V : Type 0} → ClientTable V → ℕ
spare_of t = min (vec_capacity t.keys) (vec_capacity t.values) - vec_len t.keys

-- a table has these entries, for at most so many clients, after so many admissions
pub record Has {V : Type 0} (t : ClientTable V) (es : List (Entry V)) (most admitted : ℕ) : Type 0 where
  pub entries_are : entries_of t ≡ es
  pub most_is : most_of t ≡ most
  pub admitted_is : admitted_by t ≡ admitted

-- the table with another value at a place
abbrev pub with_value_at : {V : Type 0} → ClientTable V → ℕ → V → ClientTable V
with_value_at t i w = record t { values = with_item t.values i w; paired = same_length t.keys t.values i w t.paired }
