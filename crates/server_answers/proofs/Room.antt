-- How much room in an outbox messages take, one after another.
use Rattle.std.proofs.Common.{◌≡◌, ◌≤◌, ◌<◌, ◌+◌, ◌-◌, ◌*◌, ◌/◌, ℕ, ap, ◌∙◌, arith}
use Rattle.std.proofs.lemmas.Nat.{mul-le}
use Rattle.vpn_links.specs.Actions.{Contents}
use Rattle.peer_table.specs.Outboxes.{Uses}
use Rattle.server_establishing.specs.declared.asking.Prepared.{Prepared}
use Rattle.server_establishing.specs.Prepared.{prepared_bytes, prepared_effects}
use Rattle.server_answers.specs.Rooms.{messages_bytes, messages_effects}
use Rattle.server_answers.specs.internal.Taking.{Spends}

-- ---- numbers

as_many : (n : ℕ) → n ≤ n
as_many n = omega arith

fewer_parts : (left : ℕ) → (left - 1) / 13 ≤ left / 13
fewer_parts left = omega arith

product_less : (e left : ℕ) → e * ((left - 1) / 13) ≤ e * (left / 13)
product_less e left = mul-le e ((left - 1) / 13) e (left / 13) (as_many e) (fewer_parts left)

one_part : (left : ℕ) → 13 ≤ left → left / 13 ≡ (left - 13) / 13 + 1
one_part left many = omega (arith, many)

next_product : (e n : ℕ) → e * (n + 1) ≡ e * n + e
next_product e n = omega arith

product_is : (e left : ℕ) → 13 ≤ left → e * (left / 13) ≡ e * ((left - 13) / 13) + e
product_is e left many = ap (λ n. e * n) (one_part left many) ∙ next_product e ((left - 13) / 13)

-- of so many parts none is more
products : (e f n : ℕ) → f ≤ e → f * n ≤ e * n
products e f n le = mul-le f n e n le (as_many n)

one_fits : (a b left : ℕ) → 1 ≤ left → a ≤ b → 1 + (a + (left - 1)) ≤ b + left
one_fits a b left some le = omega (arith, some, le)

request_fits : (a b c e left : ℕ) → 13 ≤ left → b ≡ c + e → a ≤ c → 1 + e + (a + (left - 13)) ≤ b + left
request_fits a b c e left many is le = omega (arith, many, is, le)

bytes_fit : (a b c d : ℕ) → b ≡ c + d → a ≤ c → d + a ≤ b
bytes_fit a b c d is le = omega (arith, is, le)

none_of_none : (e : ℕ) → e * (0 / 13) ≡ 0
none_of_none e = omega arith

nothing_fits : (a b left : ℕ) → 1 ≤ left → a ≡ 0 → 1 + (a + 0) ≤ b + left
nothing_fits a b left some none = omega (arith, some, none)

none_fits : (a b : ℕ) → a ≡ 0 → 0 + a ≤ b
none_fits a b none = omega (arith, none)

-- ---- outboxes

spends_by : (old new : Contents) (e b f d g h : ℕ) → Uses old new g h → g + f ≤ e → h + d ≤ b → Spends old new e b f d
spends_by old new e b f d g h uses effects bytes = record {
  effects_spent = omega (arith, uses.effects_left, effects);
  bytes_spent = omega (arith, uses.bytes_left, bytes);
}

uses_both : (old mid new : Contents) (e b f d : ℕ) (m n : ℕ) → Uses old mid e b → Uses mid new f d → e + f ≤ m → b + d ≤ n → Uses old new m n
uses_both old mid new e b f d m n first last effects bytes = record {
  effects_left = omega (arith, first.effects_left, last.effects_left, effects);
  bytes_left = omega (arith, first.bytes_left, last.bytes_left, bytes);
}

-- an outbox of which nothing was used
uses_none : (old : Contents) → Uses old old 1 0
uses_none old = record { effects_left = omega arith; bytes_left = omega arith }

module _ (p : Prepared) (left : ℕ) (old mid : Contents) (some : 0 < left) where
  at_least : 1 ≤ left
  at_least = omega (arith, some)

  -- no message waits
  pub spends_nothing : Uses old mid 1 0 → Spends old mid (messages_effects p left) (messages_bytes p left) (messages_effects p 0) (messages_bytes p 0)
  spends_nothing uses =
      spends_by old mid (messages_effects p left) (messages_bytes p left) (messages_effects p 0) (messages_bytes p 0) 1 0 uses
      (nothing_fits (prepared_effects p * (0 / 13)) (prepared_effects p * (left / 13)) left at_least (none_of_none (prepared_effects p)))
      (none_fits (prepared_bytes p * (0 / 13)) (prepared_bytes p * (left / 13)) (none_of_none (prepared_bytes p)))

  -- a message that is no request
  effects_one : 1 + messages_effects p (left - 1) ≤ messages_effects p left
  effects_one =
      one_fits (prepared_effects p * ((left - 1) / 13)) (prepared_effects p * (left / 13)) left at_least (product_less (prepared_effects p) left)

  bytes_one : 0 + messages_bytes p (left - 1) ≤ messages_bytes p left
  bytes_one = let less = product_less (prepared_bytes p) left in omega (arith, less)

  pub spends_one : Uses old mid 1 0 → Spends old mid (messages_effects p left) (messages_bytes p left) (messages_effects p (left - 1)) (messages_bytes p (left - 1))
  spends_one uses =
      spends_by old mid (messages_effects p left) (messages_bytes p left) (messages_effects p (left - 1)) (messages_bytes p (left - 1)) 1 0 uses effects_one bytes_one

  -- a request
  module _ (many : 13 ≤ left) (uses : Uses old mid 1 0) (q : Prepared) (less : (prepared_effects q ≤ prepared_effects p) × (prepared_bytes q ≤ prepared_bytes p))
      (next : Contents) (answered : Uses mid next (prepared_effects p) (prepared_bytes p)) where
    effects_request : 1 + prepared_effects p + messages_effects q (left - 13) ≤ messages_effects p left
    effects_request =
        request_fits (prepared_effects q * ((left - 13) / 13)) (prepared_effects p * (left / 13)) (prepared_effects p * ((left - 13) / 13)) (prepared_effects p) left many
        (product_is (prepared_effects p) left many) (products (prepared_effects p) (prepared_effects q) ((left - 13) / 13) less.0)

    bytes_request : prepared_bytes p + messages_bytes q (left - 13) ≤ messages_bytes p left
    bytes_request =
        bytes_fit (prepared_bytes q * ((left - 13) / 13)) (prepared_bytes p * (left / 13)) (prepared_bytes p * ((left - 13) / 13)) (prepared_bytes p)
        (product_is (prepared_bytes p) left many) (products (prepared_bytes p) (prepared_bytes q) ((left - 13) / 13) less.1)

    both_used : Uses old next (1 + prepared_effects p) (prepared_bytes p)
    both_used =
        uses_both old mid next 1 0 (prepared_effects p) (prepared_bytes p) (1 + prepared_effects p) (prepared_bytes p) uses answered (as_many (1 + prepared_effects p))
        (zero_more (prepared_bytes p))
      where
        zero_more : (n : ℕ) → 0 + n ≤ n
        zero_more n = omega arith

    pub spends_request : Spends old next (messages_effects p left) (messages_bytes p left) (messages_effects q (left - 13)) (messages_bytes q (left - 13))
    spends_request =
        spends_by old next (messages_effects p left) (messages_bytes p left) (messages_effects q (left - 13)) (messages_bytes q (left - 13)) (1 + prepared_effects p)
        (prepared_bytes p) both_used effects_request bytes_request

-- where nobody is here, nothing is used
pub spends_no_room : (p : Prepared) (left : ℕ) (old : Contents) → 0 < left
    → Spends old old (messages_effects p left) (messages_bytes p left) (messages_effects p 0) (messages_bytes p 0)
spends_no_room p left old some = spends_nothing p left old old some (uses_none old)
