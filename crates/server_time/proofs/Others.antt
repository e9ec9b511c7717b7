-- What a client's turn leaves of all else.
use Rattle.std.proofs.Common.{◌≡◌, ℕ, ◌+◌, ◌≤◌, ◌==◌, Bool, true, false, cond, List, [], ◌∷◌, Option, None, Some, refl, sym, ap, ◌∙◌, arith}
use Rattle.std.specs.Prelude.{nat_le}
use Rattle.std.proofs.lemmas.Grind.{common_steps}
use Rattle.vpn_base.specs.declared.names.Cid.{Cid}
use Rattle.client_table.specs.declared.table.ClientTable.{ClientTable}
use Rattle.client_table.specs.Changes.{changed_at, changed_where, earlier, place_of, with_value, without, without_where}
use Rattle.client_table.specs.Entries.{Entry}
use Rattle.client_table.specs.Tables.{Has, admitted_by, entries_of, most_of}
use Rattle.server_state.specs.declared.client.ClientState.{ClientState}
use Rattle.server_state.specs.declared.state.ServerCore.{ServerCore}
use Rattle.server_state.specs.Places.{HasValueFor, IsChangedAt}
use Rattle.server_time.specs.Memory.{from_on}
use Rattle.server_time.specs.Others.{KeepsRest, LeavesOthers}
use Rattle.server_time.proofs.Next.{not_least}

-- ---- the clients behind

is_number : (m n : ℕ) → (m == n) ≡ true → m ≡ n
is_number m n is = grind (arith, common_steps)

-- the client of the number itself is none of them
not_itself : {S : Type 0} (n : ℕ) (e : Entry (ClientState S)) (es : List (Entry (ClientState S))) → e.key.number.0 ≡ n → from_on (n + 1) (e ∷ es) ≡ from_on (n + 1) es
not_itself n e es is =
    ap (λ b. cond b (e ∷ from_on (n + 1) es) (from_on (n + 1) es)) (not_least (n + 1) e.key.number.0 (nat_le (n + 1) e.key.number.0) (omega (arith, is)) refl)

behind_kept : {S : Type 0} (n : ℕ) (e : Entry (ClientState S)) (es fs : List (Entry (ClientState S))) → from_on (n + 1) fs ≡ from_on (n + 1) es
    → from_on (n + 1) (e ∷ fs) ≡ from_on (n + 1) (e ∷ es)
behind_kept n e es fs same = ap (λ xs. cond (nat_le (n + 1) e.key.number.0) (e ∷ xs) xs) same

-- another value of that client
module _ {S : Type 0} (n : ℕ) (f : ClientState S → ClientState S) where
  change_step : (e : Entry (ClientState S)) (es : List (Entry (ClientState S))) (b : Bool) (o : Option ℕ) → (e.key.number.0 == n) ≡ b
      → from_on (n + 1) (changed_where o (λ e. with_value (f e.value) e) es) ≡ from_on (n + 1) es
      → from_on (n + 1) (changed_where (earlier b o) (λ e. with_value (f e.value) e) (e ∷ es)) ≡ from_on (n + 1) (e ∷ es)
  change_step e es true o is rest =
      not_itself n (with_value (f e.value) e) es (is_number e.key.number.0 n is) ∙ sym (not_itself n e es (is_number e.key.number.0 n is))
  change_step e es false None is rest = refl
  change_step e es false (Some i) is rest = behind_kept n e es (changed_at i (λ e. with_value (f e.value) e) es) rest

  value_behind : (es : List (Entry (ClientState S)))
      → from_on (n + 1) (changed_where (place_of n es) (λ e. with_value (f e.value) e) es) ≡ from_on (n + 1) es
  value_behind [] = refl
  value_behind (e ∷ es) = change_step e es (e.key.number.0 == n) (place_of n es) refl (value_behind es)

-- that client is taken out
without_step : {S : Type 0} (n : ℕ) (e : Entry (ClientState S)) (es : List (Entry (ClientState S))) (b : Bool) (o : Option ℕ) → (e.key.number.0 == n) ≡ b
    → from_on (n + 1) (without_where o es) ≡ from_on (n + 1) es → from_on (n + 1) (without_where (earlier b o) (e ∷ es)) ≡ from_on (n + 1) (e ∷ es)
without_step n e es true o is rest = sym (not_itself n e es (is_number e.key.number.0 n is))
without_step n e es false None is rest = refl
without_step n e es false (Some i) is rest = behind_kept n e es (without_where (Some i) es) rest

none_behind : {S : Type 0} (n : ℕ) (es : List (Entry (ClientState S))) → from_on (n + 1) (without n es) ≡ from_on (n + 1) es
none_behind n [] = refl
none_behind n (e ∷ es) = without_step n e es (e.key.number.0 == n) (place_of n es) refl (none_behind n es)

-- ---- the core

pub rest_itself : {S : Type 0} (core : ServerCore S) → KeepsRest core core
rest_itself core = record { settings = refl; moment = refl; events = refl; count_interval = refl; held = refl; is_stopped = refl }

pub rest_on : {S : Type 0} (a b c : ServerCore S) → KeepsRest a b → KeepsRest b c → KeepsRest a c
rest_on a b c first second = record {
  settings = second.settings ∙ first.settings;
  moment = second.moment ∙ first.moment;
  events = second.events ∙ first.events;
  count_interval = second.count_interval ∙ first.count_interval;
  held = second.held ∙ first.held;
  is_stopped = second.is_stopped ∙ first.is_stopped;
}

pub others_itself : {S : Type 0} (n : ℕ) (core : ServerCore S) → LeavesOthers n 0 core core
others_itself n core = record { behind = refl; admitted = refl; most = refl; opened = omega arith; rest = rest_itself core }

pub others_on : {S : Type 0} (n more most : ℕ) (a b c : ServerCore S) → LeavesOthers n more a b → LeavesOthers n most b c → LeavesOthers n (more + most) a c
others_on n more most a b c first second = record {
  behind = second.behind ∙ first.behind;
  admitted = second.admitted ∙ first.admitted;
  most = second.most ∙ first.most;
  opened = omega (arith, first.opened, second.opened);
  rest = rest_on a b c first.rest second.rest;
}

-- the whole turn
pub others_all : {S : Type 0} (n : ℕ) (a b c d : ServerCore S) → LeavesOthers n 1 a b → LeavesOthers n 0 b c → LeavesOthers n 0 c d → LeavesOthers n 1 a d
others_all n a b c d first second third = others_on n 1 0 a c d (others_on n 1 0 a b c first second) third

-- the turn of a client begins
pub others_begun : {S : Type 0} (n more : ℕ) (core after : ServerCore S) (turn : Cid) (mark : ℕ) → LeavesOthers n more (record core { turn = turn; mark = mark }) after
    → LeavesOthers n more core after
others_begun n more core after turn mark h = record {
  behind = h.behind;
  admitted = h.admitted;
  most = h.most;
  opened = h.opened;
  rest = record {
    settings = h.rest.settings;
    moment = h.rest.moment;
    events = h.rest.events;
    count_interval = h.rest.count_interval;
    held = h.rest.held;
    is_stopped = h.rest.is_stopped;
  };
}

pub others_none : {S : Type 0} (n : ℕ) (core : ServerCore S) (turn : Cid) (mark : ℕ) → LeavesOthers n 1 core (record core { turn = turn; mark = mark })
others_none n core turn mark = record {
  behind = refl;
  admitted = refl;
  most = refl;
  opened = omega arith;
  rest = record { settings = refl; moment = refl; events = refl; count_interval = refl; held = refl; is_stopped = refl };
}

-- its session was told the time
pub others_ticked : {S : Type 0} (n i : ℕ) (core : ServerCore S) (w : ClientState S) (ct : ClientTable (ClientState S)) (k : ℕ) → place_of n (entries_of core.clients) ≡ Some i
    → IsChangedAt core i (with_value w) ct → k ≤ 1 → LeavesOthers n 1 core (record core { clients = ct; connections = core.connections + k })
others_ticked n i core w ct k place is few = record {
  behind = ap (λ es. from_on (n + 1) es) (is.entries_are ∙ sym (ap (λ o. changed_where o (with_value w) (entries_of core.clients)) place))
      ∙ value_behind n (λ v. w) (entries_of core.clients);
  admitted = is.admitted_is;
  most = is.most_is;
  opened = omega (arith, few);
  rest = record { settings = refl; moment = refl; events = refl; count_interval = refl; held = refl; is_stopped = refl };
}

-- it ended
pub others_ended : {S : Type 0} (n : ℕ) (before after : ServerCore S) → Has after.clients (without n (entries_of before.clients)) (most_of before.clients) (admitted_by before.clients)
    → after ≡ record before { clients = after.clients; routes = after.routes; pool = after.pool } → LeavesOthers n 0 before after
others_ended n before after gone is = record {
  behind = ap (λ es. from_on (n + 1) es) gone.entries_are ∙ none_behind n (entries_of before.clients);
  admitted = gone.admitted_is;
  most = gone.most_is;
  opened = omega (arith, ap (λ (core : ServerCore _). core.connections) is);
  rest = record {
    settings = ap (λ (core : ServerCore _). core.settings) is;
    moment = ap (λ (core : ServerCore _). core.moment) is;
    events = ap (λ (core : ServerCore _). core.events) is;
    count_interval = ap (λ (core : ServerCore _). core.count_interval) is;
    held = ap (λ (core : ServerCore _). core.held) is;
    is_stopped = ap (λ (core : ServerCore _). core.is_stopped) is;
  };
}

-- a packet was sealed to it
pub others_sealed : {S : Type 0} (n : ℕ) (before after : ServerCore S) → HasValueFor n before.clients after.clients
    → after ≡ record before { clients = after.clients; bytes_out = after.bytes_out } → LeavesOthers n 0 before after
others_sealed n before after h is = record {
  behind = ap (λ es. from_on (n + 1) es) h.entries_are ∙ value_behind n h.change (entries_of before.clients);
  admitted = h.admitted_is;
  most = h.most_is;
  opened = omega (arith, ap (λ (core : ServerCore _). core.connections) is);
  rest = record {
    settings = ap (λ (core : ServerCore _). core.settings) is;
    moment = ap (λ (core : ServerCore _). core.moment) is;
    events = ap (λ (core : ServerCore _). core.events) is;
    count_interval = ap (λ (core : ServerCore _). core.count_interval) is;
    held = ap (λ (core : ServerCore _). core.held) is;
    is_stopped = ap (λ (core : ServerCore _). core.is_stopped) is;
  };
}
