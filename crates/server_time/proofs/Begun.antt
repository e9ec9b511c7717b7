-- A client's turn begins, and what it comes to.
use Rattle.std.proofs.Common.{◌≡◌, ℕ, ◌+◌, ◌<◌, List, [], ◌∷◌, ◌++◌, append-nil, length, map, None, Some, sym, ap, subst, ◌∙◌, arith}
use Rattle.std.specs.List.{AllByRecursion}
use Rattle.std.proofs.lemmas.List.{length-map}
use Rattle.vpn_base.specs.declared.names.Cid.{Cid}
use Rattle.vpn_links.specs.Actions.{Action, Contents, Datagram}
use Rattle.peer_table.specs.Outboxes.{HasRoom, Uses}
use Rattle.peer_table.specs.Peer.{Peer}
use Rattle.peer_table.specs.Time.{ticked}
use Rattle.peer_table.specs.declared.outcomes.Turn.{Turn}
use Rattle.server_table.specs.Courses.{Course, Staged, acted}
use Rattle.server_table.specs.Endings.{turned}
use Rattle.server_table.specs.Lookups.{client_here}
use Rattle.server_table.specs.Table.{Client}
use Rattle.server_table.specs.Time.{client_ticked, then_pinged, tick_for, ticking_for}
use Rattle.server_state.specs.declared.state.ServerCore.{ServerCore}
use Rattle.server_state.specs.Core.{AreInTurn, CoreStands, CourseStands}
use Rattle.server_time.specs.Turns.{IsNext}

all_below : (turn n : ℕ) → turn < n → (xs : List Staged) → AllByRecursion (λ (s : Staged). s.number < turn) xs → AllByRecursion (λ (s : Staged). s.number < n) xs
all_below turn n less [] all = tt
all_below turn n less (s ∷ xs) all = (omega (arith, less, all.0), all_below turn n less xs all.1)

all_own : (turn n : ℕ) → turn < n → (xs : List Staged) → AllByRecursion (λ (s : Staged). s.number ≡ turn) xs → AllByRecursion (λ (s : Staged). s.number < n) xs
all_own turn n less [] all = tt
all_own turn n less (s ∷ xs) all = (omega (arith, less, all.0), all_own turn n less xs all.1)

all_append : {X : Type 0} (P : X → Type 0) (xs ys : List X) → AllByRecursion P xs → AllByRecursion P ys → AllByRecursion P (xs ++ ys)
all_append P [] ys all more = more
all_append P (x ∷ xs) ys all more = (all.0, all_append P xs ys all.1 more)

-- all that is staged is of lower numbers
all_lower : (turn mark n : ℕ) (staged : List Staged) → AreInTurn turn mark staged → IsNext (map (λ (s : Staged). s.datagram) staged) turn n
    → AllByRecursion (λ (s : Staged). s.number < n) staged
all_lower turn mark n [] h next = tt
all_lower turn mark n (s ∷ staged) h next =
    subst (AllByRecursion (λ (s : Staged). s.number < n)) (sym h.all)
    (all_append (λ (s : Staged). s.number < n) h.earlier h.own (all_below turn n next h.earlier h.before) (all_own turn n next h.own h.behind))

module _ {S : Type 0} (means : S → Peer → Type 0) (before : List Action) (core : ServerCore S) (old : Contents) (c : Course) where
  same_table : (turn : Cid) (mark : ℕ) → CoreStands means core c.table → CoreStands means (record core { turn = turn; mark = mark }) c.table
  same_table turn mark h = record {
    settings = h.settings;
    key = h.key;
    clients = h.clients;
    admitted = h.admitted;
    most = h.most;
    routes = h.routes;
    pool = h.pool;
    queue = h.queue;
    moment = h.moment;
    connections = h.connections;
    bytes_in = h.bytes_in;
    bytes_out = h.bytes_out;
    count_interval = h.count_interval;
    counted_at = h.counted_at;
    is_stopped = h.is_stopped;
    events = h.events;
    last_taken = h.last_taken;
  }

  -- the turn of a client begins
  pub turn_begun : CourseStands means before core old c → (turn : Cid) → IsNext old.staged core.turn.0 turn.0
      → (mark : ℕ) → mark ≡ length old.staged → CourseStands means before (record core { turn = turn; mark = mark }) old c
  turn_begun h turn next mark is = record {
    table = same_table turn mark h.table;
    outbox = h.outbox;
    in_turn = record {
      earlier = c.staged;
      own = [];
      all = sym (append-nil c.staged);
      marked = sym (is ∙ ap (λ (l : List Datagram). length l) h.outbox.1 ∙ length-map c.staged (λ (s : Staged). s.datagram));
      before = all_lower core.turn.0 core.mark turn.0 c.staged h.in_turn (subst (λ l. IsNext l core.turn.0 turn.0) h.outbox.1 next);
      behind = tt;
    };
  }

  -- nobody has the number
  pub none_ticked : (n : ℕ) → client_here c.table n ≡ None → CourseStands means before core old c → CourseStands means before core old (client_ticked n c)
  unfolding client_ticked
  none_ticked n none h = subst (λ o. CourseStands means before core old (tick_for n c o)) (sym none) h

  -- the client has had its turn
  pub turn_taken : (n : ℕ) (x : Client) → client_here c.table n ≡ Some x
      → (turn : Turn) → turn ≡ (ticked (ticking_for c.table x) x.session).answer
      → CourseStands means before core old (then_pinged n (turned n turn (acted n x.address (ticked (ticking_for c.table x) x.session) c)))
      → CourseStands means before core old (client_ticked n c)
  unfolding client_ticked
  turn_taken n x there turn is h =
      subst (λ o. CourseStands means before core old (tick_for n c o)) (sym there)
      (subst (λ turn. CourseStands means before core old (then_pinged n (turned n turn (acted n x.address (ticked (ticking_for c.table x) x.session) c)))) is h)

-- what three calls use
pub uses_all : (a b c d : Contents) (effects bytes : ℕ) → Uses a b effects bytes → Uses b c 5 39 → Uses c d 2 1524 → Uses a d (effects + 7) (bytes + 1563)
uses_all a b c d effects bytes first second third = record {
  effects_left = omega (arith, first.effects_left, second.effects_left, third.effects_left);
  bytes_left = omega (arith, first.bytes_left, second.bytes_left, third.bytes_left);
}

pub uses_none : (a : Contents) (effects bytes : ℕ) → Uses a a effects bytes
uses_none a effects bytes = record { effects_left = omega arith; bytes_left = omega arith }

-- room for an ending, and then for a ping
pub room_for_ending : (a b : Contents) (effects bytes : ℕ) → HasRoom a (effects + 7) (bytes + 1563) → Uses a b effects bytes → HasRoom b 5 39
room_for_ending a b effects bytes room first = record {
  effects_fit = omega (arith, room.effects_fit, first.effects_left);
  bytes_fit = omega (arith, room.bytes_fit, first.bytes_left);
}

pub room_for_ping : (a b c : Contents) (effects bytes : ℕ) → HasRoom a (effects + 7) (bytes + 1563) → Uses a b effects bytes → Uses b c 5 39 → HasRoom c 2 1524
room_for_ping a b c effects bytes room first second = record {
  effects_fit = omega (arith, room.effects_fit, first.effects_left, second.effects_left);
  bytes_fit = omega (arith, room.bytes_fit, first.bytes_left, second.bytes_left);
}
