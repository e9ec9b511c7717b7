-- Time passes for one client after another.
use Rattle.std.proofs.Common.{◌≡◌, ℕ, suc, ◌+◌, ◌-◌, ◌<◌, ◌≤◌, Bool, List, [], ◌∷◌, length, option_map, Some, None, sym, ap, subst, ◌∙◌, arith}
use Rattle.std.specs.List.{AllByRecursion}
use Rattle.vpn_links.specs.Actions.{Action, Contents, Datagram}
use Rattle.vpn_links.specs.declared.events.Kind.{Kind}
use Rattle.client_table.specs.Changes.{number_where}
use Rattle.client_table.specs.Finding.{is_from}
use Rattle.client_table.specs.Tables.{admitted_by, entries_of}
use Rattle.peer_table.specs.Outboxes.{Uses}
use Rattle.peer_table.specs.Peer.{Peer}
use Rattle.server_table.specs.Courses.{Course}
use Rattle.server_table.specs.Time.{client_ticked, clients_ticked}
use Rattle.server_state.specs.declared.client.ClientState.{ClientState}
use Rattle.server_state.specs.declared.state.ServerCore.{ServerCore}
use Rattle.server_state.specs.Core.{CourseStands, GoesOn, IsSound}
use Rattle.server_time.specs.Memory.{AreReady, NextIsReady, from_on}
use Rattle.server_time.specs.Others.{LeavesOthers}
use Rattle.server_time.specs.Turns.{IsNext, IsReadyAt, IsSoundBeforeTurn, MayTakeTurn}
use Rattle.server_time.specs.internal.Walks.{HasCome, MayGoOn, PassesTo}
use Rattle.server_time.proofs.Next.{IsFirst, next_is, next_is_ready}

-- ---- turns

next_later : (staged : List Datagram) (turn n m : ℕ) → IsNext staged turn n → n ≤ m → IsNext staged turn m
next_later [] turn n m h later = tt
next_later (d ∷ staged) turn n m h later = omega (arith, h, later)

next_behind : (staged : List Datagram) (turn m : ℕ) → turn ≡ m → IsNext staged turn (m + 1)
next_behind [] turn m is = tt
next_behind (d ∷ staged) turn m is = omega (arith, is)

-- ---- the next client

module _ {S : Type 0} (is_ready : S → Kind → Bool → ℕ → ℕ → Type 0) (goes_on : S → Type 0) (count since : S → ℕ) (core : ServerCore S) (out : Contents) (n m : ℕ)
    (h : MayGoOn is_ready goes_on count since n core out)
    (next : option_map (λ cid. cid.0) (number_where (is_from n) (entries_of core.clients)) ≡ Some m) where
  f : IsFirst (entries_of core.clients) 0 (admitted_by core.clients) n m
  f = next_is core.clients n m next

  r : NextIsReady is_ready core m h.effects h.bytes
  r = next_is_ready is_ready core n m h.effects h.bytes next h.ready

  all : AllByRecursion (GoesOn goes_on count since core.events core.moment.0) (f.first ∷ from_on (m + 1) (entries_of core.clients))
  all = subst (AllByRecursion (GoesOn goes_on count since core.events core.moment.0)) f.are h.sessions

  one_less : length (from_on n (entries_of core.clients)) ≡ suc (length (from_on (m + 1) (entries_of core.clients)))
  one_less = ap (λ es. length es) f.are

  pub is_later : n ≤ m
  is_later = f.later

  pub is_admitted : m < admitted_by core.clients
  is_admitted = f.below

  pub is_next : IsNext out.staged core.turn.0 m
  is_next = next_later out.staged core.turn.0 n m h.next f.later

  pub may_take : MayTakeTurn is_ready core m out
  may_take = record {
    effects = r.own_effects;
    bytes = r.own_bytes;
    ready = r.ready;
    room = record {
      effects_fit = omega (arith, h.room.effects_fit, r.effects_are);
      bytes_fit = omega (arith, h.room.bytes_fit, r.bytes_are);
    };
  }

  pub sound_before : IsSoundBeforeTurn goes_on count since m core
  sound_before = record {
    sound = h.sound;
    few = λ i v place there. subst (λ (v : ClientState S). count v.session ≤ core.events) (f.there i v place there) all.0.few;
    opens = omega (arith, h.opens, one_less);
    events = h.events;
  }

  -- once it has had its turn, time may pass for those behind it
  module _ (after : ServerCore S) (new : Contents) (sound : IsSound goes_on count since after) (l : LeavesOthers m 1 core after) (turn : after.turn.0 ≡ m)
      (uses : (effects bytes : ℕ) → IsReadyAt is_ready core m effects bytes → Uses out new (effects + 7) (bytes + 1563)) where
    used : Uses out new (r.own_effects + 7) (r.own_bytes + 1563)
    used = uses r.own_effects r.own_bytes r.ready

    others : AllByRecursion (GoesOn goes_on count since after.events after.moment.0) (from_on (m + 1) (entries_of after.clients))
    others =
        subst (λ (events : ℕ). AllByRecursion (GoesOn goes_on count since events after.moment.0) (from_on (m + 1) (entries_of after.clients))) (sym l.rest.events)
        (subst (λ (moment : ℕ). AllByRecursion (GoesOn goes_on count since core.events moment) (from_on (m + 1) (entries_of after.clients)))
        (sym (ap (λ m. m.0) l.rest.moment))
        (subst (AllByRecursion (GoesOn goes_on count since core.events core.moment.0)) (sym l.behind) all.1))

    as_few : length (from_on (m + 1) (entries_of after.clients)) ≡ length (from_on (m + 1) (entries_of core.clients))
    as_few = ap (λ es. length es) l.behind

    pub goes_on_behind : MayGoOn is_ready goes_on count since (m + 1) after new
    goes_on_behind = record {
      sound = sound;
      sessions = others;
      opens = omega (arith, h.opens, one_less, as_few, l.opened, l.rest.events);
      events = omega (arith, h.events, l.rest.events);
      next = next_behind new.staged after.turn.0 m turn;
      effects = r.other_effects;
      bytes = r.other_bytes;
      ready = subst (λ es. AreReady is_ready es r.other_effects r.other_bytes) (sym l.behind) r.rest;
      room = record {
        effects_fit = omega (arith, h.room.effects_fit, r.effects_are, used.effects_left);
        bytes_fit = omega (arith, h.room.bytes_fit, r.bytes_are, used.bytes_left);
      };
    }

-- ---- courses

one_ticked : (m most : ℕ) (c : Course) → clients_ticked (suc most) m c ≡ clients_ticked most (m + 1) (client_ticked m c)
unfolding clients_ticked
one_ticked m most c =
    let more : suc m ≡ m + 1 = omega arith in
    ap (λ (k : ℕ). clients_ticked most k (client_ticked m c)) more

as_many : (all most : ℕ) (c : Course) → 0 + most ≡ all → clients_ticked all 0 c ≡ clients_ticked most 0 c
as_many all most c is =
    let same : all ≡ most = omega (arith, is) in
    ap (λ (k : ℕ). clients_ticked k 0 c) same

module _ {S : Type 0} (means : S → Peer → Type 0) (before : List Action) where
  -- at the beginning
  pub has_begun : (core : ServerCore S) (out : Contents) (c : Course) → CourseStands means before core out c → HasCome means before core out 0 c
  has_begun core out c h = record {
    reached = c;
    stands = h;
    rest = λ most is. as_many (length c.table.clients) most c is;
  }

  -- one client more
  pub comes_on : (core after : ServerCore S) (out new : Contents) (n m : ℕ) (c : Course) → HasCome means before core out n c → n ≤ m
      → ((course : Course) → CourseStands means before core out course → CourseStands means before after new (client_ticked m course))
      → ((course : Course) → CourseStands means before core out course → PassesTo n (Some (record { 0 = m })) course)
      → HasCome means before after new (m + 1) c
  comes_on core after out new n m c h later ticked passes = record {
    reached = client_ticked m h.reached;
    stands = ticked h.reached h.stands;
    rest = λ most is.
        h.rest (length c.table.clients - n) (omega (arith, is, later))
        ∙ passes h.reached h.stands (length c.table.clients - n) (suc most) (omega (arith, is, later))
        ∙ one_ticked m most h.reached;
  }

  -- at the end
  pub has_ended : (core after : ServerCore S) (out new : Contents) (n : ℕ) (c : Course) → HasCome means before core out n c → n ≤ length c.table.clients
      → ((course : Course) → CourseStands means before core out course → CourseStands means before after new course)
      → ((course : Course) → CourseStands means before core out course → PassesTo n None course)
      → CourseStands means before after new (clients_ticked (length c.table.clients) 0 c)
  has_ended core after out new n c h within still passes =
      subst (CourseStands means before after new)
      (sym (h.rest (length c.table.clients - n) (omega (arith, within)) ∙ passes h.reached h.stands (length c.table.clients - n)))
      (still h.reached h.stands)
