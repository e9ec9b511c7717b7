-- How far the messages of a client are taken, one after another.
use Rattle.std.proofs.Common.{◌≡◌, ◌≤◌, ◌<◌, ◌-◌, ℕ, zero, suc, List, Option, Some, None, refl, sym, subst, ◌∙◌, arith}
use Rattle.std.proofs.lemmas.Option.{none-some}
use Rattle.vpn_base.specs.declared.names.Cid.{Cid}
use Rattle.vpn_base.specs.declared.names.Conn.{Conn}
use Rattle.vpn_links.specs.Actions.{Action, Contents}
use Rattle.vpn_links.specs.declared.notes.Note.TheVariants.{Ignored}
use Rattle.peer_table.specs.Exchange.{all_unread, next_message}
use Rattle.peer_table.specs.Outboxes.{HasRoom, Uses}
use Rattle.peer_table.specs.Peer.{Peer}
use Rattle.server_table.specs.Courses.{Course, reported}
use Rattle.server_table.specs.Exchange.{messages_taken, requested}
use Rattle.server_table.specs.Lookups.{cid, client_here}
use Rattle.server_table.specs.Table.{Client}
use Rattle.server_state.specs.declared.state.ServerCore.{ServerCore}
use Rattle.server_state.specs.Core.{CourseStands}
use Rattle.server_engine.specs.declared.messages.Waiting.TheVariants as found
use Rattle.server_engine.specs.Messages.{Sees, passed}
use Rattle.server_establishing.specs.declared.asking.Prepared.{Prepared}
use Rattle.server_establishing.specs.Prepared.{IsPrepared}
use Rattle.server_answers.specs.internal.Taking.{HasTaken, IsUntaken, MayTake, Spends}
use Rattle.server_answers.proofs.Keeping.{some_is}
use Rattle.server_answers.proofs.Stays.{MadeStays, prepared_behind}
use Rattle.server_answers.proofs.Taken.{behind_it, empty_taken, fits_requested, less_empty, less_other, less_request, nobody_taken, nothing_taken, other_taken, passed_here, request_taken, unread_none}

-- ---- what is left

-- where nothing is unread, nothing waits
untaken_none : (n : ℕ) (c : Course) (p : Prepared) → MayTake c n p 0 → messages_taken n c ≡ c
untaken_none n c p may = by_client (client_here c.table n) refl
  where
    by_client : (o : Option Client) → client_here c.table n ≡ o → messages_taken n c ≡ c
    by_client None there = nobody_taken n c there
    by_client (Some x) there = unread_none n c x there (may x there).1

untaken : (left n : ℕ) (c : Course) (p : Prepared) → MayTake c n p left → IsUntaken c n p left
untaken zero n c p may = untaken_none n c p may
untaken (suc left) n c p may = may

may_take : (left n : ℕ) (c : Course) (p : Prepared) → 0 < left → IsUntaken c n p left → MayTake c n p left
may_take zero n c p some rest = absurd (omega (arith, some))
may_take (suc left) n c p some rest = rest

-- the same of a client that is here
pub may_here : (left n : ℕ) (c : Course) (x : Client) (p : Prepared) → client_here c.table n ≡ Some x → IsPrepared c n x p → all_unread x.session.sessions ≤ left → MayTake c n p left
may_here left n c x p there of le y is =
    subst (λ (x : Client). IsPrepared c n x p × (all_unread x.session.sessions ≤ left)) (some_is x y (sym there ∙ is)) (of, le)

-- nobody has nothing to take
pub may_nobody : (left n : ℕ) (c : Course) (p : Prepared) → client_here c.table n ≡ None → MayTake c n p left
may_nobody left n c p none y is = absurd (none-some y (sym none ∙ is))

-- ---- one message

module _ {S : Type 0} (means : S → Peer → Type 0) (before : List Action) (core : ServerCore S) (out : Contents) (n : ℕ) (c : Course) where
  -- nobody is here
  pub takes_nobody : (p : Prepared) → client_here c.table n ≡ None → CourseStands means before core out c → HasTaken means before core out n c p 0
  takes_nobody p none h = record { so_far = c; stands = h; leads = refl; rest = nobody_taken n c none }

  -- none was taken so far
  pub takes_first : (left : ℕ) (p : Prepared) → CourseStands means before core out c → MayTake c n p left → HasTaken means before core out n c p left
  takes_first left p h may = record { so_far = c; stands = h; leads = refl; rest = untaken left n c p may }

  -- none is left
  pub takes_last : (p : Prepared) (left : ℕ) → left ≡ 0 → HasTaken means before core out n c p left → CourseStands means before core out (messages_taken n c)
  takes_last p left none h = let rest = subst (λ (left : ℕ). IsUntaken h.so_far n p left) none h.rest in subst (CourseStands means before core out) (sym (h.leads ∙ rest)) h.stands

  module _ (x : Client) (there : client_here c.table n ≡ Some x) where
    -- no message waits
    pub takes_nothing : (p : Prepared) → Sees found.Nothing (next_message x.session) → CourseStands means before core out c → HasTaken means before core out n c p 0
    takes_nothing p sees h = record { so_far = c; stands = h; leads = refl; rest = nothing_taken n c x there sees }

    module _ (left : ℕ) (fits : all_unread x.session.sessions ≤ left) where
      -- an empty message
      pub takes_empty : (p : Prepared) → MadeStays → IsPrepared c n x p → Sees found.Empty (next_message x.session) → CourseStands means before core out (passed n c)
          → HasTaken means before core out n c p (left - 1)
      takes_empty p stays of sees h = record {
        so_far = passed n c;
        stands = h;
        leads = empty_taken n c x there sees;
        rest = untaken (left - 1) n (passed n c) p
            (may_here (left - 1) n (passed n c) (behind_it x) p (passed_here n c x there) (prepared_behind stays n c (passed n c) x p there refl of)
            (less_empty n c x there left sees fits));
      }

      -- one that is reported
      pub takes_other : (p : Prepared) → MadeStays → IsPrepared c n x p → Sees found.Other (next_message x.session)
          → CourseStands means before core out (reported (Ignored (cid n)) (passed n c)) → HasTaken means before core out n c p (left - 1)
      takes_other p stays of sees h =
          let then = reported (Ignored (cid n)) (passed n c) in
          record {
            so_far = then;
            stands = h;
            leads = other_taken n c x there sees;
            rest = untaken (left - 1) n then p
                (may_here (left - 1) n then (behind_it x) p (passed_here n c x there) (prepared_behind stays n c then x p there refl of)
                (less_other n c x there left sees fits));
          }

      -- a request that was answered
      pub takes_request : (conn : Conn) (q : Prepared) → Sees (found.Request conn) (next_message x.session)
          → ((y : Client) → client_here (requested n conn (passed n c) (Some (behind_it x))).table n ≡ Some y → IsPrepared (requested n conn (passed n c) (Some (behind_it x))) n y q)
          → CourseStands means before core out (requested n conn (passed n c) (Some (behind_it x))) → HasTaken means before core out n c q (left - 13)
      takes_request conn q sees prepared h =
          let then = requested n conn (passed n c) (Some (behind_it x)) in
          record {
            so_far = then;
            stands = h;
            leads = request_taken n c x there conn sees;
            rest = untaken (left - 13) n then q
                (λ y is. (
                  prepared y is,
                  fits_requested (left - 13) n conn (passed n c) (behind_it x) (passed_here n c x there) (less_request n c x there conn left sees fits) y is,
                ));
          }

-- ---- one after another

-- a further message
pub takes_more : {S : Type 0} (means : S → Peer → Type 0) (before : List Action) (mid : ServerCore S) (half : Contents) (core : ServerCore S) (out : Contents) (n : ℕ) (c : Course)
    (p q : Prepared) (left rest : ℕ) → 0 < left → HasTaken means before mid half n c p left
    → ((c : Course) → CourseStands means before mid half c → MayTake c n p left → HasTaken means before core out n c q rest) → HasTaken means before core out n c q rest
takes_more means before mid half core out n c p q left rest some h next =
    let then = next h.so_far h.stands (may_take left n h.so_far p some h.rest) in
    record { so_far = then.so_far; stands = then.stands; leads = h.leads ∙ then.leads; rest = then.rest }

-- the same at another name of the number
pub takes_in_turn : {S : Type 0} (means : S → Peer → Type 0) (before : List Action) (mid : ServerCore S) (half : Contents) (core : ServerCore S) (out : Contents) (c : Course)
    (p q : Prepared) (left rest : ℕ) (a b : Cid) → a ≡ b → (CourseStands means before mid half c → MayTake c a.0 p left → HasTaken means before core out a.0 c q rest)
    → CourseStands means before mid half c → MayTake c b.0 p left → HasTaken means before core out b.0 c q rest
takes_in_turn means before mid half core out c p q left rest a b same takes =
    subst (λ (who : Cid). CourseStands means before mid half c → MayTake c who.0 p left → HasTaken means before core out who.0 c q rest) same takes

-- ---- the room

pub spends_more : (a b c : Contents) (e f g h i j : ℕ) → Spends a b e f g h → Spends b c g h i j → Spends a c e f i j
spends_more a b c e f g h i j first last = record {
  effects_spent = omega (arith, first.effects_spent, last.effects_spent);
  bytes_spent = omega (arith, first.bytes_spent, last.bytes_spent);
}

pub spends_none : (a : Contents) (e f : ℕ) → Spends a a e f e f
spends_none a e f = record { effects_spent = omega arith; bytes_spent = omega arith }

pub room_behind : (a b : Contents) (e f g h : ℕ) → HasRoom a e f → Spends a b e f g h → HasRoom b g h
room_behind a b e f g h room spent = record {
  effects_fit = omega (arith, room.effects_fit, spent.effects_spent);
  bytes_fit = omega (arith, room.bytes_fit, spent.bytes_spent);
}

pub spent_uses : (a b : Contents) (e f g h : ℕ) → Spends a b e f g h → Uses a b e f
spent_uses a b e f g h spent = record { effects_left = omega (arith, spent.effects_spent); bytes_left = omega (arith, spent.bytes_spent) }
