-- What a course has kept since a run began.
use Rattle.std.proofs.Common.{◌≡◌, ◌<◌, ℕ, ◌==◌, Bool, true, false, List, [], ◌∷◌, ◌++◌, Some, refl, sym, ap, ◌∙◌, subst, arith, inl, inr, append_assoc, append-nil}
use Rattle.std.specs.Prelude.{◌⊎◌}
use Rattle.std.specs.List.{AllByRecursion}
use Rattle.std.proofs.lemmas.Bool.{eqb-false, eqb-true}
use Rattle.vpn_links.specs.Actions.{Action}
use Rattle.reliable_recv.specs.Receiving.{Arrival, begun, text}
use Rattle.control_link.specs.Reading.{IsReadUp}
use Rattle.peer_table.specs.KeySessions.{kid_of}
use Rattle.server_table.specs.Courses.{Course}
use Rattle.control_laws.specs.Puts.{opened_after, put_on}
use Rattle.control_laws.proofs.Actions.{are_quiet, opened_append, put_append, quiet_opened, quiet_put, some_same}
use Rattle.control_laws.proofs.Lines.{Line, LinePut, line_at, lines_of}

-- what was before: the static key, the lines at some moment of the run, and all that was done before this step
pub record Before : Type 0 where
  pub static : List ℕ
  pub then_lines : List (List Line)
  pub past : List Action

-- what holds of the line of session k of client n, once all of this was done and so many connections were opened
pub record IsLine (brought : ℕ → ℕ → Arrival → Type 0) (n k : ℕ) (l : Line) (all : List Action) (count : ℕ) : Type 0 where
  pub below : l.conn < count
  pub kid : l.kid ≡ kid_of k
  pub read : IsReadUp l.receiving
  pub put : put_on l.conn all ≡ text l.receiving.taken
  pub arrivals : AllByRecursion (brought n k) l.receiving.taken

-- a line that has this connection
pub record HasLine (lines : List (List Line)) (conn : ℕ) : Type 0 where
  pub client : ℕ
  pub session : ℕ
  pub line : Line
  pub there : line_at lines client session ≡ Some line
  pub on : line.conn ≡ conn

-- a line is there still, with more that it took
pub record IsGrown (lines : List (List Line)) (n k : ℕ) (l : Line) : Type 0 where
  pub later : Line
  pub there : line_at lines n k ≡ Some later
  pub conn : later.conn ≡ l.conn
  pub kid : later.kid ≡ l.kid
  pub more : List Arrival
  pub taken : later.receiving.taken ≡ l.receiving.taken ++ more

abbrev pub AreApart : List (List Line) → Type 0
AreApart lines = (n k m j : ℕ) (l x : Line) → line_at lines n k ≡ Some l → line_at lines m j ≡ Some x → l.conn ≡ x.conn → (n ≡ m) × (k ≡ j)

pub record KeptParts (brought : ℕ → ℕ → Arrival → Type 0) (base : Before) (key : List ℕ) (count : ℕ) (lines : List (List Line)) (effects : List Action) : Type 0 where
  pub same_key : key ≡ base.static
  pub opened : opened_after (base.past ++ effects) 0 ≡ Some count
  pub each : (n k : ℕ) (l : Line) → line_at lines n k ≡ Some l → IsLine brought n k l (base.past ++ effects) count
  pub apart : AreApart lines
  pub covered : (conn : ℕ) → conn < count → HasLine lines conn
  pub grown : (n k : ℕ) (l : Line) → line_at base.then_lines n k ≡ Some l → IsGrown lines n k l

abbrev pub Kept : (ℕ → ℕ → Arrival → Type 0) → Before → Course → Type 0
Kept brought base c = KeptParts brought base c.table.key c.table.connections (lines_of c.table.clients) c.effects

-- ---- a line takes

-- a line took a packet, and what was then in order was put
pub record TakesLine (brought : ℕ → ℕ → Arrival → Type 0) (n k : ℕ) (l x : Line) (more : List Action) : Type 0 where
  pub conn : x.conn ≡ l.conn
  pub kid : x.kid ≡ l.kid
  pub read : IsReadUp x.receiving
  pub put : text x.receiving.taken ≡ text l.receiving.taken ++ put_on l.conn more
  pub others : (on : ℕ) → (on ≡ l.conn → ⊥) → put_on on more ≡ []
  pub opens : (count : ℕ) → l.conn < count → opened_after more count ≡ Some count
  pub new_taken : List Arrival
  pub taken : x.receiving.taken ≡ l.receiving.taken ++ new_taken
  pub arrivals : AllByRecursion (brought n k) new_taken

pub all_append : (P : Arrival → Type 0) (xs ys : List Arrival) → AllByRecursion P xs → AllByRecursion P ys → AllByRecursion P (xs ++ ys)
all_append P [] ys a b = b
all_append P (x ∷ xs) ys a b = (a.0, all_append P xs ys a.1 b)

abbrev pub begun_line : ℕ → ℕ → Line
begun_line conn kid = record { conn = conn; kid = kid; receiving = begun }

-- the line that stood at a place before, by the one later
record Was (lines : List (List Line)) (m j : ℕ) (y : Line) : Type 0 where
  old_line : Line
  there : line_at lines m j ≡ Some old_line
  conn : y.conn ≡ old_line.conn

-- what is put on one more effect
pub put_more : (on : ℕ) (past effects more : List Action) → put_on on (past ++ (effects ++ more)) ≡ put_on on (past ++ effects) ++ put_on on more
put_more on past effects more = ap (put_on on) (sym (append_assoc past effects more)) ∙ put_append on (past ++ effects) more

pub opened_more : (past effects more : List Action) (count : ℕ) → opened_after (past ++ effects) 0 ≡ Some count → opened_after (past ++ (effects ++ more)) 0 ≡ opened_after more count
opened_more past effects more count is =
    ap (λ all. opened_after all 0) (sym (append_assoc past effects more)) ∙ opened_append (past ++ effects) more 0 count is

module _ {brought : ℕ → ℕ → Arrival → Type 0} {base : Before} where
  -- nothing is put or opened
  pub quiet_kept : {key : List ℕ} {count : ℕ} {lines : List (List Line)} {effects : List Action} (more : List Action) → are_quiet more ≡ true →
      KeptParts brought base key count lines effects → KeptParts brought base key count lines (effects ++ more)
  quiet_kept {count = count} {effects = effects} more quiet is = record {
    same_key = is.same_key;
    opened = opened_more base.past effects more count is.opened ∙ quiet_opened more quiet count;
    each = λ n k l at. let line = is.each n k l at in record {
      below = line.below;
      kid = line.kid;
      read = line.read;
      put = put_more l.conn base.past effects more ∙ ap (λ bytes. put_on l.conn (base.past ++ effects) ++ bytes) (quiet_put more quiet l.conn)
          ∙ append-nil (put_on l.conn (base.past ++ effects)) ∙ line.put;
      arrivals = line.arrivals;
    };
    apart = is.apart;
    covered = is.covered;
    grown = is.grown;
  }

  -- the lines are the same
  pub lines_kept : {key : List ℕ} {count : ℕ} {lines later : List (List Line)} {effects : List Action} → later ≡ lines →
      KeptParts brought base key count lines effects → KeptParts brought base key count later effects
  lines_kept {key = key} {count = count} {effects = effects} same is = subst (λ all. KeptParts brought base key count all effects) (sym same) is

  -- a line takes a packet
  pub takes_kept : {key : List ℕ} {count : ℕ} {lines : List (List Line)} {effects : List Action} (later : List (List Line)) (n k : ℕ) (l x : Line) (more : List Action) →
      line_at lines n k ≡ Some l → LinePut lines later n k x → TakesLine brought n k l x more →
      KeptParts brought base key count lines effects → KeptParts brought base key count later (effects ++ more)
  takes_kept {count = count} {lines = lines} {effects = effects} later n k l x more at put takes is = record {
    same_key = is.same_key;
    opened = opened_more base.past effects more count is.opened ∙ takes.opens count mine.below;
    each = λ m j y there. each_line m j y there (put.others m j);
    apart = λ m j p q y z there that same. apart_lines m j p q y z (was m j y there (put.others m j)) (was p q z that (put.others p q)) same;
    covered = λ conn less. covered_line conn (is.covered conn less);
    grown = λ m j y there. grown_line m j y (is.grown m j y there);
  }
    where
      mine : IsLine brought n k l (base.past ++ effects) count
      mine = is.each n k l at

      is_new : (m j : ℕ) (y : Line) → line_at later m j ≡ Some y → m ≡ n → j ≡ k → x ≡ y
      is_new m j y there e f =
          some_same (sym put.there ∙ sym (ap (λ i. line_at later i j) e ∙ ap (λ i. line_at later n i) f) ∙ there)

      was : (m j : ℕ) (y : Line) → line_at later m j ≡ Some y → ((m ≡ n) × (j ≡ k)) ⊎ (line_at later m j ≡ line_at lines m j) → Was lines m j y
      was m j y there (inl w) = record {
        old_line = l;
        there = ap (λ i. line_at lines i j) w.0 ∙ ap (λ i. line_at lines n i) w.1 ∙ at;
        conn = sym (ap (λ (z : Line). z.conn) (is_new m j y there w.0 w.1)) ∙ takes.conn;
      }
      was m j y there (inr e) = record { old_line = y; there = sym e ∙ there; conn = refl }

      new_line : IsLine brought n k x (base.past ++ (effects ++ more)) count
      new_line = record {
        below = let e = takes.conn in let below = mine.below in omega (arith, e, below);
        kid = takes.kid ∙ mine.kid;
        read = takes.read;
        put = ap (λ on. put_on on (base.past ++ (effects ++ more))) takes.conn ∙ put_more l.conn base.past effects more
            ∙ ap (λ bytes. bytes ++ put_on l.conn more) mine.put ∙ sym takes.put;
        arrivals = subst (λ arrivals. AllByRecursion (brought n k) arrivals) (sym takes.taken)
            (all_append (brought n k) l.receiving.taken takes.new_taken mine.arrivals takes.arrivals);
      }

      old_line_kept : (m j : ℕ) (y : Line) → line_at lines m j ≡ Some y → (y.conn ≡ l.conn → ⊥) → IsLine brought m j y (base.past ++ (effects ++ more)) count
      old_line_kept m j y there other =
          let line = is.each m j y there in record {
            below = line.below;
            kid = line.kid;
            read = line.read;
            put = put_more y.conn base.past effects more ∙ ap (λ bytes. put_on y.conn (base.past ++ effects) ++ bytes) (takes.others y.conn other)
                ∙ append-nil (put_on y.conn (base.past ++ effects)) ∙ line.put;
            arrivals = line.arrivals;
          }

      by_place : (m j : ℕ) (y : Line) → line_at later m j ≡ Some y → m ≡ n → j ≡ k → IsLine brought m j y (base.past ++ (effects ++ more)) count
      by_place m j y there e f =
          subst (λ i. IsLine brought i j y (base.past ++ (effects ++ more)) count) (sym e)
          (subst (λ i. IsLine brought n i y (base.past ++ (effects ++ more)) count) (sym f)
          (subst (λ z. IsLine brought n k z (base.past ++ (effects ++ more)) count) (is_new m j y there e f) new_line))

      -- whether a line later that was there before is the one that took
      each_old : (m j : ℕ) (y : Line) → line_at later m j ≡ Some y → line_at lines m j ≡ Some y → (same : Bool) → (y.conn == l.conn) ≡ same →
          IsLine brought m j y (base.past ++ (effects ++ more)) count
      each_old m j y there old_there true e =
          let place = is.apart m j n k y l old_there at (eqb-true y.conn l.conn e) in by_place m j y there place.0 place.1
      each_old m j y there old_there false e = old_line_kept m j y old_there (eqb-false y.conn l.conn e)

      each_line : (m j : ℕ) (y : Line) → line_at later m j ≡ Some y → ((m ≡ n) × (j ≡ k)) ⊎ (line_at later m j ≡ line_at lines m j) →
          IsLine brought m j y (base.past ++ (effects ++ more)) count
      each_line m j y there (inl w) = by_place m j y there w.0 w.1
      each_line m j y there (inr e) = each_old m j y there (sym e ∙ there) (y.conn == l.conn) refl

      apart_lines : (m j p q : ℕ) (y z : Line) → Was lines m j y → Was lines p q z → y.conn ≡ z.conn → (m ≡ p) × (j ≡ q)
      apart_lines m j p q y z v w same = is.apart m j p q v.old_line w.old_line v.there w.there (sym v.conn ∙ same ∙ w.conn)

      covered_at : (conn m j : ℕ) (y : Line) → line_at lines m j ≡ Some y → y.conn ≡ conn → ((m ≡ n) × (j ≡ k)) ⊎ (line_at later m j ≡ line_at lines m j) → HasLine later conn
      covered_at conn m j y there on (inr e) = record { client = m; session = j; line = y; there = e ∙ there; on = on }
      covered_at conn m j y there on (inl w) =
          let same : l ≡ y = some_same (sym at ∙ sym (ap (λ i. line_at lines i j) w.0 ∙ ap (λ i. line_at lines n i) w.1) ∙ there) in
          record { client = n; session = k; line = x; there = put.there; on = takes.conn ∙ ap (λ (z : Line). z.conn) same ∙ on }

      covered_line : (conn : ℕ) → HasLine lines conn → HasLine later conn
      covered_line conn has = covered_at conn has.client has.session has.line has.there has.on (put.others has.client has.session)

      grown_at : (m j : ℕ) (y : Line) → (g : IsGrown lines m j y) → ((m ≡ n) × (j ≡ k)) ⊎ (line_at later m j ≡ line_at lines m j) → IsGrown later m j y
      grown_at m j y g (inr e) = record { later = g.later; there = e ∙ g.there; conn = g.conn; kid = g.kid; more = g.more; taken = g.taken }
      grown_at m j y g (inl w) =
          let same : l ≡ g.later = some_same (sym at ∙ sym (ap (λ i. line_at lines i j) w.0 ∙ ap (λ i. line_at lines n i) w.1) ∙ g.there) in
          record {
            later = x;
            there = ap (λ i. line_at later i j) w.0 ∙ ap (λ i. line_at later n i) w.1 ∙ put.there;
            conn = takes.conn ∙ ap (λ (z : Line). z.conn) same ∙ g.conn;
            kid = takes.kid ∙ ap (λ (z : Line). z.kid) same ∙ g.kid;
            more = g.more ++ takes.new_taken;
            taken = takes.taken ∙ ap (λ (z : Line). z.receiving.taken ++ takes.new_taken) same ∙ ap (λ arrivals. arrivals ++ takes.new_taken) g.taken
                ∙ append_assoc y.receiving.taken g.more takes.new_taken;
          }

      grown_line : (m j : ℕ) (y : Line) → IsGrown lines m j y → IsGrown later m j y
      grown_line m j y g = grown_at m j y g (put.others m j)
