-- A line begins: a connection is opened, and a session has it.
use Rattle.std.proofs.Common.{◌≡◌, ◌<◌, ◌+◌, ℕ, suc, ◌==◌, Bool, true, false, List, [], ◌∷◌, ◌++◌, Option, Some, None, refl, sym, ap, ◌∙◌, subst, arith, inl, inr, append-nil, add-one}
use Rattle.std.specs.Prelude.{◌⊎◌}
use Rattle.std.proofs.lemmas.Bool.{eq-eqb, eqb-false, eqb-true, false≢true}
use Rattle.vpn_base.specs.declared.names.Conn.{Conn}
use Rattle.vpn_base.specs.declared.names.Role.{Role}
use Rattle.vpn_links.specs.Actions.{Action, EngineOpen}
use Rattle.reliable_recv.specs.Receiving.{Arrival, begun, in_order, text}
use Rattle.control_link.specs.Reading.{IsReadUp}
use Rattle.peer_table.specs.KeySessions.{kid_of}
use Rattle.control_laws.specs.Puts.{only_if, put_on}
use Rattle.control_laws.proofs.Actions.{none_some, some_same, within}
use Rattle.control_laws.proofs.Lines.{Line, LinePut, line_at}
use Rattle.control_laws.proofs.Kept.{Before, HasLine, IsGrown, IsLine, KeptParts, begun_line, opened_more, put_more}

text_none : [] ≡ text []
unfolding text in_order
text_none = refl

only_true : (b : Bool) (o : Option ℕ) → b ≡ true → only_if b o ≡ o
only_true true o is = refl
only_true false o is = absurd (false≢true is)

module _ {brought : ℕ → ℕ → Arrival → Type 0} {base : Before} where
  pub begins_kept : {key : List ℕ} {count : ℕ} {lines : List (List Line)} {effects : List Action} (later : List (List Line)) (n k : ℕ) (conn : Conn) (role : Role) →
      IsReadUp begun → conn.0 ≡ count → line_at lines n k ≡ None → LinePut lines later n k (begun_line conn.0 (kid_of k)) →
      KeptParts brought base key count lines effects → KeptParts brought base key (count + 1) later (effects ++ EngineOpen conn role ∷ [])
  begins_kept {count = count} {lines = lines} {effects = effects} later n k conn role up next none put is = record {
    same_key = is.same_key;
    opened = opened_more base.past effects (EngineOpen conn role ∷ []) count is.opened
        ∙ only_true (conn.0 == count) (Some (suc count)) (eq-eqb conn.0 count next) ∙ ap (λ m. Some m) (sym (add-one count));
    each = λ m j y there. each_line m j y there (put.others m j);
    apart = λ m j p q y z there that same. apart_lines m j p q y z there that same (put.others m j) (put.others p q);
    covered = λ on less. covered_line on less (on == count) refl;
    grown = λ m j y there. grown_line m j y (is.grown m j y there);
  }
    where
      is_new : (m j : ℕ) (y : Line) → line_at later m j ≡ Some y → m ≡ n → j ≡ k → begun_line conn.0 (kid_of k) ≡ y
      is_new m j y there e f =
          some_same (sym put.there ∙ sym (ap (λ i. line_at later i j) e ∙ ap (λ i. line_at later n i) f) ∙ there)

      still_put : (on : ℕ) → put_on on (base.past ++ (effects ++ EngineOpen conn role ∷ [])) ≡ put_on on (base.past ++ effects)
      still_put on = put_more on base.past effects (EngineOpen conn role ∷ []) ∙ append-nil (put_on on (base.past ++ effects))

      new_line : IsLine brought n k (begun_line conn.0 (kid_of k)) (base.past ++ (effects ++ EngineOpen conn role ∷ [])) (count + 1)
      new_line = record {
        below = omega (arith, next);
        kid = refl;
        read = up;
        put = still_put conn.0 ∙ (within (base.past ++ effects) 0 count is.opened).beyond conn.0 (omega (arith, next)) ∙ text_none;
        arrivals = tt;
      }

      each_line : (m j : ℕ) (y : Line) → line_at later m j ≡ Some y → ((m ≡ n) × (j ≡ k)) ⊎ (line_at later m j ≡ line_at lines m j) →
          IsLine brought m j y (base.past ++ (effects ++ EngineOpen conn role ∷ [])) (count + 1)
      each_line m j y there (inl w) =
          subst (λ i. IsLine brought i j y (base.past ++ (effects ++ EngineOpen conn role ∷ [])) (count + 1)) (sym w.0)
          (subst (λ i. IsLine brought n i y (base.past ++ (effects ++ EngineOpen conn role ∷ [])) (count + 1)) (sym w.1)
          (subst (λ z. IsLine brought n k z (base.past ++ (effects ++ EngineOpen conn role ∷ [])) (count + 1)) (is_new m j y there w.0 w.1) new_line))
      each_line m j y there (inr e) =
          let line = is.each m j y (sym e ∙ there) in
          let below = line.below in record {
            below = omega (arith, below);
            kid = line.kid;
            read = line.read;
            put = still_put y.conn ∙ line.put;
            arrivals = line.arrivals;
          }

      -- a line that was there before has a connection below the count, and the new one has not
      not_new : (m j p q : ℕ) (y z : Line) → line_at later m j ≡ Some y → m ≡ n → j ≡ k → line_at lines p q ≡ Some z → y.conn ≡ z.conn → ⊥
      not_new m j p q y z there e f that same =
          let new_conn = ap (λ (x : Line). x.conn) (is_new m j y there e f) in
          let below = (is.each p q z that).below in
          absurd (omega (arith, new_conn, below, same, next))

      apart_lines : (m j p q : ℕ) (y z : Line) → line_at later m j ≡ Some y → line_at later p q ≡ Some z → y.conn ≡ z.conn →
          ((m ≡ n) × (j ≡ k)) ⊎ (line_at later m j ≡ line_at lines m j) → ((p ≡ n) × (q ≡ k)) ⊎ (line_at later p q ≡ line_at lines p q) → (m ≡ p) × (j ≡ q)
      apart_lines m j p q y z there that same (inl v) (inl w) = (v.0 ∙ sym w.0, v.1 ∙ sym w.1)
      apart_lines m j p q y z there that same (inl v) (inr f) = absurd (not_new m j p q y z there v.0 v.1 (sym f ∙ that) same)
      apart_lines m j p q y z there that same (inr e) (inl w) = absurd (not_new p q m j z y that w.0 w.1 (sym e ∙ there) (sym same))
      apart_lines m j p q y z there that same (inr e) (inr f) = is.apart m j p q y z (sym e ∙ there) (sym f ∙ that) same

      -- a line that was there before is there still
      still_there : (m j : ℕ) (y : Line) → line_at lines m j ≡ Some y → ((m ≡ n) × (j ≡ k)) ⊎ (line_at later m j ≡ line_at lines m j) → line_at later m j ≡ Some y
      still_there m j y there (inl w) =
          absurd (none_some (sym none ∙ sym (ap (λ i. line_at lines i j) w.0 ∙ ap (λ i. line_at lines n i) w.1) ∙ there))
      still_there m j y there (inr e) = e ∙ there

      covered_line : (on : ℕ) → on < count + 1 → (same : Bool) → (on == count) ≡ same → HasLine later on
      covered_line on less true e = record {
        client = n;
        session = k;
        line = begun_line conn.0 (kid_of k);
        there = put.there;
        on = next ∙ sym (eqb-true on count e);
      }
      covered_line on less false e =
          let other = eqb-false on count e in
          let has = is.covered on (omega (arith, less, other)) in
          record {
            client = has.client;
            session = has.session;
            line = has.line;
            there = still_there has.client has.session has.line has.there (put.others has.client has.session);
            on = has.on;
          }

      grown_line : (m j : ℕ) (y : Line) → IsGrown lines m j y → IsGrown later m j y
      grown_line m j y g = record {
        later = g.later;
        there = still_there m j g.later g.there (put.others m j);
        conn = g.conn;
        kid = g.kid;
        more = g.more;
        taken = g.taken;
      }
