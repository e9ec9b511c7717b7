-- What a step has kept, which may have refused what came.
use Rattle.std.proofs.Common.{◌≡◌, ℕ, suc, Bool, true, false, not, List, [], ◌∷◌, ◌++◌, map, refl, sym, ◌∙◌}
use Rattle.std.specs.Prelude.{◌⊎◌}
use Rattle.std.proofs.lemmas.Bool.{false≢true, not-true}
use Rattle.vpn_links.specs.Actions.{Action, Report, on_wire, stops}
use Rattle.vpn_links.specs.declared.notes.Note.{Note}
use Rattle.server_table.specs.Table.{Table}
use Rattle.server_table.specs.Courses.{Course, Staged, outs, reported}
use Rattle.server_table.specs.Refusals.{is_refused, is_refusing_note}
use Rattle.server_table.proofs.Kept.{Kept, KeptParts, begins_late, is_refusing, plain_late, plain_onward, steady_of, stops_append}

-- all is kept, nothing that was done ends the program, and where it was refused nothing has changed
pub record Settled (a : Table) (k : ℕ) (c : Course) : Type 0 where
  pub kept : KeptParts a k (steady_of c.table) c.table.clients c.table.routes.rows []
  pub onward : stops c.effects ≡ false
  pub refused : is_refused (outs c) ≡ true → c.table ≡ a

-- the same where a client may have been admitted
abbrev pub Finished : Table → ℕ → Course → Type 0
Finished a k c = Settled a k c ⊎ Settled a (suc k) c

-- what does not begin with a refusal is none
pub not_refused : (done : List Action) (staged : List Staged) → begins_late done ≡ true →
    is_refused (done ++ map (λ (s : Staged). on_wire s.datagram) staged) ≡ false
not_refused [] [] late = refl
not_refused [] (s ∷ staged) late = refl
not_refused (Report note ∷ []) [] late = not-true (is_refusing_note note) late
not_refused (Report note ∷ []) (s ∷ staged) late = refl
not_refused (Report note ∷ action ∷ done) staged late = refl
not_refused (action ∷ done) staged late = refl

-- datagrams end nothing
pub onward_outs : (done : List Action) (staged : List Staged) → stops done ≡ false → stops (done ++ map (λ (s : Staged). on_wire s.datagram) staged) ≡ false
onward_outs done staged onward = stops_append done (map (λ (s : Staged). on_wire s.datagram) staged) onward (wires staged)
  where
    wires : (staged : List Staged) → stops (map (λ (s : Staged). on_wire s.datagram) staged) ≡ false
    wires [] = refl
    wires (s ∷ staged) = wires staged

-- whether something was done that is no refusal
abbrev pub is_past : List Action → Bool
is_past [] = false
is_past (action ∷ done) = not (is_refusing action)

pub past_append : (done more : List Action) → is_past done ≡ true → is_past (done ++ more) ≡ true
past_append [] more past = absurd (false≢true past)
past_append (action ∷ done) more past = past

-- it is so once something was done
pub past_done : (done : List Action) (action : Action) (more : List Action) → not (is_refusing action) ≡ true → begins_late done ≡ true → is_past (done ++ action ∷ more) ≡ true
past_done [] action more is late = is
past_done (first ∷ done) action more is late = late

pub past_late : (done : List Action) → is_past done ≡ true → begins_late done ≡ true
past_late [] past = absurd (false≢true past)
past_late (action ∷ done) past = past

-- a course that may be refused yet: nothing was done to its table, or else something was done that is no refusal
abbrev pub MayRefuse : Table → Course → Type 0
MayRefuse a c = (c.table ≡ a) ⊎ (is_past c.effects ≡ true)

module _ {a : Table} {k : ℕ} where
  pub kept_settled : (c : Course) → Kept a k c → Settled a k c
  kept_settled c is = record {
    kept = record { steady = is.steady; count = is.count; sound = is.sound; still = is.still; plain = refl };
    onward = plain_onward c.effects is.plain;
    refused = λ refused. absurd (false≢true (sym (not_refused c.effects c.staged (plain_late c.effects is.plain)) ∙ refused));
  }

  pub refusal_settled : (note : Note) (c : Course) → c.table ≡ a → Kept a k c → Settled a k (reported note c)
  refusal_settled note c same is = record {
    kept = record { steady = is.steady; count = is.count; sound = is.sound; still = is.still; plain = refl };
    onward = stops_append c.effects (Report note ∷ []) (plain_onward c.effects is.plain) refl;
    refused = λ refused. same;
  }
