-- Lines that can only be too long.
use Rattle.std.proofs.Common.{◌≡◌, ℕ, ◌+◌, ◌-◌, ◌≤◌, ◌<◌, ◌==◌, Bool, true, false, List, [], ◌∷◌, ◌++◌, length, append_assoc, length-append, length-take, refl, ap, sym, ◌∙◌, arith, inl, inr}
use Rattle.std.specs.Prelude.{Some, Err, cond, ◌⊎◌, take, slice_index, nat_lt}
use Rattle.std.specs.List.{slice_split}
use Rattle.schedule_text.specs.declared.kind.TextKind.TheVariants as kinds
use Rattle.schedule_text.specs.RouteLine.{route_line, longest_line}
use Rattle.vpn_base.specs.Lines.{Line, lines_of, lines_of_parts, content, size}
use Rattle.route_file.specs.Output.{judged, longest_file}
use Rattle.route_file.specs.Progress.{Progress, outcome_with, Ends}
use Rattle.route_file.specs.internal.Within.{IsOneLine}
use Rattle.route_file.proofs.Cuts.{split_append, has_part, one_line_append}
use Rattle.route_file.proofs.Steps.{refused_at, past_limit}

-- the first line of a text begins with this
record Begins (front text : List ℕ) : Type 0 where
  body : List ℕ
  ended : Bool
  rest : List Line
  is : lines_of text ≡ record { body = body; ended = ended } ∷ rest
  long : length front ≤ length body

last_of : (body : List ℕ) → 0 < length body → lines_of_parts (body ∷ []) ≡ record { body = body; ended = false } ∷ []
last_of [] some = absurd (omega arith)
last_of (c ∷ body) some = grind arith

begins_of : (front more : List ℕ) (parts : List (List ℕ)) → slice_split (λ c. c == 10) more ≡ parts → IsOneLine front → 0 < length front → 0 < length parts →
    Begins front (front ++ more)
unfolding lines_of
begins_of front more [] is one some parts = absurd (omega arith)
begins_of front more (a ∷ []) is one some parts =
    let split : slice_split (λ c. c == 10) (front ++ more) ≡ (front ++ a) ∷ [] = split_append (λ c. c == 10) front more a [] one is in
    record {
      body = front ++ a;
      ended = false;
      rest = [];
      is = ap lines_of_parts split ∙ last_of (front ++ a) (omega (arith, length-append front a));
      long = omega (arith, length-append front a);
    }
begins_of front more (a ∷ b ∷ parts) is one some some_parts =
    let split : slice_split (λ c. c == 10) (front ++ more) ≡ (front ++ a) ∷ b ∷ parts = split_append (λ c. c == 10) front more a (b ∷ parts) one is in
    record {
      body = front ++ a;
      ended = true;
      rest = lines_of_parts (b ∷ parts);
      is = ap lines_of_parts split;
      long = omega (arith, length-append front a);
    }

-- a line loses at most a carriage return
length-strip : (body : List ℕ) (b : Bool) → length body ≤ length (cond b (take (length body - 1) body) body) + 1
length-strip body true = omega (arith, length-take (length body - 1) body)
length-strip body false = omega arith

length-content : (body : List ℕ) (ended : Bool) → length body ≤ length (content (record { body = body; ended = ended })) + 1
length-content body true = length-strip body (slice_index body (length body - 1) == 13)
length-content body false = omega arith

long_text : (text : List ℕ) → longest_line < length text → route_line text ≡ Err kinds.Long
unfolding route_line
long_text text long = grind arith

long_line : (end : ℕ) (line : Line) (b : Bool) → nat_lt longest_file end ≡ b → longest_line < length (content line) → judged end line ≡ Err kinds.Long
long_line end line true past long = grind arith
long_line end line false past long = rw (past, long_text (content line) long) refl

judged_long : (end : ℕ) (line : Line) → (140001 < length line.body) ⊎ (longest_file < end) → judged end line ≡ Err kinds.Long
judged_long end line (inl long) =
    long_line end line (nat_lt longest_file end) refl (omega (arith, length-content line.body line.ended))
judged_long end line (inr past) = past_limit end line past

larger : (n bytes : ℕ) (line : Line) → (140001 < n) ⊎ (longest_file < bytes + n) → n ≤ length line.body →
    (140001 < length line.body) ⊎ (longest_file < bytes + size line)
larger n bytes line (inl long) more = inl (omega arith)
larger n bytes line (inr past) more = inr (omega arith)

-- what was kept and this can only be the front of a line that is too long
pub never_fits : (p : Progress) (front : List ℕ) → IsOneLine p.kept → IsOneLine front →
    (140001 < length p.kept + length front) ⊎ (longest_file < p.bytes + (length p.kept + length front)) → 0 < length p.kept + length front →
    (more : List ℕ) → Ends (outcome_with p (front ++ more)) p.printed (Some (p.count + 1, kinds.Long))
unfolding outcome_with
never_fits p front one_kept one_front long some more =
    let whole = one_line_append p.kept front one_kept one_front in
    let first = begins_of (p.kept ++ front) more (slice_split (λ c. c == 10) more) refl whole
    (omega (arith, length-append p.kept front)) (has_part (λ c. c == 10) more) in
    let line : Line = record { body = first.body; ended = first.ended } in
    let parts : lines_of (p.kept ++ (front ++ more)) ≡ line ∷ first.rest = ap lines_of (sym (append_assoc p.kept front more)) ∙ first.is in
    let length_first : length p.kept + length front ≤ length first.body = omega (arith, length-append p.kept front, first.long) in
    let sized : (140001 < length line.body) ⊎ (longest_file < p.bytes + size line) = larger (length p.kept + length front) p.bytes line long length_first in
    rw parts (refused_at p line kinds.Long (judged_long (p.bytes + size line) line sized) first.rest)
