-- How a run goes on and ends.
use Rattle.std.proofs.Common.{◌≡◌, ℕ, ◌+◌, ◌≤◌, ◌<◌, List, [], ◌++◌, length, take, drop, refl, ap, ◌∙◌, sym, append_assoc, append-nil, take-add, length-drop, length-take-le, min, inl, inr, arith}
use Rattle.std.specs.Prelude.{Option}
use Rattle.std.proofs.lemmas.List.{take_all, take-append-drop, take-append-le}
use Rattle.std.proofs.lemmas.Bool.{cases_lt}
use Rattle.std.proofs.Math.Seq.{take-append-add, take-append_seam}
use Rattle.schedule_text.specs.declared.kind.TextKind.{TextKind}
use Rattle.vpn_base.specs.Files.{Holding, Untold, Absent, Held, Copied}
use Rattle.vpn_base.specs.Sink.{appended}
use Rattle.route_file.specs.Output.{Outcome, printed_before, routes}
use Rattle.route_file.specs.Progress.{Progress, outcome_with, Ends}
use Rattle.vpn_top.specs.Partly.{AppendedPart}
use Rattle.vpn_top.specs.Written.{Printed, PrintedPart, IsWhole, IsFile}
use Rattle.vpn_top.specs.internal.Going.{Going, IsFront, IsEnd, IsNext, Settled}
use Rattle.replay_links.proofs.Appending.{appended-appended, appended-nil}

-- the whole output is written
pub all_written : (h : Holding) (before c after : Option (List ℕ)) (text : List ℕ) (fault : Option (ℕ × TextKind)) →
    Settled h before c text fault → after ≡ appended c text → Printed h before after fault
all_written h before c after text fault s wrote = record {
  bytes = s.bytes;
  whole = s.whole;
  faulty = ap (λ (o : Outcome). o.fault) s.outcome;
  written = wrote ∙ (ap (λ x. appended x text) s.contents ∙ (appended-appended before s.written text ∙ ap (appended before) (sym (ap (λ (o : Outcome). o.printed) s.outcome))));
}

-- the bytes of a whole file are those of the file
pub file_of : (h : Holding) (bytes : List ℕ) → IsWhole h bytes → IsFile h bytes
file_of Untold bytes whole = tt
file_of Absent bytes whole = absurd whole
file_of (Held held) bytes whole = whole

-- a front of the last text is written
pub part_written : (h : Holding) (before c after : Option (List ℕ)) (text : List ℕ) (fault : Option (ℕ × TextKind)) →
    Settled h before c text fault → AppendedPart c after text → PrintedPart h before after
part_written h before c after text fault s part = record {
  bytes = s.bytes;
  length = length s.written + part.length;
  file = file_of h s.bytes s.whole;
  written = part.is ∙ (ap (λ x. appended x (take part.length text)) s.contents ∙ (appended-appended before s.written (take part.length text)
      ∙ ap (appended before) (sym (take-append-add s.written text part.length) ∙ ap (take (length s.written + part.length)) (sym (ap (λ (o : Outcome). o.printed) s.outcome)))));
}

front_none : (h : Holding) → IsFront h 0 []
front_none Untold = tt
front_none Absent = refl
front_none (Held held) = (refl, omega arith)

-- nothing was read and written yet
pub nothing_yet : (h : Holding) (before : Option (List ℕ)) (p : Progress) → ((text : List ℕ) → outcome_with p text ≡ routes text) → Going h before before 0 p
nothing_yet h before p begun = record {
  bytes = [];
  written = [];
  front = front_none h;
  contents = appended-nil before;
  outcome = λ rest. sym (begun rest);
}

-- what was written so far is a front of what the file prints
record FileFor (h : Holding) (bytes : List ℕ) : Type 0 where
  rest : List ℕ
  is : IsFile h (bytes ++ rest)

rest_of : (h : Holding) (at : ℕ) (bytes : List ℕ) → IsFront h at bytes → FileFor h bytes
rest_of Untold at bytes front = record { rest = []; is = tt }
rest_of Absent at bytes front = record { rest = []; is = rw front refl }
rest_of (Held held) at bytes front = record { rest = drop at held; is = rw front.0 (take-append-drop at held) }

pub part_of : (h : Holding) (before c : Option (List ℕ)) (at : ℕ) (p : Progress) → Going h before c at p → PrintedPart h before c
part_of h before c at p s =
    let file = rest_of h at s.bytes s.front in
    let printed : (routes (s.bytes ++ file.rest)).printed ≡ s.written ++ (outcome_with p file.rest).printed =
    ap (λ (o : Outcome). o.printed) (s.outcome file.rest) in
    record {
      bytes = s.bytes ++ file.rest;
      length = length s.written;
      file = file.is;
      written = s.contents ∙ ap (appended before) (sym (ap (take (length s.written)) printed ∙ take-append_seam s.written (outcome_with p file.rest).printed));
    }

-- a piece more was read
front_more : (h : Holding) (at : ℕ) (bytes piece : List ℕ) → IsFront h at bytes → IsNext h at piece → IsFront h (at + length piece) (bytes ++ piece)
front_more Untold at bytes piece front next = tt
front_more Absent at bytes piece front next = absurd next
front_more (Held held) at bytes piece front next = (
  rw (front.0) (ap (λ p. take at held ++ p) next.0 ∙ sym (take-add at (length piece) held)),
  omega (arith, length-drop at held, next.1, front.1),
)

pub piece_read : (h : Holding) (before c : Option (List ℕ)) (at : ℕ) (p q : Progress) (piece : List ℕ) → IsNext h at piece → Going h before c at p →
    ((more : List ℕ) → outcome_with p (piece ++ more) ≡ outcome_with q more) → Going h before c (at + length piece) q
piece_read h before c at p q piece next s fed = record {
  bytes = s.bytes ++ piece;
  written = s.written;
  front = front_more h at s.bytes piece s.front next;
  contents = s.contents;
  outcome = λ rest. ap routes (append_assoc s.bytes piece rest) ∙ (s.outcome (piece ++ rest) ∙ ap (printed_before s.written) (fed rest));
}

printed_twice : (a b : List ℕ) (o : Outcome) → printed_before a (printed_before b o) ≡ printed_before (a ++ b) o
printed_twice a b o = ap (λ t. record { printed = t; fault = o.fault }) (sym (append_assoc a b o.printed))

-- what was printed is written
pub printed_written : (h : Holding) (before c after : Option (List ℕ)) (at : ℕ) (p q : Progress) → Going h before c at p → after ≡ appended c p.printed →
    ((rest : List ℕ) → outcome_with p rest ≡ printed_before p.printed (outcome_with q rest)) → Going h before after at q
printed_written h before c after at p q s wrote left = record {
  bytes = s.bytes;
  written = s.written ++ p.printed;
  front = s.front;
  contents = wrote ∙ (ap (λ x. appended x p.printed) s.contents ∙ appended-appended before s.written p.printed);
  outcome = λ rest. s.outcome rest ∙ (ap (printed_before s.written) (left rest) ∙ printed_twice s.written p.printed (outcome_with q rest));
}

front_all : (n : ℕ) (text tail : List ℕ) → length text < n → take (min n (length text)) (text ++ tail) ≡ take n text
front_all n text tail more =
    let at : min n (length text) ≡ length text = omega arith in
    rw at (take-append_seam text tail ∙ sym (take_all n text (omega arith)))

front_some : (n : ℕ) (text tail : List ℕ) → n ≤ length text → take (min n (length text)) (text ++ tail) ≡ take n text
front_some n text tail fits =
    let at : min n (length text) ≡ n = omega arith in
    rw at (take-append-le n text tail fits)

-- a front of a text is one of the text with more behind it
front_of : (n : ℕ) (text tail : List ℕ) → take (min n (length text)) (text ++ tail) ≡ take n text
front_of n text tail = elim (cases_lt (length text) n) [ inl more ↦ front_all n text tail more | inr fits ↦ front_some n text tail fits ]

-- only a front of it is written
pub printed_in_part : (h : Holding) (before c after : Option (List ℕ)) (at : ℕ) (p : Progress) → Going h before c at p → AppendedPart c after p.printed →
    ((rest : List ℕ) → outcome_with p rest ≡ printed_before p.printed (outcome_with (record p { printed = [] }) rest)) → PrintedPart h before after
printed_in_part h before c after at p s part first =
    let file = rest_of h at s.bytes s.front in
    let tail = (outcome_with (record p { printed = [] }) file.rest).printed in
    let k = min part.length (length p.printed) in
    let whole : (routes (s.bytes ++ file.rest)).printed ≡ s.written ++ (p.printed ++ tail) =
    ap (λ (o : Outcome). o.printed) (s.outcome file.rest ∙ ap (printed_before s.written) (first file.rest)) in
    let front : take (length s.written + k) (routes (s.bytes ++ file.rest)).printed ≡ s.written ++ take part.length p.printed =
    ap (take (length s.written + k)) whole ∙ (take-append-add s.written (p.printed ++ tail) k ∙ ap (λ t. s.written ++ t) (front_of part.length p.printed tail)) in
    record {
      bytes = s.bytes ++ file.rest;
      length = length s.written + k;
      file = file.is;
      written = part.is ∙ (ap (λ x. appended x (take part.length p.printed)) s.contents
          ∙ (appended-appended before s.written (take part.length p.printed) ∙ ap (appended before) (sym front)));
    }

record RestBehind (h : Holding) (bytes piece : List ℕ) : Type 0 where
  rest : List ℕ
  is : IsWhole h (bytes ++ (piece ++ rest))

rest_behind : (h : Holding) (at : ℕ) (bytes piece : List ℕ) → IsFront h at bytes → IsNext h at piece → RestBehind h bytes piece
rest_behind Untold at bytes piece front next = record { rest = []; is = tt }
rest_behind Absent at bytes piece front next = absurd next
rest_behind (Held held) at bytes piece front next =
    let n = length piece in
    let behind : piece ++ drop n (drop at held) ≡ drop at held =
    ap (λ p. p ++ drop n (drop at held)) next.0 ∙ take-append-drop n (drop at held) in
    record {
      rest = drop n (drop at held);
      is = rw front.0 (ap (λ t. take at held ++ t) behind ∙ take-append-drop at held);
    }

-- the file is refused
pub refused_here : (h : Holding) (before c : Option (List ℕ)) (at : ℕ) (p : Progress) (piece text : List ℕ) (fault : Option (ℕ × TextKind)) → IsNext h at piece →
    Going h before c at p → ((more : List ℕ) → Ends (outcome_with p (piece ++ more)) text fault) → Settled h before c text fault
refused_here h before c at p piece text fault next s ends =
    let file = rest_behind h at s.bytes piece s.front next in
    record {
      bytes = s.bytes ++ (piece ++ file.rest);
      written = s.written;
      whole = file.is;
      contents = s.contents;
      outcome = s.outcome (piece ++ file.rest) ∙ ap (printed_before s.written) (ends file.rest);
    }

whole_at : (h : Holding) (at : ℕ) (bytes : List ℕ) → IsEnd h at → IsFront h at bytes → IsWhole h bytes
whole_at Untold at bytes end front = tt
whole_at Absent at bytes end front = end
whole_at (Held held) at bytes end front = front.0 ∙ take_all at held end

-- the file is at its end
pub finished_here : (h : Holding) (before c : Option (List ℕ)) (at : ℕ) (p : Progress) (text : List ℕ) (fault : Option (ℕ × TextKind)) → IsEnd h at →
    Going h before c at p → Ends (outcome_with p []) text fault → Settled h before c text fault
finished_here h before c at p text fault end s ends = record {
  bytes = s.bytes;
  written = s.written;
  whole = whole_at h at s.bytes end s.front;
  contents = s.contents;
  outcome = ap routes (sym (append-nil s.bytes)) ∙ (s.outcome [] ∙ ap (printed_before s.written) ends);
}

-- what was copied tells where the file ends and what stands next in it
pub end_of : (h : Holding) (at : ℕ) (buffer : List ℕ) → 0 < length buffer → Copied h at 0 buffer → IsEnd h at
end_of Untold at buffer some copied = tt
end_of Absent at buffer some copied = copied
end_of (Held held) at buffer some copied = copied.2 some refl

pub next_of : (h : Holding) (at n : ℕ) (buffer : List ℕ) → n ≤ length buffer → Copied h at n buffer → IsNext h at (take n buffer)
next_of Untold at n buffer fits copied = tt
next_of Absent at n buffer fits copied = copied
next_of (Held held) at n buffer fits copied =
    let long : length (take n buffer) ≡ n = length-take-le n buffer fits in
    rw long (copied.0, copied.1)

-- nothing was written
pub nothing_written : (h : Holding) (before : Option (List ℕ)) → PrintedPart h before before
nothing_written Untold before = record { bytes = []; length = 0; file = tt; written = appended-nil before }
nothing_written Absent before = record { bytes = []; length = 0; file = refl; written = appended-nil before }
nothing_written (Held held) before = record { bytes = held; length = 0; file = refl; written = appended-nil before }
