-- Words that are written into a line and read from it again.
use Rattle.std.proofs.Common.{◌≡◌, ℕ, suc, ◌+◌, ◌≤◌, ◌==◌, ◌||◌, ◌&&◌, Bool, true, false, not, cond, List, [], ◌∷◌, ◌++◌, length, map, Some, None, Ok, refl, ap, sym, ◌∙◌, arith}
use Rattle.std.proofs.lemmas.Grind.{common_steps}
use Rattle.std.proofs.lemmas.List.{append_assoc, append-nil}
use Rattle.std.specs.Prelude.{Option, nat_lt}
use Rattle.std.specs.List.{list_all, list_any, join_with_byte, position_or_len}
use Rattle.vpn_text.specs.declared.words.Standing.{Standing}
use Rattle.vpn_text.specs.declared.words.Standing.TheVariants.{Between, Inside, Escaped, Single, Double, DoubleEscaped, Comment}
use Rattle.vpn_text.specs.declared.words.Turn.{Turn}
use Rattle.vpn_text.specs.declared.words.Turn.TheVariants.{Move, Keep, Close}
use Rattle.vpn_text.specs.Words.{is_control, is_blank, begins_comment, turn_inside, turn_of, Reading, turned, read_on, words_of, words_unless, line_words}
use Rattle.vpn_text.specs.Quoted.{is_special, needs_quotes, escaped, quoted}

abbrev at : Standing → List ℕ → List (List ℕ) → ℕ → Reading
at s word words place = record { standing = s; word = word; words = words; place = place }

-- these bytes bring the reading there, at some place
abbrev Reads : Reading → List ℕ → Standing → List ℕ → List (List ℕ) → Type 0
Reads r xs s word words = (place : ℕ) × (read_on r xs ≡ at s word words place)

read_on-append : (r : Reading) (xs ys : List ℕ) → read_on r (xs ++ ys) ≡ read_on (read_on r xs) ys
read_on-append r [] ys = refl
read_on-append r (x ∷ xs) ys = read_on-append (turned r (turn_of r.standing r.place x) x) xs ys

or_false : (a b : Bool) → (a || b) ≡ false → (a ≡ false) × (b ≡ false)
or_false true b e = (cc, cc)
or_false false b e = (refl, e)

and_true : (a b : Bool) → (a && b) ≡ true → (a ≡ true) × (b ≡ true)
and_true true b e = (refl, e)
and_true false b e = (cc, cc)

-- what is said of a byte that is not special
record IsPlain (c : ℕ) : Type 0 where
  blank : is_blank c ≡ false
  comment : begins_comment c ≡ false
  single : (c == 39) ≡ false
  double : (c == 34) ≡ false
  back : (c == 92) ≡ false

plain_from : (c : ℕ) → is_special c ≡ false → IsPlain c
plain_from c e =
    let s = or_false _ (c == 59) e in
    let h = or_false _ (c == 35) s.0 in
    let b = or_false _ (c == 92) h.0 in
    let d = or_false _ (c == 34) b.0 in
    let q = or_false (is_blank c) (c == 39) d.0 in
    record {
      blank = q.0;
      comment = ap (λ (x : Bool). x || (c == 59)) h.1 ∙ s.1;
      single = q.1;
      double = d.1;
      back = b.1;
    }

inside_by : (a b c d : Bool) (place : ℕ) → a ≡ false → b ≡ false → c ≡ false → d ≡ false
    → cond a Close (cond b (Move (Single place)) (cond c (Move (Double place)) (cond d (Move (Escaped place)) (Keep Inside)))) ≡ Keep Inside
inside_by a b c d place e f g h = rw (e, f, g, h)

plain_inside : (place c : ℕ) → IsPlain c → turn_inside place c ≡ Keep Inside
plain_inside place c p = inside_by (is_blank c) (c == 39) (c == 34) (c == 92) place p.blank p.single p.double p.back

between_by : (a b : Bool) (t : Turn) → a ≡ false → b ≡ false → cond a (Move Between) (cond b (Move Comment) t) ≡ t
between_by a b t e f = rw (e, f)

plain_between : (place c : ℕ) → IsPlain c → turn_of Between place c ≡ Keep Inside
plain_between place c p = between_by (is_blank c) (begins_comment c) (turn_inside place c) p.blank p.comment ∙ plain_inside place c p

-- bytes that are not special are part of the word
plain_read : (cs v : List ℕ) (ws : List (List ℕ)) (p : ℕ) → list_any is_special cs ≡ false → Reads (at Inside v ws p) cs Inside (v ++ cs) ws
plain_read [] v ws p plain = (p, ap (λ (w : List ℕ). at Inside w ws p) (sym (append-nil v)))
plain_read (c ∷ cs) v ws p plain =
    let parts = or_false (is_special c) (list_any is_special cs) plain in
    let more = plain_read cs (v ++ c ∷ []) ws (p + 1) parts.1 in (
      more.0,
      ap (λ (t : Turn). read_on (turned (at Inside v ws p) t c) cs) (plain_inside p c (plain_from c parts.0))
          ∙ more.1 ∙ ap (λ (w : List ℕ). at Inside w ws more.0) (append_assoc v (c ∷ []) cs),
    )

double_by : (a b : Bool) (o : ℕ) → (a || b) ≡ false → cond a (Move Inside) (cond b (Move (DoubleEscaped o)) (Keep (Double o))) ≡ Keep (Double o)
double_by true b o e = cc
double_by false true o e = cc
double_by false false o e = refl

escaped_step : (c : ℕ) (cs : List ℕ) (b : Bool) (o : ℕ) (v : List ℕ) (ws : List (List ℕ)) (p : ℕ) → ((c == 34) || (c == 92)) ≡ b
    → ((q : ℕ) → Reads (at (Double o) (v ++ c ∷ []) ws q) (escaped cs) (Double o) ((v ++ c ∷ []) ++ cs) ws)
    → Reads (at (Double o) v ws p) (cond b (92 ∷ (c ∷ escaped cs)) (c ∷ escaped cs)) (Double o) (v ++ c ∷ cs) ws
escaped_step c cs true o v ws p e rest =
    let more = rest (p + 1 + 1) in
    (more.0, more.1 ∙ ap (λ (w : List ℕ). at (Double o) w ws more.0) (append_assoc v (c ∷ []) cs))
escaped_step c cs false o v ws p e rest =
    let more = rest (p + 1) in (
      more.0,
      ap (λ (t : Turn). read_on (turned (at (Double o) v ws p) t c) (escaped cs)) (double_by (c == 34) (c == 92) o e)
          ∙ more.1 ∙ ap (λ (w : List ℕ). at (Double o) w ws more.0) (append_assoc v (c ∷ []) cs),
    )

-- a word with its escapes is that word, in double quotes
escaped_read : (cs : List ℕ) (o : ℕ) (v : List ℕ) (ws : List (List ℕ)) (p : ℕ) → Reads (at (Double o) v ws p) (escaped cs) (Double o) (v ++ cs) ws
escaped_read [] o v ws p = (p, ap (λ (w : List ℕ). at (Double o) w ws p) (sym (append-nil v)))
escaped_read (c ∷ cs) o v ws p =
    escaped_step c cs ((c == 34) || (c == 92)) o v ws p refl (λ q. escaped_read cs o (v ++ c ∷ []) ws q)

in_quotes : (word : List ℕ) (ws : List (List ℕ)) (p : ℕ) → Reads (at Between [] ws p) (34 ∷ (escaped word ++ 34 ∷ [])) Inside word ws
in_quotes word ws p =
    let inner = escaped_read word p [] ws (p + 1) in (
      inner.0 + 1,
      read_on-append (at (Double p) [] ws (p + 1)) (escaped word) (34 ∷ []) ∙ ap (λ (r : Reading). read_on r (34 ∷ [])) inner.1,
    )

as_it_is : (word : List ℕ) (ws : List (List ℕ)) (p : ℕ) → needs_quotes word ≡ false → Reads (at Between [] ws p) word Inside word ws
as_it_is [] ws p plain = cc
as_it_is (c ∷ cs) ws p plain =
    let parts = or_false (length (c ∷ cs) == 0) (list_any is_special (c ∷ cs)) plain in
    let bytes = or_false (is_special c) (list_any is_special cs) parts.1 in
    let more = plain_read cs (c ∷ []) ws (p + 1) bytes.1 in
    (more.0, ap (λ (t : Turn). read_on (turned (at Between [] ws p) t c) cs) (plain_between p c (plain_from c bytes.0)) ∙ more.1)

quoted_by : (b : Bool) (word : List ℕ) (ws : List (List ℕ)) (p : ℕ) → needs_quotes word ≡ b
    → Reads (at Between [] ws p) (cond b (34 ∷ (escaped word ++ 34 ∷ [])) word) Inside word ws
quoted_by true word ws p e = in_quotes word ws p
quoted_by false word ws p e = as_it_is word ws p e

-- a word that is written is read
quoted_read : (word : List ℕ) (ws : List (List ℕ)) (p : ℕ) → Reads (at Between [] ws p) (quoted word) Inside word ws
unfolding quoted
quoted_read word ws p = quoted_by (needs_quotes word) word ws p refl

-- and so are words with spaces between them
joined_read : (words ws : List (List ℕ)) (p : ℕ) → words_of (read_on (at Between [] ws p) (join_with_byte 32 (map quoted words))) ≡ Ok (ws ++ words)
joined_read [] ws p = ap (λ (l : List (List ℕ)). Ok l) (sym (append-nil ws))
joined_read (word ∷ []) ws p = ap words_of (quoted_read word ws p).1
joined_read (word ∷ next ∷ words) ws p =
    let first = quoted_read word ws p in
    let rest = join_with_byte 32 (map quoted (next ∷ words)) in
    ap words_of (read_on-append (at Between [] ws p) (quoted word) (32 ∷ rest))
    ∙ ap (λ (r : Reading). words_of (read_on r (32 ∷ rest))) first.1
    ∙ joined_read (next ∷ words) (ws ++ word ∷ []) (first.0 + 1)
    ∙ ap (λ (l : List (List ℕ)). Ok l) (append_assoc ws (word ∷ []) (next ∷ words))

-- no control byte
abbrev IsAllowed : List ℕ → Type 0
IsAllowed cs = list_all (λ c. not (is_control c)) cs ≡ true

allowed-append : (xs ys : List ℕ) → IsAllowed xs → IsAllowed ys → IsAllowed (xs ++ ys)
allowed-append [] ys p q = q
allowed-append (x ∷ xs) ys p q =
    let parts = and_true (not (is_control x)) (list_all (λ c. not (is_control c)) xs) p in
    rw parts.0 (allowed-append xs ys parts.1 q)

allowed-cons : (x : ℕ) (xs : List ℕ) → not (is_control x) ≡ true → IsAllowed xs → IsAllowed (x ∷ xs)
allowed-cons x xs p q = rw p q

allowed_by : (b : Bool) (c : ℕ) (cs : List ℕ) → not (is_control c) ≡ true → IsAllowed cs → IsAllowed (cond b (92 ∷ (c ∷ cs)) (c ∷ cs))
allowed_by true c cs p q = allowed-cons c cs p q
allowed_by false c cs p q = allowed-cons c cs p q

allowed_escaped : (cs : List ℕ) → IsAllowed cs → IsAllowed (escaped cs)
allowed_escaped [] p = refl
allowed_escaped (c ∷ cs) p =
    let parts = and_true (not (is_control c)) (list_all (λ d. not (is_control d)) cs) p in
    allowed_by ((c == 34) || (c == 92)) c (escaped cs) parts.0 (allowed_escaped cs parts.1)

allowed_quoted_by : (b : Bool) (word : List ℕ) → IsAllowed word → IsAllowed (cond b (34 ∷ (escaped word ++ 34 ∷ [])) word)
allowed_quoted_by true word p = allowed-append (escaped word) (34 ∷ []) (allowed_escaped word p) refl
allowed_quoted_by false word p = p

allowed_quoted : (word : List ℕ) → IsAllowed word → IsAllowed (quoted word)
unfolding quoted
allowed_quoted word p = allowed_quoted_by (needs_quotes word) word p

allowed_joined : (words : List (List ℕ)) → list_all (λ word. list_all (λ c. not (is_control c)) word) words ≡ true
    → IsAllowed (join_with_byte 32 (map quoted words))
allowed_joined [] p = refl
allowed_joined (word ∷ []) p = allowed_quoted word (and_true (list_all (λ c. not (is_control c)) word) true p).0
allowed_joined (word ∷ next ∷ words) p =
    let parts = and_true (list_all (λ c. not (is_control c)) word) (list_all (λ w. list_all (λ c. not (is_control c)) w) (next ∷ words)) p in
    allowed-append (quoted word) (32 ∷ join_with_byte 32 (map quoted (next ∷ words))) (allowed_quoted word parts.0) (allowed_joined (next ∷ words) parts.1)

past_by : (b : Bool) (n m : ℕ) → not b ≡ true → n ≤ m → suc n ≤ cond (not b) (1 + m) 0
past_by true n m p q = cc
past_by false n m p q = omega arith

past_all : (cs : List ℕ) → IsAllowed cs → length cs ≤ position_or_len is_control cs
past_all [] p = omega arith
past_all (c ∷ cs) p =
    let parts = and_true (not (is_control c)) (list_all (λ d. not (is_control d)) cs) p in
    past_by (is_control c) (length cs) (position_or_len is_control cs) parts.0 (past_all cs parts.1)

none_by : (m n : ℕ) → n ≤ m → cond (nat_lt m n) (Some m) None ≡ None
none_by m n past = grind (arith, common_steps)

-- words without control bytes are read again
pub words_again : (words : List (List ℕ)) → list_all (λ word. list_all (λ c. not (is_control c)) word) words ≡ true
    → line_words (join_with_byte 32 (map quoted words)) ≡ Ok words
unfolding line_words
words_again words p =
    let line = join_with_byte 32 (map quoted words) in
    ap (λ (place : Option ℕ). words_unless place line) (none_by (position_or_len is_control line) (length line) (past_all line (allowed_joined words p)))
    ∙ joined_read words [] 0
