-- The words of a line, with quotes, escapes and comments (as in configuration files of OpenVPN 2.6, src/openvpn/options.c, parse_line; what quotes and backslashes do is this profile's own).
use Rattle.std.specs.Prelude.{ℕ, ◌+◌, ◌==◌, ◌&&◌, ◌||◌, nat_lt, not, Bool, List, [], ◌∷◌, ◌++◌, Option, Some, None, Result, Ok, Err, position, if◌then◌else◌}
use Rattle.vpn_text.specs.declared.words.LineFault.{LineFault}
use Rattle.vpn_text.specs.declared.words.LineKind.TheVariants.{Quote, Escape, Control}
use Rattle.vpn_text.specs.declared.words.Standing.{Standing}
use Rattle.vpn_text.specs.declared.words.Standing.TheVariants.{Between, Inside, Escaped, Single, Double, DoubleEscaped, Comment}
use Rattle.vpn_text.specs.declared.words.Turn.{Turn}
use Rattle.vpn_text.specs.declared.words.Turn.TheVariants.{Move, Keep, Close}

-- a byte that no line may have: one below 0x20 that is no tab, or 0x7F
abbrev pub is_control : ℕ → Bool
is_control c = (nat_lt c 32 && not (c == 9)) || (c == 127)

-- what divides words: a space or a tab
abbrev pub is_blank : ℕ → Bool
is_blank c = (c == 32) || (c == 9)

-- what begins a comment at the start of a word: `#` or `;`
abbrev pub begins_comment : ℕ → Bool
begins_comment c = (c == 35) || (c == 59)

-- what a byte does in a word, outside quotes: a blank ends the word, a quote opens, a backslash takes
-- the next byte, and any other byte is part of the word
abbrev pub turn_inside : ℕ → ℕ → Turn
turn_inside place c =
    if is_blank c then Close
    else if c == 39 then Move (Single place)
    else if c == 34 then Move (Double place)
    else if c == 92 then Move (Escaped place)
    else Keep Inside

-- what the byte at this place does, by where the reader stands: between words a blank does nothing, and
-- `#` or `;` begins a comment; in single quotes only the quote is not literal; in double quotes a
-- backslash takes the next byte
abbrev pub turn_of : Standing → ℕ → ℕ → Turn
turn_of Between place c =
    if is_blank c then Move Between else if begins_comment c then Move Comment else turn_inside place c
turn_of Inside place c = turn_inside place c
turn_of (Escaped at) place c = Keep Inside
turn_of (Single opened) place c = if c == 39 then Move Inside else Keep (Single opened)
turn_of (Double opened) place c =
    if c == 34 then Move Inside else if c == 92 then Move (DoubleEscaped opened) else Keep (Double opened)
turn_of (DoubleEscaped opened) place c = Keep (Double opened)
turn_of Comment place c = Move Comment

-- how far a line was read: where the reader stands, what was read of the word there, the words before
-- it, and the place of the next byte
pub record Reading : Type 0 where
  pub standing : Standing
  pub word : List ℕ
  pub words : List (List ℕ)
  pub place : ℕ

-- a byte moves the reader, is also kept as the next one of the word, or closes the word
abbrev pub turned : Reading → Turn → ℕ → Reading
turned r (Move standing) c = record { standing = standing; word = r.word; words = r.words; place = r.place + 1 }
turned r (Keep standing) c = record { standing = standing; word = r.word ++ c ∷ []; words = r.words; place = r.place + 1 }
turned r Close c = record { standing = Between; word = []; words = r.words ++ r.word ∷ []; place = r.place + 1 }

-- the reading after these bytes
abbrev pub read_on : Reading → List ℕ → Reading
read_on r [] = r
read_on r (c ∷ cs) = read_on (turned r (turn_of r.standing r.place c) c) cs

-- a line of which nothing was read
abbrev pub unread : Reading
unread = record { standing = Between; word = []; words = []; place = 0 }

-- the words at the end of the line, where no quote is open and no backslash is left over
abbrev pub words_at : Standing → Reading → Result (List (List ℕ)) LineFault
words_at Between r = Ok r.words
words_at Inside r = Ok (r.words ++ r.word ∷ [])
words_at (Escaped at) r = Err (record { place = at; kind = Escape })
words_at (Single opened) r = Err (record { place = opened; kind = Quote })
words_at (Double opened) r = Err (record { place = opened; kind = Quote })
words_at (DoubleEscaped opened) r = Err (record { place = opened; kind = Quote })
words_at Comment r = Ok r.words

-- the words that a reading has at the end of the line
abbrev pub words_of : Reading → Result (List (List ℕ)) LineFault
words_of r = words_at r.standing r

-- the words of a line whose first control byte stands here
abbrev pub words_unless : Option ℕ → List ℕ → Result (List (List ℕ)) LineFault
words_unless (Some place) line = Err (record { place = place; kind = Control })
words_unless None line = words_of (read_on unread line)

-- the words of a line, or its first fault: a control byte anywhere, then an open quote, then a backslash
-- at the end
unfoldable pub line_words : List ℕ → Result (List (List ℕ)) LineFault
line_words line = words_unless (position is_control line) line
