-- Reading a key exchange message from its front: the parts, too few bytes, or the place of the first wrong one.
use Rattle.std.specs.Prelude.{ℕ, zero, suc, ◌+◌, ◌-◌, nat_lt, ◌==◌, List, [], ◌∷◌, length, take, drop, slice_index, slice_index_or, Option, Some, None, Result, Ok, Err, if◌then◌else◌}
use Rattle.std.specs.Int.{w16, from_be_bytes}
use Rattle.vpn_base.specs.declared.names.Role.{Role}
use Rattle.vpn_base.specs.declared.names.Role.TheVariants.{Server, Client}
use Rattle.key_method2.specs.declared.message.Source.{Source}
use Rattle.key_method2.specs.declared.message.Km2.{Km2}
use Rattle.key_method2.specs.declared.message.Km2Read.{Km2Read}
use Rattle.key_method2.specs.declared.message.Km2Read.TheVariants.{Whole, More, Bad}
use Rattle.key_method2.specs.declared.stop.Stop.{Stop}
use Rattle.key_method2.specs.declared.stop.Stop.TheVariants.{Cut, Wrong}
use Rattle.key_method2.specs.Message.{opening}
use Rattle.key_method2.specs.Judging.{kind_at}

infixl 10 ◌>>=◌
-- what comes next, where nothing has stopped the reading
abbrev pub ◌>>=◌ : {A B : Type 0} → Result A Stop → (A → Result B Stop) → Result B Stop
(Ok x) >>= f = f x
(Err stop) >>= f = Err stop

-- a place that is one later
abbrev pub one_later : Option ℕ → Option ℕ
one_later None = None
one_later (Some place) = Some (place + 1)

-- the place of the first byte at the front that is another than the one wanted
unfoldable pub first_difference : List ℕ → List ℕ → Option ℕ
first_difference [] bytes = None
first_difference (want ∷ wanted) [] = None
first_difference (want ∷ wanted) (byte ∷ bytes) = if byte == want then one_later (first_difference wanted bytes) else Some 0

-- the four zero bytes and the method, as far as they are there
abbrev pub opened : Option ℕ → Result ℕ Stop
opened None = Ok 5
opened (Some place) = Err (Wrong place)

-- how many bytes a key source takes
abbrev pub source_length : Role → ℕ
source_length Server = 64
source_length Client = 112

-- the key source in these bytes
abbrev pub source_in : Role → List ℕ → Source
source_in Server bytes = record { pre = None; random1 = take 32 bytes; random2 = take 32 (drop 32 bytes) }
source_in Client bytes = record { pre = Some (take 48 bytes); random1 = take 32 (drop 48 bytes); random2 = take 32 (drop 80 bytes) }

-- the key source behind the opening, and where it ends
unfoldable pub source_at : Role → List ℕ → Result (Source × ℕ) Stop
source_at from bytes = if nat_lt (length bytes) (5 + source_length from) then Err Cut else Ok (source_in from (drop 5 bytes), 5 + source_length from)

-- a text of this size with its zero byte, and how many bytes it takes with the two of its size
abbrev pub text_of_size : ℕ → List ℕ → Result (List ℕ × ℕ) Stop
text_of_size size bytes =
    if size == 0 then Ok ([], 2)
    else if nat_lt (length bytes) size then Err Cut
    else if slice_index bytes (size - 1) == 0 then Ok (take (size - 1) bytes, size + 2)
    else Err (Wrong (size + 1))

-- the text at the front, and how many bytes it takes
unfoldable pub text_at : List ℕ → Result (List ℕ × ℕ) Stop
text_at bytes = if nat_lt (length bytes) 2 then Err Cut else text_of_size (from_be_bytes w16 (take 2 bytes)) (drop 2 bytes)

-- the same where it is counted from an earlier place
abbrev pub counted_from : {X : Type 0} → ℕ → Result (X × ℕ) Stop → Result (X × ℕ) Stop
counted_from at (Ok x) = Ok (x.0, at + x.1)
counted_from at (Err Cut) = Err Cut
counted_from at (Err (Wrong place)) = Err (Wrong (at + place))

-- the text that begins at a place, and where it ends
unfoldable pub text_from : ℕ → List ℕ → Result (List ℕ × ℕ) Stop
text_from at bytes = counted_from at (text_at (drop at bytes))

-- the same where the message may end before it
unfoldable pub text_if_any : ℕ → List ℕ → Result (List ℕ × ℕ) Stop
text_if_any at bytes = if at == length bytes then Ok ([], at) else text_from at bytes

-- so many texts from a place on, and where they end; the message may end before each
unfoldable pub texts_if_any : ℕ → ℕ → List ℕ → Result (List (List ℕ) × ℕ) Stop
texts_if_any zero at bytes = Ok ([], at)
texts_if_any (suc n) at bytes = do
  text ← text_if_any at bytes
  others ← texts_if_any n text.1 bytes
  Ok (text.0 ∷ others.0, others.1)

-- the message of a source and four texts
abbrev pub message_of : Source → List (List ℕ) → Km2
message_of source texts = record {
  source = source;
  options = slice_index_or texts 0 [];
  user = slice_index_or texts 1 [];
  pass = slice_index_or texts 2 [];
  info = slice_index_or texts 3 [];
}

-- the message at the front, and where it ends
unfoldable pub parts_at : Role → List ℕ → Result (Km2 × ℕ) Stop
parts_at from bytes = do
  front ← opened (first_difference opening bytes)
  source ← source_at from bytes
  options ← text_from source.1 bytes
  others ← texts_if_any 3 options.1 bytes
  Ok (message_of source.0 (options.0 ∷ others.0), others.1)

-- what reading answers
abbrev pub answer_to : Result (Km2 × ℕ) Stop → Km2Read
answer_to (Ok x) = Whole x.0 x.1
answer_to (Err Cut) = More
answer_to (Err (Wrong place)) = Bad place (kind_at place)

-- what reading the front of a plain text answers
unfoldable pub reading : Role → List ℕ → Km2Read
reading from bytes = answer_to (parts_at from bytes)
