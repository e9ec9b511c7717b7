-- Commands that are written word by word are read again.
use Rattle.std.proofs.Common.{◌≡◌, ℕ, ◌+◌, ◌/◌, ◌%◌, ◌^◌, ◌<◌, ◌≤◌, ◌==◌, ◌&&◌, ◌||◌, Bool, true, false, not, cond, List, [], ◌∷◌, ◌++◌, length, refl, ap, sym, ◌∙◌, arith, length-append}
use Rattle.std.specs.Prelude.{codes, map, nat_lt, nat_le, Option, Some, None, Ok}
use Rattle.std.specs.List.{All, join_with_byte, list_all, list_any, slice_split}
use Rattle.std.specs.Fmt.{decimal, digit_glyph}
use Rattle.std.proofs.lemmas.Fmt.{decimal_nonempty, length-decimal-le}
use Rattle.std.proofs.lemmas.Grind.{common_steps}
use Rattle.std.proofs.lemmas.List.Elements.{All-cons, All-nil}
use Rattle.std.proofs.lemmas.List.Splits.{slice_split_at, slice_split_none}
use borrow.Author.Tests.{ltb-true, leb-true}
use Rattle.vpn_base.specs.declared.address.Ip4.{Ip4}
use Rattle.vpn_base.specs.declared.address.Addr.{Addr}
use Rattle.vpn_base.specs.declared.names.Cid.{Cid}
use Rattle.vpn_base.specs.Address.{ip4_of, ip4_text}
use Rattle.vpn_base.specs.FileName.{is_file_name, is_name_byte, names_folder}
use Rattle.vpn_base.specs.Number.{number_of}
use Rattle.vpn_text.specs.Quoted.{is_special, needs_quotes, quoted}
use Rattle.vpn_text.specs.Words.{is_control, line_words}
use Rattle.mgmt_lines.specs.declared.commands.Command.TheVariants.{KillName, KillAddr, ClientKill, Bytecount}
use Rattle.mgmt_lines.specs.declared.commands.Name.{Name}
use Rattle.mgmt_lines.specs.declared.commands.Name.TheVariants as names
use Rattle.mgmt_lines.specs.Commands.{bytecount_of, client_kill_of, command, command_from, command_of, kill_of, name_of}
use Rattle.address_text.specs.AddressText.{addr_of, addr_of_parts, addr_text, addr_with}
use Rattle.mgmt_lines.proofs.Passing.{append_passes, both_true, decimal_passes, ip4_passes}

-- words without control bytes are read again
abbrev pub ReadsWords : Type 0
ReadsWords = (words : List (List ℕ)) → list_all (λ word. list_all (λ c. not (is_control c)) word) words ≡ true
    → line_words (join_with_byte 32 (map quoted words)) ≡ Ok words

abbrev pub ReadsIp4 : Type 0
ReadsIp4 = (a : Ip4) → a.0 < 2 ^ 32 → ip4_of (ip4_text a) ≡ Some a

abbrev pub ReadsNumbers : Type 0
ReadsNumbers = (most n : ℕ) → n ≤ most → n < 2 ^ 64 → number_of most (decimal n) ≡ Some n

-- a byte that is itself in a line
abbrev is_plain : ℕ → Bool
is_plain c = not (is_special c) && not (is_control c)

-- a word that stands in a line as it is
record Plain (word : List ℕ) : Type 0 where
  some : 0 < length word
  plain : list_all is_plain word ≡ true

and_true : (a b : Bool) → (a && b) ≡ true → (a ≡ true) × (b ≡ true)
and_true true true e = (refl, refl)
and_true true false e = cc
and_true false b e = cc

or_false : (a b : Bool) → not a ≡ true → b ≡ false → (a || b) ≡ false
or_false true b p q = cc
or_false false b p q = q

otherwise : {A : Type 0} (b : Bool) (x y : A) → b ≡ false → cond b x y ≡ y
otherwise true x y fails = cc
otherwise false x y fails = refl

no_special : (word : List ℕ) → list_all is_plain word ≡ true → list_any is_special word ≡ false
no_special [] plain = refl
no_special (c ∷ cs) plain =
    let parts = and_true (is_plain c) (list_all is_plain cs) plain in
    let first = and_true (not (is_special c)) (not (is_control c)) parts.0 in
    or_false (is_special c) (list_any is_special cs) first.0 (no_special cs parts.1)

no_control : (word : List ℕ) → list_all is_plain word ≡ true → list_all (λ c. not (is_control c)) word ≡ true
no_control [] plain = refl
no_control (c ∷ cs) plain =
    let parts = and_true (is_plain c) (list_all is_plain cs) plain in
    let first = and_true (not (is_special c)) (not (is_control c)) parts.0 in
    both_true (not (is_control c)) (list_all (λ c. not (is_control c)) cs) first.1 (no_control cs parts.1)

not_empty : (word : List ℕ) → 0 < length word → not (length word == 0) ≡ true
not_empty [] some = absurd (omega arith)
not_empty (c ∷ cs) some = grind (arith, common_steps)

unquoted : (word : List ℕ) → Plain word → quoted word ≡ word
unfolding quoted
unquoted word w =
    otherwise (needs_quotes word) _ word (or_false (length word == 0) (list_any is_special word) (not_empty word w.some) (no_special word w.plain))

-- two such words with a space between them
two_read : ReadsWords → (verb word : List ℕ) → Plain verb → Plain word → line_words (verb ++ 32 ∷ word) ≡ Ok (verb ∷ word ∷ [])
two_read again verb word v w =
    let same : quoted verb ++ 32 ∷ quoted word ≡ verb ++ 32 ∷ word =
    ap (λ (x : List ℕ). x ++ 32 ∷ quoted word) (unquoted verb v) ∙ ap (λ (x : List ℕ). verb ++ 32 ∷ x) (unquoted word w) in
    sym (ap line_words same)
    ∙ again (verb ∷ word ∷ []) (both_true (list_all (λ c. not (is_control c)) verb) _ (no_control verb v.plain)
    (both_true (list_all (λ c. not (is_control c)) word) true (no_control word w.plain) refl))

not_less : (b : Bool) (m n : ℕ) → nat_lt m n ≡ b → n ≤ m → b ≡ false
not_less true m n is within = absurd (omega (arith, ltb-true m n is))
not_less false m n is within = refl

-- the command of two such words
two_words : ReadsWords → (verb word : List ℕ) → Plain verb → Plain word → length (verb ++ 32 ∷ word) ≤ 256
    → command (verb ++ 32 ∷ word) ≡ command_of (name_of verb) (word ∷ [])
unfolding command
two_words again verb word v w short =
    otherwise (nat_lt 256 (length (verb ++ 32 ∷ word))) _ (command_from (line_words (verb ++ 32 ∷ word)))
    (not_less (nat_lt 256 (length (verb ++ 32 ∷ word))) 256 (length (verb ++ 32 ∷ word)) refl short)
    ∙ ap command_from (two_read again verb word v w)

kill_named : name_of (codes "kill") ≡ names.Kill
unfolding name_of
kill_named = refl

client_kill_named : name_of (codes "client-kill") ≡ names.ClientKill
unfolding name_of
client_kill_named = refl

bytecount_named : name_of (codes "bytecount") ≡ names.Bytecount
unfolding name_of
bytecount_named = refl

-- bytes that are no colon
no_colons : (text : List ℕ) → list_all (λ c. not (c == 58)) text ≡ true → All (λ c. (c == 58) ≡ false) text
no_colons [] all = All-nil (λ c. (c == 58) ≡ false)
no_colons (c ∷ cs) all =
    let parts = and_true (not (c == 58)) (list_all (λ c. not (c == 58)) cs) all in
    All-cons (λ (d : ℕ). (d == 58) ≡ false) c cs (grind (arith, common_steps)) (no_colons cs parts.1)

digit_plain : (n : ℕ) → is_plain (digit_glyph false (n % 10)) ≡ true
digit_plain n = grind (arith, common_steps)

digit_no_colon : (n : ℕ) → not (digit_glyph false (n % 10) == 58) ≡ true
digit_no_colon n = grind (arith, common_steps)

number_plain : (n : ℕ) → n < 2 ^ 64 → Plain (decimal n)
number_plain n small = record { some = decimal_nonempty n small; plain = decimal_passes is_plain digit_plain n }

-- a command with a number behind it
number_read : ReadsWords → (verb : List ℕ) (n : ℕ) → Plain verb → length verb ≤ 100 → n < 2 ^ 64
    → command (verb ++ 32 ∷ decimal n) ≡ command_of (name_of verb) (decimal n ∷ [])
number_read again verb n v short small =
    two_words again verb (decimal n) v (number_plain n small)
    (omega (arith, length-append verb (32 ∷ decimal n), length-decimal-le 20 n (omega arith) (omega arith) small))

pub client : ReadsWords → ReadsNumbers → (cid : Cid) → cid.0 < 2 ^ 64 → command (codes "client-kill " ++ decimal cid.0) ≡ Ok (ClientKill cid)
client again numbers cid small =
    number_read again (codes "client-kill") cid.0 (record { some = omega arith; plain = refl }) (omega arith) small
    ∙ ap (λ (name : Name). command_of name (decimal cid.0 ∷ [])) client_kill_named
    ∙ ap client_kill_of (numbers 18446744073709551615 cid.0 (omega arith) small)

pub interval : ReadsWords → ReadsNumbers → (n : ℕ) → n ≤ 86400 → command (codes "bytecount " ++ decimal n) ≡ Ok (Bytecount n)
interval again numbers n within =
    number_read again (codes "bytecount") n (record { some = omega arith; plain = refl }) (omega arith) (omega arith)
    ∙ ap (λ (name : Name). command_of name (decimal n ∷ [])) bytecount_named
    ∙ ap bytecount_of (numbers 86400 n within (omega arith))

-- a kill of what the word is read as
kill_read : ReadsWords → (word : List ℕ) (a : Option Addr) → Plain word → length word ≤ 200 → addr_of word ≡ a
    → command (codes "kill " ++ word) ≡ Ok (kill_of word a)
kill_read again word a w short is =
    two_words again (codes "kill") word (record { some = omega arith; plain = refl }) w (omega arith)
    ∙ ap (λ (name : Name). command_of name (word ∷ [])) kill_named
    ∙ ap (λ (r : Option Addr). Ok (kill_of word r)) is

file_name_parts : (a b c d : Bool) → (a && b && c && d) ≡ true → (a ≡ true) × (b ≡ true) × (c ≡ true)
file_name_parts true true true d e = (refl, refl, refl)
file_name_parts true true false d e = cc
file_name_parts true false c d e = cc
file_name_parts false b c d e = cc

name_byte : (c : ℕ) → is_name_byte c ≡ true → (is_plain c ≡ true) × (not (c == 58) ≡ true)
name_byte c is = (grind (arith, common_steps), grind (arith, common_steps))

name_plain : (name : List ℕ) → list_all is_name_byte name ≡ true → (list_all is_plain name ≡ true) × (list_all (λ c. not (c == 58)) name ≡ true)
name_plain [] all = (refl, refl)
name_plain (c ∷ cs) all =
    let parts = and_true (is_name_byte c) (list_all is_name_byte cs) all in
    let first = name_byte c parts.0 in
    let others = name_plain cs parts.1 in
    (both_true (is_plain c) (list_all is_plain cs) first.0 others.0, both_true (not (c == 58)) (list_all (λ c. not (c == 58)) cs) first.1 others.1)

no_addr : (name : List ℕ) → list_all (λ c. not (c == 58)) name ≡ true → addr_of name ≡ None
unfolding addr_of
no_addr name all = ap addr_of_parts (slice_split_none (λ c. c == 58) name (no_colons name all))

pub name : ReadsWords → (word : List ℕ) → is_file_name word ≡ true → command (codes "kill " ++ word) ≡ Ok (KillName word)
unfolding is_file_name
name again word is =
    let parts = file_name_parts (nat_le 1 (length word)) (nat_le (length word) 64) (list_all is_name_byte word) (not (names_folder word)) is in
    let bytes = name_plain word parts.2 in
    let some : 1 ≤ length word = leb-true 1 (length word) parts.0 in
    let few : length word ≤ 64 = leb-true (length word) 64 parts.1 in
    kill_read again word None (record { some = omega arith; plain = bytes.0 }) (omega arith) (no_addr word bytes.1)

addr_plain : (a : Addr) → list_all is_plain (addr_text a) ≡ true
unfolding addr_text
addr_plain a = append_passes is_plain (ip4_text a.ip) (58 ∷ decimal a.port) (ip4_passes is_plain digit_plain refl a.ip) (decimal_passes is_plain digit_plain a.port)

number_short : (n : ℕ) → n < 2 ^ 64 → length (decimal n) ≤ 20
number_short n small = length-decimal-le 20 n (omega arith) (omega arith) small

dotted_short : (n : ℕ) (rest : List ℕ) → n < 2 ^ 64 → length (decimal n ++ 46 ∷ rest) ≤ 21 + length rest
dotted_short n rest small = omega (arith, length-append (decimal n) (46 ∷ rest), number_short n small)

ip4_short : (a : Ip4) → length (ip4_text a) ≤ 83
unfolding ip4_text
ip4_short a =
    let three : List ℕ = decimal (a.0 % 256) in
    let two : List ℕ = decimal (a.0 / 2 ^ 8 % 256) ++ 46 ∷ three in
    let one : List ℕ = decimal (a.0 / 2 ^ 16 % 256) ++ 46 ∷ two in
    let last : length three ≤ 20 = number_short (a.0 % 256) (omega arith) in
    let third : length two ≤ 21 + length three = dotted_short (a.0 / 2 ^ 8 % 256) three (omega arith) in
    let second : length one ≤ 21 + length two = dotted_short (a.0 / 2 ^ 16 % 256) two (omega arith) in
    let first : length (decimal (a.0 / 2 ^ 24 % 256) ++ 46 ∷ one) ≤ 21 + length one = dotted_short (a.0 / 2 ^ 24 % 256) one (omega arith) in
    omega (arith, last, third, second, first)

addr_short : (a : Addr) → a.port < 2 ^ 16 → length (addr_text a) ≤ 104
unfolding addr_text
addr_short a small = omega (arith, length-append (ip4_text a.ip) (58 ∷ decimal a.port), ip4_short a.ip, number_short a.port (omega arith))

addr_some : (a : Addr) → 0 < length (addr_text a)
unfolding addr_text
addr_some a = omega (arith, length-append (ip4_text a.ip) (58 ∷ decimal a.port))

-- an address with its port is read again
addr_read : ReadsIp4 → ReadsNumbers → (a : Addr) → a.ip.0 < 2 ^ 32 → a.port < 2 ^ 16 → addr_of (addr_text a) ≡ Some a
unfolding addr_of addr_text
addr_read ips numbers a ip port =
    let parts : slice_split (λ c. c == 58) (ip4_text a.ip ++ 58 ∷ decimal a.port) ≡ ip4_text a.ip ∷ decimal a.port ∷ [] =
    slice_split_at (λ c. c == 58) (ip4_text a.ip) 58 (decimal a.port) (no_colons (ip4_text a.ip) (ip4_passes (λ c. not (c == 58)) digit_no_colon refl a.ip)) refl
    ∙ ap (λ (l : List (List ℕ)). ip4_text a.ip ∷ l)
    (slice_split_none (λ c. c == 58) (decimal a.port) (no_colons (decimal a.port) (decimal_passes (λ c. not (c == 58)) digit_no_colon a.port))) in
    ap addr_of_parts parts
    ∙ ap (λ (o : Option Ip4). addr_with o (number_of 65535 (decimal a.port))) (ips a.ip ip)
    ∙ ap (addr_with (Some a.ip)) (numbers 65535 a.port (omega arith) (omega arith))

pub address : ReadsWords → ReadsIp4 → ReadsNumbers → (a : Addr) → a.ip.0 < 2 ^ 32 → a.port < 2 ^ 16
    → command (codes "kill " ++ addr_text a) ≡ Ok (KillAddr a)
address again ips numbers a ip port =
    kill_read again (addr_text a) (Some a) (record { some = addr_some a; plain = addr_plain a }) (omega (arith, addr_short a port))
    (addr_read ips numbers a ip port)
