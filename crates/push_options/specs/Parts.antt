-- The parts in which options are pushed (OpenVPN 2.6: the marks of src/openvpn/push.c, send_push_reply, and the 1,024
-- bytes of PUSH_BUNDLE_SIZE in src/openvpn/common.h; that 20 of them are left for a mark is this profile's choice).
use Rattle.std.specs.Prelude.{ℕ, ◌+◌, nat_le, Bool, List, [], ◌∷◌, ◌++◌, length, codes, if◌then◌else◌}

-- how a part begins
unfoldable pub opening : List ℕ
opening = codes "PUSH_REPLY"

-- how a part ends behind which another one comes
unfoldable pub more_mark : List ℕ
more_mark = codes ",push-continuation 2"

-- how the last of several parts ends
unfoldable pub last_mark : List ℕ
last_mark = codes ",push-continuation 1"

-- the options behind this text, each with a comma in front
abbrev pub with_options : List ℕ → List (List ℕ) → List ℕ
with_options text [] = text
with_options text (option ∷ options) = with_options (text ++ 44 ∷ option) options

-- whether an option fits behind the beginning of a part, which has at most 1,004 bytes without its mark
abbrev pub fits : List ℕ → List ℕ → Bool
fits part option = nat_le (length part + 1 + length option) 1004

-- the parts from this beginning of one on: each takes as many next options as fit
abbrev pub parts_from : List ℕ → List (List ℕ) → List (List ℕ)
parts_from part [] = (part ++ last_mark) ∷ []
parts_from part (option ∷ options) =
    if fits part option then parts_from (part ++ 44 ∷ option) options
    else (part ++ more_mark) ∷ parts_from (opening ++ 44 ∷ option) options

-- one part of at most 1,024 bytes with all of the options, or several with their marks
unfoldable pub reply_parts : List (List ℕ) → List (List ℕ)
reply_parts options =
    if nat_le (length (with_options opening options)) 1024 then with_options opening options ∷ []
    else parts_from opening options
