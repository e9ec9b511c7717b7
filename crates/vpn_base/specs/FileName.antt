-- Names that can be those of files in one folder.
use Rattle.std.specs.Prelude.{ℕ, ◌==◌, ◌&&◌, ◌||◌, nat_le, not, Bool, List, length, codes}
use Rattle.std.specs.List.{list_all}
use Rattle.std.specs.Str.{bytes_eq}
use Rattle.vpn_base.specs.Number.{is_digit}

-- a letter of either case
abbrev pub is_letter : ℕ → Bool
is_letter c = (nat_le 65 c && nat_le c 90) || (nat_le 97 c && nat_le c 122)

-- a letter, a digit, `_`, `-`, `.` or `@`
abbrev pub is_name_byte : ℕ → Bool
is_name_byte c = is_letter c || is_digit c || (c == 95) || (c == 45) || (c == 46) || (c == 64)

-- the folder itself, or the one above it
abbrev pub names_folder : List ℕ → Bool
names_folder name = bytes_eq name (codes ".") || bytes_eq name (codes "..")

-- 1 to 64 of those bytes that name no folder
unfoldable pub is_file_name : List ℕ → Bool
is_file_name name =
    nat_le 1 (length name) && nat_le (length name) 64 && list_all is_name_byte name && not (names_folder name)
