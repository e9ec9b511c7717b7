-- What holds of texts that are written and read again.
use Rattle.std.specs.Prelude.{◌≡◌, ℕ, ◌^◌, ◌<◌, ◌≤◌, not, true, List, Some, Ok, decimal}
use Rattle.std.specs.List.{list_all}
use Rattle.vpn_base.specs.declared.address.Ip4.{Ip4}
use Rattle.vpn_base.specs.Number.{number_of}
use Rattle.vpn_base.specs.Address.{ip4_text, ip4_of}
use Rattle.vpn_text.specs.Words.{is_control, line_words}
use Rattle.vpn_text.specs.Mask.{mask_of, mask_text}
use Rattle.ovpn_config.specs.Spelling.{words_text}

-- written numbers, addresses, masks and words are read again, and what is read has no control byte
pub record Laws : Type 0 where
  pub decimals : (most n : ℕ) → n ≤ most → n < 2 ^ 64 → number_of most (decimal n) ≡ Some n
  pub addresses : (a : Ip4) → a.0 < 2 ^ 32 → ip4_of (ip4_text a) ≡ Some a
  pub masks : (len : ℕ) → len ≤ 32 → mask_of (mask_text len) ≡ Some len
  pub clean_lines : (line : List ℕ) → (words : List (List ℕ)) → line_words line ≡ Ok words → list_all (λ c. not (is_control c)) line ≡ true
  pub clean_words : (line : List ℕ) → (words : List (List ℕ)) → line_words line ≡ Ok words → list_all (λ word. list_all (λ c. not (is_control c)) word) words ≡ true
  pub words : (words : List (List ℕ)) → list_all (λ word. list_all (λ c. not (is_control c)) word) words ≡ true → line_words (words_text words) ≡ Ok words
