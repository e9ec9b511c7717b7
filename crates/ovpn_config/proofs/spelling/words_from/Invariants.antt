use Rattle.std.proofs.Common.{◌≡◌, ◌++◌, drop}
use Rattle.ovpn_config.specs.Spelling.{words_text}
use Rattle.ovpn_config.proofs.Spaced.{spaced}
use Rattle.ovpn_config.proofs.spelling.words_from.Given as goal

-- the words so far are written
abbrev pub invariant-words : goal.invariant-words
invariant-words l = l.text.items ++ spaced (drop l.i l.words) ≡ words_text (drop l.from l.words)
