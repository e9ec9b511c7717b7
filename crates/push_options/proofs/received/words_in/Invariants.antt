use Rattle.std.proofs.Common.{◌≡◌, ◌++◌, drop}
use Rattle.push_options.specs.Received.{words_from, words_in}
use Rattle.push_options.proofs.received.words_in.Given as goal

-- the words so far, and those that begin with the one that is read
abbrev pub invariant-loop-byte : goal.invariant-loop-byte
invariant-loop-byte l = l.words ++ words_from l.word.items (drop l.byte-index l.option) ≡ words_in l.option
