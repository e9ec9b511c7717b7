use Rattle.std.proofs.Common.{◌≡◌, drop}
use Rattle.vpn_text.specs.Words.{read_on, unread}
use Rattle.vpn_text.proofs.words.read_plain.Given as goal

-- the bytes so far are read
abbrev pub invariant-loop-byte : goal.invariant-loop-byte
invariant-loop-byte l = record {
  place : l.reader.place ≡ l.byte-index;
  read : read_on l.reader (drop l.byte-index l.line) ≡ read_on unread l.line;
}
