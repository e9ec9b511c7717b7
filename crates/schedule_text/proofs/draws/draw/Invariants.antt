use Rattle.std.proofs.Common.{◌≡◌, ◌+◌, ◌*◌, ◌≤◌, take, length}
use Rattle.rand_chacha.specs.ChaCha.{key_of}
use Rattle.schedule_text.specs.Draws.{key_bytes, words_from}
use Rattle.schedule_text.proofs.draws.draw.Given as goal

abbrev pub invariant-loop-i : goal.invariant-loop-i
invariant-loop-i l = record {
  within : l.i ≤ 30;
  key : l.words.key ≡ key_of (key_bytes l.seed);
  stream : l.words.stream ≡ 0;
  place : l.words.word_pos ≡ 32 * l.number + l.i;
  long : length l.bytes ≡ 120;
  bytes : take (4 * l.i) l.bytes ≡ words_from l.seed (32 * l.number) l.i;
}
