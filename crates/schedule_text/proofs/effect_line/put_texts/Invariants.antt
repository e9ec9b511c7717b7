use Rattle.std.proofs.Common.{◌≡◌, ◌≤◌, ◌++◌, length, map, take}
use Rattle.schedule_text.specs.NoteText.{hex_text, behind}
use Rattle.schedule_text.proofs.effect_line.put_texts.Given as goal

abbrev pub invariant-loop-i : goal.invariant-loop-i
invariant-loop-i l = record {
  within : l.i ≤ length l.texts;
  written : l.line.items ≡ l.fn.line.items ++ behind (map hex_text (take l.i l.texts));
}
