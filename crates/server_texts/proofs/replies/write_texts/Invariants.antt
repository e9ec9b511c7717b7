use Rattle.std.proofs.Common.{◌≡◌, ◌+◌, ◌≤◌, ◌++◌, drop, map, length}
use Rattle.vpn_links.specs.Actions.{EngineWrite}
use Rattle.server_texts.specs.Replies.{text_bytes}
use Rattle.server_texts.proofs.replies.write_texts.Given as goal

-- the texts so far are written
abbrev pub invariant-loop-text : goal.invariant-loop-text
invariant-loop-text l =
    record {
      effects : l.out.effects ++ map (EngineWrite l.conn) (drop l.text-index l.texts) ≡ l.fn.out.effects ++ map (EngineWrite l.conn) l.texts;
      staged : l.out.staged ≡ l.fn.out.staged;
      effects_left : l.fn.out.spare_effects + length (drop l.text-index l.texts) ≤ l.out.spare_effects + length l.texts;
      bytes_left : l.fn.out.spare_bytes + text_bytes (drop l.text-index l.texts) ≤ l.out.spare_bytes + text_bytes l.texts;
    }
