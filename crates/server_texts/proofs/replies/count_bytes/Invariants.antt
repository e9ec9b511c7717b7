use Rattle.std.proofs.Common.{◌≡◌, ◌+◌, drop}
use Rattle.server_texts.specs.Replies.{text_bytes}
use Rattle.server_texts.proofs.replies.count_bytes.Given as goal

-- the texts so far are counted
abbrev pub invariant-loop-text : goal.invariant-loop-text
invariant-loop-text l = l.bytes + text_bytes (drop l.text-index l.texts) ≡ text_bytes l.texts
