use Rattle.std.proofs.Common.{◌≡◌, ◌++◌, drop, map}
use Rattle.server_texts.specs.Replies.{with_nul}
use Rattle.server_texts.proofs.replies.end_parts.Given as goal

-- the parts so far are ended
abbrev pub invariant-loop-part : goal.invariant-loop-part
invariant-loop-part l = l.texts ++ map with_nul (drop l.part-index l.parts) ≡ map with_nul l.parts
