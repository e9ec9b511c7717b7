use Rattle.std.proofs.Common.{◌≡◌, take}
use Rattle.peer_table.specs.EngineAnswers.{kept_name}
use Rattle.server_answers.proofs.ahead.keep_name.Given as goal

-- the bytes so far are kept
abbrev pub invariant-loop-byte : goal.invariant-loop-byte
invariant-loop-byte l = l.kept.items ≡ kept_name (take l.byte-index l.name)
