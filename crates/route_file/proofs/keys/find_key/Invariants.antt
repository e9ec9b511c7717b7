use Rattle.std.proofs.Common.{◌≡◌, drop}
use Rattle.route_file.specs.Keys.{key_at}
use Rattle.route_file.proofs.keys.find_key.Given as goal

abbrev pub invariant-loop-key : goal.invariant-loop-key
invariant-loop-key l = key_at (drop l.key-index l.keys) l.cid.0 l.kid ≡ key_at l.keys l.cid.0 l.kid
