-- The calls of an outside, each of which may answer faults of its own.

-- it is started, asked for an event, given an effect
pub data LinkCall : Type 0 where
  Starting : LinkCall
  Asking : LinkCall
  Giving : LinkCall
