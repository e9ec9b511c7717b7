-- A node, whatever its state: a core and the outside that it is run against.

-- the core, and its outside
pub record Parts (M L : Type 0) : Type 0 where
  pub machine : M
  pub links : L
