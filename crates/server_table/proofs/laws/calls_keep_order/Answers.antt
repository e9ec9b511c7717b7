use Rattle.server_table.proofs.laws.calls_keep_order.Goals as goal

pub returns : goal.returns
returns c = let law = c.key_sessions_are_orderly.ensures in record {
  begins = law.begins;
  control = law.control;
  engine = law.engine;
  exchange = law.exchange;
  message = law.message;
  seals = law.seals;
  opens = law.opens;
  tick = law.tick;
  close = law.close;
}
