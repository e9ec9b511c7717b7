use Rattle.std.proofs.Common.{sym, ◌∙◌}
use Rattle.server_time.proofs.Pinged.{due_there, due_to_nobody}
use Rattle.server_time.proofs.pinging.is_due.Goals as goal

pub returns-in-None : goal.returns-in-None
returns-in-None g c = record {
  due = λ t h. due_to_nobody t c.args.cid.0 (c.places_tell_of_clients.ensures.nobody c.args.core.now t c.args.cid.0 h (sym c.place.ensures.place ∙ c.in-None.is));
}

pub returns-in-Some : goal.returns-in-Some
returns-in-Some g c = record {
  due = λ t h. due_there g.S.ClientSession.stands c.args.core.now t c.args.cid.0 c.in-Some.i h
      (c.places_tell_of_clients.ensures.there c.args.core.now t c.args.cid.0 c.in-Some.i h (sym c.place.ensures.place ∙ c.in-Some.is))
      c.look_at-client.result.now c.look_at-client.ensures c.ping_is_due.result
      (λ x established sealed_at. c.ping_is_due.ensures x (c.is_some.ensures ∙ established) sealed_at);
}
