use Rattle.server_time.proofs.Skips.{next_ticked, none_ticked}
use Rattle.server_time.proofs.laws.absent_numbers_change_nothing.Goals as goal

pub returns-clause-next : goal.returns-clause-next
returns-clause-next g c core course n m all most h next later as_many =
    next_ticked core.clients course n m all most (λ j none. c.places_tell_of_clients.ensures.nobody core course.table j h none) next later as_many

pub returns-clause-none : goal.returns-clause-none
returns-clause-none g c core course n all h none =
    none_ticked core.clients course n all (λ j absent. c.places_tell_of_clients.ensures.nobody core course.table j h absent) none
