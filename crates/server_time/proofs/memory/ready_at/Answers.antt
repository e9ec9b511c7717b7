use Rattle.std.proofs.Common.{refl, sym, ap, subst, ◌∙◌, ◌≡◌, ◌+◌, Some, drop, length, slice_get, option_map}
use Rattle.std.specs.List.{AllByRecursion}
use Rattle.client_table.specs.Changes.{with_value}
use Rattle.client_table.specs.Tables.{entries_of, with_value_at}
use Rattle.server_state.specs.declared.client.ClientState.{ClientState}
use Rattle.server_state.specs.Core.{GoesOn}
use Rattle.server_time.specs.Turns.{IsReadyAs}
use Rattle.server_time.proofs.Ready.{behind_same, go_on_still, if_ok, length_same, stands_still, value_set}
use Rattle.server_time.proofs.memory.ready_at.Goals as goal

pub returns-clause-stays : goal.returns-clause-stays
returns-clause-stays g c =
    let core = c.args.core.now in
    let w = c.ready_client.new.client in
    let entries_are = c.lending_sets_the_value.ensures core.clients c.args.i w in
    record {
      same = λ before out course h.
          stands_still g.S.ClientSession.stands before core out course h c.args.i c.value_at.result.now w (with_value_at core.clients c.args.i w)
          (record { entries_are = entries_are; admitted_is = refl; most_is = refl })
          c.ready_client.ensures.same c.ready_client.ensures.file (λ t m stands place. c.places_tell_of_clients.ensures.there core t m c.args.i stands place)
          c.value_at.ensures.value;
      others = refl;
      sessions = λ most moment all.
          subst (AllByRecursion (GoesOn g.S.ClientSession.goes_on g.S.ClientSession.count g.S.ClientSession.since most moment)) (sym entries_are)
          (go_on_still g.S.ClientSession.goes_on g.S.ClientSession.count g.S.ClientSession.since most moment (entries_of core.clients) c.args.i c.value_at.result.now w all
          c.value_at.ensures.value c.ready_client.ensures.goes_on c.ready_client.ensures.count c.ready_client.ensures.since);
      admitted = refl;
      most = refl;
      number = ap (λ es. length es) entries_are ∙ length_same (with_value w) c.args.i (entries_of core.clients);
    }

pub returns-clause-behind : goal.returns-clause-behind
returns-clause-behind g c =
    let core = c.args.core.now in
    let w = c.ready_client.new.client in
    ap (λ es. drop (c.args.i + 1) es) (c.lending_sets_the_value.ensures core.clients c.args.i w) ∙ behind_same (with_value w) c.args.i (entries_of core.clients)

pub returns-clause-ready : goal.returns-clause-ready
returns-clause-ready g c =
    let core = c.args.core.now in
    let w = c.ready_client.new.client in
    if_ok (λ room. IsReadyAs g.S.ClientSession.is_ready w room.0 room.1)
    (λ room. (v : ClientState _) → option_map (λ e. e.value) (slice_get (entries_of (with_value_at core.clients c.args.i w)) c.args.i) ≡ Some v
    → IsReadyAs g.S.ClientSession.is_ready v room.0 room.1)
    c.ready_client.result c.ready_client.ensures.ready
    (λ room ready v there.
    subst (λ v. IsReadyAs g.S.ClientSession.is_ready v room.0 room.1)
    (value_set w v c.args.i (entries_of core.clients)
    (ap (λ es. option_map (λ e. e.value) (slice_get es c.args.i)) (sym (c.lending_sets_the_value.ensures core.clients c.args.i w)) ∙ there))
    ready)
