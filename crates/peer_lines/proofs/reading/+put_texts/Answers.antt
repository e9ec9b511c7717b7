use Rattle.std.proofs.Common.{◌≡◌, ◌≤◌, ◌<◌, ◌-◌, ◌++◌, ℕ, List, [], ◌∷◌, length, refl, sym, ap, subst, ◌∙◌, arith}
use Rattle.std.proofs.lemmas.List.{append-nil}
use Rattle.std.proofs.lemmas.Result.{on_ok_weaker}
use Rattle.vpn_base.specs.declared.names.Role.{Role}
use Rattle.vpn_links.specs.Actions.{Holds}
use Rattle.reliable_recv.specs.Receiving.{Arrival}
use Rattle.control_link.specs.Links.{Link, LinkStands}
use Rattle.control_link.specs.Calls.{after_text}
use Rattle.control_link.specs.Reading.{read_here, texts_here}
use Rattle.peer_table.specs.ControlPackets.{puts}
use Rattle.peer_table.specs.Outboxes.{actions_of}
use Rattle.peer_lines.specs.Standing.{NoneIsLonger}
use Rattle.control_link.proofs.RunLaws.{no_more_texts, none_read, none_texts, one_read, one_text, read_no_more}
use Rattle.peer_lines.proofs.Texts.{frame_text, puts_on, room_left, short_text}
use Rattle.peer_lines.proofs.reading.+put_texts.Goals as goal

not_less : (n m : ℕ) → m ≤ n → n < m → ⊥
not_less n m le lt = omega (arith, le, lt)

pub returns-then-most-eq0-clause-stands : goal.returns-then-most-eq0-clause-stands
returns-then-most-eq0-clause-stands t c = λ l s. subst (λ (g : Link). LinkStands c.args.link.now g) (sym (read_no_more c.args.most l c.if-most-eq0.true)) s

pub returns-then-most-eq0-clause-put : goal.returns-then-most-eq0-clause-put
returns-then-most-eq0-clause-put t c = λ l end s.
    (sym (ap (λ (p : List (List ℕ)). c.args.out.now.effects ++ actions_of end (puts c.args.conn p)) (no_more_texts c.args.most l c.if-most-eq0.true) ∙ append-nil c.args.out.now.effects), refl)

pub returns-then-longest-payload-clause-fits : goal.returns-then-longest-payload-clause-fits
returns-then-longest-payload-clause-fits t c = λ l s none effects bytes.
    let short : length c.as_slice-payload.result.now ≤ c.args.longest =
    subst (λ (p : List ℕ). length p ≤ c.args.longest) (sym c.as_slice-payload.ensures) (short_text c.args.longest l c.in-Some.payload none (sym (c.in-Some.ensures.text l s))) in
    absurd (not_less c.args.longest (length c.as_slice-payload.result.now) short c.if-longest-payload.true)

pub returns-in-Err-clause-fits : goal.returns-in-Err-clause-fits
returns-in-Err-clause-fits t c = λ l s none effects bytes.
    let room = room_left c.args.most c.args.longest c.if-most-eq0.false in
    c.in-Err.ensures.fits (omega (arith, effects, c.if-most-eq0.false)) (omega (arith, c.if-longest-payload.false, room, bytes))

pub returns-in-None-clause-stands : goal.returns-in-None-clause-stands
returns-in-None-clause-stands t c = λ l s.
    subst (λ (g : Link). LinkStands c.next_in_order.new.self g) (sym (none_read c.args.most l c.if-most-eq0.false (sym (c.in-None.ensures.text l s)))) (c.in-None.ensures.stands l s)

pub returns-in-None-clause-put : goal.returns-in-None-clause-put
returns-in-None-clause-put t c = λ l end s.
    (sym (ap (λ (p : List (List ℕ)). c.args.out.now.effects ++ actions_of end (puts c.args.conn p)) (none_texts c.args.most l c.if-most-eq0.false (sym (c.in-None.ensures.text l s))) ∙ append-nil c.args.out.now.effects), refl)

pub returns-in-Ok-clause-stands : goal.returns-in-Ok-clause-stands
returns-in-Ok-clause-stands t c =
    on_ok_weaker c.put_texts.result
    (λ (rest : (l : Link) → LinkStands c.next_in_order.new.self l → LinkStands c.put_texts.new.link (read_here (c.args.most - 1) l)). λ l s.
    subst (λ (g : Link). LinkStands c.put_texts.new.link g) (sym (one_read c.args.most l c.in-Some.payload c.if-most-eq0.false (sym (c.in-Some.ensures.text l s))))
    (rest (after_text l) (c.in-Some.ensures.stands l s)))
    c.put_texts.ensures.stands

pub returns-in-Ok-clause-put : goal.returns-in-Ok-clause-put
returns-in-Ok-clause-put t c =
    on_ok_weaker c.put_texts.result
    (λ (rest : (l : Link) (end : Role) → LinkStands c.next_in_order.new.self l →
    Holds c.put_texts.new.out (c.put_text.new.out.effects ++ actions_of end (puts c.args.conn (texts_here (c.args.most - 1) l))) c.put_text.new.out.staged). λ l end s.
    let here = rest (after_text l) end (c.in-Some.ensures.stands l s) in
    let put : c.put_text.new.out.effects ≡ c.args.out.now.effects ++ actions_of end (puts c.args.conn (c.in-Some.payload ∷ [])) =
    (c.in-Ok.ensures.put end).0 ∙ ap (λ (p : List ℕ). c.args.out.now.effects ++ actions_of end (puts c.args.conn (p ∷ []))) c.as_slice-payload.ensures in (
      here.0 ∙ puts_on c.args.conn end c.in-Some.payload (texts_here (c.args.most - 1) (after_text l)) c.args.out.now.effects c.put_text.new.out.effects put
          ∙ ap (λ (p : List (List ℕ)). c.args.out.now.effects ++ actions_of end (puts c.args.conn p)) (sym (one_text c.args.most l c.in-Some.payload c.if-most-eq0.false (sym (c.in-Some.ensures.text l s)))),
      here.1 ∙ (c.in-Ok.ensures.put end).1,
    ))
    c.put_texts.ensures.put

pub returns-in-Ok-clause-fits : goal.returns-in-Ok-clause-fits
returns-in-Ok-clause-fits t c = λ l s none effects bytes.
    let room = room_left c.args.most c.args.longest c.if-most-eq0.false in
    let uses = c.put_text.ensures.uses in
    c.put_texts.ensures.fits (after_text l) (c.in-Some.ensures.stands l s) (subst (λ (taken : List Arrival). NoneIsLonger c.args.longest taken) (sym (frame_text l).taken) none)
    (omega (arith, uses.0, effects, c.if-most-eq0.false)) (omega (arith, uses.1, c.if-longest-payload.false, room, bytes))
