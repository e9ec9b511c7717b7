-- The events that links in memory gave, as more events and effects come.
use Rattle.std.proofs.Common.{◌≡◌, ℕ, zero, suc, ◌+◌, ◌-◌, ◌<◌, List, [], ◌∷◌, ◌++◌, length, get_or, set, slice_get, unwrap_or, refl, ap, sym, ◌∙◌, arith}
use Rattle.vpn_links.specs.declared.events.Event.{Event}
use Rattle.vpn_links.specs.LinkStore.{event_at, given_last, rounds_from}
use Rattle.std.specs.List.{AllByRecursion}
use Rattle.vpn_links.specs.Rounds.{Given, IsOfLine, Round, came, gave}

-- one more event came
pub rounds_came : (events : List Event) (n : ℕ) (effects : List (List Given)) → rounds_from events n (effects ++ [] ∷ []) ≡ came (rounds_from events n effects) (event_at events (n + length effects))
rounds_came events n [] = ap (λ (k : ℕ). record { event = event_at events k; effects = [] } ∷ []) (omega arith)
rounds_came events n (given ∷ effects) =
    ap (λ (rounds : List Round). record { event = event_at events n; effects = given } ∷ rounds)
    (rounds_came events (suc n) effects ∙ ap (λ (k : ℕ). came (rounds_from events (suc n) effects) (event_at events k)) (omega arith))

-- one more effect was given
pub rounds_gave : (events : List Event) (n : ℕ) (effects : List (List Given)) (given : Given) → rounds_from events n (given_last effects given) ≡ gave (rounds_from events n effects) given
rounds_gave events n [] given = refl
rounds_gave events n (e ∷ []) given = refl
rounds_gave events n (e ∷ f ∷ effects) given = ap (λ (rounds : List Round). record { event = event_at events n; effects = e } ∷ rounds) (rounds_gave events (suc n) (f ∷ effects) given)

-- it stands behind those of the last event
pub last_set : (effects : List (List Given)) (given : Given) (last d : List Given) → 0 < length effects → last ≡ get_or effects (length effects - 1) d → set effects (length effects - 1) (last ++ given ∷ []) ≡ given_last effects given
last_set [] given last d some is = absurd (omega arith)
last_set (e ∷ []) given last d some is = ap (λ (l : List Given). (l ++ given ∷ []) ∷ []) is
last_set (e ∷ f ∷ effects) given last d some is =
    let at : (length (e ∷ f ∷ effects) - 1) ≡ suc (length (f ∷ effects) - 1) = omega arith in
    ap (λ (k : ℕ). set (e ∷ f ∷ effects) k (last ++ given ∷ [])) at
    ∙ ap (λ (l : List (List Given)). e ∷ l) (last_set (f ∷ effects) given last d (omega arith) (is ∙ ap (λ (k : ℕ). get_or (e ∷ f ∷ effects) k d) at))

-- what comes is of the line, if all that is to come is
pub found_of_line : (events : List Event) (n : ℕ) (d : Event) → IsOfLine d.kind → AllByRecursion (λ (e : Event). IsOfLine e.kind) events → IsOfLine (unwrap_or (slice_get events n) d).kind
found_of_line [] n d last all = last
found_of_line (e ∷ events) zero d last all = all.0
found_of_line (e ∷ events) (suc n) d last all = found_of_line events n d last all.1

-- what was given, after one more event
pub after_came : (events : List Event) (effects more : List (List Given)) (l : List Round) (e : Event) → l ≡ rounds_from events 0 effects → e ≡ event_at events (length effects) → more ≡ effects ++ [] ∷ [] → came l e ≡ rounds_from events 0 more
after_came events effects more l e is event grown =
    ap (λ (r : List Round). came r e) is
    ∙ ap (came (rounds_from events 0 effects)) (event ∙ ap (event_at events) (omega arith))
    ∙ sym (rounds_came events 0 effects)
    ∙ sym (ap (rounds_from events 0) grown)

-- and after one more effect
pub after_gave : (events : List Event) (effects more : List (List Given)) (l : List Round) (given : Given) → l ≡ rounds_from events 0 effects → more ≡ given_last effects given → gave l given ≡ rounds_from events 0 more
after_gave events effects more l given is grown =
    ap (λ (r : List Round). gave r given) is
    ∙ sym (rounds_gave events 0 effects given)
    ∙ sym (ap (rounds_from events 0) grown)
