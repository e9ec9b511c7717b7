-- A run with one event more.
use Rattle.std.proofs.Common.{◌≡◌, ◌<◌, ◌+◌, ℕ, List, [], ◌∷◌, ◌++◌, length, get_or, take, refl, ap, sym, ◌∙◌}
use Rattle.std.proofs.lemmas.List.{take_more}
use Rattle.data_channel.specs.declared.runs.ChannelAnswer.{ChannelAnswer}
use Rattle.data_channel.specs.Channels.{Channel}
use Rattle.data_channel.specs.Runs.{EventAt, after_event, after_events, answer_of, answers_of}

pub answers_of-push : (es : List EventAt) (e : EventAt) (c : Channel) → answers_of c (es ++ e ∷ []) ≡ answers_of c es ++ answer_of (after_events c es) e.0 e.1 ∷ []
answers_of-push [] e c = refl
answers_of-push (x ∷ es) e c = ap (λ (t : List ChannelAnswer). answer_of c x.0 x.1 ∷ t) (answers_of-push es e (after_event c x))

pub after_events-push : (es : List EventAt) (e : EventAt) (c : Channel) → after_events c (es ++ e ∷ []) ≡ after_event (after_events c es) e
after_events-push [] e c = refl
after_events-push (x ∷ es) e c = after_events-push es e (after_event c x)

pub answers_next : (n : ℕ) (c : Channel) (events : List EventAt) (e : EventAt) → n < length events → e ≡ get_or events n e →
    answers_of c (take (n + 1) events) ≡ answers_of c (take n events) ++ answer_of (after_events c (take n events)) e.0 e.1 ∷ []
answers_next n c events e below is =
    ap (λ (t : List EventAt). answers_of c t) (take_more events n e below ∙ ap (λ (x : EventAt). take n events ++ x ∷ []) (sym is))
    ∙ answers_of-push (take n events) e c

pub channel_next : (n : ℕ) (c : Channel) (events : List EventAt) (e : EventAt) → n < length events → e ≡ get_or events n e →
    after_events c (take (n + 1) events) ≡ after_event (after_events c (take n events)) e
channel_next n c events e below is =
    ap (λ (t : List EventAt). after_events c t) (take_more events n e below ∙ ap (λ (x : EventAt). take n events ++ x ∷ []) (sym is))
    ∙ after_events-push (take n events) e c
