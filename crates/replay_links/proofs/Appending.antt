-- What a sink holds after several writes.
use Rattle.std.proofs.Common.{◌≡◌, ℕ, ◌+◌, ◌-◌, List, ◌++◌, length, take, drop, length-drop, refl, ap, ◌∙◌, sym, append_assoc, append-nil, take-add, [], arith}
use Rattle.std.specs.Prelude.{Option, Some, None}
use Rattle.std.proofs.lemmas.List.{take_all}
use Rattle.vpn_base.specs.Sink.{appended}

pub appended-appended : (c : Option (List ℕ)) (a b : List ℕ) → appended (appended c a) b ≡ appended c (a ++ b)
appended-appended None a b = refl
appended-appended (Some held) a b = ap Some (append_assoc held a b)

pub appended-nil : (c : Option (List ℕ)) → c ≡ appended c []
appended-nil None = refl
appended-nil (Some held) = ap Some (sym (append-nil held))

-- one write more of a text
pub more_written : (c0 c1 c2 : Option (List ℕ)) (text piece : List ℕ) (at n : ℕ) → c1 ≡ appended c0 (take at text) →
    c2 ≡ appended c1 (take n piece) → piece ≡ drop at text → c2 ≡ appended c0 (take (at + n) text)
more_written c0 c1 c2 text piece at n first second rest =
    second ∙ (ap (λ c. appended c (take n piece)) first ∙ (appended-appended c0 (take at text) (take n piece)
    ∙ ap (appended c0) (ap (λ p. take at text ++ take n p) rest ∙ sym (take-add at n text))))

-- a suffix of a slice as the code cuts it
pub suffix : (at : ℕ) (text : List ℕ) → take (length text - at) (drop at text) ≡ drop at text
suffix at text = take_all (length text - at) (drop at text) (omega (arith, length-drop at text))
