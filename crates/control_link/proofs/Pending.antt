-- Once the first pending piece was sent, the others are pending.
use Rattle.std.proofs.Common.{◌≡◌, ℕ, ◌≤◌, Bool, true, false, List, ◌∷◌}
use Rattle.reliable_send.specs.Sending.{Sending, Numbered, due, ready, sent}
use Rattle.control_link.specs.internal.Sending.{pending}

pub pending_rest : (again : Bool) (s : Sending) (p : Numbered) (rest : List Numbered) (now : ℕ)
    → ((h : Sending) (q : Numbered) (others : List Numbered) (m : ℕ) → ready h ≡ q ∷ others → ready (sent h q.0 m) ≡ others)
    → ((h : Sending) (q : Numbered) (others : List Numbered) (m : ℕ) → 1 ≤ h.timeout → due h m ≡ q ∷ others → due (sent h q.0 m) m ≡ others)
    → 1 ≤ s.timeout → pending again s now ≡ p ∷ rest → pending again (sent s p.0 now) now ≡ rest
pending_rest true s p rest now first later timeout is = later s p rest now timeout is
pending_rest false s p rest now first later timeout is = first s p rest now is
