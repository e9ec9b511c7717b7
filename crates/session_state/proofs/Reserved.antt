-- Room is taken in a text, which is put back for the same session.
use Rattle.std.proofs.Common.{◌≡◌, ℕ, zero, suc, List, [], ◌∷◌, Some, refl, ap, subst}
use Rattle.std.specs.Prelude.{slice_get}
use Rattle.tls_crypt.specs.Packets.{Wrapping}
use Rattle.peer_table.specs.KeySessions.{Session}
use Rattle.peer_table.specs.Peer.{Peer}
use Rattle.peer_table.specs.Places.{changed_at}
use Rattle.key_sessions.specs.declared.slots.Slots.{Slots}
use Rattle.key_sessions.specs.Slots.{SlotsStand}
use Rattle.peer_lines.specs.declared.channels.SessionChannels.{SessionChannels}
use Rattle.peer_lines.specs.Standing.{StandsFor}
use Rattle.session_state.specs.declared.session.SessionState.{SessionState}
use Rattle.session_state.specs.Standing.{PeerStands}
use Rattle.session_state.proofs.Keeping.{PutBack, slots_same}

unchanged : (ss : List Session) (n : ℕ) → changed_at n (λ s. s) ss ≡ ss
unchanged [] n = refl
unchanged (s ∷ ss) zero = refl
unchanged (s ∷ ss) (suc n) = ap (λ (xs : List Session). s ∷ xs) (unchanged ss n)

-- the client is the same
pub put_same : {W : Type 0} (wrapped : W → Wrapping) (before : SessionState W) (taken slots : Slots SessionChannels) (p : Peer) (number : ℕ) (text : SessionChannels) →
    PeerStands wrapped before p → (SlotsStand StandsFor before.slots p.sessions → SlotsStand StandsFor taken p.sessions) → PutBack taken slots number text →
    (SlotsStand StandsFor before.slots p.sessions → (s : Session) → slice_get p.sessions number ≡ Some s → StandsFor text s) →
    PeerStands wrapped (record before { slots = slots }) p
put_same wrapped before taken slots p number text stands take put still = slots_same wrapped before slots p stands
    (λ are. subst (λ (ss : List Session). SlotsStand StandsFor slots ss) (unchanged p.sessions number)
    (put.stands p.sessions (λ s. s) (take are) (λ s at. record { began = refl; is_open = refl; stage = refl }) (still are)))
    (λ whole. put.whole)
