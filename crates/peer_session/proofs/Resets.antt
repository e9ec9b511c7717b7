-- The one control datagram by which a client's session begins.
use Rattle.std.proofs.Common.{◌≡◌, ℕ, List, [], ◌∷◌, ◌++◌, length, map, Some, ap, ◌∙◌, arith}
use Rattle.std.specs.Prelude.{slice_get}
use Rattle.vpn_base.specs.declared.address.Addr.{Addr}
use Rattle.vpn_links.specs.Actions.{Action, Contents, Datagram, Holds, Wire, on_wire}
use Rattle.control_link.specs.Calls.{datagrams_to}

pub one_wire : (to other : Addr) (ds : List (List ℕ)) (bytes : List ℕ) → length (map on_wire (datagrams_to to ds)) ≡ 1 →
    Some (Wire other bytes) ≡ slice_get (map on_wire (datagrams_to to ds)) 0 → record { to = to; bytes = bytes } ∷ [] ≡ datagrams_to to ds
one_wire to other [] bytes size is = absurd (omega (arith, size))
one_wire to other (d ∷ []) bytes size is = let same : bytes ≡ d = cc is in ap (λ (b : List ℕ). record { to = to; bytes = b } ∷ []) same
one_wire to other (d ∷ e ∷ ds) bytes size is = absurd (omega (arith, size))

-- an outbox that was empty holds just the datagrams that were staged, once they are settled
pub settled_only : (ds : List Datagram) (before after settled : Contents) → Holds before [] [] → Holds after (before.effects ++ []) (before.staged ++ ds) →
    Holds settled (after.effects ++ map on_wire after.staged) [] → Holds settled (map on_wire ds) []
settled_only ds before after settled empty staged is =
    let none : after.effects ≡ [] = staged.0 ∙ ap (λ (es : List Action). es ++ []) empty.0 in
    let all : after.staged ≡ ds = staged.1 ∙ ap (λ (xs : List Datagram). xs ++ ds) empty.1 in
    (is.0 ∙ ap (λ (es : List Action). es ++ map on_wire after.staged) none ∙ ap (λ (xs : List Datagram). map on_wire xs) all, is.1)
