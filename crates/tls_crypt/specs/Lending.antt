-- What a datagram is once the view into it is gone.
use Rattle.std.specs.Prelude.{◌≡◌, ⊤, [], take, Result, OnErr, OnOk}
use Rattle.std.specs.Borrow.{follows_so, MutBor, Fml}
use mathlib.Core.Option.{none}
use mir.Syntax.{named}
use Rattle.tls_crypt.specs.declared.datagram.Datagram.{Datagram}
use Rattle.tls_crypt.specs.contracts.datagram.Datagram.{the_row}

-- The datagram lies where it lay. Where the result is an error it has the bytes that it had, and else its first 49 are
-- those that it had. `named 0` is the place of the datagram's lifetime in the signature.
abbrev pub IsKept : {A E : Type 0} → MutBor Datagram → Result A E → Fml
IsKept datagram result =
    let row = the_row (record { mir = named 0; lft = [] }) in
    follows_so row row datagram.ghost_name none (λ _ _. ⊤)
    (λ last.
    (last.bytes.ghost_name ≡ datagram.now.bytes.ghost_name)
    × OnErr result (last.bytes.now ≡ datagram.now.bytes.now)
    × OnOk result (take 49 last.bytes.now ≡ take 49 datagram.now.bytes.now))
