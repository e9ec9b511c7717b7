-- Reading a line byte by byte.
use Rattle.std.proofs.Common.{◌≡◌, ℕ, suc, ◌+◌, ◌<◌, List, length, drop, get_or, drop-cons, refl, ap}
use Rattle.vpn_text.specs.declared.words.Turn.{Turn}
use Rattle.vpn_text.specs.declared.words.Turn.TheVariants.{Move, Keep, Close}
use Rattle.vpn_text.specs.Words.{Reading, turned, turn_of, read_on}

-- each byte takes one place
pub place_turned : (r : Reading) (t : Turn) (c : ℕ) → (turned r t c).place ≡ r.place + 1
place_turned r (Move s) c = refl
place_turned r (Keep s) c = refl
place_turned r Close c = refl

-- the next byte is read
pub read_next : (r : Reading) (line : List ℕ) (i : ℕ) → i < length line
    → read_on r (drop i line) ≡ read_on (turned r (turn_of r.standing r.place (get_or line i 0)) (get_or line i 0)) (drop (suc i) line)
read_next r line i within = ap (read_on r) (drop-cons line i 0 within)
