-- Who waits for a file.
use Rattle.std.proofs.Common.{◌≡◌, List, true, false, ℕ, Option, Some, None, refl, sym}
use Rattle.std.proofs.lemmas.Bool.{false≢true}
use Rattle.vpn_base.specs.declared.names.Cid.{Cid}
use Rattle.vpn_base.specs.declared.names.Draw.{Draw}
use Rattle.vpn_links.specs.declared.events.FileAnswer.{FileAnswer}
use Rattle.server_table.specs.Courses.{Course}
use Rattle.server_table.specs.Engine as engine
use Rattle.server_table.specs.Lookups.{client_here}
use Rattle.server_table.specs.Table.{Awaited, Client, FileState, Known, Unasked}
use Rattle.server_answers.specs.internal.Filing.{awaits, is_waited_for}

-- a client that is here waits for the file of this name
pub record IsAwaiting (o : Option Client) : Type 0 where
  pub client : Client
  pub name : List ℕ
  pub there : o ≡ Some client
  pub file : client.file ≡ Awaited name

pub awaiting_of : (o : Option Client) → is_waited_for o ≡ true → IsAwaiting o
awaiting_of None waits = absurd (false≢true waits)
awaiting_of (Some x) waits = by_file x.file refl waits
  where
    by_file : (file : FileState) → x.file ≡ file → awaits file ≡ true → IsAwaiting (Some x)
    by_file (Awaited name) is waits = record { client = x; name = name; there = refl; file = is }
    by_file (Known file) is waits = absurd (false≢true waits)
    by_file Unasked is waits = absurd (false≢true waits)

nobody_waits : (draw : Draw) (id : Cid) (answer : FileAnswer) (c : Course) (o : Option Client) → is_waited_for o ≡ false
    → engine.file_at draw id.0 answer c o ≡ engine.file_at draw id.0 answer c None
nobody_waits draw id answer c None waits = refl
nobody_waits draw id answer c (Some x) waits = by_file x.file waits
  where
    by_file : (file : FileState) → awaits file ≡ false → engine.file_for draw id.0 answer c file ≡ engine.file_at draw id.0 answer c None
    by_file (Awaited name) waits = absurd (false≢true (sym waits))
    by_file (Known file) waits = refl
    by_file Unasked waits = refl

-- an answer that nobody waits for is reported
pub not_waited_for : (draw : Draw) (id : Cid) (answer : FileAnswer) (c : Course) → is_waited_for (client_here c.table id.0) ≡ false
    → engine.file_came draw id answer c ≡ engine.file_at draw id.0 answer c None
unfolding engine.file_came
not_waited_for draw id answer c waits = nobody_waits draw id answer c (client_here c.table id.0) waits
