-- What is prepared for a client stays so where it passes a message.
use Rattle.std.proofs.Common.{◌≡◌, ℕ, List, Option, Some, None, refl, sym, ap, subst, ◌∙◌}
use Rattle.ccd_files.specs.declared.client_file.Ccd.{Ccd}
use Rattle.peer_table.specs.Exchange.{after_message, after_message_in, waiting_in}
use Rattle.peer_table.specs.Peer.{Peer}
use Rattle.peer_table.specs.Places.{changed_at}
use Rattle.server_table.specs.Courses.{Course}
use Rattle.server_table.specs.Lookups.{client_here}
use Rattle.server_table.specs.Table.{Client, Table}
use Rattle.server_engine.specs.Messages.{passed}
use Rattle.server_establishing.specs.declared.ahead.Ahead.{Ahead}
use Rattle.server_establishing.specs.declared.asking.Prepared.{Prepared}
use Rattle.server_establishing.specs.declared.asking.Prepared.TheVariants.{Again, New, Nothing}
use Rattle.server_establishing.specs.Ahead.{IsEstablishedWith, IsMadeFor, KeepsPlace}
use Rattle.server_establishing.specs.Prepared.{IsPrepared}
use Rattle.server_answers.proofs.Taken.{behind_it}

name_in : (o : Option ℕ) (p : Peer) → (after_message_in o p).name ≡ p.name
name_in None p = refl
name_in (Some n) p = refl

name_stays : (p : Peer) → (after_message p).name ≡ p.name
unfolding after_message
name_stays p = name_in (waiting_in p) p

keeps_place : KeepsPlace behind_it
keeps_place = record { here = λ y. refl; established = λ y. refl; peer_id = λ y. refl }

-- what was made ahead for a client stays right where only that client is changed
abbrev pub MadeStays : Type 0
MadeStays = (c then : Course) (n : ℕ) (name : List ℕ) (file : Ccd) (ahead : Ahead) (g : Client → Client) (x : Client) → IsMadeFor c n name file ahead
    → client_here c.table n ≡ Some x → x.established ≡ None → KeepsPlace g → then.table.settings ≡ c.table.settings
    → then.table.clients ≡ changed_at n g c.table.clients → IsMadeFor then n name file ahead

-- what is prepared for it is so behind the message
pub prepared_behind : MadeStays → (n : ℕ) (c then : Course) (x : Client) (p : Prepared) → client_here c.table n ≡ Some x → then.table ≡ (passed n c).table
    → IsPrepared c n x p → IsPrepared then n (behind_it x) p
prepared_behind stays n c then x (New ahead) there is of = record {
  not_yet = of.not_yet;
  name = name_stays x.session ∙ of.name;
  file = of.file;
  made = stays c then n ahead.name ahead.file ahead behind_it x of.made there of.not_yet keeps_place (ap (λ (t : Table). t.settings) is)
      (ap (λ (t : Table). t.clients) is);
}
prepared_behind stays n c then x (Again replies) there is of =
    subst (λ (t : Table). IsEstablishedWith t (behind_it x) (Some replies)) (sym is)
    (record { when = of.when; established = of.established; again = of.again })
prepared_behind stays n c then x Nothing there is of = absurd of
