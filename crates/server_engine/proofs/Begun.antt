-- Key exchanges that begin.
use Rattle.std.proofs.Common.{◌≡◌, ℕ, true, false, List, slice_get, option_map, Option, Some, refl, sym, ap, subst, ◌∙◌}
use Rattle.std.proofs.lemmas.Bool.{false≢true}
use Rattle.vpn_base.specs.declared.names.Draw.{Draw}
use Rattle.vpn_links.specs.Actions.{Action, Contents}
use Rattle.client_table.specs.Tables.{entries_of}
use Rattle.peer_table.specs.Exchange.{cipher_of, exchanged}
use Rattle.peer_table.specs.Peer.{Peer}
use Rattle.server_table.specs.Courses.{Course, acted}
use Rattle.server_table.specs.Endings.{turned}
use Rattle.server_table.specs.Exchange.{exchange, exchange_acted, exchange_for, exchange_with, policy_with}
use Rattle.server_table.specs.Table.{Awaited, Client, FileState, Known, Unasked}
use Rattle.server_state.specs.declared.client.ClientFile.{ClientFile}
use Rattle.server_state.specs.declared.client.ClientFile.TheVariants as files
use Rattle.server_state.specs.declared.client.ClientState.{ClientState}
use Rattle.server_state.specs.declared.state.ServerCore.{ServerCore}
use Rattle.server_state.specs.Core.{CourseStands, FileStands}
use Rattle.server_state.specs.Places.{IsThere}
use Rattle.server_table.specs.Lookups.{client_here}
use Rattle.server_engine.specs.Rests.{HasBegun, HasMade, keys_exchanged}
use Rattle.server_engine.specs.internal.Asked.{is_known}
use Rattle.server_engine.proofs.Asked.{same_client}
use Rattle.server_engine.proofs.Judged.{value_is}

with_known : (name : Option (List ℕ)) (file : ClientFile) (state : FileState) (draw : Draw) (n : ℕ) (x : Client) (c : Course) → is_known file ≡ true → FileStands name file state
    → exchange_with draw n x c state ≡ exchange_acted n x c (exchanged (policy_with c.table.settings.ciphers (cipher_of x.session)) x.peer_id draw x.session)
with_known name files.Unasked state draw n x c is h = absurd (false≢true is)
with_known name files.AwaitsOwn state draw n x c is h = absurd (false≢true is)
with_known name files.AwaitsDefault state draw n x c is h = absurd (false≢true is)
with_known name (files.Known ccd) (Known known) draw n x c is h = refl
with_known name (files.Known ccd) Unasked draw n x c is h = absurd h
with_known name (files.Known ccd) (Awaited asked) draw n x c is h = absurd h

with_unknown : (name : Option (List ℕ)) (file : ClientFile) (state : FileState) (draw : Draw) (n : ℕ) (x : Client) (c : Course) → is_known file ≡ false → FileStands name file state
    → exchange_with draw n x c state ≡ c
with_unknown name files.Unasked Unasked draw n x c is h = refl
with_unknown name files.Unasked (Awaited asked) draw n x c is h = absurd h
with_unknown name files.Unasked (Known known) draw n x c is h = absurd h
with_unknown name files.AwaitsOwn Unasked draw n x c is h = absurd h
with_unknown name files.AwaitsOwn (Awaited asked) draw n x c is h = refl
with_unknown name files.AwaitsOwn (Known known) draw n x c is h = absurd h
with_unknown name files.AwaitsDefault Unasked draw n x c is h = absurd h
with_unknown name files.AwaitsDefault (Awaited asked) draw n x c is h = refl
with_unknown name files.AwaitsDefault (Known known) draw n x c is h = absurd h
with_unknown name (files.Known ccd) state draw n x c is h = absurd (false≢true (sym is))

module _ {S : Type 0} (means : S → Peer → Type 0) (before : List Action) (core : ServerCore S) (c : Course) (draw : Draw) (n i : ℕ) (there : IsThere means core c.table n i)
    (v : ClientState S) (at : option_map (λ e. e.value) (slice_get (entries_of core.clients) i) ≡ Some v) where
  file_was : FileStands there.client.session.name v.file there.client.file
  file_was =
      subst (λ (v : ClientState S). FileStands there.client.session.name v.file there.client.file)
      (value_is (slice_get (entries_of core.clients) i) there.entry v there.entry_there at) there.stands.file

  -- the file is not known yet
  pub not_begun : (next : ServerCore S) (out : Contents) → is_known v.file ≡ false → CourseStands means before next out c → HasBegun means before next out draw n c false
  unfolding exchange
  not_begun next out is h =
      subst (λ o. CourseStands means before next out (exchange_for draw n c o)) (sym there.client_there)
      (subst (λ c. CourseStands means before next out c) (sym (with_unknown there.client.session.name v.file there.client.file draw n there.client c is file_was)) h)

  -- it is known, and the exchange was made
  pub begun : (next : ServerCore S) (out : Contents) → is_known v.file ≡ true
      → ((x : Client) → x ≡ there.client → CourseStands means before next out
      (turned n (exchanged (policy_with c.table.settings.ciphers (cipher_of x.session)) x.peer_id draw x.session).answer
      (acted n x.address (exchanged (policy_with c.table.settings.ciphers (cipher_of x.session)) x.peer_id draw x.session) c)))
      → HasBegun means before next out draw n c true
  unfolding exchange
  begun next out is got =
      let x = there.client in
      let o = exchanged (policy_with c.table.settings.ciphers (cipher_of x.session)) x.peer_id draw x.session in
      record {
        so_far = turned n o.answer (acted n x.address o c);
        stands = got x refl;
        leads = ap (exchange_for draw n c) there.client_there ∙ with_known x.session.name v.file x.file draw n x c is file_was;
      }

  module _ (x : Client) (here : client_here c.table n ≡ Some x) where
    file_then : FileStands x.session.name v.file x.file
    file_then = subst (λ (x : Client). FileStands x.session.name v.file x.file) (same_client _ there.client x there.client_there here) file_was

    -- the file is not known yet, and nothing was done
    pub none_made : (next : ServerCore S) (out : Contents) → is_known v.file ≡ false → CourseStands means before next out c → HasMade means before next out draw n x c false
    unfolding exchange
    none_made next out is h = (h, ap (exchange_for draw n c) here ∙ with_unknown x.session.name v.file x.file draw n x c is file_then)

    -- it is known, and the exchange was made
    pub one_made : (next : ServerCore S) (out : Contents) → is_known v.file ≡ true → CourseStands means before next out (keys_exchanged draw n x c)
        → HasMade means before next out draw n x c true
    unfolding exchange
    one_made next out is h = (h, ap (exchange_for draw n c) here ∙ with_known x.session.name v.file x.file draw n x c is file_then)
