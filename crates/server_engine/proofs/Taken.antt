-- Answers for clients' files that are taken.
use Rattle.std.proofs.Common.{◌≡◌, ℕ, Bool, List, slice_get, option_map, Option, Some, None, refl, sym, ap, subst, ◌∙◌}
use Rattle.std.specs.Prelude.{is_some, unwrap_or}
use Rattle.std.specs.Str.{bytes_eq}
use Rattle.std.proofs.lemmas.Bool.{false≢true}
use Rattle.vpn_base.specs.declared.names.Cause.TheVariants.{CcdFailed, CcdRefused}
use Rattle.vpn_base.specs.declared.names.Cid.{Cid}
use Rattle.vpn_base.specs.declared.names.Draw.{Draw}
use Rattle.vpn_links.specs.Actions.{Action, Contents}
use Rattle.vpn_links.specs.declared.events.FileAnswer.{FileAnswer}
use Rattle.vpn_links.specs.declared.events.FileAnswer.TheVariants as answers
use Rattle.vpn_links.specs.declared.notes.Note.TheVariants as notes
use Rattle.vpn_text.specs.declared.config.ConfigFault.{ConfigFault}
use Rattle.ccd_files.specs.declared.client_file.Ccd.{Ccd}
use Rattle.client_table.specs.Tables.{entries_of}
use Rattle.peer_table.specs.Peer.{Peer}
use Rattle.server_table.specs.Courses.{Course, reported}
use Rattle.server_table.specs.Endings.{ended}
use Rattle.server_table.specs.Engine.{default_name, file_accepted, file_at, file_came, file_for, file_given, file_lacking, file_read}
use Rattle.server_table.specs.Lookups.{cid, client_here}
use Rattle.server_table.specs.Table.{Awaited, Client, FileState, Known, Unasked}
use Rattle.server_state.specs.declared.client.ClientState.{ClientState}
use Rattle.server_state.specs.declared.state.ServerCore.{ServerCore}
use Rattle.server_state.specs.Core.{CourseStands, FileStands}
use Rattle.server_state.specs.Places.{IsThere}
use Rattle.server_engine.specs.declared.answers.ReadAnswer.TheVariants as read
use Rattle.server_engine.specs.Files.{IsTaken, Tells}
use Rattle.server_engine.specs.internal.Asked.{IsTakenAs, awaited_default}
use Rattle.server_engine.proofs.Judged.{state_at, value_is}

module _ {S : Type 0} (means : S → Peer → Type 0) (before : List Action) (core : ServerCore S) (out : Contents) (draw : Draw) (n : ℕ) (c : Course) (r : Option Ccd) where
  abbrev pub Takes : Course → Type 0
  Takes done = IsTakenAs means before core out draw n c done r

  -- its text was read
  pub accepted_given : (name : List ℕ) (file : Ccd) (told : FileAnswer) → Tells (read.Accepted file) told → Takes (file_accepted draw n c file file.disable)
      → Takes (file_given draw n name c told)
  accepted_given name file (answers.Held text) is got = subst (λ read. Takes (file_read draw n c read)) (sym is) got
  accepted_given name file answers.Missing is got = absurd is
  accepted_given name file answers.Failed is got = absurd is

  -- it is refused
  pub refused_given : (name : List ℕ) (fault : ConfigFault) (told : FileAnswer) → Tells (read.Refused fault) told → Takes (ended n (CcdRefused fault.line) c)
      → Takes (file_given draw n name c told)
  refused_given name fault (answers.Held text) is got = subst (λ read. Takes (file_read draw n c read)) (sym is) got
  refused_given name fault answers.Missing is got = absurd is
  refused_given name fault answers.Failed is got = absurd is

  -- there is none
  pub missing_given : (name : List ℕ) (told : FileAnswer) → Tells read.Missing told → Takes (file_lacking draw n name c c.table.settings.exclusive)
      → Takes (file_given draw n name c told)
  missing_given name (answers.Held text) is got = absurd is
  missing_given name answers.Missing is got = got
  missing_given name answers.Failed is got = absurd is

  -- it could not be read
  pub failed_given : (name : List ℕ) (told : FileAnswer) → Tells read.Failed told → Takes (ended n CcdFailed c) → Takes (file_given draw n name c told)
  failed_given name (answers.Held text) is got = absurd is
  failed_given name answers.Missing is got = absurd is
  failed_given name answers.Failed is got = got

  -- the client waits for it
  pub given_for : (told : FileAnswer) (b : Bool) (state : FileState) → Some b ≡ awaited_default state
      → ((name : List ℕ) → b ≡ bytes_eq name default_name → Takes (file_given draw n name c told)) → Takes (file_for draw n told c state)
  given_for told b (Awaited name) is given = given name (ap (λ o. unwrap_or o b) is)
  given_for told b Unasked is given = absurd (false≢true (sym (ap is_some is)))
  given_for told b (Known file) is given = absurd (false≢true (sym (ap is_some is)))

-- the client does not wait for one
not_awaited : (draw : Draw) (n : ℕ) (told : FileAnswer) (c : Course) (state : FileState) → None ≡ awaited_default state
    → file_for draw n told c state ≡ reported (notes.Unasked (cid n)) c
not_awaited draw n told c (Awaited name) is = absurd (false≢true (ap is_some is))
not_awaited draw n told c Unasked is = refl
not_awaited draw n told c (Known file) is = refl

taken_as : {S : Type 0} (means : S → Peer → Type 0) (before : List Action) (core : ServerCore S) (out : Contents) (draw : Draw) (id : Cid) (c : Course) (told : FileAnswer) (r : Option Ccd)
    → IsTakenAs means before core out draw id.0 c (file_came draw id told c) r → IsTaken means before core out draw id told c r
taken_as means before core out draw id c told None got = got
taken_as means before core out draw id c told (Some file) got = got

module _ {S : Type 0} (means : S → Peer → Type 0) (before : List Action) (core : ServerCore S) (c : Course) (draw : Draw) (id : Cid) (told : FileAnswer) where
  -- nobody is here
  pub nobody_takes : (out : Contents) → client_here c.table id.0 ≡ None → CourseStands means before core out (reported (notes.Unasked id) c)
      → IsTaken means before core out draw id told c None
  unfolding file_came
  nobody_takes out none got = subst (λ o. CourseStands means before core out (file_at draw id.0 told c o)) (sym none) got

  module _ (i : ℕ) (there : IsThere means core c.table id.0 i) (v : ClientState S) (at : option_map (λ e. e.value) (slice_get (entries_of core.clients) i) ≡ Some v)
      (waits : Option Bool) (is : (p : Peer) (state : FileState) → means v.session p → FileStands p.name v.file state → waits ≡ awaited_default state) where
    abbrev pub x : Client
    x = there.client

    waits_is : waits ≡ awaited_default x.file
    waits_is =
        is x.session x.file (state_at means core c.table id.0 i v there at).session
        (subst (λ (v : ClientState S). FileStands x.session.name v.file x.file) (value_is (slice_get (entries_of core.clients) i) there.entry v there.entry_there at) there.stands.file)

    -- it waits for none
    pub none_takes : (out : Contents) → waits ≡ None → CourseStands means before core out (reported (notes.Unasked id) c) → IsTaken means before core out draw id told c None
    unfolding file_came
    none_takes out none got =
        subst (λ o. CourseStands means before core out (file_at draw id.0 told c o)) (sym there.client_there)
        (subst (λ c. CourseStands means before core out c) (sym (not_awaited draw id.0 told c x.file (sym none ∙ waits_is))) got)

    -- it waits for one
    pub one_takes : (next : ServerCore S) (out : Contents) (b : Bool) (r : Option Ccd) → waits ≡ Some b
        → ((name : List ℕ) → b ≡ bytes_eq name default_name → IsTakenAs means before next out draw id.0 c (file_given draw id.0 name c told) r)
        → IsTaken means before next out draw id told c r
    unfolding file_came
    one_takes next out b r some given =
        taken_as means before next out draw id c told r
        (subst (λ o. IsTakenAs means before next out draw id.0 c (file_at draw id.0 told c o) r) (sym there.client_there)
        (given_for means before next out draw id.0 c r told b x.file (sym some ∙ waits_is) given))
