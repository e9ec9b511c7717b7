-- How long names are.
use Rattle.std.proofs.Common.{◌≡◌, ℕ, ◌≤◌, ◌⊎◌, inl, inr, Bool, true, false, List, length, slice_get, Option, Some, None, refl, sym, ap, subst, ◌∙◌, arith}
use Rattle.std.specs.Prelude.{◌&&◌, is_some, nat_le, not, if◌then◌else◌}
use Rattle.std.specs.List.{list_all}
use Rattle.std.proofs.lemmas.Bool.{false≢true}
use Rattle.std.proofs.lemmas.Grind.{common_steps}
use Rattle.vpn_base.specs.declared.names.Cause.TheVariants.{BadName}
use Rattle.vpn_base.specs.declared.names.Conn.{Conn}
use Rattle.vpn_base.specs.declared.names.Draw.{Draw}
use Rattle.vpn_base.specs.declared.names.Policy.{Policy}
use Rattle.vpn_base.specs.FileName.{is_file_name, is_name_byte, names_folder}
use Rattle.key_method2.specs.declared.message.Km2.{Km2}
use Rattle.vpn_links.specs.declared.events.Kind.{Kind}
use Rattle.vpn_links.specs.declared.events.Kind.TheVariants.{EngineUp}
use Rattle.peer_table.specs.declared.outcomes.Turn.{Turn}
use Rattle.peer_table.specs.declared.outcomes.Turn.TheVariants as turns
use Rattle.peer_table.specs.EngineAnswers as engine
use Rattle.peer_table.specs.KeySessions.{Session, Stage}
use Rattle.peer_table.specs.KeySessions as sessions
use Rattle.peer_table.specs.Exchange.{exchanged}
use Rattle.peer_table.specs.Peer.{Outcome, Peer, answered, first_over}
use Rattle.server_engine.specs.Files.{NameFits}
use Rattle.server_engine.specs.Rests.{NameFitsFor}
use Rattle.server_engine.proofs.Called.{keeps}
use Rattle.server_engine.proofs.Exchanged.{keeps as exchange_keeps}

any_turn : (longest : ℕ) (p : Peer) (turn : Turn) → NameFits longest p.name → NameFitsFor longest p turn
any_turn longest p turns.Going fits = tt
any_turn longest p turns.Ignored fits = tt
any_turn longest p turns.Named fits = fits
any_turn longest p turns.Exchange fits = fits
any_turn longest p (turns.Over cause) fits = tt

fits_still : (longest : ℕ) (after name : Option (List ℕ)) → (after ≡ name) ⊎ (name ≡ None) → NameFits longest name → NameFits longest after
fits_still longest after name (inl same) fits = subst (NameFits longest) (sym same) fits
fits_still longest after name (inr none) fits = absurd (subst (NameFits longest) none fits)

pub known_fits : (longest : ℕ) (kind : Kind) (now : ℕ) (p : Peer) → NameFits longest p.name
    → NameFitsFor longest (engine.engine_came kind now p).peer (engine.engine_came kind now p).answer
known_fits longest kind now p fits =
    let o = engine.engine_came kind now p in
    any_turn longest o.peer o.answer (fits_still longest o.peer.name p.name (keeps kind now p).name fits)

-- ---- a name that is given

short_so : (some short c d : Bool) → some && short && c && d ≡ true → short ≡ true
short_so true true c d is = refl
short_so true false c d is = absurd (false≢true is)
short_so false short c d is = absurd (false≢true is)

few : (n : ℕ) → nat_le n 64 ≡ true → n ≤ 64
few n is = grind (arith, common_steps)

short_name : (name : List ℕ) → is_file_name name ≡ true → length name ≤ 64
unfolding is_file_name
short_name name is = few (length name) (short_so (nat_le 1 (length name)) (nat_le (length name) 64) (list_all is_name_byte name) (not (names_folder name)) is)

abbrev pub Fits : ℕ → Outcome Turn → Type 0
Fits longest o = NameFitsFor longest o.peer o.answer

given_fits : (longest n : ℕ) (name : List ℕ) (p : Peer) (known : Option (List ℕ)) → known ≡ None → length name ≤ longest → Fits longest (engine.name_given n name p known)
given_fits longest n name p None none fits = any_turn longest (engine.name_given n name p None).peer (engine.name_given n name p None).answer fits
given_fits longest n name p (Some known) none fits = absurd (false≢true (sym (ap is_some none)))

judged_fits : (longest n : ℕ) (name : List ℕ) (p : Peer) (b : Bool) → is_file_name name ≡ b → 64 ≤ longest → p.name ≡ None
    → Fits longest (if b then engine.name_given n name p p.name else answered p (turns.Over BadName))
judged_fits longest n name p true is most none = given_fits longest n name p p.name none (let short = short_name name is in omega (arith, short, most))
judged_fits longest n name p false is most none = tt

named_fits : (longest n : ℕ) (name : List ℕ) (p : Peer) (stage : Stage) → 64 ≤ longest → p.name ≡ None → Fits longest (engine.name_in n name p stage)
named_fits longest n name p sessions.Opening most none = judged_fits longest n (engine.kept_name name) p (is_file_name (engine.kept_name name)) refl most none
named_fits longest n name p sessions.Named most none = tt
named_fits longest n name p (sessions.Keyed keys) most none = tt

at_fits : (longest n : ℕ) (name : List ℕ) (p : Peer) (s : Option Session) → 64 ≤ longest → p.name ≡ None → Fits longest (engine.name_at n name p s)
at_fits longest n name p None most none = tt
at_fits longest n name p (Some s) most none = named_fits longest n name p s.stage most none

on_fits : (longest : ℕ) (conn : Conn) (name : List ℕ) (now : ℕ) (p : Peer) (n : Option ℕ) → 64 ≤ longest → p.name ≡ None
    → Fits longest (engine.answer_on (EngineUp conn name) now p n)
unfolding engine.name_came
on_fits longest conn name now p None most none = tt
on_fits longest conn name now p (Some n) most none = at_fits longest n name p (slice_get p.sessions n) most none

pub new_fits : (longest : ℕ) (conn : Conn) (name : List ℕ) (now : ℕ) (p : Peer) → 64 ≤ longest → p.name ≡ None → Fits longest (engine.engine_came (EngineUp conn name) now p)
unfolding engine.engine_came
new_fits longest conn name now p most none = on_fits longest conn name now p (engine.open_with conn p) most none

-- ---- a name that is known

known_so : (after name : Option (List ℕ)) (n : List ℕ) → (after ≡ name) ⊎ (name ≡ None) → name ≡ Some n → after ≡ Some n
known_so after name n (inl same) is = same ∙ is
known_so after name n (inr none) is = absurd (false≢true (sym (ap is_some none) ∙ ap is_some is))

pub known_stays : (kind : Kind) (now : ℕ) (p : Peer) (name : List ℕ) → p.name ≡ Some name → (engine.engine_came kind now p).peer.name ≡ Some name
known_stays kind now p name is = known_so (engine.engine_came kind now p).peer.name p.name name (keeps kind now p).name is

pub exchange_stays : (policy : Policy) (peer_id : ℕ) (draw : Draw) (p : Peer) (name : List ℕ) → p.name ≡ Some name → (exchanged policy peer_id draw p).peer.name ≡ Some name
exchange_stays policy peer_id draw p name is = known_so (exchanged policy peer_id draw p).peer.name p.name name (exchange_keeps policy peer_id draw p).name is

-- ---- a name where none was known

abbrev is_going : Turn → Bool
is_going turns.Going = true
is_going turn = false

abbrev is_exchange : Turn → Bool
is_exchange turns.Exchange = true
is_exchange turn = false

no_exchange : {A : Type 0} (turn : Turn) → is_exchange turn ≡ false → turn ≡ turns.Exchange → A
no_exchange turn other is = absurd (false≢true (sym other ∙ ap is_exchange is))

no_going : {A : Type 0} (turn : Turn) → is_going turn ≡ false → turn ≡ turns.Going → A
no_going turn other is = absurd (false≢true (sym other ∙ ap is_going is))

next_goes : (m : Option (Km2 × ℕ)) → is_going (engine.next_turn m true) ≡ false
next_goes None = refl
next_goes (Some m) = refl

after_goes : (bad : Turn) (m : Option (Km2 × ℕ)) → is_going (first_over bad (engine.next_turn m true)) ≡ false
after_goes turns.Going m = next_goes m
after_goes turns.Ignored m = next_goes m
after_goes turns.Named m = next_goes m
after_goes turns.Exchange m = next_goes m
after_goes (turns.Over cause) m = refl

-- what leads to an exchange has given the name, and what goes on has changed nothing
abbrev Ups : List ℕ → Peer → Outcome Turn → Type 0
Ups name p o = (o.answer ≡ turns.Exchange → o.peer.name ≡ Some name) × (o.answer ≡ turns.Going → o.peer ≡ p)

given_up : (n : ℕ) (name : List ℕ) (p : Peer) (known : Option (List ℕ)) → known ≡ None → Ups name p (engine.name_given n name p known)
given_up n name p None none =
    let o = engine.name_given n name p None in
    (λ is. refl, λ is. no_going o.answer (after_goes (engine.bad_at (engine.with_named n (record p { name = Some name })) (slice_get (engine.with_named n (record p { name = Some name })).sessions n)) (engine.prepared_message o.peer)) is)
given_up n name p (Some known) none = absurd (false≢true (sym (ap is_some none)))

judged_up : (n : ℕ) (name : List ℕ) (p : Peer) (b : Bool) → p.name ≡ None → Ups name p (if b then engine.name_given n name p p.name else answered p (turns.Over BadName))
judged_up n name p true none = given_up n name p p.name none
judged_up n name p false none = (λ is. no_exchange (turns.Over BadName) refl is, λ is. no_going (turns.Over BadName) refl is)

named_up : (n : ℕ) (name : List ℕ) (p : Peer) (stage : Stage) → p.name ≡ None → Ups (engine.kept_name name) p (engine.name_in n name p stage)
named_up n name p sessions.Opening none = judged_up n (engine.kept_name name) p (is_file_name (engine.kept_name name)) none
named_up n name p sessions.Named none = (λ is. no_exchange turns.Ignored refl is, λ is. no_going turns.Ignored refl is)
named_up n name p (sessions.Keyed keys) none = (λ is. no_exchange turns.Ignored refl is, λ is. no_going turns.Ignored refl is)

at_up : (n : ℕ) (name : List ℕ) (p : Peer) (s : Option Session) → p.name ≡ None → Ups (engine.kept_name name) p (engine.name_at n name p s)
at_up n name p None none = (λ is. no_exchange turns.Going refl is, λ is. refl)
at_up n name p (Some s) none = named_up n name p s.stage none

on_up : (conn : Conn) (name : List ℕ) (now : ℕ) (p : Peer) (n : Option ℕ) → p.name ≡ None → Ups (engine.kept_name name) p (engine.answer_on (EngineUp conn name) now p n)
unfolding engine.name_came
on_up conn name now p None none = (λ is. no_exchange turns.Going refl is, λ is. refl)
on_up conn name now p (Some n) none = at_up n name p (slice_get p.sessions n) none

pub name_up : (conn : Conn) (name : List ℕ) (now : ℕ) (p : Peer) → p.name ≡ None → Ups (engine.kept_name name) p (engine.engine_came (EngineUp conn name) now p)
unfolding engine.engine_came
name_up conn name now p none = on_up conn name now p (engine.open_with conn p) none
