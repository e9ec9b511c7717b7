-- How `check` ends where everything is told.
use Rattle.std.proofs.Common.{◌≡◌, ℕ, List, Ok, Err, Result, ap, ◌∙◌, sym, subst, inl, inr, refl}
use Rattle.std.specs.Prelude.{◌⊎◌, Option, Some, None}
use Rattle.vpn_base.specs.Answers.{Rose}
use Rattle.vpn_base.specs.Files.{Holding, Untold, Absent, Held, IsMissing}
use Rattle.vpn_text.specs.declared.config.ConfigFault.{ConfigFault}
use Rattle.tls_crypt.specs.declared.static_key.KeyFault.{KeyFault}
use Rattle.tls_crypt.specs.StaticKey.{static_key}
use Rattle.ovpn_config.specs.declared.settings.Settings.{Settings}
use Rattle.ovpn_config.specs.declared.settings.KeyPlace.{KeyPlace}
use Rattle.ovpn_config.specs.declared.settings.KeyPlace.TheVariants.{Named, Inline}
use Rattle.ovpn_config.specs.Reading.{settings}
use Rattle.vpn_top.specs.declared.refusal.Refusal.{Refusal}
use Rattle.vpn_top.specs.declared.refusal.Refusal.TheVariants as refusals
use Rattle.vpn_top.specs.Answer.{IsCutOff, exit_status}
use Rattle.vpn_top.specs.Check.{RanCheck}
use Rattle.vpn_top.specs.Configuration.{Configured, IsConfigured, IsFrontOf, IsKeyText, IsKeyed, IsMiskeyed, IsTold, IsToldKey, Keyed, Misconfigured, Miskeyed}
use Rattle.vpn_top.specs.Written.{Run}

-- an answer is not both
abbrev IsGood : {A E : Type 0} → Result A E → Type 0
IsGood (Ok a) = Unit {0}
IsGood (Err e) = ⊥

pub not_both : {A E : Type 0} (a : A) (e : E) → Ok a ≡ Err e → ⊥
not_both {A} {E} a e same = subst (λ (r : Result A E). IsGood r) same tt

abbrev ok_or : {A E : Type 0} → A → Result A E → A
ok_or a (Ok b) = b
ok_or a (Err e) = a

-- what files tell is what was read
told_bytes : (h : Holding) (told read : List ℕ) → IsTold h told → IsFrontOf 65536 h read → read ≡ told
told_bytes Untold told read is front = absurd is
told_bytes Absent told read is front = absurd is
told_bytes (Held held) told read is front = front ∙ sym is

pub told_key : (holds : List ℕ → Holding) (place : KeyPlace) (told read : List ℕ) → IsToldKey holds place told → IsKeyText holds place read → read ≡ told
told_key holds (Named name) told read is text = told_bytes (holds name) told read is text
told_key holds (Inline block) told read is text = text ∙ sym is

pub configured_same : (h : Holding) (s t : Settings) → IsConfigured h s → Configured h t → t ≡ s
configured_same Untold s t is c = absurd is
configured_same Absent s t is c = absurd is
configured_same (Held held) s t is c = ap (ok_or s) (sym c.accepted ∙ ap settings c.whole ∙ is)

pub not_misconfigured : (h : Holding) (s : Settings) (fault : ConfigFault) → IsConfigured h s → Misconfigured h fault → ⊥
not_misconfigured Untold s fault is m = is
not_misconfigured Absent s fault is m = is
not_misconfigured (Held held) s fault is m = not_both s fault (sym is ∙ ap settings (sym m.whole) ∙ m.refused)

pub not_missing : (h : Holding) (s : Settings) → IsConfigured h s → IsMissing h → ⊥
not_missing Untold s is missing = is
not_missing Absent s is missing = is
not_missing (Held held) s is missing = missing

told_not_missing : (h : Holding) (bytes : List ℕ) → IsTold h bytes → IsMissing h → ⊥
told_not_missing Untold bytes is missing = is
told_not_missing Absent bytes is missing = is
told_not_missing (Held held) bytes is missing = missing

-- the key's file is there
pub key_there : (holds : List ℕ → Holding) (place : KeyPlace) (file bytes : List ℕ) → place ≡ Named file → IsToldKey holds place bytes → IsMissing (holds file) → ⊥
key_there holds place file bytes named is missing = told_not_missing (holds file) bytes (subst (λ (p : KeyPlace). IsToldKey holds p bytes) named is) missing

-- with a static key, `check` ends well, or by a fault of the outside or want of memory
pub checked_end : (holds : List ℕ → Holding) (name subject : List ℕ) (s : Settings) (r : Option Refusal) (run : Run) → RanCheck holds name r subject run → IsConfigured (holds name) s → IsKeyed holds s.key
    → (exit_status r ≡ 0) ⊎ ((exit_status r ≡ 3) × Rose run.files.0 run.files.1) ⊎ IsCutOff (exit_status r) run.out run.err
checked_end holds name subject s None run ran is keyed = inl refl
checked_end holds name subject s (Some refusals.Usage) run ran is keyed = absurd ran
checked_end holds name subject s (Some refusals.NotServer) run ran is keyed = absurd ran
checked_end holds name subject s (Some (refusals.Schedule number kind)) run ran is keyed = absurd ran
checked_end holds name subject s (Some refusals.TurnsSpent) run ran is keyed = absurd ran
checked_end holds name subject s (Some (refusals.Line fault)) run ran is keyed = absurd ran
checked_end holds name subject s (Some (refusals.Config number kind)) run ran is keyed = absurd (not_misconfigured (holds name) s _ is ran.0)
checked_end holds name subject s (Some (refusals.Key fault)) run ran is keyed =
    let bad = subst (λ (t : Settings). Miskeyed holds t.key fault) (configured_same (holds name) s ran.0.s is ran.0.configured) ran.0.miskeyed in
    absurd (not_both keyed.key fault (sym keyed.accepted ∙ ap static_key (sym (told_key holds s.key keyed.bytes bad.bytes keyed.told bad.text)) ∙ bad.refused))
checked_end holds name subject s (Some refusals.Missing) run (inl same, missing, after) is keyed = absurd (not_missing (holds name) s is (subst (λ (n : List ℕ). IsMissing (holds n)) same missing))
checked_end holds name subject s (Some refusals.Missing) run (inr file, missing, after) is keyed =
    absurd (key_there holds s.key subject keyed.bytes (ap (λ (t : Settings). t.key) (sym (configured_same (holds name) s file.s is file.configured)) ∙ file.named) keyed.told missing)
checked_end holds name subject s (Some refusals.Unreadable) run ran is keyed = inr (inl (refl, ran.2))
checked_end holds name subject s (Some refusals.Output) run ran is keyed = inr (inr (inl (refl, ran.0)))
checked_end holds name subject s (Some refusals.NoMemory) run ran is keyed = inr (inr (inr refl))

-- with a faulty text of a static key, it is refused
pub miskeyed_end : (holds : List ℕ → Holding) (name subject : List ℕ) (s : Settings) (fault : KeyFault) (r : Option Refusal) (run : Run) → RanCheck holds name r subject run → IsConfigured (holds name) s → IsMiskeyed holds s.key fault
    → (exit_status r ≡ 2) ⊎ ((exit_status r ≡ 3) × Rose run.files.0 run.files.1) ⊎ IsCutOff (exit_status r) run.out run.err
miskeyed_end holds name subject s fault None run ran is bad =
    let keyed = subst (λ (t : Settings). Keyed holds t.key) (configured_same (holds name) s ran.s is ran.configured) ran.keyed in
    absurd (not_both keyed.key fault (sym keyed.accepted ∙ ap static_key (told_key holds s.key bad.bytes keyed.bytes bad.told keyed.text) ∙ bad.refused))
miskeyed_end holds name subject s fault (Some refusals.Usage) run ran is bad = absurd ran
miskeyed_end holds name subject s fault (Some refusals.NotServer) run ran is bad = absurd ran
miskeyed_end holds name subject s fault (Some (refusals.Schedule number kind)) run ran is bad = absurd ran
miskeyed_end holds name subject s fault (Some refusals.TurnsSpent) run ran is bad = absurd ran
miskeyed_end holds name subject s fault (Some (refusals.Line other)) run ran is bad = absurd ran
miskeyed_end holds name subject s fault (Some (refusals.Config number kind)) run ran is bad = inl refl
miskeyed_end holds name subject s fault (Some (refusals.Key other)) run ran is bad = inl refl
miskeyed_end holds name subject s fault (Some refusals.Missing) run (inl same, missing, after) is bad = absurd (not_missing (holds name) s is (subst (λ (n : List ℕ). IsMissing (holds n)) same missing))
miskeyed_end holds name subject s fault (Some refusals.Missing) run (inr file, missing, after) is bad =
    absurd (key_there holds s.key subject bad.bytes (ap (λ (t : Settings). t.key) (sym (configured_same (holds name) s file.s is file.configured)) ∙ file.named) bad.told missing)
miskeyed_end holds name subject s fault (Some refusals.Unreadable) run ran is bad = inr (inl (refl, ran.2))
miskeyed_end holds name subject s fault (Some refusals.Output) run ran is bad = inr (inr (inl (refl, ran.0)))
miskeyed_end holds name subject s fault (Some refusals.NoMemory) run ran is bad = inr (inr (inr refl))

-- no text of a static key comes of a file that is absent
no_front : (h : Holding) (bytes : List ℕ) → h ≡ Absent → IsFrontOf 65536 h bytes → ⊥
no_front h bytes absent front = subst (λ (x : Holding). IsFrontOf 65536 x bytes) absent front

pub no_key_text : (holds : List ℕ → Holding) (place : KeyPlace) (file bytes : List ℕ) → place ≡ Named file → holds file ≡ Absent → IsKeyText holds place bytes → ⊥
no_key_text holds place file bytes named absent text = no_front (holds file) bytes absent (subst (λ (p : KeyPlace). IsKeyText holds p bytes) named text)

-- where the file of the static key is absent, it is named as missing
pub keyless_end : (holds : List ℕ → Holding) (name subject file : List ℕ) (s : Settings) (r : Option Refusal) (run : Run) → RanCheck holds name r subject run → IsConfigured (holds name) s
    → s.key ≡ Named file → holds file ≡ Absent → (exit_status r ≡ 3) ⊎ IsCutOff (exit_status r) run.out run.err
keyless_end holds name subject file s None run ran is named absent =
    let keyed = subst (λ (t : Settings). Keyed holds t.key) (configured_same (holds name) s ran.s is ran.configured) ran.keyed in
    absurd (no_key_text holds s.key file keyed.bytes named absent keyed.text)
keyless_end holds name subject file s (Some refusals.Usage) run ran is named absent = absurd ran
keyless_end holds name subject file s (Some refusals.NotServer) run ran is named absent = absurd ran
keyless_end holds name subject file s (Some (refusals.Schedule number kind)) run ran is named absent = absurd ran
keyless_end holds name subject file s (Some refusals.TurnsSpent) run ran is named absent = absurd ran
keyless_end holds name subject file s (Some (refusals.Line fault)) run ran is named absent = absurd ran
keyless_end holds name subject file s (Some (refusals.Config number kind)) run ran is named absent = absurd (not_misconfigured (holds name) s _ is ran.0)
keyless_end holds name subject file s (Some (refusals.Key fault)) run ran is named absent =
    let bad = subst (λ (t : Settings). Miskeyed holds t.key fault) (configured_same (holds name) s ran.0.s is ran.0.configured) ran.0.miskeyed in
    absurd (no_key_text holds s.key file bad.bytes named absent bad.text)
keyless_end holds name subject file s (Some refusals.Missing) run ran is named absent = inl refl
keyless_end holds name subject file s (Some refusals.Unreadable) run ran is named absent = inl refl
keyless_end holds name subject file s (Some refusals.Output) run ran is named absent = inr (inl (refl, ran.0))
keyless_end holds name subject file s (Some refusals.NoMemory) run ran is named absent = inr (inr refl)
