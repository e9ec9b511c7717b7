-- How `check` ends, once its refusal was told.
use Rattle.std.proofs.Common.{◌≡◌, ℕ, List, take, ap, ◌∙◌, sym, subst, inl, inr, refl}
use Rattle.std.specs.Prelude.{◌⊎◌, Option, Some, None, Ok, Err}
use Rattle.vpn_base.specs.Answers.{Answers, Rose}
use Rattle.vpn_base.specs.declared.errors.Or.{Or}
use Rattle.vpn_base.specs.declared.errors.Or.TheVariants.{Why}
use Rattle.vpn_base.specs.Files.{Holding, Untold, Absent, Held, IsMissing}
use Rattle.vpn_base.specs.declared.outside.FileFault.{FileFault}
use Rattle.vpn_base.specs.declared.outside.FileFault.TheVariants as faults
use Rattle.vpn_text.specs.declared.config.ConfigFault.{ConfigFault}
use Rattle.ovpn_config.specs.declared.settings.Settings.{Settings}
use Rattle.ovpn_config.specs.declared.settings.KeyPlace.{KeyPlace}
use Rattle.ovpn_config.specs.declared.settings.KeyPlace.TheVariants.{Named, Inline}
use Rattle.ovpn_config.specs.Canonical.{canonical}
use Rattle.ovpn_config.specs.Reading.{settings}
use Rattle.tls_crypt.specs.StaticKey.{static_key}
use Rattle.vpn_top.specs.Configuration.{Configured, HasKey, IsFrontOf, IsKeyText, Keyed, Misconfigured}
use Rattle.vpn_top.specs.internal.Refused.{ConfigEnded, HoldsKey, IsGone, KeyEnded, KeyFileEnded, LacksKey, Printing, gone_refusal}
use Rattle.vpn_top.specs.declared.refusal.Refusal.{Refusal}
use Rattle.vpn_top.specs.declared.refusal.Refusal.TheVariants as refusals
use Rattle.vpn_top.specs.Check.{CheckedAtMost, RanCheck}
use Rattle.vpn_top.specs.Written.{Run}

-- whatever it was refused for, a front of the text was written at most
at_most : (r : Refusal) (holds : List ℕ → Holding) (name subject : List ℕ) (run : Run) → RanCheck holds name (Some r) subject run → CheckedAtMost holds name run
at_most refusals.Usage holds name subject run ran = absurd ran
at_most refusals.NotServer holds name subject run ran = absurd ran
at_most (refusals.Schedule number kind) holds name subject run ran = absurd ran
at_most refusals.TurnsSpent holds name subject run ran = absurd ran
at_most (refusals.Line fault) holds name subject run ran = absurd ran
at_most (refusals.Config number kind) holds name subject run ran = inl ran.1
at_most (refusals.Key fault) holds name subject run ran = inl ran.1
at_most refusals.Missing holds name subject run ran = inl ran.2
at_most refusals.Unreadable holds name subject run ran = inl ran.3
at_most refusals.Output holds name subject run ran = ran.1
at_most refusals.NoMemory holds name subject run ran = ran

-- the refusal that is told is the one that it ended by, or one that came in telling it
pub check_told : (r told : Refusal) (holds : List ℕ → Holding) (name subject : List ℕ) (run : Run) → RanCheck holds name (Some r) subject run →
    ((told ≡ r) ⊎ (told ≡ refusals.NoMemory) ⊎ ((told ≡ refusals.Output) × Rose run.err.0 run.err.1)) → RanCheck holds name (Some told) subject run
check_told r told holds name subject run ran (inl same) = rw same ran
check_told r told holds name subject run ran (inr (inl memory)) = rw memory (at_most r holds name subject run ran)
check_told r told holds name subject run ran (inr (inr failed)) = rw failed.0 (inr failed.1, at_most r holds name subject run ran)

-- the configuration's file is not there or could not be read
pub config_gone : (holds : List ℕ → Holding) (name : List ℕ) (files : ℕ × ℕ) (fault : FileFault) (r : Refusal) (subject : List ℕ)
    → (fault ≡ faults.Missing → IsMissing (holds name)) → (fault ≡ faults.Failed → (¬ (holds name ≡ Absent)) × Rose files.0 files.1)
    → (((r ≡ gone_refusal fault) × (subject ≡ name)) ⊎ (r ≡ refusals.NoMemory)) → ConfigEnded holds name files r subject
config_gone holds name files faults.Missing r subject missing failed (inl both) = subst (λ (x : Refusal). ConfigEnded holds name files x subject) (sym both.0) (both.1, missing refl)
config_gone holds name files faults.Failed r subject missing failed (inl both) = subst (λ (x : Refusal). ConfigEnded holds name files x subject) (sym both.0) (both.1, failed refl)
config_gone holds name files faults.Missing r subject missing failed (inr memory) = subst (λ (x : Refusal). ConfigEnded holds name files x subject) (sym memory) tt
config_gone holds name files faults.Failed r subject missing failed (inr memory) = subst (λ (x : Refusal). ConfigEnded holds name files x subject) (sym memory) tt

-- the front of a configuration decides it
pub configured_by : (n : ℕ) (h : Holding) (front : List ℕ) (s : Settings) → ((text : List ℕ) → settings (take 65537 text) ≡ settings text)
    → n ≡ 65537 → IsFrontOf n h front → settings front ≡ Ok s → Configured h s
configured_by n Untold front s law size is read = record { bytes = front; whole = tt; accepted = read }
configured_by n Absent front s law size is read = absurd is
configured_by n (Held held) front s law size is read =
    record { bytes = held; whole = refl; accepted = sym (law held) ∙ ap (λ (m : ℕ). settings (take m held)) (sym size) ∙ ap settings (sym is) ∙ read }

pub misconfigured_by : (n : ℕ) (h : Holding) (front : List ℕ) (why : Or ConfigFault) (fault : ConfigFault) → ((text : List ℕ) → settings (take 65537 text) ≡ settings text)
    → n ≡ 65537 → IsFrontOf n h front → why ≡ Why fault → Answers (Err why) (settings front) → Misconfigured h fault
misconfigured_by n Untold front why fault law size is because read =
    record { bytes = front; whole = tt; refused = subst (λ (e : Or ConfigFault). Answers (Err e) (settings front)) because read }
misconfigured_by n Absent front why fault law size is because read = absurd is
misconfigured_by n (Held held) front why fault law size is because read = record {
  bytes = held;
  whole = refl;
  refused = sym (law held) ∙ ap (λ (m : ℕ). settings (take m held)) (sym size) ∙ ap settings (sym is) ∙ subst (λ (e : Or ConfigFault). Answers (Err e) (settings front)) because read;
}

-- the file of the static key is not there or could not be read
pub key_gone : (holds : List ℕ → Holding) (name : List ℕ) (files : ℕ × ℕ) (fault : FileFault) (r : Refusal) (subject : List ℕ)
    → (fault ≡ faults.Missing → IsMissing (holds name)) → (fault ≡ faults.Failed → (¬ (holds name ≡ Absent)) × Rose files.0 files.1)
    → (((r ≡ gone_refusal fault) × (subject ≡ name)) ⊎ (r ≡ refusals.NoMemory)) → KeyFileEnded holds name files r subject
key_gone holds name files faults.Missing r subject missing failed (inl both) = subst (λ (x : Refusal). KeyFileEnded holds name files x subject) (sym both.0) (both.1, missing refl)
key_gone holds name files faults.Failed r subject missing failed (inl both) = subst (λ (x : Refusal). KeyFileEnded holds name files x subject) (sym both.0) (both.1, failed refl)
key_gone holds name files faults.Missing r subject missing failed (inr memory) = subst (λ (x : Refusal). KeyFileEnded holds name files x subject) (sym memory) tt
key_gone holds name files faults.Failed r subject missing failed (inr memory) = subst (λ (x : Refusal). KeyFileEnded holds name files x subject) (sym memory) tt

-- the text of the file is judged
pub key_file_judged : (holds : List ℕ → Holding) (name : List ℕ) (files : ℕ × ℕ) (text : List ℕ) (r : Refusal) (subject : List ℕ)
    → IsFrontOf 65536 (holds name) text → LacksKey text r → KeyFileEnded holds name files r subject
key_file_judged holds name files text r subject front lacks =
    subst (λ (x : Refusal). KeyFileEnded holds name files x subject) (sym lacks.is) (record { bytes = text; text = front; refused = lacks.refused })

-- the static key is that of the file of this name
pub named_keyed : (holds : List ℕ → Holding) (place : KeyPlace) (name key : List ℕ) → place ≡ Named name → HoldsKey (holds name) key → HasKey holds place key
named_keyed holds place name key is keyed =
    record { bytes = keyed.bytes; text = subst (λ (p : KeyPlace). IsKeyText holds p keyed.bytes) (sym is) keyed.text; accepted = keyed.accepted }

pub named_ended : (holds : List ℕ → Holding) (place : KeyPlace) (name : List ℕ) (files : ℕ × ℕ) (r : Refusal) (subject : List ℕ) → place ≡ Named name
    → KeyFileEnded holds name files r subject → KeyEnded holds place files r subject
named_ended holds place name files refusals.Usage subject is ended = absurd ended
named_ended holds place name files refusals.NotServer subject is ended = absurd ended
named_ended holds place name files (refusals.Schedule number kind) subject is ended = absurd ended
named_ended holds place name files refusals.TurnsSpent subject is ended = absurd ended
named_ended holds place name files (refusals.Line fault) subject is ended = absurd ended
named_ended holds place name files (refusals.Config number kind) subject is ended = absurd ended
named_ended holds place name files (refusals.Key fault) subject is ended =
    record { bytes = ended.bytes; text = subst (λ (p : KeyPlace). IsKeyText holds p ended.bytes) (sym is) ended.text; refused = ended.refused }
named_ended holds place name files refusals.Missing subject is ended =
    (is ∙ ap Named (sym ended.0), subst (λ (n : List ℕ). IsGone (holds n) files refusals.Missing) (sym ended.0) ended.1)
named_ended holds place name files refusals.Unreadable subject is ended =
    (is ∙ ap Named (sym ended.0), subst (λ (n : List ℕ). IsGone (holds n) files refusals.Unreadable) (sym ended.0) ended.1)
named_ended holds place name files refusals.Output subject is ended = absurd ended
named_ended holds place name files refusals.NoMemory subject is ended = tt

-- the static key is that of a block
pub block_keyed : (holds : List ℕ → Holding) (place : KeyPlace) (block text key : List ℕ) → place ≡ Inline block → text ≡ take 65536 block → static_key text ≡ Ok key → HasKey holds place key
block_keyed holds place block text key is part read =
    record { bytes = text; text = subst (λ (p : KeyPlace). IsKeyText holds p text) (sym is) part; accepted = read }

-- there is one
pub keyed_by : (holds : List ℕ → Holding) (place : KeyPlace) (key : List ℕ) → HasKey holds place key → Keyed holds place
keyed_by holds place key has = record { bytes = has.bytes; text = has.text; key = key; accepted = has.accepted }

pub block_ended : (holds : List ℕ → Holding) (place : KeyPlace) (block text : List ℕ) (files : ℕ × ℕ) (r : Refusal) (subject : List ℕ) → place ≡ Inline block → text ≡ take 65536 block
    → LacksKey text r → KeyEnded holds place files r subject
block_ended holds place block text files r subject is part lacks =
    subst (λ (x : Refusal). KeyEnded holds place files x subject) (sym lacks.is)
    (record { bytes = text; text = subst (λ (p : KeyPlace). IsKeyText holds p text) (sym is) part; refused = lacks.refused })

-- `check` ends where the configuration is refused
pub check_config_ended : (holds : List ℕ → Holding) (name subject : List ℕ) (r : Refusal) (run : Run) → run.after ≡ run.before → ConfigEnded holds name run.files r subject → RanCheck holds name (Some r) subject run
check_config_ended holds name subject refusals.Usage run same ended = absurd ended
check_config_ended holds name subject refusals.NotServer run same ended = absurd ended
check_config_ended holds name subject (refusals.Schedule number kind) run same ended = absurd ended
check_config_ended holds name subject refusals.TurnsSpent run same ended = absurd ended
check_config_ended holds name subject (refusals.Line fault) run same ended = absurd ended
check_config_ended holds name subject (refusals.Config number kind) run same ended = (ended, same)
check_config_ended holds name subject (refusals.Key fault) run same ended = absurd ended
check_config_ended holds name subject refusals.Missing run same ended =
    (inl ended.0, subst (λ (n : List ℕ). IsMissing (holds n)) (sym ended.0) ended.1, same)
check_config_ended holds name subject refusals.Unreadable run same ended =
    (inl ended.0, subst (λ (n : List ℕ). ¬ (holds n ≡ Absent)) (sym ended.0) ended.1.0, ended.1.1, same)
check_config_ended holds name subject refusals.Output run same ended = absurd ended
check_config_ended holds name subject refusals.NoMemory run same ended = inl same

-- or where its static key is
pub check_key_ended : (holds : List ℕ → Holding) (name subject : List ℕ) (s : Settings) (r : Refusal) (run : Run) → run.after ≡ run.before → Configured (holds name) s → KeyEnded holds s.key run.files r subject
    → RanCheck holds name (Some r) subject run
check_key_ended holds name subject s refusals.Usage run same configured ended = absurd ended
check_key_ended holds name subject s refusals.NotServer run same configured ended = absurd ended
check_key_ended holds name subject s (refusals.Schedule number kind) run same configured ended = absurd ended
check_key_ended holds name subject s refusals.TurnsSpent run same configured ended = absurd ended
check_key_ended holds name subject s (refusals.Line fault) run same configured ended = absurd ended
check_key_ended holds name subject s (refusals.Config number kind) run same configured ended = absurd ended
check_key_ended holds name subject s (refusals.Key fault) run same configured ended = (record { s = s; configured = configured; miskeyed = ended }, same)
check_key_ended holds name subject s refusals.Missing run same configured ended =
    (inr (record { s = s; configured = configured; named = ended.0 }), ended.1, same)
check_key_ended holds name subject s refusals.Unreadable run same configured ended =
    (inr (record { s = s; configured = configured; named = ended.0 }), ended.1.0, ended.1.1, same)
check_key_ended holds name subject s refusals.Output run same configured ended = absurd ended
check_key_ended holds name subject s refusals.NoMemory run same configured ended = inl same

-- or once the canonical text was printed
pub check_printed : (holds : List ℕ → Holding) (name subject : List ℕ) (s : Settings) (r : Option Refusal) (run : Run) → Configured (holds name) s → Keyed holds s.key
    → Printing (canonical s) run.before run.after run.out r → RanCheck holds name r subject run
check_printed holds name subject s None run configured keyed printed = record { s = s; configured = configured; keyed = keyed; written = printed }
check_printed holds name subject s (Some refusals.Usage) run configured keyed printed = absurd printed
check_printed holds name subject s (Some refusals.NotServer) run configured keyed printed = absurd printed
check_printed holds name subject s (Some (refusals.Schedule number kind)) run configured keyed printed = absurd printed
check_printed holds name subject s (Some refusals.TurnsSpent) run configured keyed printed = absurd printed
check_printed holds name subject s (Some (refusals.Line fault)) run configured keyed printed = absurd printed
check_printed holds name subject s (Some (refusals.Config number kind)) run configured keyed printed = absurd printed
check_printed holds name subject s (Some (refusals.Key fault)) run configured keyed printed = absurd printed
check_printed holds name subject s (Some refusals.Missing) run configured keyed printed = absurd printed
check_printed holds name subject s (Some refusals.Unreadable) run configured keyed printed = absurd printed
check_printed holds name subject s (Some refusals.Output) run configured keyed printed =
    (inl printed.0, inr (record { s = s; configured = configured; keyed = keyed; part = printed.1 }))
check_printed holds name subject s (Some refusals.NoMemory) run configured keyed printed = inl printed
