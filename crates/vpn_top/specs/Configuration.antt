-- The configuration and the static key that files hold, where they tell what they hold.
use Rattle.std.specs.Prelude.{◌≡◌, ◌⊎◌, ℕ, List, take, Ok, Err}
use Rattle.vpn_base.specs.Files.{Holding, Untold, Absent, Held}
use Rattle.vpn_text.specs.declared.config.ConfigFault.{ConfigFault}
use Rattle.tls_crypt.specs.declared.static_key.KeyFault.{KeyFault}
use Rattle.tls_crypt.specs.StaticKey.{static_key}
use Rattle.ovpn_config.specs.declared.settings.Settings.{Settings}
use Rattle.ovpn_config.specs.declared.settings.KeyPlace.{KeyPlace}
use Rattle.ovpn_config.specs.declared.settings.KeyPlace.TheVariants.{Named, Inline}
use Rattle.ovpn_config.specs.Reading.{settings}
use Rattle.vpn_top.specs.Written.{IsWhole}

-- these are the first so many bytes of a file, where it is told
abbrev pub IsFrontOf : ℕ → Holding → List ℕ → Type 0
IsFrontOf most Untold bytes = Unit {0}
IsFrontOf most Absent bytes = ⊥
IsFrontOf most (Held held) bytes = bytes ≡ take most held

-- the settings of a configuration file
pub record Configured (holding : Holding) (s : Settings) : Type 0 where
  pub bytes : List ℕ
  pub whole : IsWhole holding bytes
  pub accepted : settings bytes ≡ Ok s

-- its fault
pub record Misconfigured (holding : Holding) (fault : ConfigFault) : Type 0 where
  pub bytes : List ℕ
  pub whole : IsWhole holding bytes
  pub refused : settings bytes ≡ Err fault

-- the text of a static key: the first 65,536 bytes of the file that is named, or the block
abbrev pub IsKeyText : (List ℕ → Holding) → KeyPlace → List ℕ → Type 0
IsKeyText holds (Named name) bytes = IsFrontOf 65536 (holds name) bytes
IsKeyText holds (Inline block) bytes = bytes ≡ take 65536 block

-- this is the static key
pub record HasKey (holds : List ℕ → Holding) (place : KeyPlace) (key : List ℕ) : Type 0 where
  pub bytes : List ℕ
  pub text : IsKeyText holds place bytes
  pub accepted : static_key bytes ≡ Ok key

-- there is one
pub record Keyed (holds : List ℕ → Holding) (place : KeyPlace) : Type 0 where
  pub bytes : List ℕ
  pub text : IsKeyText holds place bytes
  pub key : List ℕ
  pub accepted : static_key bytes ≡ Ok key

-- the fault of its text
pub record Miskeyed (holds : List ℕ → Holding) (place : KeyPlace) (fault : KeyFault) : Type 0 where
  pub bytes : List ℕ
  pub text : IsKeyText holds place bytes
  pub refused : static_key bytes ≡ Err fault

-- the file of this name is wanted for the static key of a configuration
pub record IsKeyFile (holding : Holding) (file : List ℕ) : Type 0 where
  pub s : Settings
  pub configured : Configured holding s
  pub named : s.key ≡ Named file

-- the file of this name is wanted: it is that of the configuration, or that of its static key
abbrev pub IsWanted : (List ℕ → Holding) → List ℕ → List ℕ → Type 0
IsWanted holds name file = (file ≡ name) ⊎ IsKeyFile (holds name) file

-- where everything is told: the file holds these settings
abbrev pub IsConfigured : Holding → Settings → Type 0
IsConfigured (Held held) s = settings held ≡ Ok s
IsConfigured _ s = ⊥

-- where everything is told: the file has this fault
abbrev pub IsMisconfigured : Holding → ConfigFault → Type 0
IsMisconfigured (Held held) fault = settings held ≡ Err fault
IsMisconfigured _ fault = ⊥

-- where everything is told: the text of a static key in this file is this
abbrev pub IsTold : Holding → List ℕ → Type 0
IsTold (Held held) bytes = bytes ≡ take 65536 held
IsTold _ bytes = ⊥

-- the same of a static key in a file or in a block
abbrev pub IsToldKey : (List ℕ → Holding) → KeyPlace → List ℕ → Type 0
IsToldKey holds (Named name) bytes = IsTold (holds name) bytes
IsToldKey holds (Inline block) bytes = bytes ≡ take 65536 block

-- where everything is told: the text of the static key holds a key
pub record IsKeyed (holds : List ℕ → Holding) (place : KeyPlace) : Type 0 where
  pub bytes : List ℕ
  pub told : IsToldKey holds place bytes
  pub key : List ℕ
  pub accepted : static_key bytes ≡ Ok key

-- where everything is told: the text of the static key has this fault
pub record IsMiskeyed (holds : List ℕ → Holding) (place : KeyPlace) (fault : KeyFault) : Type 0 where
  pub bytes : List ℕ
  pub told : IsToldKey holds place bytes
  pub refused : static_key bytes ≡ Err fault
