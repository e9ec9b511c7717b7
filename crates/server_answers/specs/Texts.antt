-- What text an answer of the engine brings.
use Rattle.std.specs.Prelude.{ℕ, length, Bool, true, false}
use Rattle.vpn_links.specs.declared.events.Kind.{Kind}
use Rattle.vpn_links.specs.declared.events.Kind.TheVariants.{EnginePlain, EngineText}

-- how many bytes of plain text an event brings
abbrev pub text_in : Kind → ℕ
text_in (EnginePlain conn bytes) = length bytes
text_in kind = 0

-- whether it is text for the other end
abbrev pub is_text : Kind → Bool
is_text (EngineText conn bytes) = true
is_text kind = false
