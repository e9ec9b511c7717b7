-- Ciphers taken one behind another.
use Rattle.std.specs.Prelude.{List, Option, Some, None, find}
use Rattle.vpn_base.specs.declared.names.Cipher.{Cipher}
use Rattle.vpn_base.specs.declared.names.Policy.{Policy}
use Rattle.vpn_base.specs.declared.names.Policy.TheVariants.{Choose, Fixed}
use Rattle.config_directives.specs.Arguments.{is_other, policy_of}

-- what comes of more ciphers behind those that made this policy
abbrev pub with_more : Option Policy → List Cipher → Option Policy
with_more None more = policy_of more
with_more (Some (Choose first None)) more = Some (Choose first (find (is_other first) more))
with_more (Some (Choose first (Some second))) more = Some (Choose first (Some second))
with_more (Some (Fixed only)) more = Some (Fixed only)
