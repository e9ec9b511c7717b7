-- The words behind a name, and ciphers behind ciphers.
use Rattle.std.proofs.Common.{◌≡◌, ℕ, ◌+◌, List, [], ◌∷◌, refl, add-one}
use Rattle.std.specs.Prelude.{Option, Some, None, slice_get}
use Rattle.vpn_base.specs.declared.names.Policy.{Policy}
use Rattle.vpn_base.specs.declared.names.Policy.TheVariants.{Choose, Fixed}
use Rattle.config_directives.specs.declared.item.Item.TheVariants.{Words}
use Rattle.config_directives.specs.Items.{arguments_of}
use Rattle.config_directives.specs.internal.Ciphers.{with_more}

-- a word behind the name
pub argument_at : (words : List (List ℕ)) (i : ℕ) → slice_get words (i + 1) ≡ slice_get (arguments_of (Words words)) i
argument_at [] i = refl
argument_at (name ∷ words) i = rw add-one refl

-- no more ciphers
pub with_no_more : (policy : Option Policy) → with_more policy [] ≡ policy
with_no_more None = refl
with_no_more (Some (Choose first None)) = refl
with_no_more (Some (Choose first (Some second))) = refl
with_no_more (Some (Fixed only)) = refl
