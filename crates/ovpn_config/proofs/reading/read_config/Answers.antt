use Rattle.std.proofs.Common.{◌≡◌, List}
use Rattle.std.specs.Prelude.{Ok}
use Rattle.config_directives.specs.declared.item.Directive.{Directive}
use Rattle.config_directives.specs.Items.{items_of}
use Rattle.ovpn_config.specs.declared.settings.Settings.{Settings}
use Rattle.ovpn_config.specs.Bounds.{IsBounded}
use Rattle.ovpn_config.specs.Numbers.{SetsNumbers}
use Rattle.ovpn_config.specs.Reading.{directives_in}
use Rattle.ovpn_config.proofs.RoundBounds.{of_answer}
use Rattle.ovpn_config.proofs.reading.read_config.Goals as goal

pub returns-clause-bounded : goal.returns-clause-bounded
returns-clause-bounded c =
    of_answer IsBounded c.read_settings.result _ c.read_settings.ensures (λ s read. c.settings_are_bounded.ensures c.args.text.now s read)

pub returns-clause-numbers : goal.returns-clause-numbers
returns-clause-numbers c =
    of_answer (λ (s : Settings). (ds : List Directive) → directives_in c.args.text.now ≡ Ok ds → SetsNumbers (items_of ds) s)
    c.read_settings.result _ c.read_settings.ensures (λ s read ds. c.settings_have_given_numbers.ensures c.args.text.now s ds read)
