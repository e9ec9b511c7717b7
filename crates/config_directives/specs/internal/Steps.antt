-- What some entries of a file do, whatever follows them.
use Rattle.std.specs.Prelude.{◌≡◌, List, ◌++◌, Err}
use Rattle.vpn_text.specs.declared.config.ConfigFault.{ConfigFault}
use Rattle.config_directives.specs.declared.item.Directive.{Directive}
use Rattle.config_directives.specs.Entries.{Entry}
use Rattle.config_directives.specs.Judging.{judged}

-- whatever follows, these entries add to the directives before them and make those after them
pub record Adds (before : List Directive) (here : List Entry) (after : List Directive) : Type 0 where
  pub adds : (later : List Entry) → judged before (here ++ later) ≡ judged after later

-- whatever follows, the fault stands in these entries
pub record Stops (before : List Directive) (here : List Entry) (fault : ConfigFault) : Type 0 where
  pub stops : (later : List Entry) → judged before (here ++ later) ≡ Err fault
