-- The commands that the code takes apart.
use Rattle.vpn_top.specs.declared.top.Request.{Request}
use Rattle.vpn_top.specs.declared.top.Request.TheVariants as requests
use Rattle.vpn_top.specs.Words.{Command, Route, Check, Replay}

-- what a request asks for
abbrev pub asked : Request → Command
asked (requests.Route name) = Route name.now
asked (requests.Check name) = Check name.now
asked (requests.Replay config schedule) = Replay config.now schedule.now
