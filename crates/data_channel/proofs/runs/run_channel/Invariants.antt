use Rattle.std.proofs.Common.{◌≡◌, take}
use Rattle.data_channel.specs.Runs.{after_events, answers_of, channel_begun}
use Rattle.data_channel.specs.Standing.{GcmStands}
use Rattle.data_channel.proofs.runs.run_channel.Given as goal

abbrev pub invariant-loop-event : goal.invariant-loop-event
invariant-loop-event l = record {
  told : l.answers.items ≡ answers_of (channel_begun l.keys.0 l.setup) (take l.event-index l.events);
  stands : GcmStands l.channel (after_events (channel_begun l.keys.0 l.setup) (take l.event-index l.events));
}
