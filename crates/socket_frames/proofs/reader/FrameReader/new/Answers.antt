use Rattle.socket_frames.specs.Streams.{Stands}
use Rattle.socket_frames.proofs.reader.FrameReader.new.Goals as goal

pub returns : goal.returns
unfolding Stands
returns c = c.new.ensures.items
