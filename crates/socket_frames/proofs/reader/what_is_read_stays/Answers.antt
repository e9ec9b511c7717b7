use Rattle.socket_frames.proofs.Readings.{fault_stays, frames_stay}
use Rattle.socket_frames.proofs.reader.what_is_read_stays.Goals as goal

pub returns : goal.returns
returns c = record { frames = frames_stay; fault = fault_stays }
