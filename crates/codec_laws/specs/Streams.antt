-- That a stream has a reading.
use Rattle.std.specs.Prelude.{ℕ, List, Option}
use Rattle.pulsar_frames.specs.declared.fault.FrameFault.{FrameFault}
use Rattle.pulsar_frames.specs.declared.frame.Frame.{Frame}
use Rattle.pulsar_frames.specs.Streams.{IsStream}

-- A stream is some frames and a rest that none begins.
pub record HasReading (stream : List ℕ) : Type 0 where
  pub frames : List Frame
  pub rest : List ℕ
  pub why : Option FrameFault
  pub is : IsStream stream frames rest why
