use Rattle.codec_laws.proofs.Frames.{front_answer, text_answer, stream_answer, fed_answer}
use Rattle.codec_laws.proofs.codecs.law_frames.Goals as goal

pub returns : goal.returns
returns c = record { front = front_answer; text = text_answer; stream = stream_answer; fed = fed_answer }
