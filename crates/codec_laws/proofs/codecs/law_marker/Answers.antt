use Rattle.codec_laws.proofs.Markers.{marker_answer}
use Rattle.codec_laws.proofs.codecs.law_marker.Goals as goal

pub returns : goal.returns
returns c = marker_answer
