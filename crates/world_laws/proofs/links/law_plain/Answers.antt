use Rattle.world_laws.proofs.FrameContents.PlainRuns.{plain_always}
use Rattle.world_laws.proofs.links.law_plain.Goals as goal

pub returns : goal.returns
returns c = record { always = plain_always }
