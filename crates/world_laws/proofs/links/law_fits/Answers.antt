use Rattle.world_laws.proofs.FrameContents.PlainRuns.{fits_always}
use Rattle.world_laws.proofs.links.law_fits.Goals as goal

pub returns : goal.returns
returns c = record { always = fits_always }
