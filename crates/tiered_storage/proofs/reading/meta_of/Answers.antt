use Rattle.std.proofs.Common.{Ok, ap, sym}
use Rattle.message_meta.specs.Metadata.{Metadata}
use Rattle.state_items.specs.Reading.{Answer}
use Rattle.tiered_storage.proofs.Back.{meta_is, no_other}
use Rattle.tiered_storage.proofs.reading.meta_of.Goals as goal

abbrev given : Metadata → Answer Metadata
given m = Ok m

pub returns-in-Ok : goal.returns-in-Ok
returns-in-Ok c = λ m h. ap given (sym (meta_is c.in-Ok.meta m (c.in-Ok.ensures.only m h)))

pub returns-in_default : goal.returns-in_default
returns-in_default c = λ m h. absurd (no_other c.in-Err.why m (c.in-Err.ensures.only m h) c.in_default.not-Memory)
