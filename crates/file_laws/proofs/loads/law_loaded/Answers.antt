use Rattle.file_laws.proofs.Loading.{body_some, loaded_some}
use Rattle.file_laws.proofs.loads.law_loaded.Goals as goal

pub returns : goal.returns
returns c = record { body = body_some; file = loaded_some }
