use Rattle.frame_laws.proofs.Bare.{get_bare, receipt_bare, serve_bare, take_bare}
use Rattle.frame_laws.proofs.histories.law_bare.Goals as goal

pub returns : goal.returns
returns c = record { serve = serve_bare; take = take_bare; receipt = receipt_bare; get = get_bare }
