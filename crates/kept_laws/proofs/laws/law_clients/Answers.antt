use Rattle.kept_laws.proofs.Keeping.{client_gets, client_goes, client_reconnects, client_stays, client_waits}
use Rattle.kept_laws.proofs.laws.law_clients.Goals as goal

pub returns : goal.returns
returns c = record { goes = client_goes; stays = client_stays; reconnects = client_reconnects; gets = client_gets; waits = client_waits }
