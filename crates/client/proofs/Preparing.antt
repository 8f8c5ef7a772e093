-- A plan whose packets are written is what the machine's event does.
use Rattle.std.proofs.Common.{◌≡◌, ℕ, List, not, sym, subst, ap}
use Rattle.std.specs.Prelude.{Option, is_some}
use Rattle.geo_base.specs.Client.{Acted, Client}
use Rattle.client.specs.declared.client.change.ClientChange.{ClientChange}
use Rattle.client.specs.Changing.{ClientFits, ClientPlan, acted, client_after}
use Rattle.client.specs.Packets.{AreWritten}
use Rattle.client.specs.Prepared.{IsPrepared, PreparedClient}

pub prepared_is : (names : List (List ℕ)) (k : Client) (plan : ClientPlan) (p : PreparedClient) (a : Acted) → acted plan k ≡ a → p.change ≡ plan.change → AreWritten names p.sent plan.sent
    → IsPrepared names k p a
prepared_is names k plan p a is change written =
    subst (λ (b : Acted). IsPrepared names k p b) is (record {
      idle = ap (λ (o : Option ClientChange). not (is_some o)) change;
      client = ap (λ (o : Option ClientChange). client_after o k) change;
      sent = written;
    })

pub prepared_fits : (k : Client) (plan : ClientPlan) (p : PreparedClient) → p.change ≡ plan.change → ClientFits plan.change k → ClientFits p.change k
prepared_fits k plan p change fits = subst (λ (o : Option ClientChange). ClientFits o k) (sym change) fits
