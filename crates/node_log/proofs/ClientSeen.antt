-- What an event of a client that takes no packet does, as the machine's event.
use Rattle.std.proofs.Common.{◌≡◌, ℕ, List, [], ◌∷◌, refl, sym, ap, subst, ◌∙◌}
use Rattle.std.specs.Prelude.{None, is_some, not}
use Rattle.broker_plans.specs.Prepared.{ArePackets}
use Rattle.client.proofs.KnownNames.{goes_known, reconnects_known}
use Rattle.client.specs.Changing.{client_after}
use Rattle.client.specs.Counted.{CanConnect}
use Rattle.client.specs.Packets.{AreWritten}
use Rattle.client.specs.Prepared.{IsPrepared, PreparedClient}
use Rattle.client.specs.Site.{Site, known_setup}
use Rattle.geo_base.specs.declared.event.Event.{Event}
use Rattle.geo_base.specs.declared.event.Event.TheVariants as event
use Rattle.geo_base.specs.declared.packet.Out.{Out}
use Rattle.geo_base.specs.declared.packet.WireOut.{WireOut}
use Rattle.geo_base.specs.Client.{Acted, Client, reconnect}
use Rattle.geo_base.specs.Going.{go}
use Rattle.geo_base.specs.Happening.{client_acted}
use Rattle.geo_base.specs.NodeState.{ClientState}
use Rattle.geo_base.specs.Setup.{Declared, Setup, declared_at}
use Rattle.node_log.specs.Acts.{ClientRises}
use Rattle.node_log.specs.Looking.{IsSeen}
use Rattle.node_log.specs.Owning.{IsAtClient, IsGet, IsGo}

written_packets : (names : List (List ℕ)) (ms : List Out) (os : List WireOut) → AreWritten names os ms → ArePackets names ms os
written_packets names [] [] h = tt
written_packets names [] (o ∷ os) h = absurd h
written_packets names (m ∷ ms) [] h = absurd h
written_packets names (m ∷ ms) (o ∷ os) h = (record { to = h.0.to; session = h.0.session; frame = h.0.frame }, written_packets names ms os h.1)

seen_by : (s : Setup) (k : Client) (e : Event) (p : PreparedClient) (a : Acted) → a ≡ client_acted s k e None → IsPrepared s.clusters k p a
    → IsSeen s (ClientState k) e None 0 (not (is_some p.change)) p.sent (ClientState (client_after p.change k))
seen_by s k e p a is h = record {
  said = None;
  stands = tt;
  idle = sym (h.idle ∙ ap (λ (b : Acted). b.idle) is);
  sent = written_packets s.clusters (client_acted s k e None).sent p.sent (subst (λ (b : Acted). AreWritten s.clusters p.sent b.sent) is h.sent);
  state = ap ClientState (h.client ∙ ap (λ (b : Acted). b.client) is);
  stamp = refl;
}

at_setup : (s : Setup) (site : Site) (k : Client) (p : PreparedClient) (a : Acted) → site.setup ≡ known_setup s.clusters s.topics → IsPrepared site.setup.clusters k p a → IsPrepared s.clusters k p a
at_setup s site k p a setup h = subst (λ (u : Setup). IsPrepared u.clusters k p a) setup h

go_is : (s : Setup) (c d : ℕ) (site : Site) (k : Client) → d ≡ c → site.setup ≡ known_setup s.clusters s.topics → site.declared ≡ declared_at s c → go site.setup site.declared k ≡ go s (declared_at s d) k
go_is s c d site k number setup declared =
    ap (λ (u : Setup). go u site.declared k) setup ∙ goes_known s site.declared k ∙ ap (λ (a : Declared). go s a k) (declared ∙ ap (declared_at s) (sym number))

reconnect_is : (s : Setup) (c d : ℕ) (site : Site) (k : Client) → d ≡ c → site.setup ≡ known_setup s.clusters s.topics → site.declared ≡ declared_at s c
    → reconnect site.setup site.declared k ≡ reconnect s (declared_at s d) k
reconnect_is s c d site k number setup declared =
    ap (λ (u : Setup). reconnect u site.declared k) setup ∙ reconnects_known s site.declared k ∙ ap (λ (a : Declared). reconnect s a k) (declared ∙ ap (declared_at s) (sym number))

pub go_seen : (s : Setup) (c : ℕ) (site : Site) (k : Client) (e : Event) (p : PreparedClient) → IsAtClient c e → IsGo e → site.setup ≡ known_setup s.clusters s.topics → site.declared ≡ declared_at s c
    → IsPrepared site.setup.clusters k p (go site.setup site.declared k) → IsSeen s (ClientState k) e None 0 (not (is_some p.change)) p.sent (ClientState (client_after p.change k))
go_seen s c site k (event.Go d) p at is setup declared h =
    seen_by s k (event.Go d) p (go site.setup site.declared k) (go_is s c d site k at setup declared) (at_setup s site k p (go site.setup site.declared k) setup h)
go_seen s c site k e p at is setup declared h = absurd is

pub reconnect_seen : (s : Setup) (c : ℕ) (site : Site) (k : Client) (e : Event) (p : PreparedClient) → IsAtClient c e → (IsGo e → ⊥) → (IsGet e → ⊥) → site.setup ≡ known_setup s.clusters s.topics → site.declared ≡ declared_at s c
    → IsPrepared site.setup.clusters k p (reconnect site.setup site.declared k) → IsSeen s (ClientState k) e None 0 (not (is_some p.change)) p.sent (ClientState (client_after p.change k))
reconnect_seen s c site k (event.Reconnect d) p at other third setup declared h =
    seen_by s k (event.Reconnect d) p (reconnect site.setup site.declared k) (reconnect_is s c d site k at setup declared) (at_setup s site k p (reconnect site.setup site.declared k) setup h)
reconnect_seen s c site k (event.Go d) p at other third setup declared h = absurd (other tt)
reconnect_seen s c site k (event.Get d) p at other third setup declared h = absurd (third tt)
reconnect_seen s c site k e p at other third setup declared h = absurd at

-- and both may raise the connection's number
pub connects : (k : Client) (c : ℕ) (e : Event) → ClientRises k e → IsAtClient c e → (IsGet e → ⊥) → CanConnect k
connects k c (event.Go d) rises at other = rises
connects k c (event.Reconnect d) rises at other = rises
connects k c (event.Get d) rises at other = absurd (other tt)
connects k c e rises at other = absurd at
