-- Facts of one client at a time that each event keeps, given a fact of the world.
use Rattle.std.proofs.Common.{ℕ, ◌<◌, length, sym, subst}
use Rattle.std.specs.Prelude.{Option, Some, None}
use Rattle.std.proofs.lemmas.Bool.{ltb-true}
use Rattle.std.proofs.lemmas.List.{get_or-map}
use Rattle.world_laws.proofs.Types.{Event}
use Rattle.world_laws.proofs.Types.event
use Rattle.geo_base.specs.Client.{Acted, Client, new_client, unconnected}
use Rattle.geo_base.specs.Happening.{broker_does, broker_halts, client_acted, client_does, does_planned, halts_planned, happens, stops}
use Rattle.geo_base.specs.Laws.{IsShort}
use Rattle.geo_base.specs.Link.{next_packet}
use Rattle.geo_base.specs.Planned.{Planned, has_client, planned}
use Rattle.geo_base.specs.Setup.{Setup, declared_at, nobody}
use Rattle.geo_base.specs.World.{LinkName, ToClient, World, client_at, link_at, opening_world}
use Rattle.world_laws.proofs.Induction.Frames.{at_map, at_set}
use Rattle.world_laws.proofs.Induction.Runs.{IsKeptByEvents}
use Rattle.world_laws.proofs.Induction.Short.{WhileShort, client_short, does_short, halts_short, stops_short}
use Rattle.world_laws.proofs.Walks.Walk.{on_if, on_test}

-- of client c, where Q holds of the world, in short runs
pub record IsClientSteady (s : Setup) (Q : World → Type 0) (P : ℕ → Client → Type 0) : Type 0 where
  pub opening : (c : ℕ) → c < length s.clients → P c (new_client (declared_at s c))
  pub goes : (c : ℕ) → c < length s.clients → (k : Client) → P c k → P c (client_acted s k (event.Go c) None).client
  pub reconnects : (c : ℕ) → c < length s.clients → (k : Client) → P c k → P c (client_acted s k (event.Reconnect c) None).client
  pub gets : (w : World) → Q w → IsShort w → (c x : ℕ) → c < length s.clients → (k : Client) → P c k → P c (client_acted s k (event.Get c) (next_packet (link_at w.links (ToClient c x)))).client
  pub stops : (c : ℕ) (k : Client) → P c k → P c (unconnected k)

abbrev pub AllClients : Setup → (ℕ → Client → Type 0) → World → Type 0
AllClients s P w = (c : ℕ) → c < length s.clients → P c (client_at s w c)

broker_clients : (s : Setup) (P : ℕ → Client → Type 0) (w : World) (p : Planned) → AllClients s P w → AllClients s P (broker_does s w p)
unfolding broker_does
broker_clients s P w p all = on_if (AllClients s P) p.plan.idle _ _ all all

halted_clients : (s : Setup) (P : ℕ → Client → Type 0) (w : World) (n : ℕ) (p : Planned) → AllClients s P w → AllClients s P (broker_halts s w n p)
unfolding broker_halts
halted_clients s P w n p all = all

planned_clients : (s : Setup) (P : ℕ → Client → Type 0) (w : World) (o : Option Planned) → AllClients s P w → AllClients s P (does_planned s w o)
planned_clients s P w None all = all
planned_clients s P w (Some p) all = broker_clients s P w p all

stopped_planned : (s : Setup) (P : ℕ → Client → Type 0) (w : World) (n : ℕ) (o : Option Planned) → AllClients s P w → AllClients s P (halts_planned s w n o)
stopped_planned s P w n None all = all
stopped_planned s P w n (Some p) all = halted_clients s P w n p all

acted_clients : (s : Setup) (P : ℕ → Client → Type 0) (w : World) (c : ℕ) (o : Option LinkName) (a : Acted) → P c a.client → AllClients s P w → AllClients s P (client_does s w c o a)
unfolding client_does
acted_clients s P w c o a new all =
    on_if (AllClients s P) a.idle _ _ all
    (λ d lt. at_set (P d) w.clients c d a.client (new_client (declared_at s d)) (λ is. subst (λ (i : ℕ). P i a.client) is new) (all d lt))

-- no event lowers the count of events
event_short : (s : Setup) (w : World) (e : Event) → IsShort (happens s w e) → IsShort w
unfolding happens
event_short s w (event.Go c) = on_if (λ (w' : World). IsShort w' → IsShort w) (has_client s c) _ _ (client_short s w c None _) (λ short. short)
event_short s w (event.Reconnect c) = on_if (λ (w' : World). IsShort w' → IsShort w) (has_client s c) _ _ (client_short s w c None _) (λ short. short)
event_short s w (event.Get c) = on_if (λ (w' : World). IsShort w' → IsShort w) (has_client s c) _ _ (client_short s w c _ _) (λ short. short)
event_short s w e = by (planned s w e)
  where
    by : (o : Option Planned) → IsShort (does_planned s w o) → IsShort w
    by None short = short
    by (Some p) short = does_short s w p short

halted_short : (s : Setup) (w : World) (n : ℕ) (o : Option Planned) → IsShort (halts_planned s w n o) → IsShort w
halted_short s w n None short = short
halted_short s w n (Some p) short = halts_short s w n p short

event_clients : (s : Setup) (Q : World → Type 0) (P : ℕ → Client → Type 0) → IsClientSteady s Q P → (w : World) (e : Event) → Q w → IsShort w → AllClients s P w → AllClients s P (happens s w e)
unfolding happens
event_clients s Q P k w (event.Go c) q short all =
    on_test (AllClients s P) (has_client s c) _ _
    (λ has. let lt = ltb-true c (length s.clients) has in acted_clients s P w c None _ (k.goes c lt (client_at s w c) (all c lt)) all) (λ none. all)
event_clients s Q P k w (event.Reconnect c) q short all =
    on_test (AllClients s P) (has_client s c) _ _
    (λ has. let lt = ltb-true c (length s.clients) has in acted_clients s P w c None _ (k.reconnects c lt (client_at s w c) (all c lt)) all) (λ none. all)
event_clients s Q P k w (event.Get c) q short all =
    on_test (AllClients s P) (has_client s c) _ _
    (λ has. let lt = ltb-true c (length s.clients) has in
    acted_clients s P w c (Some (ToClient c (client_at s w c).cluster)) _ (k.gets w q short c (client_at s w c).cluster lt (client_at s w c) (all c lt)) all) (λ none. all)
event_clients s Q P k w e q short all = planned_clients s P w (planned s w e) all

stop_clients : (s : Setup) (Q : World → Type 0) (P : ℕ → Client → Type 0) → IsClientSteady s Q P → (w : World) → AllClients s P w → AllClients s P (stops s w)
unfolding stops
stop_clients s Q P k w all c lt =
    at_map (P c) unconnected (k.stops c) w.clients c (new_client (declared_at s c)) (k.opening c lt) (all c lt)

opening_clients : (s : Setup) (Q : World → Type 0) (P : ℕ → Client → Type 0) → IsClientSteady s Q P → AllClients s P (opening_world s)
opening_clients s Q P k c lt = subst (P c) (sym (get_or-map new_client s.clients c nobody (new_client (declared_at s c)) lt)) (k.opening c lt)

-- so it holds of each client in each world of a run while it is short
pub clients_kept : (s : Setup) (Q : World → Type 0) (P : ℕ → Client → Type 0) → IsKeptByEvents s Q → IsClientSteady s Q P → IsKeptByEvents s (λ w. Q w × WhileShort (AllClients s P) w)
clients_kept s Q P q k = record {
  opening = (q.opening, λ short. opening_clients s Q P k);
  idle = λ w n h. (q.idle w n h.0, λ short. h.1 short);
  round = λ w n h. (q.round w n h.0, λ short. h.1 short);
  event = λ w e h. (q.event w e h.0, λ short. let was = event_short s w e short in event_clients s Q P k w e h.0 was (h.1 was));
  halts = λ w n e h. (q.halts w n e h.0, λ short. stopped_planned s P w n (planned s w e) (h.1 (halted_short s w n (planned s w e) short)));
  stop = λ w h. (q.stop w h.0, λ short. stop_clients s Q P k w (h.1 (stops_short s w short)));
}
