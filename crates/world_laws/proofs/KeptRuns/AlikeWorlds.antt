-- No event tells worlds apart that are alike: it looks at no stamp of a packet, and at nothing that was taken before.
use Rattle.std.proofs.Common.{◌≡◌, ℕ, ◌+◌, Bool, true, false, List, map, refl, sym, ap, subst, ◌∙◌}
use Rattle.std.specs.Prelude.{Option, Some, None, if◌then◌else◌, slice_index_or, slice_set}
use Rattle.std.specs.Option.{option_map}
use Rattle.world_laws.proofs.Types.{Event, Fate, Packet}
use Rattle.world_laws.proofs.Types.event
use Rattle.world_laws.proofs.Types.fate
use Rattle.geo_base.specs.Broker.{Broker, Site, no_broker}
use Rattle.geo_base.specs.Client.{Acted, Client, new_client, unconnected}
use Rattle.geo_base.specs.Forwarding.{receipt, take_packet}
use Rattle.geo_base.specs.FrameSizes.{sent_bytes}
use Rattle.geo_base.specs.Getting.{get}
use Rattle.geo_base.specs.Happening.{broker_does, broker_halts, client_acted, client_does, does_planned, halts_planned, happens, idles, stops}
use Rattle.geo_base.specs.Link.{next_packet}
use Rattle.geo_base.specs.Plan.{Plan, done, halted}
use Rattle.geo_base.specs.Planned.{Planned, broker_plan, has_client, in_range, planned, planned_in}
use Rattle.geo_base.specs.Seeking.{restart}
use Rattle.geo_base.specs.Serving.{serve}
use Rattle.geo_base.specs.Setup.{Declared, Setup, declared_at}
use Rattle.geo_base.specs.World.{Back, Forward, LinkName, ToBroker, ToClient, World, broker_at, client_at, from_broker, from_client, link_at, node, site, taken_from, topic_at}
use Rattle.world_laws.specs.AlikeWorlds.{AreAlike, without_stamp}
use Rattle.world_laws.proofs.KeptRuns.AlikeLinks.{all_delivered, all_taken, next_alike, stopped_alike}

-- ---- what an event does looks at no stamp

served_same : (h : Site) (b : Broker) (c : ℕ) (o : Option Packet) → serve h b c o ≡ serve h b c (option_map without_stamp o)
unfolding serve
served_same h b c None = refl
served_same h b c (Some p) = refl

taken_same : (h : Site) (b : Broker) (x : ℕ) (f : Fate) (o : Option Packet) → take_packet h b x f o ≡ take_packet h b x f (option_map without_stamp o)
unfolding take_packet
taken_same h b x f None = refl
taken_same h b x fate.Good (Some p) = refl
taken_same h b x fate.Lost (Some p) = refl
taken_same h b x fate.Twice (Some p) = refl

answered_same : (h : Site) (b : Broker) (y : ℕ) (f : Fate) (o : Option Packet) → receipt h b y f o ≡ receipt h b y f (option_map without_stamp o)
unfolding receipt
answered_same h b y f None = refl
answered_same h b y fate.Good (Some p) = refl
answered_same h b y fate.Lost (Some p) = refl
answered_same h b y fate.Twice (Some p) = refl

got_same : (d : Declared) (k : Client) (o : Option Packet) → get d k o ≡ get d k (option_map without_stamp o)
unfolding get
got_same d k None = refl
got_same d k (Some p) = refl

plan_same : (s : Setup) (b : Broker) (e : Event) (o : Option Packet) → broker_plan s b e o ≡ broker_plan s b e (option_map without_stamp o)
plan_same s b (event.Serve x c) o = served_same (site s (declared_at s c).topic x) b c o
plan_same s b (event.Take t x y f) o = taken_same (site s t y) b x f o
plan_same s b (event.Receipt t x y f) o = answered_same (site s t x) b y f o
plan_same s b e o = refl

-- with packets that differ in their stamps alone
plan_alike : (s : Setup) (b c : Broker) (e : Event) (o q : Option Packet) → b ≡ c → option_map without_stamp o ≡ option_map without_stamp q → broker_plan s b e o ≡ broker_plan s c e q
plan_alike s b c e o q same h =
    plan_same s b e o ∙ ap (broker_plan s b e) h ∙ sym (plan_same s b e q) ∙ ap (λ (a : Broker). broker_plan s a e q) same

got_alike : (d : Declared) (k : Client) (o q : Option Packet) → option_map without_stamp o ≡ option_map without_stamp q → get d k o ≡ get d k q
got_alike d k o q h = got_same d k o ∙ ap (get d k) h ∙ sym (got_same d k q)

-- ---- so both worlds plan the same

same_topic : (s : Setup) (v w : World) (t x : ℕ) → AreAlike v w → topic_at s v t x ≡ topic_at s w t x
same_topic s v w t x h = ap (λ (bs : List Broker). slice_index_or bs (node s t x) no_broker) h.brokers

same_client : (s : Setup) (v w : World) (c : ℕ) → AreAlike v w → client_at s v c ≡ client_at s w c
same_client s v w c h = ap (λ (ks : List Client). slice_index_or ks c (new_client (declared_at s c))) h.clients

abbrev at_place : ℕ → ℕ → Option LinkName → Plan → Option Planned
at_place t x o p = Some (record { topic = t; cluster = x; takes = o; plan = p })

in_alike : (s : Setup) (v w : World) (e : Event) → AreAlike v w → planned_in s v e ≡ planned_in s w e
in_alike s v w (event.Serve x c) h =
    let t = (declared_at s c).topic in let k = ToBroker c x in
    ap (at_place t x (Some k)) (plan_alike s _ _ (event.Serve x c) _ _ (same_topic s v w t x h) (next_alike v.links w.links h.links k))
in_alike s v w (event.Drop x c) h =
    let t = (declared_at s c).topic in ap (λ (b : Broker). at_place t x None (broker_plan s b (event.Drop x c) None)) (same_topic s v w t x h)
in_alike s v w (event.Reset t x y) h = ap (λ (b : Broker). at_place t x None (broker_plan s b (event.Reset t x y) None)) (same_topic s v w t x h)
in_alike s v w (event.Read t x y) h = ap (λ (b : Broker). at_place t x None (broker_plan s b (event.Read t x y) None)) (same_topic s v w t x h)
in_alike s v w (event.Take t x y f) h =
    let k = Forward (node s t x) y in
    ap (at_place t y (Some k)) (plan_alike s _ _ (event.Take t x y f) _ _ (same_topic s v w t y h) (next_alike v.links w.links h.links k))
in_alike s v w (event.Receipt t x y f) h =
    let k = Back (node s t x) y in
    ap (at_place t x (Some k)) (plan_alike s _ _ (event.Receipt t x y f) _ _ (same_topic s v w t x h) (next_alike v.links w.links h.links k))
in_alike s v w (event.Snap t x) h = ap (λ (b : Broker). at_place t x None (broker_plan s b (event.Snap t x) None)) (same_topic s v w t x h)
in_alike s v w (event.Offer t x n) h = ap (λ (b : Broker). at_place t x None (broker_plan s b (event.Offer t x n) None)) (same_topic s v w t x h)
in_alike s v w (event.Seek t x n to) h = ap (λ (b : Broker). at_place t x None (broker_plan s b (event.Seek t x n to) None)) (same_topic s v w t x h)
in_alike s v w (event.Restart t x) h = ap (λ (b : Broker). at_place t x None (broker_plan s b (event.Restart t x) None)) (same_topic s v w t x h)
in_alike s v w (event.Go c) h = refl
in_alike s v w (event.Get c) h = refl
in_alike s v w (event.Reconnect c) h = refl

pub planned_alike : (s : Setup) (v w : World) (e : Event) → AreAlike v w → planned s v e ≡ planned s w e
unfolding planned
planned_alike s v w e h = ap (λ (o : Option Planned). if in_range s e then o else None) (in_alike s v w e h)

-- ---- and come to worlds alike

on_both : {X : Type 0} (P : X → X → Type 0) (b : Bool) (x x' y y' : X) → P x x' → P y y' → P (if b then x else y) (if b then x' else y')
on_both P true x x' y y' p q = p
on_both P false x x' y y' p q = q

idles_alike : (v w : World) → AreAlike v w → AreAlike (idles v) (idles w)
idles_alike v w h = record {
  brokers = h.brokers;
  clients = h.clients;
  links = h.links;
  events = h.events;
  idle = ap (λ (n : ℕ). n + 1) h.idle;
  rounds = h.rounds;
  frame_bytes = h.frame_bytes;
}

broker_set : (n : ℕ) (v w : World) (f : Broker → Broker) → AreAlike v w → slice_set v.brokers n (f (broker_at v n)) ≡ slice_set w.brokers n (f (broker_at w n))
broker_set n v w f h = ap (λ (bs : List Broker). slice_set bs n (f (slice_index_or bs n no_broker))) h.brokers

does_alike : (s : Setup) (v w : World) (p : Planned) → AreAlike v w → AreAlike (broker_does s v p) (broker_does s w p)
unfolding broker_does
does_alike s v w p h =
    let n : ℕ = node s p.topic p.cluster in
    on_both AreAlike p.plan.idle _ _ _ _ (idles_alike v w h) (record {
      brokers = broker_set n v w (λ b. done s.per_ledger b p.plan) h;
      clients = h.clients;
      links = all_taken p.takes _ _ (all_delivered (from_broker s p.topic p.cluster) _ _ p.plan.sent v.links w.links h.links);
      events = ap (λ (m : ℕ). m + 1) h.events;
      idle = h.idle;
      rounds = h.rounds;
      frame_bytes = ap (λ (m : ℕ). m + sent_bytes s.clusters p.plan.sent) h.frame_bytes;
    })

halts_alike : (s : Setup) (v w : World) (k : ℕ) (p : Planned) → AreAlike v w → AreAlike (broker_halts s v k p) (broker_halts s w k p)
unfolding broker_halts
halts_alike s v w k p h = record {
  brokers = broker_set (node s p.topic p.cluster) v w (λ b. halted s.per_ledger b k p.plan) h;
  clients = h.clients;
  links = all_taken p.takes v.links w.links h.links;
  events = ap (λ (m : ℕ). m + 1) h.events;
  idle = h.idle;
  rounds = h.rounds;
  frame_bytes = h.frame_bytes;
}

client_alike : (s : Setup) (v w : World) (c : ℕ) (o : Option LinkName) (a : Acted) → AreAlike v w → AreAlike (client_does s v c o a) (client_does s w c o a)
unfolding client_does
client_alike s v w c o a h =
    on_both AreAlike a.idle _ _ _ _ (idles_alike v w h) (record {
      brokers = h.brokers;
      clients = ap (λ (ks : List Client). slice_set ks c a.client) h.clients;
      links = all_delivered (from_client c) _ _ a.sent (taken_from o v.links) (taken_from o w.links) (all_taken o v.links w.links h.links);
      events = ap (λ (m : ℕ). m + 1) h.events;
      idle = h.idle;
      rounds = h.rounds;
      frame_bytes = ap (λ (m : ℕ). m + sent_bytes s.clusters a.sent) h.frame_bytes;
    })

does_planned_alike : (s : Setup) (v w : World) (o : Option Planned) → AreAlike v w → AreAlike (does_planned s v o) (does_planned s w o)
does_planned_alike s v w None h = idles_alike v w h
does_planned_alike s v w (Some p) h = does_alike s v w p h

halts_planned_alike : (s : Setup) (v w : World) (k : ℕ) (o : Option Planned) → AreAlike v w → AreAlike (halts_planned s v k o) (halts_planned s w k o)
halts_planned_alike s v w k None h = idles_alike v w h
halts_planned_alike s v w k (Some p) h = halts_alike s v w k p h

-- a client's event, which acts the same in both
client_with : (s : Setup) (v w : World) (c : ℕ) (o q : Option LinkName) (a b : Acted) → o ≡ q → a ≡ b → AreAlike v w → AreAlike (client_does s v c o a) (client_does s w c q b)
client_with s v w c o q a b links acts h =
    subst (λ (b : Acted). AreAlike (client_does s v c o a) (client_does s w c q b)) acts
    (subst (λ (q : Option LinkName). AreAlike (client_does s v c o a) (client_does s w c q a)) links (client_alike s v w c o a h))

pub event_alike : (s : Setup) (v w : World) (e : Event) → AreAlike v w → AreAlike (happens s v e) (happens s w e)
unfolding happens
event_alike s v w (event.Go c) h =
    on_both AreAlike (has_client s c) _ _ _ _
    (client_with s v w c None None _ _ refl (ap (λ (k : Client). client_acted s k (event.Go c) None) (same_client s v w c h)) h) (idles_alike v w h)
event_alike s v w (event.Reconnect c) h =
    on_both AreAlike (has_client s c) _ _ _ _
    (client_with s v w c None None _ _ refl (ap (λ (k : Client). client_acted s k (event.Reconnect c) None) (same_client s v w c h)) h) (idles_alike v w h)
event_alike s v w (event.Get c) h =
    let same = same_client s v w c h in
    let link : ToClient c (client_at s v c).cluster ≡ ToClient c (client_at s w c).cluster = ap (λ (k : Client). ToClient c k.cluster) same in
    let next = next_alike v.links w.links h.links (ToClient c (client_at s v c).cluster) ∙ ap (λ (k : LinkName). option_map without_stamp (next_packet (link_at w.links k))) link in
    on_both AreAlike (has_client s c) _ _ _ _
    (client_with s v w c _ _ _ _ (ap (λ (k : LinkName). Some k) link)
    (got_alike (declared_at s c) (client_at s v c) _ _ next ∙ ap (λ (k : Client). get (declared_at s c) k (next_packet (link_at w.links (ToClient c (client_at s w c).cluster)))) same) h)
    (idles_alike v w h)
event_alike s v w e h =
    subst (λ (o : Option Planned). AreAlike (does_planned s v (planned s v e)) (does_planned s w o)) (planned_alike s v w e h) (does_planned_alike s v w (planned s v e) h)

pub halt_alike : (s : Setup) (v w : World) (k : ℕ) (e : Event) → AreAlike v w → AreAlike (halts_planned s v k (planned s v e)) (halts_planned s w k (planned s w e))
halt_alike s v w k e h =
    subst (λ (o : Option Planned). AreAlike (halts_planned s v k (planned s v e)) (halts_planned s w k o)) (planned_alike s v w e h) (halts_planned_alike s v w k (planned s v e) h)

pub stop_alike : (s : Setup) (v w : World) → AreAlike v w → AreAlike (stops s v) (stops s w)
unfolding stops
stop_alike s v w h = record {
  brokers = ap (λ (bs : List Broker). map (λ (b : Broker). done s.per_ledger b restart) bs) h.brokers;
  clients = ap (λ (ks : List Client). map unconnected ks) h.clients;
  links = stopped_alike v.links w.links h.links;
  events = ap (λ (m : ℕ). m + 1) h.events;
  idle = h.idle;
  rounds = h.rounds;
  frame_bytes = h.frame_bytes;
}
