-- An event of a client keeps what is known of each.
use Rattle.std.proofs.Common.{◌≡◌, ℕ, ◌<◌, Bool, true, length, refl, sym, subst}
use Rattle.std.specs.Prelude.{Option, Some, None, ◌+◌, if◌then◌else◌, slice_index, slice_set}
use Rattle.std.proofs.lemmas.Bool.{ltb-true}
use Rattle.world_laws.proofs.Types.{Event, Packet}
use Rattle.world_laws.proofs.Types.event
use Rattle.geo_base.specs.Client.{Acted, Client, new_client}
use Rattle.geo_base.specs.FrameSizes.{sent_bytes}
use Rattle.geo_base.specs.Getting.{get}
use Rattle.geo_base.specs.Happening.{client_acted, client_does, happens, idles, next_stamp}
use Rattle.geo_base.specs.Link.{next_packet}
use Rattle.geo_base.specs.Planned.{has_client, planned}
use Rattle.geo_base.specs.Scripted.{IsScripted, is_declared, stays_or_is_silent}
use Rattle.geo_base.specs.Setup.{Declared, Setup, declared_at, nobody}
use Rattle.geo_base.specs.World.{LinkName, ToClient, World, client_at, delivered, from_client, link_at, packet_at, taken_from, topic_at}
use Rattle.world_laws.proofs.Clients.ClientLinks.{Packets, SentDown, acts_down, taken_up}
use Rattle.world_laws.proofs.Clients.Meeting.{MeetsAll}
use Rattle.world_laws.proofs.Dispatching.SubFrames.{each_at_place}
use Rattle.world_laws.proofs.Induction.Frames.{at_set}
use Rattle.world_laws.proofs.Merges.ClientRoams.{IsCluster, all_index, client_roams, good_client}
use Rattle.world_laws.proofs.Published.BrokerEvents.{chained_planned}
use Rattle.world_laws.proofs.Published.Chained.{Chained, GotThere, there_of}
use Rattle.world_laws.proofs.Published.ClientPackets.{Told, all_sent_home, up_all}
use Rattle.world_laws.proofs.Published.GotMessages.{get_got}
use Rattle.world_laws.proofs.Published.Homes.{HomeOut, IsHome, get_home, go_home, reconnect_home}
use Rattle.world_laws.proofs.Published.OwnMessages.{Publishes}
use Rattle.world_laws.proofs.Replicating.Effects.{Each}
use Rattle.world_laws.proofs.Snapshotting.Positions.{Answered}
use Rattle.world_laws.proofs.Walks.EventWalk.{planned_shape}
use Rattle.world_laws.proofs.Walks.Walk.{on_if, on_test, right}

-- ---- an event of client z

-- what is known of it after it
record ActsWell (s : Setup) (z : ℕ) (w : World) (a : Acted) : Type 0 where
  declared : z < length s.clients
  home : IsHome (declared_at s z) a.client
  cluster : IsCluster s a.client.cluster
  sent : Each (HomeOut s (declared_at s z)) a.sent
  got : Each (GotThere s w (declared_at s z).topic) a.client.got

chained_client : (s : Setup) (w : World) (z : ℕ) (takes : Option LinkName) (a : Acted) → ActsWell s z w a → Answered s (client_does s w z takes a) → ((c : ℕ) → MeetsAll s c (client_does s w z takes a)) → Chained s w
    → Chained s (client_does s w z takes a)
unfolding client_does
chained_client s w z takes a acts ground meets h = by a.idle refl
  where
    stamp : ℕ
    stamp = next_stamp (slice_index w.client_clocks z) (packet_at w.links takes)

    after : World
    after = record {
      brokers = w.brokers;
      clients = slice_set w.clients z a.client;
      links = delivered (from_client z) stamp a.sent (taken_from takes w.links);
      broker_clocks = w.broker_clocks;
      client_clocks = slice_set w.client_clocks z stamp;
      events = w.events + 1;
      idle = w.idle;
      rounds = w.rounds;
      frame_bytes = w.frame_bytes + sent_bytes s.clusters a.sent;
    }

    P : World → Type 0
    P w' = Answered s w' × ((c : ℕ) → MeetsAll s c w')

    unidle : Answered s after → ((c : ℕ) → MeetsAll s c after) → Chained s after
    unidle ground meets = record {
      ground = ground;
      own = h.own;
      clients = λ c. let d = declared_at s c in let k = h.clients c in record {
        meets = meets c;
        home = at_set (IsHome d) w.clients z c a.client (new_client d) (λ same. subst (λ (i : ℕ). IsHome (declared_at s i) a.client) same acts.home) k.home;
        cluster = λ lt. at_set (λ (j : Client). IsCluster s j.cluster) w.clients z c a.client (new_client d) (λ same. acts.cluster) (k.cluster lt);
        up = λ x.
            up_all z stamp c x (Publishes s c x) a.sent (taken_from takes w.links) (all_sent_home s z c x a.sent acts.declared acts.sent)
            (subst (Packets (Publishes s c x)) (sym (taken_up takes w.links c x)) (k.up x));
        down = λ x there. subst (Packets (Told d x (topic_at s w d.topic x))) (sym (acts_down z stamp c x takes a.sent w.links)) (k.down x there);
        got = λ lt.
            at_set (λ (j : Client). Each (GotThere s w d.topic) j.got) w.clients z c a.client (new_client d)
            (λ same. subst (λ (i : ℕ). Each (GotThere s w (declared_at s i).topic) a.client.got) same acts.got) (k.got lt);
      };
    }

    still : Answered s (idles w) → ((c : ℕ) → MeetsAll s c (idles w)) → Chained s (idles w)
    still ground meets = record {
      ground = ground;
      own = h.own;
      clients = λ c. let k = h.clients c in record { meets = meets c; home = k.home; cluster = k.cluster; up = k.up; down = k.down; got = k.got };
    }

    by : (b : Bool) → a.idle ≡ b → Chained s (if a.idle then idles w else after)
    by b is =
        let Goal : World → Type 0 = λ w'. Answered s w' → ((c : ℕ) → MeetsAll s c w') → Chained s w' in
        on_if Goal a.idle (idles w) after still unidle ground meets

-- ---- each event of a client

pub good_lines : (s : Setup) (c : ℕ) → IsScripted s → c < length s.clients → stays_or_is_silent (declared_at s c).lines ≡ true
good_lines s c scripted lt =
    let all : is_declared s (declared_at s c) ≡ true = all_index (is_declared s) s.clients c nobody scripted.clients.0 lt in right _ _ all

go_acts : (s : Setup) (w : World) (z : ℕ) → IsScripted s → z < length s.clients → Chained s w → ActsWell s z w (client_acted s (client_at s w z) (event.Go z) None)
go_acts s w z scripted lt h =
    let k = h.clients z in let a = go_home s (declared_at s z) (client_at s w z) (good_lines s z scripted lt) k.home in
    record {
      declared = lt;
      home = a.home;
      cluster = (client_roams s (client_at s w z) (event.Go z) None z refl (good_client s z scripted lt).lines (k.cluster lt)).cluster;
      sent = a.sent;
      got = subst (Each (GotThere s w (declared_at s z).topic)) (sym a.got) (k.got lt);
    }

reconnect_acts : (s : Setup) (w : World) (z : ℕ) → IsScripted s → z < length s.clients → Chained s w → ActsWell s z w (client_acted s (client_at s w z) (event.Reconnect z) None)
reconnect_acts s w z scripted lt h =
    let k = h.clients z in let a = reconnect_home s (declared_at s z) (client_at s w z) (good_lines s z scripted lt) k.home in
    record {
      declared = lt;
      home = a.home;
      cluster = (client_roams s (client_at s w z) (event.Reconnect z) None z refl (good_client s z scripted lt).lines (k.cluster lt)).cluster;
      sent = a.sent;
      got = subst (Each (GotThere s w (declared_at s z).topic)) (sym a.got) (k.got lt);
    }

get_sent : (s : Setup) (d : Declared) (k : Client) (o : Option Packet) → Each (HomeOut s d) (get d k o).sent
unfolding get
get_sent s d k None = tt
get_sent s d k (Some p) = tt

get_acts : (s : Setup) (w : World) (z : ℕ) → IsScripted s → z < length s.clients → Chained s w
    → ActsWell s z w (client_acted s (client_at s w z) (event.Get z) (next_packet (link_at w.links (ToClient z (client_at s w z).cluster))))
get_acts s w z scripted lt h =
    let k = h.clients z in let d = declared_at s z in let j = client_at s w z in let o = next_packet (link_at w.links (ToClient z j.cluster)) in
    let small = ltb-true j.cluster (length s.clusters) (k.cluster lt) in
    record {
      declared = lt;
      home = get_home d j o k.home;
      cluster = (client_roams s j (event.Get z) o z refl (good_client s z scripted lt).lines (k.cluster lt)).cluster;
      sent = get_sent s d j o;
      got = get_got s w d.topic d j o small
          (λ q next. (each_at_place (λ (p : Packet). Told d j.cluster (topic_at s w d.topic j.cluster) p.session p.frame) (SentDown w.links z j.cluster) (link_at w.links (ToClient z j.cluster)).taken q
          (k.down j.cluster (there_of s scripted z j.cluster lt small)) next).1) (k.got lt);
    }

pub idle_chained : (s : Setup) (w : World) (n : ℕ) → Answered s (record w { idle = n }) → ((c : ℕ) → MeetsAll s c (record w { idle = n })) → Chained s w → Chained s (record w { idle = n })
idle_chained s w n ground meets h = record {
  ground = ground;
  own = h.own;
  clients = λ c. let k = h.clients c in record { meets = meets c; home = k.home; cluster = k.cluster; up = k.up; down = k.down; got = k.got };
}

pub chained_event : (s : Setup) (w : World) (e : Event) → IsScripted s → Answered s (happens s w e) → ((c : ℕ) → MeetsAll s c (happens s w e)) → Chained s w → Chained s (happens s w e)
unfolding happens
chained_event s w (event.Go z) scripted ground meets h =
    let Goal : World → Type 0 = λ w'. Answered s w' → ((c : ℕ) → MeetsAll s c w') → Chained s w' in
    on_test Goal (has_client s z) _ _ (λ has g m. chained_client s w z None _ (go_acts s w z scripted (ltb-true _ _ has) h) g m h) (λ none g m. idle_chained s w (w.idle + 1) g m h) ground meets
chained_event s w (event.Reconnect z) scripted ground meets h =
    let Goal : World → Type 0 = λ w'. Answered s w' → ((c : ℕ) → MeetsAll s c w') → Chained s w' in
    on_test Goal (has_client s z) _ _ (λ has g m. chained_client s w z None _ (reconnect_acts s w z scripted (ltb-true _ _ has) h) g m h) (λ none g m. idle_chained s w (w.idle + 1) g m h) ground meets
chained_event s w (event.Get z) scripted ground meets h =
    let Goal : World → Type 0 = λ w'. Answered s w' → ((c : ℕ) → MeetsAll s c w') → Chained s w' in
    on_test Goal (has_client s z) _ _ (λ has g m. chained_client s w z (Some (ToClient z (client_at s w z).cluster)) _ (get_acts s w z scripted (ltb-true _ _ has) h) g m h)
    (λ none g m. idle_chained s w (w.idle + 1) g m h) ground meets
chained_event s w e scripted ground meets h = chained_planned s w (planned s w e) scripted (planned_shape s w e) ground meets h
