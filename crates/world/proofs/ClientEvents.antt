-- An event of a client leads to the machine's world after it.
use Rattle.std.proofs.Common.{◌≡◌, ℕ, zero, suc, ◌+◌, ◌^◌, ◌<◌, ◌≤◌, true, false, List, [], ◌∷◌, length, refl, sym, ◌∙◌, ap, subst, arith}
use Rattle.std.specs.Prelude.{Option, Some, None, Ok, Err, OnErr, OnOk, not, is_some, slice_index, slice_index_or}
use Rattle.client.proofs.KnownNames.{goes_known, reconnects_known}
use Rattle.client.specs.Changing.{client_after}
use Rattle.client.specs.Counted.{CanConnect, CanCount}
use Rattle.client.specs.Packets.{AreWritten}
use Rattle.client.specs.Prepared.{IsPrepared, PreparedClient}
use Rattle.client.specs.Site.{known_setup}
use Rattle.geo_base.specs.declared.event.Event.TheVariants as event
use Rattle.geo_base.specs.declared.packet.Out.{Out}
use Rattle.geo_base.specs.Client.{Acted, Client, new_client, reconnect}
use Rattle.geo_base.specs.Going.{go}
use Rattle.geo_base.specs.Happening.{client_acted as machine_acted, client_does, happens, idles}
use Rattle.geo_base.specs.Planned.{has_client}
use Rattle.geo_base.specs.Setup.{Setup, declared_at}
use Rattle.geo_base.specs.World.{LinkName as MachineLink, World, client_at}
use Rattle.links.proofs.Simulated.{stamp_is}
use Rattle.links.specs.declared.name.LinkName.{LinkName}
use Rattle.links.specs.Names.{taken_name}
use Rattle.links.specs.declared.name.Node.TheVariants as wire_node
use Rattle.geo_base.specs.declared.packet.WireOut.{WireOut}
use Rattle.links.specs.Each.{more, none}
use Rattle.links.specs.Queues.{bytes_of, packet_on, stamp_of}
use Rattle.links.specs.Standing.{OutsStand}
use Rattle.kept_laws.proofs.Keeping.{client_goes, client_reconnects, client_stays}
use Rattle.kept_laws.specs.Kept.{Kept, client_acted, idled, stamp_at}
use Rattle.kept_laws.specs.Standing.{Stands, limit_of}
use Rattle.world_laws.proofs.Counters.Bounds.{packet_within}
use Rattle.kept_laws.proofs.Reaching.{ground}
use Rattle.kept_laws.specs.Reached.{Reached}
use Rattle.world_laws.specs.Starts.{most_at_start}
use Rattle.world_laws.specs.Within.{ClientWithin}
use Rattle.world.specs.ClientSteps.{ClientDone, IsSent, Rests, Sends, client_in, no_client}
use Rattle.world.specs.declared.fault.RunFault.TheVariants as fault
use Rattle.world.specs.Steps.{Leads}
use Rattle.world.specs.World.{AreNodes, IsAt, WorldView, kept_of}
use Rattle.world.proofs.Leading.{Answer, leads_by, on_ok}
use Rattle.world.proofs.Places.{below, few, ground_of, most_number}

-- ---- the client of an event

same_default : (ms : List Client) (c : ℕ) (d e : Client) → c < length ms → slice_index_or ms c d ≡ slice_index_or ms c e
same_default [] c d e lt = absurd (omega (arith, lt))
same_default (m ∷ ms) zero d e lt = refl
same_default (m ∷ ms) (suc c) d e lt = same_default ms c d e (omega (arith, lt))

pub client_below : (s : Setup) (b : WorldView) (c : ℕ) → IsAt s b → c < length s.clients → c < length b.clients
client_below s b c h lt = subst (λ (ms : List Client). c < length ms) (sym h.stands.clients) (subst (λ (m : ℕ). c < m) (sym (ground_of s b h).places.clients) lt)

pub clock_below : (s : Setup) (b : WorldView) (c : ℕ) → IsAt s b → c < length s.clients → c < length b.client_clocks
clock_below s b c h lt = subst (λ (cs : List ℕ). c < length cs) (sym h.stands.client_clocks) (subst (λ (m : ℕ). c < m) (sym (ground_of s b h).places.client_clocks) lt)

pub client_is : (s : Setup) (b : WorldView) (w : World) (c : ℕ) → IsAt s b → c < length s.clients → Stands s (kept_of b) w → client_in b.clients c ≡ client_at s w c
client_is s b w c h lt stands =
    same_default b.clients c no_client (new_client (declared_at s c)) (client_below s b c h lt)
    ∙ ap (λ (ms : List Client). slice_index_or ms c (new_client (declared_at s c))) stands.clients

counts_of : (n : ℕ) (k : Client) → n ≤ most_number → ClientWithin n k → CanCount k
counts_of n k most h = record {
  receipts = omega (arith, most, h.receipts);
  duplicates = omega (arith, most, h.duplicates);
  errors = omega (arith, most, h.errors);
}

pub can_connect : (s : Setup) (b : WorldView) (c : ℕ) → IsAt s b → c < length s.clients → CanConnect (client_in b.clients c)
can_connect s b c h lt =
    let most = few s b h in
    subst CanConnect (sym (client_is s b h.world c h lt h.stands)) (omega (arith, most, ((ground_of s b h).numbers.clients c).connection))

pub can_count : (s : Setup) (b : WorldView) (c : ℕ) → IsAt s b → c < length s.clients → CanCount (client_in b.clients c)
can_count s b c h lt =
    let most = few s b h in
    subst CanCount (sym (client_is s b h.world c h lt h.stands)) (counts_of (most_at_start + h.world.events) (client_at s h.world c) (omega (arith, most)) ((ground_of s b h).numbers.clients c))

pub stamp_within : (s : Setup) (b : WorldView) (c : ℕ) (takes : Option LinkName) → IsAt s b → stamp_at b.client_clocks c b.links takes < 2 ^ 64
stamp_within s b c takes h =
    let g = ground_of s b h in let w = h.world in let most = few s b h in let m : ℕ = most_at_start + w.events in
    let clock : slice_index b.client_clocks c ≤ m = subst (λ (cs : List ℕ). slice_index cs c ≤ m) (sym h.stands.client_clocks) (g.numbers.client_clocks c) in
    let packet : stamp_of (packet_on b.links takes) ≤ m =
    subst (λ (k : ℕ). k ≤ m) (sym (stamp_is s.clusters takes b.links w.links h.stands.links)) (packet_within m w.links (taken_name (length s.clusters) takes) g.numbers.stamps) in
    omega (arith, most, clock, packet)

pub stamp_fits : (s : Setup) (b : WorldView) (c : ℕ) → IsAt s b → stamp_at b.client_clocks c b.links None < 2 ^ 64
stamp_fits s b c h = stamp_within s b c None h

-- ---- what was prepared

outs_stand : (names : List (List ℕ)) (os : List WireOut) (vs : List Out) → AreWritten names os vs → OutsStand names os vs
outs_stand names [] [] h = none
outs_stand names (o ∷ os) (v ∷ vs) h = more (record { to = h.0.to; session = h.0.session; frame = h.0.frame }) (outs_stand names os vs h.1)
outs_stand names (o ∷ os) [] h = absurd h
outs_stand names [] (v ∷ vs) h = absurd h

-- an event that is not idle, whatever it is
sends : (s : Setup) (old new : WorldView) (next : World) (c : ℕ) (p : PreparedClient) (a : Acted) (r : Answer)
    → ((os : List WireOut) → a.idle ≡ false → OutsStand s.clusters os a.sent → Stands s (client_acted (kept_of old) c (wire_node.Client c) None a.client os) next)
    → IsPrepared s.clusters (client_in old.clients c) p a → not (is_some p.change) ≡ false → OnOk r (IsSent c p old new)
    → OnOk r (limit_of (old.events + 1) old.idle (old.frame_bytes + bytes_of p.sent) ≡ None)
    → ((i : ℕ) → r ≡ Err (fault.TooLarge i) → limit_of (old.events + 1) old.idle (old.frame_bytes + bytes_of p.sent) ≡ Some i)
    → Leads s old new next r
sends s old new next c p a r stands prepared busy ok within large =
    let os = p.sent in
    let there : Stands s (client_acted (kept_of old) c (wire_node.Client c) None (client_after p.change (client_in old.clients c)) os) next =
    subst (λ (m : Client). Stands s (client_acted (kept_of old) c (wire_node.Client c) None m os) next) (sym prepared.client)
    (stands os (sym prepared.idle ∙ busy) (outs_stand s.clusters p.sent a.sent prepared.sent)) in
    leads_by s old new (client_acted (kept_of old) c (wire_node.Client c) None (client_after p.change (client_in old.clients c)) os) next r there (on_ok r (λ all. all.kept) ok) within large

rests : (s : Setup) (old new : WorldView) (next : World) (c : ℕ) (p : PreparedClient) (a : Acted) (r : Answer)
    → (a.idle ≡ true → Stands s (idled (kept_of old)) next)
    → IsPrepared s.clusters (client_in old.clients c) p a → not (is_some p.change) ≡ true
    → OnOk r (new ≡ record old { idle = old.idle + 1 }) → OnOk r (limit_of old.events (old.idle + 1) old.frame_bytes ≡ None)
    → ((i : ℕ) → r ≡ Err (fault.TooLarge i) → limit_of old.events (old.idle + 1) old.frame_bytes ≡ Some i)
    → Leads s old new next r
rests s old new next c p a r stands prepared idle ok within large =
    leads_by s old new (idled (kept_of old)) next r (stands (sym prepared.idle ∙ idle)) (on_ok r (λ all. ap kept_of all) ok) within large

-- ---- a line, and a connection

goes_at : (s : Setup) (b : WorldView) (w : World) (c : ℕ) (p : PreparedClient) → IsAt s b → c < length s.clients → Stands s (kept_of b) w
    → IsPrepared s.clusters (client_in b.clients c) p (go (known_setup s.clusters s.topics) (declared_at s c) (client_in b.clients c))
    → IsPrepared s.clusters (client_in b.clients c) p (go s (declared_at s c) (client_at s w c))
goes_at s b w c p h lt stands prepared =
    subst (λ (a : Acted). IsPrepared s.clusters (client_in b.clients c) p a)
    (goes_known s (declared_at s c) (client_in b.clients c) ∙ ap (λ (k : Client). go s (declared_at s c) k) (client_is s b w c h lt stands)) prepared

reconnects_at : (s : Setup) (b : WorldView) (w : World) (c : ℕ) (p : PreparedClient) → IsAt s b → c < length s.clients → Stands s (kept_of b) w
    → IsPrepared s.clusters (client_in b.clients c) p (reconnect (known_setup s.clusters s.topics) (declared_at s c) (client_in b.clients c))
    → IsPrepared s.clusters (client_in b.clients c) p (reconnect s (declared_at s c) (client_at s w c))
reconnects_at s b w c p h lt stands prepared =
    subst (λ (a : Acted). IsPrepared s.clusters (client_in b.clients c) p a)
    (reconnects_known s (declared_at s c) (client_in b.clients c) ∙ ap (λ (k : Client). reconnect s (declared_at s c) k) (client_is s b w c h lt stands)) prepared

pub has : (s : Setup) (c : ℕ) → c < length s.clients → has_client s c ≡ true
has s c lt = below c (length s.clients) lt

pub leads_go : (s : Setup) (old new : WorldView) (w : World) (c : ℕ) (p : PreparedClient) (r : Answer) → IsAt s old → c < length s.clients → Reached s w → Stands s (kept_of old) w
    → IsPrepared s.clusters (client_in old.clients c) p (go (known_setup s.clusters s.topics) (declared_at s c) (client_in old.clients c)) → ClientDone c p old new r
    → Leads s old new (happens s w (event.Go c)) r
leads_go s old new w c p r h lt reached stands prepared (Rests idle ok within large) =
    rests s old new (happens s w (event.Go c)) c p (go s (declared_at s c) (client_at s w c)) r
    (λ rest. client_stays s (kept_of old) w c (has s c lt) stands rest) (goes_at s old w c p h lt stands prepared) idle ok within large
leads_go s old new w c p r h lt reached stands prepared (Sends busy ok within large) =
    sends s old new (happens s w (event.Go c)) c p (go s (declared_at s c) (client_at s w c)) r
    (λ os active sent. client_goes s (kept_of old) w c os (has s c lt) (ground s h.setup w reached) stands active sent) (goes_at s old w c p h lt stands prepared) busy ok within large

client_idles : (s : Setup) (w : World) (c : ℕ) (o : Option MachineLink) (a : Acted) → a.idle ≡ true → client_does s w c o a ≡ idles w
unfolding client_does
client_idles s w c o a is = rw is refl

idles_stands : (s : Setup) (k : Kept) (w : World) → Stands s k w → Stands s (idled k) (idles w)
idles_stands s k w h = record {
  brokers = h.brokers;
  clients = h.clients;
  links = h.links;
  broker_clocks = h.broker_clocks;
  client_clocks = h.client_clocks;
  events = h.events;
  idle = ap (λ (n : ℕ). n + 1) h.idle;
  rounds = h.rounds;
  frame_bytes = h.frame_bytes;
}

reconnect_is : (s : Setup) (w : World) (c : ℕ) → has_client s c ≡ true
    → happens s w (event.Reconnect c) ≡ client_does s w c None (machine_acted s (client_at s w c) (event.Reconnect c) None)
unfolding happens
reconnect_is s w c has = rw has refl

reconnect_rests : (s : Setup) (k : Kept) (w : World) (c : ℕ) → c < length s.clients → Stands s k w → (reconnect s (declared_at s c) (client_at s w c)).idle ≡ true
    → Stands s (idled k) (happens s w (event.Reconnect c))
reconnect_rests s k w c lt h idle =
    subst (Stands s (idled k)) (sym (reconnect_is s w c (has s c lt) ∙ client_idles s w c None (reconnect s (declared_at s c) (client_at s w c)) idle)) (idles_stands s k w h)

pub leads_reconnect : (s : Setup) (old new : WorldView) (w : World) (c : ℕ) (p : PreparedClient) (r : Answer) → IsAt s old → c < length s.clients → Reached s w → Stands s (kept_of old) w
    → IsPrepared s.clusters (client_in old.clients c) p (reconnect (known_setup s.clusters s.topics) (declared_at s c) (client_in old.clients c)) → ClientDone c p old new r
    → Leads s old new (happens s w (event.Reconnect c)) r
leads_reconnect s old new w c p r h lt reached stands prepared (Rests idle ok within large) =
    rests s old new (happens s w (event.Reconnect c)) c p (reconnect s (declared_at s c) (client_at s w c)) r
    (λ rest. reconnect_rests s (kept_of old) w c lt stands rest) (reconnects_at s old w c p h lt stands prepared) idle ok within large
leads_reconnect s old new w c p r h lt reached stands prepared (Sends busy ok within large) =
    sends s old new (happens s w (event.Reconnect c)) c p (reconnect s (declared_at s c) (client_at s w c)) r
    (λ os active sent. client_reconnects s (kept_of old) w c os (has s c lt) (ground s h.setup w reached) stands active sent) (reconnects_at s old w c p h lt stands prepared) busy ok within large

-- ---- brokers

nodes_sent : (s : Setup) (old new : WorldView) (c : ℕ) (p : PreparedClient) (r : Answer) → IsAt s old → OnOk r (IsSent c p old new) → OnErr r (new ≡ old) → AreNodes s new.brokers
nodes_sent s old new c p (Ok unit) h ok err = rw ok.brokers h.brokers
nodes_sent s old new c p (Err f) h ok err = rw err h.brokers

pub nodes_idle : (s : Setup) (old new : WorldView) (r : Answer) → IsAt s old → OnOk r (new ≡ record old { idle = old.idle + 1 }) → OnErr r (new ≡ old) → AreNodes s new.brokers
nodes_idle s old new (Ok unit) h ok err = rw ok h.brokers
nodes_idle s old new (Err f) h ok err = rw err h.brokers

pub nodes_done : (s : Setup) (old new : WorldView) (c : ℕ) (p : PreparedClient) (r : Answer) → IsAt s old → ClientDone c p old new r → OnErr r (new ≡ old) → AreNodes s new.brokers
nodes_done s old new c p r h (Rests idle ok within large) err = nodes_idle s old new r h ok err
nodes_done s old new c p r h (Sends busy ok within large) err = nodes_sent s old new c p r h ok err
