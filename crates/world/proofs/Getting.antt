-- A client's get leads to the machine's world after it.
use Rattle.std.proofs.Common.{◌≡◌, ℕ, ◌+◌, ◌^◌, ◌<◌, ◌≤◌, Bool, true, false, List, [], length, refl, sym, ◌∙◌, ap, subst, arith}
use Rattle.std.proofs.lemmas.Bool.{false≢true}
use Rattle.std.proofs.lemmas.List.{set-get_or}
use Rattle.std.specs.Prelude.{Option, Some, None, Result, Ok, Err, IfOk, OnErr, OnOk, nat_lt, not, slice_set}
use Rattle.client.specs.Packets.{StandsForNext}
use Rattle.client.specs.Site.{Site, known_setup}
use Rattle.geo_base.specs.declared.event.Event.TheVariants as event
use Rattle.geo_base.specs.declared.memory.Memory.{Memory}
use Rattle.geo_base.specs.declared.packet.Packet.{Packet}
use Rattle.geo_base.specs.Client.{Acted, Client}
use Rattle.geo_base.specs.Getting.{get}
use Rattle.geo_base.specs.Happening.{happens}
use Rattle.geo_base.specs.Run.{all_limits}
use Rattle.geo_base.specs.Setup.{Declared, Setup, declared_at}
use Rattle.geo_base.specs.World.{ToClient, World, client_at, packet_at}
use Rattle.frame_laws.specs.BytePackets.{StandsForPacket}
use Rattle.links.specs.declared.name.LinkName.{LinkName}
use Rattle.links.specs.declared.name.LinkName.TheVariants as name
use Rattle.links.specs.declared.name.Node.TheVariants as wire_node
use Rattle.wire_ends.specs.declared.packet.WirePacket.{WirePacket}
use Rattle.links.specs.Each.{Both, both, neither}
use Rattle.links.specs.declared.port.Port.{Port}
use Rattle.links.proofs.Found.{next_found, taken_found}
use Rattle.links.specs.Queues.{IsFound, WireLinks, packet_in, packet_on, stamp_of, taken_from, taken_in}
use Rattle.kept_laws.proofs.Keeping.{client_gets, client_waits, counts, input}
use Rattle.kept_laws.specs.Kept.{Kept, client_acted, idled}
use Rattle.kept_laws.specs.Standing.{Stands, limit_of}
use Rattle.kept_laws.proofs.Reaching.{told_frames}
use Rattle.kept_laws.specs.Reached.{Reached}
use Rattle.world.specs.ClientSteps.{IsGot, after_got, client_in, no_client}
use Rattle.world.specs.declared.fault.RunFault.{RunFault}
use Rattle.world.specs.declared.fault.RunFault.TheVariants as fault
use Rattle.world.specs.Steps.{Leads, stamp_over}
use Rattle.world.specs.World.{AreNodes, IsAt, WorldView, kept_of}
use Rattle.world.proofs.ClientEvents.{client_is, clock_below, has, stamp_within}
use Rattle.world.proofs.Halting.{ok_err}
use Rattle.world.proofs.Leading.{failed}
use Rattle.world.proofs.Limits.{by_tests}
use Rattle.geo_base.proofs.Bools.{by_truth}

-- ---- at the client

next_is : (names : List (List ℕ)) (o : Option WirePacket) (v : Option Packet) → Both (StandsForPacket names) o v → StandsForNext names o v
next_is names _ _ neither = tt
next_is names (Some p) (Some q) (both r) = record { session = r.session; frame = r.frame }

pub got : (old new : WorldView) (names : List (List ℕ)) (d : Declared) (c : ℕ) (next : Option WirePacket) (m : Client) (r : Result Bool Memory) (i : Option WirePacket)
    → i ≡ next → new ≡ record old { clients = slice_set old.clients c m }
    → ((v : Option Packet) → StandsForNext names i v → OnOk r (m ≡ (get d (client_in old.clients c) v).client))
    → ((v : Option Packet) → StandsForNext names i v → IfOk r (λ took. not took ≡ (get d (client_in old.clients c) v).idle))
    → IfOk r (IsGot names d c next old new)
got old new names d c next m (Err e) i there is client idle = tt
got old new names d c next m (Ok took) i there is client idle =
    let stands : (v : Option Packet) → Both (StandsForPacket names) next v → StandsForNext names i v =
    λ v both. subst (λ (j : Option WirePacket). StandsForNext names j v) (sym there) (next_is names next v both) in
    rw is (record {
      client = λ v both. ap (λ (n : Client). slice_set old.clients c n) (client v (stands v both));
      idle = λ v both. idle v (stands v both);
      rest = refl;
    })

pub not_got : (old new : WorldView) (c : ℕ) (m : Client) (r : Result Bool Memory) → new ≡ record old { clients = slice_set old.clients c m } → OnErr r (m ≡ client_in old.clients c)
    → OnErr r (new ≡ old)
not_got old new c m (Ok took) is same = tt
not_got old new c m (Err e) is same =
    is ∙ ap (λ (n : Client). record old { clients = slice_set old.clients c n }) same ∙ ap (λ (ms : List Client). record old { clients = ms }) (set-get_or old.clients c no_client)

-- ---- what is counted after it

pub got_clock : (s : Setup) (old mid : WorldView) (names : List (List ℕ)) (d : Declared) (c : ℕ) (next : Option WirePacket) (took : Bool) → IsAt s old → c < length s.clients
    → IsGot names d c next old mid took → c < length mid.client_clocks
got_clock s old mid names d c next took h lt g = subst (λ (b : WorldView). c < length b.client_clocks) (sym g.rest) (clock_below s old c h lt)

pub got_stamp : (s : Setup) (old mid : WorldView) (names : List (List ℕ)) (d : Declared) (c : ℕ) (next : Option WirePacket) (port : Port) (took : Bool) → IsAt s old → IsFound old.links port
    → IsGot names d c next old mid took → stamp_over mid.client_clocks c (stamp_of (packet_in mid.links port)) < 2 ^ 64
got_stamp s old mid names d c next port took h found g =
    subst (λ (b : WorldView). stamp_over b.client_clocks c (stamp_of (packet_in b.links port)) < 2 ^ 64) (sym g.rest)
    (subst (λ (o : Option WirePacket). stamp_over old.client_clocks c (stamp_of o) < 2 ^ 64) (sym (next_found old.links port found)) (stamp_within s old c port.link h))

pub got_events : (s : Setup) (old mid : WorldView) (names : List (List ℕ)) (d : Declared) (c : ℕ) (next : Option WirePacket) (took : Bool) → IsAt s old → IsGot names d c next old mid took
    → mid.events + 1 < 2 ^ 64
got_events s old mid names d c next took h g =
    let most : old.events + old.idle ≤ 2000000 = h.within.few in
    subst (λ (b : WorldView). b.events + 1 < 2 ^ 64) (sym g.rest) (omega (arith, most))

pub got_idle : (s : Setup) (old mid : WorldView) (names : List (List ℕ)) (d : Declared) (c : ℕ) (next : Option WirePacket) (took : Bool) → IsAt s old → IsGot names d c next old mid took
    → mid.idle + 1 < 2 ^ 64
got_idle s old mid names d c next took h g =
    let most : old.events + old.idle ≤ 2000000 = h.within.few in
    subst (λ (b : WorldView). b.idle + 1 < 2 ^ 64) (sym g.rest) (omega (arith, most))

-- ---- in the world

shifted : (events idle bytes : ℕ) → limit_of events (idle + 1) bytes ≡ limit_of (events + 1) idle bytes
shifted events idle bytes =
    let same : events + (idle + 1) ≡ events + 1 + idle = omega arith in
    ap (λ (n : ℕ). by_tests (nat_lt 2000000 n) (nat_lt 1073741824 bytes)) same

none_more : (k : Kept) (n : ℕ) → n ≡ 0 → limit_of (k.events + 1) k.idle (k.frame_bytes + n) ≡ limit_of (k.events + 1) k.idle k.frame_bytes
none_more k n is =
    let same : k.frame_bytes + n ≡ k.frame_bytes = omega (arith, is) in
    ap (λ (m : ℕ). limit_of (k.events + 1) k.idle m) same

-- an idle get leaves the client as it is
idle_stays : (d : Declared) (k : Client) (v : Option Packet) → (get d k v).idle ≡ true → (get d k v).client ≡ k
unfolding get
idle_stays d k None is = refl
idle_stays d k (Some p) is = absurd (false≢true is)

abbrev taken_by : World → ℕ → ℕ → Option Packet
taken_by w c x = packet_at w.links (Some (ToClient c x))

-- the machine's get, with the packet that it takes
abbrev got_by : Setup → World → ℕ → Acted
got_by s w c = get (declared_at s c) (client_at s w c) (taken_by w c (client_at s w c).cluster)

past : (s : Setup) (old : WorldView) (w : World) (c : ℕ) → c < length s.clients → Stands s (kept_of old) w
    → all_limits (happens s w (event.Get c)) ≡ limit_of (old.events + 1) old.idle old.frame_bytes
past s old w c lt stands =
    by_truth (got_by s w c).idle
    (λ idle. counts s (idled (kept_of old)) (happens s w (event.Get c)) (client_waits s (kept_of old) w c (has s c lt) stands idle) ∙ shifted old.events old.idle old.frame_bytes)
    (λ busy.
    counts s _ (happens s w (event.Get c)) (client_gets s (kept_of old) w c (has s c lt) stands busy)
    ∙ none_more (kept_of old) 0 refl)

pub leads_large : (s : Setup) (old new : WorldView) (w : World) (c : ℕ) (f : RunFault) → c < length s.clients → Stands s (kept_of old) w
    → ((i : ℕ) → failed f ≡ failed (fault.TooLarge i) → limit_of (old.events + 1) old.idle old.frame_bytes ≡ Some i)
    → Leads s old new (happens s w (event.Get c)) (Err f)
leads_large s old new w c f lt stands large = record { done = tt; large = λ i is. past s old w c lt stands ∙ large i is }

-- what is kept where there was a packet, by what is left on the links and the packet's stamp
abbrev got_kept : WorldView → ℕ → Client → WireLinks → ℕ → Kept
got_kept b c k ls taken = record (kept_of b) { clients = slice_set b.clients c k; links = ls; client_clocks = slice_set b.client_clocks c (stamp_over b.client_clocks c taken); events = b.events + 1 }

-- what is kept then, by whether there was a packet
keeps : (s : Setup) (old mid : WorldView) (w : World) (c : ℕ) (port : Port) (took : Bool) (a : Acted) → c < length s.clients → Stands s (kept_of old) w
    → a ≡ got_by s w c → IsFound old.links port → port.link ≡ Some (name.ToClient c (client_at s w c).cluster) → client_in old.clients c ≡ client_at s w c
    → mid ≡ record old { clients = mid.clients } → mid.clients ≡ slice_set old.clients c a.client → not took ≡ a.idle → (a.idle ≡ true → a.client ≡ client_at s w c)
    → Stands s (kept_of (after_got c port took mid)) (happens s w (event.Get c))
keeps s old mid w c port true a lt stands is found link_is same rest clients idle stay =
    let busy : (got_by s w c).idle ≡ false = ap (λ (b : Acted). b.idle) (sym is) ∙ sym idle in
    let there = client_gets s (kept_of old) w c (has s c lt) stands busy in
    let zero : old.frame_bytes ≡ old.frame_bytes + 0 = omega arith in
    let all : mid ≡ record old { clients = slice_set old.clients c (got_by s w c).client } =
    rest ∙ ap (λ (ms : List Client). record old { clients = ms }) (clients ∙ ap (λ (b : Acted). slice_set old.clients c b.client) is) in
    let k : Client = (got_by s w c).client in
    let kept : kept_of (after_got c port true mid) ≡ client_acted (kept_of old) c (wire_node.Client c) (Some (name.ToClient c (client_at s w c).cluster)) k [] =
    ap (λ (b : WorldView). kept_of (after_got c port true b)) all
    ∙ ap (λ (o : Option WirePacket). got_kept old c k (taken_in port old.links) (stamp_of o)) (next_found old.links port found)
    ∙ ap (λ (ls : WireLinks). got_kept old c k ls (stamp_of (packet_on old.links port.link))) (taken_found old.links port found)
    ∙ ap (λ (l : Option LinkName). got_kept old c k (taken_from l old.links) (stamp_of (packet_on old.links l))) link_is
    ∙ ap (λ (n : ℕ). record (got_kept old c k (taken_from (Some (name.ToClient c (client_at s w c).cluster)) old.links) (stamp_of (packet_on old.links (Some (name.ToClient c (client_at s w c).cluster))))) { frame_bytes = n }) zero in
    subst (λ (k : Kept). Stands s k (happens s w (event.Get c))) (sym kept) there
keeps s old mid w c port false a lt stands is found link_is same rest clients idle stay =
    let quiet : a.idle ≡ true = sym idle in
    let there = client_waits s (kept_of old) w c (has s c lt) stands (ap (λ (b : Acted). b.idle) (sym is) ∙ quiet) in
    let unchanged : mid.clients ≡ old.clients =
    clients ∙ ap (λ (m : Client). slice_set old.clients c m) (stay quiet ∙ sym same) ∙ set-get_or old.clients c no_client in
    let all : mid ≡ old = rest ∙ ap (λ (ms : List Client). record old { clients = ms }) unchanged in
    subst (λ (b : WorldView). Stands s (kept_of (after_got c port false b)) (happens s w (event.Get c))) (sym all) there

pub leads_get : (s : Setup) (old mid new : WorldView) (w : World) (c : ℕ) (site : Site) (port : Port) (took : Bool) (unit : Unit {0}) → IsAt s old → c < length s.clients
    → Reached s w → Stands s (kept_of old) w → site.setup ≡ known_setup s.clusters s.topics → site.declared ≡ declared_at s c
    → IsFound old.links port → port.link ≡ Some (name.ToClient c (client_in old.clients c).cluster) → IsGot site.setup.clusters site.declared c (packet_in old.links port) old mid took
    → new ≡ after_got c port took mid
    → limit_of (old.events + 1) old.idle old.frame_bytes ≡ None → Leads s old new (happens s w (event.Get c)) (Ok unit)
leads_get s old mid new w c site port took unit h lt reached stands setup declared found is got_it after low =
    let same : client_in old.clients c ≡ client_at s w c = client_is s old w c h lt stands in
    let link_is : port.link ≡ Some (name.ToClient c (client_at s w c).cluster) = is ∙ ap (λ (k : Client). Some (name.ToClient c k.cluster)) same in
    let v = taken_by w c (client_at s w c).cluster in
    let next : packet_in old.links port ≡ packet_on old.links (Some (name.ToClient c (client_at s w c).cluster)) =
    next_found old.links port found ∙ ap (λ (l : Option LinkName). packet_on old.links l) link_is in
    let taken : Both (StandsForPacket s.clusters) (packet_in old.links port) v =
    subst (λ (o : Option WirePacket). Both (StandsForPacket s.clusters) o v) (sym next)
    (input s (kept_of old) w (Some (name.ToClient c (client_at s w c).cluster)) (told_frames s w h.setup reached) stands) in
    let o = packet_in old.links port in
    let there : IsGot s.clusters (declared_at s c) c o old mid took =
    subst (λ (d : Declared). IsGot s.clusters d c o old mid took) declared (subst (λ (u : Setup). IsGot u.clusters site.declared c o old mid took) setup got_it) in
    let a = get (declared_at s c) (client_in old.clients c) v in
    let a_is : a ≡ got_by s w c = ap (λ (k : Client). get (declared_at s c) k v) same in
    let kept : Stands s (kept_of new) (happens s w (event.Get c)) =
    subst (λ (b : WorldView). Stands s (kept_of b) (happens s w (event.Get c))) (sym after)
    (keeps s old mid w c port took a lt stands a_is found link_is same there.rest (there.client v taken) (there.idle v taken)
    (λ idle. idle_stays (declared_at s c) (client_in old.clients c) v idle ∙ same)) in
    record { done = (kept, past s old w c lt stands ∙ low); large = λ i no. absurd (ok_err unit (fault.TooLarge i) no) }

pub nodes_got : (s : Setup) (old mid new : WorldView) (names : List (List ℕ)) (d : Declared) (c : ℕ) (next : Option WirePacket) (port : Port) (took : Bool) → IsAt s old
    → IsGot names d c next old mid took → new ≡ after_got c port took mid → AreNodes s new.brokers
nodes_got s old mid new names d c next port true h g is = subst (λ (b : WorldView). AreNodes s b.brokers) (sym is) (subst (λ (b : WorldView). AreNodes s b.brokers) (sym g.rest) h.brokers)
nodes_got s old mid new names d c next port false h g is = subst (λ (b : WorldView). AreNodes s b.brokers) (sym is) (subst (λ (b : WorldView). AreNodes s b.brokers) (sym g.rest) h.brokers)

pub nodes_still : (s : Setup) (b : WorldView) → IsAt s b → AreNodes s b.brokers
nodes_still s b h = h.brokers
