-- Each operation on the kept links stands for the machine's on its own.
use Rattle.std.proofs.Common.{◌≡◌, ℕ, ◌+◌, ◌*◌, ◌≤◌, ◌<◌, ◌⊎◌, List, [], ◌∷◌, ◌++◌, length, min, refl, sym, ◌∙◌, ap, subst, arith, length-append}
use Rattle.std.specs.Prelude.{Option, Some, None, drop, map, replicate, slice_index_or, slice_set}
use Rattle.std.specs.List.{AllByRecursion}
use Rattle.std.proofs.lemmas.List.{append-nil, drop_all, drop-append-le, drop-drop, drop_min, map-append, replicate-append-replicate, set_past}
use Rattle.geo_base.specs.declared.packet.Out.{Out}
use Rattle.geo_base.specs.declared.packet.Packet.{Packet}
use Rattle.geo_base.specs.declared.packet.Peer.{Peer}
use Rattle.geo_base.specs.declared.packet.Peer.TheVariants as peer
use Rattle.geo_base.specs.FrameSizes.{frame_size, sent_bytes}
use Rattle.geo_base.specs.Happening.{all_discarded as machine_discarded, stamp_of as machine_stamp}
use Rattle.geo_base.specs.Link.{Link, discarded, next_packet, no_link, sent_on as machine_sent, took}
use Rattle.geo_base.specs.Setup.{Setup}
use Rattle.geo_base.specs.World.{Links, LinkName as MachineLink, Forward, Back, ToBroker, ToClient, cell as machine_cell, delivered as machine_delivered, from_broker, from_client, link_at, opening_world, packet_at, stamped as machine_stamped, table as machine_table, taken_from as machine_taken, with_cell as with_machine_cell, with_link}
use Rattle.geo_base.proofs.Lists.{index_or_past}
use Rattle.frame_values.proofs.Sized.{frame_length}
use Rattle.links.specs.declared.name.LinkName.{LinkName}
use Rattle.links.specs.declared.name.LinkName.TheVariants as name
use Rattle.links.specs.declared.name.Node.{Node}
use Rattle.links.specs.declared.name.Node.TheVariants as node
use Rattle.geo_base.specs.declared.packet.WireOut.{WireOut}
use Rattle.wire_ends.specs.declared.packet.WirePacket.{WirePacket}
use Rattle.links.specs.Each.{Each, none, more, Both, neither, both}
use Rattle.links.specs.Names.{named, sends_on, taken_name}
use Rattle.links.specs.Queues.{Queue, WireLinks, after_next, all_discarded, bytes_of, delivered, emptied, empty_links, next_in, packet_on, port_of, queue_at, row_count, sent_on, stamp_of, stamped, taken_from, with_last, with_queue}
use Rattle.links.specs.Standing.{AreTables, IsReadableOut, IsTable, LinkStands, LinksStand, OutStands, OutsStand, PacketStands, joined, rows_of, stopped_links}
use Rattle.links.proofs.Pairs.{each_copies, each_get, each_length, each_map, each_or, each_push, each_rest, each_set, first_left}
use Rattle.links.proofs.Ports.{after_at, after_set, front_at, front_set, joined_copies, joined_map, none_before, nothing_past, on_port, past_ends, same_past, table_copies, table_map, table_set}

-- ---- one link

nothing_stands : (names : List (List ℕ)) → LinkStands names [] no_link
nothing_stands names = record { taken = omega arith; untaken = none }

next_stands : (names : List (List ℕ)) (q : Queue) (l : Link) → LinkStands names q l → Both (PacketStands names) (next_in q) (next_packet l)
next_stands names q l h =
    subst (λ (o : Option Packet). Both (PacketStands names) (next_in q) o) (first_left l.taken l.sent) (each_get (PacketStands names) q (drop l.taken l.sent) 0 h.untaken)

took_stands : (names : List (List ℕ)) (q : Queue) (l : Link) → LinkStands names q l → LinkStands names (after_next q) (took l)
took_stands names q l h =
    let rest : drop 1 (drop l.taken l.sent) ≡ drop (min (l.taken + 1) (length l.sent)) l.sent = drop-drop 1 l.taken l.sent ∙ sym (drop_min (l.taken + 1) l.sent) in
    record {
      taken = omega arith;
      untaken = subst (λ (ps : List Packet). Each (PacketStands names) (after_next q) ps) rest (each_rest (PacketStands names) q (drop l.taken l.sent) h.untaken);
    }

sent_stands : (names : List (List ℕ)) (q : Queue) (l : Link) (p : WirePacket) (v : Packet) → LinkStands names q l → PacketStands names p v → LinkStands names (with_last q p) (machine_sent l v)
sent_stands names q l p v h k = record {
  taken = omega (arith, h.taken, length-append l.sent (v ∷ []));
  untaken = subst (λ (ps : List Packet). Each (PacketStands names) (with_last q p) ps) (sym (drop-append-le l.taken l.sent (v ∷ []) h.taken))
      (each_push (PacketStands names) q (drop l.taken l.sent) p v k h.untaken);
}

lost_stands : (names : List (List ℕ)) (q : Queue) (l : Link) → LinkStands names q l → LinkStands names [] (discarded l)
lost_stands names q l h = record {
  taken = omega arith;
  untaken = subst (λ (ps : List Packet). Each (PacketStands names) [] ps) (sym (drop_all (length l.sent) l.sent (omega arith))) none;
}

-- ---- the machine's tables, one after another

none_at : (rows n : ℕ) (m : List (List Link)) (i j : ℕ) → IsTable rows n m → (rows ≤ i) ⊎ (n ≤ j) → machine_cell m i j ≡ no_link
none_at rows n m i j t out = nothing_past n m i j no_link t.each (past_ends rows n m i j t out)

none_with : (rows n : ℕ) (m : List (List Link)) (i j : ℕ) (l : Link) → IsTable rows n m → (rows ≤ i) ⊎ (n ≤ j) → with_machine_cell m i j l ≡ m
none_with rows n m i j l t out = same_past n m i j l t.each (past_ends rows n m i j t out)

none_set : {A : Type 0} (xs : List A) (i : ℕ) (a : A) {ys : List A} → length xs ≤ i → ys ≡ xs → ys ≡ slice_set xs i a
none_set xs i a past is = is ∙ sym (set_past xs i a past)

-- the last table, after which nothing stands
last_at : (rows n : ℕ) (m : List (List Link)) (i j : ℕ) → IsTable rows n m → i < rows → j < n → slice_index_or (joined m) (i * n + j) no_link ≡ machine_cell m i j
last_at rows n m i j t lt lt' = ap (λ (v : List (List Link)). slice_index_or (joined v) (i * n + j) no_link) (sym (append-nil m)) ∙ front_at rows n m [] i j no_link t lt lt'

last_set : (rows n : ℕ) (m : List (List Link)) (i j : ℕ) (l : Link) → IsTable rows n m → i < rows → j < n → joined (with_machine_cell m i j l) ≡ slice_set (joined m) (i * n + j) l
last_set rows n m i j l t lt lt' =
    ap joined (sym (append-nil (with_machine_cell m i j l))) ∙ front_set rows n m [] i j l t lt lt' ∙ ap (λ (v : List (List Link)). slice_set (joined v) (i * n + j) l) (append-nil m)

new_rows : (brokers clients n : ℕ) → joined (machine_table brokers n ++ (machine_table brokers n ++ (machine_table clients n ++ machine_table clients n))) ≡ replicate (row_count brokers clients * n) no_link
new_rows brokers clients n =
    let row = replicate n no_link in
    ap (λ (m : List (List Link)). joined (machine_table brokers n ++ (machine_table brokers n ++ m))) (replicate-append-replicate clients clients row)
    ∙ ap (λ (m : List (List Link)). joined (machine_table brokers n ++ m)) (replicate-append-replicate brokers (clients + clients) row)
    ∙ ap joined (replicate-append-replicate brokers (brokers + (clients + clients)) row)
    ∙ joined_copies (row_count brokers clients) n no_link

stopped_rows : (ms : Links) → rows_of (stopped_links ms) ≡ machine_discarded (rows_of ms)
stopped_rows ms =
    let f = λ (row : List Link). map discarded row in
    ap (λ (m : List (List Link)). map f ms.forward ++ (map f ms.back ++ m)) (sym (map-append f ms.to_broker ms.to_client))
    ∙ ap (λ (m : List (List Link)). map f ms.forward ++ m) (sym (map-append f ms.back (ms.to_broker ++ ms.to_client)))
    ∙ sym (map-append f ms.forward (ms.back ++ (ms.to_broker ++ ms.to_client)))

-- what stands at a link's port there
link_there : (ls : WireLinks) (ms : Links) (k : LinkName) → AreTables ls ms → length ls.queues ≡ length (joined (rows_of ms)) → slice_index_or (joined (rows_of ms)) (port_of ls k) no_link ≡ link_at ms (named ls.clusters k)
unfolding port_of
link_there ls ms (name.Forward t x y) h many =
    let n = ls.clusters in let i = t * n + x in
    on_port (λ (p : ℕ). slice_index_or (joined (rows_of ms)) p no_link ≡ machine_cell ms.forward i y) ls 0 ls.brokers i y
    (λ lt lt'. ap (λ (k : ℕ). slice_index_or (joined (rows_of ms)) (k * n + y) no_link) (none_before i) ∙ front_at ls.brokers n ms.forward _ i y no_link h.forward lt lt')
    (λ out. index_or_past (joined (rows_of ms)) (length ls.queues) no_link (omega (arith, many)) ∙ sym (none_at ls.brokers n ms.forward i y h.forward out))
link_there ls ms (name.Back t x y) h many =
    let n = ls.clusters in let i = t * n + x in
    on_port (λ (p : ℕ). slice_index_or (joined (rows_of ms)) p no_link ≡ machine_cell ms.back i y) ls ls.brokers ls.brokers i y
    (λ lt lt'. after_at ls.brokers n ms.forward _ (ls.brokers + i) i y no_link h.forward refl ∙ front_at ls.brokers n ms.back _ i y no_link h.back lt lt')
    (λ out. index_or_past (joined (rows_of ms)) (length ls.queues) no_link (omega (arith, many)) ∙ sym (none_at ls.brokers n ms.back i y h.back out))
link_there ls ms (name.ToBroker c x) h many =
    let n = ls.clusters in
    on_port (λ (p : ℕ). slice_index_or (joined (rows_of ms)) p no_link ≡ machine_cell ms.to_broker c x) ls (ls.brokers + ls.brokers) ls.clients c x
    (λ lt lt'. after_at ls.brokers n ms.forward _ (ls.brokers + ls.brokers + c) (ls.brokers + c) x no_link h.forward (omega arith)
    ∙ after_at ls.brokers n ms.back _ (ls.brokers + c) c x no_link h.back refl ∙ front_at ls.clients n ms.to_broker _ c x no_link h.to_broker lt lt')
    (λ out. index_or_past (joined (rows_of ms)) (length ls.queues) no_link (omega (arith, many)) ∙ sym (none_at ls.clients n ms.to_broker c x h.to_broker out))
link_there ls ms (name.ToClient c x) h many =
    let n = ls.clusters in
    on_port (λ (p : ℕ). slice_index_or (joined (rows_of ms)) p no_link ≡ machine_cell ms.to_client c x) ls (ls.brokers + (ls.brokers + ls.clients)) ls.clients c x
    (λ lt lt'. after_at ls.brokers n ms.forward _ (ls.brokers + (ls.brokers + ls.clients) + c) (ls.brokers + (ls.clients + c)) x no_link h.forward (omega arith)
    ∙ after_at ls.brokers n ms.back _ (ls.brokers + (ls.clients + c)) (ls.clients + c) x no_link h.back refl
    ∙ after_at ls.clients n ms.to_broker _ (ls.clients + c) c x no_link h.to_broker refl
    ∙ last_at ls.clients n ms.to_client c x h.to_client lt lt')
    (λ out. index_or_past (joined (rows_of ms)) (length ls.queues) no_link (omega (arith, many)) ∙ sym (none_at ls.clients n ms.to_client c x h.to_client out))

-- a link with something else at its port
link_set : (ls : WireLinks) (ms : Links) (k : LinkName) (l : Link) → AreTables ls ms → length ls.queues ≡ length (joined (rows_of ms))
    → joined (rows_of (with_link ms (named ls.clusters k) l)) ≡ slice_set (joined (rows_of ms)) (port_of ls k) l
unfolding port_of
link_set ls ms (name.Forward t x y) l h many =
    let n = ls.clusters in let i = t * n + x in
    on_port (λ (p : ℕ). joined (rows_of (with_link ms (Forward i y) l)) ≡ slice_set (joined (rows_of ms)) p l) ls 0 ls.brokers i y
    (λ lt lt'. front_set ls.brokers n ms.forward _ i y l h.forward lt lt' ∙ ap (λ (k : ℕ). slice_set (joined (rows_of ms)) (k * n + y) l) (sym (none_before i)))
    (λ out. none_set (joined (rows_of ms)) (length ls.queues) l (omega (arith, many)) (ap (λ (m : List (List Link)). joined (rows_of (record ms { forward = m }))) (none_with ls.brokers n ms.forward i y l h.forward out)))
link_set ls ms (name.Back t x y) l h many =
    let n = ls.clusters in let i = t * n + x in
    on_port (λ (p : ℕ). joined (rows_of (with_link ms (Back i y) l)) ≡ slice_set (joined (rows_of ms)) p l) ls ls.brokers ls.brokers i y
    (λ lt lt'. after_set ls.brokers n ms.forward _ _ (ls.brokers + i) i y l h.forward refl (front_set ls.brokers n ms.back _ i y l h.back lt lt'))
    (λ out. none_set (joined (rows_of ms)) (length ls.queues) l (omega (arith, many)) (ap (λ (m : List (List Link)). joined (rows_of (record ms { back = m }))) (none_with ls.brokers n ms.back i y l h.back out)))
link_set ls ms (name.ToBroker c x) l h many =
    let n = ls.clusters in
    on_port (λ (p : ℕ). joined (rows_of (with_link ms (ToBroker c x) l)) ≡ slice_set (joined (rows_of ms)) p l) ls (ls.brokers + ls.brokers) ls.clients c x
    (λ lt lt'. after_set ls.brokers n ms.forward _ _ (ls.brokers + ls.brokers + c) (ls.brokers + c) x l h.forward (omega arith)
    (after_set ls.brokers n ms.back _ _ (ls.brokers + c) c x l h.back refl (front_set ls.clients n ms.to_broker _ c x l h.to_broker lt lt')))
    (λ out. none_set (joined (rows_of ms)) (length ls.queues) l (omega (arith, many)) (ap (λ (m : List (List Link)). joined (rows_of (record ms { to_broker = m }))) (none_with ls.clients n ms.to_broker c x l h.to_broker out)))
link_set ls ms (name.ToClient c x) l h many =
    let n = ls.clusters in
    on_port (λ (p : ℕ). joined (rows_of (with_link ms (ToClient c x) l)) ≡ slice_set (joined (rows_of ms)) p l) ls (ls.brokers + (ls.brokers + ls.clients)) ls.clients c x
    (λ lt lt'. after_set ls.brokers n ms.forward _ _ (ls.brokers + (ls.brokers + ls.clients) + c) (ls.brokers + (ls.clients + c)) x l h.forward (omega arith)
    (after_set ls.brokers n ms.back _ _ (ls.brokers + (ls.clients + c)) (ls.clients + c) x l h.back refl
    (after_set ls.clients n ms.to_broker _ _ (ls.clients + c) c x l h.to_broker refl (last_set ls.clients n ms.to_client c x l h.to_client lt lt'))))
    (λ out. none_set (joined (rows_of ms)) (length ls.queues) l (omega (arith, many)) (ap (λ (m : List (List Link)). joined (rows_of (record ms { to_client = m }))) (none_with ls.clients n ms.to_client c x l h.to_client out)))

tables_with : (ls : WireLinks) (ms : Links) (k : MachineLink) (q : List Queue) (l : Link) → AreTables ls ms → AreTables (record ls { queues = q }) (with_link ms k l)
tables_with ls ms (Forward i y) q l h = record { forward = table_set ls.brokers ls.clusters ms.forward i y l h.forward; back = h.back; to_broker = h.to_broker; to_client = h.to_client }
tables_with ls ms (Back i y) q l h = record { forward = h.forward; back = table_set ls.brokers ls.clusters ms.back i y l h.back; to_broker = h.to_broker; to_client = h.to_client }
tables_with ls ms (ToBroker c x) q l h = record { forward = h.forward; back = h.back; to_broker = table_set ls.clients ls.clusters ms.to_broker c x l h.to_broker; to_client = h.to_client }
tables_with ls ms (ToClient c x) q l h = record { forward = h.forward; back = h.back; to_broker = h.to_broker; to_client = table_set ls.clients ls.clusters ms.to_client c x l h.to_client }

-- ---- all links

many_same : (names : List (List ℕ)) (ls : WireLinks) (ms : Links) → LinksStand names ls ms → length ls.queues ≡ length (joined (rows_of ms))
many_same names ls ms h = each_length (LinkStands names) ls.queues (joined (rows_of ms)) h.links

pub at_stands : (names : List (List ℕ)) (ls : WireLinks) (ms : Links) (k : LinkName) → LinksStand names ls ms → LinkStands names (queue_at ls k) (link_at ms (named (length names) k))
at_stands names ls ms k h =
    subst (λ (n : ℕ). LinkStands names (queue_at ls k) (link_at ms (named n k))) h.clusters
    (subst (λ (l : Link). LinkStands names (queue_at ls k) l) (link_there ls ms k h.tables (many_same names ls ms h))
    (each_or (LinkStands names) ls.queues (joined (rows_of ms)) (port_of ls k) [] no_link (nothing_stands names) h.links))

with_stands : (names : List (List ℕ)) (ls : WireLinks) (ms : Links) (k : LinkName) (q : Queue) (l : Link)
    → LinksStand names ls ms → LinkStands names q l → LinksStand names (with_queue ls k q) (with_link ms (named (length names) k) l)
with_stands names ls ms k q l h s =
    subst (λ (n : ℕ). LinksStand names (with_queue ls k q) (with_link ms (named n k) l)) h.clusters (record {
      clusters = h.clusters;
      tables = tables_with ls ms (named ls.clusters k) _ l h.tables;
      links = subst (λ (vs : List Link). Each (LinkStands names) (slice_set ls.queues (port_of ls k) q) vs) (sym (link_set ls ms k l h.tables (many_same names ls ms h)))
          (each_set (LinkStands names) ls.queues (joined (rows_of ms)) (port_of ls k) q l s h.links);
    })

pub opening_stands : (s : Setup) → LinksStand s.clusters (empty_links (length s.topics) (length s.clusters) (length s.clients)) (opening_world s).links
opening_stands s =
    let n = length s.clusters in let brokers = length s.topics * n in let clients = length s.clients in
    record {
      clusters = refl;
      tables = record { forward = table_copies brokers n no_link; back = table_copies brokers n no_link; to_broker = table_copies clients n no_link; to_client = table_copies clients n no_link };
      links = subst (λ (vs : List Link). Each (LinkStands s.clusters) (replicate (row_count brokers clients * n) []) vs) (sym (new_rows brokers clients n))
          (each_copies (LinkStands s.clusters) (row_count brokers clients * n) [] no_link (nothing_stands s.clusters));
    }

pub packet_stands : (names : List (List ℕ)) (takes : Option LinkName) (ls : WireLinks) (ms : Links) → LinksStand names ls ms
    → Both (PacketStands names) (packet_on ls takes) (packet_at ms (taken_name (length names) takes))
packet_stands names None ls ms h = neither
packet_stands names (Some k) ls ms h = next_stands names (queue_at ls k) (link_at ms (named (length names) k)) (at_stands names ls ms k h)

stamp_same : (names : List (List ℕ)) (o : Option WirePacket) (v : Option Packet) → Both (PacketStands names) o v → stamp_of o ≡ machine_stamp v
stamp_same names _ _ neither = refl
stamp_same names _ _ (both h) = h.stamp

pub stamp_is : (names : List (List ℕ)) (takes : Option LinkName) (ls : WireLinks) (ms : Links) → LinksStand names ls ms
    → stamp_of (packet_on ls takes) ≡ machine_stamp (packet_at ms (taken_name (length names) takes))
stamp_is names takes ls ms h = stamp_same names _ _ (packet_stands names takes ls ms h)

pub taken_stands : (names : List (List ℕ)) (takes : Option LinkName) (ls : WireLinks) (ms : Links) → LinksStand names ls ms
    → LinksStand names (taken_from takes ls) (machine_taken (taken_name (length names) takes) ms)
taken_stands names None ls ms h = h
taken_stands names (Some k) ls ms h = with_stands names ls ms k _ _ h (took_stands names (queue_at ls k) (link_at ms (named (length names) k)) (at_stands names ls ms k h))

pub stopped_stands : (names : List (List ℕ)) (ls : WireLinks) (ms : Links) → LinksStand names ls ms → LinksStand names (all_discarded ls) (stopped_links ms)
stopped_stands names ls ms h = record {
  clusters = h.clusters;
  tables = record {
    forward = table_map ls.brokers ls.clusters discarded ms.forward h.tables.forward;
    back = table_map ls.brokers ls.clusters discarded ms.back h.tables.back;
    to_broker = table_map ls.clients ls.clusters discarded ms.to_broker h.tables.to_broker;
    to_client = table_map ls.clients ls.clusters discarded ms.to_client h.tables.to_client;
  };
  links = subst (λ (vs : List Link). Each (LinkStands names) (emptied ls.queues) vs) (sym (ap joined (stopped_rows ms) ∙ joined_map discarded (rows_of ms)))
      (each_map (LinkStands names) (λ q. []) discarded ls.queues (joined (rows_of ms)) (λ q l s. lost_stands names q l s) h.links);
}

-- ---- what is sent in an event

one_stands : (names : List (List ℕ)) (k : LinkName) (j : MachineLink) (stamp : ℕ) (o : WireOut) (v : Out) (ls : WireLinks) (ms : Links)
    → named (length names) k ≡ j → OutStands names o v → LinksStand names ls ms
    → LinksStand names (sent_on k (stamped stamp o) ls) (with_link ms j (machine_sent (link_at ms j) (machine_stamped stamp v)))
one_stands names k j stamp o v ls ms e s h =
    subst (λ (i : MachineLink). LinksStand names (sent_on k (stamped stamp o) ls) (with_link ms i (machine_sent (link_at ms i) (machine_stamped stamp v)))) e
    (with_stands names ls ms k _ _ h (sent_stands names (queue_at ls k) (link_at ms (named (length names) k)) (stamped stamp o) (machine_stamped stamp v) (at_stands names ls ms k h) (record { session = s.session; stamp = refl; frame = s.frame })))

-- a node whose links the machine names so sends on them
all_stand : (names : List (List ℕ)) (n : Node) (to : Peer → MachineLink) (stamp : ℕ) (os : List WireOut) (vs : List Out) (ls : WireLinks) (ms : Links)
    → ((p : Peer) → named (length names) (sends_on n p) ≡ to p) → OutsStand names os vs → LinksStand names ls ms
    → LinksStand names (delivered n stamp os ls) (machine_delivered to stamp vs ms)
all_stand names n to stamp _ _ ls ms same none h = h
all_stand names n to stamp _ _ ls ms same (more {x = o} {y = v} {xs = os} {ys = vs} k t) h =
    all_stand names n to stamp os vs _ _ same t (one_stands names (sends_on n o.to) (to v.to) stamp o v ls ms (same o.to ∙ ap to k.to) k h)

broker_same : (s : Setup) (t x : ℕ) (p : Peer) → named (length s.clusters) (sends_on (node.Broker t x) p) ≡ from_broker s t x p
broker_same s t x (peer.Forward y) = refl
broker_same s t x (peer.Back y) = refl
broker_same s t x (peer.Client c) = refl
broker_same s t x (peer.Broker y) = refl

client_same : (clusters c : ℕ) (p : Peer) → named clusters (sends_on (node.Client c) p) ≡ from_client c p
client_same clusters c (peer.Forward x) = refl
client_same clusters c (peer.Back x) = refl
client_same clusters c (peer.Client x) = refl
client_same clusters c (peer.Broker x) = refl

pub broker_stands : (s : Setup) (t x stamp : ℕ) (takes : Option LinkName) (os : List WireOut) (vs : List Out) (ls : WireLinks) (ms : Links)
    → LinksStand s.clusters ls ms → OutsStand s.clusters os vs
    → LinksStand s.clusters (taken_from takes (delivered (node.Broker t x) stamp os ls)) (machine_taken (taken_name (length s.clusters) takes) (machine_delivered (from_broker s t x) stamp vs ms))
broker_stands s t x stamp takes os vs ls ms h k =
    taken_stands s.clusters takes _ _ (all_stand s.clusters (node.Broker t x) (from_broker s t x) stamp os vs ls ms (broker_same s t x) k h)

pub client_stands : (names : List (List ℕ)) (c stamp : ℕ) (os : List WireOut) (vs : List Out) (ls : WireLinks) (ms : Links)
    → LinksStand names ls ms → OutsStand names os vs → LinksStand names (delivered (node.Client c) stamp os ls) (machine_delivered (from_client c) stamp vs ms)
client_stands names c stamp os vs ls ms h k = all_stand names (node.Client c) (from_client c) stamp os vs ls ms (client_same (length names) c) k h

-- a client sends to brokers alone, so that the machine may send before it takes
sent_apart : (c d x : ℕ) (p : Peer) (v : Packet) (ms : Links) → with_link (machine_taken (Some (ToClient d x)) ms) (from_client c p) (machine_sent (link_at (machine_taken (Some (ToClient d x)) ms) (from_client c p)) v)
    ≡ machine_taken (Some (ToClient d x)) (with_link ms (from_client c p) (machine_sent (link_at ms (from_client c p)) v))
sent_apart c d x (peer.Forward y) v ms = refl
sent_apart c d x (peer.Back y) v ms = refl
sent_apart c d x (peer.Client y) v ms = refl
sent_apart c d x (peer.Broker y) v ms = refl

apart : (c d x stamp : ℕ) (vs : List Out) (ms : Links)
    → machine_delivered (from_client c) stamp vs (machine_taken (Some (ToClient d x)) ms) ≡ machine_taken (Some (ToClient d x)) (machine_delivered (from_client c) stamp vs ms)
apart c d x stamp [] ms = refl
apart c d x stamp (v ∷ vs) ms =
    ap (machine_delivered (from_client c) stamp vs) (sent_apart c d x v.to (machine_stamped stamp v) ms)
    ∙ apart c d x stamp vs (with_link ms (from_client c v.to) (machine_sent (link_at ms (from_client c v.to)) (machine_stamped stamp v)))

pub got_stands : (names : List (List ℕ)) (c x stamp : ℕ) (os : List WireOut) (vs : List Out) (ls : WireLinks) (ms : Links)
    → LinksStand names ls ms → OutsStand names os vs
    → LinksStand names (taken_from (Some (name.ToClient c x)) (delivered (node.Client c) stamp os ls)) (machine_delivered (from_client c) stamp vs (machine_taken (Some (ToClient c x)) ms))
got_stands names c x stamp os vs ls ms h k =
    subst (λ (m : Links). LinksStand names (taken_from (Some (name.ToClient c x)) (delivered (node.Client c) stamp os ls)) m) (sym (apart c c x stamp vs ms))
    (taken_stands names (Some (name.ToClient c x)) _ _ (client_stands names c stamp os vs ls ms h k))

-- ---- bytes

pub bytes_stand : (names : List (List ℕ)) (os : List WireOut) (vs : List Out) → OutsStand names os vs → AllByRecursion IsReadableOut vs → bytes_of os ≡ sent_bytes names vs
bytes_stand names _ _ none r = refl
bytes_stand names _ _ (more {x = o} {y = v} {xs = os} {ys = vs} k t) r =
    let one : length o.frame ≡ frame_size names v.frame = ap length k.frame.canonical ∙ frame_length names k.frame.rest v.frame k.frame.kept r.0 in
    let others : bytes_of os ≡ sent_bytes names vs = bytes_stand names os vs t r.1 in
    omega (arith, one, others)
