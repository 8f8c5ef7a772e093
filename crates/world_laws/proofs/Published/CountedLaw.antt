-- In every world a client counts no more receipts than it took, and no more with a position were sent to it than it has entries.
use Rattle.std.proofs.Common.{◌≡◌, ℕ, ◌+◌, ◌<◌, ◌≤◌, Bool, true, false, cond, List, [], ◌∷◌, ◌++◌, length, refl, sym, ap, subst, ◌∙◌, arith, inl, inr, length-append}
use Rattle.std.specs.Prelude.{Option, Some, None, filter, slice_index, slice_index_or, slice_set}
use Rattle.std.proofs.lemmas.Bool.{false≢true, ltb-true}
use Rattle.std.proofs.lemmas.List.Elements.{filter-append}
use Rattle.std.proofs.lemmas.List.Sums.{sum_by-take-le}
use Rattle.world_laws.proofs.Types.{Entry, Event, Frame, Packet, Write}
use Rattle.world_laws.proofs.Types.event
use Rattle.world_laws.proofs.Types.frame
use Rattle.geo_base.specs.Broker.{Broker}
use Rattle.geo_base.specs.Client.{Acted, Client, new_client, reconnect, unconnected}
use Rattle.geo_base.specs.Getting.{get}
use Rattle.geo_base.specs.Going.{go}
use Rattle.geo_base.specs.Happening.{broker_does, broker_halts, client_does, does_planned, halts_planned, happens, idles, next_stamp, stops}
use Rattle.geo_base.specs.Link.{Link, next_packet, took}
use Rattle.geo_base.specs.Moments.{partly_written}
use Rattle.geo_base.specs.Plan.{done}
use Rattle.geo_base.specs.Planned.{Planned, has_client, planned}
use Rattle.geo_base.specs.Scripted.{IsScripted}
use Rattle.geo_base.specs.Setup.{Declared, Setup, declared_at}
use Rattle.geo_base.specs.World.{LinkName, Links, ToClient, World, cell, client_at, delivered, from_broker, link_at, node, opening_world, packet_at, taken_from, topic_at}
use Rattle.world_laws.specs.Publishing.{FewReceipts, LawCounted, is_produced_by}
use Rattle.world_laws.proofs.Clients.ClientLinks.{SentDown, acts_down, client_down, halts_down, stops_down, taken_down}
use Rattle.world_laws.proofs.Counters.Bounds.{table_has}
use Rattle.world_laws.proofs.Dispatching.SubFrames.{each_at_place}
use Rattle.world_laws.proofs.Induction.Frames.{at_map, at_set}
use Rattle.world_laws.proofs.Induction.Runs.{IsKeptByEvents, always_by_events}
use Rattle.world_laws.proofs.Merges.Opened.{opening_client}
use Rattle.world_laws.proofs.OnceInOrder.Appends.{after_writes, done_entries}
use Rattle.world_laws.proofs.Published.BrokerEvents.{after_event}
use Rattle.world_laws.proofs.Published.Chained.{Chained, home_there, same_there, there_of}
use Rattle.world_laws.proofs.Published.ClientCounts.{SameCount, cell_taken, get_most, get_none, go_count, reconnect_count}
use Rattle.world_laws.proofs.Published.ClientPackets.{Told}
use Rattle.world_laws.proofs.Published.PaidReceipts.{FewOut, shape_few, zero_outs}
use Rattle.world_laws.proofs.Published.PublishedRuns.{chained_kept}
use Rattle.world_laws.proofs.Published.ReceiptCounts.{Counted, broker_counted, count, counted_broker, counted_discarded, counted_next, counted_taken, one, outs, positioned, receipt_in}
use Rattle.world_laws.proofs.Replicating.Pairs.{discarded_cell}
use Rattle.world_laws.proofs.Snapshotting.Grows.{Grown, Lengthened, grown_does, grown_halts, grown_stops, grown_written}
use Rattle.world_laws.proofs.Walks.EventWalk.{HasShape, planned_shape}
use Rattle.world_laws.proofs.Walks.Shapes.{Shape}
use Rattle.world_laws.proofs.Walks.Walk.{on_if}

-- ---- entries

more_its : (d : Declared) (es more : List Entry) → length (filter (is_produced_by d) es) ≤ length (filter (is_produced_by d) (es ++ more))
more_its d es more =
    let a = ap length (filter-append (is_produced_by d) es more) in let b = length-append (filter (is_produced_by d) es) (filter (is_produced_by d) more) in omega (arith, a, b)

one_its : (d : Declared) (es : List Entry) (e : Entry) → is_produced_by d e ≡ true → length (filter (is_produced_by d) (es ++ e ∷ [])) ≡ length (filter (is_produced_by d) es) + 1
one_its d es e its =
    let a = ap length (filter-append (is_produced_by d) es (e ∷ []) ∙ ap (λ (b : Bool). filter (is_produced_by d) es ++ cond b (e ∷ []) []) its) in
    let b = length-append (filter (is_produced_by d) es) (e ∷ []) in omega (arith, a, b)

longer_its : (d : Declared) (b b' : Broker) → Lengthened b b' → length (filter (is_produced_by d) b.entries) ≤ length (filter (is_produced_by d) b'.entries)
longer_its d b b' g = subst (λ (es : List Entry). length (filter (is_produced_by d) b.entries) ≤ length (filter (is_produced_by d) es)) (sym g.is) (more_its d b.entries g.more)

-- ---- one client

-- what a client counted was taken, and what was sent to it is paid by its entries
record Counts (s : Setup) (c : ℕ) (w : World) : Type 0 where
  seen : Counted (client_at s w c).receipts (cell w.links.to_client c (declared_at s c).cluster)
  few : count (SentDown w.links c (declared_at s c).cluster) ≤ length (filter (is_produced_by (declared_at s c)) (topic_at s w (declared_at s c).topic (declared_at s c).cluster).entries)

-- an event of a broker: what is sent is paid by what is stored
paid : (s : Setup) (c : ℕ) (w : World) (p : Planned) → FewOut s c p.topic p.cluster p.plan → (b' : Broker) → let d = declared_at s c in Lengthened (topic_at s w d.topic d.cluster) b'
    → (p.topic ≡ d.topic → p.cluster ≡ d.cluster → done s.per_ledger (topic_at s w p.topic p.cluster) p.plan ≡ b') → (n : ℕ)
    → n ≤ length (filter (is_produced_by d) (topic_at s w d.topic d.cluster).entries) + outs c p.plan.sent → n ≤ length (filter (is_produced_by d) b'.entries)
paid s c w p few b' g same n le =
    let d = declared_at s c in let b = topic_at s w d.topic d.cluster in
    elim few [
      | inl zeros ↦ let z = zero_outs c p.plan.sent zeros in let l = longer_its d b b' g in omega (arith, le, z, l)
      | inr one ↦
          let here : topic_at s w p.topic p.cluster ≡ b = ap (λ (t : ℕ). topic_at s w t p.cluster) one.topic ∙ ap (λ (x : ℕ). topic_at s w d.topic x) one.cluster in
          let entries : b'.entries ≡ b.entries ++ one.entry ∷ [] =
          ap (λ (q : Broker). q.entries) (sym (same one.topic one.cluster)) ∙ done_entries s.per_ledger (topic_at s w p.topic p.cluster) p.plan
          ∙ ap (λ (ws : List Write). after_writes (topic_at s w p.topic p.cluster).entries ws) one.writes ∙ ap (λ (q : Broker). q.entries ++ one.entry ∷ []) here in
          let more = one_its d b.entries one.entry one.its in let most = one.most in
          subst (λ (es : List Entry). n ≤ length (filter (is_produced_by d) es)) (sym entries) (omega (arith, le, most, more))
    ]

does_counts : (s : Setup) (c : ℕ) (w : World) (p : Planned) → IsScripted s → c < length s.clients → Shape s w p → Chained s w → Grown s w (broker_does s w p) → Counts s c w → Counts s c (broker_does s w p)
unfolding broker_does
does_counts s c w p scripted lt shape g grown h =
    let d = declared_at s c in let x = d.cluster in let there = home_there s scripted c lt in
    let Goal : World → Type 0 = λ w'. Grown s w w' → Counts s c w' in
    let stamp = next_stamp (slice_index w.broker_clocks (node s p.topic p.cluster)) (packet_at w.links p.takes) in
    on_if Goal p.plan.idle (idles w) (after_event s w p) (λ grown. record { seen = h.seen; few = h.few })
    (λ grown. record {
      seen = counted_broker s p.topic p.cluster stamp c x (client_at s w c).receipts p.takes p.plan.sent w.links h.seen;
      few =
          subst (λ (ps : List Packet). count ps ≤ length (filter (is_produced_by d) (topic_at s (after_event s w p) d.topic x).entries))
          (sym (taken_down p.takes (delivered (from_broker s p.topic p.cluster) stamp p.plan.sent w.links) c x))
          (paid s c w p (shape_few s w c p shape (λ i y. (g.clients i).up y)) (topic_at s (after_event s w p) d.topic x) (grown d.topic x there)
          (λ e e'. same_there s w p.topic p.cluster d.topic x (done s.per_ledger (topic_at s w p.topic p.cluster) p.plan) g.ground.0.0.sized there e e') _
          (broker_counted s p.topic p.cluster stamp c x (length (filter (is_produced_by d) (topic_at s w d.topic x).entries)) p.plan.sent w.links h.few));
    }) grown

halts_counts : (s : Setup) (c : ℕ) (w : World) (n : ℕ) (p : Planned) → IsScripted s → c < length s.clients → Grown s w (broker_halts s w n p) → Counts s c w → Counts s c (broker_halts s w n p)
unfolding broker_halts
halts_counts s c w n p scripted lt grown h =
    let d = declared_at s c in let x = d.cluster in
    let longer = longer_its d (topic_at s w d.topic x) (topic_at s (broker_halts s w n p) d.topic x) (grown d.topic x (home_there s scripted c lt)) in
    let few = h.few in
    record {
      seen = counted_taken c x (client_at s w c).receipts p.takes w.links h.seen;
      few = subst (λ (ps : List Packet). count ps ≤ length (filter (is_produced_by d) (topic_at s (broker_halts s w n p) d.topic x).entries)) (sym (halts_down c x p.takes w.links)) (omega (arith, few, longer));
    }

-- ---- an event of client z

client_counts : (s : Setup) (c : ℕ) (w : World) (z : ℕ) (takes : Option LinkName) (a : Acted)
    → (z ≡ c → Counted a.client.receipts (cell (taken_from takes w.links).to_client c (declared_at s c).cluster)) → Counts s c w → Counts s c (client_does s w z takes a)
unfolding client_does
client_counts s c w z takes a new h =
    let d = declared_at s c in let x = d.cluster in let stamp = next_stamp (slice_index w.client_clocks z) (packet_at w.links takes) in
    on_if (Counts s c) a.idle _ _ (record { seen = h.seen; few = h.few }) (record {
      seen =
          subst (λ (m : List (List Link)). Counted (slice_index_or (slice_set w.clients z a.client) c (new_client d)).receipts (cell m c x)) (sym (client_down z stamp a.sent (taken_from takes w.links)))
          (at_set (λ (k : Client). Counted k.receipts (cell (taken_from takes w.links).to_client c x)) w.clients z c a.client (new_client d) new (counted_taken c x (client_at s w c).receipts takes w.links h.seen));
      few =
          subst (λ (ps : List Packet). count ps ≤ length (filter (is_produced_by d) (topic_at s w d.topic x).entries)) (sym (acts_down z stamp c x takes a.sent w.links)) h.few;
    })

same_counted : (k j : Client) (l : Link) → SameCount k j → Counted k.receipts l → Counted j.receipts l
same_counted k j l same h = subst (λ (n : ℕ). Counted n l) (sym same.is) h

-- what a get counts: the packet is of the client's own cluster, or no receipt with a position
get_counted : (s : Setup) (c : ℕ) (w : World) → IsScripted s → c < length s.clients → Chained s w → Counts s c w
    → let d = declared_at s c in let k = client_at s w c in let link = ToClient c k.cluster in
    (o : Option Packet) → next_packet (link_at w.links link) ≡ o → Counted (get d k o).client.receipts (cell (taken_from (Some link) w.links).to_client c d.cluster)
get_counted s c w scripted lt g h None next =
    let k = client_at s w c in
    subst (λ (n : ℕ). Counted n (cell (taken_from (Some (ToClient c k.cluster)) w.links).to_client c (declared_at s c).cluster)) (sym (get_none (declared_at s c) k))
    (counted_taken c (declared_at s c).cluster k.receipts (Some (ToClient c k.cluster)) w.links h.seen)
get_counted s c w scripted lt g h (Some q) next = by (positioned q.frame) refl
  where
    d : Declared
    d = declared_at s c

    k : Client
    k = client_at s w c

    y : ℕ
    y = k.cluster

    after : Links
    after = taken_from (Some (ToClient c y)) w.links

    most : (get d k (Some q)).client.receipts ≤ k.receipts + one (positioned q.frame)
    most = get_most d k q

    told : Told d y (topic_at s w d.topic y) q.session q.frame
    told =
        each_at_place (λ (p : Packet). Told d y (topic_at s w d.topic y) p.session p.frame) (SentDown w.links c y) (link_at w.links (ToClient c y)).taken q
        ((g.clients c).down y (there_of s scripted c y lt (ltb-true _ _ ((g.clients c).cluster lt)))) next

    home : (b : Broker) (f : Frame) → positioned f ≡ true → Told d y b q.session f → y ≡ d.cluster
    home b (frame.SendReceipt id n o) is t = t.0.0
    home b f is t = absurd (false≢true is)

    by : (t : Bool) → positioned q.frame ≡ t → Counted (get d k (Some q)).client.receipts (cell after.to_client c d.cluster)
    by true is =
        let here = home (topic_at s w d.topic y) q.frame is told in
        let old : Counted k.receipts (cell w.links.to_client c y) = subst (λ (v : ℕ). Counted k.receipts (cell w.links.to_client c v)) (sym here) h.seen in
        let new = counted_next k.receipts (cell w.links.to_client c y) q next old in
        let at : Counted (k.receipts + one (positioned q.frame)) (cell after.to_client c y) =
        subst (Counted (k.receipts + one (positioned q.frame))) (sym (cell_taken w.links.to_client c y (took (cell w.links.to_client c y)) q next)) new in
        let there = subst (λ (v : ℕ). Counted (k.receipts + one (positioned q.frame)) (cell after.to_client c v)) here at in
        let m = most in omega (arith, m, there)
    by false is =
        let old = counted_taken c d.cluster k.receipts (Some (ToClient c y)) w.links h.seen in
        let none = ap one is in let m = most in omega (arith, m, none, old)

-- ---- worlds

AllCounts : Setup → World → Type 0
AllCounts s w = (c : ℕ) → c < length s.clients → Counts s c w

idle_counts : (s : Setup) (w : World) (n c : ℕ) → Counts s c w → Counts s c (record w { idle = n })
idle_counts s w n c h = record { seen = h.seen; few = h.few }

planned_counts : (s : Setup) (w : World) (o : Option Planned) → IsScripted s → HasShape s w o → Chained s w → (c : ℕ) → c < length s.clients → Counts s c w → Counts s c (does_planned s w o)
planned_counts s w None scripted shape g c lt h = idle_counts s w (w.idle + 1) c h
planned_counts s w (Some p) scripted shape g c lt h = does_counts s c w p scripted lt shape g (grown_does s w p shape g.ground.1) h

halted_counts : (s : Setup) (w : World) (n : ℕ) (o : Option Planned) → IsScripted s → HasShape s w o → Chained s w → (c : ℕ) → c < length s.clients → Counts s c w → Counts s c (halts_planned s w n o)
halted_counts s w n None scripted shape g c lt h = idle_counts s w (w.idle + 1) c h
halted_counts s w n (Some p) scripted shape g c lt h = halts_counts s c w n p scripted lt (grown_halts s w n p shape g.ground.1) h

event_counts : (s : Setup) (w : World) (e : Event) → IsScripted s → Chained s w → (c : ℕ) → c < length s.clients → Counts s c w → Counts s c (happens s w e)
unfolding happens
event_counts s w (event.Go z) scripted g c lt h =
    on_if (Counts s c) (has_client s z) _ _
    (client_counts s c w z None _
    (λ same. subst (λ (i : ℕ). Counted (go s (declared_at s i) (client_at s w i)).client.receipts (cell w.links.to_client c (declared_at s c).cluster)) (sym same)
    (same_counted (client_at s w c) _ (cell w.links.to_client c (declared_at s c).cluster) (go_count s (declared_at s c) (client_at s w c)) h.seen)) h) (idle_counts s w (w.idle + 1) c h)
event_counts s w (event.Reconnect z) scripted g c lt h =
    on_if (Counts s c) (has_client s z) _ _
    (client_counts s c w z None _
    (λ same. subst (λ (i : ℕ). Counted (reconnect s (declared_at s i) (client_at s w i)).client.receipts (cell w.links.to_client c (declared_at s c).cluster)) (sym same)
    (same_counted (client_at s w c) _ (cell w.links.to_client c (declared_at s c).cluster) (reconnect_count s (declared_at s c) (client_at s w c)) h.seen)) h) (idle_counts s w (w.idle + 1) c h)
event_counts s w (event.Get z) scripted g c lt h =
    on_if (Counts s c) (has_client s z) _ _
    (client_counts s c w z (Some (ToClient z (client_at s w z).cluster)) _
    (λ same.
    let P : ℕ → Type 0 = λ i. let link = ToClient i (client_at s w i).cluster in
    Counted (get (declared_at s i) (client_at s w i) (next_packet (link_at w.links link))).client.receipts (cell (taken_from (Some link) w.links).to_client c (declared_at s c).cluster) in
    subst P (sym same) (get_counted s c w scripted lt g h (next_packet (link_at w.links (ToClient c (client_at s w c).cluster))) refl)) h) (idle_counts s w (w.idle + 1) c h)
event_counts s w e scripted g c lt h = planned_counts s w (planned s w e) scripted (planned_shape s w e) g c lt h

stop_counts : (s : Setup) (w : World) → IsScripted s → Chained s w → (c : ℕ) → c < length s.clients → Counts s c w → Counts s c (stops s w)
unfolding stops
stop_counts s w scripted g c lt h =
    let d = declared_at s c in let x = d.cluster in let few = h.few in
    let longer = longer_its d (topic_at s w d.topic x) (topic_at s (stops s w) d.topic x) (grown_stops s w g.ground.0.0.sized g.ground.1 d.topic x (home_there s scripted c lt)) in
    record {
      seen =
          subst (Counted (client_at s (stops s w) c).receipts) (sym (discarded_cell w.links.to_client c x))
          (counted_discarded (client_at s (stops s w) c).receipts (cell w.links.to_client c x)
          (at_map (λ (k : Client). Counted k.receipts (cell w.links.to_client c x)) unconnected (λ k p. p) w.clients c (new_client d) (omega arith) h.seen));
      few = subst (λ (ps : List Packet). count ps ≤ length (filter (is_produced_by d) (topic_at s (stops s w) d.topic x).entries)) (sym (stops_down s w c x)) (omega (arith, few, longer));
    }

opening_counts : (s : Setup) (c : ℕ) → Counts s c (opening_world s)
opening_counts s c =
    let d = declared_at s c in let none = ap (λ (k : Client). k.receipts) (opening_client s.clients c) in
    record {
      seen = omega (arith, none);
      few = table_has (λ (l : Link). count l.sent ≤ length (filter (is_produced_by d) (topic_at s (opening_world s) d.topic d.cluster).entries)) (length s.clients) (length s.clusters) c d.cluster (omega arith);
    }

abbrev Both : Setup → World → Type 0
Both s w = Chained s w × AllCounts s w

both_kept : (s : Setup) → IsScripted s → IsKeptByEvents s (Both s)
unfolding AllCounts
both_kept s scripted = let k = chained_kept s scripted in record {
  opening = (k.opening, λ c lt. opening_counts s c);
  idle = λ w n h. (k.idle w n h.0, λ c lt. idle_counts s w n c (h.1 c lt));
  round = λ w n h. (k.round w n h.0, λ c lt. record { seen = (h.1 c lt).seen; few = (h.1 c lt).few });
  event = λ w e h. (k.event w e h.0, λ c lt. event_counts s w e scripted h.0 c lt (h.1 c lt));
  halts = λ w n e h. (k.halts w n e h.0, λ c lt. halted_counts s w n (planned s w e) scripted (planned_shape s w e) h.0 c lt (h.1 c lt));
  stop = λ w h. (k.stop w h.0, λ c lt. stop_counts s w scripted h.0 c lt (h.1 c lt));
}

few_receipts : (s : Setup) (w : World) → AllCounts s w → FewReceipts s w
unfolding AllCounts
few_receipts s w h c lt =
    let l = cell w.links.to_client c (declared_at s c).cluster in
    let a = (h c lt).seen in let b = sum_by-take-le receipt_in l.sent l.taken in let few = (h c lt).few in omega (arith, a, b, few)

few_written : (s : Setup) (w : World) (n : ℕ) (p : Planned) → IsScripted s → Grown s w (partly_written s w n (Some p)) → AllCounts s w → FewReceipts s (partly_written s w n (Some p))
unfolding AllCounts
few_written s w n p scripted grown h c lt =
    let d = declared_at s c in let x = d.cluster in
    let old = few_receipts s w h c lt in
    let longer = longer_its d (topic_at s w d.topic x) (topic_at s (partly_written s w n (Some p)) d.topic x) (grown d.topic x (home_there s scripted c lt)) in omega (arith, old, longer)

pub counted_always : LawCounted
counted_always s scripted =
    always_by_events s (Both s) (FewReceipts s) (both_kept s scripted) (λ w h. few_receipts s w h.1)
    (λ w n p shape h. few_written s w n p scripted (grown_written s w n p shape h.0.ground.1) h.1)
