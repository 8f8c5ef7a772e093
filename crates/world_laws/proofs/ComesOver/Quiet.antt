-- In a quiet world no packet is under way on a link between clusters, and a replicator whose session is open has nothing left to read.
use Rattle.std.proofs.Common.{◌≡◌, ℕ, zero, suc, ◌+◌, ◌-◌, ◌<◌, ◌≤◌, Bool, true, false, List, [], ◌∷◌, length, refl, sym, ap, subst, ◌∙◌, ◌==◌, arith}
use Rattle.std.specs.Prelude.{Option, Some, None, ◌&&◌, if◌then◌else◌, slice_get}
use Rattle.std.specs.List.{list_all}
use Rattle.std.proofs.lemmas.Bool.{eqb-true, false≢true}
use Rattle.std.proofs.lemmas.Bool.Decides.{nat_tests}
use Rattle.std.proofs.lemmas.Option.{none-some, same_Some}
use Rattle.world_laws.proofs.Types.{SnapshotBuilder, ClusterPosition, Content, Entry, Marker, Packet, Progress, ReplicatorState}
use Rattle.world_laws.proofs.Types.change
use Rattle.world_laws.proofs.Types.content
use Rattle.world_laws.proofs.Types.event
use Rattle.world_laws.proofs.Types.fate
use Rattle.world_laws.proofs.Types.marker
use Rattle.world_laws.proofs.Types.progress
use Rattle.world_laws.proofs.Types.replicator_state
use Rattle.geo_base.specs.Broker.{Broker, Site, replicator_at, sub_named}
use Rattle.geo_base.specs.SnapshotBuilder.{on_response}
use Rattle.geo_base.specs.Cursor.{has, next_open}
use Rattle.geo_base.specs.Entry.{is_outbound, means_cluster}
use Rattle.geo_base.specs.Forwarding.{is_remote, receipt, take_packet}
use Rattle.geo_base.specs.Happening.{broker_does, does_planned, happens, idles}
use Rattle.geo_base.specs.Laws.{ArePair}
use Rattle.geo_base.specs.Link.{next_packet}
use Rattle.geo_base.specs.Markers.{after_response, heard_from, read_content, read_marker, read_response}
use Rattle.geo_base.specs.Name.{is_name}
use Rattle.geo_base.specs.Plan.{Plan, idle_plan}
use Rattle.geo_base.specs.Planned.{Planned}
use Rattle.geo_base.specs.Reading.{forwards, read, read_at, read_entry}
use Rattle.geo_base.specs.Run.{Pair, is_idle, is_quiet, pairs, round_of}
use Rattle.geo_base.specs.Replicator.{index_to_read}
use Rattle.geo_base.specs.Setup.{Setup}
use Rattle.geo_base.specs.Subscribing.{has_room}
use Rattle.geo_base.specs.Topic.{position_at}
use Rattle.geo_base.specs.Updating.{handled, only_index, updated_indexes, update_writes, positions_for, read_update}
use Rattle.geo_base.specs.World.{Back, Forward, World, link_at, node, site, topic_at}
use Rattle.world_laws.proofs.Replicating.Cursors.{next_is}
use Rattle.world_laws.proofs.Walks.LinkWalk.{answered_acts, frame_taken, packet_answered, taken_acts}
use Rattle.world_laws.proofs.ComesOver.LiveStarts.{pair_in_range, pair_of, pair_stands, planned_is, remote}
use Rattle.world_laws.proofs.Budget.Lowering.{IsPair}
use Rattle.world_laws.proofs.ComesOver.Waiting.{past_end}
use Rattle.world_laws.proofs.Walks.Walk.{left, on_found, on_if, on_true, right}

-- each event of a pair is idle
record AreIdle (s : Setup) (w : World) (t x y : ℕ) : Type 0 where
  take : is_idle s w (event.Take t x y fate.Good) ≡ true
  receipt : is_idle s w (event.Receipt t x y fate.Good) ≡ true
  read : is_idle s w (event.Read t x y) ≡ true

are_idle : (s : Setup) (w : World) (t x y : ℕ) (ps : List Pair) (i : ℕ) → slice_get ps i ≡ Some (pair_of t x y) → list_all (is_idle s w) (round_of ps) ≡ true
    → AreIdle s w t x y
are_idle s w t x y [] i is quiet = absurd (none-some (pair_of t x y) is)
are_idle s w t x y (p ∷ ps) zero is quiet =
    let take = is_idle s w (event.Take p.topic p.source p.target fate.Good) in
    let receipt = is_idle s w (event.Receipt p.topic p.source p.target fate.Good) in
    let read = is_idle s w (event.Read p.topic p.source p.target) in
    let rest = list_all (is_idle s w) (round_of ps) in
    let second = right take (receipt && (read && rest)) quiet in
    let third = right receipt (read && rest) second in
    let A : Pair → Type 0 = λ q. AreIdle s w q.topic q.source q.target in
    subst A (same_Some _ _ is) (record { take = left take (receipt && (read && rest)) quiet; receipt = left receipt (read && rest) second; read = left read rest third })
are_idle s w t x y (p ∷ ps) (suc i) is quiet =
    let take = is_idle s w (event.Take p.topic p.source p.target fate.Good) in
    let receipt = is_idle s w (event.Receipt p.topic p.source p.target fate.Good) in
    let read = is_idle s w (event.Read p.topic p.source p.target) in
    let rest = list_all (is_idle s w) (round_of ps) in
    are_idle s w t x y ps i is (right read rest (right receipt (read && rest) (right take (receipt && (read && rest)) quiet)))

-- an event that counts is not idle
counted : (b : Bool) (u v : World) (n : ℕ) → v.events ≡ n + 1 → ((if b then u else v).events == n) ≡ true → b ≡ true
counted true u v n more h = refl
counted false u v n more h = let is = eqb-true v.events n h in absurd (omega (arith, more, is))

pub plan_idles : (s : Setup) (w : World) (p : Planned) → ((broker_does s w p).events == w.events) ≡ true → p.plan.idle ≡ true
unfolding broker_does
plan_idles s w p h = counted p.plan.idle (idles w) _ w.events refl h

take_idles : (s : Setup) (w : World) (t x y : ℕ) → IsPair s t x y → is_idle s w (event.Take t x y fate.Good) ≡ true
    → (take_packet (site s t y) (topic_at s w t y) x fate.Good (next_packet (link_at w.links (Forward (node s t x) y)))).idle ≡ true
unfolding happens
take_idles s w t x y is idle =
    let e = event.Take t x y fate.Good in
    let P : Option Planned → Type 0 = λ o. ((does_planned s w o).events == w.events) ≡ true in
    plan_idles s w
    (record {
      topic = t;
      cluster = y;
      takes = Some (Forward (node s t x) y);
      plan = take_packet (site s t y) (topic_at s w t y) x fate.Good (next_packet (link_at w.links (Forward (node s t x) y)));
    })
    (subst P (planned_is s w e (pair_in_range s t x y is)) idle)

receipt_idles : (s : Setup) (w : World) (t x y : ℕ) → IsPair s t x y → is_idle s w (event.Receipt t x y fate.Good) ≡ true
    → (receipt (site s t x) (topic_at s w t x) y fate.Good (next_packet (link_at w.links (Back (node s t x) y)))).idle ≡ true
unfolding happens
receipt_idles s w t x y is idle =
    let e = event.Receipt t x y fate.Good in
    let P : Option Planned → Type 0 = λ o. ((does_planned s w o).events == w.events) ≡ true in
    plan_idles s w
    (record {
      topic = t;
      cluster = x;
      takes = Some (Back (node s t x) y);
      plan = receipt (site s t x) (topic_at s w t x) y fate.Good (next_packet (link_at w.links (Back (node s t x) y)));
    })
    (subst P (planned_is s w e (pair_in_range s t x y is)) idle)

read_idles : (s : Setup) (w : World) (t x y : ℕ) → IsPair s t x y → is_idle s w (event.Read t x y) ≡ true → (read (site s t x) (topic_at s w t x) y).idle ≡ true
unfolding happens
read_idles s w t x y is idle =
    let e = event.Read t x y in
    let P : Option Planned → Type 0 = λ o. ((does_planned s w o).events == w.events) ≡ true in
    plan_idles s w (record { topic = t; cluster = x; takes = None; plan = read (site s t x) (topic_at s w t x) y })
    (subst P (planned_is s w e (pair_in_range s t x y is)) idle)

-- so no packet is next
none_taken : (h : Site) (b : Broker) (x : ℕ) (o : Option Packet) → (take_packet h b x fate.Good o).idle ≡ true → o ≡ None
unfolding take_packet
none_taken h b x None idle = refl
none_taken h b x (Some p) idle = absurd (false≢true (sym (taken_acts h b x p _ (frame_taken h b x p p.frame refl)) ∙ idle))

none_received : (h : Site) (b : Broker) (y : ℕ) (o : Option Packet) → (receipt h b y fate.Good o).idle ≡ true → o ≡ None
unfolding receipt
none_received h b y None idle = refl
none_received h b y (Some p) idle = absurd (false≢true (sym (answered_acts b y p _ (packet_answered b y p)) ∙ idle))

-- and no index is next: whatever stands there is handled
abbrev Acts : Plan → Type 0
Acts p = p.idle ≡ false

after_acts : (h : Site) (b : Broker) (y i : ℕ) (g : Progress) (u : SnapshotBuilder) → Acts (after_response h b y i g u)
after_acts h b y i progress.Ignored u = refl
after_acts h b y i progress.Kept u = refl
after_acts h b y i progress.SecondRound u = refl
after_acts h b y i progress.Done u = refl

response_acts : (h : Site) (b : Broker) (y i : ℕ) (id : List ℕ) (answer : ClusterPosition) (o : Option SnapshotBuilder) → Acts (read_response h b y i id answer o)
response_acts h b y i id answer None = refl
response_acts h b y i id answer (Some u) =
    on_if Acts (means_cluster y answer.cluster) (heard_from h b y i (on_response u id y answer.position (position_at b.ledgers i))) (handled y i [] [])
    (after_acts h b y i _ _) refl

update_acts : (h : Site) (b : Broker) (y i : ℕ) (n : List ℕ) (remote : List ClusterPosition) → Acts (read_update h b y i n remote)
update_acts h b y i n remote =
    on_found Acts (handled y i [] []) (only_index b.ledgers (positions_for h.own remote)) _ (λ _. refl)
    (λ j _.
    on_if Acts (is_name n && has_room b n) (handled y i (update_writes h b n (updated_indexes y 0 (j + 1) b.entries) (sub_named b.subs n)) (change.Acked n ∷ []))
    (handled y i [] []) refl refl)

marker_acts : (h : Site) (b : Broker) (y i : ℕ) (m : Marker) → Acts (read_marker h b y i m)
marker_acts h b y i (marker.Request id source) = refl
marker_acts h b y i (marker.Response id answer) = response_acts h b y i id answer b.builder
marker_acts h b y i (marker.Snapshot id local remote) = refl
marker_acts h b y i (marker.Update n remote) = update_acts h b y i n remote

content_acts : (h : Site) (b : Broker) (y i : ℕ) (c : Content) → Acts (read_content h b y i c)
content_acts h b y i (content.Marked m) = marker_acts h b y i m
content_acts h b y i content.Data = refl
content_acts h b y i (content.Unread kind) = refl

entry_acts : (h : Site) (b : Broker) (y i : ℕ) (e : Entry) → Acts (read_entry h b y i (Some e))
entry_acts h b y i e =
    on_if Acts (is_outbound h.own y e) (forwards h y (replicator_at b y) i e) (if e.ident.origin == y then read_content h b y i e.content else handled y i [] []) refl
    (on_if Acts (e.ident.origin == y) (read_content h b y i e.content) (handled y i [] []) (content_acts h b y i e.content) refl)

index_idles : (h : Site) (b : Broker) (y : ℕ) (o : Option ℕ) → ((i : ℕ) → o ≡ Some i → i < length b.entries) → (read_at h b y o).idle ≡ true → o ≡ None
index_idles h b y None within idle = refl
index_idles h b y (Some i) within idle = absurd (by (slice_get b.entries i) refl idle)
  where
    by : (e : Option Entry) → slice_get b.entries i ≡ e → (read_entry h b y i e).idle ≡ true → ⊥
    by None none idle = let le = past_end b.entries i none in let lt = within i refl in omega (arith, le, lt)
    by (Some e) is idle = false≢true (sym (entry_acts h b y i e) ∙ idle)

none_open : (set : List ℕ) (from more : ℕ) → next_open set from more ≡ None → (j : ℕ) → from ≤ j → j < from + more → has set j ≡ true
none_open set from zero none j low high = absurd (omega (arith, low, high))
none_open set from (suc more) none j low high = by (has set from) refl none (λ rest le. none_open set (from + 1) more rest j le (omega (arith, high)))
  where
    by : (b : Bool) → has set from ≡ b → (if b then next_open set (from + 1) more else Some from) ≡ None
        → (next_open set (from + 1) more ≡ None → from + 1 ≤ j → has set j ≡ true) → has set j ≡ true
    by false is none ih = absurd (none-some from (sym none))
    by true is none ih = at (from == j) refl
      where
        at : (c : Bool) → (from == j) ≡ c → has set j ≡ true
        at true e = ap (has set) (sym (eqb-true from j e)) ∙ is
        at false e = ih none (grind (arith, nat_tests, e, low))

all_read : (h : Site) (b : Broker) (y : ℕ) → is_remote h y ≡ true → (replicator_at b y).state ≡ replicator_state.Open → (replicator_at b y).read_index ≤ length b.entries
    → (read h b y).idle ≡ true → (j : ℕ) → (replicator_at b y).read_index ≤ j → j < length b.entries → has (replicator_at b y).cursor j ≡ true
unfolding read
all_read h b y remote state within idle j low high =
    let s = replicator_at b y in
    let n = length b.entries - s.read_index in
    let P : Plan → Type 0 = λ p. p.idle ≡ true in
    let o = next_open s.cursor s.read_index n in
    let next : index_to_read s.state s (length b.entries) ≡ o = ap (λ (u : ReplicatorState). index_to_read u s (length b.entries)) state in
    let at : (read_at h b y o).idle ≡ true =
    subst (λ (v : Option ℕ). (read_at h b y v).idle ≡ true) next
    (subst P (on_true (is_remote h y) (read_at h b y (index_to_read s.state s (length b.entries))) idle_plan remote) idle) in
    let inside : (i : ℕ) → o ≡ Some i → i < length b.entries = λ i is. let k = (next_is s.cursor s.read_index n i is).high in omega (arith, k, within) in
    none_open s.cursor s.read_index n (index_idles h b y o inside at) j low (omega (arith, high, within))

-- what a quiet world tells of a pair
pub record IsStill (s : Setup) (w : World) (t x y : ℕ) : Type 0 where
  pub forward : next_packet (link_at w.links (Forward (node s t x) y)) ≡ None
  pub back : next_packet (link_at w.links (Back (node s t x) y)) ≡ None
  pub read : (replicator_at (topic_at s w t x) y).state ≡ replicator_state.Open → (replicator_at (topic_at s w t x) y).read_index ≤ length (topic_at s w t x).entries
      → (j : ℕ) → (replicator_at (topic_at s w t x) y).read_index ≤ j → j < length (topic_at s w t x).entries → has (replicator_at (topic_at s w t x) y).cursor j ≡ true

pub pair_still : (s : Setup) (w : World) (t x y : ℕ) → IsPair s t x y → ArePair s x y → is_quiet s w ≡ true → IsStill s w t x y
pair_still s w t x y is pair quiet =
    let stands = pair_stands s t x y is.topic pair in
    let idle = are_idle s w t x y (pairs s) stands.place stands.is quiet in
    record {
      forward = none_taken (site s t y) (topic_at s w t y) x _ (take_idles s w t x y is idle.take);
      back = none_received (site s t x) (topic_at s w t x) y _ (receipt_idles s w t x y is idle.receipt);
      read = λ state within j low high.
          all_read (site s t x) (topic_at s w t x) y (remote s t x y is) state within (read_idles s w t x y is idle.read) j low high;
    }
