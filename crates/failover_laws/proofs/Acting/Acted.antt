-- An update is acted on by the time that it is acknowledged.
use Rattle.std.proofs.Common.{◌≡◌, zero, suc, ◌<◌, true, List, length, sym, subst, ◌∙◌, arith, inl, inr, ℕ}
use Rattle.std.specs.Prelude.{◌⊎◌, Option, Some, None, nat_lt, take}
use Rattle.std.proofs.lemmas.Bool.{false≢true, ltb-true}
use Rattle.world_laws.proofs.Types.{ClusterPosition, Entry, Event}
use Rattle.world_laws.proofs.Types.content
use Rattle.world_laws.proofs.Types.event
use Rattle.world_laws.proofs.Types.marker
use Rattle.geo_base.specs.Broker.{Broker, Site, replicator_at, sub_named}
use Rattle.geo_base.specs.Cursor.{has}
use Rattle.geo_base.specs.Happening.{halts_planned, happens, stops}
use Rattle.geo_base.specs.Laws.{ArePair, IsShort, MarkerAt}
use Rattle.geo_base.specs.Name.{is_name}
use Rattle.geo_base.specs.Planned.{Planned, planned}
use Rattle.geo_base.specs.Safe.{IsEntry}
use Rattle.geo_base.specs.Scripted.{IsScripted}
use Rattle.geo_base.specs.Setup.{Setup}
use Rattle.geo_base.specs.Subscribing.{has_room}
use Rattle.geo_base.specs.Subscription.{Subscription}
use Rattle.geo_base.specs.Updating.{positions_for}
use Rattle.geo_base.specs.World.{World, opening_world, site, topic_at}
use Rattle.world_laws.specs.Reached.{ReachedFrom}
use Rattle.world_laws.proofs.OnceInOrder.Members.{below_or}
use Rattle.world_laws.proofs.Replicating.Pairs.{Replicates}
use Rattle.world_laws.proofs.Replicating.Sizes.{node_there}
use Rattle.world_laws.proofs.Walks.Walk.{both, by_test}
use Rattle.failover_laws.specs.UpdatedTo.{HasUpdatedTo, MayUpdateTo, writes_to_update}
use Rattle.failover_laws.specs.Since.{Since, StaysAcknowledged}
use Rattle.failover_laws.specs.Switched.{ActsBefore, HasActed, HasRoomFrom, IsUnread, LawActs, LeftFrom}
use Rattle.failover_laws.proofs.Acting.Acking.{LeaveIndex}
use Rattle.failover_laws.proofs.Acting.ActingOn.{Acks, Awaits, event_acks, event_left, halts_left, NextIs, not_awaited, part_left, PartLeft, stop_left}
use Rattle.failover_laws.proofs.Acting.LeftRuns.{left_reached}
use Rattle.failover_laws.proofs.Acting.Named.{names_stored, next_within}
use Rattle.failover_laws.proofs.Behind.{absent, flip}
use Rattle.failover_laws.proofs.Covers.Known.{event_more, halt_more, known_at, reached_then, Standing, stop_more, tracing_at}
use Rattle.failover_laws.proofs.Lasting.{index_stays, since_keeps, still_passed}
use Rattle.failover_laws.proofs.Passed.{acting, halted_passes, planned_is, read_passes}

-- before the cursor is written nothing is acknowledged
too_few : (h : Site) (b : Broker) (a i k l : ℕ) (n : List ℕ) (j : ℕ) (o : Option Subscription) → k < writes_to_update o → LeaveIndex a i (take k (acting h b a l n j o).writes)
too_few h b a i zero l n j o lt = tt
too_few h b a i (suc k) l n j (Some v) lt = absurd (omega (arith, lt))
too_few h b a i (suc zero) l n j None lt = (tt, tt)
too_few h b a i (suc (suc k)) l n j None lt = absurd (omega (arith, lt))

-- what is fixed: an update e of a for n, of topic t, that y's replicator to a has not acknowledged in v
pub record IsWatched (s : Setup) (v : World) (t y a : ℕ) (n : List ℕ) (told : List ClusterPosition) (e : Entry) : Type 0 where
  pub scripted : IsScripted s
  pub reached : ReachedFrom s (opening_world s) v
  pub topic : t < length s.topics
  pub pair : ArePair s y a
  pub origin : e.ident.origin ≡ a
  pub is : e.content ≡ content.Marked (marker.Update n told)
  pub room : HasRoomFrom s v t y n
  pub unread : IsUnread s v t y a e

-- in a world that it comes to
record Here (s : Setup) (w : World) (t y a i : ℕ) (e : Entry) : Type 0 where
  standing : Standing s w
  replicates : Replicates s w
  awaits : Awaits s w t y a i

known_here : (s : Setup) (v w : World) (t y a i : ℕ) (n : List ℕ) (told : List ClusterPosition) (e : Entry) → IsWatched s v t y a n told e → ReachedFrom s v w → IsShort w
    → (i < length (topic_at s w t y).entries → IsEntry (topic_at s w t y) i e) → Here s w t y a i e
known_here s v w t y a i n told e q r short at =
    let all = reached_then s (opening_world s) v w q.reached r in
    let replicates : Replicates s w = (tracing_at s q.scripted w all).0.0.0.0.0.0.0 in
    let wide = (replicates.sized.wide t y (q.topic, q.pair.0)).replicators in let small = q.pair.1 in
    record {
      standing = known_at s q.scripted w all short;
      replicates = replicates;
      awaits = record {
        there = (q.topic, q.pair.0);
        size = omega (arith, wide, small);
        none = not_awaited s w t y a i e replicates q.topic q.pair at q.origin;
      };
    }

-- where it is read next it has an effect
may_pass : (s : Setup) (v w : World) (t y a i : ℕ) (n : List ℕ) (told : List ClusterPosition) (e : Entry) → IsWatched s v t y a n told e → LeftFrom s t y n v w → Standing s w
    → NextIs s w t y a i → IsEntry (topic_at s w t y) i e → (j : ℕ) × MayUpdateTo s w t y a n told j
may_pass s v w t y a i n told e q r h next at =
    let m : MarkerAt (topic_at s w t y) i a (marker.Update n told) = record { entry = e; stands = at; origin = q.origin; is = q.is } in
    let one = names_stored s w t y a y i n told h q.topic (flip s y a q.pair) q.pair.0 m in (
      one.index,
      record {
        next = record { topic = q.topic; pair = q.pair; index = i; reads = next; update = m };
        names = one.names;
        stands = one.stands;
        may = both (is_name n) (has_room (topic_at s w t y) n) one.name (q.room w r);
      },
    )

-- what was acted on stays so
still_acted : (s : Setup) (w w' : World) (t y a : ℕ) (n : List ℕ) (told : List ClusterPosition) → StaysAcknowledged n (topic_at s w t y) (topic_at s w' t y)
    → HasActed s w t y a n told → HasActed s w' t y a n told
still_acted s w w' t y a n told stays h = record {
  index = h.index;
  names = index_stays n (topic_at s w t y) (topic_at s w' t y) (positions_for y told) h.index stays h.names;
  passed = still_passed n (topic_at s w t y) (topic_at s w' t y) a h.index stays h.passed;
}

now_acted : (s : Setup) (w w' : World) (t y a j : ℕ) (n : List ℕ) (told : List ClusterPosition) → StaysAcknowledged n (topic_at s w t y) (topic_at s w' t y)
    → MayUpdateTo s w t y a n told j → HasUpdatedTo (topic_at s w' t y) n a j → HasActed s w' t y a n told
now_acted s w w' t y a j n told stays m passed =
    record { index = j; names = index_stays n (topic_at s w t y) (topic_at s w' t y) (positions_for y told) j stays m.names; passed = passed }

-- a world after one more thing that happens
record OneMore (s : Setup) (w w' : World) (t y a : ℕ) (n : List ℕ) (told : List ClusterPosition) (e : Entry) : Type 0 where
  stays : StaysAcknowledged n (topic_at s w t y) (topic_at s w' t y)
  does : (i : ℕ) → IsEntry (topic_at s w' t y) i e → has (replicator_at (topic_at s w' t y) a).cursor i ≡ true
      → (i < length (topic_at s w t y).entries → IsEntry (topic_at s w t y) i e)
      → (has (replicator_at (topic_at s w t y) a).cursor i ≡ true) ⊎ HasActed s w' t y a n told

still_acts : (s : Setup) (w w' : World) (t y a : ℕ) (n : List ℕ) (told : List ClusterPosition) (e : Entry) → t < length s.topics → ArePair s y a → Replicates s w
    → OneMore s w w' t y a n told e → ActsBefore s w t y a n told e → ActsBefore s w' t y a n told e
still_acts s w w' t y a n told e lt pair h step ih i at acked =
    let old : i < length (topic_at s w t y).entries → IsEntry (topic_at s w t y) i e = λ less. step.stays.same i e less at in
    elim (step.does i at acked old) [
      | inl was ↦ still_acted s w w' t y a n told step.stays (ih i (old ((h.pairs t y a lt pair).carried.within i was)) was)
      | inr acted ↦ acted
    ]

event_step : (s : Setup) (v w : World) (t y a : ℕ) (n : List ℕ) (told : List ClusterPosition) (e : Entry) (d : Event) → IsWatched s v t y a n told e → LeftFrom s t y n v w → IsShort w
    → StaysAcknowledged n (topic_at s w t y) (topic_at s (happens s w d) t y) → OneMore s w (happens s w d) t y a n told e
event_step s v w t y a n told e d q r short stays = record { stays = stays; does = λ i at acked old. by i acked old (known_here s v w t y a i n told e q (left_reached s t y n v w r) short old) }
  where
    Out : ℕ → Event → Type 0
    Out i d =
        StaysAcknowledged n (topic_at s w t y) (topic_at s (happens s w d) t y) → has (replicator_at (topic_at s (happens s w d) t y) a).cursor i ≡ true
        → (has (replicator_at (topic_at s w t y) a).cursor i ≡ true) ⊎ HasActed s (happens s w d) t y a n told

    go : (i : ℕ) (d : Event) → Here s w t y a i e → (i < length (topic_at s w t y).entries → IsEntry (topic_at s w t y) i e) → Acks s w t y a i d → Out i d
    go i d h old (Acks.Leaves d' l) stays acked = inl (event_left s w t y a i d h.awaits.size l acked)
    go i _ h old (Acks.ReadsIt next) stays acked =
        let m = may_pass s v w t y a i n told e q r h.standing next (old (next_within _ _ _ i next)) in
        inr (now_acted s w (happens s w (event.Read t y a)) t y a m.0 n told stays m.1 (read_passes s w t y a n told m.0 m.1))

    by : (i : ℕ) → has (replicator_at (topic_at s (happens s w d) t y) a).cursor i ≡ true → (i < length (topic_at s w t y).entries → IsEntry (topic_at s w t y) i e) → Here s w t y a i e
        → (has (replicator_at (topic_at s w t y) a).cursor i ≡ true) ⊎ HasActed s (happens s w d) t y a n told
    by i acked old h = go i d h old (event_acks s w t y a i h.awaits d) stays acked

halt_step : (s : Setup) (v w : World) (t y a k : ℕ) (n : List ℕ) (told : List ClusterPosition) (e : Entry) (d : Event) → IsWatched s v t y a n told e → LeftFrom s t y n v w → IsShort w
    → StaysAcknowledged n (topic_at s w t y) (topic_at s (halts_planned s w k (planned s w d)) t y) → OneMore s w (halts_planned s w k (planned s w d)) t y a n told e
halt_step s v w t y a k n told e d q r short stays = record { stays = stays; does = λ i at acked old. by i acked old (known_here s v w t y a i n told e q (left_reached s t y n v w r) short old) }
  where
    End : Event → World
    End d = halts_planned s w k (planned s w d)

    Out : ℕ → Event → Type 0
    Out i d =
        StaysAcknowledged n (topic_at s w t y) (topic_at s (End d) t y) → has (replicator_at (topic_at s (End d) t y) a).cursor i ≡ true
        → (has (replicator_at (topic_at s w t y) a).cursor i ≡ true) ⊎ HasActed s (End d) t y a n told

    go : (i : ℕ) (d : Event) → Here s w t y a i e → (i < length (topic_at s w t y).entries → IsEntry (topic_at s w t y) i e) → Acks s w t y a i d → Out i d
    go i d h old (Acks.Leaves d' l) stays acked = inl (halts_left s w t y a i k (planned s w d) h.awaits.size (part_left k s t y a i (planned s w d) l) acked)
    go i _ h old (Acks.ReadsIt next) stays acked =
        let m = may_pass s v w t y a i n told e q r h.standing next (old (next_within _ _ _ i next)) in
        elim (below_or k (writes_to_update (sub_named (topic_at s w t y).subs n))) [
          | inl few ↦
              inl (halts_left s w t y a i k (planned s w (event.Read t y a)) h.awaits.size
              (subst (λ (o : Option Planned). PartLeft k s t y a i o) (sym (planned_is s w t y a n told m.0 m.1))
              (λ same. too_few (site s t y) (topic_at s w t y) a i k m.1.next.index n m.0 (sub_named (topic_at s w t y).subs n) few)) acked)
          | inr enough ↦ inr (now_acted s w (End (event.Read t y a)) t y a m.0 n told stays m.1 (halted_passes s w t y a n told m.0 k m.1 enough))
        ]

    by : (i : ℕ) → has (replicator_at (topic_at s (End d) t y) a).cursor i ≡ true → (i < length (topic_at s w t y).entries → IsEntry (topic_at s w t y) i e) → Here s w t y a i e
        → (has (replicator_at (topic_at s w t y) a).cursor i ≡ true) ⊎ HasActed s (End d) t y a n told
    by i acked old h = go i d h old (event_acks s w t y a i h.awaits d) stays acked

stop_step : (s : Setup) (v w : World) (t y a : ℕ) (n : List ℕ) (told : List ClusterPosition) (e : Entry) → IsWatched s v t y a n told e → LeftFrom s t y n v w → IsShort w
    → StaysAcknowledged n (topic_at s w t y) (topic_at s (stops s w) t y) → OneMore s w (stops s w) t y a n told e
stop_step s v w t y a n told e q r short stays = record {
  stays = stays;
  does = λ i at acked old.
      let h = known_here s v w t y a i n told e q (left_reached s t y n v w r) short old in
      inl (stop_left s w t y a i (node_there s w t y h.replicates.sized (q.topic, q.pair.0)) h.awaits.size acked);
}

pub acts_on : (s : Setup) (v : World) (t y a : ℕ) (n : List ℕ) (told : List ClusterPosition) (e : Entry) → IsWatched s v t y a n told e → (w : World) → LeftFrom s t y n v w → IsShort w
    → ActsBefore s w t y a n told e
acts_on s v t y a n told e q _ LeftFrom.Starting short = λ i at acked. absurd (false≢true (sym (q.unread i at) ∙ acked))
acts_on s v t y a n told e q _ (LeftFrom.AfterEvent w d left r) short =
    let more = event_more s w d in
    let was : IsShort w = omega (arith, more, short) in
    let path = left_reached s t y n v w r in
    still_acts s w (happens s w d) t y a n told e q.topic q.pair (tracing_at s q.scripted w (reached_then s (opening_world s) v w q.reached path)).0.0.0.0.0.0.0
    (event_step s v w t y a n told e d q r was (since_keeps s t y n w (happens s w d) (Since.AfterEvent w d left Since.Starting))) (acts_on s v t y a n told e q w r was)
acts_on s v t y a n told e q _ (LeftFrom.AfterHalt w k d left r) short =
    let more = halt_more s w k (planned s w d) in
    let was : IsShort w = omega (arith, more, short) in
    let path = left_reached s t y n v w r in
    still_acts s w (halts_planned s w k (planned s w d)) t y a n told e q.topic q.pair (tracing_at s q.scripted w (reached_then s (opening_world s) v w q.reached path)).0.0.0.0.0.0.0
    (halt_step s v w t y a k n told e d q r was (since_keeps s t y n w (halts_planned s w k (planned s w d)) (Since.AfterHalt w k d left Since.Starting)))
    (acts_on s v t y a n told e q w r was)
acts_on s v t y a n told e q _ (LeftFrom.AfterStop w r) short =
    let more = stop_more s w in
    let was : IsShort w = omega (arith, more, short) in
    let path = left_reached s t y n v w r in
    still_acts s w (stops s w) t y a n told e q.topic q.pair (tracing_at s q.scripted w (reached_then s (opening_world s) v w q.reached path)).0.0.0.0.0.0.0
    (stop_step s v w t y a n told e q r was (since_keeps s t y n w (stops s w) (Since.AfterStop w Since.Starting))) (acts_on s v t y a n told e q w r was)
acts_on s v t y a n told e q _ (LeftFrom.Idling w k r) short = λ i at acked. let h = acts_on s v t y a n told e q w r short i at acked in record { index = h.index; names = h.names; passed = h.passed }
acts_on s v t y a n told e q _ (LeftFrom.AfterRound w k r) short = λ i at acked. let h = acts_on s v t y a n told e q w r short i at acked in record { index = h.index; names = h.names; passed = h.passed }

pub acts_law : LawActs
acts_law s scripted v w t y a k n told reached path short pair room m unread =
    by_test (nat_lt t (length s.topics))
    (λ lt.
    acts_on s v t y a n told m.entry
    (record { scripted = scripted; reached = reached; topic = ltb-true _ _ lt; pair = pair; origin = m.origin; is = m.is; room = room; unread = unread }) w path short)
    (λ past. absurd (absent s w t a k m.entry (known_at s scripted w (reached_then s (opening_world s) v w reached (left_reached s t y n v w path)) short).knows past m.stands))
