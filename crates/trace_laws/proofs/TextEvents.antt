-- Each item of an event is told whole by its line.
use Rattle.std.proofs.Common.{◌≡◌, ℕ, zero, suc, ◌*◌, ◌<◌, ◌≤◌, List, [], ◌∷◌, ◌++◌, length, All, take, refl, ap, ◌∙◌, subst, arith, length-append}
use Rattle.std.specs.Prelude.{Option, Some, None, slice_index_or, slice_set}
use Rattle.world_laws.proofs.Types.{ClusterPosition, Content, Entry, Event, Marker, Write}
use Rattle.world_laws.proofs.Types.content
use Rattle.world_laws.proofs.Types.marker
use Rattle.world_laws.proofs.Types.write
use Rattle.geo_base.specs.declared.planned.Cause.{Cause}
use Rattle.geo_base.specs.Broker.{Broker, no_broker, written}
use Rattle.geo_base.specs.Laws.{IsShort}
use Rattle.geo_base.specs.Moments.{partly_written}
use Rattle.geo_base.specs.Plan.{all_written}
use Rattle.geo_base.specs.Planned.{Planned, planned}
use Rattle.geo_base.specs.Scripted.{IsScripted}
use Rattle.geo_base.specs.Setup.{Setup}
use Rattle.geo_base.specs.Traced.{cause_of, planned_items}
use Rattle.geo_base.specs.World.{World, node, topic_at}
use Rattle.script_rows.specs.NameWords.{Word}
use Rattle.script_text.specs.Scenario.{IsClient}
use Rattle.world_laws.specs.Plain.{AreClusters, HasClusters, IsPlainContent, IsPlainEntry}
use Rattle.world_laws.proofs.TopicOrder.Added.{after_is, appended}
use Rattle.world_laws.proofs.OnceInOrder.Appends.{written_entries}
use Rattle.world_laws.proofs.FrameContents.Carrying.{Carried, Stored, beneath, carried_kept, carried_written, plain_suits}
use Rattle.world_laws.proofs.Counters.Counts.{FewAt, HasRoom, shape_few, written_room}
use Rattle.world_laws.proofs.Replicating.Effects.{Each, each_take}
use Rattle.world_laws.proofs.Walks.EventWalk.{HasShape, planned_shape}
use Rattle.world_laws.proofs.OnceInOrder.Fresh.{shape_fresh}
use Rattle.world_laws.proofs.Induction.Runs.{IsKeptByEvents}
use Rattle.world_laws.proofs.Snapshotting.SecondRound.{Knows, knows_now, knows_written}
use Rattle.world_laws.proofs.Walks.Shapes.{Shape}
use Rattle.world_laws.proofs.Replicating.Sizes.{IsThere, node_lt}
use Rattle.world_laws.proofs.FrameContents.Widths.{GoodName, WideAt, shape_wide}
use Rattle.trace_laws.proofs.Events.{FreshIn, PlannedHolds, planned_holds, whole_take}
use Rattle.trace_laws.proofs.Told.{numbered_here}
use Rattle.trace_laws.proofs.Traced.{Tracing, whole}
use Rattle.trace_laws.proofs.Writes.{PlanHolds}
use Rattle.trace_laws.proofs.Clean.{IsClean, IsCleanContent, IsCleanMarker, SmallPlace}
use Rattle.trace_laws.proofs.CleanPlans.{WritesClean}
use Rattle.trace_laws.proofs.CleanRuns.{StaysClean, clean_kept, plan_clean}
use Rattle.trace_laws.proofs.Entries.{IsToldContent, IsToldEntry, IsToldMarker}
use Rattle.trace_laws.proofs.Items.{AppendsTold, IsRoomy, cause_told, room_along, writes_told}
use Rattle.trace_laws.proofs.TextLines.{IsToldItem}
use Rattle.trace_laws.proofs.Words.{IsTold}

-- ---- an entry that is clean and plain

positions_told : (names : List Word) (rs : List ClusterPosition) → Each SmallPlace rs → AreClusters names rs → Each (IsTold names) rs
positions_told names [] small known = tt
positions_told names (r ∷ rs) small known = ((known.0, small.0), positions_told names rs small.1 known.1)

marker_told : (names : List Word) (m : Marker) → IsCleanMarker m → HasClusters names m → IsToldMarker names m
marker_told names (marker.Request id source) clean known = (clean, known)
marker_told names (marker.Response id answer) clean known = (clean.0, (known, clean.1))
marker_told names (marker.Snapshot id local remote) clean known = (clean.0, clean.1, positions_told names remote clean.2 known)
marker_told names (marker.Update sub remote) clean known = (clean.0, positions_told names remote clean.1 known)

content_told : (names : List Word) (key : Option Word) (payload : List ℕ) (c : Content) → IsCleanContent key payload c → IsPlainContent names c payload → IsToldContent names key payload c
content_told names key payload content.Data clean plain = clean
content_told names key payload (content.Marked m) clean plain =
    let known : HasClusters names m = subst (IsPlainContent names (content.Marked m)) clean.1 plain in (clean.0, clean.1, marker_told names m clean.2 known)
content_told names key payload (content.Unread k) clean plain = absurd clean

entry_told : (names : List Word) (e : Entry) → IsClean e → Stored (IsPlainEntry names None) names e → IsToldEntry names e
entry_told names e clean (plain, origin) = record {
  origin = origin;
  producer = clean.producer;
  seq = clean.seq;
  to = plain.some;
  publish_time = clean.publish_time;
  listed = plain.listed;
  rest = plain.rest;
  content = content_told names e.meta.key e.payload e.content clean.content plain.content;
}

-- those that are appended
all_told : (names : List Word) (ws : List Write) → Each WritesClean ws → Each (Stored (IsPlainEntry names None) names) (appended ws) → Each (AppendsTold names) ws
all_told names [] clean plain = tt
all_told names (write.Append e ∷ ws) clean plain = (entry_told names e clean.0 plain.0, all_told names ws clean.1 plain.1)
all_told names (write.Create n kind replicated latest ∷ ws) clean plain = (tt, all_told names ws clean.1 plain)
all_told names (write.Alter n kind replicated ∷ ws) clean plain = (tt, all_told names ws clean.1 plain)
all_told names (write.Delete n ∷ ws) clean plain = (tt, all_told names ws clean.1 plain)
all_told names (write.Acks n is ∷ ws) clean plain = (tt, all_told names ws clean.1 plain)
all_told names (write.Seek n i ∷ ws) clean plain = (tt, all_told names ws clean.1 plain)
all_told names (write.ReplicatorAck y i ∷ ws) clean plain = (tt, all_told names ws clean.1 plain)
all_told names (write.SessionNumber y i ∷ ws) clean plain = (tt, all_told names ws clean.1 plain)
all_told names (write.Ledger ∷ ws) clean plain = (tt, all_told names ws clean.1 plain)

-- ---- what is known of a world

abbrev Plain : Setup → Entry → Type 0
Plain s = IsPlainEntry s.clusters None

pub record Known (s : Setup) (w : World) : Type 0 where
  pub clean : StaysClean s w
  pub plain : Carried (Plain s) s w

pub known_kept : (s : Setup) → IsScripted s → All IsClient s.clients → IsKeptByEvents s (Known s)
known_kept s scripted texts =
    let c = clean_kept s scripted texts in let p = carried_kept (Plain s) s scripted (plain_suits s.clusters) in
    record {
      opening = record { clean = c.opening; plain = p.opening };
      idle = λ w n h. record { clean = c.idle w n h.clean; plain = p.idle w n h.plain };
      round = λ w n h. record { clean = c.round w n h.clean; plain = p.round w n h.plain };
      event = λ w e h. record { clean = c.event w e h.clean; plain = p.event w e h.plain };
      halts = λ w n e h. record { clean = c.halts w n e h.clean; plain = p.halts w n e h.plain };
      stop = λ w h. record { clean = c.stop w h.clean; plain = p.stop w h.plain };
    }

-- ---- the broker in the midst of its writes

set_here : (bs : List Broker) (k : ℕ) (b : Broker) → k < length bs → slice_index_or (slice_set bs k b) k no_broker ≡ b
set_here [] k b lt = absurd (omega (arith, lt))
set_here (a ∷ bs) zero b lt = refl
set_here (a ∷ bs) (suc k) b lt = set_here bs k b (omega (arith, lt))

written_here : (s : Setup) (w : World) (k : ℕ) (p : Planned) → IsThere s p.topic p.cluster → length w.brokers ≡ length s.topics * length s.clusters
    → topic_at s (partly_written s w k (Some p)) p.topic p.cluster ≡ all_written s.per_ledger (topic_at s w p.topic p.cluster) (take k p.plan.writes)
written_here s w k p there size =
    let lt = node_lt s p.topic p.cluster there in
    set_here w.brokers (node s p.topic p.cluster) (all_written s.per_ledger (topic_at s w p.topic p.cluster) (take k p.plan.writes)) (omega (arith, lt, size))

appended_few : (ws : List Write) → length (appended ws) ≤ length ws
appended_few [] = omega arith
appended_few (write.Append e ∷ ws) = let h = appended_few ws in omega (arith, h)
appended_few (write.Create n kind replicated latest ∷ ws) = let h = appended_few ws in omega (arith, h)
appended_few (write.Alter n kind replicated ∷ ws) = let h = appended_few ws in omega (arith, h)
appended_few (write.Delete n ∷ ws) = let h = appended_few ws in omega (arith, h)
appended_few (write.Acks n is ∷ ws) = let h = appended_few ws in omega (arith, h)
appended_few (write.Seek n i ∷ ws) = let h = appended_few ws in omega (arith, h)
appended_few (write.ReplicatorAck y i ∷ ws) = let h = appended_few ws in omega (arith, h)
appended_few (write.SessionNumber y i ∷ ws) = let h = appended_few ws in omega (arith, h)
appended_few (write.Ledger ∷ ws) = let h = appended_few ws in omega (arith, h)

taken_few : (k : ℕ) (ws : List Write) → length (take k ws) ≤ length ws
taken_few zero ws = omega arith
taken_few (suc k) [] = omega arith
taken_few (suc k) (w ∷ ws) = let h = taken_few k ws in omega (arith, h)

rooms : (s : Setup) (w : World) (p : Planned) → Shape s w p → IsThere s p.topic p.cluster → length w.brokers ≡ length s.topics * length s.clusters → IsShort w → FewAt s w
    → (k : ℕ) → IsRoomy (all_written s.per_ledger (topic_at s w p.topic p.cluster) (take k p.plan.writes))
rooms s w p shape there size short few k =
    let b = topic_at s w p.topic p.cluster in let ws = take k p.plan.writes in
    let entries : (all_written s.per_ledger b ws).entries ≡ b.entries ++ appended ws = written_entries s.per_ledger b ws ∙ after_is b.entries ws in
    let same = ap (λ (es : List Entry). length es) entries in let both = length-append b.entries (appended ws) in
    let a = appended_few ws in let t = taken_few k p.plan.writes in let n = shape_few s w p shape in let before = (few p.topic p.cluster there).entries in (
      subst HasRoom (written_here s w k p there size) (written_room s w k p shape short few p.topic p.cluster there),
      omega (arith, same, both, a, t, n, before, short),
    )

each_right : {X : Type 0} (P : X → Type 0) (xs ys : List X) → Each P (xs ++ ys) → Each P ys
each_right P [] ys h = h
each_right P (x ∷ xs) ys h = each_right P xs ys h.1

appended_plain : (s : Setup) → IsScripted s → (w : World) (p : Planned) → Shape s w p → IsThere s p.topic p.cluster → length w.brokers ≡ length s.topics * length s.clusters → Carried (Plain s) s w
    → Each (Stored (Plain s) s.clusters) (appended p.plan.writes)
appended_plain s scripted w p shape there size h =
    let b = topic_at s w p.topic p.cluster in let ws = p.plan.writes in let n = length ws in
    let c = carried_written ⊥ (Plain s) s scripted (plain_suits s.clusters) w n p shape (beneath s w h.0) h.1 in
    let P : Broker → Type 0 = λ z. Each (Stored (Plain s) s.clusters) z.entries in
    let here : P (all_written s.per_ledger b ws) =
    subst P (written_here s w n p there size ∙ ap (all_written s.per_ledger b) (whole_take ws)) (c.entries p.topic p.cluster there) in
    each_right (Stored (Plain s) s.clusters) b.entries (appended ws)
    (subst (λ (es : List Entry). Each (Stored (Plain s) s.clusters) es) (written_entries s.per_ledger b ws ∙ after_is b.entries ws) here)

-- ---- why the lines of an event are accepted

fresh_planned : (s : Setup) (w : World) (o : Option Planned) → HasShape s w o → FreshIn s w o
fresh_planned s w None shape = tt
fresh_planned s w (Some p) shape = shape_fresh s w p shape

knows_after : (s : Setup) (w : World) (k : ℕ) (o : Option Planned) → HasShape s w o → Tracing s w → IsShort w → Knows s (partly_written s w k o)
knows_after s w k None shape h short = knows_now s w h.0.0.0 short
knows_after s w k (Some p) shape h short = knows_written s w k p shape h.0.0.0 short

plan_holds : (s : Setup) (w : World) (e : Event) → IsScripted s → Tracing s w → IsShort w → PlannedHolds s w 0 e (planned s w e)
plan_holds s w e scripted h short =
    planned_holds s w 0 e (whole s w scripted h short) (fresh_planned s w (planned s w e) (planned_shape s w e)) (λ k. knows_after s w k (planned s w e) (planned_shape s w e) h short)

holds_take : (s : Setup) (bs : List Broker) (n t x : ℕ) (c : Cause) (b : Broker) (k : ℕ) (ws : List Write) → PlanHolds s bs n t x c b ws → PlanHolds s bs n t x c b (take k ws)
holds_take s bs n t x c b zero ws h = tt
holds_take s bs n t x c b (suc k) [] h = tt
holds_take s bs n t x c b (suc k) (w ∷ ws) h = (h.0, holds_take s bs n t x c (written s.per_ledger b w) k ws h.1)

-- ---- the first so many writes of an event

some_told : (s : Setup) → IsScripted s → (w : World) (k : ℕ) (e : Event) (p : Planned) → Shape s w p → PlannedHolds s w 0 e (Some p) → Known s w → IsShort w
    → Each (IsToldItem s) (planned_items s w k e (Some p))
some_told s scripted w k e p shape (there, holds) known short =
    let base = known.clean.base in
    let t = p.topic in let x = p.cluster in let b = topic_at s w t x in let ws = p.plan.writes in
    let all = whole s w scripted base.tracing short in let size = all.sized in
    let numbered = numbered_here s w t x (all.here t x there) in
    let wide : WideAt (length s.clusters) b = base.wide.1 t x there in
    let room = rooms s w p shape there size short base.few.1 in
    let clean = plan_clean s scripted w p shape short base (known.clean.clean short) in
    let told = all_told s.clusters ws clean.writes (appended_plain s scripted w p shape there size known.plain) in
    writes_told s w.brokers 0 t x (cause_of b e) b (take k ws) there.0 there.1 (cause_told b e (room zero).0 numbered) (holds_take s w.brokers 0 t x (cause_of b e) b k ws holds)
    (each_take (AppendsTold s.clusters) k ws told) (each_take GoodName k ws (shape_wide s w p shape wide).names) wide (room_along s.per_ledger b k ws room)

pub planned_told : (s : Setup) → IsScripted s → (w : World) (k : ℕ) (e : Event) → Known s w → IsShort w → Each (IsToldItem s) (planned_items s w k e (planned s w e))
planned_told s scripted w k e known short = by (planned s w e) (planned_shape s w e) (plan_holds s w e scripted known.clean.base.tracing short)
  where
    by : (o : Option Planned) → HasShape s w o → PlannedHolds s w 0 e o → Each (IsToldItem s) (planned_items s w k e o)
    by None shape holds = tt
    by (Some p) shape holds = some_told s scripted w k e p shape holds known short
