-- What is settled since a world at which all had come over: every event keeps that only that is acknowledged, where it is so at first.
use Rattle.std.proofs.Common.{◌≡◌, ℕ, ◌+◌, ◌<◌, List, [], length, refl, sym, arith}
use Rattle.std.specs.Prelude.{◌≢◌, Option, Some, None}
use Rattle.std.proofs.lemmas.Bool.{eqb-true}
use Rattle.world_laws.proofs.Types.{Event}
use Rattle.world_laws.proofs.Types.event
use Rattle.geo_base.specs.Client.{Acted}
use Rattle.geo_base.specs.Happening.{client_does, does_planned, halts_planned, happens, stops}
use Rattle.geo_base.specs.Laws.{ArePair, IsComplete, IsShort}
use Rattle.geo_base.specs.Planned.{Planned, has_client, planned}
use Rattle.geo_base.specs.Settled.{SettledSoFar, settled_behind, settled_event}
use Rattle.geo_base.specs.Setup.{Setup}
use Rattle.geo_base.specs.World.{LinkName, ToClient, World, client_at, site, topic_at}
use Rattle.world_laws.specs.Telling.{settling}
use Rattle.world_laws.proofs.Induction.Short.{client_short, does_short, halts_short, stops_short}
use Rattle.world_laws.proofs.Snapshotting.Asked.{Named}
use Rattle.world_laws.proofs.Snapshotting.Cuts.{Cutting, cutting_kept}
use Rattle.world_laws.proofs.Snapshotting.SecondRound.{Knows, knows_now}
use Rattle.world_laws.proofs.Telling.OnlyTold.{first_included, tells_more}
use Rattle.world_laws.proofs.Telling.QuietTells.{ReadsTold, quiet_told}
use Rattle.world_laws.proofs.Telling.ServeTells.{seek_told, serve_told}
use Rattle.world_laws.proofs.Telling.TellingRuns.{IsKeptTelling, IsOfSettling, after_event, after_writes}
use Rattle.world_laws.proofs.Telling.Told.{HasToldFrom, Includes, TellsAll, ToldSince, told_too}
use Rattle.world_laws.proofs.Telling.ToldRuns.{TellsSome, none_settled, some_told}
use Rattle.world_laws.proofs.Telling.ToldWorlds.{same_world, told_does, told_halts, told_more, told_stops}
use Rattle.world_laws.proofs.TopicOrder.NoSelf.{remote_other}
use Rattle.world_laws.proofs.Walks.EventWalk.{HasShape, planned_shape}
use Rattle.world_laws.proofs.Walks.Walk.{on_if}
use Rattle.consumer_laws.proofs.Fences.Since.{Since, read_since, since_does, since_halts, since_same, since_stops}

-- all had come over at v
abbrev pub HasComeOver : Setup → World → Type 0
HasComeOver s v = (t x y : ℕ) → t < length s.topics → ArePair s x y → IsComplete s v t x y

-- from where on an update was stored since
abbrev pub from_world : Setup → World → ℕ → ℕ → ℕ
from_world s v t x = length (topic_at s v t x).entries

pub record AnewNow (s : Setup) (v : World) (told : SettledSoFar) (w : World) : Type 0 where
  pub since : Since s v w
  pub kept : HasToldFrom (from_world s v) s w told

abbrev pub Anew : Setup → World → SettledSoFar → World → Type 0
Anew s v told w = Cutting s w × (IsShort w → AnewNow s v told w)

pub told_since : (s : Setup) (v : World) (told : SettledSoFar) (w : World) → Anew s v told w → IsShort w → ToldSince (from_world s v) s told w
told_since s v told w h short = record { knows = knows_now s w h.0.0 short; no_self = h.0.0.0.0.0.0.1; cuts = h.0.1 short; kept = (h.1 short).kept }

-- ---- what an event gains

-- an update that is read since was stored since at its own cluster, so it names only what is told
pub reads_since : (s : Setup) (v : World) (told : SettledSoFar) (w : World) → HasComeOver s v → Knows s w → AnewNow s v told w → ReadsTold s w told
reads_since s v told w over k h t x y i j e n remote there next is =
    let small : y < length s.clusters = origin in
    let other : x ≢ y = λ same. remote_other (site s t x) y next.0 (sym same) in
    let begins = k.prefix t y x (small, there.1, λ same. other (sym same)) in
    let stored =
    read_since s v w t x y i e there (there.0, small) h.since (over t x y there.0 (there.1, small, other)) (over t y x there.0 (small, there.1, λ same. other (sym same)))
    begins.0 begins.1 next is.0.1 in
    (h.kept t y (there.0, small)).names stored.0 e n remote stored.1 stored.2 is.0.1 is.1
  where
    origin : y < length s.clusters
    origin = let o = (k.answers t x there).origins i e next.2 in let same = eqb-true e.ident.origin y is.0.1 in omega (arith, o, same)

with_none : (s : Setup) (w : World) (told new : SettledSoFar) (o : Option Planned) → TellsAll s w told o → TellsAll s w (told_too told new) o
with_none s w told new None h = tt
with_none s w told new (Some p) h = λ short there.
    tells_more told (told_too told new) (first_included told new) p.topic s.per_ledger (topic_at s w p.topic p.cluster) p.plan.writes (h short there)

event_gains : (s : Setup) (v : World) (told : SettledSoFar) (w : World) (e : Event) → HasComeOver s v → Anew s v told w → TellsAll s w (after_event (settling s) told w e) (planned s w e)
event_gains s v told w (event.Serve x c) over h = serve_told s told w x c (λ short. knows_now s w h.0.0 short)
event_gains s v told w (event.Seek t x m to) over h = seek_told s told w t x m to (λ short. knows_now s w h.0.0 short)
event_gains s v told w e over h =
    with_none s w told (λ t n. settled_event s w t n e) (planned s w e) (quiet_told s w told e refl (λ short. reads_since s v told w over (knows_now s w h.0.0 short) (h.1 short)))

-- ---- events

more_anew : (s : Setup) (v : World) (told more : SettledSoFar) (w : World) → Includes told more → Anew s v told w → Anew s v more w
more_anew s v told more w inc h = (h.0, λ short. record { since = (h.1 short).since; kept = told_more (from_world s v) s told more w inc (h.1 short).kept })

-- a world with the same brokers
alike_anew : (s : Setup) (v : World) (told : SettledSoFar) (w w' : World) → w'.brokers ≡ w.brokers → Cutting s w' → (IsShort w' → IsShort w) → Anew s v told w → Anew s v told w'
alike_anew s v told w w' same cutting was h = (
  cutting,
  λ short. record {
    since = since_same s v w w' same (h.1 (was short)).since;
    kept = same_world (from_world s v) s w w' told same (knows_now s w h.0.0 (was short)) (h.1 (was short)).kept;
  },
)

planned_anew : (s : Setup) → Named s → (v : World) (told : SettledSoFar) (w : World) (o : Option Planned) → HasShape s w o → TellsAll s w told o → Anew s v told w → Anew s v told (does_planned s w o)
planned_anew s names v told w None shape tells h = alike_anew s v told w _ refl ((cutting_kept s names).idle w (w.idle + 1) h.0) (λ short. short) h
planned_anew s names v told w (Some p) shape tells h = (
  (cutting_kept s names).does w p shape h.0,
  λ short.
      let was = does_short s w p short in let now = told_since s v told w h was in
      record { since = since_does s v w p shape now.knows.answers (h.1 was).since; kept = told_does (from_world s v) s told w p shape now (tells was) },
)

halted_anew : (s : Setup) → Named s → (v : World) (told : SettledSoFar) (w : World) (k : ℕ) (o : Option Planned) → HasShape s w o → TellsSome s w told k o → Anew s v told w
    → Anew s v told (halts_planned s w k o)
halted_anew s names v told w k None shape tells h = alike_anew s v told w _ refl ((cutting_kept s names).idle w (w.idle + 1) h.0) (λ short. short) h
halted_anew s names v told w k (Some p) shape tells h = (
  (cutting_kept s names).halts w k p shape h.0,
  λ short.
      let was = halts_short s w k p short in let now = told_since s v told w h was in
      record { since = since_halts s v w k p shape now.knows.answers (h.1 was).since; kept = told_halts (from_world s v) s told w k p shape now (tells was) },
)

same_brokers : (s : Setup) (w : World) (c : ℕ) (l : Option LinkName) (a : Acted) → (client_does s w c l a).brokers ≡ w.brokers
unfolding client_does
same_brokers s w c l a = on_if (λ (w' : World). w'.brokers ≡ w.brokers) a.idle _ _ refl refl

happens_anew : (s : Setup) → Named s → (v : World) (told : SettledSoFar) (w : World) (e : Event) → TellsAll s w told (planned s w e) → Anew s v told w → Anew s v told (happens s w e)
unfolding happens
happens_anew s names v told w (event.Go c) tells h =
    on_if (Anew s v told) (has_client s c) _ _
    (alike_anew s v told w _ (same_brokers s w c None _) ((cutting_kept s names).goes w c _ h.0) (client_short s w c None _) h)
    (alike_anew s v told w _ refl ((cutting_kept s names).idle w (w.idle + 1) h.0) (λ short. short) h)
happens_anew s names v told w (event.Reconnect c) tells h =
    on_if (Anew s v told) (has_client s c) _ _
    (alike_anew s v told w _ (same_brokers s w c None _) ((cutting_kept s names).goes w c _ h.0) (client_short s w c None _) h)
    (alike_anew s v told w _ refl ((cutting_kept s names).idle w (w.idle + 1) h.0) (λ short. short) h)
happens_anew s names v told w (event.Get c) tells h =
    let l = ToClient c (client_at s w c).cluster in
    on_if (Anew s v told) (has_client s c) _ _
    (alike_anew s v told w _ (same_brokers s w c (Some l) _) ((cutting_kept s names).gets w c _ _ h.0) (client_short s w c (Some l) _) h)
    (alike_anew s v told w _ refl ((cutting_kept s names).idle w (w.idle + 1) h.0) (λ short. short) h)
happens_anew s names v told w e tells h = planned_anew s names v told w (planned s w e) (planned_shape s w e) tells h

stop_anew : (s : Setup) → Named s → (v : World) (told : SettledSoFar) (w : World) → Anew s v told w → Anew s v told (stops s w)
stop_anew s names v told w h = (
  (cutting_kept s names).stop w h.0,
  λ short.
      let was = stops_short s w short in let now = told_since s v told w h was in let sized = h.0.0.0.0.0.0.0.sized in
      record { since = since_stops s v w sized now.knows.answers (h.1 was).since; kept = told_stops (from_world s v) s told w sized now },
)

quiet_settles : (s : Setup) (w : World) (t : ℕ) (n : List ℕ) (e : Event) → IsOfSettling e → settled_event s w t n e ≡ []
quiet_settles s w t n (event.Reset u x y) h = none_settled s w t n (event.Reset u x y) refl
quiet_settles s w t n (event.Take u x y f) h = none_settled s w t n (event.Take u x y f) refl
quiet_settles s w t n (event.Receipt u x y f) h = none_settled s w t n (event.Receipt u x y f) refl
quiet_settles s w t n (event.Read u x y) h = none_settled s w t n (event.Read u x y) refl
quiet_settles s w t n e h = absurd h

-- so runs from there keep it, with what they settle
pub anew_kept : (s : Setup) → Named s → (v : World) → HasComeOver s v → IsKeptTelling (settling s) s (Anew s v)
anew_kept s names v over = record {
  more = λ told more w inc h. more_anew s v told more w inc h;
  event = λ told w e h.
      let now = after_event (settling s) told w e in
      happens_anew s names v now w e (event_gains s v told w e over h) (more_anew s v told now w (first_included told (λ t n. settled_event s w t n e)) h);
  halts = λ told w k e h.
      let now = after_writes (settling s) told w k e in
      halted_anew s names v now w k (planned s w e) (planned_shape s w e) (some_told s w told (λ t n. settled_event s w t n e) k (planned s w e) (event_gains s v told w e over h))
      (more_anew s v told now w (first_included told (λ t n. settled_behind k s w t n e)) h);
  stop = λ told w h. stop_anew s names v told w h;
  idle = λ told w n h. alike_anew s v told w (record w { idle = n }) refl ((cutting_kept s names).idle w n h.0) (λ short. short) h;
  round = λ told w n h. alike_anew s v told w (record w { rounds = n }) refl ((cutting_kept s names).round w n h.0) (λ short. short) h;
  quiet = quiet_settles s;
}
