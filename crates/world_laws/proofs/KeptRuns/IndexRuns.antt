-- In every world of a run that starts so, the indexes that brokers keep are those of stored entries.
use Rattle.std.proofs.Common.{ℕ, zero, suc, ◌*◌, ◌<◌, List, [], ◌∷◌, length, map, replicate, ◌≡◌, refl, arith}
use Rattle.std.specs.Prelude.{Option, slice_index_or}
use Rattle.std.specs.List.{AllByRecursion, sum}
use Rattle.std.proofs.lemmas.List.Sums.{sum_by-cons}
use Rattle.world_laws.proofs.Types.{Pending}
use Rattle.geo_base.specs.Broker.{Broker, new_broker, no_broker, replicator_at}
use Rattle.geo_base.specs.Client.{Acted}
use Rattle.geo_base.specs.Happening.{broker_does, broker_halts, client_does, stops}
use Rattle.geo_base.specs.Plan.{done, halted}
use Rattle.geo_base.specs.Planned.{Planned}
use Rattle.geo_base.specs.Seeking.{restart}
use Rattle.geo_base.specs.Replicator.{new_replicator}
use Rattle.geo_base.specs.Setup.{Setup}
use Rattle.geo_base.specs.Subscription.{Subscription}
use Rattle.geo_base.specs.World.{LinkName, World, broker_at, node, opening_world}
use Rattle.world_laws.specs.Indexes.{AllHaveIndexes, HasIndexes}
use Rattle.world_laws.proofs.Replicating.Effects.{Each}
use Rattle.world_laws.proofs.Induction.Frames.{at_copies, at_set}
use Rattle.world_laws.proofs.KeptRuns.KeptIndexes.{PendingBelow, ReplicatorBelow, Stocked, SubBelow, done_stocked, halted_stocked, new_stocked, restart_stored, shape_stored}
use Rattle.world_laws.proofs.TopicOrder.Ledgers.{total}
use Rattle.world_laws.proofs.Induction.Runs.{IsKept, IsKeptOn, by_events, kept_on}
use Rattle.world_laws.proofs.Walks.Shapes.{Shape}
use Rattle.world_laws.proofs.Walks.Walk.{on_if}

abbrev AllStocked : World → Type 0
AllStocked w = (z : ℕ) → Stocked (broker_at w z)

none_stocked : Stocked no_broker
none_stocked = record { ledgers = omega arith; subs = tt; replicators = λ y. new_stocked 0 }

new_replicators : (n y : ℕ) → ReplicatorBelow 0 (slice_index_or (replicate n new_replicator) y new_replicator)
new_replicators n y = at_copies (ReplicatorBelow 0) n y new_replicator new_replicator (new_stocked 0) (new_stocked 0)

opened_stocked : (clusters clients : ℕ) → Stocked (new_broker clusters clients)
opened_stocked clusters clients = record { ledgers = omega arith; subs = tt; replicators = λ y. new_replicators clusters y }

opening_stocked : (s : Setup) → AllStocked (opening_world s)
opening_stocked s z =
    at_copies Stocked (length s.topics * length s.clusters) z (new_broker (length s.clusters) (length s.clients)) no_broker (opened_stocked (length s.clusters) (length s.clients)) none_stocked

does_stocked : (s : Setup) (w : World) (p : Planned) → Shape s w p → AllStocked w → AllStocked (broker_does s w p)
unfolding broker_does
does_stocked s w p shape h =
    let place : ℕ = node s p.topic p.cluster in
    on_if AllStocked p.plan.idle _ _ h
    (λ z. at_set Stocked w.brokers place z (done s.per_ledger (broker_at w place) p.plan) no_broker
    (λ _. done_stocked s.per_ledger (broker_at w place) p.plan (shape_stored s w p (h place) shape) (h place)) (h z))

halts_stocked : (s : Setup) (w : World) (k : ℕ) (p : Planned) → Shape s w p → AllStocked w → AllStocked (broker_halts s w k p)
unfolding broker_halts
halts_stocked s w k p shape h =
    let place : ℕ = node s p.topic p.cluster in
    λ z. at_set Stocked w.brokers place z (halted s.per_ledger (broker_at w place) k p.plan) no_broker
    (λ _. halted_stocked s.per_ledger (broker_at w place) k p.plan (shape_stored s w p (h place) shape) (h place)) (h z)

client_stocked : (s : Setup) (w : World) (c : ℕ) (k : Option LinkName) (a : Acted) → AllStocked w → AllStocked (client_does s w c k a)
unfolding client_does
client_stocked s w c k a h = on_if AllStocked a.idle _ _ h h

each_stopped : (per : ℕ) (bs : List Broker) (z : ℕ) → Stocked (slice_index_or bs z no_broker)
    → Stocked (slice_index_or (map (λ (b : Broker). done per b restart) bs) z no_broker)
each_stopped per [] z h = none_stocked
each_stopped per (b ∷ bs) zero h = done_stocked per b restart (restart_stored (length b.entries)) h
each_stopped per (b ∷ bs) (suc z) h = each_stopped per bs z h

stop_stocked : (s : Setup) (w : World) → AllStocked w → AllStocked (stops s w)
unfolding stops
stop_stocked s w h z = each_stopped s.per_ledger w.brokers z (h z)

stocked_kept : (s : Setup) → IsKept s AllStocked
stocked_kept s = record {
  opening = opening_stocked s;
  idle = λ w n h. h;
  round = λ w n h. h;
  does = does_stocked s;
  halts = halts_stocked s;
  goes = λ w c a h. client_stocked s w c _ a h;
  gets = λ w c x a h. client_stocked s w c _ a h;
  stop = stop_stocked s;
}

-- ---- in the law's words

sum_total : (ls : List ℕ) → sum ls ≡ total ls
sum_total [] = refl
sum_total (l ∷ ls) = let h = sum_total ls in omega (arith, h, sum_by-cons (λ (x : ℕ). x) l ls)

told_pending : (n : ℕ) (ps : List Pending) → Each (PendingBelow n) ps → AllByRecursion (λ (p : Pending). p.index < n) ps
told_pending n [] h = tt
told_pending n (p ∷ ps) h = (h.0, told_pending n ps h.1)

known_pending : (n : ℕ) (ps : List Pending) → AllByRecursion (λ (p : Pending). p.index < n) ps → Each (PendingBelow n) ps
known_pending n [] h = tt
known_pending n (p ∷ ps) h = (h.0, known_pending n ps h.1)

told_subs : (n : ℕ) (vs : List Subscription) → Each (SubBelow n) vs → AllByRecursion (SubBelow n) vs
told_subs n [] h = tt
told_subs n (v ∷ vs) h = (h.0, told_subs n vs h.1)

known_subs : (n : ℕ) (vs : List Subscription) → AllByRecursion (SubBelow n) vs → Each (SubBelow n) vs
known_subs n [] h = tt
known_subs n (v ∷ vs) h = (h.0, known_subs n vs h.1)

told : (b : Broker) → Stocked b → HasIndexes b
told b h = let n = length b.entries in record {
  ledgers = omega (arith, h.ledgers, sum_total b.ledgers);
  subs = told_subs n b.subs h.subs;
  replicators = λ y. record { acked = (h.replicators y).acked; pending = told_pending n (replicator_at b y).pending (h.replicators y).pending };
}

known : (b : Broker) → HasIndexes b → Stocked b
known b h = let n = length b.entries in record {
  ledgers = omega (arith, h.ledgers, sum_total b.ledgers);
  subs = known_subs n b.subs h.subs;
  replicators = λ y. record { acked = (h.replicators y).acked; pending = known_pending n (replicator_at b y).pending (h.replicators y).pending };
}

pub opening_indexes : (s : Setup) → AllHaveIndexes (opening_world s)
opening_indexes s z = told _ (opening_stocked s z)

pub indexes_on : (s : Setup) → IsKeptOn s AllHaveIndexes
indexes_on s =
    let k = kept_on s AllStocked (by_events s AllStocked (stocked_kept s)) in
    record {
      idle = λ w n h z. told _ (k.idle w n (λ y. known _ (h y)) z);
      round = λ w n h z. told _ (k.round w n (λ y. known _ (h y)) z);
      event = λ w e h z. told _ (k.event w e (λ y. known _ (h y)) z);
      halts = λ w n e h z. told _ (k.halts w n e (λ y. known _ (h y)) z);
      stop = λ w h z. told _ (k.stop w (λ y. known _ (h y)) z);
    }
