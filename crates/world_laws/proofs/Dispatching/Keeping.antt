-- Nothing due is forgotten, in the world: so it is between any two events.
use Rattle.std.proofs.Common.{◌≡◌, ℕ, ◌*◌, ◌+◌, ◌≤◌, [], ◌∷◌, ◌++◌, length, refl, ap, ◌∙◌, arith, length-append}
use Rattle.std.specs.Prelude.{Option, Some, None, take}
use Rattle.world_laws.proofs.Types.change
use Rattle.world_laws.proofs.Types.write
use Rattle.geo_base.specs.Broker.{Broker, new_broker, no_broker}
use Rattle.geo_base.specs.Client.{Acted}
use Rattle.geo_base.specs.Happening.{broker_does, broker_halts, client_does, stops}
use Rattle.geo_base.specs.Laws.{BetweenEvents}
use Rattle.geo_base.specs.Plan.{Plan, all_written, done, halted}
use Rattle.geo_base.specs.Planned.{Planned}
use Rattle.geo_base.specs.Safe.{NothingForgotten}
use Rattle.geo_base.specs.Seeking.{restart}
use Rattle.geo_base.specs.Setup.{Setup}
use Rattle.geo_base.specs.Subscription.{cleared}
use Rattle.geo_base.specs.World.{LinkName, ToClient, World, broker_at, node, opening_world}
use Rattle.world_laws.proofs.TopicOrder.Added.{after_is, appended}
use Rattle.world_laws.proofs.OnceInOrder.Appends.{done_entries}
use Rattle.world_laws.proofs.Replicating.Effects.{each_map}
use Rattle.world_laws.proofs.Induction.Frames.{at_copies, at_map, at_set}
use Rattle.world_laws.proofs.Dispatching.Recalled.{Keeping, Recalls, restart_recalled, shape_recalled}
use Rattle.world_laws.proofs.Dispatching.Remembers.{Remembers, remembers_more, unread}
use Rattle.world_laws.proofs.Induction.Runs.{IsKept, between_events}
use Rattle.world_laws.proofs.Walks.Shapes.{Shape}
use Rattle.world_laws.proofs.Dispatching.SubFrames.{all_written_apart, changed_apart, done_apart, each_at_place, forgotten_subs}
use Rattle.world_laws.proofs.Walks.Walk.{on_if}

abbrev pub Remembering : World → Type 0
Remembering w = (n : ℕ) → Keeping (broker_at w n)

-- a plan appends, and takes no entry away
grows : (per : ℕ) (b : Broker) (p : Plan) → length b.entries ≤ length (done per b p).entries
grows per b p =
    let is : length (done per b p).entries ≡ length b.entries + length (appended p.writes) =
    ap length (done_entries per b p ∙ after_is b.entries p.writes) ∙ length-append b.entries (appended p.writes) in
    omega (arith, is)

pub done_keeping : (per : ℕ) (b : Broker) (p : Plan) → Recalls per b p → Keeping b → Keeping (done per b p)
done_keeping per b p new keep =
    let m = length b.entries in
    let n = length (done per b p).entries in
    record {
      all = each_map (Remembers m) (Remembers n) (λ v r. remembers_more m n v (grows per b p) r) (done per b p).subs new;
      apart = done_apart per b p keep.apart;
    }

-- a stop, after whatever writes, leaves nothing in memory
halted_keeping : (per : ℕ) (b : Broker) (k : ℕ) (p : Plan) → Keeping b → Keeping (halted per b k p)
halted_keeping per b k p keep =
    let b' = all_written per b (take k p.writes ++ write.Ledger ∷ []) in
    let m = length (halted per b k p).entries in
    record {
      all = forgotten_subs (Remembers m) b' (λ v. unread m (cleared v) refl refl refl);
      apart = changed_apart b' change.Forget (all_written_apart per b (take k p.writes ++ write.Ledger ∷ []) keep.apart);
    }

none_keeping : Keeping no_broker
none_keeping = record { all = tt; apart = tt }

does_keeping : (s : Setup) (w : World) (p : Planned) → Shape s w p → Remembering w → Remembering (broker_does s w p)
unfolding broker_does
does_keeping s w p shape all z =
    let b = broker_at w (node s p.topic p.cluster) in
    on_if (λ (w' : World). Keeping (broker_at w' z)) p.plan.idle _ _ (all z)
    (at_set Keeping w.brokers (node s p.topic p.cluster) z _ no_broker
    (λ _. done_keeping s.per_ledger b p.plan (shape_recalled s w p shape (all (node s p.topic p.cluster))) (all (node s p.topic p.cluster))) (all z))

halts_keeping : (s : Setup) (w : World) (k : ℕ) (p : Planned) → Remembering w → Remembering (broker_halts s w k p)
unfolding broker_halts
halts_keeping s w k p all z =
    at_set Keeping w.brokers (node s p.topic p.cluster) z _ no_broker
    (λ _. halted_keeping s.per_ledger (broker_at w (node s p.topic p.cluster)) k p.plan (all (node s p.topic p.cluster))) (all z)

client_keeping : (s : Setup) (w : World) (c : ℕ) (k : Option LinkName) (a : Acted) → Remembering w → Remembering (client_does s w c k a)
unfolding client_does
client_keeping s w c k a all z = on_if (λ (w' : World). Keeping (broker_at w' z)) a.idle _ _ (all z) (all z)

stops_keeping : (s : Setup) (w : World) → Remembering w → Remembering (stops s w)
unfolding stops
stops_keeping s w all z =
    at_map Keeping (λ b. done s.per_ledger b restart) (λ b k. done_keeping s.per_ledger b restart (restart_recalled s.per_ledger b) k) w.brokers z no_broker none_keeping (all z)

opening_keeping : (s : Setup) → Remembering (opening_world s)
opening_keeping s z =
    at_copies Keeping (length s.topics * length s.clusters) z (new_broker (length s.clusters) (length s.clients)) no_broker (record { all = tt; apart = tt }) none_keeping

pub remembering_kept : (s : Setup) → IsKept s Remembering
remembering_kept s = record {
  opening = opening_keeping s;
  idle = λ w n all. all;
  round = λ w n all. all;
  does = does_keeping s;
  halts = λ w k p shape all. halts_keeping s w k p all;
  goes = λ w c a all. client_keeping s w c None a all;
  gets = λ w c x a all. client_keeping s w c (Some (ToClient c x)) a all;
  stop = stops_keeping s;
}

-- between any two events
pub kept_between : (s : Setup) → BetweenEvents s NothingForgotten
kept_between s =
    between_events s Remembering NothingForgotten (remembering_kept s)
    (λ w all n v is.
    let b = broker_at w n in
    let r = each_at_place (Remembers (length b.entries)) b.subs is.0 v (all n).all is.1 in
    record { outside = r.outside; inside = r.inside })
