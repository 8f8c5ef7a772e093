-- So it is of each topic in each world of a short run.
use Rattle.std.proofs.Common.{ℕ, ◌*◌, List, [], ◌∷◌, ◌++◌, length, sym, subst}
use Rattle.std.specs.Prelude.{Option, Some, None, take}
use Rattle.std.proofs.lemmas.List.{get_or-replicate}
use Rattle.std.proofs.lemmas.Option.{none-some}
use Rattle.world_laws.proofs.Types.{Change, Write}
use Rattle.world_laws.proofs.Types.change
use Rattle.world_laws.proofs.Types.write
use Rattle.geo_base.specs.Broker.{Broker, new_broker, no_broker}
use Rattle.geo_base.specs.Client.{Acted}
use Rattle.geo_base.specs.Happening.{broker_does, broker_halts, client_does, stops}
use Rattle.geo_base.specs.Laws.{IsShort}
use Rattle.geo_base.specs.Moments.{partly_written}
use Rattle.geo_base.specs.Plan.{all_changed, all_written, done, halted}
use Rattle.geo_base.specs.Planned.{Planned}
use Rattle.geo_base.specs.Seeking.{restart}
use Rattle.geo_base.specs.Setup.{Setup}
use Rattle.geo_base.specs.World.{LinkName, ToClient, World, node, opening_world, site, topic_at}
use Rattle.world_laws.proofs.TopicOrder.Added.{Adds, adds_halt, adds_take, shape_adds}
use Rattle.world_laws.proofs.Telling.Announcing.{Announcing, announcing_halt, announcing_take, shape_announcing}
use Rattle.world_laws.proofs.Snapshotting.Asked.{Knowing, Named, knowing_kept, telling}
use Rattle.world_laws.proofs.Snapshotting.Building.{Requests, building_caches, building_requests, requests_opened, requests_take, shape_building}
use Rattle.world_laws.proofs.Replicating.Effects.{each_both, each_take}
use Rattle.world_laws.proofs.Induction.Layers.{Both, Everywhere, both_kept, kept_over, one_node}
use Rattle.world_laws.proofs.Replicating.PairRoles.{shape_within}
use Rattle.world_laws.proofs.Induction.Runs.{IsKept}
use Rattle.world_laws.proofs.Walks.Shapes.{Shape}
use Rattle.world_laws.proofs.Induction.Short.{KeptShort, WhileShort, short_kept}
use Rattle.world_laws.proofs.Replicating.Sizes.{IsThere, Sized, node_lt, node_there, stopped_at}
use Rattle.world_laws.proofs.Walks.Walk.{on_if}
use Rattle.world_laws.proofs.FrameContents.Widths.{AllWide, GoodName, shape_wide, wide_kept, written_wide}
use Rattle.failover_laws.proofs.AgainTraced.{CachedHere, Does, Traced, event_traced, new_cached}

-- what stands below
abbrev pub Known : Setup → World → Type 0
Known s = Both (Knowing s) (AllWide s)

pub known_kept : (s : Setup) → Named s → IsKept s (Known s)
known_kept s names =
    both_kept s (Knowing s) (AllWide s) (knowing_kept s names) (kept_over s (Knowing s) (Sized s) (AllWide s) (λ w h. h.0.0.0.0.0.sized) (wide_kept s))

abbrev pub TracedAt : Setup → ℕ → Broker → Type 0
TracedAt s x b = Traced (length s.clusters) x b.entries b.subs

abbrev pub AllTraced : Setup → World → Type 0
AllTraced s w = Everywhere s (TracedAt s) w

-- after writes and changes of whatever event
node_traced : (s : Setup) → Named s → (w : World) → IsShort w → Known s w → AllTraced s w → (t x : ℕ) → IsThere s t x → (ws : List Write) (cs : List Change)
    → Does (site s t x) (topic_at s w t x) ws cs → TracedAt s x (all_changed (all_written s.per_ledger (topic_at s w t x) ws) cs)
node_traced s names w short h old t x there ws cs does =
    event_traced (site s t x) (topic_at s w t x) ws cs there.1 (h.0.0.0.0.1 t x there).numbered (telling s names w short h.0.0 t x there) (h.0.1 short t x there) does (old t x there)

whole : (s : Setup) (w : World) (p : Planned) → Shape s w p → Known s w → AllTraced s w → IsThere s p.topic p.cluster
    → Does (site s p.topic p.cluster) (topic_at s w p.topic p.cluster) p.plan.writes p.plan.changes
whole s w p shape h old there =
    let t = p.topic in let x = p.cluster in let b = topic_at s w t x in let none = h.0.0.0.0.0.1 in let wide = h.1 t x there in
    record {
      requests = building_requests (site s t x) b p.plan (shape_building s w p shape none);
      adds = shape_adds s w p shape none;
      announcing = shape_announcing s w p (CachedHere (length s.clusters) x b.entries) shape none (old t x there).caches (new_cached (site s t x) b);
      names = (written_wide (length s.clusters) s.per_ledger b p.plan.writes (shape_wide s w p shape wide).names wide).names;
      brings = building_caches (site s t x) b p.plan (shape_building s w p shape none);
    }

-- stopped after k writes
part : (s : Setup) (w : World) (k : ℕ) (p : Planned) → Shape s w p → Known s w → AllTraced s w → IsThere s p.topic p.cluster
    → Does (site s p.topic p.cluster) (topic_at s w p.topic p.cluster) (take k p.plan.writes ++ write.Ledger ∷ []) (change.Forget ∷ [])
part s w k p shape h old there =
    let t = p.topic in let x = p.cluster in let b = topic_at s w t x in let wide = h.1 t x there in let d = whole s w p shape h old there in
    record {
      requests = requests_opened (site s t x) b (take k p.plan.writes) (requests_take (site s t x) b k p.plan.writes d.requests);
      adds = adds_halt (site s t x) b k p.plan.writes d.adds;
      announcing = announcing_halt (CachedHere (length s.clusters) x b.entries) (site s t x) b k p.plan.writes d.announcing;
      names = (written_wide (length s.clusters) s.per_ledger b (take k p.plan.writes ++ write.Ledger ∷ [])
          (each_both GoodName (take k p.plan.writes) (write.Ledger ∷ []) (each_take GoodName k p.plan.writes (shape_wide s w p shape wide).names) (tt, tt)) wide).names;
      brings = (tt, tt);
    }

-- in the midst of its writes
now : (s : Setup) (w : World) (k : ℕ) (p : Planned) → Shape s w p → Known s w → AllTraced s w → IsThere s p.topic p.cluster
    → Does (site s p.topic p.cluster) (topic_at s w p.topic p.cluster) (take k p.plan.writes) []
now s w k p shape h old there =
    let t = p.topic in let x = p.cluster in let b = topic_at s w t x in let wide = h.1 t x there in let d = whole s w p shape h old there in
    record {
      requests = requests_take (site s t x) b k p.plan.writes d.requests;
      adds = adds_take (site s t x) b k p.plan.writes d.adds;
      announcing = announcing_take (CachedHere (length s.clusters) x b.entries) (site s t x) b k p.plan.writes d.announcing;
      names = (written_wide (length s.clusters) s.per_ledger b (take k p.plan.writes) (each_take GoodName k p.plan.writes (shape_wide s w p shape wide).names) wide).names;
      brings = tt;
    }

traced_does : (s : Setup) → Named s → (w : World) (p : Planned) → Shape s w p → IsShort w → Known s w → AllTraced s w → AllTraced s (broker_does s w p)
unfolding broker_does
traced_does s names w p shape short h old =
    on_if (AllTraced s) p.plan.idle _ _ old
    (one_node s (TracedAt s) w p.topic p.cluster (done s.per_ledger (topic_at s w p.topic p.cluster) p.plan) (shape_within s w p shape)
    (λ here. node_traced s names w short h old p.topic p.cluster here p.plan.writes p.plan.changes (whole s w p shape h old here)) old)

traced_halts : (s : Setup) → Named s → (w : World) (k : ℕ) (p : Planned) → Shape s w p → IsShort w → Known s w → AllTraced s w → AllTraced s (broker_halts s w k p)
unfolding broker_halts
traced_halts s names w k p shape short h old =
    one_node s (TracedAt s) w p.topic p.cluster (halted s.per_ledger (topic_at s w p.topic p.cluster) k p.plan) (shape_within s w p shape)
    (λ here. node_traced s names w short h old p.topic p.cluster here (take k p.plan.writes ++ write.Ledger ∷ []) (change.Forget ∷ []) (part s w k p shape h old here)) old

pub traced_written : (s : Setup) → Named s → (w : World) (k : ℕ) (p : Planned) → Shape s w p → IsShort w → Known s w → AllTraced s w → AllTraced s (partly_written s w k (Some p))
traced_written s names w k p shape short h old =
    one_node s (TracedAt s) w p.topic p.cluster (all_written s.per_ledger (topic_at s w p.topic p.cluster) (take k p.plan.writes)) (shape_within s w p shape)
    (λ here. node_traced s names w short h old p.topic p.cluster here (take k p.plan.writes) [] (now s w k p shape h old here)) old

traced_client : (s : Setup) (w : World) (c : ℕ) (k : Option LinkName) (a : Acted) → AllTraced s w → AllTraced s (client_does s w c k a)
unfolding client_does
traced_client s w c k a old = on_if (AllTraced s) a.idle _ _ old old

traced_stops : (s : Setup) → Named s → (w : World) → IsShort w → Known s w → AllTraced s w → AllTraced s (stops s w)
unfolding stops restart
traced_stops s names w short h old t x there =
    let b = topic_at s w t x in
    subst (TracedAt s x) (sym (stopped_at w.brokers (λ c. done s.per_ledger c restart) (node s t x) (node_there s w t x h.0.0.0.0.0.0.sized there)))
    (node_traced s names w short h old t x there (write.Ledger ∷ []) (change.Forget ∷ []) (record {
      requests = Requests.NoRequest _ (tt, tt);
      adds = Adds.Nothing;
      announcing = Announcing.Silent _ (tt, tt);
      names = (written_wide (length s.clusters) s.per_ledger b (write.Ledger ∷ []) (tt, tt) (h.1 t x there)).names;
      brings = (tt, tt);
    }))

traced_opening : (s : Setup) → AllTraced s (opening_world s)
traced_opening s t x there =
    let n = length s.clusters in
    subst (TracedAt s x) (sym (get_or-replicate (length s.topics * n) (node s t x) (new_broker n (length s.clients)) no_broker (node_lt s t x there)))
    (record {
      ids = λ k l id r q. absurd (none-some r.entry r.at);
      snapshots = λ i e id local remote at. absurd (none-some e at);
      caches = λ k v at. absurd (none-some v at);
      updates = λ i e m told at. absurd (none-some e at);
    })

traced_kept : (s : Setup) → Named s → KeptShort s (Known s) (AllTraced s)
traced_kept s names = record {
  opening = traced_opening s;
  idle = λ w n h old. old;
  round = λ w n h old. old;
  does = λ w p shape short h h' old. traced_does s names w p shape short h old;
  halts = λ w k p shape short h h' old. traced_halts s names w k p shape short h old;
  goes = λ w c a short h h' old. traced_client s w c None a old;
  gets = λ w c x a short h h' old. traced_client s w c (Some (ToClient c x)) a old;
  stop = λ w short h h' old. traced_stops s names w short h old;
}

-- all of it, in every world
abbrev pub Tracing : Setup → World → Type 0
Tracing s = Both (Known s) (WhileShort (AllTraced s))

pub tracing_kept : (s : Setup) → Named s → IsKept s (Tracing s)
tracing_kept s names = both_kept s (Known s) (WhileShort (AllTraced s)) (known_kept s names) (short_kept s (Known s) (AllTraced s) (traced_kept s names))
