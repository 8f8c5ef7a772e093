-- Every entry that is stored in a short run is small enough to be stored anywhere: what came was judged, and own markers are small.
use Rattle.std.proofs.Common.{◌≡◌, ℕ, ◌*◌, ◌<◌, ◌≤◌, Bool, true, false, List, [], ◌∷◌, ◌++◌, length, refl, sym, subst, ◌∙◌, arith}
use Rattle.std.specs.Prelude.{Option, Some, None, ◌==◌, slice_get, take}
use Rattle.std.proofs.lemmas.Bool.{eq-eqb, eqb-true, false≢true}
use Rattle.std.proofs.lemmas.List.{get_or-replicate}
use Rattle.std.proofs.lemmas.Option.{slice_get_within}
use Rattle.world_laws.proofs.Types.{Entry, ClusterRef, Write}
use Rattle.world_laws.proofs.Types.content
use Rattle.world_laws.proofs.Types.marker
use Rattle.world_laws.proofs.Types.write
use Rattle.geo_base.specs.Broker.{Broker, Site, new_broker, no_broker}
use Rattle.geo_base.specs.SnapshotBuilder.{snapshot_id}
use Rattle.geo_base.specs.Happening.{broker_does, broker_halts, client_does, stops}
use Rattle.geo_base.specs.Client.{Acted}
use Rattle.geo_base.specs.Laws.{IsShort}
use Rattle.geo_base.specs.Moments.{partly_written}
use Rattle.geo_base.specs.Plan.{all_written, done, halted}
use Rattle.geo_base.specs.Planned.{Planned}
use Rattle.geo_base.specs.Scripted.{IsScripted}
use Rattle.geo_base.specs.Seeking.{restart}
use Rattle.geo_base.specs.Setup.{Setup}
use Rattle.geo_base.specs.Topic.{position_at}
use Rattle.geo_base.specs.World.{LinkName, ToClient, World, node, opening_world, site, topic_at}
use Rattle.world_laws.proofs.TopicOrder.Added.{after_is, appended}
use Rattle.world_laws.proofs.OnceInOrder.Appends.{all_changed_entries, written_entries}
use Rattle.world_laws.proofs.Snapshotting.Asked.{Knowing, knowing_kept, name_of, named}
use Rattle.world_laws.proofs.Counters.Counts.{next_small}
use Rattle.world_laws.proofs.Replicating.Effects.{Each, each_both, each_take}
use Rattle.world_laws.proofs.ComesOver.Fitting.{Fits}
use Rattle.world_laws.proofs.Snapshotting.Ids.{id_short, second_short}
use Rattle.world_laws.proofs.Induction.Layers.{Both, Everywhere, both_kept, kept_over, one_node}
use Rattle.world_laws.proofs.OnceInOrder.Members.{Stands}
use Rattle.world_laws.proofs.FrameContents.NewEntries.{Brief, IsFit, NewEntry, NewWrite, TakenEntry, all_appended, shape_new}
use Rattle.world_laws.proofs.TopicOrder.Order.{of_source}
use Rattle.world_laws.proofs.FrameContents.OwnSizes.{AreShort, names_short, own_size}
use Rattle.world_laws.proofs.Replicating.PairRoles.{shape_within}
use Rattle.world_laws.proofs.Induction.Runs.{IsKept}
use Rattle.world_laws.proofs.Snapshotting.SecondRound.{Knows, knows_now, small_at}
use Rattle.world_laws.proofs.Walks.Shapes.{Shape}
use Rattle.world_laws.proofs.Induction.Short.{KeptShort, WhileShort, short_kept}
use Rattle.world_laws.proofs.Replicating.Sizes.{IsThere, Sized, node_lt, node_there, stopped_at}
use Rattle.world_laws.proofs.Snapshotting.SnapshotFacts.{Form}
use Rattle.world_laws.proofs.Dispatching.SubFrames.{each_at_place}
use Rattle.world_laws.proofs.Walks.Walk.{on_if}
use Rattle.world_laws.proofs.FrameContents.Widths.{AllWide, wide_kept}

-- WORLDS

abbrev pub FitAt : Setup → ℕ → Broker → Type 0
FitAt s x b = Each (IsFit s.clusters) b.entries

abbrev pub AllFit : Setup → World → Type 0
AllFit s w = Everywhere s (FitAt s) w

-- a request that stands is an own one where it came from, so its id is short
asked_short : (s : Setup) (w : World) (t x i : ℕ) (e : Entry) (id : List ℕ) (source : ClusterRef) → AreShort s.clusters → Knows s w → IsThere s t x
    → slice_get (topic_at s w t x).entries i ≡ Some e → e.content ≡ content.Marked (marker.Request id source) → length id ≤ 60
asked_short s w t x i e id source names k there at is = by (y == x) refl
  where
    y : ℕ
    y = e.ident.origin

    lt : y < length s.clusters
    lt = (k.answers t x there).origins i e at

    short_at : (j : ℕ) → j < length (topic_at s w t y).entries → length (snapshot_id (name_of s y) (position_at (topic_at s w t y).ledgers j)) ≤ 58
    short_at j within = id_short (name_of s y) (position_at (topic_at s w t y).ledgers j) (names y) (small_at s w t y j k (there.0, lt) within)

    of_form : (j : ℕ) → j < length (topic_at s w t y).entries → Form (name_of s y) (topic_at s w t y).entries (topic_at s w t y).ledgers y j id → length id ≤ 60
    of_form j within (Form.First same) = let l = subst (λ (a : List ℕ). length a ≤ 58) (sym same) (short_at j within) in omega (arith, l)
    of_form j within (Form.Second l below r same) =
        let n = short_at l (omega (arith, below, within)) in
        let m = second_short (snapshot_id (name_of s y) (position_at (topic_at s w t y).ledgers l)) in
        subst (λ (a : List ℕ). length a ≤ 60) (sym same) (omega (arith, n, m))

    here : (j : ℕ) → slice_get (topic_at s w t y).entries j ≡ Some e → length id ≤ 60
    here j stands =
        of_form j (slice_get_within (topic_at s w t y).entries j e stands)
        ((k.asked t y (there.0, lt)).forms j id (record { entry = e; at = stands; of = eq-eqb y y refl; asks = (source, is) }))

    by : (b : Bool) → (y == x) ≡ b → length id ≤ 60
    by true same = here i (subst (λ (z : ℕ). slice_get (topic_at s w t z).entries i ≡ Some e) (sym (eqb-true y x same)) at)
    by false other =
        let source : Stands (topic_at s w t y).entries e =
        of_source y x (topic_at s w t y).entries (topic_at s w t x).entries (k.prefix t y x (lt, there.1, (λ is. false≢true (sym other ∙ eq-eqb y x is)))) i e at (eq-eqb y y refl) in
        here source.place source.is

-- what stands below
abbrev pub Ground : Setup → World → Type 0
Ground s = Both (Knowing s) (AllWide s)

pub short_brief : (s : Setup) → IsScripted s → (w : World) (t x : ℕ) → IsShort w → Ground s w → IsThere s t x → Brief (Unit {0}) (site s t x) (topic_at s w t x)
short_brief s scripted w t x short g there = record {
  own = there.1;
  names = names;
  wide = g.1 t x there;
  next = λ now. next_small s.per_ledger w.events (topic_at s w t x) short (g.0.0.0.1 t x there) (k.answers t x there).numbered;
  made = λ now u is. let made = (k.asked t x there).made u is in
      subst (λ (a : List ℕ). length a ≤ 58) (sym made.asked.1)
      (id_short (name_of s x) (position_at (topic_at s w t x).ledgers made.asked.0) (names x)
      (small_at s w t x made.asked.0 k there (slice_get_within (topic_at s w t x).entries made.asked.0 made.asked.2.entry made.asked.2.at)));
  asked = λ now i e id source at is. asked_short s w t x i e id source names k there at is;
}
  where
    names : AreShort s.clusters
    names = names_short s.clusters scripted.cluster_names.0

    k : Knows s w
    k = knows_now s w g.0 short

-- so what an event appends fits
new_fits : (B : Type 0) (h : Site) (C : Entry → Type 0) → B → length h.clusters ≤ 8 → AreShort h.clusters → (e : Entry) → NewEntry B h C e → IsFit h.clusters e
new_fits B h C holds few short e (NewEntry.Carried a z lt c fit) = fit
new_fits B h C holds few short e (NewEntry.Own b m to names own) = own_size B h b m to names holds few short own

abbrev NewFor : Setup → World → Planned → Write → Type 0
NewFor s w p = NewWrite (Unit {0}) (site s p.topic p.cluster) (TakenEntry w p)

shape_fits : (s : Setup) → IsScripted s → (w : World) (p : Planned) → Shape s w p → IsShort w → Ground s w → IsThere s p.topic p.cluster → Each (NewFor s w p) p.plan.writes
shape_fits s scripted w p shape short g there = shape_new (Unit {0}) s w p shape (short_brief s scripted w p.topic p.cluster short g there)

written_fit : (s : Setup) → IsScripted s → (w : World) (p : Planned) (b : Broker) (ws : List Write) → Each (NewFor s w p) ws → FitAt s p.cluster b → FitAt s p.cluster (all_written s.per_ledger b ws)
written_fit s scripted w p b ws new h =
    subst (λ (es : List Entry). Each (IsFit s.clusters) es) (sym (written_entries s.per_ledger b ws ∙ after_is b.entries ws))
    (each_both (IsFit s.clusters) b.entries (appended ws) h
    (all_appended (Unit {0}) (site s p.topic p.cluster) (TakenEntry w p) (IsFit s.clusters)
    (new_fits (Unit {0}) (site s p.topic p.cluster) (TakenEntry w p) tt scripted.clusters.1 (names_short s.clusters scripted.cluster_names.0)) ws new))

fits_does : (s : Setup) → IsScripted s → (w : World) (p : Planned) → Shape s w p → IsShort w → Ground s w → AllFit s w → AllFit s (broker_does s w p)
unfolding broker_does
fits_does s scripted w p shape short g all =
    let b = topic_at s w p.topic p.cluster in
    on_if (AllFit s) p.plan.idle _ _ all
    (one_node s (FitAt s) w p.topic p.cluster (done s.per_ledger b p.plan) (shape_within s w p shape)
    (λ here. subst (λ (es : List Entry). Each (IsFit s.clusters) es) (sym (all_changed_entries (all_written s.per_ledger b p.plan.writes) p.plan.changes))
    (written_fit s scripted w p b p.plan.writes (shape_fits s scripted w p shape short g here) (all p.topic p.cluster here))) all)

fits_halts : (s : Setup) → IsScripted s → (w : World) (k : ℕ) (p : Planned) → Shape s w p → IsShort w → Ground s w → AllFit s w → AllFit s (broker_halts s w k p)
unfolding broker_halts
fits_halts s scripted w k p shape short g all =
    let b = topic_at s w p.topic p.cluster in let F = NewFor s w p in
    one_node s (FitAt s) w p.topic p.cluster (halted s.per_ledger b k p.plan) (shape_within s w p shape)
    (λ here. written_fit s scripted w p b (take k p.plan.writes ++ write.Ledger ∷ [])
    (each_both F (take k p.plan.writes) (write.Ledger ∷ []) (each_take F k p.plan.writes (shape_fits s scripted w p shape short g here)) (tt, tt)) (all p.topic p.cluster here)) all

pub fits_written : (s : Setup) → IsScripted s → (w : World) (k : ℕ) (p : Planned) → Shape s w p → IsShort w → Ground s w → AllFit s w → AllFit s (partly_written s w k (Some p))
fits_written s scripted w k p shape short g all =
    let b = topic_at s w p.topic p.cluster in let F = NewFor s w p in
    one_node s (FitAt s) w p.topic p.cluster (all_written s.per_ledger b (take k p.plan.writes)) (shape_within s w p shape)
    (λ here. written_fit s scripted w p b (take k p.plan.writes) (each_take F k p.plan.writes (shape_fits s scripted w p shape short g here)) (all p.topic p.cluster here)) all

fits_client : (s : Setup) (w : World) (c : ℕ) (k : Option LinkName) (a : Acted) → AllFit s w → AllFit s (client_does s w c k a)
unfolding client_does
fits_client s w c k a all = on_if (AllFit s) a.idle _ _ all all

fits_stops : (s : Setup) (w : World) → Ground s w → AllFit s w → AllFit s (stops s w)
unfolding stops restart
fits_stops s w g all t x there =
    let b = topic_at s w t x in
    subst (FitAt s x) (sym (stopped_at w.brokers (λ c. done s.per_ledger c restart) (node s t x) (node_there s w t x g.0.0.0.0.0.0.sized there))) (all t x there)

fits_opening : (s : Setup) → AllFit s (opening_world s)
fits_opening s t x there =
    let n = length s.clusters in
    subst (FitAt s x) (sym (get_or-replicate (length s.topics * n) (node s t x) (new_broker n (length s.clients)) no_broker (node_lt s t x there))) tt

fits_kept : (s : Setup) → IsScripted s → KeptShort s (Ground s) (AllFit s)
fits_kept s scripted = record {
  opening = fits_opening s;
  idle = λ w n g all. all;
  round = λ w n g all. all;
  does = λ w p shape short g g' all. fits_does s scripted w p shape short g all;
  halts = λ w k p shape short g g' all. fits_halts s scripted w k p shape short g all;
  goes = λ w c a short g g' all. fits_client s w c None a all;
  gets = λ w c x a short g g' all. fits_client s w c (Some (ToClient c x)) a all;
  stop = λ w short g g' all. fits_stops s w g all;
}

-- all of it, in every world
abbrev pub Fitting : Setup → World → Type 0
Fitting s = Both (Ground s) (WhileShort (AllFit s))

pub ground_kept : (s : Setup) → IsScripted s → IsKept s (Ground s)
ground_kept s scripted =
    both_kept s (Knowing s) (AllWide s) (knowing_kept s (named s scripted)) (kept_over s (Knowing s) (Sized s) (AllWide s) (λ w h. h.0.0.0.0.0.sized) (wide_kept s))

pub fitting_kept : (s : Setup) → IsScripted s → IsKept s (Fitting s)
fitting_kept s scripted = both_kept s (Ground s) (WhileShort (AllFit s)) (ground_kept s scripted) (short_kept s (Ground s) (AllFit s) (fits_kept s scripted))

pub fits_of : (s : Setup) (w : World) → Fitting s w → IsShort w → Fits s w
fits_of s w h short t x there i e at own = each_at_place (IsFit s.clusters) (topic_at s w t x).entries i e (h.1 short t x there) at
