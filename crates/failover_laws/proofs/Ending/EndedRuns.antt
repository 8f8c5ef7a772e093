-- In every world of a short run; and where all was read, no snapshot is in the making.
use Rattle.std.proofs.Common.{◌≡◌, ℕ, ◌+◌, ◌*◌, ◌^◌, ◌/◌, ◌%◌, ◌<◌, Bool, true, false, [], ◌∷◌, length, refl, sym, ap, subst, ◌∙◌, ◌==◌, arith}
use Rattle.std.specs.Prelude.{Option, Some, None, ◌||◌}
use Rattle.std.proofs.lemmas.Bool.{eq-eqb, false≢true, ltb-true}
use Rattle.std.proofs.lemmas.List.{get_or-replicate}
use Rattle.std.proofs.lemmas.Nat.{div-mul-add, pow_pos}
use Rattle.std.proofs.lemmas.Option.{none-some, slice_get_within}
use Rattle.world_laws.proofs.Types.{SnapshotBuilder, Event, ClusterRef, Targets}
use Rattle.world_laws.proofs.Types.step
use Rattle.world_laws.proofs.Types.targets
use Rattle.geo_base.specs.Broker.{new_broker, no_broker}
use Rattle.geo_base.specs.SnapshotBuilder.{current_id}
use Rattle.geo_base.specs.Cursor.{has}
use Rattle.geo_base.specs.Entry.{goes_to, is_outbound, means_cluster}
use Rattle.geo_base.specs.Happening.{halts_planned, happens, stops}
use Rattle.geo_base.specs.Laws.{ArePair, BetweenEvents, IsComplete, IsShort, SettlesAll, after_settling, begun}
use Rattle.geo_base.specs.Plan.{done}
use Rattle.geo_base.specs.Planned.{planned}
use Rattle.geo_base.specs.Run.{no_limits, run_from, steps}
use Rattle.geo_base.specs.Scripted.{IsScripted}
use Rattle.geo_base.specs.Seeking.{restart}
use Rattle.geo_base.specs.Setup.{Setup}
use Rattle.geo_base.specs.World.{World, node, opening_world, topic_at}
use Rattle.world_laws.proofs.ComesOver.Complete.{budget_always}
use Rattle.world_laws.proofs.Induction.Runs.{IsKeptByEvents, between_by_events, by_events, kept_on, run_on}
use Rattle.world_laws.proofs.OnceInOrder.Members.{Stands}
use Rattle.world_laws.proofs.Replicating.Sizes.{IsThere, node_lt, node_there, stopped_at}
use Rattle.world_laws.proofs.Snapshotting.Asked.{named as names_of}
use Rattle.world_laws.proofs.Snapshotting.SecondRound.{knows_now}
use Rattle.world_laws.proofs.Walks.EventWalk.{planned_shape}
use Rattle.world_laws.proofs.Walks.Walk.{both}
use Rattle.failover_laws.specs.Ended.{NoneIsMaking}
use Rattle.failover_laws.proofs.Acting.ActingOn.{event_left, halts_left}
use Rattle.failover_laws.proofs.Acting.SwitchedOver.{arrived_at}
use Rattle.failover_laws.proofs.Covers.Known.{event_more, halt_more, stop_more}
use Rattle.failover_laws.proofs.Ending.Became.{became, halted_planned}
use Rattle.failover_laws.proofs.Ending.Pursued.{pursued}
use Rattle.failover_laws.proofs.Ending.PursuedHalts.{pursued_halt, pursued_stop}
use Rattle.failover_laws.proofs.Ending.Pursuing.{all_of_them, AnswersTo, Pursues}
use Rattle.failover_laws.proofs.Ending.Topics.{Facts}
use Rattle.failover_laws.proofs.TracedRuns.{Tracing, tracing_kept}

abbrev AllPursue : Setup → World → Type 0
AllPursue s w = (t x : ℕ) → IsThere s t x → Pursues x (topic_at s w t x)

abbrev pub Pursuit : Setup → World → Type 0
Pursuit s w = Tracing s w × (IsShort w → AllPursue s w)

facts : (s : Setup) (w : World) (t x : ℕ) → Tracing s w → IsShort w → IsThere s t x → Facts s w t x
facts s w t x h short there = record { there = there; knows = knows_now s w h.0.0 short; replicates = h.0.0.0.0.0.0.0; none = h.0.0.0.0.0.0.1 }

size : (s : Setup) (w : World) (t x y : ℕ) → Tracing s w → IsThere s t x → y < length s.clusters → y < length (topic_at s w t x).replicators
size s w t x y h there lt = let wide = (h.0.0.0.0.0.0.0.sized.wide t x there).replicators in omega (arith, wide, lt)

opening_pursues : (s : Setup) → AllPursue s (opening_world s)
opening_pursues s t x there =
    let n = length s.clusters in
    subst (Pursues x) (sym (get_or-replicate (length s.topics * n) (node s t x) (new_broker n (length s.clients)) no_broker (node_lt s t x there)))
    (record {
      all = λ k id r. absurd (none-some r.entry r.at);
      names = λ k id answer e a. absurd (none-some e a.at);
      answered = λ y q id other r acked. absurd (none-some r.entry r.at);
      heard = λ u y p answer e making. absurd (none-some u making);
      asked = λ u making. absurd (none-some u making);
      waits = λ u making. absurd (none-some u making);
      going = λ u making. absurd (none-some u making);
    })

pub stopped_is : (s : Setup) (w : World) (t x : ℕ) → node s t x < length w.brokers → topic_at s (stops s w) t x ≡ done s.per_ledger (topic_at s w t x) restart
unfolding stops
stopped_is s w t x lt = stopped_at w.brokers (λ b. done s.per_ledger b restart) (node s t x) lt

pursuit_kept : (s : Setup) → IsScripted s → IsKeptByEvents s (Pursuit s)
pursuit_kept s scripted = record {
  opening = (k.opening, λ short. opening_pursues s);
  idle = λ w n p. (k.idle w n p.0, p.1);
  round = λ w n p. (k.round w n p.0, p.1);
  event = λ w e p. let next = k.event w e p.0 in (next, λ short. evented w e p next short);
  halts = λ w j e p. let next = k.halts w j e p.0 in (next, λ short. halting w j e p next short);
  stop = λ w p. let next = k.stop w p.0 in (next, λ short. stopping w p short);
}
  where
    k : IsKeptByEvents s (Tracing s)
    k = by_events s (Tracing s) (tracing_kept s (names_of s scripted))

    evented : (w : World) (e : Event) → Pursuit s w → Tracing s (happens s w e) → IsShort (happens s w e) → AllPursue s (happens s w e)
    evented w e p next short t x there =
        let more = event_more s w e in
        let was : IsShort w = omega (arith, more, short) in
        pursued s w t x e (topic_at s (happens s w e) t x) scripted (facts s w t x p.0 was there)
        (record {
          ids = (next.1 short t x there).ids;
          origins = ((knows_now s (happens s w e) next.0.0 short).answers t x there).origins;
          left = λ y i lt l acked. event_left s w t x y i e (size s w t x y p.0 there lt) l acked;
        }) (p.1 was t x there) (became s w e t x there.1)

    halting : (w : World) (j : ℕ) (e : Event) → Pursuit s w → Tracing s (halts_planned s w j (planned s w e)) → IsShort (halts_planned s w j (planned s w e))
        → AllPursue s (halts_planned s w j (planned s w e))
    halting w j e p next short t x there =
        let more = halt_more s w j (planned s w e) in
        let was : IsShort w = omega (arith, more, short) in
        pursued_halt s w j t x e (topic_at s (halts_planned s w j (planned s w e)) t x) (facts s w t x p.0 was there)
        (record {
          origins = ((knows_now s (halts_planned s w j (planned s w e)) next.0.0 short).answers t x there).origins;
          left = λ y i lt l acked. halts_left s w t x y i j (planned s w e) (size s w t x y p.0 there lt) l acked;
        }) (p.1 was t x there) (halted_planned s w j e t x there.1 (planned s w e) refl (planned_shape s w e))

    stopping : (w : World) → Pursuit s w → IsShort (stops s w) → AllPursue s (stops s w)
    stopping w p short t x there =
        let more = stop_more s w in
        let was : IsShort w = omega (arith, more, short) in
        let f = facts s w t x p.0 was there in
        subst (Pursues x) (sym (stopped_is s w t x (node_there s w t x f.replicates.sized there))) (pursued_stop s w t x f (p.1 was t x there))

-- ---- after a settling

goes_there : (y : ℕ) → goes_to y (targets.Only (2 ^ y)) ≡ true
goes_there y =
    let one : (2 ^ y) / (2 ^ y) ≡ 1 = ap (λ (n : ℕ). n / (2 ^ y)) (whole (2 ^ y)) ∙ div-mul-add 1 (2 ^ y) 0 (pow_pos y) in
    let P : ℕ → Type 0 = λ n. (n % 2 == 1) ≡ true in
    subst P (sym one) refl
  where
    whole : (n : ℕ) → n ≡ 1 * n + 0
    whole n = omega arith

none_making : (s : Setup) (z : World) → Pursuit s z → IsShort z → ((t x y : ℕ) → t < length s.topics → ArePair s x y → IsComplete s z t x y) → NoneIsMaking s z
none_making s z p short complete t x lt small = by (topic_at s z t x).builder refl
  where
    there : IsThere s t x
    there = (lt, small)

    mine : Pursues x (topic_at s z t x)
    mine = p.1 short t x there

    heard : (u : SnapshotBuilder) → (topic_at s z t x).builder ≡ Some u → (c : ℕ) → c < length s.clusters → (x ≡ c → ⊥) → has u.heard c ≡ true
    heard u making c small_c other =
        let id = current_id u in
        let pair : ArePair s x c = (small, small_c, other) in
        let back : ArePair s c x = (small_c, small, λ is. other (sym is)) in
        let xs = (topic_at s z t x).entries in let cs = (topic_at s z t c).entries in
        let theirs : Pursues c (topic_at s z t c) = p.1 short t c (lt, small_c) in
        let r = mine.asked u making in
        let all = mine.all r.0 id r.1 in
        let out : is_outbound x c r.1.entry ≡ true = both (r.1.entry.ident.origin == x) (goes_to c r.1.entry.to) r.1.of (subst (λ (to : Targets). goes_to c to ≡ true) (sym all) refl) in
        let came : Stands cs r.1.entry = arrived_at x c xs cs r.0 r.1.entry (complete t x c lt pair).arrived r.1.at out in
        let read = (complete t c x lt back).acknowledged came.place (slice_get_within cs came.place r.1.entry came.is) in
        let a : AnswersTo c cs x id = theirs.answered x came.place id (λ is. other (sym is)) (record { entry = r.1.entry; at = came.is; of = r.1.of; asks = r.1.asks }) read in
        let out' : is_outbound c x a.entry ≡ true = both (a.entry.ident.origin == c) (goes_to x a.entry.to) a.at.of (subst (λ (to : Targets). goes_to x to ≡ true) (sym a.to) (goes_there x)) in
        let back_here : Stands xs a.entry = arrived_at c x cs xs a.index a.entry (complete t c x lt back).arrived a.at.at out' in
        let read' = (complete t x c lt pair).acknowledged back_here.place (slice_get_within xs back_here.place a.entry back_here.is) in
        let named : means_cluster c a.answer.cluster ≡ true = subst (λ (q : ClusterRef). means_cluster c q ≡ true) (sym (theirs.names a.index id a.answer a.entry a.at)) (eq-eqb c c refl) in
        mine.heard u c back_here.place a.answer a.entry making other (record { at = back_here.is; of = a.at.of; is = a.at.is }) named read'

    each : (u : SnapshotBuilder) → (topic_at s z t x).builder ≡ Some u → (c : ℕ) → c < length s.clusters → has (x ∷ u.heard) c ≡ true
    each u making c small_c = here (x == c) refl
      where
        here : (b : Bool) → (x == c) ≡ b → (b || has u.heard c) ≡ true
        here true e = refl
        here false e = heard u making c small_c (λ is. false≢true (sym e ∙ eq-eqb x c is))

    by : (o : Option SnapshotBuilder) → (topic_at s z t x).builder ≡ o → o ≡ None
    by None making = refl
    by (Some u) making =
        let made = ((knows_now s z p.0.0.0 short).asked t x there).made u making in
        let many = all_of_them (length s.clusters) (x ∷ u.heard) (each u making) in
        let waits = ltb-true _ _ (mine.waits u making) in
        let clusters = made.clusters in absurd (omega (arith, many, waits, clusters))

settled_run : (s : Setup) (w : World) → after_settling s w ≡ (run_from no_limits s (begun w) (step.Settle ∷ [])).world
unfolding steps
settled_run s w = refl

ended_behind : (s : Setup) → IsScripted s → (w : World) → Pursuit s w → (IsShort (after_settling s w) → SettlesAll s w) → IsShort (after_settling s w) → NoneIsMaking s (after_settling s w)
ended_behind s scripted w p all short =
    let z = after_settling s w in
    let q : Pursuit s z = subst (Pursuit s) (sym (settled_run s w)) (run_on no_limits s (Pursuit s) (kept_on s (Pursuit s) (pursuit_kept s scripted)) w p (step.Settle ∷ [])) in
    none_making s z q short (λ t x y lt pair. all short t x y lt pair)

pub none_law : (s : Setup) → IsScripted s → BetweenEvents s (λ w. IsShort (after_settling s w) → NoneIsMaking s (after_settling s w))
none_law s scripted =
    let k = between_by_events s (Pursuit s) (Pursuit s) (pursuit_kept s scripted) (λ w p. p) in
    let c = budget_always.complete s scripted in
    record {
      run = λ es. ended_behind s scripted _ (k.run es) (c.run es);
      limited = λ l es. ended_behind s scripted _ (k.limited l es) (c.limited l es);
      between = λ l es at. ended_behind s scripted _ (k.between l es at) (c.between l es at);
    }
