-- The procedure, step by step: all is over, the snapshot stands, and the subscription is offered past it. None of these stores a message.
use Rattle.std.proofs.Common.{◌≡◌, ℕ, ◌+◌, ◌<◌, ◌≤◌, Bool, true, false, List, [], ◌∷◌, ◌++◌, length, refl, sym, ap, subst, ◌∙◌, append_assoc, ◌==◌, arith, inl, inr}
use Rattle.std.specs.Prelude.{Some, slice_get}
use Rattle.std.proofs.lemmas.Bool.{eq-eqb, eqb-true, false≢true}
use Rattle.std.proofs.lemmas.Option.{same_Some, slice_get_within}
use Rattle.world_laws.proofs.Types.{Content, Entry, Step}
use Rattle.world_laws.proofs.Types.content
use Rattle.world_laws.proofs.Types.event
use Rattle.world_laws.proofs.Types.step
use Rattle.geo_base.specs.Broker.{Broker, sub_named}
use Rattle.geo_base.specs.Cursor.{has}
use Rattle.geo_base.specs.Entry.{is_data}
use Rattle.geo_base.specs.Happening.{happens}
use Rattle.geo_base.specs.Laws.{ArePair, IsShort, after_settling, begun}
use Rattle.geo_base.specs.Run.{Ran, no_limits, run, run_from}
use Rattle.geo_base.specs.Scripted.{IsScripted}
use Rattle.geo_base.specs.Setup.{Setup, sub_name}
use Rattle.geo_base.specs.Subscription.{Subscription}
use Rattle.geo_base.specs.World.{World, node, opening_world, topic_at}
use Rattle.world_laws.specs.Reached.{ReachedFrom}
use Rattle.world_laws.proofs.Dispatching.Remembers.{is_false}
use Rattle.world_laws.proofs.Induction.Reaching.{goes_on, indexes}
use Rattle.world_laws.proofs.KeptRuns.ResumedRuns.{run_parts}
use Rattle.world_laws.proofs.KeptRuns.Starting.{opening_starts}
use Rattle.world_laws.proofs.OnceInOrder.Members.{below_or}
use Rattle.world_laws.proofs.Replicating.Prefixes.{is_of, not_twice}
use Rattle.world_laws.proofs.Snapshotting.Grows.{Grown}
use Rattle.world_laws.proofs.Snapshotting.Hearing.{grown_get, grown_old}
use Rattle.world_laws.proofs.Snapshotting.SecondRound.{Knows, knows_now}
use Rattle.world_laws.proofs.Snapshotting.SnapshotFacts.{out_there}
use Rattle.world_laws.proofs.TopicOrder.Order.{of_source}
use Rattle.failover_laws.specs.Covers.{NotOfThen}
use Rattle.failover_laws.specs.Ended.{asking_steps}
use Rattle.failover_laws.specs.Procedure.{IsHandedOver, offers}
use Rattle.failover_laws.specs.Since.{Since}
use Rattle.failover_laws.specs.Switched.{HasAllOf}
use Rattle.failover_laws.proofs.Acting.RunOn.{after_asking, open_at, reached_on, run_on_from, settled_on}
use Rattle.failover_laws.proofs.Acting.SwitchedOver.{arrived_at}
use Rattle.failover_laws.proofs.Behind.{begins}
use Rattle.failover_laws.proofs.Covers.Known.{fewer_before, grown_on, tracing_at}
use Rattle.failover_laws.proofs.Ending.Calm.{is_of_snapshot}
use Rattle.failover_laws.proofs.Ending.Phase.{AllOver, InPhase}
use Rattle.failover_laws.proofs.Ending.Settling.{settling_keeps}
use Rattle.failover_laws.proofs.Ending.Snapped.{HasSnapped, has_snapped, over_after}
use Rattle.failover_laws.proofs.Ending.SnapshotEnds.{first_id}
use Rattle.failover_laws.proofs.Handover.NoMessages.{Quiet, none_in_backlog, quiet_event, quiet_kept, quiet_offers, quiet_start, was_there}
use Rattle.failover_laws.proofs.Offering.Offered.{offered}
use Rattle.failover_laws.proofs.Offering.OffersInRow.{found_any, found_below}
use Rattle.failover_laws.proofs.Offering.OffersLeave.{asking_leaves}

-- what is stored in the phase is no message
new_is : (s : Setup) (v w : World) (t x : ℕ) → AllOver s v t → InPhase s v t x (first_id s v t x) w → Knows s w → x < length s.clusters → Grown s v w
    → (i : ℕ) (e : Entry) → slice_get (topic_at s w t x).entries i ≡ Some e → length (topic_at s v t x).entries ≤ i → is_data e.content ≡ true → ⊥
new_is s v w t x over phase knows small grows i e at le message = by (x == e.ident.origin) refl
  where
    was_x : Broker
    was_x = topic_at s v t x

    now_x : Broker
    now_x = topic_at s w t x

    no_data : (c : Content) → is_of_snapshot c ≡ true → is_data c ≡ true → ⊥
    no_data (content.Marked m) h k = false≢true k
    no_data content.Data h k = false≢true h
    no_data (content.Unread m) h k = false≢true k

    by : (b : Bool) → (x == e.ident.origin) ≡ b → ⊥
    by true same = no_data e.content (phase.own x i e small at (eq-eqb e.ident.origin x (sym (eqb-true x e.ident.origin same))) le) message
    by false other =
        let a = e.ident.origin in
        let small_a = (knows.answers t x (over.topic, small)).origins i e at in
        let apart : ArePair s a x = (small_a, small, λ is. false≢true (sym other ∙ eq-eqb x a (sym is))) in
        let of : is_of a e ≡ true = eq-eqb a a refl in
        let source = of_source a x (topic_at s w t a).entries now_x.entries (begins s w t a x knows apart) i e at of in
        elim (below_or source.place (length (topic_at s v t a).entries)) [
          | inl less ↦
              let was = grown_old (topic_at s v t a).entries (topic_at s w t a).entries (topic_at s v t a).ledgers (topic_at s w t a).ledgers (grows t a (over.topic, small_a)) source.place e less source.is in
              let out = out_there x a (topic_at s w t a).entries now_x.entries (begins s w t a x knows apart) i e at of in
              let came = arrived_at a x (topic_at s v t a).entries was_x.entries source.place e (over.complete a x apart).arrived was out in
              let low = slice_get_within was_x.entries came.place e came.is in
              let there = grown_get was_x.entries now_x.entries was_x.ledgers now_x.ledgers (grows t x (over.topic, small)) came.place e came.is in
              not_twice now_x.entries e (knows.once (node s t x)) (record { i = came.place; j = i; before = omega (arith, low, le); at_i = there; at_j = at })
          | inr more ↦ no_data e.content (phase.own a source.place e small_a source.is of more) message
        ]

pub handed_over : (s : Setup) → IsScripted s → (es : List Step) → IsHandedOver s (opening_world s) es
handed_over s scripted es t x y num k u lt known pair here replicated drained enough short = record {
  have = got.0;
  none_new = λ i e at message. was_there s v z t y i e over quiet pair.1 at message;
  report = λ meant.
      let h = got.0 in (
        h.sub,
        h.here,
        none_in_backlog h.sub.cursor 0 (topic_at s z t y).entries
            (λ i e at message.
            let same : 0 + i ≡ i = omega arith in
            subst (λ (j : ℕ). has h.sub.cursor j ≡ true) (sym same) (h.all i e (was_there s v z t y i e over quiet pair.1 at message) message (meant i e at message))),
      );
  again = got.1;
}
  where
    n : List ℕ
    n = sub_name s t num

    first : List Step
    first = es ++ step.Settle ∷ []

    asking : List Step
    asking = asking_steps t x

    v : World
    v = run s first

    -- the snapshot stands
    w : World
    w = run s (first ++ asking)

    z : World
    z = run s (first ++ (asking ++ offers k t x num) ++ step.Settle ∷ [])

    small : x < length s.clusters
    small = pair.0

    from_v : ReachedFrom s (opening_world s) v
    from_v = (goes_on s (opening_world s)).limited no_limits first

    from_w : ReachedFrom s (opening_world s) w
    from_w = (goes_on s (opening_world s)).limited no_limits (first ++ asking)

    v_to_w : ReachedFrom s v w
    v_to_w = reached_on s first asking

    w_to_z : ReachedFrom s w z
    w_to_z =
        subst (λ (fs : List Step). ReachedFrom s w (run s fs))
        (sym (ap (λ (fs : List Step). fs ++ step.Settle ∷ []) (sym (append_assoc first asking (offers k t x num))) ∙ append_assoc (first ++ asking) (offers k t x num) (step.Settle ∷ [])))
        (reached_on s (first ++ asking) (offers k t x num ++ step.Settle ∷ []))

    short_w : IsShort w
    short_w = let fewer = fewer_before s w z w_to_z in omega (arith, fewer, short)

    short_v : IsShort v
    short_v = let fewer = fewer_before s v w v_to_w in omega (arith, fewer, short_w)

    over : AllOver s v t
    over = over_after s scripted es t lt short_v

    snapped : HasSnapped s v w t x
    snapped = has_snapped s scripted es t x lt small (found_any (topic_at s v t x).subs n u here replicated) short_w

    knows : Knows s w
    knows = knows_now s w (tracing_at s scripted w from_w).0.0 short_w

    grows : Grown s v w
    grows = grown_on s scripted v w from_v v_to_w

    was_x : Broker
    was_x = topic_at s v t x

    now_x : Broker
    now_x = topic_at s w t x

    here_w : sub_named now_x.subs n ≡ Some u
    here_w = ap (λ (vs : List Subscription). sub_named vs n) (snapped.phase.subs x small) ∙ here

    same_sub : drained.sub ≡ u
    same_sub = same_Some _ u (sym drained.here ∙ here)

    drained_w : (i : ℕ) (e : Entry) → slice_get now_x.entries i ≡ Some e → is_data e.content ≡ true → has u.cursor i ≡ true
    drained_w i e at message =
        elim (below_or i (length was_x.entries)) [
          | inl less ↦
              subst (λ (q : Subscription). has q.cursor i ≡ true) same_sub
              (drained.all i e (grown_old was_x.entries now_x.entries was_x.ledgers now_x.ledgers (grows t x (lt, small)) i e less at) message)
          | inr le ↦ absurd (new_is s v w t x over snapped.phase knows small grows i e at le message)
        ]

    lacks : has u.cursor snapped.asked.index ≡ false
    lacks =
        is_false (has u.cursor snapped.asked.index)
        (λ there.
        let below = found_below (length was_x.entries) was_x.subs n u (indexes s (opening_world s) v (opening_starts s) from_v (node s t x)).subs here snapped.asked.index there in
        let new = snapped.new in omega (arith, below, new))

    within : snapped.asked.index < length now_x.entries
    within = slice_get_within now_x.entries snapped.asked.index snapped.asked.snapshot.entry snapped.asked.snapshot.stands

    -- it is offered past it, and all settles
    got : HasAllOf s v z t y x n × ((o : World) → Since s t y n z o → NotOfThen s v o t y n x)
    got =
        offered s scripted first asking t x y num k u snapped.remote lt known pair snapped.asked here_w replicated (λ i e lower at message. drained_w i e at message) lacks
        (omega (arith, within, enough)) short (asking_leaves s t y n x (begun v))

    -- no message was stored first since then
    w1 : World
    w1 = happens s v (event.Snap t x)

    w_is : w ≡ after_settling s w1
    w_is = run_on_from s first asking ∙ after_asking s v t x

    last : World
    last = run s (first ++ (asking ++ offers k t x num))

    last_is : last ≡ (run_from no_limits s (begun w) (offers k t x num)).world
    last_is =
        run_on_from s first (asking ++ offers k t x num)
        ∙ ap (λ (r : Ran). r.world) (run_parts no_limits s (begun v) asking (offers k t x num)
        ∙ ap (λ (r : Ran). run_from no_limits s r (offers k t x num)) (open_at s v asking ∙ ap begun (sym (run_on_from s first asking))))

    quiet : Quiet s v t z
    quiet =
        let asked = quiet_event s v v t (event.Snap t x) over refl (quiet_start s v t) in
        let stood : Quiet s v t w = subst (Quiet s v t) (sym w_is) (settling_keeps s (Quiet s v t) (quiet_kept s v t over) w1 asked) in
        let told : Quiet s v t last = subst (Quiet s v t) (sym last_is) (quiet_offers s v t x num over k w stood) in
        subst (Quiet s v t) (sym (settled_on s (first ++ (asking ++ offers k t x num)))) (settling_keeps s (Quiet s v t) (quiet_kept s v t over) last told)
