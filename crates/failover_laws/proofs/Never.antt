-- Nothing that an update passed over is given again after a step that acts on it.
use Rattle.std.proofs.Common.{◌≡◌, ℕ, ◌+◌, ◌^◌, ◌<◌, List, [], ◌∷◌, ◌++◌, refl, sym, ap, subst, ◌∙◌}
use Rattle.std.specs.Prelude.{Some, slice_get}
use Rattle.std.proofs.lemmas.Option.{same_Some}
use Rattle.world_laws.proofs.Types.{ClusterPosition, Event, Step}
use Rattle.world_laws.proofs.Types.event
use Rattle.geo_base.specs.Broker.{Broker}
use Rattle.geo_base.specs.Happening.{halts_planned, happens}
use Rattle.geo_base.specs.Laws.{ArePair, IsPrefix, IsShort, begun}
use Rattle.geo_base.specs.Moments.{InRound, NotBegun, Settling, settling_so_far}
use Rattle.geo_base.specs.Planned.{planned}
use Rattle.geo_base.specs.Run.{Ran, all_settle, budget, no_limits, pairs, resets_of, round_of, rounds_of, run, run_from, settled_world, steps}
use Rattle.geo_base.specs.Safe.{AllOnce}
use Rattle.geo_base.specs.Scripted.{IsScripted}
use Rattle.geo_base.specs.Setup.{Setup}
use Rattle.geo_base.specs.Updating.{positions_for}
use Rattle.geo_base.specs.World.{World, opening_world, topic_at}
use Rattle.world_laws.specs.AlikeWorlds.{AreAlike, world_on}
use Rattle.world_laws.proofs.OnceInOrder.Once.{once_always}
use Rattle.world_laws.proofs.Replicating.Pairs.{prefix_always}
use Rattle.world_laws.proofs.KeptRuns.ResumedRuns.{between_alike, run_open, run_parts}
use Rattle.world_laws.proofs.Budget.Rounds.{at, goes_on_for_ever}
use Rattle.failover_laws.specs.Behind.{IsOfSnapshot, UpdatesBehind}
use Rattle.failover_laws.specs.UpdatedTo.{HasUpdatedTo, MayUpdateTo, UpdatesHaveEffect}
use Rattle.failover_laws.specs.Run.{ActsOn, AllLeave, IsNeverAgain, LawNeverAgain, ReadsIndex}
use Rattle.failover_laws.specs.Since.{AfterEvent, AfterHalt, Since, StaysAcknowledged, Starting}
use Rattle.failover_laws.proofs.Behind.{behind_always, own_behind}
use Rattle.failover_laws.proofs.Given.{not_again}
use Rattle.failover_laws.proofs.Lasting.{entry_stays, index_stays, since_keeps, since_then, still_passed}
use Rattle.failover_laws.proofs.Passed.{halted_passes, read_counts, read_passes}
use Rattle.failover_laws.proofs.Passing.{passes_between}
use Rattle.failover_laws.proofs.Running.{all_follow, part_leaves, read_leaves, settling_follows}
use Rattle.failover_laws.proofs.AgainSettling.{IsBusy, in_round, rest_follows}

-- ---- a step that acts on an update

-- where it is read, in what world that leaves n has passed over it, and that what the step leads to follows
record Acted (s : Setup) (r : Ran) (t y a : ℕ) (n : List ℕ) (told : List ClusterPosition) (j : ℕ) (e : Step) : Type 0 where
  at : Settling
  reads : ReadsIndex s (settling_so_far no_limits s r at).world t y a n told j
  after : World
  since : Since s t y n (settling_so_far no_limits s r at).world after
  is_updated : MayUpdateTo s (settling_so_far no_limits s r at).world t y a n told j → HasUpdatedTo (topic_at s after t y) n a j
  follows : MayUpdateTo s (settling_so_far no_limits s r at).world t y a n told j → Since s t y n after (steps no_limits s r e).world

-- settling goes on after a read in one of its rounds
settling_rest : (s : Setup) (u : World) (t y : ℕ) (n : List ℕ) (m i : ℕ) (e : Event) → m < budget s u + 1 → slice_get (round_of (pairs s)) i ≡ Some e
    → let w = (settling_so_far no_limits s (begun u) (InRound m i)).world in w.events < (happens s w e).events
    → Since s t y n (happens s w e) (settled_world no_limits s (begun u)).world
unfolding settled_world
settling_rest s u t y n m i e lt found busy =
    subst Goal (sym (goes_on_for_ever s (resets_of (pairs s)) u)) (rest_follows s t y n m (budget s u + 1) (all_settle no_limits s (at u) (resets_of (pairs s))).world i e found lt) busy
  where
    Goal : Ran → Type 0
    Goal q =
        IsBusy s (rounds_of m no_limits s q) i e
        → Since s t y n (happens s (in_round s (rounds_of m no_limits s q) i) e) (rounds_of (budget s u + 1) no_limits s q).world

acted : (s : Setup) (u : World) (t y a : ℕ) (n : List ℕ) (told : List ClusterPosition) (j : ℕ) (e : Step) → ActsOn s (begun u) t y a n told j e → Acted s (begun u) t y a n told j e
unfolding steps
acted s u t y a n told j _ (ActsOn.Reads reads) = record {
  at = NotBegun;
  reads = reads;
  after = happens s u (event.Read t y a);
  since = AfterEvent u (event.Read t y a) (read_leaves s t y n u t y a) Starting;
  is_updated = read_passes s u t y a n told j;
  follows = λ m. Starting;
}
acted s u t y a n told j _ (ActsOn.Stops k reads le) = record {
  at = NotBegun;
  reads = reads;
  after = halts_planned s u k (planned s u (event.Read t y a));
  since = AfterHalt u k (event.Read t y a) (part_leaves k s t y n (planned s u (event.Read t y a)) (read_leaves s t y n u t y a)) Starting;
  is_updated = λ m. halted_passes s u t y a n told j k m le;
  follows = λ m. Starting;
}
acted s u t y a n told j _ (ActsOn.Settles rounds i lt found reads) =
    let w = (settling_so_far no_limits s (begun u) (InRound rounds i)).world in record {
      at = InRound rounds i;
      reads = reads;
      after = happens s w (event.Read t y a);
      since = AfterEvent w (event.Read t y a) (read_leaves s t y n w t y a) Starting;
      is_updated = read_passes s w t y a n told j;
      follows = λ m. settling_rest s u t y n rounds i (event.Read t y a) lt found (read_counts s w t y a n told j m);
    }

-- ---- the run

-- what holds in each world of the run while it is short
record Standing (s : Setup) (w : World) : Type 0 where
  is_updated : UpdatesHaveEffect s w
  behind : UpdatesBehind s w
  once : AllOnce w
  prefix : IsPrefix s w

abbrev AlwaysStanding : Setup → World → Type 0
AlwaysStanding s v = (es : List Step) (at : Settling) → IsShort (world_on s v es at) → Standing s (world_on s v es at)

never_again : (s : Setup) (v : World) → AlwaysStanding s v → (es : List Step) → IsNeverAgain s v es
never_again s v standing es before between rest e t y a n told j at whole acts leave = record {
  passed = passed;
  again = not_again s w t y n a j passed;
  behind = λ short.
      let h = standing (before ++ e ∷ between) at short in let r = act.reads.next in
      let pair : ArePair s a y = (r.pair.1, r.pair.0, λ is. r.pair.2 (sym is)) in
      let from : IsOfSnapshot s w t a y j told = h.behind t y r.index a y j n told r.pair.0 pair (record {
        entry = r.update.entry;
        stands = entry_stays n (topic_at s read t y) (topic_at s w t y) r.index r.update.entry stays r.update.stands;
        origin = r.update.origin;
        is = r.update.is;
      }) (index_stays n (topic_at s read t y) (topic_at s w t y) (positions_for y told) j stays act.reads.names) in
      (from, own_behind s w h.once h.prefix t a y j from.request n from.id pair passed from.ahead);
}
  where
    w : World
    w = world_on s v (before ++ e ∷ between) at

    u : World
    u = (run_from no_limits s (begun v) before).world

    open_run : run_from no_limits s (begun v) before ≡ begun u
    open_run = let none = run_open s (begun v) before refl in λ i. record { world = u; ended = none i }

    act : Acted s (begun u) t y a n told j e
    act = acted s u t y a n told j e (subst (λ (r : Ran). ActsOn s r t y a n told j e) open_run acts)

    read : World
    read = (settling_so_far no_limits s (begun u) act.at).world

    stepped : run_from no_limits s (begun v) (before ++ e ∷ []) ≡ steps no_limits s (begun u) e
    stepped = run_parts no_limits s (begun v) before (e ∷ []) ∙ ap (λ (r : Ran). steps no_limits s r e) open_run

    all : run_from no_limits s (begun v) (before ++ e ∷ between) ≡ run_from no_limits s (steps no_limits s (begun u) e) between
    all = run_parts no_limits s (begun v) before (e ∷ between) ∙ ap (λ (r : Ran). run_from no_limits s (steps no_limits s r e) between) open_run

    stand : Standing s read
    stand =
        subst (λ (r : Ran). IsShort (settling_so_far no_limits s r act.at).world → Standing s (settling_so_far no_limits s r act.at).world) open_run
        (standing before act.at) act.reads.short

    may : MayUpdateTo s read t y a n told j
    may =
        let one = stand.is_updated t y a n told act.reads.next act.reads.room in
        let same : one.0 ≡ j = same_Some _ _ (sym one.1.names ∙ act.reads.names) in
        subst (λ (i : ℕ). MayUpdateTo s read t y a n told i) same one.1

    follows : Since s t y n act.after w
    follows =
        subst (λ (r : Ran). Since s t y n act.after (settling_so_far no_limits s r at).world) (sym all)
        (settling_follows no_limits s t y n act.after (run_from no_limits s (steps no_limits s (begun u) e) between) at
        (all_follow no_limits s t y n act.after (steps no_limits s (begun u) e) between
        (subst (λ (r : Ran). AllLeave no_limits s t y n r between) stepped leave) (act.follows may)))

    stays : StaysAcknowledged n (topic_at s read t y) (topic_at s w t y)
    stays = since_keeps s t y n read w (since_then s t y n read act.after w act.since follows)

    passed : HasUpdatedTo (topic_at s w t y) n a j
    passed = still_passed n (topic_at s act.after t y) (topic_at s w t y) a j (since_keeps s t y n act.after w follows) (act.is_updated may)

-- ---- from the opening world, and from one that a run that was kept goes on from

run_stands : (s : Setup) → IsScripted s → AlwaysStanding s (opening_world s)
run_stands s scripted es at short = record {
  is_updated = (passes_between s scripted).between no_limits es at short;
  behind = ((behind_always s scripted).between no_limits es at short).2;
  once = (once_always s).between no_limits es at;
  prefix = (prefix_always s).between no_limits es at;
}

-- these facts look at brokers alone
alike_passes : (s : Setup) (v w : World) → v.brokers ≡ w.brokers → UpdatesHaveEffect s v → UpdatesHaveEffect s w
alike_passes s v w same h = subst (λ (bs : List Broker). UpdatesHaveEffect s (record w { brokers = bs })) same there
  where
    there : UpdatesHaveEffect s (record w { brokers = v.brokers })
    there t y a n told r room =
        let m = h t y a n told (record { topic = r.topic; pair = r.pair; index = r.index; reads = r.reads; update = r.update }) room in
        (m.0, record { next = r; names = m.1.names; stands = m.1.stands; may = m.1.may })

alike_behind : (s : Setup) (v w : World) → v.brokers ≡ w.brokers → UpdatesBehind s v → UpdatesBehind s w
alike_behind s v w same h = subst (λ (bs : List Broker). UpdatesBehind s (record w { brokers = bs })) same there
  where
    there : UpdatesBehind s (record w { brokers = v.brokers })
    there t z i a y j n told small pair m names =
        let f = h t z i a y j n told small pair m names in record {
          id = f.id;
          local = f.local;
          listed = f.listed;
          index = f.index;
          snapshot = f.snapshot;
          same = f.same;
          request = f.request;
          below = f.below;
          ahead = record { request = f.ahead.request; ahead = f.ahead.ahead };
        }

resumed_stands : (s : Setup) → IsScripted s → (v : World) (before : List Step) → AreAlike (run s before) v → AlwaysStanding s v
resumed_stands s scripted v before alike es at short =
    let h = between_alike s v before es at alike in let w = world_on s v es at in
    let r = run_stands s scripted (before ++ es) at (subst (λ (k : ℕ). k < 2 ^ 62) (sym h.events) short) in
    record {
      is_updated = alike_passes s _ w h.brokers r.is_updated;
      behind = alike_behind s _ w h.brokers r.behind;
      once = subst (λ (bs : List Broker). AllOnce (record w { brokers = bs })) h.brokers r.once;
      prefix = subst (λ (bs : List Broker). IsPrefix s (record w { brokers = bs })) h.brokers r.prefix;
    }

pub never_law : LawNeverAgain
never_law = record {
  script = λ s scripted es. never_again s (opening_world s) (run_stands s scripted) es;
  resumed = λ s scripted v before es alike. never_again s v (resumed_stands s scripted v before alike) es;
}
