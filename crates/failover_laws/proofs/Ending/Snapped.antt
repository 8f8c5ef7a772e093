-- A snapshot that is asked for after a settling stands after the next.
use Rattle.std.proofs.Common.{◌≡◌, ℕ, ◌<◌, ◌≤◌, true, List, [], ◌∷◌, ◌++◌, length, refl, sym, subst, ◌∙◌, arith}
use Rattle.std.specs.Prelude.{Some, None, slice_get}
use Rattle.std.specs.List.{list_any}
use Rattle.std.proofs.lemmas.Bool.{eqb-true}
use Rattle.world_laws.proofs.Types.{ClusterPosition, Entry, Step}
use Rattle.world_laws.proofs.Types.event
use Rattle.world_laws.proofs.Types.step
use Rattle.geo_base.specs.Broker.{Broker}
use Rattle.geo_base.specs.Happening.{happens}
use Rattle.geo_base.specs.Laws.{IsComplete, IsShort, after_settling}
use Rattle.geo_base.specs.Markers.{request_marker}
use Rattle.geo_base.specs.Run.{no_limits, run}
use Rattle.geo_base.specs.Scripted.{IsScripted}
use Rattle.geo_base.specs.Setup.{Setup}
use Rattle.geo_base.specs.Subscription.{Subscription}
use Rattle.geo_base.specs.World.{World, opening_world, site, topic_at}
use Rattle.world_laws.specs.Reached.{ReachedFrom}
use Rattle.world_laws.proofs.ComesOver.Complete.{budget_always}
use Rattle.world_laws.proofs.Induction.Reaching.{goes_on}
use Rattle.world_laws.proofs.OnceInOrder.Members.{get_last}
use Rattle.world_laws.proofs.Replicating.Sizes.{node_there}
use Rattle.world_laws.proofs.Snapshotting.Grows.{Grown}
use Rattle.world_laws.proofs.Snapshotting.Hearing.{grown_get}
use Rattle.failover_laws.specs.Covers.{IsAskedSince}
use Rattle.failover_laws.specs.Ended.{IsSnapped, LawEnded, asking_steps}
use Rattle.failover_laws.proofs.Acting.RunOn.{after_asking, after_snap, reached_on, run_on_from, settled_is, settled_on}
use Rattle.failover_laws.proofs.Covers.Known.{fewer_before, grown_on, reached_then, tracing_at}
use Rattle.failover_laws.proofs.Ending.EndedRuns.{none_law}
use Rattle.failover_laws.proofs.Ending.Phase.{AllOver, InPhase, IsStored}
use Rattle.failover_laws.proofs.Ending.SnapshotEnds.{Ends, MaySnap, first_id, snap_is, snapshot_ends}
use Rattle.failover_laws.proofs.Offering.OffersPass.{places}

-- in a world that a settling leads to all is over
pub over_after : (s : Setup) → IsScripted s → (es : List Step) (t : ℕ) → t < length s.topics → IsShort (run s (es ++ step.Settle ∷ [])) → AllOver s (run s (es ++ step.Settle ∷ [])) t
over_after s scripted es t lt short =
    let is = settled_on s es in record {
      scripted = scripted;
      reached = (goes_on s (opening_world s)).limited no_limits (es ++ step.Settle ∷ []);
      topic = lt;
      complete = λ a b p. subst (λ (u : World). IsComplete s u t a b) (sym is) ((budget_always.complete s scripted).run es (subst IsShort is short) t a b lt p);
    }

-- what has come of it: no update was read, and the snapshot that was asked for stands among what is new
pub record HasSnapped (s : Setup) (v w : World) (t x : ℕ) : Type 0 where
  pub phase : InPhase s v t x (first_id s v t x) w
  pub remote : List ClusterPosition
  pub asked : IsAskedSince s v w t x remote
  pub new : length (topic_at s v t x).entries ≤ asked.index

pub has_snapped : (s : Setup) → IsScripted s → (es : List Step) (t x : ℕ) → let first = es ++ step.Settle ∷ [] in let v = run s first in let w = run s (first ++ asking_steps t x) in
    t < length s.topics → x < length s.clusters → list_any (λ (u : Subscription). u.replicated) (topic_at s v t x).subs ≡ true → IsShort w → HasSnapped s v w t x
has_snapped s scripted es t x lt small any short = record {
  phase = ends.phase;
  remote = places (site s t x) stored.local stored.listed;
  asked = record {
    id = first_id s v t x;
    local = stored.local;
    listed = stored.listed;
    index = stored.index;
    snapshot = record { entry = stored.entry; stands = stored.stands; origin = eqb-true stored.entry.ident.origin x stored.of; is = stored.is };
    same = refl;
    request = length (topic_at s v t x).entries;
    asks = record {
      entry = request;
      stands = grown_get (topic_at s w1 t x).entries (topic_at s w t x).entries (topic_at s w1 t x).ledgers (topic_at s w t x).ledgers (w1_to_w t x (lt, small))
          (length (topic_at s v t x).entries) request request_1;
      origin = refl;
      is = refl;
    };
    since = omega arith;
  };
  new = stored.behind;
}
  where
    first : List Step
    first = es ++ step.Settle ∷ []

    v : World
    v = run s first

    w : World
    w = run s (first ++ asking_steps t x)

    w1 : World
    w1 = happens s v (event.Snap t x)

    w_is : w ≡ after_settling s w1
    w_is = run_on_from s first (asking_steps t x) ∙ after_asking s v t x

    w1_is : run s (first ++ step.Plain (event.Snap t x) ∷ []) ≡ w1
    w1_is = run_on_from s first (step.Plain (event.Snap t x) ∷ []) ∙ after_snap s v t x

    from_v : ReachedFrom s (opening_world s) v
    from_v = (goes_on s (opening_world s)).limited no_limits first

    from_1 : ReachedFrom s (opening_world s) w1
    from_1 = reached_then s (opening_world s) v w1 from_v (ReachedFrom.AfterEvent v (event.Snap t x) ReachedFrom.Starting)

    one_to_w : ReachedFrom s w1 w
    one_to_w = subst (ReachedFrom s w1) (sym w_is) (subst (ReachedFrom s w1) (settled_is s w1) ((goes_on s w1).limited no_limits (step.Settle ∷ [])))

    short_v : IsShort v
    short_v = let fewer = fewer_before s v w (reached_on s first (asking_steps t x)) in omega (arith, fewer, short)

    may : MaySnap s v t x
    may =
        let is = settled_on s es in record {
          there = (lt, small);
          replicated = any;
          none = subst (λ (u : World). (topic_at s u t x).builder ≡ None) (sym is) ((none_law s scripted).run es (subst IsShort is short_v) t x lt small);
        }

    none_w : (topic_at s (after_settling s w1) t x).builder ≡ None
    none_w =
        subst (λ (u : World). IsShort (after_settling s u) → (topic_at s (after_settling s u) t x).builder ≡ None) w1_is
        (λ sh. (none_law s scripted).run (first ++ step.Plain (event.Snap t x) ∷ []) sh t x lt small) (subst IsShort w_is short)

    ends : Ends s v w t x (first_id s v t x)
    ends =
        subst (λ (u : World). Ends s v u t x (first_id s v t x)) (sym w_is)
        (snapshot_ends s v t x (over_after s scripted es t lt short_v) may (subst IsShort w_is short) none_w)

    stored : IsStored s v w t x (first_id s v t x)
    stored = ends.stored

    request : Entry
    request = request_marker (site s t x) (topic_at s v t x) (first_id s v t x)

    request_1 : slice_get (topic_at s w1 t x).entries (length (topic_at s v t x).entries) ≡ Some request
    request_1 =
        subst (λ (b : Broker). slice_get b.entries (length (topic_at s v t x).entries) ≡ Some request)
        (sym (snap_is s v t x may (node_there s v t x (tracing_at s scripted v from_v).0.0.0.0.0.0.0.sized (lt, small)))) (get_last (topic_at s v t x).entries request)

    w1_to_w : Grown s w1 w
    w1_to_w = grown_on s scripted w1 w from_1 one_to_w

pub snapped : (s : Setup) → IsScripted s → (es : List Step) → IsSnapped s es
snapped s scripted es t x lt small any short = let h = has_snapped s scripted es t x lt small any short in (h.remote, h.asked)

pub ended_law : LawEnded
ended_law = record { none = none_law; stored = snapped }
