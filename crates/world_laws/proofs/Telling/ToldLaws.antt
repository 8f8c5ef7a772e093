-- Update and safe, at every moment of a short run: what is told is what is settled by then.
use Rattle.std.proofs.Common.{◌≡◌, ◌≤◌, Bool, true, false, length, refl, subst, arith}
use Rattle.std.specs.Prelude.{Option, Some, None, nat_lt, slice_get}
use Rattle.std.proofs.lemmas.Bool.{ltb-true}
use Rattle.std.proofs.lemmas.Bool.Decides.{nat_tests}
use Rattle.std.proofs.lemmas.Option.{none-some}
use Rattle.world_laws.proofs.Types.{Event}
use Rattle.world_laws.proofs.Types.event
use Rattle.geo_base.specs.Broker.{Broker}
use Rattle.geo_base.specs.Laws.{IsShort, LawSafe, LawUpdate, NamesSettled}
use Rattle.geo_base.specs.Planned.{Planned, planned}
use Rattle.geo_base.specs.Safe.{OnlySettled, OnlySettledOn}
use Rattle.geo_base.specs.Settled.{SettledSoFar, settled_event}
use Rattle.geo_base.specs.Setup.{Setup}
use Rattle.geo_base.specs.World.{World, topic_at}
use Rattle.world_laws.proofs.Snapshotting.Asked.{Named, named}
use Rattle.world_laws.proofs.Dispatching.Keeping.{kept_between}
use Rattle.world_laws.proofs.Telling.NamesTold.{names_settled}
use Rattle.world_laws.proofs.OnceInOrder.Once.{once_always}
use Rattle.world_laws.proofs.Telling.OnlyTold.{first_included, tells_more}
use Rattle.world_laws.proofs.Replicating.Pairs.{past_node}
use Rattle.world_laws.proofs.Telling.QuietTells.{quiet_tells}
use Rattle.world_laws.proofs.Snapshotting.SecondRound.{Knows, knows_now, knows_written}
use Rattle.world_laws.proofs.Telling.ServeTells.{seek_tells, serve_tells}
use Rattle.world_laws.proofs.Dispatching.SubFrames.{each_at_place}
use Rattle.world_laws.proofs.Telling.Told.{HasTold, IsToldKept, OnlyTold, TellsAll, ToldOver, told_too}
use Rattle.world_laws.proofs.Telling.ToldRuns.{always_told}
use Rattle.world_laws.proofs.Telling.ToldWorlds.{told_over_kept, told_written}

-- whatever an event writes into cursors is told with what it settles
with_none : (s : Setup) (w : World) (told new : SettledSoFar) (o : Option Planned) → TellsAll s w told o → TellsAll s w (told_too told new) o
with_none s w told new None h = tt
with_none s w told new (Some p) h = λ short there.
    tells_more told (told_too told new) (first_included told new) p.topic s.per_ledger (topic_at s w p.topic p.cluster) p.plan.writes (h short there)

pub event_tells : (s : Setup) (told : SettledSoFar) (w : World) (e : Event) → ToldOver s told w → TellsAll s w (told_too told (λ t n. settled_event s w t n e)) (planned s w e)
event_tells s told w (event.Serve x c) h = serve_tells s told w x c h
event_tells s told w (event.Seek t x m to) h = seek_tells s told w t x m to h
event_tells s told w e h = with_none s w told (λ t n. settled_event s w t n e) (planned s w e) (quiet_tells s w told e refl h)

pub told_kept : (s : Setup) → Named s → IsToldKept s (ToldOver s)
told_kept s names = told_over_kept s names (λ told w e h. event_tells s told w e h)

-- only what is settled is acknowledged; in a topic that is not there nobody subscribes
pub only_settled : (s : Setup) (w : World) (told : SettledSoFar) → Knows s w → HasTold s w told → OnlySettled s w told
only_settled s w told k kept t x v small sub = by (nat_lt t (length s.topics)) refl
  where
    by : (b : Bool) → nat_lt t (length s.topics) ≡ b → OnlySettledOn told t (topic_at s w t x) v
    by true r =
        let b = topic_at s w t x in
        each_at_place (OnlyTold told t b.entries) b.subs sub.0 v (kept t x (ltb-true _ _ r, small)).only sub.1
    by false r =
        let past : length s.topics ≤ t = grind (arith, nat_tests, r) in
        let P : Broker → Type 0 = λ b. slice_get b.subs sub.0 ≡ Some v in
        absurd (none-some v (subst P (past_node s w.brokers t x k.size past) sub.1))

pub update_always : LawUpdate
update_always s scripted =
    always_told s (ToldOver s) (λ w settled. IsShort w → NamesSettled s w settled) (told_kept s (named s scripted))
    (λ told w h short. names_settled s w told (knows_now s w h.0.0 short) (h.1 short))
    (λ told w n p shape tells h short. names_settled s _ told (knows_written s w n p shape h.0.0 short) (told_written s told w n p shape tells h short))

pub safe_always : LawSafe
safe_always = record {
  settled = λ s scripted.
      always_told s (ToldOver s) (λ w settled. IsShort w → OnlySettled s w settled) (told_kept s (named s scripted))
      (λ told w h short. only_settled s w told (knows_now s w h.0.0 short) (h.1 short))
      (λ told w n p shape tells h short. only_settled s _ told (knows_written s w n p shape h.0.0 short) (told_written s told w n p shape tells h short));
  once = once_always;
  kept = kept_between;
}
