-- Neither a snap nor an offer deletes or seeks a subscription.
use Rattle.std.proofs.Common.{◌≡◌, zero, suc, true, false, List, ◌∷◌, ◌++◌, refl, ℕ, []}
use Rattle.std.specs.Prelude.{Option, None}
use Rattle.std.specs.List.{list_any}
use Rattle.world_laws.proofs.Types.{Step}
use Rattle.world_laws.proofs.Types.event
use Rattle.world_laws.proofs.Types.step
use Rattle.geo_base.specs.Broker.{Broker, Site}
use Rattle.geo_base.specs.Plan.{Plan}
use Rattle.geo_base.specs.Planned.{Planned, in_range, planned, planned_in}
use Rattle.geo_base.specs.Run.{Ran, no_limits, steps}
use Rattle.geo_base.specs.Setup.{Setup, sub_name}
use Rattle.geo_base.specs.World.{World, site, topic_at}
use Rattle.world_laws.proofs.Walks.OfferWalk.{offer_shape, snap_shape}
use Rattle.world_laws.proofs.Walks.Shapes.{Offers, Snaps}
use Rattle.world_laws.proofs.Walks.Walk.{on_if}
use Rattle.failover_laws.specs.Ended.{asking_steps}
use Rattle.failover_laws.specs.Procedure.{offers}
use Rattle.failover_laws.specs.Run.{AllLeave}
use Rattle.failover_laws.specs.Since.{leaves, takes_back}
use Rattle.failover_laws.proofs.Running.{not_both, updates_take}

snaps_take : (m : List ℕ) (h : Site) (b : Broker) (q : Plan) → Snaps h b q → list_any (takes_back m) q.writes ≡ false
snaps_take m h b q Snaps.NothingToAsk = refl
snaps_take m h b q (Snaps.Asks any none) = refl

offers_take : (m : List ℕ) (h : Site) (b : Broker) (n : List ℕ) (q : Plan) → Offers h b n q → list_any (takes_back m) q.writes ≡ false
offers_take m h b n q Offers.NothingToOffer = refl
offers_take m h b n q (Offers.Gives v i at e due is picked) = refl
offers_take m h b n q (Offers.SkipsMarker v i e ws due is after) = updates_take m h b _ ws after
offers_take m h b n q (Offers.Caches v i j e c ws due is after) = updates_take m h b _ ws after

snap_leaves : (s : Setup) (t y : ℕ) (n : List ℕ) (w : World) (u x : ℕ) → leaves s t y n (planned s w (event.Snap u x)) ≡ true
unfolding planned
snap_leaves s t y n w u x =
    on_if (λ (o : Option Planned). leaves s t y n o ≡ true) (in_range s (event.Snap u x)) (planned_in s w (event.Snap u x)) None
    (not_both _ _ (snaps_take n (site s u x) (topic_at s w u x) _ (snap_shape (site s u x) (topic_at s w u x)))) refl

offer_leaves : (s : Setup) (t y : ℕ) (n : List ℕ) (w : World) (u x num : ℕ) → leaves s t y n (planned s w (event.Offer u x num)) ≡ true
unfolding planned
offer_leaves s t y n w u x num =
    on_if (λ (o : Option Planned). leaves s t y n o ≡ true) (in_range s (event.Offer u x num)) (planned_in s w (event.Offer u x num)) None
    (not_both _ _ (offers_take n (site s u x) (topic_at s w u x) (sub_name s u num) _ (offer_shape (site s u x) (topic_at s w u x) (sub_name s u num)))) refl

pub offers_leave : (s : Setup) (t y : ℕ) (n : List ℕ) (x num k : ℕ) (r : Ran) → AllLeave no_limits s t y n r (offers k t x num ++ step.Settle ∷ [])
offers_leave s t y n x num zero r = (refl, tt)
offers_leave s t y n x num (suc k) r = (offer_leaves s t y n r.world t x num, offers_leave s t y n x num k (steps no_limits s r (step.Plain (event.Offer t x num))))

pub asking_leaves : (s : Setup) (t y : ℕ) (n : List ℕ) (x : ℕ) (r : Ran) → AllLeave no_limits s t y n r (asking_steps t x)
asking_leaves s t y n x r = (snap_leaves s t y n r.world t x, (refl, tt))

-- some steps, and then others
pub leave_on : (s : Setup) (t y : ℕ) (n : List ℕ) (r : Ran) (es fs : List Step) → AllLeave no_limits s t y n r es → ((q : Ran) → AllLeave no_limits s t y n q fs)
    → AllLeave no_limits s t y n r (es ++ fs)
leave_on s t y n r [] fs h more = more r
leave_on s t y n r (e ∷ es) fs h more = (h.0, leave_on s t y n (steps no_limits s r e) es fs h.1 more)
