-- A fact that events of settling keep holds after a settling; and what such an event does to cursors of replicators, which only grow.
use Rattle.std.proofs.Common.{◌≡◌, ℕ, zero, suc, ◌+◌, ◌<◌, Bool, true, false, List, [], ◌∷◌, length, refl, sym, ap, subst, ◌∙◌, ◌==◌}
use Rattle.std.specs.Prelude.{◌||◌, is_some}
use Rattle.world_laws.proofs.Types.{Event, Fate, Write}
use Rattle.world_laws.proofs.Types.event
use Rattle.world_laws.proofs.Types.fate
use Rattle.world_laws.proofs.Types.write
use Rattle.geo_base.specs.Broker.{Broker, replicator_at}
use Rattle.geo_base.specs.Cursor.{has}
use Rattle.geo_base.specs.Happening.{happens}
use Rattle.geo_base.specs.Laws.{after_settling, begun}
use Rattle.geo_base.specs.Plan.{Plan, done}
use Rattle.geo_base.specs.Run.{Pair, Ran, all_settle, budget, counting_round, goes_on, no_limits, pairs, resets_of, round_of, rounds_of, settled_world, settles}
use Rattle.geo_base.specs.Replicator.{Replicator}
use Rattle.geo_base.specs.Setup.{Setup}
use Rattle.geo_base.specs.World.{World}
use Rattle.world_laws.proofs.Replicating.Cursors.{has_more}
use Rattle.world_laws.proofs.Replicating.Effects.{Each, done_replicator, replicator_after, replicator_written}
use Rattle.world_laws.proofs.Walks.Walk.{on_elim, on_if}
use Rattle.failover_laws.proofs.Acting.Acking.{changes_left}

-- ---- events of settling

abbrev is_good : Fate → Bool
is_good fate.Good = true
is_good f = false

abbrev pub is_settling : Event → Bool
is_settling (event.Reset t x y) = true
is_settling (event.Take t x y f) = is_good f
is_settling (event.Receipt t x y f) = is_good f
is_settling (event.Read t x y) = true
is_settling e = false

resets_settle : (ps : List Pair) → Each (λ (e : Event). is_settling e ≡ true) (resets_of ps)
resets_settle [] = tt
resets_settle (p ∷ ps) = (refl, resets_settle ps)

round_settles : (ps : List Pair) → Each (λ (e : Event). is_settling e ≡ true) (round_of ps)
round_settles [] = tt
round_settles (p ∷ ps) = (refl, (refl, (refl, round_settles ps)))

-- what they keep, and counts
pub record IsKeptSettling (s : Setup) (P : World → Type 0) : Type 0 where
  pub event : (w : World) (e : Event) → is_settling e ≡ true → P w → P (happens s w e)
  pub idle : (w : World) (n : ℕ) → P w → P (record w { idle = n })
  pub round : (w : World) (n : ℕ) → P w → P (record w { rounds = n })

open_still : (s : Setup) (P : World → Type 0) (r : Ran) (w : World) → P r.world → P w → P (goes_on no_limits r w).world
open_still s P r w p q = on_if (λ (r' : Ran). P r'.world) (is_some r.ended) _ _ p q

events_keep : (s : Setup) (P : World → Type 0) → IsKeptSettling s P → (r : Ran) (es : List Event) → Each (λ (e : Event). is_settling e ≡ true) es → P r.world
    → P (all_settle no_limits s r es).world
events_keep s P k r [] all p = p
events_keep s P k r (e ∷ es) all p =
    events_keep s P k (settles no_limits s r e) es all.1 (open_still s P r _ p (k.idle (happens s r.world e) r.world.idle (k.event r.world e all.0 p)))

rounds_keep : (n : ℕ) (s : Setup) (P : World → Type 0) → IsKeptSettling s P → (r : Ran) → P r.world → P (rounds_of n no_limits s r).world
rounds_keep zero s P k r p = p
rounds_keep (suc n) s P k r p =
    let r' : Ran = all_settle no_limits s r (round_of (pairs s)) in
    let q = events_keep s P k r (round_of (pairs s)) (round_settles (pairs s)) p in
    on_elim (λ (z : Ran). P z.world) (is_some r'.ended || (r'.world.events == r.world.events)) r' (rounds_of n no_limits s (counting_round r')) q
    (rounds_keep n s P k (counting_round r') (k.round r'.world (r'.world.rounds + 1) q))

pub settling_keeps : (s : Setup) (P : World → Type 0) → IsKeptSettling s P → (w : World) → P w → P (after_settling s w)
unfolding settled_world
settling_keeps s P k w p =
    rounds_keep (budget s w + 1) s P k (all_settle no_limits s (begun w) (resets_of (pairs s))) (events_keep s P k (begun w) (resets_of (pairs s)) (resets_settle (pairs s)) p)

-- ---- cursors of replicators grow

write_keeps_index : (y i : ℕ) (s : Replicator) (w : Write) → has s.cursor i ≡ true → has (replicator_written y s w).cursor i ≡ true
write_keeps_index y i s (write.ReplicatorAck z k) h = on_if (λ (v : Replicator). has v.cursor i ≡ true) (z == y) _ _ (has_more s.cursor k i h) h
write_keeps_index y i s (write.SessionNumber z n) h = on_if (λ (v : Replicator). has v.cursor i ≡ true) (z == y) _ _ h h
write_keeps_index y i s (write.Append e) h = h
write_keeps_index y i s (write.Create n kind replicated latest) h = h
write_keeps_index y i s (write.Alter n kind replicated) h = h
write_keeps_index y i s (write.Delete n) h = h
write_keeps_index y i s (write.Acks n is) h = h
write_keeps_index y i s (write.Seek n k) h = h
write_keeps_index y i s write.Ledger h = h

writes_keep_index : (y i : ℕ) (s : Replicator) (ws : List Write) → has s.cursor i ≡ true → has (replicator_after y s ws).cursor i ≡ true
writes_keep_index y i s [] h = h
writes_keep_index y i s (w ∷ ws) h = writes_keep_index y i (replicator_written y s w) ws (write_keeps_index y i s w h)

pub done_keeps_index : (per : ℕ) (b : Broker) (y i : ℕ) (p : Plan) → y < length b.replicators → has (replicator_at b y).cursor i ≡ true → has (replicator_at (done per b p) y).cursor i ≡ true
done_keeps_index per b y i p lt h =
    subst (λ (set : List ℕ). has set i ≡ true)
    (sym (ap (λ (v : Replicator). v.cursor) (done_replicator per b y p lt) ∙ changes_left y (replicator_after y (replicator_at b y) p.writes) p.changes)) (writes_keep_index y i (replicator_at b y) p.writes h)
