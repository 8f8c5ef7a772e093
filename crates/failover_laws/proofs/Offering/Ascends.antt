-- Cursors of subscriptions ascend, so that a mark-delete is at or above all below which every index is acknowledged.
use Rattle.std.proofs.Common.{◌≡◌, ℕ, ◌+◌, ◌*◌, ◌<◌, ◌≤◌, ◌==◌, Bool, true, false, List, [], ◌∷◌, ◌++◌, length, map, refl, sym, subst, ◌∙◌, arith, inl, inr}
use Rattle.std.specs.Prelude.{Option, Some, None, ◌||◌, if◌then◌else◌, is_some, not, take}
use Rattle.std.specs.Str.{bytes_eq}
use Rattle.std.proofs.lemmas.Bool.{eqb-true, false≢true}
use Rattle.std.proofs.lemmas.List.{append-nil}
use Rattle.world_laws.proofs.Types.{Change, Write}
use Rattle.world_laws.proofs.Types.change
use Rattle.world_laws.proofs.Types.write
use Rattle.geo_base.specs.Broker.{Broker, changed, new_broker, no_broker, sub_named, written}
use Rattle.geo_base.specs.Cache.{cached}
use Rattle.geo_base.specs.Client.{Acted}
use Rattle.geo_base.specs.Cursor.{below, has, mark_from}
use Rattle.geo_base.specs.Dispatcher.{given, skipped_index}
use Rattle.geo_base.specs.Happening.{broker_does, broker_halts, client_does, stops}
use Rattle.geo_base.specs.Plan.{Plan, all_changed, all_written, done}
use Rattle.geo_base.specs.Planned.{Planned}
use Rattle.geo_base.specs.Seeking.{restart}
use Rattle.geo_base.specs.Setup.{Setup}
use Rattle.geo_base.specs.Subscription.{Subscription, after_acks, attached, cleared, detached, new_subscription, permitted, sought, with_acks}
use Rattle.geo_base.specs.World.{LinkName, ToClient, World, broker_at, node, topic_at}
use Rattle.world_laws.proofs.Dispatching.SubFrames.{at_name, each_to}
use Rattle.world_laws.proofs.Induction.Frames.{at_copies, at_map, at_set}
use Rattle.world_laws.proofs.Induction.Runs.{IsKept}
use Rattle.world_laws.proofs.Merges.PeerWalk.{each_filter}
use Rattle.world_laws.proofs.OnceInOrder.Members.{below_or}
use Rattle.world_laws.proofs.Replicating.Effects.{Each, each_both}
use Rattle.world_laws.proofs.Walks.Walk.{on_if}
use Rattle.cursor_acks.proofs.Sets.{Rising, has_below_low, rising_range, rising_with_indexes}

mark_low : (set : List ℕ) (low : ℕ) → low ≤ mark_from set low
mark_low [] low = omega arith
mark_low (x ∷ xs) low = on_if (λ (m : ℕ). low ≤ m) (x == low) _ _ (let le = mark_low xs (low + 1) in omega (arith, le)) (omega arith)

mark_first : (x low m : ℕ) (xs : List ℕ) → (low ≤ x) × Rising (x + 1) xs → ((k : ℕ) → low ≤ k → k < m → has (x ∷ xs) k ≡ true) → low < m
    → (Rising (low + 1) xs → ((k : ℕ) → low + 1 ≤ k → k < m → has xs k ≡ true) → m ≤ mark_from xs (low + 1)) → m ≤ mark_from (x ∷ xs) low
mark_first x low m xs rising all lt ih = first (x == low) refl
  where
    later : (k : ℕ) (b : Bool) → (x == k) ≡ b → (b || has xs k) ≡ true → (x ≡ k → ⊥) → has xs k ≡ true
    later k true e h other = absurd (other (eqb-true x k e))
    later k false e h other = h

    first : (b : Bool) → (x == low) ≡ b → m ≤ (if b then mark_from xs (low + 1) else low)
    first true e =
        let is = eqb-true x low e in
        ih (subst (λ (k : ℕ). Rising (k + 1) xs) is rising.1) (λ k le lt'. later k (x == k) refl (all k (omega (arith, le)) lt') (λ same. omega (arith, same, is, le)))
    first false e =
        let there : (false || has xs low) ≡ true = subst (λ (b : Bool). (b || has xs low) ≡ true) e (all low (omega arith) lt) in
        let none = has_below_low (x + 1) xs low rising.1 (let le = rising.0 in omega (arith, le)) in
        absurd (false≢true (sym none ∙ there))

pub mark_high : (set : List ℕ) (low m : ℕ) → Rising low set → ((k : ℕ) → low ≤ k → k < m → has set k ≡ true) → m ≤ mark_from set low
mark_high [] low m rising all =
    elim (below_or low m) [
      | inl lt ↦ absurd (false≢true (all low (omega arith) lt))
      | inr le ↦ le
    ]
mark_high (x ∷ xs) low m rising all =
    elim (below_or low m) [
      | inl lt ↦ mark_first x low m xs rising all lt (λ r a. mark_high xs (low + 1) m r a)
      | inr le ↦ let more = mark_low (x ∷ xs) low in omega (arith, le, more)
    ]

-- ---- writes and changes

abbrev pub SubAscends : Subscription → Type 0
SubAscends v = Rising 0 v.cursor

abbrev pub SubsAscend : Broker → Type 0
SubsAscend b = Each SubAscends b.subs

rising_below : (n : ℕ) → Rising 0 (below n)
rising_below n = subst (Rising 0) (append-nil (below n)) (rising_range 0 0 n [] (omega arith) tt)

at_subs : (b : Broker) (n : List ℕ) (f : Subscription → Subscription) → ((v : Subscription) → SubAscends v → SubAscends (f v)) → SubsAscend b → Each SubAscends (map (at_name n f) b.subs)
at_subs b n f k h = each_to SubAscends SubAscends (at_name n f) (λ v a. on_if SubAscends (bytes_eq v.name n) (f v) v (k v a) a) b.subs h

written_ascends : (per : ℕ) (b : Broker) (w : Write) → SubsAscend b → SubsAscend (written per b w)
written_ascends per b (write.Create n kind replicated latest) h =
    on_if SubsAscend (is_some (sub_named b.subs n)) b _ h
    (each_both SubAscends b.subs (new_subscription n kind replicated (if latest then below (length b.entries) else []) ∷ []) h
    (on_if (Rising 0) latest (below (length b.entries)) [] (rising_below (length b.entries)) tt, tt))
written_ascends per b (write.Alter n kind replicated) h = at_subs b n (λ s. record s { kind = kind; replicated = replicated }) (λ v k. k) h
written_ascends per b (write.Delete n) h = each_filter SubAscends (λ (s : Subscription). not (bytes_eq s.name n)) b.subs h
written_ascends per b (write.Acks n is) h = at_subs b n (with_acks is) (λ v k. rising_with_indexes v.cursor is k) h
written_ascends per b (write.Seek n i) h = at_subs b n (sought i) (λ v k. rising_below i) h
written_ascends per b (write.ReplicatorAck y i) h = h
written_ascends per b (write.SessionNumber y n) h = h
written_ascends per b (write.Append e) h = h
written_ascends per b write.Ledger h = h

changed_ascends : (b : Broker) (c : Change) → SubsAscend b → SubsAscend (changed b c)
changed_ascends b (change.Attach n k) h = at_subs b n (attached k) (λ v p. p) h
changed_ascends b (change.Detach c) h = each_to SubAscends SubAscends (detached c) (λ v p. p) b.subs h
changed_ascends b (change.Permit n c k) h = at_subs b n (permitted c k) (λ v p. p) h
changed_ascends b (change.Skipped n i) h = at_subs b n (skipped_index i) (λ v p. p) h
changed_ascends b (change.Given n i at) h = at_subs b n (given i at) (λ v p. p) h
changed_ascends b (change.Cache n c) h = at_subs b n (λ s. record s { cache = cached s.cache c }) (λ v p. p) h
changed_ascends b (change.Acked n) h = at_subs b n after_acks (λ v p. p) h
changed_ascends b (change.Cleared n) h = at_subs b n cleared (λ v p. p) h
changed_ascends b change.Forget h = each_to SubAscends SubAscends cleared (λ v p. p) b.subs h
changed_ascends b (change.Receiver x r) h = h
changed_ascends b (change.Client c r) h = h
changed_ascends b (change.Opening y) h = h
changed_ascends b (change.Opened y) h = h
changed_ascends b (change.Pend y i) h = h
changed_ascends b (change.ReadTo y i) h = h
changed_ascends b (change.Unpend y n) h = h
changed_ascends b (change.Building o) h = h

all_written_ascends : (per : ℕ) (b : Broker) (ws : List Write) → SubsAscend b → SubsAscend (all_written per b ws)
all_written_ascends per b [] h = h
all_written_ascends per b (w ∷ ws) h = all_written_ascends per (written per b w) ws (written_ascends per b w h)

all_changed_ascends : (b : Broker) (cs : List Change) → SubsAscend b → SubsAscend (all_changed b cs)
all_changed_ascends b [] h = h
all_changed_ascends b (c ∷ cs) h = all_changed_ascends (changed b c) cs (changed_ascends b c h)

done_ascends : (per : ℕ) (b : Broker) (p : Plan) → SubsAscend b → SubsAscend (done per b p)
done_ascends per b p h = all_changed_ascends (all_written per b p.writes) p.changes (all_written_ascends per b p.writes h)

-- ---- worlds

abbrev pub AllAscend : World → Type 0
AllAscend w = (z : ℕ) → SubsAscend (broker_at w z)

ascend_does : (s : Setup) (w : World) (p : Planned) → AllAscend w → AllAscend (broker_does s w p)
unfolding broker_does
ascend_does s w p all z =
    on_if (λ (w' : World). SubsAscend (broker_at w' z)) p.plan.idle _ _ (all z)
    (at_set SubsAscend w.brokers (node s p.topic p.cluster) z _ no_broker (λ _. done_ascends s.per_ledger (topic_at s w p.topic p.cluster) p.plan (all (node s p.topic p.cluster))) (all z))

ascend_halts : (s : Setup) (w : World) (k : ℕ) (p : Planned) → AllAscend w → AllAscend (broker_halts s w k p)
unfolding broker_halts
ascend_halts s w k p all z =
    at_set SubsAscend w.brokers (node s p.topic p.cluster) z _ no_broker
    (λ _. let b = topic_at s w p.topic p.cluster in let ws = take k p.plan.writes ++ write.Ledger ∷ [] in
    changed_ascends (all_written s.per_ledger b ws) change.Forget (all_written_ascends s.per_ledger b ws (all (node s p.topic p.cluster)))) (all z)

ascend_client : (s : Setup) (w : World) (c : ℕ) (k : Option LinkName) (a : Acted) → AllAscend w → AllAscend (client_does s w c k a)
unfolding client_does
ascend_client s w c k a all z = on_if (λ (w' : World). SubsAscend (broker_at w' z)) a.idle _ _ (all z) (all z)

ascend_stops : (s : Setup) (w : World) → AllAscend w → AllAscend (stops s w)
unfolding stops
ascend_stops s w all z = at_map SubsAscend (λ b. done s.per_ledger b restart) (λ b h. done_ascends s.per_ledger b restart h) w.brokers z no_broker tt (all z)

pub ascend_kept : (s : Setup) → IsKept s AllAscend
ascend_kept s = record {
  opening = λ z. at_copies SubsAscend (length s.topics * length s.clusters) z (new_broker (length s.clusters) (length s.clients)) no_broker tt tt;
  idle = λ w n all. all;
  round = λ w n all. all;
  does = λ w p shape all. ascend_does s w p all;
  halts = λ w k p shape all. ascend_halts s w k p all;
  goes = λ w c a all. ascend_client s w c None a all;
  gets = λ w c x a all. ascend_client s w c (Some (ToClient c x)) a all;
  stop = λ w all. ascend_stops s w all;
}
