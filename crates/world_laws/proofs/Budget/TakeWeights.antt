-- What a good packet that is taken lowers: the packet weighs more than what is stored of it and its answer.
use Rattle.std.proofs.Common.{◌≡◌, ℕ, ◌+◌, ◌-◌, ◌<◌, ◌≤◌, false, [], ◌∷◌, ◌++◌, refl, ap, ◌∙◌, ◌==◌, arith}
use Rattle.std.specs.Prelude.{slice_index_or, slice_set}
use Rattle.world_laws.proofs.Types.{Frame, Packet}
use Rattle.world_laws.proofs.Types.frame
use Rattle.world_laws.proofs.Types.replicator_state
use Rattle.geo_base.specs.Broker.{Broker, Site, replicator_at}
use Rattle.geo_base.specs.Cursor.{with_index}
use Rattle.geo_base.specs.Entry.{with_origin}
use Rattle.geo_base.specs.Plan.{Plan, done}
use Rattle.geo_base.specs.Replicator.{new_replicator, without_number}
use Rattle.world_laws.proofs.Budget.Counting.{came_cost, for_all, pushed_weight}
use Rattle.world_laws.proofs.Budget.ReadWeights.{outs_weight}
use Rattle.world_laws.proofs.Walks.Shapes.{Answered, Taken}
use Rattle.world_laws.proofs.Budget.Tails.{at_same, sum_at}
use Rattle.world_laws.proofs.Budget.Weights.{ahead, arrives, behind, broker_weight, kept}

-- a packet is answered
two_ahead : (m : ℕ) (f : Frame) → 2 ≤ ahead m f
two_ahead m (frame.Send id seq source e) = omega arith
two_ahead m f = omega arith

two_left : (m k o : ℕ) (p : Packet) → o ≤ 1 → k + o < k + ahead m p.frame
two_left m k o p le = omega (arith, le, two_ahead m p.frame)

stored_left : (a k a' c d : ℕ) → a ≤ a' + c → d ≡ 2 + c → a + k + (1 + 0) < a' + k + d
stored_left a k a' c d le is = omega (arith, le, is)

pub taken_lighter : (n : ℕ) (h : Site) (b : Broker) (x : ℕ) (p : Packet) (q : Plan) → h.own < n → (x == h.own) ≡ false → Taken h b x p q
    → broker_weight n h.own (done h.per_ledger b q) + outs_weight (n - 1) q.sent < broker_weight n h.own b + ahead (n - 1) p.frame
taken_lighter n h b x p q lt other (Taken.Unreadable is) = two_left (n - 1) (broker_weight n h.own b) 0 p (omega arith)
taken_lighter n h b x p q lt other (Taken.Opens topic id request name is opening) = two_left (n - 1) (broker_weight n h.own b) (1 + 0) p (omega arith)
taken_lighter n h b x p q lt other (Taken.Discards closed shut) = two_left (n - 1) (broker_weight n h.own b) 0 p (omega arith)
taken_lighter n h b x p q lt other (Taken.Refuses closed at may) = two_left (n - 1) (broker_weight n h.own b) 0 p (omega arith)
taken_lighter n h b x p q lt other (Taken.Stores id seq source e is at may new) =
    let f = with_origin x e in
    let cost : for_all n h.own f b.replicators ≤ arrives (n - 1) e.content = came_cost n h.own f b.replicators lt other in
    stored_left (sum_at (behind n h.own (b.entries ++ f ∷ [])) 0 b.replicators) (kept (n - 1) b.subs b.builder) (sum_at (behind n h.own b.entries) 0 b.replicators)
    (arrives (n - 1) e.content) (ahead (n - 1) p.frame) (omega (arith, pushed_weight n h.own b.entries f b.replicators, cost)) (ap (ahead (n - 1)) is)
taken_lighter n h b x p q lt other (Taken.Repeats id seq source e is at may old) = two_left (n - 1) (broker_weight n h.own b) (1 + 0) p (omega arith)

-- an answer that is received leaves all the broker's weight
pub answered_same : (n : ℕ) (h : Site) (b : Broker) (y : ℕ) (p : Packet) (q : Plan) → Answered b y p q
    → broker_weight n h.own (done h.per_ledger b q) + outs_weight (n - 1) q.sent ≡ broker_weight n h.own b + 0
answered_same n h b y p q (Answered.Stale other) = refl
answered_same n h b y p q (Answered.Other at other) = refl
answered_same n h b y p q (Answered.Opened request name at is state) =
    ap (λ (k : ℕ). k + kept (n - 1) b.subs b.builder + 0)
    (at_same (behind n h.own b.entries) new_replicator 0 y b.replicators (record (replicator_at b y) { state = replicator_state.Open }) (λ j. refl))
answered_same n h b y p q (Answered.OpenBefore request name at is state) = refl
answered_same n h b y p q (Answered.ClosedBefore request name at is state) = refl
answered_same n h b y p q (Answered.Received id k i position at is pending) =
    let s = record (replicator_at b y) { cursor = with_index (replicator_at b y).cursor i } in
    let ss = slice_set b.replicators y s in
    let s' = slice_index_or ss y new_replicator in
    ap (λ (k : ℕ). k + kept (n - 1) b.subs b.builder + 0)
    (at_same (behind n h.own b.entries) new_replicator 0 y ss (record s' { pending = without_number s'.pending k }) (λ j. refl)
    ∙ at_same (behind n h.own b.entries) new_replicator 0 y b.replicators s (λ j. refl))
answered_same n h b y p q (Answered.ReceivedBefore id k position at is pending) = refl

-- neither sends on a forward link
pub answered_sends : (b : Broker) (y : ℕ) (p : Packet) (q : Plan) → Answered b y p q → q.sent ≡ []
answered_sends b y p q (Answered.Stale other) = refl
answered_sends b y p q (Answered.Other at other) = refl
answered_sends b y p q (Answered.Opened request name at is state) = refl
answered_sends b y p q (Answered.OpenBefore request name at is state) = refl
answered_sends b y p q (Answered.ClosedBefore request name at is state) = refl
answered_sends b y p q (Answered.Received id k i position at is pending) = refl
answered_sends b y p q (Answered.ReceivedBefore id k position at is pending) = refl
