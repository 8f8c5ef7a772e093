-- A run follows: its further steps, and what settling does.
use Rattle.std.proofs.Common.{◌≡◌, ℕ, zero, suc, ◌+◌, Bool, true, false, List, [], ◌∷◌, ◌++◌, refl, sym, ap, ◌==◌, not}
use Rattle.std.specs.Prelude.{Option, Some, None, ◌&&◌, ◌||◌, is_some, take}
use Rattle.std.specs.List.{list_any}
use Rattle.std.proofs.lemmas.Bool.{false≢true}
use Rattle.world_laws.proofs.Types.{Event, Fate, Packet, Step, Write}
use Rattle.world_laws.proofs.Types.event
use Rattle.world_laws.proofs.Types.fate
use Rattle.world_laws.proofs.Types.step
use Rattle.world_laws.proofs.Types.write
use Rattle.geo_base.specs.Broker.{Broker, Site}
use Rattle.geo_base.specs.Forwarding.{closes, is_remote, receipt, reset, take_packet}
use Rattle.geo_base.specs.Happening.{halts_planned, happens, stops}
use Rattle.geo_base.specs.Link.{next_packet}
use Rattle.geo_base.specs.Moments.{InRound, NotBegun, Resetting, Settling, settling_so_far}
use Rattle.geo_base.specs.Plan.{Plan, done, quiet_plan}
use Rattle.geo_base.specs.Planned.{Planned, in_range, planned, planned_in}
use Rattle.geo_base.specs.Run.{Limits, Pair, Ran, all_settle, budget, counting_round, ends_or, goes_on, pairs, resets_of, round_of, rounds_of, run_from, settled_world, settles, steps}
use Rattle.geo_base.specs.Setup.{Setup}
use Rattle.geo_base.specs.Subscription.{Subscription}
use Rattle.geo_base.specs.World.{Back, Forward, World, link_at, node, site, topic_at}
use Rattle.world_laws.proofs.Replicating.Effects.{Each, each_take}
use Rattle.world_laws.proofs.Walks.LinkWalk.{fate_answered, fate_taken}
use Rattle.world_laws.proofs.Walks.ReadWalk.{read_shape}
use Rattle.world_laws.proofs.Dispatching.Remembers.{first_false, or_false, second_false}
use Rattle.world_laws.proofs.Walks.Shapes.{Answered, Fated, Reads, Taken, Updates}
use Rattle.world_laws.proofs.Walks.Walk.{on_elim, on_if}
use Rattle.failover_laws.specs.Run.{AllLeave, LawFollows, step_leaves}
use Rattle.failover_laws.specs.Since.{AfterEvent, AfterHalt, AfterRound, AfterStop, Idling, Since, Starting, is_at, leaves, leaves_behind, takes_back}

none_both : (m : List ℕ) (ws vs : List Write) → list_any (takes_back m) ws ≡ false → list_any (takes_back m) vs ≡ false → list_any (takes_back m) (ws ++ vs) ≡ false
none_both m [] vs h l = l
none_both m (w ∷ ws) vs h l =
    or_false (takes_back m w) (list_any (takes_back m) (ws ++ vs)) (first_false (takes_back m w) (list_any (takes_back m) ws) h)
    (none_both m ws vs (second_false (takes_back m w) (list_any (takes_back m) ws) h) l)

fated_takes : (m : List ℕ) (per : ℕ) (b : Broker) (Acts : Broker → Plan → Type 0) (lost : Plan) (q : Plan)
    → ((c : Broker) (p : Plan) → Acts c p → list_any (takes_back m) p.writes ≡ false) → list_any (takes_back m) lost.writes ≡ false → Fated per b Acts lost q
    → list_any (takes_back m) q.writes ≡ false
fated_takes m per b Acts lost q f l (Fated.Once p a) = f b p a
fated_takes m per b Acts lost q f l Fated.Lost = l
fated_takes m per b Acts lost q f l (Fated.Twice p p' a a') = none_both m p.writes p'.writes (f b p a) (f (done per b p) p' a')

pub updates_take : (m : List ℕ) (h : Site) (b : Broker) (v : Subscription) (ws : List Write) → Updates h b v ws → list_any (takes_back m) ws ≡ false
updates_take m h b v ws Updates.NoUpdate = refl
updates_take m h b v ws (Updates.Update cut replicated passed) = refl

taken_takes : (m : List ℕ) (h : Site) (b : Broker) (x : ℕ) (p : Packet) (q : Plan) → Taken h b x p q → list_any (takes_back m) q.writes ≡ false
taken_takes m h b x p q (Taken.Stores id seq source e is at may new) = refl
taken_takes m h b x p q (Taken.Unreadable is) = refl
taken_takes m h b x p q (Taken.Opens topic id request name is opening) = refl
taken_takes m h b x p q (Taken.Discards other shut) = refl
taken_takes m h b x p q (Taken.Refuses other at may) = refl
taken_takes m h b x p q (Taken.Repeats id seq source e is at may old) = refl

answered_takes : (m : List ℕ) (b : Broker) (y : ℕ) (p : Packet) (q : Plan) → Answered b y p q → list_any (takes_back m) q.writes ≡ false
answered_takes m b y p q (Answered.Stale other) = refl
answered_takes m b y p q (Answered.Other at other) = refl
answered_takes m b y p q (Answered.Opened request name at is state) = refl
answered_takes m b y p q (Answered.OpenBefore request name at is state) = refl
answered_takes m b y p q (Answered.ClosedBefore request name at is state) = refl
answered_takes m b y p q (Answered.Received id n i position at is pending) = refl
answered_takes m b y p q (Answered.ReceivedBefore id n position at is pending) = refl

reads_take : (m : List ℕ) (h : Site) (b : Broker) (y : ℕ) (q : Plan) → Reads h b y q → list_any (takes_back m) q.writes ≡ false
reads_take m h b y q Reads.NothingToRead = refl
reads_take m h b y q (Reads.Forwards i e next out) = refl
reads_take m h b y q (Reads.Skips i e next other) = refl
reads_take m h b y q (Reads.Responds i e id source next of is) = refl
reads_take m h b y q (Reads.Counts i e id answer u u' next is heard) = refl
reads_take m h b y q (Reads.AsksAgain i e id answer u u' next is heard) = refl
reads_take m h b y q (Reads.Completes i e id answer u u' next is heard) = refl
reads_take m h b y q (Reads.CreatesAt i j e n remote next is named) = refl
reads_take m h b y q (Reads.ActsOnUpdate i j e n remote v ws next is named after) = none_both m ws (write.ReplicatorAck y i ∷ []) (updates_take m h b _ ws after) refl

reset_takes : (m : List ℕ) (h : Site) (b : Broker) (y : ℕ) → list_any (takes_back m) (reset h b y).writes ≡ false
unfolding reset
reset_takes m h b y = on_if (λ (p : Plan). list_any (takes_back m) p.writes ≡ false) (is_remote h y) _ _ refl refl

take_takes : (m : List ℕ) (h : Site) (b : Broker) (x : ℕ) (f : Fate) (o : Option Packet) → list_any (takes_back m) (take_packet h b x f o).writes ≡ false
unfolding take_packet
take_takes m h b x f None = refl
take_takes m h b x f (Some p) = fated_takes m h.per_ledger b (λ c. Taken h c x p) (closes x) _ (λ c q a. taken_takes m h c x p q a) refl (fate_taken h b x p f)

receipt_takes : (m : List ℕ) (h : Site) (b : Broker) (y : ℕ) (f : Fate) (o : Option Packet) → list_any (takes_back m) (receipt h b y f o).writes ≡ false
unfolding receipt
receipt_takes m h b y f None = refl
receipt_takes m h b y f (Some p) = fated_takes m h.per_ledger b (λ c. Answered c y p) (quiet_plan []) _ (λ c q a. answered_takes m c y p q a) refl (fate_answered h b y p f)

pub not_both : (a b : Bool) → b ≡ false → not (a && b) ≡ true
not_both true true h = sym h
not_both true false h = refl
not_both false b h = refl

-- ---- settling

pub reset_leaves : (s : Setup) (t y : ℕ) (n : List ℕ) (w : World) (u x z : ℕ) → leaves s t y n (planned s w (event.Reset u x z)) ≡ true
unfolding planned
reset_leaves s t y n w u x z =
    on_if (λ (o : Option Planned). leaves s t y n o ≡ true) (in_range s (event.Reset u x z)) (planned_in s w (event.Reset u x z)) None
    (not_both _ _ (reset_takes n (site s u x) (topic_at s w u x) z)) refl

pub read_leaves : (s : Setup) (t y : ℕ) (n : List ℕ) (w : World) (u x z : ℕ) → leaves s t y n (planned s w (event.Read u x z)) ≡ true
unfolding planned
read_leaves s t y n w u x z =
    on_if (λ (o : Option Planned). leaves s t y n o ≡ true) (in_range s (event.Read u x z)) (planned_in s w (event.Read u x z)) None
    (not_both _ _ (reads_take n (site s u x) (topic_at s w u x) z _ (read_shape (site s u x) (topic_at s w u x) z))) refl

pub take_leaves : (s : Setup) (t y : ℕ) (n : List ℕ) (w : World) (u x z : ℕ) (f : Fate) → leaves s t y n (planned s w (event.Take u x z f)) ≡ true
unfolding planned
take_leaves s t y n w u x z f =
    on_if (λ (o : Option Planned). leaves s t y n o ≡ true) (in_range s (event.Take u x z f)) (planned_in s w (event.Take u x z f)) None
    (not_both _ _ (take_takes n (site s u z) (topic_at s w u z) x f (next_packet (link_at w.links (Forward (node s u x) z))))) refl

pub receipt_leaves : (s : Setup) (t y : ℕ) (n : List ℕ) (w : World) (u x z : ℕ) (f : Fate) → leaves s t y n (planned s w (event.Receipt u x z f)) ≡ true
unfolding planned
receipt_leaves s t y n w u x z f =
    on_if (λ (o : Option Planned). leaves s t y n o ≡ true) (in_range s (event.Receipt u x z f)) (planned_in s w (event.Receipt u x z f)) None
    (not_both _ _ (receipt_takes n (site s u x) (topic_at s w u x) z f (next_packet (link_at w.links (Back (node s u x) z))))) refl

-- what leaves n does so after the first k of its writes
any_take : {X : Type 0} (f : X → Bool) (k : ℕ) (xs : List X) → list_any f xs ≡ false → list_any f (take k xs) ≡ false
any_take f zero xs h = refl
any_take f (suc k) [] h = refl
any_take f (suc k) (x ∷ xs) h = or_false (f x) (list_any f (take k xs)) (first_false (f x) (list_any f xs) h) (any_take f k xs (second_false (f x) (list_any f xs) h))

fewer_both : (a b c : Bool) → (b ≡ false → c ≡ false) → not (a && b) ≡ true → not (a && c) ≡ true
fewer_both true true c f h = absurd (false≢true h)
fewer_both true false c f h = ap not (f refl)
fewer_both false b c f h = refl

pub part_leaves : (k : ℕ) (s : Setup) (t y : ℕ) (n : List ℕ) (o : Option Planned) → leaves s t y n o ≡ true → leaves_behind k s t y n o ≡ true
part_leaves k s t y n None h = refl
part_leaves k s t y n (Some p) h =
    fewer_both (is_at s t y p) (list_any (takes_back n) p.plan.writes) (list_any (takes_back n) (take k p.plan.writes)) (any_take (takes_back n) k p.plan.writes) h

-- whatever world it comes to
abbrev pub Leaves : Setup → ℕ → ℕ → List ℕ → Event → Type 0
Leaves s t y n e = (w : World) → leaves s t y n (planned s w e) ≡ true

resets_leave : (s : Setup) (t y : ℕ) (n : List ℕ) (ps : List Pair) → Each (Leaves s t y n) (resets_of ps)
resets_leave s t y n [] = tt
resets_leave s t y n (p ∷ ps) = (λ w. reset_leaves s t y n w p.topic p.source p.target, resets_leave s t y n ps)

pub round_leaves : (s : Setup) (t y : ℕ) (n : List ℕ) (ps : List Pair) → Each (Leaves s t y n) (round_of ps)
round_leaves s t y n [] = tt
round_leaves s t y n (p ∷ ps) = (
  λ w. take_leaves s t y n w p.topic p.source p.target fate.Good,
  (
    λ w. receipt_leaves s t y n w p.topic p.source p.target fate.Good,
    (λ w. read_leaves s t y n w p.topic p.source p.target, round_leaves s t y n ps),
  ),
)

-- ---- the walk

-- what happenings that leave n at y keep
pub record IsKeptLeaving (s : Setup) (t y : ℕ) (n : List ℕ) (P : World → Type 0) : Type 0 where
  pub event : (w : World) (e : Event) → leaves s t y n (planned s w e) ≡ true → P w → P (happens s w e)
  pub halt : (w : World) (k : ℕ) (e : Event) → leaves_behind k s t y n (planned s w e) ≡ true → P w → P (halts_planned s w k (planned s w e))
  pub stop : (w : World) → P w → P (stops s w)
  pub idle : (w : World) (k : ℕ) → P w → P (record w { idle = k })
  pub round : (w : World) (k : ℕ) → P w → P (record w { rounds = k })

ended : (P : World → Type 0) (r : Ran) (w : World) (o : Option ℕ) → P r.world → P w → P (ends_or r w o).world
ended P r w None p q = q
ended P r w (Some k) p q = p

gone_on : (l : Limits) (P : World → Type 0) (r : Ran) (w : World) → P r.world → P w → P (goes_on l r w).world
gone_on l P r w p q = on_if (λ (r' : Ran). P r'.world) (is_some r.ended) _ _ p (ended P r w (l w) p q)

-- events of settling, one after another
events_keep : (l : Limits) (s : Setup) (t y : ℕ) (n : List ℕ) (P : World → Type 0) → IsKeptLeaving s t y n P → (r : Ran) (es : List Event) → Each (Leaves s t y n) es → P r.world
    → P (all_settle l s r es).world
events_keep l s t y n P k r [] h p = p
events_keep l s t y n P k r (e ∷ es) h p =
    events_keep l s t y n P k (settles l s r e) es h.1 (gone_on l P r _ p (k.idle (happens s r.world e) r.world.idle (k.event r.world e (h.0 r.world) p)))

rounds_keep : (m : ℕ) (l : Limits) (s : Setup) (t y : ℕ) (n : List ℕ) (P : World → Type 0) → IsKeptLeaving s t y n P → (r : Ran) → P r.world → P (rounds_of m l s r).world
rounds_keep zero l s t y n P k r h = h
rounds_keep (suc m) l s t y n P k r h =
    let r' : Ran = all_settle l s r (round_of (pairs s)) in
    let h' : P r'.world = events_keep l s t y n P k r (round_of (pairs s)) (round_leaves s t y n (pairs s)) h in
    on_elim (λ (q : Ran). P q.world) (is_some r'.ended || (r'.world.events == r.world.events)) r' (rounds_of m l s (counting_round r')) h'
    (rounds_keep m l s t y n P k (counting_round r') (k.round r'.world (r'.world.rounds + 1) h'))

step_keeps : (l : Limits) (s : Setup) (t y : ℕ) (n : List ℕ) (P : World → Type 0) → IsKeptLeaving s t y n P → (r : Ran) (e : Step) → step_leaves s t y n r.world e ≡ true → P r.world
    → P (steps l s r e).world
unfolding steps settled_world
step_keeps l s t y n P k r (step.Plain e) h p = gone_on l P r _ p (k.event r.world e h p)
step_keeps l s t y n P k r (step.Halt j e) h p = gone_on l P r _ p (k.halt r.world j e h p)
step_keeps l s t y n P k r step.Settle h p =
    rounds_keep (budget s r.world + 1) l s t y n P k (all_settle l s r (resets_of (pairs s))) (events_keep l s t y n P k r (resets_of (pairs s)) (resets_leave s t y n (pairs s)) p)
step_keeps l s t y n P k r step.Stop h p = gone_on l P r _ p (k.stop r.world p)

pub all_keep : (l : Limits) (s : Setup) (t y : ℕ) (n : List ℕ) (P : World → Type 0) → IsKeptLeaving s t y n P → (r : Ran) (es : List Step) → AllLeave l s t y n r es → P r.world
    → P (run_from l s r es).world
all_keep l s t y n P k r [] h p = p
all_keep l s t y n P k r (e ∷ es) h p = all_keep l s t y n P k (steps l s r e) es h.1 (step_keeps l s t y n P k r e h.0 p)

-- as far as settling has come
pub settling_keeps : (l : Limits) (s : Setup) (t y : ℕ) (n : List ℕ) (P : World → Type 0) → IsKeptLeaving s t y n P → (r : Ran) (at : Settling) → P r.world → P (settling_so_far l s r at).world
settling_keeps l s t y n P k r NotBegun h = h
settling_keeps l s t y n P k r (Resetting j) h =
    events_keep l s t y n P k r (take j (resets_of (pairs s))) (each_take (Leaves s t y n) j (resets_of (pairs s)) (resets_leave s t y n (pairs s))) h
settling_keeps l s t y n P k r (InRound m j) h =
    let q = all_settle l s r (resets_of (pairs s)) in
    events_keep l s t y n P k (rounds_of m l s q) (take j (round_of (pairs s))) (each_take (Leaves s t y n) j (round_of (pairs s)) (round_leaves s t y n (pairs s)))
    (rounds_keep m l s t y n P k q (events_keep l s t y n P k r (resets_of (pairs s)) (resets_leave s t y n (pairs s)) h))

-- ---- so what further steps lead to is what follows with n left

since_goes_on : (s : Setup) (t y : ℕ) (n : List ℕ) (v : World) → IsKeptLeaving s t y n (Since s t y n v)
since_goes_on s t y n v = record {
  event = λ w e left p. AfterEvent w e left p;
  halt = λ w k e left p. AfterHalt w k e left p;
  stop = λ w p. AfterStop w p;
  idle = λ w k p. Idling w k p;
  round = λ w k p. AfterRound w k p;
}

pub events_follow : (l : Limits) (s : Setup) (t y : ℕ) (n : List ℕ) (v : World) (r : Ran) (es : List Event) → Each (Leaves s t y n) es → Since s t y n v r.world
    → Since s t y n v (all_settle l s r es).world
events_follow l s t y n v r es h p = events_keep l s t y n (Since s t y n v) (since_goes_on s t y n v) r es h p

pub rounds_follow : (k : ℕ) (l : Limits) (s : Setup) (t y : ℕ) (n : List ℕ) (v : World) (r : Ran) → Since s t y n v r.world → Since s t y n v (rounds_of k l s r).world
rounds_follow k l s t y n v r h = rounds_keep k l s t y n (Since s t y n v) (since_goes_on s t y n v) r h

pub settling_follows : (l : Limits) (s : Setup) (t y : ℕ) (n : List ℕ) (v : World) (r : Ran) (at : Settling) → Since s t y n v r.world → Since s t y n v (settling_so_far l s r at).world
settling_follows l s t y n v r at h = settling_keeps l s t y n (Since s t y n v) (since_goes_on s t y n v) r at h

pub all_follow : (l : Limits) (s : Setup) (t y : ℕ) (n : List ℕ) (v : World) (r : Ran) (es : List Step) → AllLeave l s t y n r es → Since s t y n v r.world → Since s t y n v (run_from l s r es).world
all_follow l s t y n v r es h p = all_keep l s t y n (Since s t y n v) (since_goes_on s t y n v) r es h p

pub run_follows : LawFollows
run_follows l s t y n r es h = all_follow l s t y n r.world r es h Starting
