-- Plans and the numbers of replicators. A calm plan begins no session and sends no entry, so it raises none; any plan raises one at
-- most by one.
use Rattle.std.proofs.Common.{◌≡◌, ℕ, ◌+◌, Bool, true, false, List, [], ◌∷◌, ◌++◌, refl, arith}
use Rattle.std.proofs.lemmas.Bool.{false≢true}
use Rattle.std.specs.Prelude.{Option, None, is_some}
use Rattle.world_laws.proofs.Types.{Change, Packet, Position, SubKind, Write}
use Rattle.world_laws.proofs.Types.change
use Rattle.world_laws.proofs.Types.write
use Rattle.geo_base.specs.Broker.{Broker, Site, changed, replicator_at, sub_named, written}
use Rattle.geo_base.specs.Forwarding.{closes}
use Rattle.geo_base.specs.Plan.{Plan, all_changed, all_written, done, idle_plan, quiet_plan}
use Rattle.geo_base.specs.Planned.{Planned}
use Rattle.geo_base.specs.Seeking.{restart}
use Rattle.geo_base.specs.Replicator.{Replicator, new_replicator, replicator_restarted}
use Rattle.geo_base.specs.Serving.{session_becomes}
use Rattle.geo_base.specs.Setup.{Setup, declared_at}
use Rattle.geo_base.specs.Subscription.{Subscription}
use Rattle.geo_base.specs.World.{World, site, topic_at}
use Rattle.world_laws.specs.Within.{ReplicatorWithin, ReplicatorsWithin}
use Rattle.world_laws.proofs.Induction.Frames.{at_map, at_set}
use Rattle.world_laws.proofs.Walks.Shapes.{Answered, Fated, Offers, Reads, Seeks, Served, Shape, Snaps, Taken, Updates}
use Rattle.world_laws.proofs.Walks.Walk.{on_if}

pub replicator_more : (n : ℕ) (s : Replicator) → ReplicatorWithin n s → ReplicatorWithin (n + 1) s
replicator_more n s w = record { session = omega (arith, w.session); next = omega (arith, w.next) }

abbrev pub calm_writes : List Write → Bool
calm_writes [] = true
calm_writes (write.SessionNumber y n ∷ ws) = false
calm_writes (w ∷ ws) = calm_writes ws

abbrev pub calm_changes : List Change → Bool
calm_changes [] = true
calm_changes (change.Pend y i ∷ cs) = false
calm_changes (c ∷ cs) = calm_changes cs

pub record IsCalm (p : Plan) : Type 0 where
  pub writes : calm_writes p.writes ≡ true
  pub changes : calm_changes p.changes ≡ true

created : (per n : ℕ) (b : Broker) (name : List ℕ) (kind : SubKind) (replicated latest : Bool) → ReplicatorsWithin n b.replicators
    → ReplicatorsWithin n (written per b (write.Create name kind replicated latest)).replicators
created per n b name kind replicated latest h = on_if (λ (c : Broker). ReplicatorsWithin n c.replicators) (is_some (sub_named b.subs name)) _ _ h h

calm_written : (per n : ℕ) (b : Broker) (ws : List Write) → calm_writes ws ≡ true → ReplicatorsWithin n b.replicators → ReplicatorsWithin n (all_written per b ws).replicators
calm_written per n b [] calm h = h
calm_written per n b (write.Append e ∷ ws) calm h = calm_written per n (written per b (write.Append e)) ws calm h
calm_written per n b (write.Create name kind replicated latest ∷ ws) calm h =
    calm_written per n (written per b (write.Create name kind replicated latest)) ws calm (created per n b name kind replicated latest h)
calm_written per n b (write.Alter name kind replicated ∷ ws) calm h = calm_written per n (written per b (write.Alter name kind replicated)) ws calm h
calm_written per n b (write.Delete name ∷ ws) calm h = calm_written per n (written per b (write.Delete name)) ws calm h
calm_written per n b (write.Acks name is ∷ ws) calm h = calm_written per n (written per b (write.Acks name is)) ws calm h
calm_written per n b (write.Seek name i ∷ ws) calm h = calm_written per n (written per b (write.Seek name i)) ws calm h
calm_written per n b (write.ReplicatorAck y i ∷ ws) calm h =
    calm_written per n (written per b (write.ReplicatorAck y i)) ws calm
    (λ z. at_set (ReplicatorWithin n) b.replicators y z _ new_replicator (λ _. record { session = (h y).session; next = (h y).next }) (h z))
calm_written per n b (write.SessionNumber y m ∷ ws) calm h = absurd (false≢true calm)
calm_written per n b (write.Ledger ∷ ws) calm h = calm_written per n (written per b write.Ledger) ws calm h

-- a change that sends no entry
abbrev is_calm_change : Change → Bool
is_calm_change (change.Pend y i) = false
is_calm_change c = true

calm_one : (n : ℕ) (b : Broker) (c : Change) → is_calm_change c ≡ true → ReplicatorsWithin n b.replicators → ReplicatorsWithin n (changed b c).replicators
calm_one n b (change.Pend y i) calm h = absurd (false≢true calm)
calm_one n b (change.Opening y) calm h =
    λ z. at_set (ReplicatorWithin n) b.replicators y z _ new_replicator (λ _. record { session = (h y).session; next = omega arith }) (h z)
calm_one n b (change.Opened y) calm h =
    λ z. at_set (ReplicatorWithin n) b.replicators y z _ new_replicator (λ _. record { session = (h y).session; next = (h y).next }) (h z)
calm_one n b (change.ReadTo y i) calm h =
    λ z. at_set (ReplicatorWithin n) b.replicators y z _ new_replicator (λ _. record { session = (h y).session; next = (h y).next }) (h z)
calm_one n b (change.Unpend y m) calm h =
    λ z. at_set (ReplicatorWithin n) b.replicators y z _ new_replicator (λ _. record { session = (h y).session; next = (h y).next }) (h z)
calm_one n b change.Forget calm h =
    λ z. at_map (ReplicatorWithin n) replicator_restarted (λ s w. record { session = w.session; next = omega arith }) b.replicators z new_replicator
    (record { session = omega arith; next = omega arith }) (h z)
calm_one n b c calm h = h

calm_changed : (n : ℕ) (b : Broker) (cs : List Change) → calm_changes cs ≡ true → ReplicatorsWithin n b.replicators → ReplicatorsWithin n (all_changed b cs).replicators
calm_changed n b [] calm h = h
calm_changed n b (change.Pend y i ∷ cs) calm h = absurd (false≢true calm)
calm_changed n b (c ∷ cs) calm h = calm_changed n (changed b c) cs calm (calm_one n b c refl h)

pub calm_done : (per n : ℕ) (b : Broker) (p : Plan) → IsCalm p → ReplicatorsWithin n b.replicators → ReplicatorsWithin n (done per b p).replicators
calm_done per n b p calm h = calm_changed n (all_written per b p.writes) p.changes calm.changes (calm_written per n b p.writes calm.writes h)

-- two lists in a row
both_writes : (ws vs : List Write) → calm_writes ws ≡ true → calm_writes vs ≡ true → calm_writes (ws ++ vs) ≡ true
both_writes [] vs h k = k
both_writes (write.SessionNumber y n ∷ ws) vs h k = absurd (false≢true h)
both_writes (w ∷ ws) vs h k = both_writes ws vs h k

both_changes : (cs ds : List Change) → calm_changes cs ≡ true → calm_changes ds ≡ true → calm_changes (cs ++ ds) ≡ true
both_changes [] ds h k = k
both_changes (change.Pend y i ∷ cs) ds h k = absurd (false≢true h)
both_changes (c ∷ cs) ds h k = both_changes cs ds h k

-- what the shapes of plans are
calm : (p : Plan) → calm_writes p.writes ≡ true → calm_changes p.changes ≡ true → IsCalm p
calm p ws cs = record { writes = ws; changes = cs }

updates_calm : (h : Site) (b : Broker) (v : Subscription) (ws : List Write) → Updates h b v ws → calm_writes ws ≡ true
updates_calm h b v ws Updates.NoUpdate = refl
updates_calm h b v ws (Updates.Update cut replicated passed) = refl

served_calm : (h : Site) (b : Broker) (c : ℕ) (p : Packet) (q : Plan) → Served h b c p q → IsCalm q
served_calm h b c p q (Served.Acknowledges s id kind ps v i is ws at sent by of after) = calm q (updates_calm h b _ ws after) refl
served_calm h b c p q (Served.Stores s id seq source e at sound new) = calm q refl refl
served_calm h b c p q Served.Ignores = calm q refl refl
served_calm h b c p q Served.Disconnects = calm q refl refl
served_calm h b c p q (Served.Connects s is new) = calm q refl refl
served_calm h b c p q (Served.Answers s f at) = calm q refl refl
served_calm h b c p q (Served.ChangesProducers s ps f at) = calm q refl refl
served_calm h b c p q (Served.Repeats s id seq source e at sound old) = calm q refl refl
served_calm h b c p q (Served.Creates s topic n kind id request consumer earliest replicated at is may named) = calm q refl refl
served_calm h b c p q (Served.Joins s topic n kind id request consumer earliest replicated v at is may named free same) = calm q refl refl
served_calm h b c p q (Served.Alters s topic n kind id request consumer earliest replicated v at is may named free other) = calm q refl refl
served_calm h b c p q (Served.Permits s id permits v at is by) = calm q refl refl
served_calm h b c p q (Served.Unsubscribes s id request v at is by last) = calm q refl refl
served_calm h b c p q (Served.ClosesConsumer s id request v at is by) = calm q refl refl

taken_calm : (h : Site) (b : Broker) (x : ℕ) (p : Packet) (q : Plan) → Taken h b x p q → IsCalm q
taken_calm h b x p q (Taken.Stores id seq source e is at may new) = calm q refl refl
taken_calm h b x p q (Taken.Unreadable is) = calm q refl refl
taken_calm h b x p q (Taken.Opens topic id request name is opening) = calm q refl refl
taken_calm h b x p q (Taken.Discards other shut) = calm q refl refl
taken_calm h b x p q (Taken.Refuses other at may) = calm q refl refl
taken_calm h b x p q (Taken.Repeats id seq source e is at may old) = calm q refl refl

answered_calm : (b : Broker) (y : ℕ) (p : Packet) (q : Plan) → Answered b y p q → IsCalm q
answered_calm b y p q (Answered.Stale other) = calm q refl refl
answered_calm b y p q (Answered.Other at other) = calm q refl refl
answered_calm b y p q (Answered.Opened request name at is state) = calm q refl refl
answered_calm b y p q (Answered.OpenBefore request name at is state) = calm q refl refl
answered_calm b y p q (Answered.ClosedBefore request name at is state) = calm q refl refl
answered_calm b y p q (Answered.Received id n i position at is pending) = calm q refl refl
answered_calm b y p q (Answered.ReceivedBefore id n position at is pending) = calm q refl refl

fated_calm : (per : ℕ) (b : Broker) (Acts : Broker → Plan → Type 0) (lost : Plan) (q : Plan)
    → ((c : Broker) (p : Plan) → Acts c p → IsCalm p) → IsCalm lost → Fated per b Acts lost q → IsCalm q
fated_calm per b Acts lost q f l (Fated.Once p a) = f b p a
fated_calm per b Acts lost q f l Fated.Lost = l
fated_calm per b Acts lost q f l (Fated.Twice p p' a a') =
    calm q (both_writes p.writes p'.writes (f b p a).writes (f (done per b p) p' a').writes) (both_changes p.changes p'.changes (f b p a).changes (f (done per b p) p' a').changes)

snaps_calm : (h : Site) (b : Broker) (q : Plan) → Snaps h b q → IsCalm q
snaps_calm h b q Snaps.NothingToAsk = calm q refl refl
snaps_calm h b q (Snaps.Asks any none) = calm q refl refl

offers_calm : (h : Site) (b : Broker) (n : List ℕ) (q : Plan) → Offers h b n q → IsCalm q
offers_calm h b n q Offers.NothingToOffer = calm q refl refl
offers_calm h b n q (Offers.Gives v i at e due is picked) = calm q refl refl
offers_calm h b n q (Offers.SkipsMarker v i e ws due is after) = calm q (updates_calm h b _ ws after) refl
offers_calm h b n q (Offers.Caches v i j e c ws due is after) = calm q (updates_calm h b _ ws after) refl

seeks_calm : (h : Site) (b : Broker) (n : List ℕ) (to : Option Position) (q : Plan) → Seeks h b n to q → IsCalm q
seeks_calm h b n to q Seeks.NothingToSeek = calm q refl refl
seeks_calm h b n to q (Seeks.SeeksTo v i ws named at after) = calm q (updates_calm h b _ ws after) refl

restart_calm : IsCalm restart
unfolding restart
restart_calm = record { writes = refl; changes = refl }

-- whatever an event does raises a replicator's numbers by one at most
abbrev pub Raises : ℕ → ℕ → Broker → Plan → Type 0
Raises per n b p = ReplicatorsWithin n b.replicators → ReplicatorsWithin (n + 1) (done per b p).replicators

pub calm_raises : (per n : ℕ) (b : Broker) (p : Plan) → IsCalm p → Raises per n b p
calm_raises per n b p c h z = replicator_more n _ (calm_done per n b p c h z)

reads_raise : (per n : ℕ) (h : Site) (b : Broker) (y : ℕ) (q : Plan) → Reads h b y q → Raises per n b q
reads_raise per n h b y q (Reads.Forwards i e next out) w =
    λ z. at_set (ReplicatorWithin (n + 1)) b.replicators y z _ new_replicator
    (λ _. record { session = omega (arith, (w y).session); next = omega (arith, (w y).next) }) (replicator_more n _ (w z))
reads_raise per n h b y q Reads.NothingToRead w = calm_raises per n b q (calm q refl refl) w
reads_raise per n h b y q (Reads.Skips i e next other) w = calm_raises per n b q (calm q refl refl) w
reads_raise per n h b y q (Reads.Responds i e id source next of is) w = calm_raises per n b q (calm q refl refl) w
reads_raise per n h b y q (Reads.Counts i e id answer u u' next is heard) w = calm_raises per n b q (calm q refl refl) w
reads_raise per n h b y q (Reads.AsksAgain i e id answer u u' next is heard) w = calm_raises per n b q (calm q refl refl) w
reads_raise per n h b y q (Reads.Completes i e id answer u u' next is heard) w = calm_raises per n b q (calm q refl refl) w
reads_raise per n h b y q (Reads.CreatesAt i j e name remote next is named) w = calm_raises per n b q (calm q refl refl) w
reads_raise per n h b y q (Reads.ActsOnUpdate i j e name remote v ws next is named after) w =
    calm_raises per n b q (calm q (both_writes ws (write.ReplicatorAck y i ∷ []) (updates_calm h b _ ws after) refl) refl) w

reset_raises : (per n : ℕ) (b : Broker) (y : ℕ) → ReplicatorsWithin n b.replicators
    → ReplicatorsWithin (n + 1) (all_changed (all_written per b (write.SessionNumber y ((replicator_at b y).session + 1) ∷ [])) (change.Opening y ∷ [])).replicators
reset_raises per n b y w =
    let more : ReplicatorsWithin (n + 1) (written per b (write.SessionNumber y ((replicator_at b y).session + 1))).replicators =
    λ z. at_set (ReplicatorWithin (n + 1)) b.replicators y z _ new_replicator
    (λ _. record { session = omega (arith, (w y).session); next = omega (arith, (w y).next) }) (replicator_more n _ (w z)) in
    calm_one (n + 1) (written per b (write.SessionNumber y ((replicator_at b y).session + 1))) (change.Opening y) refl more

pub shape_raises : (s : Setup) (w : World) (n : ℕ) (p : Planned) → Shape s w p → Raises s.per_ledger n (topic_at s w p.topic p.cluster) p.plan
shape_raises s w n p (Shape.Reset t x y within remote) = reset_raises s.per_ledger n (topic_at s w t x) y
shape_raises s w n p (Shape.Read t x y plan within reads) = reads_raise s.per_ledger n _ _ y plan reads
shape_raises s w n p (Shape.Idle t x within) = calm_raises s.per_ledger n (topic_at s w t x) idle_plan (calm idle_plan refl refl)
shape_raises s w n p (Shape.Empty t x k within next) = calm_raises s.per_ledger n (topic_at s w t x) idle_plan (calm idle_plan refl refl)
shape_raises s w n p (Shape.Serve x c q plan within next served) =
    calm_raises s.per_ledger n (topic_at s w (declared_at s c).topic x) plan (served_calm _ _ c q plan served)
shape_raises s w n p (Shape.Drop x c v within at) =
    calm_raises s.per_ledger n (topic_at s w (declared_at s c).topic x) (quiet_plan (session_becomes c None)) (calm (quiet_plan (session_becomes c None)) refl refl)
shape_raises s w n p (Shape.Take t x y q plan within next taken) =
    calm_raises s.per_ledger n (topic_at s w t y) plan
    (fated_calm s.per_ledger _ (λ b. Taken (site s t y) b x q) (closes x) plan (λ b p taken. taken_calm (site s t y) b x q p taken) (calm (closes x) refl refl) taken)
shape_raises s w n p (Shape.Receipt t x y q plan within next answered) =
    calm_raises s.per_ledger n (topic_at s w t x) plan
    (fated_calm s.per_ledger _ (λ b. Answered b y q) (quiet_plan []) plan (λ b p answered. answered_calm b y q p answered) (calm (quiet_plan []) refl refl) answered)
shape_raises s w n p (Shape.Snap t x plan within snaps) = calm_raises s.per_ledger n (topic_at s w t x) plan (snaps_calm _ _ plan snaps)
shape_raises s w n p (Shape.Offer t x m plan within offers) = calm_raises s.per_ledger n (topic_at s w t x) plan (offers_calm _ _ _ plan offers)
shape_raises s w n p (Shape.Seek t x m to plan within seeks) = calm_raises s.per_ledger n (topic_at s w t x) plan (seeks_calm _ _ _ to plan seeks)
shape_raises s w n p (Shape.Restart t x within) = calm_raises s.per_ledger n (topic_at s w t x) restart restart_calm
