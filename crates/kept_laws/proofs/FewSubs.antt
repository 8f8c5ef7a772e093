-- A topic has at most as many subscriptions as it may: one is created where there is room for it, and by nothing else.
use Rattle.std.proofs.Common.{◌≡◌, ℕ, ◌≤◌, Bool, true, false, List, [], ◌∷◌, ◌++◌, length, map, arith}
use Rattle.std.specs.Prelude.{Option, ◌&&◌, ◌||◌, filter, if◌then◌else◌, is_some, nat_lt, not}
use Rattle.std.specs.Str.{bytes_eq}
use Rattle.std.proofs.lemmas.Bool.{ltb-true}
use Rattle.std.proofs.lemmas.List.{length-map, length_push}
use Rattle.world_laws.proofs.Types.{Change, Packet, Position, SubKind, Write}
use Rattle.world_laws.proofs.Types.change
use Rattle.world_laws.proofs.Types.write
use Rattle.geo_base.specs.Broker.{Broker, Site, changed, sub_named, written}
use Rattle.geo_base.specs.Cursor.{below}
use Rattle.geo_base.specs.Forwarding.{closes}
use Rattle.geo_base.specs.Name.{is_name}
use Rattle.geo_base.specs.Plan.{Plan, quiet_plan}
use Rattle.geo_base.specs.Planned.{Planned}
use Rattle.geo_base.specs.Seeking.{restart}
use Rattle.geo_base.specs.Setup.{Setup}
use Rattle.geo_base.specs.Subscribing.{has_room, most_subs}
use Rattle.geo_base.specs.Subscription.{Subscription, new_subscription}
use Rattle.geo_base.specs.World.{World, site, topic_at}
use Rattle.world_laws.proofs.Replicating.Effects.{Each, each_both}
use Rattle.world_laws.proofs.Walks.Shapes.{Answered, Fated, Offers, Reads, Seeks, Served, Shape, Snaps, Taken, Updates}
use Rattle.world_laws.proofs.Dispatching.SubFrames.{CreatesNone}
use Rattle.world_laws.proofs.Walks.Walk.{on_if, right}
use Rattle.kept_laws.proofs.Steady.{Along, IsSteady, changes_all}

abbrev pub HasFew : Broker → Type 0
HasFew b = length b.subs ≤ most_subs

-- ---- what an event writes

-- the first write creates a subscription for which there is room, or no write creates one
abbrev MayCreate : Broker → List Write → Type 0
MayCreate b (write.Create n kind replicated latest ∷ ws) = (has_room b n ≡ true) × Each CreatesNone ws
MayCreate b ws = Each CreatesNone ws

updates_none : (h : Site) (b : Broker) (v : Subscription) (ws : List Write) → Updates h b v ws → Each CreatesNone ws
updates_none h b v ws Updates.NoUpdate = tt
updates_none h b v ws (Updates.Update cut replicated passed) = (tt, tt)

served_may : (h : Site) (b : Broker) (c : ℕ) (p : Packet) (q : Plan) → Served h b c p q → MayCreate b q.writes
served_may h b c p q Served.Ignores = tt
served_may h b c p q Served.Disconnects = tt
served_may h b c p q (Served.Connects s is new) = tt
served_may h b c p q (Served.Answers s f at) = tt
served_may h b c p q (Served.ChangesProducers s ps f at) = tt
served_may h b c p q (Served.Stores s id seq source e at sound new) = (tt, tt)
served_may h b c p q (Served.Repeats s id seq source e at sound old) = tt
served_may h b c p q (Served.Creates s topic n kind id request consumer earliest replicated at is may named) =
    (right (bytes_eq topic h.topic && is_name n) (has_room b n) may.0, tt)
served_may h b c p q (Served.Joins s topic n kind id request consumer earliest replicated v at is may named free same) = tt
served_may h b c p q (Served.Alters s topic n kind id request consumer earliest replicated v at is may named free other) = (tt, tt)
served_may h b c p q (Served.Permits s id permits v at is by) = tt
served_may h b c p q (Served.Acknowledges s id kind ps v i is ws at sent by of after) = (tt, updates_none h b _ ws after)
served_may h b c p q (Served.Unsubscribes s id request v at is by last) = (tt, tt)
served_may h b c p q (Served.ClosesConsumer s id request v at is by) = tt

taken_none : (h : Site) (b : Broker) (x : ℕ) (p : Packet) (q : Plan) → Taken h b x p q → Each CreatesNone q.writes
taken_none h b x p q (Taken.Unreadable is) = tt
taken_none h b x p q (Taken.Opens topic id request name is opening) = tt
taken_none h b x p q (Taken.Discards other shut) = tt
taken_none h b x p q (Taken.Refuses other at may) = tt
taken_none h b x p q (Taken.Stores id seq source e is at may new) = (tt, tt)
taken_none h b x p q (Taken.Repeats id seq source e is at may old) = tt

answered_none : (b : Broker) (y : ℕ) (p : Packet) (q : Plan) → Answered b y p q → Each CreatesNone q.writes
answered_none b y p q (Answered.Stale other) = tt
answered_none b y p q (Answered.Other at other) = tt
answered_none b y p q (Answered.Opened request name at is state) = tt
answered_none b y p q (Answered.OpenBefore request name at is state) = tt
answered_none b y p q (Answered.ClosedBefore request name at is state) = tt
answered_none b y p q (Answered.Received id n i position at is pending) = (tt, tt)
answered_none b y p q (Answered.ReceivedBefore id n position at is pending) = tt

fated_none : (per : ℕ) (b : Broker) (Acts : Broker → Plan → Type 0) (lost q : Plan) → ((c : Broker) (r : Plan) → Acts c r → Each CreatesNone r.writes) → Each CreatesNone lost.writes
    → Fated per b Acts lost q → Each CreatesNone q.writes
fated_none per b Acts lost q acts none (Fated.Once r t) = acts b r t
fated_none per b Acts lost q acts none Fated.Lost = none
fated_none per b Acts lost q acts none (Fated.Twice r r' t t') = each_both CreatesNone r.writes r'.writes (acts b r t) (acts _ r' t')

none_may : (b : Broker) (ws : List Write) → Each CreatesNone ws → MayCreate b ws
none_may b [] h = tt
none_may b (write.Create n kind replicated latest ∷ ws) h = absurd h.0
none_may b (write.Append e ∷ ws) h = h
none_may b (write.Alter n kind replicated ∷ ws) h = h
none_may b (write.Delete n ∷ ws) h = h
none_may b (write.Acks n is ∷ ws) h = h
none_may b (write.Seek n i ∷ ws) h = h
none_may b (write.ReplicatorAck y i ∷ ws) h = h
none_may b (write.SessionNumber y n ∷ ws) h = h
none_may b (write.Ledger ∷ ws) h = h

reads_may : (h : Site) (b : Broker) (y : ℕ) (q : Plan) → Reads h b y q → MayCreate b q.writes
reads_may h b y q Reads.NothingToRead = tt
reads_may h b y q (Reads.Forwards i e next out) = tt
reads_may h b y q (Reads.Skips i e next other) = (tt, tt)
reads_may h b y q (Reads.Responds i e id source next of is) = (tt, (tt, tt))
reads_may h b y q (Reads.Counts i e id answer u u' next is heard) = (tt, tt)
reads_may h b y q (Reads.AsksAgain i e id answer u u' next is heard) = (tt, (tt, tt))
reads_may h b y q (Reads.Completes i e id answer u u' next is heard) = (tt, (tt, tt))
reads_may h b y q (Reads.CreatesAt i j e n remote next is named) = (right (is_name n) (has_room b n) is.3, (tt, (tt, tt)))
reads_may h b y q (Reads.ActsOnUpdate i j e n remote v ws next is named after) =
    (tt, each_both CreatesNone ws (write.ReplicatorAck y i ∷ []) (updates_none h b _ ws after) (tt, tt))

snaps_none : (h : Site) (b : Broker) (q : Plan) → Snaps h b q → Each CreatesNone q.writes
snaps_none h b q Snaps.NothingToAsk = tt
snaps_none h b q (Snaps.Asks any none) = (tt, tt)

offers_none : (h : Site) (b : Broker) (n : List ℕ) (q : Plan) → Offers h b n q → Each CreatesNone q.writes
offers_none h b n q Offers.NothingToOffer = tt
offers_none h b n q (Offers.Gives v i at e due is picked) = tt
offers_none h b n q (Offers.SkipsMarker v i e ws due is after) = (tt, updates_none h b _ ws after)
offers_none h b n q (Offers.Caches v i j e c ws due is after) = (tt, updates_none h b _ ws after)

seeks_none : (h : Site) (b : Broker) (n : List ℕ) (to : Option Position) (q : Plan) → Seeks h b n to q → Each CreatesNone q.writes
seeks_none h b n to q Seeks.NothingToSeek = tt
seeks_none h b n to q (Seeks.SeeksTo v i ws named at after) = (tt, updates_none h b _ ws after)

shape_may : (s : Setup) (w : World) (p : Planned) → Shape s w p → MayCreate (topic_at s w p.topic p.cluster) p.plan.writes
unfolding restart
shape_may s w p (Shape.Idle t x within) = tt
shape_may s w p (Shape.Empty t x k within next) = tt
shape_may s w p (Shape.Serve x c q plan within next served) = served_may _ _ c q plan served
shape_may s w p (Shape.Drop x c v within at) = tt
shape_may s w p (Shape.Reset t x y within remote) = (tt, tt)
shape_may s w p (Shape.Read t x y plan within reads) = reads_may (site s t x) _ y plan reads
shape_may s w p (Shape.Take t x y q plan within next taken) =
    none_may (topic_at s w t y) plan.writes (fated_none s.per_ledger _ _ (closes x) plan (λ c r k. taken_none (site s t y) c x q r k) tt taken)
shape_may s w p (Shape.Receipt t x y q plan within next answered) =
    none_may (topic_at s w t x) plan.writes (fated_none s.per_ledger _ _ (quiet_plan []) plan (λ c r k. answered_none c y q r k) tt answered)
shape_may s w p (Shape.Snap t x plan within snaps) = none_may (topic_at s w t x) plan.writes (snaps_none (site s t x) _ plan snaps)
shape_may s w p (Shape.Offer t x n plan within offers) = none_may (topic_at s w t x) plan.writes (offers_none (site s t x) _ _ plan offers)
shape_may s w p (Shape.Seek t x n to plan within seeks) = none_may (topic_at s w t x) plan.writes (seeks_none (site s t x) _ _ to plan seeks)
shape_may s w p (Shape.Restart t x within) = (tt, tt)

-- ---- how many there are

as_many : (f : Subscription → Subscription) (vs : List Subscription) → length vs ≤ most_subs → length (map f vs) ≤ most_subs
as_many f vs h = let l = length-map vs f in omega (arith, l, h)

fewer : (p : Subscription → Bool) (vs : List Subscription) → length (filter p vs) ≤ length vs
fewer p [] = omega arith
fewer p (v ∷ vs) = let h = fewer p vs in on_if (λ (us : List Subscription). length us ≤ length (v ∷ vs)) (p v) _ _ (omega (arith, h)) (omega (arith, h))

written_few : (per : ℕ) (b : Broker) (w : Write) → CreatesNone w → HasFew b → HasFew (written per b w)
written_few per b (write.Create n kind replicated latest) none h = absurd none
written_few per b (write.Alter n kind replicated) none h = as_many _ b.subs h
written_few per b (write.Delete n) none h = let f = fewer (λ (s : Subscription). not (bytes_eq s.name n)) b.subs in omega (arith, f, h)
written_few per b (write.Acks n is) none h = as_many _ b.subs h
written_few per b (write.Seek n i) none h = as_many _ b.subs h
written_few per b (write.Append e) none h = h
written_few per b (write.ReplicatorAck y i) none h = h
written_few per b (write.SessionNumber y n) none h = h
written_few per b write.Ledger none h = h

created_few : (per : ℕ) (b : Broker) (n : List ℕ) (kind : SubKind) (replicated latest : Bool) → has_room b n ≡ true → HasFew b → HasFew (written per b (write.Create n kind replicated latest))
created_few per b n kind replicated latest room h = by (is_some (sub_named b.subs n)) room
  where
    by : (t : Bool) → (t || nat_lt (length b.subs) most_subs) ≡ true
        → HasFew (if t then b else record b { subs = b.subs ++ new_subscription n kind replicated (if latest then below (length b.entries) else []) ∷ [] })
    by true is = h
    by false is =
        let lt = ltb-true (length b.subs) most_subs is in
        let l = length_push b.subs (new_subscription n kind replicated (if latest then below (length b.entries) else [])) in omega (arith, lt, l)

none_along : (per : ℕ) (b : Broker) (ws : List Write) → Each CreatesNone ws → HasFew b → Along HasFew per b ws
none_along per b [] none h = tt
none_along per b (w ∷ ws) none h = let k = written_few per b w none.0 h in (k, none_along per (written per b w) ws none.1 k)

may_along : (per : ℕ) (b : Broker) (ws : List Write) → MayCreate b ws → HasFew b → Along HasFew per b ws
may_along per b [] may h = tt
may_along per b (write.Create n kind replicated latest ∷ ws) may h =
    let k = created_few per b n kind replicated latest may.0 h in (k, none_along per (written per b (write.Create n kind replicated latest)) ws may.1 k)
may_along per b (write.Append e ∷ ws) may h = none_along per b (write.Append e ∷ ws) may h
may_along per b (write.Alter n kind replicated ∷ ws) may h = none_along per b (write.Alter n kind replicated ∷ ws) may h
may_along per b (write.Delete n ∷ ws) may h = none_along per b (write.Delete n ∷ ws) may h
may_along per b (write.Acks n is ∷ ws) may h = none_along per b (write.Acks n is ∷ ws) may h
may_along per b (write.Seek n i ∷ ws) may h = none_along per b (write.Seek n i ∷ ws) may h
may_along per b (write.ReplicatorAck y i ∷ ws) may h = none_along per b (write.ReplicatorAck y i ∷ ws) may h
may_along per b (write.SessionNumber y n ∷ ws) may h = none_along per b (write.SessionNumber y n ∷ ws) may h
may_along per b (write.Ledger ∷ ws) may h = none_along per b (write.Ledger ∷ ws) may h

changed_few : (b : Broker) (c : Change) → HasFew b → HasFew (changed b c)
changed_few b (change.Attach n k) h = as_many _ b.subs h
changed_few b (change.Detach c) h = as_many _ b.subs h
changed_few b (change.Permit n c permits) h = as_many _ b.subs h
changed_few b (change.Skipped n i) h = as_many _ b.subs h
changed_few b (change.Given n i at) h = as_many _ b.subs h
changed_few b (change.Cache n c) h = as_many _ b.subs h
changed_few b (change.Acked n) h = as_many _ b.subs h
changed_few b (change.Cleared n) h = as_many _ b.subs h
changed_few b change.Forget h = as_many _ b.subs h
changed_few b (change.Receiver x r) h = h
changed_few b (change.Client c r) h = h
changed_few b (change.Opening y) h = h
changed_few b (change.Opened y) h = h
changed_few b (change.Pend y i) h = h
changed_few b (change.ReadTo y i) h = h
changed_few b (change.Unpend y n) h = h
changed_few b (change.Building u) h = h

pub few_steady : (s : Setup) → IsSteady s (λ x b. HasFew b)
few_steady s = record {
  opening = λ x. omega arith;
  ledger = λ x b h. h;
  forgets = λ x b h. changed_few b change.Forget h;
  writes = λ w p shape h. may_along s.per_ledger (topic_at s w p.topic p.cluster) p.plan.writes (shape_may s w p shape) h;
  changes = λ w p shape h b k. changes_all HasFew changed_few b p.plan.changes k;
}
