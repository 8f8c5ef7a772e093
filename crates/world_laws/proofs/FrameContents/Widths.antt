-- What a broker makes its markers of, in whatever run: each subscription's name is a name, and the snapshot that is being made and
-- all that are cached have a place for each cluster.
use Rattle.std.proofs.Common.{◌≡◌, ℕ, zero, suc, ◌+◌, ◌*◌, Bool, true, false, List, [], ◌∷◌, ◌++◌, length, map, replicate, refl, sym, ap, subst, ◌∙◌}
use Rattle.std.specs.Prelude.{Option, Some, None, ◌||◌, ◌==◌, nat_lt, not, if◌then◌else◌, find, take}
use Rattle.std.specs.Str.{bytes_eq}
use Rattle.std.proofs.lemmas.List.{get_or-replicate, length-replicate, length-set}
use Rattle.std.proofs.lemmas.Option.{none-some, same_Some}
use Rattle.world_laws.proofs.Types.{SnapshotBuilder, CachedSnapshot, Change, ClusterPosition, Cut, Entry, Packet, ClusterRef, Position, Progress, Write}
use Rattle.world_laws.proofs.Types.change
use Rattle.world_laws.proofs.Types.cluster_ref
use Rattle.world_laws.proofs.Types.progress
use Rattle.world_laws.proofs.Types.write
use Rattle.geo_base.specs.Broker.{Broker, Site, changed, new_broker, no_broker, written}
use Rattle.geo_base.specs.SnapshotBuilder.{Heard, counts, judged, on_response, with_response}
use Rattle.geo_base.specs.Cache.{any_passed, cached, last_passed, with_place, with_places}
use Rattle.geo_base.specs.Client.{Acted}
use Rattle.geo_base.specs.Dispatcher.{given, skipped_index}
use Rattle.geo_base.specs.Forwarding.{closes}
use Rattle.geo_base.specs.Happening.{broker_does, broker_halts, client_does, stops}
use Rattle.geo_base.specs.Name.{is_name}
use Rattle.geo_base.specs.Plan.{Plan, all_changed, all_written, done, halted, quiet_plan}
use Rattle.geo_base.specs.Planned.{Planned}
use Rattle.geo_base.specs.Seeking.{restart}
use Rattle.geo_base.specs.Setup.{Setup}
use Rattle.geo_base.specs.Subscription.{Subscription, after_acks, attached, cleared, permitted, sought, with_acks}
use Rattle.geo_base.specs.Subscribing.{has_room}
use Rattle.geo_base.specs.World.{LinkName, ToClient, World, node, opening_world, site, topic_at}
use Rattle.world_laws.proofs.Snapshotting.Building.{all_written_builder, builder_then, done_builder}
use Rattle.world_laws.proofs.Snapshotting.Caches.{AllCached, AllIn, Brings, Cached, all_changed_cached, all_written_cached}
use Rattle.world_laws.proofs.Replicating.Effects.{Each, each_both, each_map, each_take}
use Rattle.world_laws.proofs.Induction.Layers.{Everywhere, KeptWith, one_node}
use Rattle.world_laws.proofs.FrameContents.OwnSizes.{middle}
use Rattle.world_laws.proofs.Replicating.PairRoles.{shape_within}
use Rattle.world_laws.proofs.Merges.PeerWalk.{each_filter}
use Rattle.world_laws.proofs.Walks.Shapes.{Answered, Fated, Hears, IsSnapshot, Offers, Reads, Seeks, Served, Shape, Snaps, Taken, Updates}
use Rattle.world_laws.proofs.Replicating.Sizes.{Sized, node_lt, node_there, stopped_at}
use Rattle.world_laws.proofs.Dispatching.SubFrames.{AllSubs, created_subs, done_subs, each_to, at_name, named_same, sub_changed}
use Rattle.world_laws.proofs.Walks.Walk.{left, on_if}

-- VALUES

abbrev pub Named : Subscription → Type 0
Named v = is_name v.name ≡ true

-- a cut of n places
abbrev pub Wide : ℕ → CachedSnapshot → Type 0
Wide n c = length c.cut.remote ≡ n

-- a response changes neither a builder's id nor its places
pub record SameSnapshot (u v : SnapshotBuilder) : Type 0 where
  pub id : v.id ≡ u.id
  pub places : length v.cut.remote ≡ length u.cut.remote

abbrev HeardSame : SnapshotBuilder → Heard → Type 0
HeardSame u r = SameSnapshot u r.builder

judged_same : (u v : SnapshotBuilder) → SameSnapshot u v → HeardSame u (judged v)
judged_same u v h =
    on_if (HeardSame u) (nat_lt (length v.heard + 1) v.clusters) _ _ h
    (on_if (HeardSame u) (v.second || (v.clusters == 2)) _ _ (record { id = h.id; places = h.places }) (record { id = h.id; places = h.places }))

heard_same : (u : SnapshotBuilder) (id : List ℕ) (c : ℕ) (remote local : Position) → HeardSame u (on_response u id c remote local)
heard_same u id c remote local =
    on_if (HeardSame u) (counts u id c) _ _
    (judged_same u (with_response u c remote local) (record {
      id = refl;
      places = on_if (λ (ps : List (Option Position)). length ps ≡ length u.cut.remote) u.second _ _ refl (length-set u.cut.remote c (Some remote));
    })) (record { id = refl; places = refl })

pub hears_same : (b : Broker) (y i : ℕ) (id : List ℕ) (answer : ClusterPosition) (u : SnapshotBuilder) (g : Progress) (u' : SnapshotBuilder) → Hears b y i id answer u g u' → SameSnapshot u u'
hears_same b y i id answer u g u' is = subst (HeardSame u) is (heard_same u id y answer.position _)

-- a cut that a marker stands for has a place for each cluster
one_place : (own : ℕ) (p : ClusterRef) (q : Position) (ps : List (Option Position)) → length (with_place own p q ps) ≡ length ps
one_place own (cluster_ref.Known x) q ps = on_if (λ (l : List (Option Position)). length l ≡ length ps) (x == own) _ _ refl (length-set ps x (Some q))
one_place own (cluster_ref.Stranger n) q ps = refl

all_places : (own : ℕ) (ps : List (Option Position)) (rs : List ClusterPosition) → length (with_places own ps rs) ≡ length ps
all_places own ps [] = refl
all_places own ps (r ∷ rs) = all_places own (with_place own r.cluster r.position ps) rs ∙ one_place own r.cluster r.position ps

pub snapshot_wide : (h : Site) (b : Broker) (v : Subscription) (e : Entry) (j : ℕ) (c : CachedSnapshot) → IsSnapshot h b v e j c → Wide (length h.clusters) c
snapshot_wide h b v e j c (id, local, remote, is, own, at, made) =
    ap (λ (c : CachedSnapshot). length c.cut.remote) made ∙ all_places h.own (replicate (length h.clusters) None) remote ∙ length-replicate (length h.clusters) None

-- so has a cached one that a mark-delete passes
pub last_wide : (n m : ℕ) (cs : List CachedSnapshot) (cut : Cut) → AllIn (Wide n) cs → last_passed m cs ≡ Some cut → length cut.remote ≡ n
last_wide n m [] cut all is = absurd (none-some cut is)
last_wide n m (c ∷ cs) cut all is = by (any_passed m cs) is (λ e. last_wide n m cs cut (λ k d at. all (suc k) d at) e)
  where
    other : (t : Bool) → (if t then Some c.cut else None) ≡ Some cut → length cut.remote ≡ n
    other true e = ap (λ (k : Cut). length k.remote) (sym (same_Some c.cut cut e)) ∙ all zero c refl
    other false e = absurd (none-some cut e)

    by : (t : Bool) → (if t then last_passed m cs else if nat_lt c.index m then Some c.cut else None) ≡ Some cut → (last_passed m cs ≡ Some cut → length cut.remote ≡ n)
        → length cut.remote ≡ n
    by true e ih = ih e
    by false e ih = other (nat_lt c.index m) e

-- the subscription that is found has what all cached ones have
pub found_cached : (F : CachedSnapshot → Type 0) (p : Subscription → Bool) (vs : List Subscription) (v : Subscription) → find p vs ≡ Some v → AllCached F vs → Cached F v
found_cached F p [] v e all = absurd (none-some v e)
found_cached F p (u ∷ vs) v e all = by (p u) e (λ e'. found_cached F p vs v e' (λ k x at. all (suc k) x at))
  where
    by : (t : Bool) → (if t then Some u else find p vs) ≡ Some v → (find p vs ≡ Some v → Cached F v) → Cached F v
    by true e ih = subst (Cached F) (same_Some u v e) (all zero u refl)
    by false e ih = ih e

-- WRITES AND CHANGES

abbrev pub GoodName : Write → Type 0
GoodName (write.Create n kind replicated latest) = is_name n ≡ true
GoodName w = Unit {0}

abbrev pub WideChange : ℕ → Change → Type 0
WideChange n (change.Building o) = (u : SnapshotBuilder) → o ≡ Some u → length u.cut.remote ≡ n
WideChange n (change.Cache name c) = Wide n c
WideChange n c = Unit {0}

pub record WideAt (n : ℕ) (b : Broker) : Type 0 where
  pub names : AllSubs Named b
  pub caches : AllCached (Wide n) b.subs
  pub builder : (u : SnapshotBuilder) → b.builder ≡ Some u → length u.cut.remote ≡ n

kept_name : (f : Subscription → Subscription) (v : Subscription) → (f v).name ≡ v.name → Named v → Named (f v)
kept_name f v same h = ap is_name same ∙ h

named_there : (n : List ℕ) (f : Subscription → Subscription) → ((v : Subscription) → (f v).name ≡ v.name) → (vs : List Subscription) → Each Named vs → Each Named (map (at_name n f) vs)
named_there n f same vs h = each_to Named Named (at_name n f) (λ v k. kept_name (at_name n f) v (named_same n f same v) k) vs h

written_named : (per : ℕ) (b : Broker) (w : Write) → GoodName w → AllSubs Named b → AllSubs Named (written per b w)
written_named per b (write.Create n kind replicated latest) good h = created_subs Named per b n kind replicated latest h good
written_named per b (write.Alter n kind replicated) good h = named_there n (λ s. record s { kind = kind; replicated = replicated }) (λ v. refl) b.subs h
written_named per b (write.Acks n is) good h = named_there n (with_acks is) (λ v. refl) b.subs h
written_named per b (write.Seek n i) good h = named_there n (sought i) (λ v. refl) b.subs h
written_named per b (write.Delete n) good h = each_filter Named (λ (s : Subscription). not (bytes_eq s.name n)) b.subs h
written_named per b w good h = h

all_named : (per : ℕ) (b : Broker) (ws : List Write) → Each GoodName ws → AllSubs Named b → AllSubs Named (all_written per b ws)
all_named per b [] good h = h
all_named per b (w ∷ ws) good h = all_named per (written per b w) ws good.1 (written_named per b w good.0 h)

changed_name : (v : Subscription) (c : Change) → (sub_changed v c).name ≡ v.name
changed_name v (change.Attach n k) = named_same n (attached k) (λ v. refl) v
changed_name v (change.Permit n c permits) = named_same n (permitted c permits) (λ v. refl) v
changed_name v (change.Skipped n i) = named_same n (skipped_index i) (λ v. refl) v
changed_name v (change.Given n i at) = named_same n (given i at) (λ v. refl) v
changed_name v (change.Cache n c) = named_same n (λ s. record s { cache = cached s.cache c }) (λ v. refl) v
changed_name v (change.Acked n) = named_same n after_acks (λ v. refl) v
changed_name v (change.Cleared n) = named_same n cleared (λ v. refl) v
changed_name v c = refl

then_named : (b : Broker) (cs : List Change) → AllSubs Named b → AllSubs Named (all_changed b cs)
then_named b [] h = h
then_named b (c ∷ cs) h =
    then_named (changed b c) cs
    (done_subs Named Named 0 b (quiet_plan (c ∷ [])) tt (λ v k. kept_name (λ u. sub_changed u c) v (changed_name v c) k) h)

brings : (n : ℕ) (c : Change) → WideChange n c → Brings (Wide n) c
brings n (change.Cache name c) h = h
brings n c h = tt

builds : (n : ℕ) (o : Option SnapshotBuilder) (cs : List Change) → ((u : SnapshotBuilder) → o ≡ Some u → length u.cut.remote ≡ n) → Each (WideChange n) cs
    → (u : SnapshotBuilder) → builder_then o cs ≡ Some u → length u.cut.remote ≡ n
builds n o [] h k u is = h u is
builds n o (change.Building v ∷ cs) h k u is = builds n v cs k.0 k.1 u is
builds n o (change.Forget ∷ cs) h k u is = builds n None cs (λ v e. absurd (none-some v e)) k.1 u is
builds n o (c ∷ cs) h k u is = builds n o cs h k.1 u is

pub written_wide : (n per : ℕ) (b : Broker) (ws : List Write) → Each GoodName ws → WideAt n b → WideAt n (all_written per b ws)
written_wide n per b ws good h = record {
  names = all_named per b ws good h.names;
  caches = all_written_cached (Wide n) per b ws h.caches;
  builder = λ u is. h.builder u (sym (all_written_builder per b ws) ∙ is);
}

pub changed_wide : (n : ℕ) (b : Broker) (cs : List Change) → Each (WideChange n) cs → WideAt n b → WideAt n (all_changed b cs)
changed_wide n b cs good h = record {
  names = then_named b cs h.names;
  caches = all_changed_cached (Wide n) b cs (each_map (WideChange n) (Brings (Wide n)) (brings n) cs good) h.caches;
  builder = λ u is. builds n b.builder cs h.builder good u (sym (done_builder 0 b (quiet_plan cs)) ∙ is);
}

-- PLANS

pub record WidePlan (n : ℕ) (p : Plan) : Type 0 where
  pub names : Each GoodName p.writes
  pub changes : Each (WideChange n) p.changes

pub done_wide : (n per : ℕ) (b : Broker) (p : Plan) → WidePlan n p → WideAt n b → WideAt n (done per b p)
done_wide n per b p good h = changed_wide n (all_written per b p.writes) p.changes good.changes (written_wide n per b p.writes good.names h)

-- an update that follows creates nothing
after_good : (h : Site) (b : Broker) (v : Subscription) (ws : List Write) → Updates h b v ws → Each GoodName ws
after_good h b v ws Updates.NoUpdate = tt
after_good h b v ws (Updates.Update cut replicated passed) = (tt, tt)

pub served_wide : (n : ℕ) (h : Site) (b : Broker) (c : ℕ) (p : Packet) (q : Plan) → Served h b c p q → WidePlan n q
served_wide n h b c p q Served.Ignores = record { names = tt; changes = tt }
served_wide n h b c p q Served.Disconnects = record { names = tt; changes = (tt, (tt, tt)) }
served_wide n h b c p q (Served.Connects s is new) = record { names = tt; changes = (tt, (tt, tt)) }
served_wide n h b c p q (Served.Answers s f at) = record { names = tt; changes = tt }
served_wide n h b c p q (Served.ChangesProducers s ps f at) = record { names = tt; changes = (tt, tt) }
served_wide n h b c p q (Served.Stores s id seq source e at sound new) = record { names = (tt, tt); changes = tt }
served_wide n h b c p q (Served.Repeats s id seq source e at sound old) = record { names = tt; changes = tt }
served_wide n h b c p q (Served.Creates s topic m kind id request consumer earliest replicated at is may named) =
    record { names = (middle (bytes_eq topic h.topic) (is_name m) (has_room b m) may.0, tt); changes = (tt, tt) }
served_wide n h b c p q (Served.Joins s topic m kind id request consumer earliest replicated v at is may named free same) = record { names = tt; changes = (tt, tt) }
served_wide n h b c p q (Served.Alters s topic m kind id request consumer earliest replicated v at is may named free other) = record { names = (tt, tt); changes = (tt, tt) }
served_wide n h b c p q (Served.Permits s id permits v at is by) = record { names = tt; changes = (tt, tt) }
served_wide n h b c p q (Served.Acknowledges s id kind ps v i is ws at sent by of after) = record { names = (tt, after_good h b _ ws after); changes = (tt, tt) }
served_wide n h b c p q (Served.Unsubscribes s id request v at is by last) = record { names = (tt, tt); changes = tt }
served_wide n h b c p q (Served.ClosesConsumer s id request v at is by) = record { names = tt; changes = (tt, tt) }

pub taken_wide : (n : ℕ) (h : Site) (b : Broker) (x : ℕ) (p : Packet) (q : Plan) → Taken h b x p q → WidePlan n q
taken_wide n h b x p q (Taken.Unreadable is) = record { names = tt; changes = (tt, tt) }
taken_wide n h b x p q (Taken.Opens topic id request name is opening) = record { names = tt; changes = (tt, tt) }
taken_wide n h b x p q (Taken.Discards other shut) = record { names = tt; changes = tt }
taken_wide n h b x p q (Taken.Refuses other at may) = record { names = tt; changes = (tt, tt) }
taken_wide n h b x p q (Taken.Stores id seq source e is at may new) = record { names = (tt, tt); changes = tt }
taken_wide n h b x p q (Taken.Repeats id seq source e is at may old) = record { names = tt; changes = tt }

pub answered_wide : (n : ℕ) (b : Broker) (y : ℕ) (p : Packet) (q : Plan) → Answered b y p q → WidePlan n q
answered_wide n b y p q (Answered.Stale other) = record { names = tt; changes = tt }
answered_wide n b y p q (Answered.Other at other) = record { names = tt; changes = tt }
answered_wide n b y p q (Answered.Opened request name at is state) = record { names = tt; changes = (tt, tt) }
answered_wide n b y p q (Answered.OpenBefore request name at is state) = record { names = tt; changes = tt }
answered_wide n b y p q (Answered.ClosedBefore request name at is state) = record { names = tt; changes = tt }
answered_wide n b y p q (Answered.Received id k i position at is pending) = record { names = (tt, tt); changes = (tt, tt) }
answered_wide n b y p q (Answered.ReceivedBefore id k position at is pending) = record { names = tt; changes = tt }

pub fated_wide : (n per : ℕ) (b : Broker) (Acts : Broker → Plan → Type 0) (lost q : Plan) → ((c : Broker) (r : Plan) → Acts c r → WidePlan n r) → WidePlan n lost
    → Fated per b Acts lost q → WidePlan n q
fated_wide n per b Acts lost q acts none (Fated.Once r t) = acts b r t
fated_wide n per b Acts lost q acts none Fated.Lost = none
fated_wide n per b Acts lost q acts none (Fated.Twice r r' t t') =
    let f = acts b r t in let g = acts _ r' t' in
    record { names = each_both GoodName r.writes r'.writes f.names g.names; changes = each_both (WideChange n) r.changes r'.changes f.changes g.changes }

-- a builder that goes on is as wide as before
goes_on : (n : ℕ) (b : Broker) (y i : ℕ) (id : List ℕ) (answer : ClusterPosition) (u : SnapshotBuilder) (g : Progress) (u' : SnapshotBuilder) → WideAt n b → b.builder ≡ Some u
    → Hears b y i id answer u g u' → (v : SnapshotBuilder) → Some u' ≡ Some v → length v.cut.remote ≡ n
goes_on n b y i id answer u g u' h is heard v same =
    ap (λ (k : SnapshotBuilder). length k.cut.remote) (sym (same_Some u' v same)) ∙ (hears_same b y i id answer u g u' heard).places ∙ h.builder u is

pub reads_wide : (h : Site) (b : Broker) (y : ℕ) (q : Plan) → WideAt (length h.clusters) b → Reads h b y q → WidePlan (length h.clusters) q
reads_wide h b y q w Reads.NothingToRead = record { names = tt; changes = tt }
reads_wide h b y q w (Reads.Forwards i e next out) = record { names = tt; changes = (tt, tt) }
reads_wide h b y q w (Reads.Skips i e next other) = record { names = (tt, tt); changes = (tt, tt) }
reads_wide h b y q w (Reads.Responds i e id source next of is) = record { names = (tt, (tt, tt)); changes = (tt, tt) }
reads_wide h b y q w (Reads.Counts i e id answer u u' next is heard) =
    record { names = (tt, tt); changes = (goes_on (length h.clusters) b y i id answer u progress.Kept u' w is.2 heard, (tt, tt)) }
reads_wide h b y q w (Reads.AsksAgain i e id answer u u' next is heard) =
    record { names = (tt, (tt, tt)); changes = (goes_on (length h.clusters) b y i id answer u progress.SecondRound u' w is.2 heard, (tt, tt)) }
reads_wide h b y q w (Reads.Completes i e id answer u u' next is heard) = record { names = (tt, (tt, tt)); changes = ((λ v e. absurd (none-some v e)), (tt, tt)) }
reads_wide h b y q w (Reads.CreatesAt i j e n remote next is named) = record { names = (left (is_name n) (has_room b n) is.3, (tt, (tt, tt))); changes = (tt, (tt, tt)) }
reads_wide h b y q w (Reads.ActsOnUpdate i j e n remote v ws next is named after) =
    record { names = (tt, each_both GoodName ws (write.ReplicatorAck y i ∷ []) (after_good h b _ ws after) (tt, tt)); changes = (tt, (tt, tt)) }

pub snaps_wide : (h : Site) (b : Broker) (q : Plan) → Snaps h b q → WidePlan (length h.clusters) q
snaps_wide h b q Snaps.NothingToAsk = record { names = tt; changes = tt }
snaps_wide h b q (Snaps.Asks any none) =
    let n = length h.clusters in
    record { names = (tt, tt); changes = ((λ u is. ap (λ (k : SnapshotBuilder). length k.cut.remote) (sym (same_Some _ u is)) ∙ length-replicate n None), tt) }

pub offers_wide : (h : Site) (b : Broker) (n : List ℕ) (q : Plan) → Offers h b n q → WidePlan (length h.clusters) q
offers_wide h b n q Offers.NothingToOffer = record { names = tt; changes = tt }
offers_wide h b n q (Offers.Gives v i at e due is picked) = record { names = tt; changes = (tt, tt) }
offers_wide h b n q (Offers.SkipsMarker v i e ws due is after) = record { names = (tt, after_good h b _ ws after); changes = (tt, (tt, tt)) }
offers_wide h b n q (Offers.Caches v i j e c ws due is after) =
    record { names = (tt, after_good h b _ ws after); changes = (snapshot_wide h b v e j c is, (tt, (tt, tt))) }

pub seeks_wide : (n : ℕ) (h : Site) (b : Broker) (m : List ℕ) (to : Option Position) (q : Plan) → Seeks h b m to q → WidePlan n q
seeks_wide n h b m to q Seeks.NothingToSeek = record { names = tt; changes = tt }
seeks_wide n h b m to q (Seeks.SeeksTo v i ws named at after) = record { names = (tt, after_good h b _ ws after); changes = (tt, tt) }

pub shape_wide : (s : Setup) (w : World) (p : Planned) → Shape s w p → WideAt (length s.clusters) (topic_at s w p.topic p.cluster) → WidePlan (length s.clusters) p.plan
unfolding restart
shape_wide s w p (Shape.Idle t x within) h = record { names = tt; changes = tt }
shape_wide s w p (Shape.Empty t x k within next) h = record { names = tt; changes = tt }
shape_wide s w p (Shape.Serve x c q plan within next served) h = served_wide (length s.clusters) _ _ c q plan served
shape_wide s w p (Shape.Drop x c v within at) h = record { names = tt; changes = (tt, (tt, tt)) }
shape_wide s w p (Shape.Reset t x y within remote) h = record { names = (tt, tt); changes = (tt, tt) }
shape_wide s w p (Shape.Read t x y plan within reads) h = reads_wide (site s t x) _ y plan h reads
shape_wide s w p (Shape.Take t x y q plan within next taken) h =
    fated_wide (length s.clusters) s.per_ledger _ _ (closes x) plan (λ c r k. taken_wide (length s.clusters) _ c x q r k) (record { names = tt; changes = (tt, tt) }) taken
shape_wide s w p (Shape.Receipt t x y q plan within next answered) h =
    fated_wide (length s.clusters) s.per_ledger _ _ (quiet_plan []) plan (λ c r k. answered_wide (length s.clusters) c y q r k) (record { names = tt; changes = tt }) answered
shape_wide s w p (Shape.Snap t x plan within snaps) h = snaps_wide (site s t x) _ plan snaps
shape_wide s w p (Shape.Offer t x n plan within offers) h = offers_wide (site s t x) _ _ plan offers
shape_wide s w p (Shape.Seek t x n to plan within seeks) h = seeks_wide (length s.clusters) _ _ _ to plan seeks
shape_wide s w p (Shape.Restart t x within) h = record { names = (tt, tt); changes = (tt, tt) }

-- WORLDS

abbrev pub AllWide : Setup → World → Type 0
AllWide s w = Everywhere s (λ x b. WideAt (length s.clusters) b) w

-- a topic that is not there has nothing
nowhere_wide : (n : ℕ) → WideAt n no_broker
nowhere_wide n = record { names = tt; caches = λ k v at. absurd (none-some v at); builder = λ u is. absurd (none-some u is) }

wide_does : (s : Setup) (w : World) (p : Planned) → Shape s w p → AllWide s w → AllWide s (broker_does s w p)
unfolding broker_does
wide_does s w p shape all =
    let n = length s.clusters in let b = topic_at s w p.topic p.cluster in
    on_if (AllWide s) p.plan.idle _ _ all
    (one_node s (λ x b. WideAt n b) w p.topic p.cluster (done s.per_ledger b p.plan) (shape_within s w p shape)
    (λ here. let h = all p.topic p.cluster here in done_wide n s.per_ledger b p.plan (shape_wide s w p shape h) h) all)

wide_halts : (s : Setup) (w : World) (k : ℕ) (p : Planned) → Shape s w p → AllWide s w → AllWide s (broker_halts s w k p)
unfolding broker_halts
wide_halts s w k p shape all =
    let n = length s.clusters in let b = topic_at s w p.topic p.cluster in let ws = take k p.plan.writes ++ write.Ledger ∷ [] in
    one_node s (λ x b. WideAt n b) w p.topic p.cluster (halted s.per_ledger b k p.plan) (shape_within s w p shape)
    (λ here. let h = all p.topic p.cluster here in
    changed_wide n (all_written s.per_ledger b ws) (change.Forget ∷ []) (tt, tt)
    (written_wide n s.per_ledger b ws (each_both GoodName (take k p.plan.writes) (write.Ledger ∷ []) (each_take GoodName k p.plan.writes (shape_wide s w p shape h).names) (tt, tt)) h)) all

wide_client : (s : Setup) (w : World) (c : ℕ) (k : Option LinkName) (a : Acted) → AllWide s w → AllWide s (client_does s w c k a)
unfolding client_does
wide_client s w c k a all = on_if (AllWide s) a.idle _ _ all all

wide_stops : (s : Setup) (w : World) → Sized s w → AllWide s w → AllWide s (stops s w)
unfolding stops restart
wide_stops s w z all t x there =
    let n = length s.clusters in let b = topic_at s w t x in
    subst (WideAt n) (sym (stopped_at w.brokers (λ c. done s.per_ledger c restart) (node s t x) (node_there s w t x z there)))
    (changed_wide n (all_written s.per_ledger b (write.Ledger ∷ [])) (change.Forget ∷ []) (tt, tt) (written_wide n s.per_ledger b (write.Ledger ∷ []) (tt, tt) (all t x there)))

wide_opening : (s : Setup) → AllWide s (opening_world s)
wide_opening s t x there =
    let n = length s.clusters in
    subst (WideAt n) (sym (get_or-replicate (length s.topics * n) (node s t x) (new_broker n (length s.clients)) no_broker (node_lt s t x there)))
    (record { names = tt; caches = λ k v at. absurd (none-some v at); builder = λ u is. absurd (none-some u is) })

pub wide_kept : (s : Setup) → KeptWith s (Sized s) (AllWide s)
wide_kept s = record {
  opening = wide_opening s;
  idle = λ w n g all. all;
  round = λ w n g all. all;
  does = λ w p shape g g' all. wide_does s w p shape all;
  halts = λ w k p shape g g' all. wide_halts s w k p shape all;
  goes = λ w c a g g' all. wide_client s w c None a all;
  gets = λ w c x a g g' all. wide_client s w c (Some (ToClient c x)) a all;
  stop = λ w z z' all. wide_stops s w z all;
}
