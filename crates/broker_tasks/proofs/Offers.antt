-- What an offer is, by what the dispatcher of its subscription chooses.
use Rattle.std.proofs.Common.{◌≡◌, ℕ, ◌+◌, ◌<◌, ◌^◌, Bool, true, false, List, [], ◌∷◌, ◌++◌, length, refl, sym, ◌∙◌, ap, subst}
use Rattle.std.specs.Prelude.{nat_lt, if◌then◌else◌, Option, Some, None, IfSome, Result, OnOk, drop, slice_get}
use Rattle.std.specs.List.{All, AllByRecursion}
use Rattle.std.proofs.lemmas.List.Elements.{All-cons, All-nil}
use Rattle.geo_base.specs.declared.consumer.Consumer.{Consumer}
use Rattle.geo_base.specs.declared.entry.Entry.{Entry}
use Rattle.geo_base.specs.declared.snapshot.CachedSnapshot.{CachedSnapshot}
use Rattle.geo_base.specs.Broker.{Broker, Site, sub_named}
use Rattle.geo_base.specs.Cache.{cached, most_cached}
use Rattle.geo_base.specs.Dispatcher.{consumer_at, pick}
use Rattle.geo_base.specs.Name.{is_name}
use Rattle.geo_base.specs.Offering.{message, offer, own_snapshot, skips_marker}
use Rattle.geo_base.specs.Plan.{Plan, idle_plan, unless_found}
use Rattle.geo_base.specs.Subscription.{Subscription}
use Rattle.dispatcher.specs.declared.offering.Choice.{Choice}
use Rattle.dispatcher.specs.declared.offering.Choice.TheVariants as does
use Rattle.dispatcher.specs.Dispatch.{dispatch_of}
use Rattle.dispatcher.specs.Events.{plan_of_choice}
use Rattle.dispatcher.specs.Offers.{choice}
use Rattle.dispatcher.proofs.Events.{offer_as_chosen}
use Rattle.broker_subs.specs.Table.{sub_at}
use Rattle.broker_subs.specs.declared.writing.SubWrite.TheVariants as sub_write
use Rattle.broker_state.specs.Plan.{PlanView}
use Rattle.broker_state.specs.Room.{change_room, change_replicators, total}
use Rattle.geo_base.specs.declared.packet.WireOut.{WireOut}
use Rattle.broker_state.specs.Site.{IsSite}
use Rattle.broker_plans.specs.Prepared.{ArePackets, IsPrepared}
use Rattle.broker_plans.specs.Storable.{IsSnapshotOf, IsStorable, IsWritable}
use Rattle.broker_plans.specs.Updates.{update_after}
use Rattle.broker_plans.proofs.Packets.{stored_at}
use Rattle.broker_plans.proofs.Places.{name_there}
use Rattle.broker_plans.proofs.Updates.{cache_at}
use Rattle.broker_tasks.specs.Offering.{cached_with, given_view, gives, catch_up_changes, writing_view}
use Rattle.broker_tasks.proofs.Shapes.{gives_index, writes_cursor}

-- what the dispatcher of the subscription of a name chooses
pub chosen_prepared : {E : Type 0} (h : Site) (b : Broker) (n : List ℕ) (s : Subscription) (out now : Choice) (p : PlanView) (r : Result (Unit {0}) E) → sub_named b.subs n ≡ Some s
    → out ≡ choice pick (dispatch_of s) s.cursor b.entries → out ≡ now → OnOk r (IsPrepared h b (plan_of_choice h b s now) p) → OnOk r (IsPrepared h b (offer h b n) p)
chosen_prepared {E} h b n s out now p r is chosen same prepared =
    subst (λ (q : Plan). OnOk r (IsPrepared h b q p)) (sym (offer_as_chosen h b n s is ∙ ap (λ (c : Choice). plan_of_choice h b s c) (sym chosen ∙ same))) prepared

pub nothing_chosen : (h : Site) (b : Broker) (n : List ℕ) (s : Subscription) (out : Choice) → sub_named b.subs n ≡ Some s → out ≡ choice pick (dispatch_of s) s.cursor b.entries → out ≡ does.Idle → offer h b n ≡ idle_plan
nothing_chosen h b n s out is chosen same = offer_as_chosen h b n s is ∙ ap (λ (c : Choice). plan_of_choice h b s c) (sym chosen ∙ same)

-- ---- a message

at_entry : (f : Entry → Plan) (o : Option Entry) (e : Entry) → o ≡ Some e → f e ≡ unless_found idle_plan o f
at_entry f o e at = sym (ap (λ (o : Option Entry). unless_found idle_plan o f) at)

-- where room was made before
pub given_from : (h g : Site) (b c : Broker) (k i at : ℕ) (e : Entry) (p : PlanView) → g ≡ h → c ≡ b → slice_get c.entries i ≡ Some e → IsPrepared g c (gives g c (sub_at c.subs k) i at e) p
    → IsPrepared h b (plan_of_choice h b (sub_at b.subs k) (does.Give i at)) p
given_from h g b c k i at e p site same there prepared =
    subst (λ (f : Site). IsPrepared f b (plan_of_choice f b (sub_at b.subs k) (does.Give i at)) p) site
    (subst (λ (d : Broker). IsPrepared g d (plan_of_choice g d (sub_at d.subs k) (does.Give i at)) p) same
    (subst (λ (q : Plan). IsPrepared g c q p) (at_entry (λ (e : Entry). gives g c (sub_at c.subs k) i at e) (slice_get c.entries i) e there) prepared))

-- the event that gives the message to the consumer, of whom a packet tells
pub gives_from : (h : Site) (b : Broker) (k i at : ℕ) (e : Entry) (s : Subscription) (x : Consumer) (packet : WireOut) (p : PlanView) → k < length b.subs → i + 1 < 2 ^ 64 → at < length (sub_at b.subs k).consumers → s ≡ sub_at b.subs k
    → x ≡ consumer_at s.consumers at → ArePackets h.clusters (message h b i e x) (packet ∷ []) → p ≡ given_view k i at packet → IsPrepared h b (gives h b (sub_at b.subs k) i at e) p
gives_from h b k i at e s x packet p within next among same consumer told is =
    gives_index h b k i at e packet p within next among
    (subst (λ (y : Consumer). ArePackets h.clusters (message h b i e y) (packet ∷ [])) (consumer ∙ ap (λ (t : Subscription). consumer_at t.consumers at) same) told) is

-- what is stored can be written
pub stored_there : (h : Site) (b : Broker) (i : ℕ) (e : Entry) → IsWritable h b → slice_get b.entries i ≡ Some e → IsStorable h e
stored_there h b i e all at = stored_at h b.entries i e all.entries at

pub stored_from : (h g : Site) (b c : Broker) (i : ℕ) (e : Entry) → g ≡ h → c ≡ b → IsWritable h b → slice_get c.entries i ≡ Some e → IsStorable g e
stored_from h g b c i e site same all at = subst (λ (f : Site). IsStorable f e) (sym site) (stored_there h b i e all (subst (λ (d : Broker). slice_get d.entries i ≡ Some e) same at))

-- ---- a marker

-- it is caught up with
pub caught_from : (h : Site) (b : Broker) (k i : ℕ) (e : Entry) (o : Option CachedSnapshot) (p : PlanView) → slice_get b.entries i ≡ Some e → o ≡ own_snapshot h b (sub_at b.subs k) e.ident.origin e.content
    → IsPrepared h b (skips_marker h b (sub_at b.subs k) i o) p → IsPrepared h b (plan_of_choice h b (sub_at b.subs k) (does.Skip i)) p
caught_from h b k i e o p at brought prepared =
    let s = sub_at b.subs k in
    subst (λ (q : Plan). IsPrepared h b q p)
    (ap (λ (x : Option CachedSnapshot). skips_marker h b s i x) brought ∙ at_entry (λ (e : Entry). skips_marker h b s i (own_snapshot h b s e.ident.origin e.content)) (slice_get b.entries i) e at) prepared

-- one more snapshot, and the oldest gone where there are too many
all_push : (h : Site) (cs : List CachedSnapshot) (c : CachedSnapshot) → AllByRecursion (IsSnapshotOf h) cs → IsSnapshotOf h c → AllByRecursion (IsSnapshotOf h) (cs ++ c ∷ [])
all_push h [] c all small = (small, tt)
all_push h (x ∷ xs) c all small = (all.0, all_push h xs c all.1 small)

all_but_first : (h : Site) (cs : List CachedSnapshot) → AllByRecursion (IsSnapshotOf h) cs → AllByRecursion (IsSnapshotOf h) (drop 1 cs)
all_but_first h [] all = tt
all_but_first h (x ∷ xs) all = all.1

either : (P : List CachedSnapshot → Type 0) (b : Bool) (xs ys : List CachedSnapshot) → P xs → P ys → P (if b then xs else ys)
either P true xs ys hx hy = hx
either P false xs ys hx hy = hy

cached_small : (h : Site) (cs : List CachedSnapshot) (c : CachedSnapshot) → AllByRecursion (IsSnapshotOf h) cs → IsSnapshotOf h c → AllByRecursion (IsSnapshotOf h) (cached cs c)
cached_small h cs c all small =
    either (AllByRecursion (IsSnapshotOf h)) (nat_lt (length cs) most_cached) (cs ++ c ∷ []) (drop 1 cs ++ c ∷ []) (all_push h cs c all small) (all_push h (drop 1 cs) c (all_but_first h cs all) small)

with_small : (h : Site) (cs : List CachedSnapshot) (o : Option CachedSnapshot) → AllByRecursion (IsSnapshotOf h) cs → IfSome o (IsSnapshotOf h) → AllByRecursion (IsSnapshotOf h) (cached_with cs o)
with_small h cs None all small = all
with_small h cs (Some c) all small = cached_small h cs c all small

-- one index of an entry
only : (n i : ℕ) → i < n → All (λ j. j < n) (i ∷ [])
only n i h = All-cons (λ (j : ℕ). j < n) i [] h (All-nil (λ (j : ℕ). j < n))

-- the event that catches up with the marker at index i
pub catches_up : (h : Site) (b : Broker) (k i : ℕ) (o : Option CachedSnapshot) (p : PlanView) → IsSite h → IsWritable h b → k < length b.subs → is_name (sub_at b.subs k).name ≡ true → i < length b.entries → i + 1 < 2 ^ 64
    → IfSome o (IsSnapshotOf h) → p ≡ writing_view k (sub_write.Acks (i ∷ [])) (update_after h b k (sub_write.Acks (i ∷ [])) (cached_with (sub_at b.subs k).cache o)) (catch_up_changes o i)
    → IsPrepared h b (skips_marker h b (sub_at b.subs k) i o) p
catches_up h b k i None p site writable within named stored next small is =
    let s = sub_at b.subs k in
    let w = sub_write.Acks (i ∷ []) in
    let one = only (length b.entries) i stored in
    rw is (writes_cursor h b k w s.cache (catch_up_changes None i) site within named (cache_at h b.subs k writable.caches) one (name_there b.subs k within, (name_there b.subs k within, tt)) (λ c. (next, (tt, tt))) tt)
catches_up h b k i (Some c) p site writable within named stored next small is =
    let s = sub_at b.subs k in
    let w = sub_write.Acks (i ∷ []) in
    let one = only (length b.entries) i stored in
    let there = name_there b.subs k within in
    rw is
    (writes_cursor h b k w (cached s.cache c) (catch_up_changes (Some c) i) site within named (cached_small h s.cache c (cache_at h b.subs k writable.caches) small) one (there, (there, (there, tt))) (λ d. (tt, (next, (tt, tt)))) (small, tt))

pub catch_up_room : (o : Option CachedSnapshot) (i : ℕ) → total change_room (catch_up_changes o i) ≡ 0
catch_up_room None i = refl
catch_up_room (Some c) i = refl

pub catch_up_still : (o : Option CachedSnapshot) (i : ℕ) → total change_replicators (catch_up_changes o i) ≡ 0
catch_up_still None i = refl
catch_up_still (Some c) i = refl
