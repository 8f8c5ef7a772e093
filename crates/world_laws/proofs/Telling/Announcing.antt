-- Where an own update comes from: it is appended after a write of the cursor of a subscription that is here, whose mark-delete
-- then passes a snapshot of its cache. Each plan is of this form, or appends no own update.
use Rattle.std.proofs.Common.{◌≡◌, ℕ, zero, suc, ◌+◌, ◌<◌, Bool, true, false, List, [], ◌∷◌, ◌++◌, map, refl, sym, ap, subst, ◌∙◌, ◌==◌}
use Rattle.std.specs.Prelude.{Option, Some, ◌&&◌, if◌then◌else◌, find, option_map, slice_get, take}
use Rattle.std.specs.Str.{bytes_eq}
use Rattle.std.proofs.lemmas.Bool.{false≢true, ltb-true}
use Rattle.std.proofs.lemmas.List.{append-nil}
use Rattle.std.proofs.lemmas.Option.{none-some, same_Some, slice_get-map}
use Rattle.world_laws.proofs.Types.{CachedSnapshot, ClusterPosition, Content, Cut, Entry, Packet, Position, Write}
use Rattle.world_laws.proofs.Types.content
use Rattle.world_laws.proofs.Types.marker
use Rattle.world_laws.proofs.Types.write
use Rattle.geo_base.specs.Broker.{Broker, Site, written}
use Rattle.geo_base.specs.SnapshotBuilder.{named}
use Rattle.geo_base.specs.Cache.{last_passed}
use Rattle.geo_base.specs.Cursor.{mark}
use Rattle.geo_base.specs.Entry.{is_data}
use Rattle.geo_base.specs.Forwarding.{closes}
use Rattle.geo_base.specs.Plan.{Plan, all_written, quiet_plan}
use Rattle.geo_base.specs.Planned.{Planned}
use Rattle.geo_base.specs.Seeking.{restart}
use Rattle.geo_base.specs.Setup.{Setup}
use Rattle.geo_base.specs.Storing.{update_marker}
use Rattle.geo_base.specs.Subscription.{Subscription, has_consumer, sought, with_acks}
use Rattle.geo_base.specs.Updating.{updated_indexes}
use Rattle.geo_base.specs.World.{World, site, topic_at}
use Rattle.world_laws.proofs.TopicOrder.Added.{appended, came_other, sound_data}
use Rattle.world_laws.proofs.Snapshotting.Building.{IsCached, differ, other_silent}
use Rattle.world_laws.proofs.Snapshotting.Caches.{AllCached, AllIn, cached_all}
use Rattle.world_laws.proofs.Replicating.Effects.{Each, each_both, each_take}
use Rattle.world_laws.proofs.Walks.EventWalk.{of_target}
use Rattle.world_laws.proofs.OnceInOrder.Members.{Stands, stands_next}
use Rattle.world_laws.proofs.TopicOrder.NoSelf.{NoSelf}
use Rattle.world_laws.proofs.Telling.Passing.{last_passed_is}
use Rattle.world_laws.proofs.Replicating.Prefixes.{is_of}
use Rattle.world_laws.proofs.Dispatching.Serving.{at_own}
use Rattle.world_laws.proofs.Walks.Shapes.{Answered, Fated, Offers, Reads, Seeks, Served, Shape, Snaps, Taken, Updates}
use Rattle.world_laws.proofs.Dispatching.SubFrames.{Aside, at_name, named_same, sub_written}

-- CONTENTS

abbrev is_update : Content → Bool
is_update (content.Marked (marker.Update n remote)) = true
is_update c = false

abbrev updated_name : Content → List ℕ
updated_name (content.Marked (marker.Update n remote)) = n
updated_name c = []

abbrev updated_places : Content → List ClusterPosition
updated_places (content.Marked (marker.Update n remote)) = remote
updated_places c = []

-- an own update
abbrev announces : ℕ → Entry → Bool
announces own e = is_update e.content && is_of own e

-- a write that appends none
abbrev pub Unannounced : ℕ → Write → Type 0
Unannounced own (write.Append e) = announces own e ≡ false
Unannounced own w = Unit {0}

-- a write of a cursor
abbrev pub Moves : Write → Type 0
Moves (write.Acks n is) = Unit {0}
Moves (write.Seek n i) = Unit {0}
Moves w = ⊥

-- THE WRITES OF A PLAN, F being a fact of the snapshots of the caches

pub data Announcing (F : CachedSnapshot → Type 0) (h : Site) (b : Broker) : List Write → Type 0 where
  Silent : (ws : List Write) → Each (Unannounced h.own) ws → Announcing F h b ws
  Update : (v : Subscription) (n : List ℕ) (w : Write) (cs : List CachedSnapshot) (cut : Cut) (rest : List Write) → Stands b.subs v → v.name ≡ n → Moves w → AllIn F cs
      → last_passed (mark (sub_written v w).cursor) cs ≡ Some cut → Each Aside rest → Each (Unannounced h.own) rest
      → Announcing F h b (w ∷ write.Append (update_marker h b n cut) ∷ rest)

moves_quiet : (own : ℕ) (w : Write) → Moves w → Unannounced own w
moves_quiet own (write.Acks n is) m = tt
moves_quiet own (write.Seek n i) m = tt
moves_quiet own w m = absurd m

-- a beginning of them
pub announcing_take : (F : CachedSnapshot → Type 0) (h : Site) (b : Broker) (k : ℕ) (ws : List Write) → Announcing F h b ws → Announcing F h b (take k ws)
announcing_take F h b zero ws a = Announcing.Silent [] tt
announcing_take F h b (suc k) ws (Announcing.Silent vs quiet) = Announcing.Silent _ (each_take (Unannounced h.own) (suc k) ws quiet)
announcing_take F h b (suc zero) ws (Announcing.Update v n w cs cut rest stands name moves cached passed aside quiet) =
    Announcing.Silent (w ∷ []) (moves_quiet h.own w moves, tt)
announcing_take F h b (suc (suc k)) ws (Announcing.Update v n w cs cut rest stands name moves cached passed aside quiet) =
    Announcing.Update v n w cs cut (take k rest) stands name moves cached passed (each_take Aside k rest aside) (each_take (Unannounced h.own) k rest quiet)

-- and with a new ledger after it, as a stop leaves them
announcing_opened : (F : CachedSnapshot → Type 0) (h : Site) (b : Broker) (ws : List Write) → Announcing F h b ws → Announcing F h b (ws ++ write.Ledger ∷ [])
announcing_opened F h b ws (Announcing.Silent vs quiet) = Announcing.Silent _ (each_both (Unannounced h.own) ws (write.Ledger ∷ []) quiet (tt, tt))
announcing_opened F h b ws (Announcing.Update v n w cs cut rest stands name moves cached passed aside quiet) =
    Announcing.Update v n w cs cut (rest ++ write.Ledger ∷ []) stands name moves cached passed (each_both Aside rest (write.Ledger ∷ []) aside (tt, tt))
    (each_both (Unannounced h.own) rest (write.Ledger ∷ []) quiet (tt, tt))

pub announcing_halt : (F : CachedSnapshot → Type 0) (h : Site) (b : Broker) (k : ℕ) (ws : List Write) → Announcing F h b ws → Announcing F h b (take k ws ++ write.Ledger ∷ [])
announcing_halt F h b k ws a = announcing_opened F h b (take k ws) (announcing_take F h b k ws a)

-- WHAT AN OWN UPDATE THEN SAYS

-- of a snapshot below the mark-delete of a subscription of its name, c being the topic after the writes
pub record Announced (F : CachedSnapshot → Type 0) (c : Broker) (n : List ℕ) (remote : List ClusterPosition) : Type 0 where
  pub snapshot : CachedSnapshot
  pub fact : F snapshot
  pub is : named snapshot.cut ≡ remote
  pub sub : Subscription
  pub stands : Stands c.subs sub
  pub name : sub.name ≡ n
  pub below : snapshot.index < mark sub.cursor

none_announced : (own : ℕ) (ws : List Write) → Each (Unannounced own) ws → (j : ℕ) (e : Entry) → slice_get (appended ws) j ≡ Some e → announces own e ≡ false
none_announced own [] quiet j e at = absurd (none-some e at)
none_announced own (write.Append f ∷ ws) quiet zero e at = subst (λ (a : Entry). announces own a ≡ false) (same_Some _ _ at) quiet.0
none_announced own (write.Append f ∷ ws) quiet (suc j) e at = none_announced own ws quiet.1 j e at
none_announced own (w ∷ ws) quiet j e at = none_announced own ws quiet.1 j e at

moves_appended : (w : Write) (ws : List Write) → Moves w → appended (w ∷ ws) ≡ appended ws
moves_appended (write.Acks n is) ws m = refl
moves_appended (write.Seek n i) ws m = refl
moves_appended w ws m = absurd m

stands_map : {X Y : Type 0} (f : X → Y) (xs : List X) (x : X) → Stands xs x → Stands (map f xs) (f x)
stands_map f xs x s = record { place = s.place; is = slice_get-map f xs s.place ∙ ap (option_map f) s.is }

moved_stands : (per : ℕ) (b : Broker) (v : Subscription) (w : Write) → Moves w → Stands b.subs v → Stands (written per b w).subs (sub_written v w)
moved_stands per b v (write.Acks n is) m s = stands_map (at_name n (with_acks is)) b.subs v s
moved_stands per b v (write.Seek n i) m s = stands_map (at_name n (sought i)) b.subs v s
moved_stands per b v w m s = absurd m

moved_name : (v : Subscription) (w : Write) → Moves w → (sub_written v w).name ≡ v.name
moved_name v (write.Acks n is) m = named_same n (with_acks is) (λ u. refl) v
moved_name v (write.Seek n i) m = named_same n (sought i) (λ u. refl) v
moved_name v w m = absurd m

-- writes that touch no subscription
aside_written : (per : ℕ) (b : Broker) (ws : List Write) → Each Aside ws → (all_written per b ws).subs ≡ b.subs
aside_written per b [] h = refl
aside_written per b (write.Append e ∷ ws) h = aside_written per (written per b (write.Append e)) ws h.1
aside_written per b (write.ReplicatorAck y i ∷ ws) h = aside_written per (written per b (write.ReplicatorAck y i)) ws h.1
aside_written per b (write.SessionNumber y n ∷ ws) h = aside_written per (written per b (write.SessionNumber y n)) ws h.1
aside_written per b (write.Ledger ∷ ws) h = aside_written per (written per b write.Ledger) ws h.1
aside_written per b (w ∷ ws) h = absurd h.0

own_update : (own : ℕ) (e : Entry) (n : List ℕ) (remote : List ClusterPosition) → is_of own e ≡ true → e.content ≡ content.Marked (marker.Update n remote) → announces own e ≡ true
own_update own e n remote of is = subst (λ (c : Content). (is_update c && is_of own e) ≡ true) (sym is) of

pub announced : (F : CachedSnapshot → Type 0) (h : Site) (per : ℕ) (b : Broker) (ws : List Write) → Announcing F h b ws → (j : ℕ) (e : Entry) (n : List ℕ) (remote : List ClusterPosition)
    → slice_get (appended ws) j ≡ Some e → is_of h.own e ≡ true → e.content ≡ content.Marked (marker.Update n remote) → Announced F (all_written per b ws) n remote
announced F h per b ws (Announcing.Silent vs quiet) j e n remote at of is =
    absurd (false≢true (sym (none_announced h.own ws quiet j e at) ∙ own_update h.own e n remote of is))
announced F h per b ws (Announcing.Update v m w cs cut rest stands name moves cached passed aside quiet) j e n remote at of is =
    go j (ap (λ (es : List Entry). slice_get es j) (sym (moves_appended w (write.Append u ∷ rest) moves)) ∙ at)
  where
    u : Entry
    u = update_marker h b m cut

    c : Broker
    c = written per (written per b w) (write.Append u)

    subs : (all_written per c rest).subs ≡ (written per b w).subs
    subs = aside_written per c rest aside

    here : u ≡ e → Announced F (all_written per c rest) n remote
    here same =
        let p = last_passed_is (mark (sub_written v w).cursor) cs cut passed in
        let content_is = ap (λ (a : Entry). a.content) same ∙ is in record {
          snapshot = p.snapshot;
          fact = cached p.stands.place p.snapshot p.stands.is;
          is = ap named p.is ∙ ap updated_places content_is;
          sub = sub_written v w;
          stands = subst (λ (vs : List Subscription). Stands vs (sub_written v w)) (sym subs) (moved_stands per b v w moves stands);
          name = moved_name v w moves ∙ name ∙ ap updated_name content_is;
          below = p.below;
        }

    go : (i : ℕ) → slice_get (u ∷ appended rest) i ≡ Some e → Announced F (all_written per c rest) n remote
    go zero at' = here (same_Some _ _ at')
    go (suc i) at' = absurd (false≢true (sym (none_announced h.own rest quiet i e at') ∙ own_update h.own e n remote of is))

-- WHAT FOLLOWS A WRITE OF A CURSOR

-- v is a subscription that is here, and u the same with the write w done and with whatever cache
moved : (F : CachedSnapshot → Type 0) (h : Site) (b : Broker) (v u : Subscription) (w : Write) (ws rest : List Write) → Stands b.subs v → v.name ≡ u.name → Moves w
    → (sub_written v w).cursor ≡ u.cursor → AllIn F u.cache → Each Aside rest → Each (Unannounced h.own) rest → Updates h b u ws → Announcing F h b (w ∷ (ws ++ rest))
moved F h b v u w ws rest stands name moves cursor cached aside quiet Updates.NoUpdate = Announcing.Silent _ (moves_quiet h.own w moves, quiet)
moved F h b v u w ws rest stands name moves cursor cached aside quiet (Updates.Update cut replicated passed) =
    Announcing.Update v u.name w u.cache cut rest stands name moves cached
    (subst (λ (l : List ℕ). last_passed (mark l) u.cache ≡ Some cut) (sym cursor) passed) aside quiet

moved_last : (F : CachedSnapshot → Type 0) (h : Site) (b : Broker) (v u : Subscription) (w : Write) (ws : List Write) → Stands b.subs v → v.name ≡ u.name → Moves w
    → (sub_written v w).cursor ≡ u.cursor → AllIn F u.cache → Updates h b u ws → Announcing F h b (w ∷ ws)
moved_last F h b v u w ws stands name moves cursor cached after =
    subst (λ (vs : List Write). Announcing F h b (w ∷ vs)) (append-nil ws) (moved F h b v u w ws [] stands name moves cursor cached tt tt after)

-- what is found is of the list, and passes the test
pub find_stands : {X : Type 0} (p : X → Bool) (xs : List X) (x : X) → find p xs ≡ Some x → Stands xs x × (p x ≡ true)
find_stands p [] x e = absurd (none-some x e)
find_stands p (a ∷ xs) x e = by (p a) refl e (find_stands p xs x)
  where
    by : (t : Bool) → p a ≡ t → (if t then Some a else find p xs) ≡ Some x → (find p xs ≡ Some x → Stands xs x × (p x ≡ true)) → Stands (a ∷ xs) x × (p x ≡ true)
    by true is e ih = (record { place = zero; is = e }, subst (λ y. p y ≡ true) (same_Some a x e) is)
    by false is e ih = let r = ih e in (stands_next a xs x r.0, r.1)

cursor_at : (f : Subscription → Subscription) (v : Subscription) → (at_name v.name f v).cursor ≡ (f v).cursor
cursor_at f v = ap (λ (u : Subscription). u.cursor) (at_own f v)

-- at a name that is that of v
cursor_named : (n : List ℕ) (f : Subscription → Subscription) (v : Subscription) → bytes_eq v.name n ≡ true → (at_name n f v).cursor ≡ (f v).cursor
cursor_named n f v is = ap (λ (t : Bool). (if t then f v else v).cursor) is

-- EACH SHAPE

data_quiet : (c : Content) (t : Bool) → is_data c ≡ true → (is_update c && t) ≡ false
data_quiet content.Data t h = refl
data_quiet (content.Marked m) t h = absurd (false≢true h)
data_quiet (content.Unread k) t h = absurd (false≢true h)

served_announcing : (F : CachedSnapshot → Type 0) (h : Site) (b : Broker) (c : ℕ) (p : Packet) (q : Plan) → AllCached F b.subs → Served h b c p q → Announcing F h b q.writes
served_announcing F h b c p q old Served.Ignores = Announcing.Silent _ tt
served_announcing F h b c p q old Served.Disconnects = Announcing.Silent _ tt
served_announcing F h b c p q old (Served.Connects s is new) = Announcing.Silent _ tt
served_announcing F h b c p q old (Served.Answers s f at) = Announcing.Silent _ tt
served_announcing F h b c p q old (Served.ChangesProducers s ps f at) = Announcing.Silent _ tt
served_announcing F h b c p q old (Served.Stores s id seq source e at sound new) =
    Announcing.Silent _ (data_quiet e.content (h.own == h.own) (sound_data h sound.1.0 seq source e sound.1.2), tt)
served_announcing F h b c p q old (Served.Repeats s id seq source e at sound stands) = Announcing.Silent _ tt
served_announcing F h b c p q old (Served.Creates s topic n kind id request consumer earliest replicated at is may absent) = Announcing.Silent _ (tt, tt)
served_announcing F h b c p q old (Served.Joins s topic n kind id request consumer earliest replicated v at is may found free same) = Announcing.Silent _ tt
served_announcing F h b c p q old (Served.Alters s topic n kind id request consumer earliest replicated v at is may found free other) = Announcing.Silent _ (tt, tt)
served_announcing F h b c p q old (Served.Permits s id permits v at is by) = Announcing.Silent _ tt
served_announcing F h b c p q old (Served.Acknowledges s id kind ps v i is ws at sent by of after) =
    let s = (find_stands (has_consumer c id) b.subs v by).0 in
    moved_last F h b v (with_acks (i ∷ is) v) (write.Acks v.name (i ∷ is)) ws s refl tt (cursor_at (with_acks (i ∷ is)) v) (old s.place v s.is) after
served_announcing F h b c p q old (Served.Unsubscribes s id request v at is by last) = Announcing.Silent _ (tt, tt)
served_announcing F h b c p q old (Served.ClosesConsumer s id request v at is by) = Announcing.Silent _ tt

taken_quiet : (h : Site) (c : Broker) (x : ℕ) (p : Packet) (q : Plan) → (x ≡ h.own → ⊥) → Taken h c x p q → Each (Unannounced h.own) q.writes
taken_quiet h c x p q other (Taken.Stores id seq source e is at may new) = (other_silent (is_update e.content) (x == h.own) (differ x h.own other), tt)
taken_quiet h c x p q other (Taken.Unreadable is) = tt
taken_quiet h c x p q other (Taken.Opens topic id request name is opening) = tt
taken_quiet h c x p q other (Taken.Discards not shut) = tt
taken_quiet h c x p q other (Taken.Refuses not at may) = tt
taken_quiet h c x p q other (Taken.Repeats id seq source e is at may stands) = tt

answered_quiet : (own : ℕ) (c : Broker) (y : ℕ) (p : Packet) (q : Plan) → Answered c y p q → Each (Unannounced own) q.writes
answered_quiet own c y p q (Answered.Stale other) = tt
answered_quiet own c y p q (Answered.Other at other) = tt
answered_quiet own c y p q (Answered.Opened request name at is state) = tt
answered_quiet own c y p q (Answered.OpenBefore request name at is state) = tt
answered_quiet own c y p q (Answered.ClosedBefore request name at is state) = tt
answered_quiet own c y p q (Answered.Received id n i position at is pending) = (tt, tt)
answered_quiet own c y p q (Answered.ReceivedBefore id n position at is pending) = tt

fated_quiet : (per own : ℕ) (b : Broker) (Acts : Broker → Plan → Type 0) (lost q : Plan) → ((c : Broker) (r : Plan) → Acts c r → Each (Unannounced own) r.writes)
    → Each (Unannounced own) lost.writes → Fated per b Acts lost q → Each (Unannounced own) q.writes
fated_quiet per own b Acts lost q acts none (Fated.Once r t) = acts b r t
fated_quiet per own b Acts lost q acts none Fated.Lost = none
fated_quiet per own b Acts lost q acts none (Fated.Twice r r' t t') = each_both (Unannounced own) r.writes r'.writes (acts b r t) (acts _ r' t')

reads_announcing : (F : CachedSnapshot → Type 0) (h : Site) (b : Broker) (y : ℕ) (q : Plan) → AllCached F b.subs → Reads h b y q → Announcing F h b q.writes
reads_announcing F h b y q old Reads.NothingToRead = Announcing.Silent _ tt
reads_announcing F h b y q old (Reads.Forwards i e next out) = Announcing.Silent _ tt
reads_announcing F h b y q old (Reads.Skips i e next other) = Announcing.Silent _ (tt, tt)
reads_announcing F h b y q old (Reads.Responds i e id source next of is) = Announcing.Silent _ (refl, (tt, tt))
reads_announcing F h b y q old (Reads.Counts i e id answer u u' next is heard) = Announcing.Silent _ (tt, tt)
reads_announcing F h b y q old (Reads.AsksAgain i e id answer u u' next is heard) = Announcing.Silent _ (refl, (tt, tt))
reads_announcing F h b y q old (Reads.Completes i e id answer u u' next is heard) = Announcing.Silent _ (refl, (tt, tt))
reads_announcing F h b y q old (Reads.CreatesAt i j e n remote next is absent) = Announcing.Silent _ (tt, (tt, (tt, tt)))
reads_announcing F h b y q old (Reads.ActsOnUpdate i j e n remote v ws next is found after) =
    let acks = with_acks (updated_indexes y 0 (j + 1) b.entries) in
    let s = find_stands (λ (u : Subscription). bytes_eq u.name n) b.subs v found in
    moved F h b v (acks v) (write.Acks n (updated_indexes y 0 (j + 1) b.entries)) ws (write.ReplicatorAck y i ∷ []) s.0 refl tt (cursor_named n acks v s.1)
    (old s.0.place v s.0.is) (tt, tt) (tt, tt) after

snaps_announcing : (F : CachedSnapshot → Type 0) (h : Site) (b : Broker) (q : Plan) → Snaps h b q → Announcing F h b q.writes
snaps_announcing F h b q Snaps.NothingToAsk = Announcing.Silent _ tt
snaps_announcing F h b q (Snaps.Asks any none) = Announcing.Silent _ (refl, tt)

offers_announcing : (F : CachedSnapshot → Type 0) (h : Site) (b : Broker) (n : List ℕ) (q : Plan) → AllCached F b.subs → ((c : CachedSnapshot) → IsCached h b c → F c)
    → Offers h b n q → Announcing F h b q.writes
offers_announcing F h b n q old new Offers.NothingToOffer = Announcing.Silent _ tt
offers_announcing F h b n q old new (Offers.Gives v i at e due is picked) = Announcing.Silent _ tt
offers_announcing F h b n q old new (Offers.SkipsMarker v i e ws due is after) =
    let s = (find_stands (λ (u : Subscription). bytes_eq u.name n) b.subs v due.0).0 in
    moved_last F h b v (with_acks (i ∷ []) v) (write.Acks v.name (i ∷ [])) ws s refl tt (cursor_at (with_acks (i ∷ [])) v) (old s.place v s.is) after
offers_announcing F h b n q old new (Offers.Caches v i j e c ws due is after) =
    let s = (find_stands (λ (u : Subscription). bytes_eq u.name n) b.subs v due.0).0 in
    let here = new c (record { sub = v; place = i; local = j; entry = e; stands = due.2; is = is }) in
    moved_last F h b v _ (write.Acks v.name (i ∷ [])) ws s refl tt (cursor_at (with_acks (i ∷ [])) v) (cached_all F v.cache c (old s.place v s.is) here) after

seeks_announcing : (F : CachedSnapshot → Type 0) (h : Site) (b : Broker) (n : List ℕ) (to : Option Position) (q : Plan) → AllCached F b.subs → Seeks h b n to q → Announcing F h b q.writes
seeks_announcing F h b n to q old Seeks.NothingToSeek = Announcing.Silent _ tt
seeks_announcing F h b n to q old (Seeks.SeeksTo v i ws found at after) =
    let s = (find_stands (λ (u : Subscription). bytes_eq u.name n) b.subs v found).0 in
    moved_last F h b v (sought i v) (write.Seek v.name i) ws s refl tt (cursor_at (sought i) v) (old s.place v s.is) after

pub shape_announcing : (s : Setup) (w : World) (p : Planned) (F : CachedSnapshot → Type 0) → Shape s w p → NoSelf s w → AllCached F (topic_at s w p.topic p.cluster).subs
    → ((c : CachedSnapshot) → IsCached (site s p.topic p.cluster) (topic_at s w p.topic p.cluster) c → F c)
    → Announcing F (site s p.topic p.cluster) (topic_at s w p.topic p.cluster) p.plan.writes
unfolding restart
shape_announcing s w p F (Shape.Idle t x within) none old new = Announcing.Silent _ tt
shape_announcing s w p F (Shape.Empty t x k within next) none old new = Announcing.Silent _ tt
shape_announcing s w p F (Shape.Serve x c q plan within next served) none old new = served_announcing F _ _ c q plan old served
shape_announcing s w p F (Shape.Drop x c v within at) none old new = Announcing.Silent _ tt
shape_announcing s w p F (Shape.Reset t x y within remote) none old new = Announcing.Silent _ (tt, tt)
shape_announcing s w p F (Shape.Read t x y plan within reads) none old new = reads_announcing F _ _ y plan old reads
shape_announcing s w p F (Shape.Take t x y q plan within next taken) none old new =
    let other = came_other s w t x y q none (ltb-true _ _ (of_target s t x y within)) next in
    Announcing.Silent _ (fated_quiet s.per_ledger y (topic_at s w t y) _ (closes x) plan (λ c r k. taken_quiet (site s t y) c x q r other k) tt taken)
shape_announcing s w p F (Shape.Receipt t x y q plan within next answered) none old new =
    Announcing.Silent _ (fated_quiet s.per_ledger x (topic_at s w t x) _ (quiet_plan []) plan (λ c r k. answered_quiet x c y q r k) tt answered)
shape_announcing s w p F (Shape.Snap t x plan within snaps) none old new = snaps_announcing F _ _ plan snaps
shape_announcing s w p F (Shape.Offer t x n plan within offers) none old new = offers_announcing F _ _ _ plan old new offers
shape_announcing s w p F (Shape.Seek t x n to plan within seeks) none old new = seeks_announcing F _ _ _ to plan old seeks
shape_announcing s w p F (Shape.Restart t x within) none old new = Announcing.Silent _ (tt, tt)
