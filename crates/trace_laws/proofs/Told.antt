-- Each shape of a plan: the lines of its writes are accepted, one after another.
use Rattle.std.proofs.Common.{◌≡◌, ℕ, zero, suc, ◌^◌, ◌<◌, Bool, true, false, List, [], ◌∷◌, length, map, refl, sym, ap, subst, ◌∙◌, ◌==◌, not}
use Rattle.std.specs.Prelude.{Option, Some, None, if◌then◌else◌, slice_get, slice_index_or, slice_set}
use Rattle.std.specs.Str.{bytes_eq}
use Rattle.std.proofs.lemmas.Bool.{eq-eqb, false≢true}
use Rattle.std.proofs.lemmas.Option.{none-some, same_Some}
use Rattle.std.proofs.lemmas.Slice.Eq.{bytes_eq-Decides}
use Rattle.world_laws.proofs.Types.{SnapshotBuilder, CachedSnapshot, ClusterPosition, Content, Cut, Entry, Marker, Position, Targets}
use Rattle.world_laws.proofs.Types.content
use Rattle.world_laws.proofs.Types.marker
use Rattle.world_laws.proofs.Types.progress
use Rattle.world_laws.proofs.Types.targets
use Rattle.world_laws.proofs.Types.write
use Rattle.geo_base.specs.Broker.{Broker, cluster_name, no_broker, sub_named}
use Rattle.geo_base.specs.SnapshotBuilder.{named}
use Rattle.geo_base.specs.Cache.{last_passed}
use Rattle.geo_base.specs.Cursor.{has, mark}
use Rattle.geo_base.specs.Entry.{is_data}
use Rattle.geo_base.specs.Markers.{snapshot_marker}
use Rattle.geo_base.specs.Setup.{Setup}
use Rattle.geo_base.specs.Storing.{own_marker, update_marker}
use Rattle.geo_base.specs.Subscription.{Subscription}
use Rattle.geo_base.specs.Topic.{accepts, index_of}
use Rattle.geo_base.specs.World.{World, site, topic_at}
use Rattle.world_laws.proofs.Snapshotting.Answering.{Numbered}
use Rattle.world_laws.proofs.Snapshotting.Asked.{Asked}
use Rattle.world_laws.proofs.Snapshotting.Caches.{AllIn}
use Rattle.world_laws.proofs.Snapshotting.Completing.{cut_made, heard_over}
use Rattle.world_laws.proofs.Replicating.Cursors.{or_right}
use Rattle.world_laws.proofs.Snapshotting.Cuts.{HasCuts}
use Rattle.world_laws.proofs.Replicating.Effects.{Each, each_map}
use Rattle.world_laws.proofs.Snapshotting.MakingEvents.{heard_made}
use Rattle.world_laws.proofs.OnceInOrder.Members.{Stands}
use Rattle.world_laws.proofs.Telling.Passing.{last_passed_is}
use Rattle.world_laws.proofs.Snapshotting.SecondRound.{Knows}
use Rattle.world_laws.proofs.Walks.Shapes.{Hears, IsResponse, ReadsNext}
use Rattle.world_laws.proofs.Replicating.Sizes.{IsThere}
use Rattle.world_laws.proofs.Dispatching.SubFrames.{NamesApart, Only, at_name, only_named}
use Rattle.world_laws.proofs.Walks.Walk.{on_true}
use Rattle.geo_base.specs.declared.planned.Cause.{Cause}
use Rattle.geo_base.specs.Traced.{cursor_of, gained, least_snapshot, snapshot_position, snapshot_told, snapshots_from}
use Rattle.geo_base.specs.Mirror.{Mirror, Mirrors, mirror_number}
use Rattle.geo_base.specs.Audit.{cause_refused, may_snapshot, may_update}
use Rattle.trace_laws.specs.Seen.{seen}
use Rattle.trace_laws.proofs.Lines.{acks_accepted, append_accepted, own_follows, own_stands}
use Rattle.world_laws.proofs.Telling.Announcing.{find_stands}
use Rattle.trace_laws.proofs.Marks.{LocalStored, NamesItsCut, update_accepted}
use Rattle.cursor_acks.proofs.Sets.{Rising}
use Rattle.trace_laws.proofs.Snapshots.{snapshot_accepted}
use Rattle.trace_laws.proofs.Stems.{HasStems, StemsFrom}
use Rattle.trace_laws.proofs.Writes.{OneCursor, WriteHolds, option_seen, seen_with, sub_found}

-- what is known where an event happens, at topic t and cluster x of a world of a short run. That names are apart and cursors ascend every
-- write and every change keeps
pub record Here (s : Setup) (w : World) (t x : ℕ) : Type 0 where
  pub there : IsThere s t x
  pub knows : Knows s w
  pub asked : Asked s w
  pub stems : HasStems s w
  pub cuts : HasCuts s w
  pub apart : NamesApart (topic_at s w t x).subs
  pub ascends : Each (λ (v : Subscription). Rising 0 v.cursor) (topic_at s w t x).subs

pub numbered_here : (s : Setup) (w : World) (t x : ℕ) → Here s w t x → Numbered (topic_at s w t x).entries (topic_at s w t x).ledgers
numbered_here s w t x h = (h.knows.answers t x h.there).numbered

names_here : (s : Setup) (w : World) (t x : ℕ) → Here s w t x → NamesItsCut (length s.clusters) x (topic_at s w t x).entries
names_here s w t x h = (h.stems t x h.there).written

locals_here : (s : Setup) (w : World) (t x : ℕ) → Here s w t x → LocalStored x (topic_at s w t x)
locals_here s w t x h i e id local remote at of is = let c = ((h.cuts t x h.there).snapshots i e id local remote at of is).1 in (c.0, c.1)

-- ---- names

-- a subscription that stands is found by its name
apart_none : (v : Subscription) (vs : List Subscription) (u : Subscription) → Each (λ (a : Subscription). bytes_eq v.name a.name ≡ false) vs → Stands vs u → bytes_eq v.name u.name ≡ false
apart_none v vs u each s = by vs each s.place s.is
  where
    by : (us : List Subscription) → Each (λ (a : Subscription). bytes_eq v.name a.name ≡ false) us → (k : ℕ) → slice_get us k ≡ Some u → bytes_eq v.name u.name ≡ false
    by [] e k at = absurd (none-some u at)
    by (a ∷ us) e zero at = subst (λ (z : Subscription). bytes_eq v.name z.name ≡ false) (same_Some a u at) e.0
    by (a ∷ us) e (suc k) at = by us e.1 k at

pub found_self : (vs : List Subscription) (u : Subscription) → NamesApart vs → Stands vs u → sub_named vs u.name ≡ Some u
found_self vs u apart s = by vs apart s.place s.is
  where
    by : (us : List Subscription) → NamesApart us → (k : ℕ) → slice_get us k ≡ Some u → sub_named us u.name ≡ Some u
    by [] a k at = absurd (none-some u at)
    by (v ∷ us) a zero at =
        let one : v ≡ u = same_Some v u at in
        on_true (bytes_eq v.name u.name) (Some v) (sub_named us u.name) ((bytes_eq-Decides v.name u.name).1 (ap (λ (z : Subscription). z.name) one)) ∙ ap (λ (z : Subscription). Some z) one
    by (v ∷ us) a (suc k) at =
        let none = apart_none v us u a.0 (record { place = k; is = at }) in
        ap (λ (b : Bool). if b then Some v else sub_named us u.name) none ∙ by us a.1 k at

-- after what is done to the subscriptions of a name, which keeps names, it finds what was done to the one that it found
pub found_after : (n : List ℕ) (f : Subscription → Subscription) → ((v : Subscription) → (f v).name ≡ v.name) → (vs : List Subscription) (v : Subscription) → sub_named vs n ≡ Some v
    → sub_named (map (at_name n f) vs) n ≡ Some (f v)
found_after n f keeps [] v h = absurd (none-some v h)
found_after n f keeps (u ∷ vs) v h = by (bytes_eq u.name n) refl h (found_after n f keeps vs v)
  where
    by : (b : Bool) → bytes_eq u.name n ≡ b → (if b then Some u else sub_named vs n) ≡ Some v → (sub_named vs n ≡ Some v → sub_named (map (at_name n f) vs) n ≡ Some (f v))
        → (if bytes_eq (if b then f u else u).name n then Some (if b then f u else u) else sub_named (map (at_name n f) vs) n) ≡ Some (f v)
    by true is e ih =
        on_true (bytes_eq (f u).name n) (Some (f u)) (sub_named (map (at_name n f) vs) n) (ap (λ (m : List ℕ). bytes_eq m n) (keeps u) ∙ is) ∙ ap (λ (z : Subscription). Some (f z)) (same_Some u v e)
    by false is e ih = ap (λ (b : Bool). if b then Some u else sub_named (map (at_name n f) vs) n) is ∙ ih e

-- ---- a write of a cursor

one_cursor : (vs : List Subscription) (n : List ℕ) (v : Subscription) → NamesApart vs → sub_named vs n ≡ Some v → OneCursor n v.cursor vs
one_cursor vs n v apart found =
    let name : v.name ≡ n = (bytes_eq-Decides v.name n).0 (find_stands (λ (u : Subscription). bytes_eq u.name n) vs v found).1 in
    each_map (Only v) (λ (u : Subscription). bytes_eq u.name n ≡ true → u.cursor ≡ v.cursor)
    (λ u only same. ap (λ (z : Subscription). z.cursor) (only (subst (λ (m : List ℕ). bytes_eq u.name m ≡ true) (sym name) same))) vs (only_named vs n v apart found)

ascends_at : (vs : List Subscription) (v : Subscription) → Each (λ (u : Subscription). Rising 0 u.cursor) vs → Stands vs v → Rising 0 v.cursor
ascends_at vs v each s = by vs each s.place s.is
  where
    by : (us : List Subscription) → Each (λ (u : Subscription). Rising 0 u.cursor) us → (k : ℕ) → slice_get us k ≡ Some v → Rising 0 v.cursor
    by [] e k at = absurd (none-some v at)
    by (u ∷ us) e zero at = subst (λ (z : Subscription). Rising 0 z.cursor) (same_Some u v at) e.0
    by (u ∷ us) e (suc k) at = by us e.1 k at

-- of a subscription that is here: all that it names is stored, and its cause holds
pub acks_hold : (s : Setup) (w : World) (n t x : ℕ) (c : Cause) (m is : List ℕ) (v : Subscription) → Here s w t x → sub_named (topic_at s w t x).subs m ≡ Some v
    → ((i : ℕ) → has is i ≡ true → i < length (topic_at s w t x).entries) → cause_refused x (seen (topic_at s w t x)) m (gained v.cursor is) c ≡ None
    → WriteHolds s w.brokers n t x c (topic_at s w t x) (write.Acks m is)
acks_hold s w n t x c m is v h found within cause =
    let b = topic_at s w t x in
    let R : Option Subscription → Type 0 = λ o. Rising 0 (cursor_of o) in
    let O : Option Subscription → Type 0 = λ o. OneCursor m (cursor_of o) b.subs in
    let stands = (find_stands (λ (u : Subscription). bytes_eq u.name m) b.subs v found).0 in (
      subst R (sym found) (ascends_at b.subs v h.ascends stands),
      subst O (sym found) (one_cursor b.subs m v h.apart found),
      acks_accepted s w.brokers n t x b m is c v found within cause,
    )

-- ---- appends of own entries

plain_snapshot : (s : Setup) (a : Mirrors) (t x : ℕ) (e : Entry) (c : Content) → is_data c ≡ true → may_snapshot s a t x e c ≡ true
plain_snapshot s a t x e content.Data h = refl
plain_snapshot s a t x e (content.Marked m) h = absurd (false≢true h)
plain_snapshot s a t x e (content.Unread k) h = absurd (false≢true h)

plain_update : (s : Setup) (m : Mirror) (x : ℕ) (e : Entry) (told : Option Position) (c : Content) → is_data c ≡ true → may_update s m x e told c ≡ true
plain_update s m x e told content.Data h = refl
plain_update s m x e told (content.Marked k) h = absurd (false≢true h)
plain_update s m x e told (content.Unread k) h = absurd (false≢true h)

pub publishes_hold : (s : Setup) (w : World) (n t x : ℕ) (c : Cause) (e : Entry) → Here s w t x → is_data e.content ≡ true → (e.ident.origin == x) ≡ true
    → accepts (topic_at s w t x).entries e.ident ≡ true → WriteHolds s w.brokers n t x c (topic_at s w t x) (write.Append e)
publishes_hold s w n t x c e h message own new =
    let b = topic_at s w t x in let A = seen_with s w.brokers n t x b in (
      numbered_here s w t x h,
      append_accepted s w.brokers n t x b e _ (numbered_here s w t x h) new (own_stands s A t x e own) (plain_snapshot s A t x e e.content message)
          (plain_update s (seen b) x e (snapshot_told (site s t x) b e e.content) e.content message) (own_follows s A t x e own),
    )

-- a request or a response
pub marker_holds : (s : Setup) (w : World) (n t x : ℕ) (c : Cause) (m : Marker) (to : Targets) (names : List (List ℕ)) → Here s w t x
    → may_snapshot s (seen_with s w.brokers n t x (topic_at s w t x)) t x (own_marker (site s t x) (topic_at s w t x) m to names) (content.Marked m) ≡ true
    → may_update s (seen (topic_at s w t x)) x (own_marker (site s t x) (topic_at s w t x) m to names)
    (snapshot_told (site s t x) (topic_at s w t x) (own_marker (site s t x) (topic_at s w t x) m to names) (content.Marked m)) (content.Marked m) ≡ true
    → accepts (topic_at s w t x).entries (own_marker (site s t x) (topic_at s w t x) m to names).ident ≡ true
    → WriteHolds s w.brokers n t x c (topic_at s w t x) (write.Append (own_marker (site s t x) (topic_at s w t x) m to names))
marker_holds s w n t x c m to names h snapshot update new =
    let b = topic_at s w t x in let e = own_marker (site s t x) b m to names in (
      numbered_here s w t x h,
      append_accepted s w.brokers n t x b e _ (numbered_here s w t x h) new (own_stands s (seen_with s w.brokers n t x b) t x e (eq-eqb x x refl)) snapshot update
          (own_follows s (seen_with s w.brokers n t x b) t x e (eq-eqb x x refl)),
    )

-- ---- the snapshot

pub same_set : (bs : List Broker) (k : ℕ) → slice_set bs k (slice_index_or bs k no_broker) ≡ bs
same_set [] k = refl
same_set (b ∷ bs) zero = refl
same_set (b ∷ bs) (suc k) = ap (λ (cs : List Broker). b ∷ cs) (same_set bs k)

pub completes_holds : (s : Setup) (w : World) (n t x : ℕ) (c : Cause) (y i : ℕ) (e : Entry) (id : List ℕ) (answer : ClusterPosition) (u u' : SnapshotBuilder) → Here s w t x
    → ReadsNext (site s t x) (topic_at s w t x) y i e → IsResponse (site s t x) (topic_at s w t x) y e id answer u → Hears (topic_at s w t x) y i id answer u progress.Done u'
    → accepts (topic_at s w t x).entries (snapshot_marker (site s t x) (topic_at s w t x) u').ident ≡ true
    → WriteHolds s w.brokers n t x c (topic_at s w t x) (write.Append (snapshot_marker (site s t x) (topic_at s w t x) u'))
completes_holds s w n t x c y i e id answer u u' h next response heard new =
    let b = topic_at s w t x in
    let made = heard_made (site s t x) b y i e id answer u u' progress.Done h.there.1 (numbered_here s w t x h) next response heard (h.asked t x h.there) in
    let cut = cut_made s w t x u' h.knows h.there made (heard_over b y i id answer u u' heard) in
    let m = snapshot_marker (site s t x) b u' in
    let w' : World = record w { events = n } in
    let M : List Broker → Type 0 = λ bs. may_snapshot s (record { topics = map seen bs; events = n }) t x m (content.Marked (marker.Snapshot u'.id u'.cut.local (named u'.cut))) ≡ true in
    let fine = snapshot_accepted s w' t x m u'.id u'.cut h.there (λ a v here. (h.knows.answers a v here).numbered) (record { places = made.places; empty = made.empty }) cut in
    marker_holds s w n t x c (marker.Snapshot u'.id u'.cut.local (named u'.cut)) (targets.Only (2 ^ x)) (cluster_name (site s t x) x ∷ []) h (subst M (sym (same_set w.brokers (mirror_number s t x))) fine) refl new

-- ---- the update after a cursor's write: b is the broker after it, whose entries and ledgers are those before it
pub update_holds : (s : Setup) (w : World) (n t x : ℕ) (c : Cause) (b : Broker) (v : Subscription) (cs : List CachedSnapshot) (cut : Cut) → Here s w t x
    → b.entries ≡ (topic_at s w t x).entries → b.ledgers ≡ (topic_at s w t x).ledgers → sub_named b.subs v.name ≡ Some v
    → AllIn (StemsFrom (length s.clusters) x (topic_at s w t x).entries (topic_at s w t x).ledgers) cs → last_passed (mark v.cursor) cs ≡ Some cut
    → accepts b.entries (update_marker (site s t x) b v.name cut).ident ≡ true
    → WriteHolds s w.brokers n t x c b (write.Append (update_marker (site s t x) b v.name cut))
update_holds s w n t x c b v cs cut h entries ledgers found all passed new =
    let a = topic_at s w t x in let e = update_marker (site s t x) b v.name cut in let k = length s.clusters in
    let numbered : Numbered b.entries b.ledgers = subst (λ (es : List Entry). Numbered es b.ledgers) (sym entries) (subst (λ (ls : List ℕ). Numbered a.entries ls) (sym ledgers) (numbered_here s w t x h)) in
    let names : NamesItsCut k x b.entries = subst (NamesItsCut k x) (sym entries) (names_here s w t x h) in
    let locals : LocalStored x b =
    λ i f id local remote at of is.
    let l = locals_here s w t x h i f id local remote (ap (λ (es : List Entry). slice_get es i) (sym entries) ∙ at) of is in
    (l.0, ap (λ (ls : List ℕ). index_of ls local) ledgers ∙ l.1) in
    let p = last_passed_is (mark v.cursor) cs cut passed in
    let stems : StemsFrom k x b.entries b.ledgers p.snapshot =
    subst (λ (es : List Entry). StemsFrom k x es b.ledgers p.snapshot) (sym entries)
    (subst (λ (ls : List ℕ). StemsFrom k x a.entries ls p.snapshot) (sym ledgers) (all p.stands.place p.snapshot p.stands.is)) in
    let tells = update_accepted (site s t x) b v.name cut p.snapshot v numbered names locals stems p.is p.below (sub_found v.name b.subs ∙ ap option_seen found) in
    let told : snapshot_told (site s t x) b e e.content ≡ snapshot_position b.ledgers (least_snapshot (snapshots_from x k (named cut) 0 b.entries)) =
    on_true (x == x) _ None (eq-eqb x x refl) in
    let U : Option Position → Type 0 = λ o. may_update s (seen b) x e o e.content ≡ true in (
      numbered,
      append_accepted s w.brokers n t x b e (snapshot_told (site s t x) b e e.content) numbered new (own_stands s (seen_with s w.brokers n t x b) t x e (eq-eqb x x refl)) refl
          (subst U (sym told) (or_right (not (x == x)) _ tells)) (own_follows s (seen_with s w.brokers n t x b) t x e (eq-eqb x x refl)),
    )
