-- An accepted line of an update tells what is settled: what it passes over was settled where it began.
use Rattle.std.proofs.Common.{◌≡◌, ℕ, ◌<◌, true, false, List, length, refl, sym, ap, subst, ◌∙◌, ◌==◌, arith}
use Rattle.std.specs.Prelude.{◌&&◌, Option, Some, None, slice_get}
use Rattle.std.specs.List.{list_any}
use Rattle.std.specs.Str.{bytes_eq}
use Rattle.std.proofs.lemmas.Bool.{eqb-true, false≢true, ltb-true}
use Rattle.std.proofs.lemmas.Option.{same_Some}
use Rattle.std.proofs.lemmas.Slice.Eq.{bytes_eq-Decides}
use Rattle.world_laws.proofs.Types.{ClusterPosition, Content, Entry, Ident, Position}
use Rattle.world_laws.proofs.Types.content
use Rattle.world_laws.proofs.Types.marker
use Rattle.geo_base.specs.Cursor.{below, mark}
use Rattle.geo_base.specs.Entry.{is_data, meant_for, same_ident}
use Rattle.geo_base.specs.Settled.{IsSettled, SettledSoFar}
use Rattle.geo_base.specs.Setup.{Setup}
use Rattle.geo_base.specs.Updating.{is_updated}
use Rattle.world_laws.proofs.Telling.Passing.{below_mark}
use Rattle.world_laws.proofs.Walks.Walk.{left, right}
use Rattle.geo_base.specs.TraceItems.{names_same}
use Rattle.geo_base.specs.Mirror.{Mirror, MirrorSub, Mirrors, index_at, mirror_at, mirror_sub, told}
use Rattle.geo_base.specs.Audit.{covers, entry_at, entry_by, is_brought, may_update, passes_local, same_entry, tells_content, tells_entry}
use Rattle.trace_laws.proofs.Kept.{IsCutIn, Kept, TellsSettled, TopicKept}
use Rattle.world_laws.proofs.Telling.Announcing.{find_stands}
use Rattle.trace_laws.proofs.Lists.{any_at}
use Rattle.trace_laws.proofs.Same.{entries_are, names_at}
use Rattle.trace_laws.proofs.Refusals.{not_true}

settled_ident : (settled : SettledSoFar) (t : ℕ) (m n : List ℕ) (e f : Entry) → bytes_eq m n ≡ true → e.ident ≡ f.ident → IsSettled settled t m e → IsSettled settled t n f
settled_ident settled t m n e f name same h =
    let P : List ℕ → Type 0 = λ k. list_any (same_ident e.ident) (settled t k) ≡ true in
    let Q : Ident → Type 0 = λ i. list_any (same_ident i) (settled t n) ≡ true in
    subst Q same (subst P ((bytes_eq-Decides m n).0 name) h)

-- the own update of x tells an own snapshot that stands at index k
update_tells : (s : Setup) (a : Mirrors) (settled : SettledSoFar) (t x : ℕ) (n : List ℕ) (remote : List ClusterPosition) (k : ℕ) (e : Entry) → TopicKept s a settled t x (mirror_at s a t x)
    → slice_get (mirror_at s a t x).entries k ≡ Some e → ((e.ident.origin == x) && tells_content (length s.clusters) (mirror_at s a t x) n remote e.content) ≡ true
    → TellsSettled s a settled t x n remote
update_tells s a settled t x n remote k e kept at h = by e.content refl (right (e.ident.origin == x) _ h)
  where
    m : Mirror
    m = mirror_at s a t x

    own : e.ident.origin ≡ x
    own = eqb-true e.ident.origin x (left (e.ident.origin == x) (tells_content (length s.clusters) m n remote e.content) h)

    passed : (named : List ClusterPosition) (cut : (local : Position) × IsCutIn s a t x local named) → names_same (length s.clusters) named remote ≡ true
        → (o : Option MirrorSub) → mirror_sub m n ≡ o → (l : Option ℕ) → index_at m (cut.0) ≡ l → passes_local m o l ≡ true → TellsSettled s a settled t x n remote
    passed named cut same None sub l local p = absurd (false≢true p)
    passed named cut same (Some v) sub None local p = absurd (false≢true p)
    passed named cut same (Some v) sub (Some l) local p = λ y lt other.
        let to = cut.1.each y lt other in
        let found = find_stands (λ (u : MirrorSub). bytes_eq u.name n) m.subs v sub in
        let at_local : cut.1.local_index ≡ l = same_Some _ _ (sym cut.1.local_stored ∙ local) in
        let less : l < mark v.cursor = ltb-true l (mark v.cursor) p in
        record {
          position = to.position;
          names = sym (names_at (length s.clusters) named remote y same lt) ∙ to.names;
          index = to.index;
          stored = to.stored;
          told = λ j f le stands message meant.
              let b = to.covers j f le stands message meant in
              let le' = b.below in
              let inside = below_mark v.cursor 0 b.index (omega arith) (omega (arith, less, le', at_local)) in
              let told = kept.only found.0.place v found.0.is b.index inside in
              let one : told.0 ≡ b.entry = same_Some _ _ (sym told.1 ∙ b.at) in
              let same_as : told.0.content ≡ f.content = ap (λ (z : Entry). z.content) one ∙ b.content in
              settled_ident settled t v.name n told.0 f found.1 (ap (λ (z : Entry). z.ident) one ∙ b.ident) (told.2 (ap is_data same_as ∙ message));
        }

    by : (c : Content) → e.content ≡ c → tells_content (length s.clusters) m n remote c ≡ true → TellsSettled s a settled t x n remote
    by (content.Marked (marker.Snapshot id local named)) is c =
        passed named (local, kept.snapshots k e id local named at own is) (left (names_same (length s.clusters) named remote) _ c) (mirror_sub m n) refl (index_at m local) refl
        (right (names_same (length s.clusters) named remote) _ c)
    by (content.Marked (marker.Request id source)) is c = absurd (false≢true c)
    by (content.Marked (marker.Response id answer)) is c = absurd (false≢true c)
    by (content.Marked (marker.Update n' remote')) is c = absurd (false≢true c)
    by content.Data is c = absurd (false≢true c)
    by (content.Unread i) is c = absurd (false≢true c)

pub own_update : (s : Setup) (a : Mirrors) (settled : SettledSoFar) (t x : ℕ) (e : Entry) (by_position : Option Position) (n : List ℕ) (remote : List ClusterPosition)
    → TopicKept s a settled t x (mirror_at s a t x) → may_update s (mirror_at s a t x) x e by_position e.content ≡ true → (e.ident.origin == x) ≡ true
    → e.content ≡ content.Marked (marker.Update n remote) → TellsSettled s a settled t x n remote
own_update s a settled t x e by_position n remote kept h own is =
    let C : Content → Type 0 = λ c. may_update s (mirror_at s a t x) x e by_position c ≡ true in
    by_entry by_position (not_true (e.ident.origin == x) _ (subst C is h) own)
  where
    m : Mirror
    m = mirror_at s a t x

    found : (k : ℕ) (o : Option Entry) → slice_get m.entries k ≡ o → tells_entry x (length s.clusters) m n remote o ≡ true → TellsSettled s a settled t x n remote
    found k None at h = absurd (false≢true h)
    found k (Some f) at h = update_tells s a settled t x n remote k f kept at h

    by_index : (o : Option ℕ) → tells_entry x (length s.clusters) m n remote (entry_at m o) ≡ true → TellsSettled s a settled t x n remote
    by_index None h = absurd (false≢true h)
    by_index (Some k) h = found k (slice_get m.entries k) refl h

    by_entry : (o : Option Position) → tells_entry x (length s.clusters) m n remote (entry_by m o) ≡ true → TellsSettled s a settled t x n remote
    by_entry None h = absurd (false≢true h)
    by_entry (Some p) h = by_index (index_at m p) h

-- one that came stands where it came from
pub brought_update : (s : Setup) (a : Mirrors) (settled : SettledSoFar) (t x : ℕ) (e : Entry) (n : List ℕ) (remote : List ClusterPosition) → Kept s a settled → t < length s.topics
    → e.ident.origin < length s.clusters → is_brought s a t x e ≡ true → e.content ≡ content.Marked (marker.Update n remote) → TellsSettled s a settled t e.ident.origin n remote
brought_update s a settled t x e n remote kept lt small h is =
    let o = e.ident.origin in let source = mirror_at s a t o in
    let r = any_at (same_entry e) source.entries (left (list_any (same_entry e) source.entries) (meant_for x e) h) in
    let same = entries_are e r.it r.passes in
    subst (λ (z : ℕ). TellsSettled s a settled t z n remote) (sym (ap (λ (i : Ident). i.origin) same.ident))
    ((kept.topics t o (lt, small)).updates r.place r.it n remote r.at (sym same.content ∙ is))
