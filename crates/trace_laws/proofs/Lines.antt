-- Why the lines of writes are accepted: what each rule asks, from what the machine keeps.
use Rattle.std.proofs.Common.{◌≡◌, ℕ, zero, suc, ◌+◌, ◌<◌, Bool, true, false, List, [], ◌∷◌, length, refl, sym, ap, subst, ◌∙◌, ◌==◌, arith, not}
use Rattle.std.specs.Prelude.{◌&&◌, ◌||◌, Option, Some, None, is_some, nat_le, nat_lt, slice_get}
use Rattle.std.specs.List.{list_any}
use Rattle.std.specs.Str.{bytes_eq}
use Rattle.std.proofs.lemmas.Bool.{eqb-true, false≢true, lt-ltb}
use Rattle.std.proofs.lemmas.Bool.Decides.{nat_tests}
use Rattle.std.proofs.lemmas.Option.{slice_get_within}
use Rattle.std.proofs.lemmas.Slice.Eq.{bytes_eq-Decides}
use Rattle.world_laws.proofs.Types.{ClusterPosition, Content, Entry, Position}
use Rattle.world_laws.proofs.Types.content
use Rattle.world_laws.proofs.Types.marker
use Rattle.geo_base.specs.Broker.{Broker, sub_named}
use Rattle.geo_base.specs.Cursor.{has}
use Rattle.geo_base.specs.Entry.{is_data, meant_for}
use Rattle.geo_base.specs.Position.{position_le, position_lt}
use Rattle.geo_base.specs.Setup.{Setup}
use Rattle.geo_base.specs.Subscription.{Subscription}
use Rattle.geo_base.specs.Topic.{accepts, grown, index_of, next_position, position_at}
use Rattle.geo_base.specs.Updating.{only_index, updated_indexes, positions_for}
use Rattle.world_laws.proofs.Snapshotting.Answering.{Numbered}
use Rattle.world_laws.proofs.Replicating.Cursors.{or_left, or_right}
use Rattle.world_laws.proofs.TopicOrder.Ledgers.{at_index, still_grown, total}
use Rattle.world_laws.proofs.OnceInOrder.Members.{Stands}
use Rattle.world_laws.proofs.TopicOrder.NextPosition.{le_index, next_stands}
use Rattle.world_laws.proofs.Telling.Passing.{passed_over_is}
use Rattle.world_laws.proofs.Walks.Walk.{both, by_test}
use Rattle.geo_base.specs.declared.planned.Cause.{Cause}
use Rattle.geo_base.specs.declared.planned.Cause.TheVariants as cause
use Rattle.geo_base.specs.TraceItems.{Acks, Appends}
use Rattle.geo_base.specs.Traced.{cursor_of, gained}
use Rattle.geo_base.specs.Mirror.{Mirror, MirrorSub, Mirrors, mirror_at, mirror_sub}
use Rattle.geo_base.specs.Audit.{act_refused, are_markers, are_new, cause_refused, entry_at, entry_by, is_above, is_brought, is_marker, is_passed, may_snapshot, may_stand, may_update, only_named, are_all_updated, is_updated_at, content_updates, entry_updates, same_entry, unless_broken}
use Rattle.geo_base.specs.Laws.{of_origin, outbound}
use Rattle.audit.specs.Stored.{is_same_at}
use Rattle.audit.specs.Strict.{is_next, may_follow}
use Rattle.trace_laws.specs.Seen.{positions_in, seen, sub_seen}
use Rattle.trace_laws.proofs.Gained.{all_from_has, gained_is}
use Rattle.trace_laws.proofs.Places.{index_seen}
use Rattle.trace_laws.proofs.Snapshots.{any_of, entry_itself}
use Rattle.trace_laws.proofs.Writes.{IsAccepted, option_seen, seen_with, sub_found}

pub goes_by : (rule : ℕ) (b : Bool) (rest : Option ℕ) → b ≡ true → unless_broken rule b rest ≡ rest
goes_by rule true rest h = refl
goes_by rule false rest h = absurd (false≢true h)

-- ---- rule 2

above_from : (ls : List ℕ) (k n : ℕ) (p : Position) → ((i : ℕ) → i + 1 ≡ k + n → position_lt (position_at ls i) p ≡ true) → is_above (positions_in ls k n) p ≡ true
above_from ls k zero p h = refl
above_from ls k (suc zero) p h = h k (omega arith)
above_from ls k (suc (suc n)) p h = above_from ls (k + 1) (suc n) p (λ i e. h i (omega (arith, e)))

last_below : (per : ℕ) (ls : List ℕ) (i : ℕ) → 0 < length ls → i + 1 ≡ total ls → position_lt (position_at ls i) (next_position per ls) ≡ true
last_below per ls i some last =
    by_test (position_lt (position_at ls i) (next_position per ls)) (λ h. h)
    (λ no.
    let le : position_le (next_position per ls) (position_at ls i) ≡ true = ap not no in
    let at : index_of (grown per ls) (position_at ls i) ≡ Some i = still_grown per ls (position_at ls i) i some (at_index ls i (omega (arith, last))) in
    let low = le_index (grown per ls) (next_position per ls) (position_at ls i) (total ls) i (next_stands per ls some) at le in
    absurd (omega (arith, low, last)))

pub next_above : (per : ℕ) (b : Broker) → Numbered b.entries b.ledgers → is_above (seen b).positions (next_position per b.ledgers) ≡ true
next_above per b numbered =
    above_from b.ledgers 0 (length b.entries) (next_position per b.ledgers)
    (λ i e. let whole = numbered.whole in last_below per b.ledgers i numbered.some (omega (arith, e, whole)))

-- ---- appends

pub append_accepted : (s : Setup) (bs : List Broker) (n t x : ℕ) (b : Broker) (e : Entry) (told : Option Position) → Numbered b.entries b.ledgers → accepts b.entries e.ident ≡ true
    → may_stand s (seen_with s bs n t x b) t x e ≡ true → may_snapshot s (seen_with s bs n t x b) t x e e.content ≡ true → may_update s (seen b) x e told e.content ≡ true
    → may_follow s (seen_with s bs n t x b) t x e ≡ true
    → IsAccepted s bs n t x b (Appends (next_position s.per_ledger b.ledgers) e told) × (may_follow s (seen_with s bs n t x b) t x e ≡ true)
append_accepted s bs n t x b e told numbered new stands snapshot update follows =
    let A = seen_with s bs n t x b in (
      goes_by 2 (is_above (seen b).positions (next_position s.per_ledger b.ledgers)) _ (next_above s.per_ledger b numbered)
          ∙ (goes_by 3 (accepts b.entries e.ident) _ new
          ∙ (goes_by 4 (may_stand s A t x e) _ stands
          ∙ (goes_by 5 (may_snapshot s A t x e e.content) _ snapshot ∙ goes_by 6 (may_update s (seen b) x e told e.content) None update))),
      follows,
    )

-- ---- rule 4

pub own_stands : (s : Setup) (a : Mirrors) (t x : ℕ) (e : Entry) → (e.ident.origin == x) ≡ true → may_stand s a t x e ≡ true
own_stands s a t x e own = or_left (e.ident.origin == x) (is_brought s a t x e) own

pub came_stands : (s : Setup) (a : Mirrors) (t x : ℕ) (e : Entry) → Stands (mirror_at s a t e.ident.origin).entries e → meant_for x e ≡ true → may_stand s a t x e ≡ true
came_stands s a t x e there meant =
    or_right (e.ident.origin == x) (is_brought s a t x e)
    (both (list_any (same_entry e) (mirror_at s a t e.ident.origin).entries) (meant_for x e)
    (any_of (same_entry e) (mirror_at s a t e.ident.origin).entries there.place e there.is (entry_itself e)) meant)

-- ---- rule 12

pub own_follows : (s : Setup) (a : Mirrors) (t x : ℕ) (e : Entry) → (e.ident.origin == x) ≡ true → may_follow s a t x e ≡ true
own_follows s a t x e own = or_left (e.ident.origin == x) (is_next s a t x e) own

pub came_follows : (s : Setup) (a : Mirrors) (t x : ℕ) (e : Entry)
    → slice_get (outbound e.ident.origin x (mirror_at s a t e.ident.origin).entries) (length (of_origin e.ident.origin (mirror_at s a t x).entries)) ≡ Some e → may_follow s a t x e ≡ true
came_follows s a t x e next = or_right (e.ident.origin == x) (is_next s a t x e) (ap (is_same_at e) next ∙ entry_itself e)

-- ---- rules 5 and 6 of what is not asked

pub other_snapshot : (s : Setup) (a : Mirrors) (t x : ℕ) (e : Entry) (c : Content) → (e.ident.origin == x) ≡ false → may_snapshot s a t x e c ≡ true
other_snapshot s a t x e (content.Marked (marker.Snapshot id local remote)) other = or_left (not (e.ident.origin == x)) _ (ap not other)
other_snapshot s a t x e (content.Marked (marker.Request id source)) other = refl
other_snapshot s a t x e (content.Marked (marker.Response id answer)) other = refl
other_snapshot s a t x e (content.Marked (marker.Update n remote)) other = refl
other_snapshot s a t x e content.Data other = refl
other_snapshot s a t x e (content.Unread k) other = refl

pub other_update : (s : Setup) (m : Mirror) (x : ℕ) (e : Entry) (told : Option Position) (c : Content) → (e.ident.origin == x) ≡ false → may_update s m x e told c ≡ true
other_update s m x e told (content.Marked (marker.Update n remote)) other = or_left (not (e.ident.origin == x)) _ (ap not other)
other_update s m x e told (content.Marked (marker.Request id source)) other = refl
other_update s m x e told (content.Marked (marker.Response id answer)) other = refl
other_update s m x e told (content.Marked (marker.Snapshot id local remote)) other = refl
other_update s m x e told content.Data other = refl
other_update s m x e told (content.Unread k) other = refl

-- ---- rules 7 and 8

pub acks_accepted : (s : Setup) (bs : List Broker) (n t x : ℕ) (b : Broker) (m is : List ℕ) (c : Cause) (v : Subscription) → sub_named b.subs m ≡ Some v
    → ((i : ℕ) → has is i ≡ true → i < length b.entries) → cause_refused x (seen b) m (gained v.cursor is) c ≡ None
    → IsAccepted s bs n t x b (Acks m (gained (cursor_of (sub_named b.subs m)) is) c)
acks_accepted s bs n t x b m is c v found within why =
    let here : mirror_sub (seen b) m ≡ Some (sub_seen v) = sub_found m b.subs ∙ ap option_seen found in
    let g = gained v.cursor is in
    let new : are_new (seen b) (Some (sub_seen v)) g ≡ true =
    all_from_has (λ i. nat_lt i (length b.entries) && not (has v.cursor i)) g
    (λ i inside.
    let r = gained_is v.cursor is i inside in
    both (nat_lt i (length b.entries)) (not (has v.cursor i)) (lt-ltb i (length b.entries) (within i r.0)) r.1) in
    ap (λ (o : Option Subscription). act_refused s (seen_with s bs n t x b) t x (seen b) (Acks m (gained (cursor_of o) is) c)) found
    ∙ (ap (λ (o : Option MirrorSub). unless_broken 7 (is_some o) (unless_broken 8 (are_new (seen b) o g) (cause_refused x (seen b) m g c))) here
    ∙ (goes_by 8 (are_new (seen b) (Some (sub_seen v)) g) _ new ∙ why))

-- ---- rule 9

pub marker_accepted : (x : ℕ) (b : Broker) (m set : List ℕ) (i : ℕ) (e : Entry) → slice_get b.entries i ≡ Some e → is_data e.content ≡ false
    → cause_refused x (seen b) m (gained set (i ∷ [])) cause.Marker ≡ None
marker_accepted x b m set i e at silent =
    goes_by 9 (are_markers (seen b) (gained set (i ∷ []))) None
    (all_from_has (λ j. is_marker (slice_get b.entries j)) (gained set (i ∷ []))
    (λ j inside. ap is_marker (subst (λ (k : ℕ). slice_get b.entries k ≡ Some e) (one j (gained_is set (i ∷ []) j inside).0) at) ∙ ap not silent))
  where
    one : (j : ℕ) → has (i ∷ []) j ≡ true → i ≡ j
    one j h = eqb-true i j (test (i == j) h)
      where
        test : (t : Bool) → (t || false) ≡ true → t ≡ true
        test true k = refl
        test false k = absurd (false≢true k)

-- ---- rule 10: the update u of y stands at index k, and names index j here

pub passes_accepted : (x y : ℕ) (b : Broker) (m set : List ℕ) (remote : List ClusterPosition) (k j : ℕ) (u : Entry) (p : Position) → Numbered b.entries b.ledgers
    → slice_get b.entries k ≡ Some u → u.ident.origin ≡ y → (y == x) ≡ false → u.content ≡ content.Marked (marker.Update m remote)
    → only_index b.ledgers (positions_for x remote) ≡ Some j → p ≡ position_at b.ledgers k
    → cause_refused x (seen b) m (gained set (updated_indexes y 0 (j + 1) b.entries)) (cause.Update p) ≡ None
passes_accepted x y b m set remote k j u p numbered at of other is only at_p =
    goes_by 10 (entry_updates x (seen b) m g (entry_by (seen b) (Some p))) None
    (ap (λ (o : Option Entry). entry_updates x (seen b) m g o) found ∙ content_passes)
  where
    g : List ℕ
    g = gained set (updated_indexes y 0 (j + 1) b.entries)

    whole : total b.ledgers ≡ length b.entries
    whole = numbered.whole

    found : entry_by (seen b) (Some p) ≡ Some u
    found =
        let lt = slice_get_within b.entries k u at in
        ap (λ (q : Position). entry_by (seen b) (Some q)) at_p
        ∙ (ap (entry_at (seen b)) (index_seen b (position_at b.ledgers k) numbered ∙ at_index b.ledgers k (omega (arith, lt, whole))) ∙ at)

    named : (ps : List Position) → only_named (seen b) ps ≡ only_index b.ledgers ps
    named [] = refl
    named (q ∷ []) = index_seen b q numbered
    named (q ∷ r ∷ ps) = refl

    all : are_all_updated y (seen b) g (Some j) ≡ true
    all =
        all_from_has (is_passed y j (seen b)) g
        (λ i inside.
        let o = passed_over_is y 0 (j + 1) b.entries i (gained_is set (updated_indexes y 0 (j + 1) b.entries) i inside).0 in
        let small = o.small in let same = o.is in
        let here : o.place ≡ i = omega (arith, same) in
        let le : nat_le i j ≡ true = grind (arith, nat_tests, small, same) in
        both (nat_le i j) (is_updated_at y (slice_get b.entries i)) le
        (ap (is_updated_at y) (subst (λ (z : ℕ). slice_get b.entries z ≡ Some o.entry) here o.at) ∙ o.passed))

    content_passes : entry_updates x (seen b) m g (Some u) ≡ true
    content_passes =
        let C : Content → Type 0 = λ c. content_updates x u.ident.origin (seen b) m g c ≡ true in
        let Y : ℕ → Type 0 = λ z. content_updates x z (seen b) m g (content.Marked (marker.Update m remote)) ≡ true in
        subst C (sym is)
        (subst Y (sym of)
        (both (bytes_eq m m && not (y == x)) (are_all_updated y (seen b) g (only_named (seen b) (positions_for x remote)))
        (both (bytes_eq m m) (not (y == x)) ((bytes_eq-Decides m m).1 refl) (ap not other))
        (ap (are_all_updated y (seen b) g) (named (positions_for x remote) ∙ only) ∙ all)))
