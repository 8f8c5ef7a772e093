-- An accepted line of a subscription keeps all that is kept.
use Rattle.std.proofs.Common.{◌≡◌, ℕ, zero, suc, ◌<◌, ◌≤◌, Bool, true, false, List, [], ◌∷◌, ◌++◌, length, filter, refl, sym, ap, subst, ◌∙◌, ◌==◌, arith, inl, inr, not}
use Rattle.std.specs.Prelude.{◌≢◌, ◌&&◌, ◌||◌, Option, Some, None, if◌then◌else◌, is_some, nat_le, nat_lt, slice_get, slice_set}
use Rattle.std.specs.List.{list_any}
use Rattle.std.specs.Str.{bytes_eq}
use Rattle.std.proofs.lemmas.Bool.{eq-eqb, false≢true, ltb-true}
use Rattle.std.proofs.lemmas.Bool.Decides.{nat_tests}
use Rattle.std.proofs.lemmas.Option.{none-some, same_Some}
use Rattle.std.proofs.lemmas.Slice.Eq.{bytes_eq-Decides}
use Rattle.world_laws.proofs.Types.{ClusterPosition, Content, Entry, Ident, Position}
use Rattle.world_laws.proofs.Types.content
use Rattle.world_laws.proofs.Types.marker
use Rattle.geo_base.specs.Cursor.{below, has, with_indexes}
use Rattle.geo_base.specs.Entry.{is_data, meant_for, same_ident}
use Rattle.geo_base.specs.Settled.{SettledSoFar, first_indexes, messages_at}
use Rattle.geo_base.specs.Setup.{Setup}
use Rattle.geo_base.specs.Updating.{is_updated, positions_for}
use Rattle.world_laws.proofs.OnceInOrder.Members.{from_filter, get_push}
use Rattle.world_laws.proofs.Telling.OnlyTold.{first_included, has_below, same_name}
use Rattle.world_laws.proofs.Dispatching.Remembers.{any_right, has_either}
use Rattle.world_laws.proofs.Telling.ServeTells.{has_first, indexes_told}
use Rattle.world_laws.proofs.Replicating.Sizes.{IsThere}
use Rattle.world_laws.proofs.Telling.Told.{Includes, IsTold, told_too}
use Rattle.world_laws.proofs.Walks.Walk.{left, on_test, on_true, right}
use Rattle.geo_base.specs.declared.planned.Cause.{Cause}
use Rattle.geo_base.specs.declared.planned.Cause.TheVariants as cause
use Rattle.geo_base.specs.TraceItems.{Acks, Act, Creates, Deletes, Seeks, Writes}
use Rattle.geo_base.specs.Mirror.{Mirror, MirrorSub, Mirrors, index_at, indexes_settled, mirror_at, mirror_sub, mirror_number, settled_by, told, with_cursor}
use Rattle.geo_base.specs.Audit.{act_refused, cause_refused, are_markers, are_new, entry_at, entry_by, is_marker, is_passed, only_named, are_all_updated, is_updated_at, content_updates, entry_updates, unless_broken}
use Rattle.trace_laws.specs.Audited.{OnlySettledIn}
use Rattle.trace_laws.proofs.Kept.{Kept, TellsSettled, TellsTo, TopicKept, all_lengths, as_before, left_alone, with_topic}
use Rattle.trace_laws.proofs.Lists.{all_has}
use Rattle.trace_laws.proofs.Refusals.{not_broken}
use Rattle.geo_base.proofs.Lists.{bytes_eq_itself}

meant : (y : ℕ) (e : Entry) → is_updated y e ≡ true → is_data e.content ≡ true → meant_for y e ≡ true
meant y e h message = subst (λ (t : Bool). (not t || meant_for y e) ≡ true) message h

-- a line that changes the subscriptions of topic t at x alone, to vs
subs_kept : (s : Setup) (a : Mirrors) (settled more : SettledSoFar) (t x : ℕ) (vs : List MirrorSub) → IsThere s t x → Kept s a settled → Includes settled more
    → ((k : ℕ) (v : MirrorSub) → slice_get vs k ≡ Some v → OnlySettledIn more t (mirror_at s a t x) v)
    → Kept s (record a { topics = slice_set a.topics (mirror_number s t x) (record (mirror_at s a t x) { subs = vs }) }) more
subs_kept s a settled more t x vs there kept all only =
    let m = mirror_at s a t x in let m' : Mirror = record m { subs = vs } in
    with_topic s a settled more t x m' there kept (as_before m m' refl refl) all (λ grown.
    let k = left_alone s a _ settled more t x m (all_lengths s a settled kept) grown all there (kept.topics t x there) in
    record { lengths = k.lengths; origins = k.origins; once = k.once; only = only; snapshots = k.snapshots; updates = k.updates })

-- what is settled stays so
only_more : (settled more : SettledSoFar) (t : ℕ) (m : Mirror) (v : MirrorSub) → Includes settled more → OnlySettledIn settled t m v → OnlySettledIn more t m v
only_more settled more t m v all h i inside = let o = h i inside in (o.0, o.1, λ message. all t v.name o.0 (o.2 message))

-- at the subscriptions of a name
cursors_kept : (s : Setup) (a : Mirrors) (settled more : SettledSoFar) (t x : ℕ) (n : List ℕ) (f : List ℕ → List ℕ) → IsThere s t x → Kept s a settled → Includes settled more
    → ((v : MirrorSub) → bytes_eq v.name n ≡ true → OnlySettledIn more t (mirror_at s a t x) v → OnlySettledIn more t (mirror_at s a t x) (record v { cursor = f v.cursor }))
    → (vs : List MirrorSub) → ((k : ℕ) (v : MirrorSub) → slice_get vs k ≡ Some v → OnlySettledIn more t (mirror_at s a t x) v)
    → (k : ℕ) (v : MirrorSub) → slice_get (with_cursor n f vs) k ≡ Some v → OnlySettledIn more t (mirror_at s a t x) v
cursors_kept s a settled more t x n f there kept all new [] old k v at = absurd (none-some v at)
cursors_kept s a settled more t x n f there kept all new (u ∷ vs) old zero v at =
    subst (OnlySettledIn more t (mirror_at s a t x)) (same_Some _ _ at)
    (on_test (OnlySettledIn more t (mirror_at s a t x)) (bytes_eq u.name n) (record u { cursor = f u.cursor }) u (λ same. new u same (old zero u refl)) (λ _. old zero u refl))
cursors_kept s a settled more t x n f there kept all new (u ∷ vs) old (suc k) v at =
    cursors_kept s a settled more t x n f there kept all new vs (λ j w is. old (suc j) w is) k v at

-- what a line settles, of its own topic
settled_here : (s : Setup) (a : Mirrors) (t x : ℕ) (act : Act) (n : List ℕ)
    → settled_by s a (Writes t x act) t n ≡ messages_at (mirror_at s a t x).entries (indexes_settled (mirror_at s a t x) n act)
settled_here s a t x act n = on_true (t == t) _ _ (eq-eqb t t refl)

-- so the messages at its indexes are settled after it
told_here : (s : Setup) (a : Mirrors) (settled : SettledSoFar) (t x : ℕ) (act : Act) (n : List ℕ) (is : List ℕ) → indexes_settled (mirror_at s a t x) n act ≡ is
    → (i : ℕ) → has is i ≡ true → i < length (mirror_at s a t x).entries → IsTold (told_too settled (settled_by s a (Writes t x act))) t n (mirror_at s a t x).entries i
told_here s a settled t x act n is same i inside lt =
    let es = (mirror_at s a t x).entries in
    indexes_told (told_too settled (settled_by s a (Writes t x act))) t n es is
    (λ e h.
    let P : List Ident → Type 0 = λ l. list_any (same_ident e.ident) l ≡ true in
    any_right (same_ident e.ident) (settled t n) (settled_by s a (Writes t x act) t n)
    (subst P (sym (settled_here s a t x act n ∙ ap (messages_at es) same)) h)) i inside lt

pub acks_kept : (s : Setup) (a : Mirrors) (settled : SettledSoFar) (t x : ℕ) (n is : List ℕ) (c : Cause) → IsThere s t x → Kept s a settled
    → act_refused s a t x (mirror_at s a t x) (Acks n is c) ≡ None
    → Kept s (told s a (Writes t x (Acks n is c))) (told_too settled (settled_by s a (Writes t x (Acks n is c))))
acks_kept s a settled t x n is c there kept h =
    subs_kept s a settled more t x (with_cursor n (λ set. with_indexes set is) m.subs) there kept all
    (cursors_kept s a settled more t x n (λ set. with_indexes set is) there kept all
    (λ v same old i inside. elim (has_either is v.cursor i inside) [ inl o ↦ old i o | inr w ↦ same_name more t m.entries v.name n i same (gained i w) ])
    m.subs (λ k v at. only_more settled more t m v all (now.only k v at)))
  where
    m : Mirror
    m = mirror_at s a t x

    now : TopicKept s a settled t x m
    now = kept.topics t x there

    more : SettledSoFar
    more = told_too settled (settled_by s a (Writes t x (Acks n is c)))

    all : Includes settled more
    all = first_included settled (settled_by s a (Writes t x (Acks n is c)))

    stored : (o : Option MirrorSub) → are_new m o is ≡ true → (i : ℕ) → has is i ≡ true → i < length m.entries
    stored None new i inside = absurd (false≢true new)
    stored (Some v) new i inside = ltb-true i (length m.entries) (left (nat_lt i (length m.entries)) _ (all_has (λ j. nat_lt j (length m.entries) && not (has v.cursor j)) is i new inside))

    -- what an update passes over is a marker, or settled
    by_update : (p : Position) → entry_updates x m n is (entry_by m (Some p)) ≡ true → (i : ℕ) → has is i ≡ true → IsTold settled t n m.entries i
    by_update p passed i inside = by_index (index_at m p) passed
      where
        passes_to : (y j : ℕ) (u : Entry) (k : ℕ) (remote : List ClusterPosition) (ps : List Position) → slice_get m.entries k ≡ Some u → u.ident.origin ≡ y → y ≢ x
            → u.content ≡ content.Marked (marker.Update n remote) → positions_for x remote ≡ ps → (o : Option ℕ) → only_named m ps ≡ o → are_all_updated y m is o ≡ true
            → IsTold settled t n m.entries i
        passes_to y j u k remote ps at of other is_update named None only q = absurd (false≢true q)
        passes_to y j u k remote ps at of other is_update named (Some top) only q = by (slice_get m.entries i) refl (right (nat_le i top) _ each)
          where
            each : is_passed y top m i ≡ true
            each = all_has (is_passed y top m) is i q inside

            to : TellsTo s a settled t y x n remote
            to = subst (λ (z : ℕ). TellsSettled s a settled t z n remote) of (now.updates k u n remote at is_update) x there.1 other

            top_is : to.index ≡ top
            top_is =
                let P : List Position → Type 0 = λ qs. only_named m qs ≡ Some top in
                same_Some _ _ (sym to.stored ∙ subst P (sym named ∙ to.names) only)

            by : (o : Option Entry) → slice_get m.entries i ≡ o → is_updated_at y o ≡ true → IsTold settled t n m.entries i
            by None here r = absurd (false≢true r)
            by (Some f) here r =
                let le : i ≤ top = grind (arith, nat_tests, left (nat_le i top) (is_updated_at y (slice_get m.entries i)) each) in
                (f, here, λ message. to.told i f (omega (arith, le, top_is)) here message (meant y f r message))

        by_content : (k : ℕ) (u : Entry) → slice_get m.entries k ≡ Some u → (d : Content) → u.content ≡ d → content_updates x u.ident.origin m n is d ≡ true → IsTold settled t n m.entries i
        by_content k u at (content.Marked (marker.Update name remote)) is_update q =
            let first = bytes_eq name n in let second = not (u.ident.origin == x) in
            let third = are_all_updated u.ident.origin m is (only_named m (positions_for x remote)) in
            let two = left (first && second) third q in
            let same : name ≡ n = (bytes_eq-Decides name n).0 (left first second two) in
            passes_to u.ident.origin 0 u k remote (positions_for x remote) at refl
            (λ e. false≢true (sym (ap not (eq-eqb u.ident.origin x e)) ∙ right first second two))
            (is_update ∙ ap (λ (l : List ℕ). content.Marked (marker.Update l remote)) same) refl (only_named m (positions_for x remote)) refl
            (right (first && second) third q)
        by_content k u at (content.Marked (marker.Request id source)) is_update q = absurd (false≢true q)
        by_content k u at (content.Marked (marker.Response id answer)) is_update q = absurd (false≢true q)
        by_content k u at (content.Marked (marker.Snapshot id local remote)) is_update q = absurd (false≢true q)
        by_content k u at content.Data is_update q = absurd (false≢true q)
        by_content k u at (content.Unread number) is_update q = absurd (false≢true q)

        by_entry : (k : ℕ) (o : Option Entry) → slice_get m.entries k ≡ o → entry_updates x m n is o ≡ true → IsTold settled t n m.entries i
        by_entry k None at q = absurd (false≢true q)
        by_entry k (Some u) at q = by_content k u at u.content refl q

        by_index : (o : Option ℕ) → entry_updates x m n is (entry_at m o) ≡ true → IsTold settled t n m.entries i
        by_index None q = absurd (false≢true q)
        by_index (Some k) q = by_entry k (slice_get m.entries k) refl q

    -- what an offer passes over is a marker
    by_marker : are_markers m is ≡ true → (i : ℕ) → has is i ≡ true → IsTold settled t n m.entries i
    by_marker h i inside = by (slice_get m.entries i) refl (all_has (λ j. is_marker (slice_get m.entries j)) is i h inside)
      where
        by : (o : Option Entry) → slice_get m.entries i ≡ o → is_marker o ≡ true → IsTold settled t n m.entries i
        by None at q = absurd (false≢true q)
        by (Some e) at q = (e, at, λ message. absurd (false≢true (sym (ap not message) ∙ q)))

    told_more : (i : ℕ) → IsTold settled t n m.entries i → IsTold more t n m.entries i
    told_more i o = (o.0, o.1, λ message. all t n o.0 (o.2 message))

    gained : (i : ℕ) → has is i ≡ true → IsTold more t n m.entries i
    gained i inside = by c refl eight.1
      where
        eight : (are_new m (mirror_sub m n) is ≡ true) × (cause_refused x m n is c ≡ None)
        eight = not_broken 8 (are_new m (mirror_sub m n) is) (cause_refused x m n is c) (not_broken 7 (is_some (mirror_sub m n)) (unless_broken 8 (are_new m (mirror_sub m n) is) (cause_refused x m n is c)) h).1

        by : (d : Cause) → c ≡ d → cause_refused x m n is d ≡ None → IsTold more t n m.entries i
        by cause.Client same q =
            told_here s a settled t x (Acks n is c) n is (ap (λ (d : Cause). indexes_settled m n (Acks n is d)) same ∙ on_true (bytes_eq n n) is [] (bytes_eq_itself n)) i inside
            (stored (mirror_sub m n) eight.0 i inside)
        by cause.Marker same q = told_more i (by_marker (not_broken 9 (are_markers m is) None q).0 i inside)
        by (cause.Update p) same q = told_more i (by_update p (not_broken 10 (entry_updates x m n is (entry_by m (Some p))) None q).0 i inside)
        by cause.Plain same q = absurd (none-some 1 (sym q))
        by cause.Seek same q = absurd (none-some 1 (sym q))

pub creates_kept : (s : Setup) (a : Mirrors) (settled : SettledSoFar) (t x : ℕ) (n : List ℕ) (latest : Bool) → IsThere s t x → Kept s a settled
    → Kept s (told s a (Writes t x (Creates n latest))) (told_too settled (settled_by s a (Writes t x (Creates n latest))))
creates_kept s a settled t x n latest there kept =
    subs_kept s a settled more t x (m.subs ++ record { name = n; cursor = if latest then below (length m.entries) else [] } ∷ []) there kept all only
  where
    m : Mirror
    m = mirror_at s a t x

    more : SettledSoFar
    more = told_too settled (settled_by s a (Writes t x (Creates n latest)))

    all : Includes settled more
    all = first_included settled (settled_by s a (Writes t x (Creates n latest)))

    new : (l : Bool) → latest ≡ l → (i : ℕ) → has (if l then below (length m.entries) else []) i ≡ true → IsTold more t n m.entries i
    new true is i inside =
        let lt = has_below (length m.entries) i inside in
        told_here s a settled t x (Creates n latest) n (first_indexes (length m.entries))
        (ap (λ (b : Bool). indexes_settled m n (Creates n b)) is ∙ on_true (bytes_eq n n) (first_indexes (length m.entries)) [] (bytes_eq_itself n)) i (has_first (length m.entries) i lt) lt
    new false is i inside = absurd (false≢true inside)

    only : (k : ℕ) (v : MirrorSub) → slice_get (m.subs ++ record { name = n; cursor = if latest then below (length m.entries) else [] } ∷ []) k ≡ Some v → OnlySettledIn more t m v
    only k v at =
        elim (get_push m.subs (record { name = n; cursor = if latest then below (length m.entries) else [] }) k v at) [
          | inl o ↦ only_more settled more t m v all ((kept.topics t x there).only k v o.1)
          | inr l ↦ subst (OnlySettledIn more t m) l.1 (new latest refl)
        ]

pub deletes_kept : (s : Setup) (a : Mirrors) (settled : SettledSoFar) (t x : ℕ) (n : List ℕ) → IsThere s t x → Kept s a settled
    → Kept s (told s a (Writes t x (Deletes n))) (told_too settled (settled_by s a (Writes t x (Deletes n))))
deletes_kept s a settled t x n there kept =
    let m = mirror_at s a t x in
    let more = told_too settled (settled_by s a (Writes t x (Deletes n))) in
    let all = first_included settled (settled_by s a (Writes t x (Deletes n))) in
    subs_kept s a settled more t x (filter (λ (v : MirrorSub). not (bytes_eq v.name n)) m.subs) there kept all
    (λ k v at.
    let r = (from_filter (λ (u : MirrorSub). not (bytes_eq u.name n)) m.subs v (record { place = k; is = at })).stands in
    only_more settled more t m v all ((kept.topics t x there).only r.place v r.is))

pub seeks_kept : (s : Setup) (a : Mirrors) (settled : SettledSoFar) (t x : ℕ) (n : List ℕ) (i : ℕ) → IsThere s t x → Kept s a settled
    → act_refused s a t x (mirror_at s a t x) (Seeks n i) ≡ None
    → Kept s (told s a (Writes t x (Seeks n i))) (told_too settled (settled_by s a (Writes t x (Seeks n i))))
seeks_kept s a settled t x n i there kept h =
    let m = mirror_at s a t x in
    let more = told_too settled (settled_by s a (Writes t x (Seeks n i))) in
    let all = first_included settled (settled_by s a (Writes t x (Seeks n i))) in
    let le : i ≤ length m.entries = let r = (not_broken 11 (nat_le i (length m.entries)) None (not_broken 7 (is_some (mirror_sub m n)) (unless_broken 11 (nat_le i (length m.entries)) None) h).1).0 in grind (arith, nat_tests, r) in
    subs_kept s a settled more t x (with_cursor n (λ set. below i) m.subs) there kept all
    (cursors_kept s a settled more t x n (λ set. below i) there kept all
    (λ v same old j inside.
    let lt = has_below i j inside in
    same_name more t m.entries v.name n j same
    (told_here s a settled t x (Seeks n i) n (first_indexes i) (on_true (bytes_eq n n) (first_indexes i) [] (bytes_eq_itself n)) j (has_first i j lt) (omega (arith, lt, le))))
    m.subs (λ k v at. only_more settled more t m v all ((kept.topics t x there).only k v at)))
