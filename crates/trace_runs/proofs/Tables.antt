-- A table tells what a walk over the entries tells, entry by entry.
use Rattle.std.proofs.Common.{◌≡◌, ℕ, zero, suc, ◌+◌, ◌<◌, ◌≤◌, ◌==◌, Bool, true, false, List, [], ◌∷◌, ◌++◌, take, get_or, length, refl, sym, ap, subst, append_assoc, ◌∙◌, arith}
use Rattle.std.proofs.lemmas.Bool.{eq-eqb}
use Rattle.std.proofs.lemmas.List.{append-nil, take_all, take_more}
use Rattle.std.proofs.lemmas.Option.{slice_get-get_or}
use Rattle.std.proofs.lemmas.Slice.Eq.{bytes_eq-Decides}
use Rattle.std.specs.Prelude.{Option, Some, None, ◌&&◌, if◌then◌else◌, slice_get}
use Rattle.std.specs.Str.{bytes_eq}
use Rattle.geo_base.specs.declared.entry.Content.{Content}
use Rattle.geo_base.specs.declared.entry.Content.TheVariants as content
use Rattle.geo_base.specs.declared.entry.Entry.{Entry}
use Rattle.geo_base.specs.declared.marker.ClusterPosition.{ClusterPosition}
use Rattle.geo_base.specs.declared.marker.Marker.TheVariants as marker
use Rattle.geo_base.specs.declared.position.Position.{Position}
use Rattle.geo_base.specs.Position.{position_lt}
use Rattle.geo_base.specs.TraceItems.{names_same}
use Rattle.geo_base.specs.Traced.{SnapshotAt, least_of, least_snapshot, snapshot_in, snapshot_position, snapshots_from}
use Rattle.trace_runs.specs.SnapshotTables.{IsNoted, Row, Snapshots, Tells, TellsBeginning, least_at, no_snapshots, snapshot_key, table_at}
use Rattle.trace_runs.specs.Told.{IsNoSnapshot, IsNoUpdate, IsSnapshot, IsUpdate, lesser, told_by}
use Rattle.trace_runs.proofs.Keys.{keys_same}
pub use Rattle.geo_base.proofs.Results.{on_ok_to as on_ok}

-- ---- a walk over one entry more

walk_more : (own n : ℕ) (remote : List ClusterPosition) (i : ℕ) (es : List Entry) (e : Entry)
    → snapshots_from own n remote i (es ++ e ∷ []) ≡ snapshots_from own n remote i es ++ snapshot_in own n remote (i + length es) e e.content
walk_more own n remote i [] e =
    let here : i + 0 ≡ i = omega arith in
    append-nil (snapshot_in own n remote i e e.content) ∙ ap (λ (j : ℕ). snapshot_in own n remote j e e.content) (sym here)
walk_more own n remote i (d ∷ es) e =
    let same : i + 1 + length es ≡ i + suc (length es) = omega arith in
    ap (λ (ks : List SnapshotAt). snapshot_in own n remote i d d.content ++ ks)
    (walk_more own n remote (i + 1) es e ∙ ap (λ (j : ℕ). snapshots_from own n remote (i + 1) es ++ snapshot_in own n remote j e e.content) same)
    ∙ sym (append_assoc (snapshot_in own n remote i d d.content) (snapshots_from own n remote (i + 1) es) (snapshot_in own n remote (i + suc (length es)) e e.content))

either_more : (b : Bool) (l k : SnapshotAt) (ks : List SnapshotAt) (m : SnapshotAt) → least_of k (ks ++ m ∷ []) ≡ lesser (Some (least_of k ks)) m
    → least_of l (ks ++ m ∷ []) ≡ lesser (Some (least_of l ks)) m
    → (if b then least_of k (ks ++ m ∷ []) else least_of l (ks ++ m ∷ [])) ≡ lesser (Some (if b then least_of k ks else least_of l ks)) m
either_more true l k ks m this that = this
either_more false l k ks m this that = that

least_more : (l : SnapshotAt) (ks : List SnapshotAt) (m : SnapshotAt) → least_of l (ks ++ m ∷ []) ≡ lesser (Some (least_of l ks)) m
least_more l [] m = refl
least_more l (k ∷ ks) m = either_more (position_lt k.local l.local) l k ks m (least_more k ks m) (least_more l ks m)

least_with_more : (ks : List SnapshotAt) (m : SnapshotAt) → least_snapshot (ks ++ m ∷ []) ≡ Some (lesser (least_snapshot ks) m)
least_with_more [] m = refl
least_with_more (l ∷ ks) m = ap (λ (k : SnapshotAt). Some k) (least_more l ks m)

-- ---- the rows after it

none_in : (own n i : ℕ) (remote : List ClusterPosition) (e : Entry) (c : Content) → IsNoSnapshot c → snapshot_in own n remote i e c ≡ []
none_in own n i remote e content.Data h = refl
none_in own n i remote e (content.Marked (marker.Request id source)) h = refl
none_in own n i remote e (content.Marked (marker.Response id answer)) h = refl
none_in own n i remote e (content.Marked (marker.Snapshot id local named)) h = absurd h
none_in own n i remote e (content.Marked (marker.Update m named)) h = refl
none_in own n i remote e (content.Unread k) h = refl

-- an entry that is no snapshot
pub nothing_more : (n : ℕ) (rows : List Row) (es : List Entry) (e : Entry) → IsNoSnapshot e.content → Tells n rows es → Tells n rows (es ++ e ∷ [])
nothing_more n rows es e other t = record {
  at = λ own remote.
      t.at own remote
      ∙ ap least_snapshot
      (sym (walk_more own n remote 0 es e
      ∙ (ap (λ (ks : List SnapshotAt). snapshots_from own n remote 0 es ++ ks) (none_in own n (0 + length es) remote e e.content other) ∙ append-nil (snapshots_from own n remote 0 es))));
}

one_in : (own n i : ℕ) (remote : List ClusterPosition) (e : Entry) (c : Content) (local : Position) (named : List ClusterPosition) → IsSnapshot c local named
    → snapshot_in own n remote i e c ≡ (if (e.ident.origin == own) && names_same n named remote then record { local = local; index = i } ∷ [] else [])
one_in own n i remote e content.Data local named h = absurd h
one_in own n i remote e (content.Marked (marker.Request id source)) local named h = absurd h
one_in own n i remote e (content.Marked (marker.Response id answer)) local named h = absurd h
one_in own n i remote e (content.Marked (marker.Snapshot id p rs)) local named h =
    ap (λ (qs : List ClusterPosition). if (e.ident.origin == own) && names_same n qs remote then record { local = p; index = i } ∷ [] else []) h.1
    ∙ ap (λ (q : Position). if (e.ident.origin == own) && names_same n named remote then record { local = q; index = i } ∷ [] else []) h.0
one_in own n i remote e (content.Marked (marker.Update m rs)) local named h = absurd h
one_in own n i remote e (content.Unread k) local named h = absurd h

-- a snapshot that was noted
pub one_more : (n i : ℕ) (old new : List Row) (es : List Entry) (e : Entry) (local : Position) (named : List ClusterPosition) (key : List ℕ) → IsSnapshot e.content local named
    → key ≡ snapshot_key e.ident.origin n named → IsNoted old new key (record { local = local; index = i }) → length es ≡ i → Tells n old es → Tells n new (es ++ e ∷ [])
one_more n i old new es e local named key is made noted many t = record { at = λ own remote. at own remote }
  where
    m : SnapshotAt
    m = record { local = local; index = i }

    by : (own : ℕ) (remote : List ClusterPosition) (b : Bool) → ((e.ident.origin == own) && names_same n named remote) ≡ b
        → (if b then Some (lesser (least_at old key) m) else least_at old (snapshot_key own n remote)) ≡ least_snapshot (snapshots_from own n remote 0 es ++ (if b then m ∷ [] else []))
    by own remote true same =
        let one : key ≡ snapshot_key own n remote =
        made ∙ (bytes_eq-Decides (snapshot_key e.ident.origin n named) (snapshot_key own n remote)).0 (keys_same e.ident.origin own n named remote ∙ same) in
        ap (λ (o : Option SnapshotAt). Some (lesser o m)) (ap (λ (k : List ℕ). least_at old k) one ∙ t.at own remote) ∙ sym (least_with_more (snapshots_from own n remote 0 es) m)
    by own remote false other = t.at own remote ∙ ap least_snapshot (sym (append-nil (snapshots_from own n remote 0 es)))

    found : (own : ℕ) (remote : List ClusterPosition) → snapshot_in own n remote (0 + length es) e e.content ≡ (if (e.ident.origin == own) && names_same n named remote then m ∷ [] else [])
    found own remote =
        let here : 0 + length es ≡ i = omega (arith, many) in
        ap (λ (k : ℕ). snapshot_in own n remote k e e.content) here ∙ one_in own n i remote e e.content local named is

    tested : (own : ℕ) (remote : List ClusterPosition) → bytes_eq key (snapshot_key own n remote) ≡ ((e.ident.origin == own) && names_same n named remote)
    tested own remote = ap (λ (k : List ℕ). bytes_eq k (snapshot_key own n remote)) made ∙ keys_same e.ident.origin own n named remote

    at : (own : ℕ) (remote : List ClusterPosition) → least_at new (snapshot_key own n remote) ≡ least_snapshot (snapshots_from own n remote 0 (es ++ e ∷ []))
    at own remote =
        noted (snapshot_key own n remote)
        ∙ (ap (λ (b : Bool). if b then Some (lesser (least_at old key) m) else least_at old (snapshot_key own n remote)) (tested own remote)
        ∙ (by own remote ((e.ident.origin == own) && names_same n named remote) refl
        ∙ ap least_snapshot (sym (walk_more own n remote 0 es e ∙ ap (λ (ks : List SnapshotAt). snapshots_from own n remote 0 es ++ ks) (found own remote)))))

-- ---- beginnings of a topic

next_entry : (es : List Entry) (i : ℕ) (e : Entry) → i < length es → slice_get es i ≡ Some e → take (i + 1) es ≡ take i es ++ e ∷ []
next_entry es i e h s =
    let here : Some e ≡ Some (get_or es i e) = sym s ∙ slice_get-get_or es i e h in
    let same : e ≡ get_or es i e = cc in
    take_more es i e h ∙ ap (λ (x : Entry). take i es ++ x ∷ []) (sym same)

length_taken : (es : List Entry) (i : ℕ) → i ≤ length es → length (take i es) ≡ i
length_taken es zero le = refl
length_taken [] (suc i) le = absurd (omega (arith, le))
length_taken (e ∷ es) (suc i) le = ap suc (length_taken es i (omega (arith, le)))

-- one entry more was seen
pub seen_more : (n : ℕ) (old new : Snapshots) (es : List Entry) (i : ℕ) (e : Entry) → i ≡ old.seen → i < length es → slice_get es i ≡ Some e → new.seen ≡ i + 1
    → ((fs : List Entry) → length fs ≡ i → Tells n old.rows fs → Tells n new.rows (fs ++ e ∷ [])) → TellsBeginning n old es → TellsBeginning n new es
seen_more n old new es i e is within at seen more known = record {
  within = omega (arith, seen, within);
  tells =
      let before : Tells n old.rows (take i es) = subst (λ (k : ℕ). Tells n old.rows (take k es)) (sym is) known.tells in
      let behind = more (take i es) (length_taken es i (omega (arith, within))) before in
      subst (λ (fs : List Entry). Tells n new.rows fs) (sym (next_entry es i e within at) ∙ ap (λ (k : ℕ). take k es) (sym seen)) behind;
}

-- all were seen
all_seen : (n : ℕ) (t : Snapshots) (es : List Entry) (own : ℕ) (remote : List ClusterPosition) → t.seen ≡ length es → TellsBeginning n t es
    → least_at t.rows (snapshot_key own n remote) ≡ least_snapshot (snapshots_from own n remote 0 es)
all_seen n t es own remote all known =
    known.tells.at own remote ∙ ap (λ (fs : List Entry). least_snapshot (snapshots_from own n remote 0 fs)) (take_all t.seen es (omega (arith, all)))

-- ---- what an update tells

pub told_not : (own n : ℕ) (ledgers : List ℕ) (es : List Entry) (e : Entry) → IsNoUpdate e.content → None ≡ told_by own n ledgers es e e.content
told_not own n ledgers es e other = by e.content other
  where
    by : (c : Content) → IsNoUpdate c → None ≡ told_by own n ledgers es e c
    by content.Data h = refl
    by (content.Marked (marker.Request id source)) h = refl
    by (content.Marked (marker.Response id answer)) h = refl
    by (content.Marked (marker.Snapshot id local remote)) h = refl
    by (content.Marked (marker.Update m remote)) h = absurd h
    by (content.Unread k) h = refl

pub told_found : (n : ℕ) (t : Snapshots) (ledgers : List ℕ) (es : List Entry) (e : Entry) (remote : List ClusterPosition) (key : List ℕ) (found : Option SnapshotAt) → IsUpdate e.content remote
    → t.seen ≡ length es → TellsBeginning n t es → key ≡ snapshot_key e.ident.origin n remote → found ≡ least_at t.rows key
    → snapshot_position ledgers found ≡ told_by e.ident.origin n ledgers es e e.content
told_found n t ledgers es e remote key found is all known made looked = by e.content is
  where
    own : ℕ
    own = e.ident.origin

    walked : found ≡ least_snapshot (snapshots_from own n remote 0 es)
    walked = looked ∙ (ap (λ (k : List ℕ). least_at t.rows k) made ∙ all_seen n t es own remote all known)

    by : (c : Content) → IsUpdate c remote → snapshot_position ledgers found ≡ told_by own n ledgers es e c
    by content.Data h = absurd h
    by (content.Marked (marker.Request id source)) h = absurd h
    by (content.Marked (marker.Response id answer)) h = absurd h
    by (content.Marked (marker.Snapshot id local named)) h = absurd h
    by (content.Marked (marker.Update m named)) h =
        ap (λ (o : Option SnapshotAt). snapshot_position ledgers o) walked
        ∙ (ap (λ (rs : List ClusterPosition). snapshot_position ledgers (least_snapshot (snapshots_from own n rs 0 es))) (sym h)
        ∙ ap (λ (b : Bool). if b then snapshot_position ledgers (least_snapshot (snapshots_from own n named 0 es)) else None) (sym (eq-eqb own own refl)))
    by (content.Unread k) h = absurd h

-- ---- the tables of all brokers

pub one_table_more : (ts : List Snapshots) (k : ℕ) → table_at (ts ++ no_snapshots ∷ []) k ≡ table_at ts k
one_table_more [] zero = refl
one_table_more [] (suc k) = refl
one_table_more (t ∷ ts) zero = refl
one_table_more (t ∷ ts) (suc k) = one_table_more ts k
