-- A cursor's write and the update that follows it: the machine's writes, which the broker can do and write again.
use Rattle.std.proofs.Common.{◌≡◌, ℕ, zero, suc, ◌+◌, ◌*◌, ◌<◌, ◌≤◌, Bool, true, false, List, [], ◌∷◌, length, map, refl, arith, ap}
use Rattle.std.specs.Prelude.{◌==◌, ◌&&◌, ◌||◌, not, nat_lt, max, if◌then◌else◌, Option, Some, None, IfSome, is_some, slice_index_or}
use Rattle.std.specs.List.{AllByRecursion}
use Rattle.std.proofs.lemmas.Bool.Decides.{nat_tests}
use Rattle.geo_base.specs.declared.entry.Entry.{Entry}
use Rattle.geo_base.specs.declared.marker.ClusterRef.TheVariants as cluster_ref
use Rattle.geo_base.specs.declared.position.Position.{Position}
use Rattle.geo_base.specs.declared.snapshot.CachedSnapshot.{CachedSnapshot}
use Rattle.geo_base.specs.declared.snapshot.Cut.{Cut}
use Rattle.geo_base.specs.declared.write.Write.{Write}
use Rattle.geo_base.specs.declared.write.Write.TheVariants as write
use Rattle.geo_base.specs.Broker.{Broker, Site, written}
use Rattle.geo_base.specs.SnapshotBuilder.{named_from}
use Rattle.geo_base.specs.Cache.{any_passed, last_passed}
use Rattle.geo_base.specs.Cursor.{below, mark, with_indexes}
use Rattle.geo_base.specs.Entry.{is_own_marker, marker_producer}
use Rattle.geo_base.specs.Name.{is_name}
use Rattle.geo_base.specs.Sizes.{cluster_position_size, cluster_positions, position_size}
use Rattle.geo_base.specs.Storing.{appending_update, cursor_write, update_marker}
use Rattle.geo_base.specs.Subscription.{Subscription}
use Rattle.geo_base.specs.Topic.{accepts, next_marker}
use Rattle.geo_base.specs.Updating.{updated_indexes}
use Rattle.frame_values.proofs.Entries.{no_rest}
use Rattle.broker_subs.specs.Steps.{SubWriteFits, acks_needed, machine_sub_write, sub_written}
use Rattle.broker_subs.specs.Table.{names_of, room_at, sub_at}
use Rattle.broker_subs.specs.declared.writing.SubWrite.{SubWrite}
use Rattle.broker_subs.specs.declared.writing.SubWrite.TheVariants as sub_write
use Rattle.broker_state.specs.Fits.{AllWritesFit, WritesNamed, all_names_after}
use Rattle.broker_state.specs.Room.{Room, WritesHaveRoom}
use Rattle.broker_state.specs.Writes.{machine_write}
use Rattle.broker_state.specs.declared.write.StateWrite.{StateWrite}
use Rattle.broker_state.specs.declared.write.StateWrite.TheVariants as state_write
use Rattle.broker_state.specs.Site.{IsNameLong, IsSite}
use Rattle.broker_plans.specs.Storable.{IsCutOf, IsSnapshotOf, IsStorable, WritesStorable}
use Rattle.broker_plans.specs.Updates.{IsAppend, cursor_writes, update_after, update_at, update_write, with_update}
use Rattle.broker_plans.proofs.Packets.{bytes_most, name_most, number_most, place_most}
use Rattle.broker_plans.proofs.Places.{name_there}

-- an own marker's number is above those of all own markers
above_one : (own : ℕ) (e : Entry) (rest n : ℕ) (a b : Bool) → (rest ≤ n → a ≡ true)
    → (if b then max (e.ident.seq + 1) rest else rest) ≤ n
    → ((not b || nat_lt e.ident.seq n) && a) ≡ true
above_one own e rest n a true ih h = grind (arith, nat_tests)
above_one own e rest n a false ih h = ih h

pub above : (own : ℕ) (es : List Entry) (n : ℕ) → next_marker own es ≤ n → accepts es (record { origin = own; producer = marker_producer; seq = n }) ≡ true
above own [] n h = refl
above own (e ∷ es) n h =
    above_one own e (next_marker own es) n (accepts es (record { origin = own; producer = marker_producer; seq = n })) (is_own_marker own e) (above own es n) h

-- ---- the writes that an update takes

update_steps : (h : Site) (b : Broker) (m n : List ℕ) (es : List Entry) (o : Option Cut) → map (machine_write m es) (with_update (update_write h b n o)) ≡ appending_update h b n o
update_steps h b m n es None = refl
update_steps h b m n es (Some cut) = refl

-- they are the machine's: the cursor's write, and the update that follows it
steps_of : (h : Site) (b : Broker) (s : Subscription) (w : SubWrite) (cache : List CachedSnapshot)
    → map (machine_write s.name b.entries) (cursor_writes w (update_at h b s.name s.replicated (mark (sub_written b.entries w s).cursor) cache))
    ≡ cursor_write h b (record s { cache = cache }) (machine_sub_write s.name b.entries w)
steps_of h b s (sub_write.Acks is) cache =
    ap (λ (ws : List Write). write.Acks s.name is ∷ ws) (update_steps h b s.name s.name b.entries (if s.replicated then last_passed (mark (with_indexes s.cursor is)) cache else None))
steps_of h b s (sub_write.AckTo i) cache =
    ap (λ (ws : List Write). write.Acks s.name (below (i + 1)) ∷ ws) (update_steps h b s.name s.name b.entries (if s.replicated then last_passed (mark (with_indexes s.cursor (below (i + 1)))) cache else None))
steps_of h b s (sub_write.UpdateTo i from runs) cache =
    ap (λ (ws : List Write). write.Acks s.name (updated_indexes from 0 (i + 1) b.entries) ∷ ws)
    (update_steps h b s.name s.name b.entries (if s.replicated then last_passed (mark (with_indexes s.cursor (updated_indexes from 0 (i + 1) b.entries))) cache else None))
steps_of h b s (sub_write.Seek i) cache =
    ap (λ (ws : List Write). write.Seek s.name i ∷ ws) (update_steps h b s.name s.name b.entries (if s.replicated then last_passed (mark (below i)) cache else None))
steps_of h b s (sub_write.Alter kind replicated) cache =
    ap (λ (ws : List Write). write.Alter s.name kind replicated ∷ ws) (update_steps h b s.name s.name b.entries (if s.replicated then last_passed (mark s.cursor) cache else None))

pub cursor_steps : (h : Site) (b : Broker) (k : ℕ) (w : SubWrite) (cache : List CachedSnapshot)
    → map (machine_write (sub_at b.subs k).name b.entries) (cursor_writes w (update_after h b k w cache))
    ≡ cursor_write h b (record (sub_at b.subs k) { cache = cache }) (machine_sub_write (sub_at b.subs k).name b.entries w)
cursor_steps h b k w cache = steps_of h b (sub_at b.subs k) w cache

-- ---- they name the subscription that is there

update_named : (h : Site) (b : Broker) (m n : List ℕ) (k : ℕ) (ns : List (List ℕ)) (o : Option Cut) → WritesNamed m k ns (with_update (update_write h b n o))
update_named h b m n k ns None = tt
update_named h b m n k ns (Some cut) = (tt, tt)

pub cursor_named : (h : Site) (b : Broker) (k : ℕ) (w : SubWrite) (cache : List CachedSnapshot) → k < length b.subs
    → WritesNamed (sub_at b.subs k).name k (names_of b.subs) (cursor_writes w (update_after h b k w cache))
cursor_named h b k w cache within =
    let s = sub_at b.subs k in
    (name_there b.subs k within, update_named h b s.name s.name k (names_of b.subs) (if s.replicated then last_passed (mark (sub_written b.entries w s).cursor) cache else None))

update_names : (h : Site) (b : Broker) (n : List ℕ) (k : ℕ) (ns : List (List ℕ)) (o : Option Cut) → all_names_after k ns (with_update (update_write h b n o)) ≡ ns
update_names h b n k ns None = refl
update_names h b n k ns (Some cut) = refl

pub cursor_names : (h : Site) (b : Broker) (k : ℕ) (w : SubWrite) (cache : List CachedSnapshot) (ns : List (List ℕ)) → all_names_after k ns (cursor_writes w (update_after h b k w cache)) ≡ ns
cursor_names h b k w cache ns =
    let s = sub_at b.subs k in
    update_names h b s.name k ns (if s.replicated then last_passed (mark (sub_written b.entries w s).cursor) cache else None)

-- ---- and the broker can do them

kept_entries : (per : ℕ) (b : Broker) (n : List ℕ) (es : List Entry) (w : SubWrite) → (written per b (machine_sub_write n es w)).entries ≡ b.entries
kept_entries per b n es (sub_write.Acks is) = refl
kept_entries per b n es (sub_write.AckTo i) = refl
kept_entries per b n es (sub_write.UpdateTo i from runs) = refl
kept_entries per b n es (sub_write.Seek i) = refl
kept_entries per b n es (sub_write.Alter kind replicated) = refl

pub own_accepted : (own : ℕ) (es : List Entry) → accepts es (record { origin = own; producer = marker_producer; seq = next_marker own es }) ≡ true
own_accepted own es = above own es (next_marker own es) (omega arith)

update_fits : (per : ℕ) (h : Site) (b now : Broker) (m n : List ℕ) (es : List Entry) (k : ℕ) (o : Option Cut) → now.entries ≡ b.entries
    → AllWritesFit per m es k now (with_update (update_write h b n o))
update_fits per h b now m n es k None same = tt
update_fits per h b now m n es k (Some cut) same = ((rw same (own_accepted h.own b.entries), refl), tt)

pub cursor_fits : (per : ℕ) (h : Site) (b : Broker) (n : List ℕ) (k : ℕ) (w : SubWrite) (cache : List CachedSnapshot) → SubWriteFits b.entries (sub_at b.subs k) w
    → AllWritesFit per n b.entries k b (cursor_writes w (update_after h b k w cache))
cursor_fits per h b n k w cache fits =
    let s = sub_at b.subs k in
    ((refl, fits), update_fits per h b (written per b (machine_sub_write n b.entries w)) n s.name b.entries k (if s.replicated then last_passed (mark (sub_written b.entries w s).cursor) cache else None) (kept_entries per b n b.entries w))

-- ---- in memory that is there

update_room : (w : SubWrite) (o : Option StateWrite) (room : Room) (k : ℕ) → IfSome o IsAppend → acks_needed w ≤ (room_at room.subs k).acks
    → (is_some o ≡ true → 1 ≤ room.entries) → (is_some o ≡ true → 1 ≤ room.streams) → WritesHaveRoom room k (cursor_writes w o)
update_room w None room k is acks entries streams = record { entries = omega arith; streams = omega arith; places = omega arith; acks = (acks, tt); replicators = omega arith }
update_room w (Some (state_write.Append e stream)) room k is acks entries streams =
    record { entries = entries refl; streams = streams refl; places = omega arith; acks = (acks, (tt, tt)); replicators = omega arith }
update_room w (Some (state_write.Create s latest)) room k is acks entries streams = absurd is
update_room w (Some state_write.Delete) room k is acks entries streams = absurd is
update_room w (Some (state_write.Sub v)) room k is acks entries streams = absurd is
update_room w (Some (state_write.ReplicatorAck y i)) room k is acks entries streams = absurd is
update_room w (Some (state_write.SessionNumber y session)) room k is acks entries streams = absurd is
update_room w (Some state_write.Ledger) room k is acks entries streams = absurd is

pub cursor_room : (w : SubWrite) (o : Option StateWrite) (room : Room) (k : ℕ) → IfSome o IsAppend → acks_needed w ≤ (room_at room.subs k).acks
    → (is_some o ≡ true → 1 ≤ room.entries) → (is_some o ≡ true → 1 ≤ room.streams) → WritesHaveRoom room k (cursor_writes w o)
cursor_room w o room k is acks entries streams = update_room w o room k is acks entries streams

is_append : (h : Site) (b : Broker) (n : List ℕ) (o : Option Cut) → IfSome (update_write h b n o) IsAppend
is_append h b n None = tt
is_append h b n (Some cut) = tt

pub update_appends : (h : Site) (b : Broker) (k : ℕ) (w : SubWrite) (cache : List CachedSnapshot) → IfSome (update_after h b k w cache) IsAppend
update_appends h b k w cache =
    let s = sub_at b.subs k in
    is_append h b s.name (if s.replicated then last_passed (mark (sub_written b.entries w s).cursor) cache else None)

-- ---- and what they store can be written again

-- the positions of a cut take little, in a field of any number
pub positions_most : (names : List (List ℕ)) (field c : ℕ) (ps : List (Option Position)) → AllByRecursion IsNameLong names → cluster_positions names field (named_from c ps) ≤ 200 * length ps
positions_most names field c [] h = omega arith
positions_most names field c (None ∷ ps) h = omega (arith, positions_most names field (c + 1) ps h)
positions_most names field c (Some p ∷ ps) h =
    omega (
      arith,
      bytes_most field (cluster_position_size names (record { cluster = cluster_ref.Known c; position = p })),
      bytes_most 1 (length (slice_index_or names c [])),
      name_most names c h,
      bytes_most 2 (position_size p),
      place_most p,
      positions_most names field (c + 1) ps h,
    )

least_stored : (b : Bool) → 5242880 ≤ (if b then 5242880 + 1024 else 5242880)
least_stored true = omega arith
least_stored false = omega arith

pub update_storable : (h : Site) (b : Broker) (n : List ℕ) (cut : Cut) → IsSite h → length n ≤ 16 → IsCutOf h cut → IsStorable h (update_marker h b n cut)
update_storable h b n cut site short few = record {
  read = record { rest = no_rest; marker = tt };
  size = omega (
    arith,
    least_stored (h.own == h.own),
    bytes_most 1 (length marker_producer),
    number_most 2 (next_marker h.own b.entries),
    number_most 3 0,
    number_most 20 13,
    bytes_most 1 (length n),
    positions_most h.clusters 2 0 cut.remote site.names,
    site.few,
    short,
    few,
  );
}

either : (P : Cut → Type 0) (b : Bool) (x y : Option Cut) → IfSome x P → IfSome y P → IfSome (if b then x else y) P
either P true x y hx hy = hx
either P false x y hx hy = hy

passed_cut : (h : Site) (m : ℕ) (cs : List CachedSnapshot) → AllByRecursion (IsSnapshotOf h) cs → IfSome (last_passed m cs) (IsCutOf h)
passed_cut h m [] all = tt
passed_cut h m (c ∷ cs) all =
    either (IsCutOf h) (any_passed m cs) (last_passed m cs) (if nat_lt c.index m then Some c.cut else None) (passed_cut h m cs all.1)
    (either (IsCutOf h) (nat_lt c.index m) (Some c.cut) None all.0 tt)

update_stored : (h : Site) (b : Broker) (n : List ℕ) (o : Option Cut) → IsSite h → length n ≤ 16 → IfSome o (IsCutOf h) → WritesStorable h (appending_update h b n o)
update_stored h b n None site short cut = tt
update_stored h b n (Some cut) site short is = (update_storable h b n cut site short is, tt)

short_name : (n : List ℕ) → is_name n ≡ true → length n ≤ 16
short_name n is = grind (arith, nat_tests)

behind : (h : Site) (n : List ℕ) (es : List Entry) (w : SubWrite) (ws : List Write) → WritesStorable h ws → WritesStorable h (machine_sub_write n es w ∷ ws)
behind h n es (sub_write.Acks is) ws all = all
behind h n es (sub_write.AckTo i) ws all = all
behind h n es (sub_write.UpdateTo i from runs) ws all = all
behind h n es (sub_write.Seek i) ws all = all
behind h n es (sub_write.Alter kind replicated) ws all = all

after_stored : (h : Site) (b : Broker) (s : Subscription) (m : ℕ) (cache : List CachedSnapshot) → IsSite h → is_name s.name ≡ true → AllByRecursion (IsSnapshotOf h) cache
    → WritesStorable h (appending_update h b s.name (if s.replicated then last_passed m cache else None))
after_stored h b s m cache site named all =
    update_stored h b s.name (if s.replicated then last_passed m cache else None) site (short_name s.name named)
    (either (IsCutOf h) s.replicated (last_passed m cache) None (passed_cut h m cache all) tt)

pub cursor_stored : (h : Site) (b : Broker) (s : Subscription) (es : List Entry) (w : SubWrite) → IsSite h → is_name s.name ≡ true → AllByRecursion (IsSnapshotOf h) s.cache
    → WritesStorable h (cursor_write h b s (machine_sub_write s.name es w))
cursor_stored h b s es (sub_write.Acks is) site named all = after_stored h b s (mark (with_indexes s.cursor is)) s.cache site named all
cursor_stored h b s es (sub_write.AckTo i) site named all = after_stored h b s (mark (with_indexes s.cursor (below (i + 1)))) s.cache site named all
cursor_stored h b s es (sub_write.UpdateTo i from runs) site named all = after_stored h b s (mark (with_indexes s.cursor (updated_indexes from 0 (i + 1) es))) s.cache site named all
cursor_stored h b s es (sub_write.Seek i) site named all = after_stored h b s (mark (below i)) s.cache site named all
cursor_stored h b s es (sub_write.Alter kind replicated) site named all = after_stored h b s (mark s.cursor) s.cache site named all

-- the snapshots of the subscription at a place
pub cache_at : (h : Site) (ss : List Subscription) (k : ℕ) → AllByRecursion (λ (s : Subscription). AllByRecursion (IsSnapshotOf h) s.cache) ss → AllByRecursion (IsSnapshotOf h) (sub_at ss k).cache
cache_at h [] k all = tt
cache_at h (s ∷ ss) zero all = all.0
cache_at h (s ∷ ss) (suc k) all = cache_at h ss k all.1
