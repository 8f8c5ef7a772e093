-- The writes of an event are told whole by their lines.
use Rattle.std.proofs.Common.{◌≡◌, ℕ, zero, suc, ◌+◌, ◌-◌, ◌^◌, ◌<◌, ◌≤◌, ◌==◌, Bool, true, false, not, ◌&&◌, List, [], ◌∷◌, length, filter, take, refl, sym, ap, ◌∙◌, subst, arith, length-append}
use Rattle.std.specs.Prelude.{Option, Some, None, ◌||◌, if◌then◌else◌, is_some, nat_lt}
use Rattle.std.specs.List.{list_all}
use Rattle.std.specs.Str.{bytes_eq}
use Rattle.std.proofs.lemmas.Bool.{false≢true, ltb-true}
use Rattle.std.proofs.lemmas.Option.{none-some, same_Some}
use Rattle.std.proofs.lemmas.Slice.Eq.{bytes_eq-Decides}
use Rattle.world_laws.proofs.Types.{Content, Entry, Event, Position, Write}
use Rattle.world_laws.proofs.Types.content
use Rattle.world_laws.proofs.Types.event
use Rattle.world_laws.proofs.Types.marker
use Rattle.world_laws.proofs.Types.write
use Rattle.geo_base.specs.declared.planned.Cause.{Cause}
use Rattle.geo_base.specs.Audit.{are_new, cause_refused, entry_by, may_snapshot, may_stand, may_update, is_above, tells_entry, unless_broken}
use Rattle.geo_base.specs.Broker.{Broker, sub_named, written}
use Rattle.geo_base.specs.Cursor.{has, with_indexes}
use Rattle.geo_base.specs.Mirror.{Mirror, MirrorSub, mirror_sub}
use Rattle.geo_base.specs.Name.{is_name}
use Rattle.geo_base.specs.Plan.{all_written}
use Rattle.geo_base.specs.Setup.{Setup}
use Rattle.geo_base.specs.Subscription.{Subscription}
use Rattle.geo_base.specs.Topic.{accepts, grown, next_position, or_first, position_at, position_from}
use Rattle.geo_base.specs.Traced.{SnapshotAt, acts_of, cause_of, cursor_of, gained, least_snapshot, position_read, snapshot_position, snapshot_told, snapshots_from, told_at}
use Rattle.geo_base.specs.World.{site}
use Rattle.cursor_acks.proofs.Sets.{Rising, rising_higher, rising_with_indexes}
use Rattle.script_rows.specs.NameWords.{Word}
use Rattle.world_laws.proofs.Snapshotting.Answering.{Numbered}
use Rattle.world_laws.proofs.Counters.Counts.{HasRoom}
use Rattle.world_laws.proofs.Replicating.Effects.{Each}
use Rattle.world_laws.proofs.Snapshotting.Ids.{IsSmall}
use Rattle.world_laws.proofs.TopicOrder.Ledgers.{of_index, total}
use Rattle.world_laws.proofs.TopicOrder.NextPosition.{next_stands}
use Rattle.world_laws.proofs.Walks.Walk.{on_if}
use Rattle.world_laws.proofs.FrameContents.Widths.{GoodName, Named, WideAt, written_wide}
use Rattle.trace_laws.specs.Seen.{seen}
use Rattle.trace_laws.proofs.Writes.{PlanHolds, option_seen, seen_with, sub_found}
use Rattle.trace_laws.proofs.Entries.{IsBy, IsToldEntry}
use Rattle.trace_laws.proofs.TextLines.{IsToldCause, IsToldItem}
use Rattle.trace_laws.proofs.Ranges.{AreSmall}

-- ---- what an accepted line says

not_broken : (rule : ℕ) (holds : Bool) (rest : Option ℕ) → unless_broken rule holds rest ≡ None → (holds ≡ true) × (rest ≡ None)
not_broken rule true rest h = (refl, h)
not_broken rule false rest h = absurd (none-some rule (sym h))

-- ---- indexes

rising_filter : (p : ℕ → Bool) (low : ℕ) (is : List ℕ) → Rising low is → Rising low (filter p is)
rising_filter p low [] h = tt
rising_filter p low (i ∷ is) h =
    let rest = rising_filter p (i + 1) is h.1 in
    on_if (Rising low) (p i) (i ∷ filter p is) (filter p is) (h.0, rest) (rising_higher (i + 1) low (filter p is) (omega (arith, h.0)) rest)

gained_rises : (set is : List ℕ) → Rising 0 (gained set is)
gained_rises set is = rising_filter (λ i. not (has set i)) 0 (with_indexes [] is) (rising_with_indexes [] is tt)

new_small : (n : ℕ) (set is : List ℕ) → n ≤ 2 ^ 64 → list_all (λ i. nat_lt i n && not (has set i)) is ≡ true → AreSmall is
new_small n set [] few all = tt
new_small n set (i ∷ is) few all = by (nat_lt i n) (not (has set i)) refl all (new_small n set is few)
  where
    rest : Bool
    rest = list_all (λ j. nat_lt j n && not (has set j)) is

    by : (a b : Bool) → nat_lt i n ≡ a → ((a && b) && rest) ≡ true → (rest ≡ true → AreSmall is) → (i < 2 ^ 64) × AreSmall is
    by true true lt more ih = (let l = ltb-true i n lt in omega (arith, l, few), ih more)
    by true false lt more ih = absurd (false≢true more)
    by false b lt more ih = absurd (false≢true more)

-- ---- positions

stands_small : (ls : List ℕ) (k i : ℕ) (p : Position) → position_from ls k i ≡ Some p → (p.ledger < k + length ls) × (p.entry < total ls)
stands_small [] k i p h = absurd (none-some p h)
stands_small (l ∷ ls) k i p h = by (nat_lt i l) refl h (stands_small ls (k + 1) (i - l) p)
  where
    Below : Position → Type 0
    Below q = (q.ledger < k + length (l ∷ ls)) × (q.entry < total (l ∷ ls))

    by : (b : Bool) → nat_lt i l ≡ b → (if b then Some (record { ledger = k; entry = i }) else position_from ls (k + 1) (i - l)) ≡ Some p
        → (position_from ls (k + 1) (i - l) ≡ Some p → (p.ledger < (k + 1) + length ls) × (p.entry < total ls)) → Below p
    by true is e ih = let lt = ltb-true i l is in subst Below (same_Some (record { ledger = k; entry = i }) p e) (omega arith, omega (arith, lt))
    by false is e ih = let r = ih e in (omega (arith, r.0), omega (arith, r.1))

-- the position of any index
at_small : (b : Broker) (i : ℕ) → HasRoom b → Numbered b.entries b.ledgers → IsSmall (position_at b.ledgers i)
at_small b i room numbered = by (position_from b.ledgers 0 i) refl
  where
    by : (o : Option Position) → position_from b.ledgers 0 i ≡ o → IsSmall (or_first o)
    by None is = record { ledger = omega arith; entry = omega arith }
    by (Some p) is =
        let r = stands_small b.ledgers 0 i p is in let whole = numbered.whole in
        record { ledger = omega (arith, r.0, room.ledgers); entry = omega (arith, r.1, whole, room.entries) }

-- where an entry was appended
append_small : (per : ℕ) (b : Broker) (e : Entry) → Numbered b.entries b.ledgers → HasRoom (written per b (write.Append e)) → IsSmall (next_position per b.ledgers)
append_small per b e numbered room =
    let f = of_index (grown per b.ledgers) (next_position per b.ledgers) (total b.ledgers) (next_stands per b.ledgers numbered.some) in
    let entry = f.entry in let last = f.last in let whole = numbered.whole in let l = length-append b.entries (e ∷ []) in
    record { ledger = omega (arith, last, room.ledgers); entry = omega (arith, entry, whole, l, room.entries) }

-- why an event acknowledges
pub cause_told : (b : Broker) (e : Event) → HasRoom b → Numbered b.entries b.ledgers → IsToldCause (cause_of b e)
cause_told b (event.Read t x y) room numbered = by _
  where
    by : (o : Option ℕ) → IsSmall (position_read b o)
    by None = record { ledger = omega arith; entry = omega arith }
    by (Some i) = at_small b i room numbered
cause_told b e room numbered = tt

-- ---- the snapshot that an own update tells

by_told : (s : Setup) (m : Mirror) (t x : ℕ) (b : Broker) (e : Entry) (c : Content) → HasRoom b → Numbered b.entries b.ledgers → may_update s m x e (snapshot_told (site s t x) b e c) c ≡ true
    → IsBy c (e.ident.origin == x) (snapshot_told (site s t x) b e c)
by_told s m t x b e (content.Marked (marker.Update name remote)) room numbered h = by (e.ident.origin == x) h
  where
    n : ℕ
    n = length s.clusters

    told : Option Position
    told = snapshot_position b.ledgers (least_snapshot (snapshots_from x n remote 0 b.entries))

    found : (o : Option SnapshotAt) → tells_entry x n m name remote (entry_by m (snapshot_position b.ledgers o)) ≡ true
        → (p : Position) × (snapshot_position b.ledgers o ≡ Some p) × IsSmall p
    found None h = absurd (false≢true h)
    found (Some k) h = (position_at b.ledgers k.index, refl, at_small b k.index room numbered)

    by : (own : Bool) → (not own || tells_entry x n m name remote (entry_by m (if own then told else None))) ≡ true
        → IsBy (content.Marked (marker.Update name remote)) own (if own then told else None)
    by false h = refl
    by true h = found (least_snapshot (snapshots_from x n remote 0 b.entries)) h
by_told s m t x b e c room numbered h = refl

-- ---- names of subscriptions

found_named : (n : List ℕ) (vs : List Subscription) → Each Named vs → is_some (sub_named vs n) ≡ true → is_name n ≡ true
found_named n [] named h = absurd (false≢true h)
found_named n (v ∷ vs) named h = by (bytes_eq v.name n) refl h (found_named n vs named.1)
  where
    by : (b : Bool) → bytes_eq v.name n ≡ b → is_some (if b then Some v else sub_named vs n) ≡ true → (is_some (sub_named vs n) ≡ true → is_name n ≡ true) → is_name n ≡ true
    by true same e ih = subst (λ (m : List ℕ). is_name m ≡ true) ((bytes_eq-Decides v.name n).0 same) named.0
    by false same e ih = ih e

some_seen : (o : Option Subscription) → is_some (option_seen o) ≡ true → is_some o ≡ true
some_seen None h = h
some_seen (Some v) h = refl

seen_named : (n : List ℕ) (b : Broker) → Each Named b.subs → is_some (mirror_sub (seen b) n) ≡ true → is_name n ≡ true
seen_named n b named h = found_named n b.subs named (some_seen (sub_named b.subs n) (ap is_some (sym (sub_found n b.subs)) ∙ h))

-- ---- the writes, one after another

-- there is room after each of them
abbrev pub IsRoomy : Broker → Type 0
IsRoomy b = HasRoom b × (length b.entries < 2 ^ 64)

abbrev pub RoomAlong : ℕ → Broker → List Write → Type 0
RoomAlong per b [] = IsRoomy b
RoomAlong per b (w ∷ ws) = IsRoomy b × RoomAlong per (written per b w) ws

room_now : (per : ℕ) (b : Broker) (ws : List Write) → RoomAlong per b ws → IsRoomy b
room_now per b [] h = h
room_now per b (w ∷ ws) h = h.0

pub room_along : (per : ℕ) (b : Broker) (k : ℕ) (ws : List Write) → ((j : ℕ) → IsRoomy (all_written per b (take j ws))) → RoomAlong per b (take k ws)
room_along per b zero ws h = h zero
room_along per b (suc k) [] h = h zero
room_along per b (suc k) (w ∷ ws) h = (h zero, room_along per (written per b w) k ws (λ j. h (suc j)))

abbrev pub AppendsTold : List Word → Write → Type 0
AppendsTold names (write.Append e) = IsToldEntry names e
AppendsTold names w = Unit {0}

-- what an append's line tells
append_told : (s : Setup) (m : Mirror) (t x : ℕ) (b : Broker) (e : Entry) → HasRoom b → Numbered b.entries b.ledgers
    → unless_broken 6 (may_update s m x e (snapshot_told (site s t x) b e e.content) e.content) None ≡ None → IsBy e.content (e.ident.origin == x) (snapshot_told (site s t x) b e e.content)
append_told s m t x b e room numbered accepted =
    by_told s m t x b e e.content room numbered (not_broken 6 (may_update s m x e (snapshot_told (site s t x) b e e.content) e.content) None accepted).0

-- what acks tell: the indexes are stored
acks_small : (m : Mirror) (o : Option MirrorSub) (set is : List ℕ) → length m.entries ≤ 2 ^ 64 → are_new m o is ≡ true → AreSmall is
acks_small m None set is few h = absurd (false≢true h)
acks_small m (Some v) set is few h = new_small (length m.entries) v.cursor is few h

pub writes_told : (s : Setup) (bs : List Broker) (n t x : ℕ) (c : Cause) (b : Broker) (ws : List Write) → t < length s.topics → x < length s.clusters → IsToldCause c → PlanHolds s bs n t x c b ws
    → Each (AppendsTold s.clusters) ws → Each GoodName ws → WideAt (length s.clusters) b → RoomAlong s.per_ledger b ws
    → Each (IsToldItem s) (told_at t x (acts_of (site s t x) c b ws))
writes_told s bs n t x c b [] topic cluster why holds told good wide room = tt
writes_told s bs n t x c b (write.Append e ∷ ws) topic cluster why holds told good wide room =
    let a = seen_with s bs n t x b in
    let m = seen b in
    let p = next_position s.per_ledger b.ledgers in
    let by = snapshot_told (site s t x) b e e.content in
    let six = unless_broken 6 (may_update s m x e by e.content) None in
    let five = unless_broken 5 (may_snapshot s a t x e e.content) six in
    let four = unless_broken 4 (may_stand s a t x e) five in
    let three = unless_broken 3 (accepts m.entries e.ident) four in
    let at_six = (not_broken 5 (may_snapshot s a t x e e.content) six
    (not_broken 4 (may_stand s a t x e) five
    (not_broken 3 (accepts m.entries e.ident) four
    (not_broken 2 (is_above m.positions p) three holds.0.1.0).1).1).1).1 in (
      (
        topic,
        cluster,
        (
          append_small s.per_ledger b e holds.0.0 (room_now s.per_ledger (written s.per_ledger b (write.Append e)) ws room.1).0,
          told.0,
          append_told s m t x b e room.0.0 holds.0.0 at_six,
        ),
      ),
      writes_told s bs n t x c (written s.per_ledger b (write.Append e)) ws topic cluster why holds.1 told.1 good.1 (written_wide (length s.clusters) s.per_ledger b (write.Append e ∷ []) (tt, tt) wide) room.1,
    )
writes_told s bs n t x c b (write.Create m kind replicated latest ∷ ws) topic cluster why holds told good wide room = (
  (topic, cluster, good.0),
  writes_told s bs n t x c (written s.per_ledger b (write.Create m kind replicated latest)) ws topic cluster why holds.1 told.1 good.1
      (written_wide (length s.clusters) s.per_ledger b (write.Create m kind replicated latest ∷ []) (good.0, tt) wide) room.1,
)
writes_told s bs n t x c b (write.Delete m ∷ ws) topic cluster why holds told good wide room = (
  (topic, cluster, found_named m b.subs wide.names holds.0),
  writes_told s bs n t x c (written s.per_ledger b (write.Delete m)) ws topic cluster why holds.1 told.1 good.1 (written_wide (length s.clusters) s.per_ledger b (write.Delete m ∷ []) (tt, tt) wide) room.1,
)
writes_told s bs n t x c b (write.Acks m is ∷ ws) topic cluster why holds told good wide room =
    let k = seen b in
    let set = cursor_of (sub_named b.subs m) in
    let g = gained set is in
    let seven = not_broken 7 (is_some (mirror_sub k m)) (unless_broken 8 (are_new k (mirror_sub k m) g) (cause_refused x k m g c)) holds.0.2 in
    let eight = not_broken 8 (are_new k (mirror_sub k m) g) (cause_refused x k m g c) seven.1 in (
      (topic, cluster, (seen_named m b wide.names seven.0, gained_rises set is, acks_small k (mirror_sub k m) set g (let few = room.0.1 in omega (arith, few)) eight.0, why)),
      writes_told s bs n t x c (written s.per_ledger b (write.Acks m is)) ws topic cluster why holds.1 told.1 good.1 (written_wide (length s.clusters) s.per_ledger b (write.Acks m is ∷ []) (tt, tt) wide) room.1,
    )
writes_told s bs n t x c b (write.Seek m i ∷ ws) topic cluster why holds told good wide room = (
  (topic, cluster, (found_named m b.subs wide.names holds.0.0, (let few = room.0.1 in let le = holds.0.1 in omega (arith, few, le)))),
  writes_told s bs n t x c (written s.per_ledger b (write.Seek m i)) ws topic cluster why holds.1 told.1 good.1 (written_wide (length s.clusters) s.per_ledger b (write.Seek m i ∷ []) (tt, tt) wide) room.1,
)
writes_told s bs n t x c b (write.Alter m kind replicated ∷ ws) topic cluster why holds told good wide room =
    writes_told s bs n t x c (written s.per_ledger b (write.Alter m kind replicated)) ws topic cluster why holds.1 told.1 good.1
    (written_wide (length s.clusters) s.per_ledger b (write.Alter m kind replicated ∷ []) (tt, tt) wide) room.1
writes_told s bs n t x c b (write.ReplicatorAck y i ∷ ws) topic cluster why holds told good wide room =
    writes_told s bs n t x c (written s.per_ledger b (write.ReplicatorAck y i)) ws topic cluster why holds.1 told.1 good.1 (written_wide (length s.clusters) s.per_ledger b (write.ReplicatorAck y i ∷ []) (tt, tt) wide) room.1
writes_told s bs n t x c b (write.SessionNumber y i ∷ ws) topic cluster why holds told good wide room =
    writes_told s bs n t x c (written s.per_ledger b (write.SessionNumber y i)) ws topic cluster why holds.1 told.1 good.1
    (written_wide (length s.clusters) s.per_ledger b (write.SessionNumber y i ∷ []) (tt, tt) wide) room.1
writes_told s bs n t x c b (write.Ledger ∷ ws) topic cluster why holds told good wide room =
    writes_told s bs n t x c (written s.per_ledger b write.Ledger) ws topic cluster why holds.1 told.1 good.1 (written_wide (length s.clusters) s.per_ledger b (write.Ledger ∷ []) (tt, tt) wide) room.1
