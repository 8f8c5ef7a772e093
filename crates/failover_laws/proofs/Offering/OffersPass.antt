-- Offers of a subscription that has acknowledged every message pass over markers, one after another; with its snapshot marker an update
-- goes out.
use Rattle.std.proofs.Common.{◌≡◌, zero, suc, ◌+◌, ◌<◌, ◌≤◌, Bool, true, false, List, ◌∷◌, ◌++◌, length, refl, sym, ap, subst, ◌∙◌, ◌==◌, arith, inl, inr, not, ℕ, []}
use Rattle.std.specs.Prelude.{Option, Some, None, ◌⊎◌, ◌-◌, ◌&&◌, ◌||◌, nat_le, nat_lt, if◌then◌else◌, drop, option_map, slice_get}
use Rattle.std.specs.List.{list_any}
use Rattle.std.proofs.lemmas.Bool.{eq-eqb, eqb-true, false≢true, lt-ltb}
use Rattle.std.proofs.lemmas.List.{length-append}
use Rattle.std.proofs.lemmas.Option.{none-some, same_Some}
use Rattle.world_laws.proofs.Types.{CachedSnapshot, Change, ClusterPosition, Cut, Entry, Unacked, Position}
use Rattle.world_laws.proofs.Types.change
use Rattle.world_laws.proofs.Types.content
use Rattle.world_laws.proofs.Types.marker
use Rattle.world_laws.proofs.Types.targets
use Rattle.geo_base.specs.Broker.{Broker, Site, sub_named}
use Rattle.geo_base.specs.SnapshotBuilder.{named}
use Rattle.geo_base.specs.Cache.{any_passed, cached, cut_of, last_passed, most_cached}
use Rattle.geo_base.specs.Cursor.{has, mark, with_indexes}
use Rattle.geo_base.specs.Dispatcher.{consumer_at, is_due, least_due, pick}
use Rattle.geo_base.specs.Entry.{is_data, key_bytes}
use Rattle.geo_base.specs.Offering.{message, offer, offer_entry, own_snapshot, skips_marker}
use Rattle.geo_base.specs.Plan.{Plan, all_written, done, idle_plan, plan_of, unless_found}
use Rattle.geo_base.specs.Storing.{appending_update, update_marker}
use Rattle.geo_base.specs.Subscription.{Subscription, is_attached}
use Rattle.geo_base.specs.Topic.{index_of}
use Rattle.world_laws.proofs.Counters.Counts.{all_changed_ledgers}
use Rattle.world_laws.proofs.Dispatching.DueCounts.{none_due}
use Rattle.world_laws.proofs.Dispatching.Remembers.{IsLeast, Kept, Remembers, has_either, has_new, has_still, is_false, least_due_is, why_kept}
use Rattle.world_laws.proofs.OnceInOrder.Appends.{all_changed_entries}
use Rattle.world_laws.proofs.OnceInOrder.Members.{below_or, get_last}
use Rattle.world_laws.proofs.Replicating.Cursors.{either, or_right}
use Rattle.world_laws.proofs.Replicating.Effects.{Each}
use Rattle.world_laws.proofs.Snapshotting.Answering.{Numbered, Steady, old_or_new, writes_steady}
use Rattle.world_laws.proofs.Snapshotting.Hearing.{Stays, grown_get}
use Rattle.world_laws.proofs.TopicOrder.Added.{appended}
use Rattle.world_laws.proofs.Walks.Walk.{both, left, on_found, on_if, on_true}
use Rattle.cursor_acks.proofs.Sets.{Rising, rising_with_indexes}
use Rattle.failover_laws.proofs.Ending.Became.{done_stays}
use Rattle.failover_laws.proofs.Lasting.{found_name}
use Rattle.failover_laws.proofs.Offering.Ascends.{mark_high}
use Rattle.failover_laws.proofs.Offering.FoundAgain.{NamesStay, no_message, Passes, passing_plan, plan_passes}
use Rattle.failover_laws.proofs.Offering.Outs.{MessageAt, OutIn}
use Rattle.geo_base.proofs.Bools.{unless_false}

any_last : (m : ℕ) (xs : List CachedSnapshot) (c : CachedSnapshot) → nat_lt c.index m ≡ true → any_passed m (xs ++ c ∷ []) ≡ true
any_last m [] c lt = ap (λ (b : Bool). b || false) lt
any_last m (x ∷ xs) c lt = or_right (nat_lt x.index m) _ (any_last m xs c lt)

last_is : (m : ℕ) (xs : List CachedSnapshot) (c : CachedSnapshot) → nat_lt c.index m ≡ true → last_passed m (xs ++ c ∷ []) ≡ Some c.cut
last_is m [] c lt = ap (λ (b : Bool). if b then Some c.cut else None) lt
last_is m (x ∷ xs) c lt = on_true (any_passed m (xs ++ c ∷ [])) (last_passed m (xs ++ c ∷ [])) _ (any_last m xs c lt) ∙ last_is m xs c lt

cached_last : (m : ℕ) (xs : List CachedSnapshot) (c : CachedSnapshot) → nat_lt c.index m ≡ true → last_passed m (cached xs c) ≡ Some c.cut
cached_last m xs c lt = on_if (λ (cs : List CachedSnapshot). last_passed m cs ≡ Some c.cut) (nat_lt (length xs) most_cached) _ _ (last_is m xs c lt) (last_is m (drop 1 xs) c lt)

-- ---- the state between offers

done_steady : (per : ℕ) (b : Broker) (p : Plan) → Numbered b.entries b.ledgers → Steady b.ledgers (done per b p).entries (done per b p).ledgers
done_steady per b p numbered =
    let c = all_written per b p.writes in let d = done per b p in
    subst (λ (ls : List ℕ). Steady b.ledgers d.entries ls) (sym (all_changed_ledgers c p.changes))
    (subst (λ (es : List Entry). Steady b.ledgers es c.ledgers) (sym (all_changed_entries c p.changes)) (writes_steady per b p.writes numbered))

-- the own snapshot marker at index own_at; its local position is that of index local_at, below it
pub record IsOwnSnapshot (h : Site) (own_at local_at : ℕ) (local : Position) (listed : List ClusterPosition) (snap : Entry) : Type 0 where
  pub of : (snap.ident.origin == h.own) ≡ true
  pub id : List ℕ
  pub is : snap.content ≡ content.Marked (marker.Snapshot id local listed)
  pub low : local_at < own_at

-- an update of n with these places stands at or above index m
pub record IsTold (h : Site) (b : Broker) (m : ℕ) (n : List ℕ) (told : List ClusterPosition) : Type 0 where
  pub index : ℕ
  pub entry : Entry
  pub stands : slice_get b.entries index ≡ Some entry
  pub of : (entry.ident.origin == h.own) ≡ true
  pub is : entry.content ≡ content.Marked (marker.Update n told)
  pub to : entry.to ≡ targets.All
  pub behind : m ≤ index

abbrev pub places : Site → Position → List ClusterPosition → List ClusterPosition
places h local listed = named (cut_of h.own (length h.clusters) local listed)

-- of the broker, after j offers; it had m entries where they began
pub record Offering (h : Site) (m own_at local_at : ℕ) (local : Position) (snap : Entry) (b : Broker) : Type 0 where
  pub longer : m ≤ length b.entries
  pub within : own_at < m
  pub stands : slice_get b.entries own_at ≡ Some snap
  pub stored : index_of b.ledgers local ≡ Some local_at
  pub numbered : Numbered b.entries b.ledgers

-- of the subscription: it has acknowledged each message below the snapshot, and not the snapshot
pub record OfSub (own_at : ℕ) (n : List ℕ) (b : Broker) (j : ℕ) (v : Subscription) : Type 0 where
  pub name : v.name ≡ n
  pub replicated : v.replicated ≡ true
  pub drained : (i : ℕ) (e : Entry) → i < own_at → slice_get b.entries i ≡ Some e → is_data e.content ≡ true → has v.cursor i ≡ true
  pub clear : (i : ℕ) → i < j → i ≤ own_at → has v.cursor i ≡ true
  pub lacks : has v.cursor own_at ≡ false

-- what it remembers
pub record InMemory (b : Broker) (v : Subscription) : Type 0 where
  pub remembers : Remembers (length b.entries) v
  pub out : OutIn b.entries v
  pub ascends : Rising 0 v.cursor

out_message : (es : List Entry) (v : Subscription) (i : ℕ) (os : List Unacked) → Each (λ (o : Unacked). MessageAt es o.index) os
    → list_any (λ (o : Unacked). (o.index == i) && is_attached o.client v) os ≡ true → MessageAt es i
out_message es v i [] h is = absurd (false≢true is)
out_message es v i (o ∷ os) h is =
    elim (either ((o.index == i) && is_attached o.client v) _ is) [
      | inl here ↦ subst (MessageAt es) (eqb-true o.index i (left (o.index == i) (is_attached o.client v) here)) h.0
      | inr more ↦ out_message es v i os h.1 more
    ]

-- what the cursor lacks is due, up to the snapshot
due_lacks : (h : Site) (m own_at local_at : ℕ) (local : Position) (listed : List ClusterPosition) (snap : Entry) (n : List ℕ) (b : Broker) (j : ℕ) (v : Subscription) → IsOwnSnapshot h own_at local_at local listed snap
    → Offering h m own_at local_at local snap b → OfSub own_at n b j v → InMemory b v → (k : ℕ) → k ≤ own_at → has v.cursor k ≡ false → is_due v k ≡ true
due_lacks h m own_at local_at local listed snap n b j v q f s mem k le lacks =
    let within = f.within in let longer = f.longer in by (why_kept v k (mem.remembers.outside k (omega (arith, le, within, longer)) lacks))
  where
    due : (c d : Bool) → c ≡ false → d ≡ true → (not c && d) ≡ true
    due c d hc hd = grind (arith, hc, hd)

    no_message_at : MessageAt b.entries k → ⊥
    no_message_at e =
        elim (below_or k own_at) [
          | inl lt ↦ false≢true (sym lacks ∙ s.drained k e.0 lt e.1 e.2)
          | inr ge ↦
              let same : k ≡ own_at = omega (arith, le, ge) in
              let its : e.0 ≡ snap = same_Some e.0 snap (sym e.1 ∙ ap (slice_get b.entries) same ∙ f.stands) in
              false≢true (sym (ap (λ (z : Entry). is_data z.content) its ∙ ap is_data q.is) ∙ e.2)
        ]

    by : Kept v k → is_due v k ≡ true
    by (Kept.Out out) = absurd (no_message_at (out_message b.entries v k v.out mem.out out))
    by (Kept.Due d) = due (has v.cursor k) _ lacks (ap (λ (t : Bool). t || nat_le v.read_index k) d)
    by (Kept.Ahead a) = due (has v.cursor k) _ lacks (or_right (has v.due k) _ a)

-- after j offers that did not come to the snapshot
pub record StillBelow (h : Site) (m own_at local_at : ℕ) (local : Position) (snap : Entry) (n : List ℕ) (j : ℕ) (c : Broker) : Type 0 where
  pub offering : Offering h m own_at local_at local snap c
  pub sub : Subscription
  pub here : sub_named c.subs n ≡ Some sub
  pub state : OfSub own_at n c j sub

-- after j offers: or it was told
abbrev pub OffersDone : Site → ℕ → ℕ → ℕ → Position → Entry → List ℕ → List ClusterPosition → ℕ → Broker → Type 0
OffersDone h m own_at local_at local snap n told j c = StillBelow h m own_at local_at local snap n j c ⊎ IsTold h c m n told

abbrev pub offered : Site → Broker → Plan → Broker
offered h b p = if p.idle then b else done h.per_ledger b p

passed_state : (h : Site) (m own_at local_at i j : ℕ) (local : Position) (listed : List ClusterPosition) (snap : Entry) (n : List ℕ) (b : Broker) (v : Subscription) (o : Option Cut) (cs : List Change)
    → Offering h m own_at local_at local snap b → OfSub own_at n b j v → sub_named b.subs n ≡ Some v → Each NamesStay cs
    → ((k : ℕ) → k < j + 1 → k ≤ own_at → has (with_indexes v.cursor (i ∷ [])) k ≡ true) → (i ≡ own_at → o ≡ Some (cut_of h.own (length h.clusters) local listed))
    → OffersDone h m own_at local_at local snap n (places h local listed) (j + 1) (done h.per_ledger b (passing_plan h b v i o cs))
passed_state h m own_at local_at i j local listed snap n b v o cs f s here stay clear last = telling (i == own_at) refl
  where
    c : Broker
    c = done h.per_ledger b (passing_plan h b v i o cs)

    g : Stays b.entries c.entries b.ledgers c.ledgers
    g = done_stays h.per_ledger b (passing_plan h b v i o cs) f.numbered

    steady : Steady b.ledgers c.entries c.ledgers
    steady = done_steady h.per_ledger b (passing_plan h b v i o cs) f.numbered

    p : Passes h b n v i o c
    p = plan_passes h.per_ledger h b n v i o cs stay here s.replicated

    in_cursor : (k : ℕ) → has (with_indexes v.cursor (i ∷ [])) k ≡ true → has p.sub.cursor k ≡ true
    in_cursor k h = subst (λ (set : List ℕ). has set k ≡ true) (sym p.is.cursor) h

    drained : (k : ℕ) (e : Entry) → k < own_at → slice_get c.entries k ≡ Some e → is_data e.content ≡ true → has (with_indexes v.cursor (i ∷ [])) k ≡ true
    drained k e lt at message =
        elim (old_or_new b.entries (appended (appending_update h b v.name o)) k e (subst (λ (es : List Entry). slice_get es k ≡ Some e) p.entries at)) [
          | inl old ↦ has_still (i ∷ []) v.cursor k (s.drained k e lt old.1 message)
          | inr new ↦ absurd (no_message h b v.name o (k - length b.entries) e new.1 message)
        ]

    lacks_still : (i == own_at) ≡ false → has p.sub.cursor own_at ≡ false
    lacks_still other =
        subst (λ (set : List ℕ). has set own_at ≡ false) (sym p.is.cursor)
        (is_false (has (with_indexes v.cursor (i ∷ [])) own_at) (λ there. elim (has_either (i ∷ []) v.cursor own_at there) [
          | inl old ↦ false≢true (sym s.lacks ∙ old)
          | inr new ↦ false≢true (sym (ap (λ (t : Bool). t || false) other) ∙ new)
        ]))

    new_told : i ≡ own_at → IsTold h c m n (places h local listed)
    new_told same =
        let cut = cut_of h.own (length h.clusters) local listed in
        let e = update_marker h b v.name cut in
        let whole : c.entries ≡ b.entries ++ e ∷ [] = p.entries ∙ ap (λ (z : Option Cut). b.entries ++ appended (appending_update h b v.name z)) (last same) in
        record {
          index = length b.entries;
          entry = e;
          stands = subst (λ (es : List Entry). slice_get es (length b.entries) ≡ Some e) (sym whole) (get_last b.entries e);
          of = eq-eqb h.own h.own refl;
          is = ap (λ (z : List ℕ). content.Marked (marker.Update z (places h local listed))) s.name;
          to = refl;
          behind = f.longer;
        }

    telling : (t : Bool) → (i == own_at) ≡ t → OffersDone h m own_at local_at local snap n (places h local listed) (j + 1) c
    telling true e = inr (new_told (eqb-true i own_at e))
    telling false e = inl (record {
      offering = record {
        longer = let size = ap (λ (es : List Entry). length es) g.is ∙ length-append b.entries g.more in let le = f.longer in omega (arith, size, le);
        within = f.within;
        stands = grown_get b.entries c.entries b.ledgers c.ledgers g own_at snap f.stands;
        stored = g.index local local_at f.stored;
        numbered = steady.numbered;
      };
      sub = p.sub;
      here = p.here;
      state = record {
        name = found_name c.subs n p.sub p.here;
        replicated = p.is.replicated;
        drained = λ k e lt at message. in_cursor k (drained k e lt at message);
        clear = λ k lt small. in_cursor k (clear k lt small);
        lacks = lacks_still e;
      };
    })

-- ---- one offer

-- it is never idle before the snapshot
never_idle : (h : Site) (m own_at local_at j : ℕ) (local : Position) (listed : List ClusterPosition) (snap : Entry) (n : List ℕ) (b : Broker) (v : Subscription) → IsOwnSnapshot h own_at local_at local listed snap
    → Offering h m own_at local_at local snap b → OfSub own_at n b j v → InMemory b v → least_due v (length b.entries) ≡ None → ⊥
never_idle h m own_at local_at j local listed snap n b v q f s mem none =
    let within = f.within in let longer = f.longer in
    false≢true (sym (none_due v 0 (length b.entries) none own_at (omega arith) (omega (arith, within, longer))) ∙ due_lacks h m own_at local_at local listed snap n b j v q f s mem own_at (omega arith) s.lacks)

-- the snapshot that is offered enters the cache
snapshot_enters : (h : Site) (b : Broker) (v : Subscription) (own_at local_at : ℕ) (local : Position) (listed : List ClusterPosition) (snap : Entry) → IsOwnSnapshot h own_at local_at local listed snap → v.replicated ≡ true
    → index_of b.ledgers local ≡ Some local_at → own_snapshot h b v snap.ident.origin snap.content ≡ Some (record { index = local_at; cut = cut_of h.own (length h.clusters) local listed })
snapshot_enters h b v own_at local_at local listed snap q replicated stored =
    ap (own_snapshot h b v snap.ident.origin) q.is
    ∙ on_true ((snap.ident.origin == h.own) && v.replicated) _ None (both (snap.ident.origin == h.own) v.replicated q.of replicated)
    ∙ ap (λ (o : Option ℕ). option_map (λ j. record { index = j; cut = cut_of h.own (length h.clusters) local listed }) o) stored

-- the cut that is told: of the last snapshot in the cache that the mark-delete passes
abbrev cut_told : Subscription → ℕ → List CachedSnapshot → Option Cut
cut_told v i cache = if v.replicated then last_passed (mark (with_indexes v.cursor (i ∷ []))) cache else None

entry_state : (h : Site) (m own_at local_at i j : ℕ) (local : Position) (listed : List ClusterPosition) (snap e : Entry) (n : List ℕ) (b : Broker) (v : Subscription) → IsOwnSnapshot h own_at local_at local listed snap
    → Offering h m own_at local_at local snap b → OfSub own_at n b j v → InMemory b v → sub_named b.subs n ≡ Some v → least_due v (length b.entries) ≡ Some i
    → slice_get b.entries i ≡ Some e → OffersDone h m own_at local_at local snap n (places h local listed) (j + 1) (offered h b (offer_entry h b v i e))
entry_state h m own_at local_at i j local listed snap e n b v q f s mem here next at = by (is_data e.content) refl
  where
    least : IsLeast v 0 (length b.entries) i
    least = least_due_is v 0 (length b.entries) i next

    lacks : has v.cursor i ≡ false
    lacks = unless_false (has v.cursor i) _ least.due

    -- it is the snapshot, or below it
    up_to : i ≤ own_at
    up_to =
        elim (below_or own_at i) [
          | inl lt ↦ absurd (false≢true (sym (least.before own_at (omega arith) lt) ∙ due_lacks h m own_at local_at local listed snap n b j v q f s mem own_at (omega arith) s.lacks))
          | inr le ↦ le
        ]

    -- all below it is acknowledged
    low : (k : ℕ) → k < i → has v.cursor k ≡ true
    low k lt = go (has v.cursor k) refl
      where
        go : (t : Bool) → has v.cursor k ≡ t → t ≡ true
        go true is = refl
        go false is =
            let le = up_to in
            absurd (false≢true (sym (least.before k (omega arith) lt) ∙ due_lacks h m own_at local_at local listed snap n b j v q f s mem k (omega (arith, lt, le)) is))

    clear : (k : ℕ) → k < j + 1 → k ≤ own_at → has (with_indexes v.cursor (i ∷ [])) k ≡ true
    clear k lt small =
        elim (below_or k j) [
          | inl less ↦ has_still (i ∷ []) v.cursor k (s.clear k less small)
          | inr le ↦ elim (below_or k i) [
            | inl less ↦ has_still (i ∷ []) v.cursor k (low k less)
            | inr le' ↦ go (below_or i k) le'
          ]
        ]
      where
        go : (i < k) ⊎ (k ≤ i) → i ≤ k → has (with_indexes v.cursor (i ∷ [])) k ≡ true
        go (inl less) le' = absurd (false≢true (sym lacks ∙ s.clear i (omega (arith, less, lt)) (omega (arith, less, small))))
        go (inr le) le' =
            let same : i ≡ k = omega (arith, le, le') in
            subst (λ (z : ℕ). has (with_indexes v.cursor (i ∷ [])) z ≡ true) same (has_new (i ∷ []) v.cursor i (ap (λ (t : Bool). t || false) (eq-eqb i i refl)))

    -- the mark-delete passes the snapshot
    passes : i ≡ own_at → nat_lt local_at (mark (with_indexes v.cursor (i ∷ []))) ≡ true
    passes same =
        let high = mark_high (with_indexes v.cursor (i ∷ [])) 0 (i + 1) (rising_with_indexes v.cursor (i ∷ []) mem.ascends)
        (λ k _ lt. elim (below_or k i) [
          | inl less ↦ has_still (i ∷ []) v.cursor k (low k less)
          | inr le ↦
              let is : i ≡ k = omega (arith, lt, le) in
              subst (λ (z : ℕ). has (with_indexes v.cursor (i ∷ [])) z ≡ true) is (has_new (i ∷ []) v.cursor i (ap (λ (t : Bool). t || false) (eq-eqb i i refl)))
        ]) in
        let below = q.low in lt-ltb local_at (mark (with_indexes v.cursor (i ∷ []))) (omega (arith, high, below, same))

    its : i ≡ own_at → e ≡ snap
    its same = same_Some e snap (sym at ∙ ap (slice_get b.entries) same ∙ f.stands)

    told : (c : CachedSnapshot) → own_snapshot h b v e.ident.origin e.content ≡ Some c → i ≡ own_at
        → cut_told v i (cached v.cache c) ≡ Some (cut_of h.own (length h.clusters) local listed)
    told c is same =
        let here_is = snapshot_enters h b v own_at local_at local listed snap q s.replicated f.stored in
        let it : record { index = local_at; cut = cut_of h.own (length h.clusters) local listed } ≡ c =
        same_Some _ c (sym here_is ∙ ap (λ (z : Entry). own_snapshot h b v z.ident.origin z.content) (sym (its same)) ∙ is) in
        on_true v.replicated _ None s.replicated
        ∙ cached_last (mark (with_indexes v.cursor (i ∷ []))) v.cache c (subst (λ (z : CachedSnapshot). nat_lt z.index (mark (with_indexes v.cursor (i ∷ []))) ≡ true) it (passes same))
        ∙ ap (λ (z : CachedSnapshot). Some z.cut) (sym it)

    never : own_snapshot h b v e.ident.origin e.content ≡ None → i ≡ own_at → ⊥
    never is same =
        none-some _ (sym is ∙ ap (λ (z : Entry). own_snapshot h b v z.ident.origin z.content) (its same) ∙ snapshot_enters h b v own_at local_at local listed snap q s.replicated f.stored)

    over : (o : Option CachedSnapshot) → own_snapshot h b v e.ident.origin e.content ≡ o → OffersDone h m own_at local_at local snap n (places h local listed) (j + 1) (offered h b (skips_marker h b v i o))
    over None is =
        passed_state h m own_at local_at i j local listed snap n b v (cut_told v i v.cache) (change.Skipped v.name i ∷ change.Acked v.name ∷ []) f s here (tt, (tt, tt)) clear (λ same. absurd (never is same))
    over (Some c) is =
        passed_state h m own_at local_at i j local listed snap n b v (cut_told v i (cached v.cache c)) (change.Cache v.name c ∷ change.Skipped v.name i ∷ change.Acked v.name ∷ []) f s here (tt, (tt, (tt, tt))) clear
        (λ same. told c is same)

    by : (t : Bool) → is_data e.content ≡ t
        → OffersDone h m own_at local_at local snap n (places h local listed) (j + 1)
        (offered h b (if t then unless_found idle_plan (pick v.kind v.consumers (key_bytes e.meta.key)) (λ at. plan_of [] (change.Given v.name i at ∷ []) (message h b i e (consumer_at v.consumers at)))
        else skips_marker h b v i (own_snapshot h b v e.ident.origin e.content)))
    by true message =
        elim (below_or i own_at) [
          | inl lt ↦ absurd (false≢true (sym lacks ∙ s.drained i e lt at message))
          | inr ge ↦
              let le = up_to in let same : i ≡ own_at = omega (arith, le, ge) in
              absurd (false≢true (sym (ap (λ (z : Entry). is_data z.content) (its same) ∙ ap is_data q.is) ∙ message))
        ]
    by false marker = over (own_snapshot h b v e.ident.origin e.content) refl

pub offer_state : (h : Site) (m own_at local_at j : ℕ) (local : Position) (listed : List ClusterPosition) (snap : Entry) (n : List ℕ) (b : Broker) (v : Subscription) → IsOwnSnapshot h own_at local_at local listed snap
    → Offering h m own_at local_at local snap b → OfSub own_at n b j v → InMemory b v → sub_named b.subs n ≡ Some v
    → OffersDone h m own_at local_at local snap n (places h local listed) (j + 1) (offered h b (offer h b n))
unfolding offer
offer_state h m own_at local_at j local listed snap n b v q f s mem here =
    on_found P idle_plan (sub_named b.subs n) _ (λ none. absurd (none-some v (sym none ∙ here)))
    (λ u named_u.
    let same : v ≡ u = same_Some v u (sym here ∙ named_u) in
    let s' = subst (OfSub own_at n b j) same s in let mem' = subst (InMemory b) same mem in
    on_found P idle_plan (least_due u (length b.entries)) _ (λ none. absurd (never_idle h m own_at local_at j local listed snap n b u q f s' mem' none))
    (λ i next. on_found P idle_plan (slice_get b.entries i) _ (λ none. absurd (there u i next none))
    (λ e at. entry_state h m own_at local_at i j local listed snap e n b u q f s' mem' named_u next at)))
  where
    P : Plan → Type 0
    P p = OffersDone h m own_at local_at local snap n (places h local listed) (j + 1) (offered h b p)

    got : (es : List Entry) (i : ℕ) → i < length es → slice_get es i ≡ None → ⊥
    got [] i lt e = omega (arith, lt)
    got (x ∷ es) zero lt e = none-some x (sym e)
    got (x ∷ es) (suc i) lt e = got es i (omega (arith, lt)) e

    there : (u : Subscription) (i : ℕ) → least_due u (length b.entries) ≡ Some i → slice_get b.entries i ≡ None → ⊥
    there u i least none = let k = least_due_is u 0 (length b.entries) i least in let high = k.high in got b.entries i (omega (arith, high)) none
