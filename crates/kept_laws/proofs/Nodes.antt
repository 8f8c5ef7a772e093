-- The durable part of a broker fits a file.
use Rattle.std.proofs.Common.{◌≡◌, ℕ, zero, suc, ◌+◌, ◌^◌, ◌<◌, ◌≤◌, ◌==◌, Bool, true, false, List, [], ◌∷◌, ◌++◌, length, map, refl, sym, ap, subst, ◌∙◌, arith, inl, inr}
use Rattle.std.specs.Prelude.{Some, None, if◌then◌else◌, slice_index_or}
use Rattle.std.specs.List.{AllByRecursion}
use Rattle.std.specs.Str.{bytes_eq}
use Rattle.std.proofs.lemmas.Bool.{eqb-false, eqb-true, eq-eqb}
use Rattle.std.proofs.lemmas.List.{length-map, length_push}
use Rattle.std.proofs.lemmas.Option.{none-some}
use Rattle.geo_base.specs.declared.entry.Entry.{Entry}
use Rattle.geo_base.specs.Broker.{Broker, sub_named}
use Rattle.geo_base.specs.Entry.{is_own_marker}
use Rattle.geo_base.specs.Replicator.{Replicator, new_replicator, replicator_restarted}
use Rattle.geo_base.specs.Subscription.{Subscription, cleared}
use Rattle.geo_base.specs.Topic.{accepts, next_marker}
use Rattle.durable_parts.specs.Durable.{durable_part}
use Rattle.cursor_acks.proofs.Sets.{Rising}
use Rattle.state_items.specs.Fitting.{AllFit}
use Rattle.state_nodes.specs.Entries.{is_in_turn}
use Rattle.state_nodes.specs.Fitting.{IsDurable, IsNextEntry, IsPlace, IsReplicator, IsSub}
use Rattle.world_laws.specs.Indexes.{AreBelow, HasIndexes}
use Rattle.world_laws.specs.Starts.{AreStored, IsNextStored, IsStartBroker, IsStartSub, most_at_start}
use Rattle.world_laws.proofs.Replicating.Effects.{Each}
use Rattle.world_laws.proofs.Dispatching.SubFrames.{NamesApart}
use Rattle.world_laws.proofs.Walks.Walk.{both, by_test}
use Rattle.kept_laws.proofs.CursorRanges.{cursor_is}
use Rattle.kept_laws.proofs.Cursors.{ReplicatorAscends, SubAscends}
use Rattle.kept_laws.proofs.Entries.{IsWritten}
use Rattle.kept_laws.proofs.FewSubs.{HasFew}
use Rattle.kept_laws.proofs.Lists.{at_place, each_recursion, fits_each, sum_total}
use Rattle.kept_laws.proofs.OwnReplicator.{IsUnused}
use Rattle.kept_laws.proofs.Tidy.{IsTidy}

-- ---- entries

in_turn : (own : ℕ) (before : List Entry) (e : Entry) → (is_own_marker own e ≡ true → e.ident.seq ≡ next_marker own before) → is_in_turn own before e.ident ≡ true
in_turn own before e marker = by (is_own_marker own e) marker
  where
    by : (t : Bool) → (t ≡ true → e.ident.seq ≡ next_marker own before) → (if t then e.ident.seq == next_marker own before else true) ≡ true
    by true k = eq-eqb e.ident.seq (next_marker own before) (k refl)
    by false k = refl

next_entry : (names : List (List ℕ)) (n own : ℕ) (before : List Entry) (e : Entry) → IsNextStored n own before e → IsWritten names own e → IsNextEntry names own before e
next_entry names n own before e h w = record {
  texts = w.texts;
  told = w.told;
  metadata = w.metadata;
  payload = w.payload;
  next = both (accepts before e.ident) (is_in_turn own before e.ident) h.new (in_turn own before e h.marker);
  small = w.small;
}

entries_fit : (names : List (List ℕ)) (n own : ℕ) (before es : List Entry) → AreStored n own before es → Each (IsWritten names own) es → AllFit (IsNextEntry names own) before es
entries_fit names n own before [] h w = tt
entries_fit names n own before (e ∷ es) h w = (next_entry names n own before e h.0 w.0, entries_fit names n own (before ++ e ∷ []) es h.1 w.1)

-- ---- subscriptions

-- what is known of one
record IsReady (n : ℕ) (v : Subscription) : Type 0 where
  start : IsStartSub v
  up : SubAscends v
  below : AreBelow n v.cursor

ready_subs : (n : ℕ) (vs : List Subscription) → AllByRecursion IsStartSub vs → Each SubAscends vs → AllByRecursion (λ (v : Subscription). AreBelow n v.cursor) vs → Each (IsReady n) vs
ready_subs n [] h up below = tt
ready_subs n (v ∷ vs) h up below = (record { start = h.0; up = up.0; below = below.0 }, ready_subs n vs h.1 up.1 below.1)

named_push : (before : List Subscription) (v : Subscription) (name : List ℕ) → sub_named before name ≡ None → bytes_eq v.name name ≡ false → sub_named (before ++ v ∷ []) name ≡ None
named_push [] v name none other = rw other refl
named_push (u ∷ us) v name none other = by (bytes_eq u.name name) none (λ e. named_push us v name e other)
  where
    by : (t : Bool) → (if t then Some u else sub_named us name) ≡ None → (sub_named us name ≡ None → sub_named (us ++ v ∷ []) name ≡ None) → (if t then Some u else sub_named (us ++ v ∷ []) name) ≡ None
    by true e k = absurd (none-some u (sym e))
    by false e k = k e

abbrev NotIn : List Subscription → Subscription → Type 0
NotIn before u = sub_named before u.name ≡ None

still_not_in : (before : List Subscription) (v : Subscription) (us : List Subscription) → Each (NotIn before) us → Each (λ (u : Subscription). bytes_eq v.name u.name ≡ false) us → Each (NotIn (before ++ v ∷ [])) us
still_not_in before v [] h k = tt
still_not_in before v (u ∷ us) h k = (named_push before v u.name h.0 k.0, still_not_in before v us h.1 k.1)

sub_fits : (n : ℕ) (before : List Subscription) (v : Subscription) → IsReady n v → NotIn before v → IsSub n before (cleared v)
sub_fits n before v h new = record {
  name = h.start.name;
  new = new;
  acked = cursor_is n v.cursor h.up h.below;
  seeks = h.start.seeks;
  at_rest = refl;
}

subs_fit : (n : ℕ) (before vs : List Subscription) → Each (IsReady n) vs → Each (NotIn before) vs → NamesApart vs → AllFit (IsSub n) before (map cleared vs)
subs_fit n before [] h new apart = tt
subs_fit n before (v ∷ vs) h new apart =
    (sub_fits n before v h.0 new.0, subs_fit n (before ++ cleared v ∷ []) vs h.1 (still_not_in before (cleared v) vs new.1 apart.0) apart.1)

none_before : (vs : List Subscription) → Each (NotIn []) vs
none_before [] = tt
none_before (v ∷ vs) = (refl, none_before vs)

-- ---- replicators

-- what is known of the one to cluster y
record IsKnownReplicator (n own y : ℕ) (v : Replicator) : Type 0 where
  unused : y ≡ own → v ≡ new_replicator
  session : v.session ≤ most_at_start
  up : Rising 0 v.cursor
  below : AreBelow n v.cursor

replicator_fits : (n : ℕ) (v : Replicator) → v.session ≤ most_at_start → Rising 0 v.cursor → AreBelow n v.cursor → IsReplicator n (replicator_restarted v)
replicator_fits n v session up below = record { session = session; acked = cursor_is n v.cursor up below; restarted = refl }

place_fits : (n own y : ℕ) (before : List Replicator) (v : Replicator) → length before ≡ y → IsKnownReplicator n own y v → IsPlace n own before (replicator_restarted v)
place_fits n own y before v at h =
    by_test (y == own)
    (λ is. let same = eqb-true y own is in inl (at ∙ same, ap replicator_restarted (h.unused same)))
    (λ is. inr ((λ e. eqb-false y own is (sym at ∙ e)), replicator_fits n v h.session h.up h.below))

replicators_fit : (n own y : ℕ) (before vs : List Replicator) → length before ≡ y → ((i : ℕ) → i < length vs → IsKnownReplicator n own (y + i) (slice_index_or vs i new_replicator)) → AllFit (IsPlace n own) before (map replicator_restarted vs)
replicators_fit n own y before [] at h = tt
replicators_fit n own y before (v ∷ vs) at h =
    let here : y + 0 ≡ y = omega arith in (
      place_fits n own y before v at (subst (λ (k : ℕ). IsKnownReplicator n own k v) here (h zero (omega arith))),
      replicators_fit n own (y + 1) (before ++ replicator_restarted v ∷ []) vs (let l = length_push before (replicator_restarted v) in omega (arith, l, at))
          (λ i lt. let next : y + suc i ≡ y + 1 + i = omega arith in subst (λ (k : ℕ). IsKnownReplicator n own k (slice_index_or vs i new_replicator)) next (h (suc i) (omega (arith, lt)))),
    )

known_replicator : (n own clusters : ℕ) (b : Broker) → length b.entries ≡ n → IsStartBroker clusters own b → Each ReplicatorAscends b.replicators → HasIndexes b → IsUnused own b
    → (i : ℕ) → i < length b.replicators → IsKnownReplicator n own (0 + i) (slice_index_or b.replicators i new_replicator)
known_replicator n own clusters b size start up indexes unused i lt = record {
  unused = λ is. subst (λ (k : ℕ). slice_index_or b.replicators k new_replicator ≡ new_replicator) (sym is ∙ zero_plus i) unused;
  session = at_place (λ (v : Replicator). v.session ≤ most_at_start) b.replicators i new_replicator (each_recursion (λ (v : Replicator). v.session ≤ most_at_start) b.replicators start.replicators) lt;
  up = at_place ReplicatorAscends b.replicators i new_replicator up lt;
  below = subst (λ (m : ℕ). AreBelow m (slice_index_or b.replicators i new_replicator).cursor) size (indexes.replicators i).acked;
}
  where
    zero_plus : (i : ℕ) → 0 + i ≡ i
    zero_plus i = omega arith

-- ---- all of it

-- what is known of the broker of cluster own
pub record IsKeptBroker (per : ℕ) (names : List (List ℕ)) (own : ℕ) (b : Broker) : Type 0 where
  pub start : IsStartBroker (length names) own b
  pub tidy : IsTidy per b
  pub ledgers : length b.ledgers < 2 ^ 64
  pub few : HasFew b
  pub unused : IsUnused own b
  pub indexes : HasIndexes b
  pub replicators : length b.replicators ≡ length names
  pub entries : Each (IsWritten names own) b.entries

pub durable_fits : (per : ℕ) (names : List (List ℕ)) (own : ℕ) (b : Broker) → per < 2 ^ 64 → IsKeptBroker per names own b → IsDurable per names own (durable_part b)
durable_fits per names own b small h =
    let n = length b.entries in
    record {
      per_ledger = small;
      few = let f = h.start.few in omega (arith, f);
      opened = h.tidy.ledgers.some;
      ledgers_few = h.ledgers;
      ledgers = fits_each (λ (l : ℕ). l ≤ per) (λ before l. l ≤ per) (λ before l le. le) [] b.ledgers h.tidy.ledgers.each;
      together = sum_total b.ledgers ∙ h.tidy.ledgers.whole;
      entries = entries_fit names (length names) own [] b.entries h.start.entries h.entries;
      subs = record {
        few = let l = length-map b.subs cleared in let f = h.few in omega (arith, l, f);
        each = subs_fit n [] b.subs (ready_subs n b.subs h.start.subs h.tidy.cursors.subs h.indexes.subs) (none_before b.subs) h.tidy.names;
      };
      all_replicators = length-map b.replicators replicator_restarted ∙ h.replicators;
      replicators = replicators_fit n own 0 [] b.replicators refl (known_replicator n own (length names) b refl h.start h.tidy.cursors.replicators h.indexes h.unused);
      durable = refl;
    }
