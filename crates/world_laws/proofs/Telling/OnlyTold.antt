-- Only what is told is acknowledged, of the subscriptions of one topic: kept by all writes that gain nothing else, and by every
-- change in memory.
use Rattle.std.proofs.Common.{◌≡◌, ℕ, zero, suc, ◌+◌, ◌<◌, Bool, true, false, List, [], ◌∷◌, ◌++◌, length, map, refl, sym, subst, ◌==◌, arith, inl, inr, not}
use Rattle.std.specs.Prelude.{if◌then◌else◌, is_some, take}
use Rattle.std.specs.List.{range_with_len}
use Rattle.std.specs.Str.{bytes_eq}
use Rattle.std.proofs.lemmas.Bool.{eqb-true, false≢true}
use Rattle.std.proofs.lemmas.Slice.Eq.{bytes_eq-Decides}
use Rattle.world_laws.proofs.Types.{Change, Entry, SubKind, Write}
use Rattle.world_laws.proofs.Types.change
use Rattle.world_laws.proofs.Types.write
use Rattle.geo_base.specs.Broker.{Broker, changed, sub_named, written}
use Rattle.geo_base.specs.Cache.{cached}
use Rattle.geo_base.specs.Cursor.{below, has}
use Rattle.geo_base.specs.Dispatcher.{given, skipped_index}
use Rattle.geo_base.specs.Entry.{same_ident}
use Rattle.geo_base.specs.Plan.{all_changed, all_written}
use Rattle.geo_base.specs.Settled.{SettledSoFar}
use Rattle.geo_base.specs.Subscription.{Subscription, after_acks, attached, cleared, detached, new_subscription, permitted, sought, with_acks}
use Rattle.world_laws.proofs.Replicating.Cursors.{either}
use Rattle.world_laws.proofs.Replicating.Effects.{each_both, each_map}
use Rattle.world_laws.proofs.OnceInOrder.Members.{get_left}
use Rattle.world_laws.proofs.Merges.PeerWalk.{each_filter}
use Rattle.world_laws.proofs.Dispatching.Remembers.{any_left, any_right, has_either}
use Rattle.world_laws.proofs.Dispatching.SubFrames.{AllSubs, at_name, each_to}
use Rattle.world_laws.proofs.Telling.Told.{Includes, IsTold, OnlyTold, Tells, TellsWrite, told_too}
use Rattle.world_laws.proofs.Walks.Walk.{on_if, on_test}

-- WHAT IS TOLD STAYS SO

pub told_grows : (told : SettledSoFar) (t : ℕ) (n : List ℕ) (es more : List Entry) (i : ℕ) → IsTold told t n es i → IsTold told t n (es ++ more) i
told_grows told t n es more i h = (h.0, get_left es more i h.0 h.1, h.2)

pub told_more : (told more : SettledSoFar) → Includes told more → (t : ℕ) (n : List ℕ) (es : List Entry) (i : ℕ) → IsTold told t n es i → IsTold more t n es i
told_more told more all t n es i h = (h.0, h.1, λ message. all t n h.0 (h.2 message))

pub first_included : (told more : SettledSoFar) → Includes told (told_too told more)
first_included told more t n e h = any_left (same_ident e.ident) (told t n) (more t n) h

pub second_included : (told more : SettledSoFar) → Includes more (told_too told more)
second_included told more t n e h = any_right (same_ident e.ident) (told t n) (more t n) h

pub includes_only : (told more : SettledSoFar) → Includes told more → (t : ℕ) (es : List Entry) (v : Subscription) → OnlyTold told t es v → OnlyTold more t es v
includes_only told more all t es v h i inside = told_more told more all t v.name es i (h i inside)

-- so what writes gain is told, too
pub tells_more : (told more : SettledSoFar) → Includes told more → (t per : ℕ) (b : Broker) (ws : List Write) → Tells told t per b ws → Tells more t per b ws
tells_more told more all t per b [] h = tt
tells_more told more all t per b (w ∷ ws) h = (one w h.0, tells_more told more all t per (written per b w) ws h.1)
  where
    one : (w : Write) → TellsWrite told t b w → TellsWrite more t b w
    one (write.Acks n is) h = λ i inside. told_more told more all t n b.entries i (h i inside)
    one (write.Seek n i) h = λ j lt. told_more told more all t n b.entries j (h j lt)
    one (write.Create n kind replicated latest) h = λ i late lt. told_more told more all t n b.entries i (h i late lt)
    one w h = tt

-- and what a beginning of them gains
pub tells_take : (told : SettledSoFar) (t per k : ℕ) (b : Broker) (ws : List Write) → Tells told t per b ws → Tells told t per b (take k ws)
tells_take told t per zero b ws h = tt
tells_take told t per (suc k) b [] h = tt
tells_take told t per (suc k) b (w ∷ ws) h = (h.0, tells_take told t per k (written per b w) ws h.1)

pub tells_both : (told : SettledSoFar) (t per : ℕ) (b : Broker) (ws vs : List Write) → Tells told t per b ws → Tells told t per (all_written per b ws) vs → Tells told t per b (ws ++ vs)
tells_both told t per b [] vs h k = k
tells_both told t per b (w ∷ ws) vs h k = (h.0, tells_both told t per (written per b w) ws vs h.1 k)

-- ONE SUBSCRIPTION

pub same_name : (told : SettledSoFar) (t : ℕ) (es : List Entry) (m n : List ℕ) (i : ℕ) → bytes_eq m n ≡ true → IsTold told t n es i → IsTold told t m es i
same_name told t es m n i same h = subst (λ (l : List ℕ). IsTold told t l es i) (sym ((bytes_eq-Decides m n).0 same)) h

pub acks_told : (told : SettledSoFar) (t : ℕ) (es : List Entry) (v : Subscription) (is : List ℕ) → OnlyTold told t es v → ((i : ℕ) → has is i ≡ true → IsTold told t v.name es i)
    → OnlyTold told t es (with_acks is v)
acks_told told t es v is old new i inside = elim (has_either is v.cursor i inside) [ inl h ↦ old i h | inr h ↦ new i h ]

-- all indexes below one
from_below : (a n i : ℕ) → has (range_with_len a n) i ≡ true → i < a + n
from_below a zero i h = absurd (false≢true h)
from_below a (suc n) i h =
    elim (either (a == i) (has (range_with_len (a + 1) n) i) h) [
      | inl e ↦ let same = eqb-true a i e in omega (arith, same)
      | inr r ↦ let lt = from_below (a + 1) n i r in omega (arith, lt)
    ]

pub has_below : (n i : ℕ) → has (below n) i ≡ true → i < n
has_below n i h = let lt = from_below 0 n i h in omega (arith, lt)

pub sought_told : (told : SettledSoFar) (t : ℕ) (es : List Entry) (v : Subscription) (i : ℕ) → ((j : ℕ) → j < i → IsTold told t v.name es j) → OnlyTold told t es (sought i v)
sought_told told t es v i new j inside = new j (has_below i j inside)

-- ALL OF A TOPIC

abbrev OnlyIn : SettledSoFar → ℕ → Broker → Type 0
OnlyIn told t b = AllSubs (OnlyTold told t b.entries) b

-- what is done to those of a name
named_only : (told : SettledSoFar) (t : ℕ) (es : List Entry) (n : List ℕ) (f : Subscription → Subscription)
    → ((v : Subscription) → bytes_eq v.name n ≡ true → OnlyTold told t es v → OnlyTold told t es (f v))
    → (v : Subscription) → OnlyTold told t es v → OnlyTold told t es (at_name n f v)
named_only told t es n f k v h = on_test (OnlyTold told t es) (bytes_eq v.name n) (f v) v (λ same. k v same h) (λ _. h)

new_told : (told : SettledSoFar) (t : ℕ) (es : List Entry) (n : List ℕ) (kind : SubKind) (replicated latest : Bool)
    → ((i : ℕ) → latest ≡ true → i < length es → IsTold told t n es i)
    → OnlyTold told t es (new_subscription n kind replicated (if latest then below (length es) else []))
new_told told t es n kind replicated true h i inside = h i refl (has_below (length es) i inside)
new_told told t es n kind replicated false h i inside = absurd (false≢true inside)

one_write : (told : SettledSoFar) (t per : ℕ) (b : Broker) (w : Write) → TellsWrite told t b w → OnlyIn told t b → OnlyIn told t (written per b w)
one_write told t per b (write.Append e) new h =
    each_map (OnlyTold told t b.entries) (OnlyTold told t (b.entries ++ e ∷ [])) (λ v k i inside. told_grows told t v.name b.entries (e ∷ []) i (k i inside)) b.subs h
one_write told t per b (write.Create n kind replicated latest) new h =
    on_if (OnlyIn told t) (is_some (sub_named b.subs n)) b _ h
    (each_both (OnlyTold told t b.entries) b.subs (new_subscription n kind replicated (if latest then below (length b.entries) else []) ∷ []) h
    (new_told told t b.entries n kind replicated latest new, tt))
one_write told t per b (write.Alter n kind replicated) new h =
    each_to (OnlyTold told t b.entries) (OnlyTold told t b.entries) (at_name n (λ s. record s { kind = kind; replicated = replicated }))
    (named_only told t b.entries n (λ s. record s { kind = kind; replicated = replicated }) (λ v same k. k)) b.subs h
one_write told t per b (write.Delete n) new h = each_filter (OnlyTold told t b.entries) (λ (s : Subscription). not (bytes_eq s.name n)) b.subs h
one_write told t per b (write.Acks n is) new h =
    each_to (OnlyTold told t b.entries) (OnlyTold told t b.entries) (at_name n (with_acks is))
    (named_only told t b.entries n (with_acks is) (λ v same k. acks_told told t b.entries v is k (λ i inside. same_name told t b.entries v.name n i same (new i inside)))) b.subs h
one_write told t per b (write.Seek n j) new h =
    each_to (OnlyTold told t b.entries) (OnlyTold told t b.entries) (at_name n (sought j))
    (named_only told t b.entries n (sought j) (λ v same k. sought_told told t b.entries v j (λ i lt. same_name told t b.entries v.name n i same (new i lt)))) b.subs h
one_write told t per b (write.ReplicatorAck y i) new h = h
one_write told t per b (write.SessionNumber y n) new h = h
one_write told t per b write.Ledger new h = h

pub only_written : (told : SettledSoFar) (t per : ℕ) (b : Broker) (ws : List Write) → Tells told t per b ws → AllSubs (OnlyTold told t b.entries) b
    → AllSubs (OnlyTold told t (all_written per b ws).entries) (all_written per b ws)
only_written told t per b [] new h = h
only_written told t per b (w ∷ ws) new h = only_written told t per (written per b w) ws new.1 (one_write told t per b w new.0 h)

-- no change touches a cursor
one_change : (told : SettledSoFar) (t : ℕ) (b : Broker) (c : Change) → OnlyIn told t b → OnlyIn told t (changed b c)
one_change told t b c h = by c
  where
    O : Subscription → Type 0
    O = OnlyTold told t b.entries

    named : (n : List ℕ) (f : Subscription → Subscription) → ((v : Subscription) → O v → O (f v)) → OnlyIn told t (record b { subs = map (at_name n f) b.subs })
    named n f k = each_to O O (at_name n f) (named_only told t b.entries n f (λ v same p. k v p)) b.subs h

    by : (c : Change) → OnlyIn told t (changed b c)
    by (change.Attach n k) = named n (attached k) (λ v p. p)
    by (change.Detach c) = each_to O O (detached c) (λ v p. p) b.subs h
    by (change.Permit n c permits) = named n (permitted c permits) (λ v p. p)
    by (change.Skipped n i) = named n (skipped_index i) (λ v p. p)
    by (change.Given n i at) = named n (given i at) (λ v p. p)
    by (change.Cache n c) = named n (λ s. record s { cache = cached s.cache c }) (λ v p. p)
    by (change.Acked n) = named n after_acks (λ v p. p)
    by (change.Cleared n) = named n cleared (λ v p. p)
    by change.Forget = each_to O O cleared (λ v p. p) b.subs h
    by (change.Receiver x r) = h
    by c = h

pub only_changed : (told : SettledSoFar) (t : ℕ) (b : Broker) (cs : List Change) → AllSubs (OnlyTold told t b.entries) b
    → AllSubs (OnlyTold told t (all_changed b cs).entries) (all_changed b cs)
only_changed told t b [] h = h
only_changed told t b (c ∷ cs) h = only_changed told t (changed b c) cs (one_change told t b c h)
