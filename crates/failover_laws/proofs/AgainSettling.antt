-- Where settling reads an update, its remaining events and rounds follow: the round in which it does is one that settling comes to, since
-- after a round that did no event nothing is left to read.
use Rattle.std.proofs.Common.{◌≡◌, ℕ, zero, suc, ◌+◌, ◌<◌, Bool, true, false, List, [], ◌∷◌, ◌++◌, refl, sym, ap, subst, ◌∙◌, ◌==◌, arith, inl, inr, ◌⊎◌}
use Rattle.std.specs.Prelude.{Option, Some, None, ◌||◌, is_some, slice_get, take}
use Rattle.std.proofs.lemmas.Bool.{eqb-true}
use Rattle.std.proofs.lemmas.Option.{none-some, same_Some}
use Rattle.world_laws.proofs.Types.{Event}
use Rattle.world_laws.proofs.Types.event
use Rattle.geo_base.specs.Client.{Acted}
use Rattle.geo_base.specs.Happening.{broker_does, client_does, does_planned, happens}
use Rattle.geo_base.specs.Planned.{Planned, has_client, planned}
use Rattle.geo_base.specs.Run.{Ran, all_settle, counting_round, no_limits, pairs, round_of, rounds_of, settles}
use Rattle.geo_base.specs.Setup.{Setup}
use Rattle.geo_base.specs.World.{LinkName, World}
use Rattle.world_laws.proofs.Replicating.Effects.{Each}
use Rattle.world_laws.proofs.Budget.Rounds.{after, at, goes_on_for_ever}
use Rattle.world_laws.proofs.Walks.Walk.{on_elim, on_if}
use Rattle.failover_laws.specs.Since.{AfterRound, Idling, Since, Starting}
use Rattle.failover_laws.proofs.Running.{Leaves, events_follow, round_leaves, rounds_follow}

-- ---- an event of settling counts, or changes nothing

abbrev pub Counts : World → World → Type 0
Counts w v = (v ≡ w) ⊎ (w.events < v.events)

-- w' being the world after an event
abbrev pub CountsIn : World → World → Type 0
CountsIn w w' = Counts w (record w' { idle = w.idle })

does_counts : (s : Setup) (w : World) (o : Option Planned) → CountsIn w (does_planned s w o)
unfolding broker_does
does_counts s w None = inl refl
does_counts s w (Some p) = on_if (CountsIn w) p.plan.idle _ _ (inl refl) (inr (omega arith))

client_counts : (s : Setup) (w : World) (c : ℕ) (l : Option LinkName) (a : Acted) → CountsIn w (client_does s w c l a)
unfolding client_does
client_counts s w c l a = on_if (CountsIn w) a.idle _ _ (inl refl) (inr (omega arith))

pub event_counts : (s : Setup) (w : World) (e : Event) → Counts w (after s w e)
unfolding happens
event_counts s w (event.Go c) = on_if (CountsIn w) (has_client s c) _ _ (client_counts s w c None _) (inl refl)
event_counts s w (event.Reconnect c) = on_if (CountsIn w) (has_client s c) _ _ (client_counts s w c None _) (inl refl)
event_counts s w (event.Get c) = on_if (CountsIn w) (has_client s c) _ _ (client_counts s w c _ _) (inl refl)
event_counts s w e = does_counts s w (planned s w e)

counts_then : (u v w : World) → Counts u v → Counts v w → Counts u w
counts_then u v w (inl same) (inl same') = inl (same' ∙ same)
counts_then u v w (inl same) (inr less) = inr (subst (λ (z : World). z.events < w.events) same less)
counts_then u v w (inr less) (inl same) = inr (subst (λ (z : World). u.events < z.events) (sym same) less)
counts_then u v w (inr less) (inr less') = inr (omega (arith, less, less'))

events_count : (s : Setup) (w : World) (es : List Event) → Counts w (all_settle no_limits s (at w) es).world
events_count s w [] = inl refl
events_count s w (e ∷ es) = counts_then w (after s w e) (all_settle no_limits s (at (after s w e)) es).world (event_counts s w e) (events_count s (after s w e) es)

pub not_fewer : (v w : World) → Counts v w → (v.events < w.events) ⊎ (v.events ≡ w.events)
not_fewer v w (inl same) = inr (ap (λ (z : World). z.events) (sym same))
not_fewer v w (inr less) = inl less

-- ---- an event in the midst of a round

-- a list about one of its items
cut_at : {X : Type 0} (xs : List X) (i : ℕ) (x : X) → slice_get xs i ≡ Some x → (rest : List X) × (xs ≡ take i xs ++ x ∷ rest)
cut_at [] i x is = absurd (none-some x is)
cut_at (y ∷ xs) zero x is = (xs, ap (λ z. z ∷ xs) (same_Some y x is))
cut_at (y ∷ xs) (suc i) x is = let r = cut_at xs i x is in (r.0, ap (λ l. y ∷ l) r.1)

settle_parts : (s : Setup) (r : Ran) (xs ys : List Event) → all_settle no_limits s r (xs ++ ys) ≡ all_settle no_limits s (all_settle no_limits s r xs) ys
settle_parts s r [] ys = refl
settle_parts s r (x ∷ xs) ys = settle_parts s (settles no_limits s r x) xs ys

-- the world when a round has done its first i events
abbrev pub in_round : Setup → Ran → ℕ → World
in_round s r i = (all_settle no_limits s r (take i (round_of (pairs s)))).world

-- the round from the event at i on
record IsRound (s : Setup) (w : World) (i : ℕ) (e : Event) : Type 0 where
  rest : List Event
  whole : round_of (pairs s) ≡ take i (round_of (pairs s)) ++ e ∷ rest
  is : all_settle no_limits s (at w) (round_of (pairs s)) ≡ all_settle no_limits s (at (after s (in_round s (at w) i) e)) rest

round_is : (s : Setup) (w : World) (i : ℕ) (e : Event) → slice_get (round_of (pairs s)) i ≡ Some e → IsRound s w i e
round_is s w i e found =
    let c = cut_at (round_of (pairs s)) i e found in let before = take i (round_of (pairs s)) in
    record {
      rest = c.0;
      whole = c.1;
      is = ap (all_settle no_limits s (at w)) c.1 ∙ settle_parts s (at w) before (e ∷ c.0)
          ∙ ap (λ (r : Ran). all_settle no_limits s r (e ∷ c.0)) (goes_on_for_ever s before w);
    }

-- it counts in the world to which the round has come
abbrev pub IsBusy : Setup → Ran → ℕ → Event → Type 0
IsBusy s r i e = let w = in_round s r i in w.events < (happens s w e).events

-- so the round counts
busy_round : (s : Setup) (w : World) (i : ℕ) (e : Event) → slice_get (round_of (pairs s)) i ≡ Some e → IsBusy s (at w) i e
    → w.events < (all_settle no_limits s (at w) (round_of (pairs s))).world.events
busy_round s w i e found busy =
    let r = round_is s w i e found in let v = in_round s (at w) i in
    subst (λ (q : Ran). w.events < q.world.events) (sym r.is)
    (elim (not_fewer w v (events_count s w (take i (round_of (pairs s))))) [
      | inl less ↦ elim (not_fewer (after s v e) _ (events_count s (after s v e) r.rest)) [
        | inl more ↦ omega (arith, less, busy, more)
        | inr same ↦ omega (arith, less, busy, same)
      ]
      | inr equal ↦ elim (not_fewer (after s v e) _ (events_count s (after s v e) r.rest)) [
        | inl more ↦ omega (arith, equal, busy, more)
        | inr same ↦ omega (arith, equal, busy, same)
      ]
    ])

-- the rest of the round follows
round_follows : (s : Setup) (t y : ℕ) (n : List ℕ) (w : World) (i : ℕ) (e : Event) → slice_get (round_of (pairs s)) i ≡ Some e
    → Since s t y n (happens s (in_round s (at w) i) e) (all_settle no_limits s (at w) (round_of (pairs s))).world
round_follows s t y n w i e found =
    let r = round_is s w i e found in let v = in_round s (at w) i in
    subst (λ (q : Ran). Since s t y n (happens s v e) q.world) (sym r.is)
    (events_follow no_limits s t y n (happens s v e) (at (after s v e)) r.rest
    (after_some (take i (round_of (pairs s))) (e ∷ r.rest) (subst (Each (Leaves s t y n)) r.whole (round_leaves s t y n (pairs s)))).1
    (Idling (happens s v e) v.idle Starting))
  where
    after_some : (xs ys : List Event) → Each (Leaves s t y n) (xs ++ ys) → Each (Leaves s t y n) ys
    after_some [] ys h = h
    after_some (x ∷ xs) ys h = after_some xs ys h.1

-- ---- the rounds after it

-- rounds end after q, a round that led there from w, or go on with m more
abbrev go_on : Setup → World → ℕ → Ran → Ran
go_on s w m q = elim (is_some q.ended || (q.world.events == w.events)) as (λ b. Ran) [ true ↦ q | false ↦ rounds_of m no_limits s (counting_round q) ]

pub rest_follows : (s : Setup) (t y : ℕ) (n : List ℕ) (m k : ℕ) (w : World) (i : ℕ) (e : Event) → slice_get (round_of (pairs s)) i ≡ Some e → m < k
    → IsBusy s (rounds_of m no_limits s (at w)) i e
    → Since s t y n (happens s (in_round s (rounds_of m no_limits s (at w)) i) e) (rounds_of k no_limits s (at w)).world
rest_follows s t y n m zero w i e found lt busy = absurd (omega (arith, lt))
rest_follows s t y n zero (suc k) w i e found lt busy =
    let q : Ran = all_settle no_limits s (at w) (round_of (pairs s)) in
    let v = in_round s (at w) i in
    let h : Since s t y n (happens s v e) q.world = round_follows s t y n w i e found in
    on_elim (λ (r : Ran). Since s t y n (happens s v e) r.world) (is_some q.ended || (q.world.events == w.events)) q (rounds_of k no_limits s (counting_round q)) h
    (rounds_follow k no_limits s t y n (happens s v e) (counting_round q) (AfterRound q.world (q.world.rounds + 1) h))
rest_follows s t y n (suc m) (suc k) w i e found lt busy =
    subst Goal (sym (goes_on_for_ever s (round_of (pairs s)) w))
    (by (v.events == w.events) refl (rest_follows s t y n m k (record v { rounds = v.rounds + 1 }) i e found (omega (arith, lt)))) busy
  where
    v : World
    v = (all_settle no_limits s (at w) (round_of (pairs s))).world

    Goal : Ran → Type 0
    Goal q = IsBusy s (go_on s w m q) i e → Since s t y n (happens s (in_round s (go_on s w m q) i) e) (go_on s w k q).world

    chosen : Bool → ℕ → Ran
    chosen b c = elim b as (λ b. Ran) [ true ↦ at v | false ↦ rounds_of c no_limits s (counting_round (at v)) ]

    by : (b : Bool) → (v.events == w.events) ≡ b
        → (IsBusy s (rounds_of m no_limits s (counting_round (at v))) i e
        → Since s t y n (happens s (in_round s (rounds_of m no_limits s (counting_round (at v))) i) e) (rounds_of k no_limits s (counting_round (at v))).world)
        → IsBusy s (chosen b m) i e → Since s t y n (happens s (in_round s (chosen b m) i) e) (chosen b k).world
    by false is ih up = ih up
    by true is ih up =
        let same = eqb-true v.events w.events is in
        elim (events_count s w (round_of (pairs s))) [
          | inl quiet ↦ let less = busy_round s w i e found (subst (λ (z : World). IsBusy s (at z) i e) quiet up) in absurd (omega (arith, less, same))
          | inr less ↦ absurd (omega (arith, less, same))
        ]
