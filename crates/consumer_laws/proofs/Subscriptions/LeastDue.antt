-- Why what stands before a message that is given was handed out, or was given on the same connection before: what is given is the least
-- that is due, and what is out is out with the first consumer alone.
use Rattle.std.proofs.Common.{◌≡◌, ℕ, ◌<◌, Bool, true, false, List, [], ◌∷◌, length, sym, ap, subst, ◌∙◌, ◌==◌, arith, inl, inr}
use Rattle.std.specs.Prelude.{Some, ◌&&◌, ◌||◌, nat_le, slice_get}
use Rattle.std.specs.List.{list_any}
use Rattle.std.proofs.lemmas.Bool.{eqb-true, false≢true}
use Rattle.std.proofs.lemmas.Option.{same_Some}
use Rattle.world_laws.proofs.Types.{Consumer, Entry, Unacked, Packet}
use Rattle.geo_base.specs.Cursor.{has}
use Rattle.geo_base.specs.Dispatcher.{consumer_at, least_due, pick}
use Rattle.geo_base.specs.Entry.{is_data}
use Rattle.geo_base.specs.Safe.{is_out}
use Rattle.geo_base.specs.Settled.{IsSettled, SettledSoFar, serves_one}
use Rattle.geo_base.specs.Subscription.{Subscription, is_attached}
use Rattle.world_laws.proofs.Replicating.Cursors.{either}
use Rattle.world_laws.proofs.Replicating.Effects.{Each}
use Rattle.world_laws.proofs.Dispatching.Remembers.{IsLeast, Kept, Remembers, below_least, first_false, least_due_is, second_false, unlike, why_kept}
use Rattle.world_laws.proofs.Telling.Told.{OnlyTold}
use Rattle.world_laws.proofs.Walks.Walk.{by_test, left}
use Rattle.consumer_laws.proofs.Worlds.Facts.{Passed}
use Rattle.consumer_laws.proofs.Subscriptions.WhatIsOut.{Carried, FirstPicked, HeadOf, Makes, OutFact, SubFact, first_picked}

-- one of a list passes a test, and has what all have
pub record Found {X : Type 0} (p : X → Bool) (P : X → Type 0) : Type 0 where
  pub one : X
  pub passes : p one ≡ true
  pub fact : P one

pub any_found : {X : Type 0} (p : X → Bool) (P : X → Type 0) (xs : List X) → list_any p xs ≡ true → Each P xs → Found p P
any_found p P [] h all = absurd (false≢true h)
any_found p P (x ∷ xs) h all = elim (either (p x) (list_any p xs) h) [ inl this ↦ record { one = x; passes = this; fact = all.0 } | inr later ↦ any_found p P xs later all.1 ]

-- what is out with the first consumer was sent to it
head_sent : (es : List Entry) (num : ℕ → ℕ) (sent : ℕ → List Packet) (ks : List Consumer) (k : Consumer) (rest : List Consumer) (o : Unacked) (j : ℕ) (f : Entry) → ks ≡ k ∷ rest → o.index ≡ j
    → slice_get es j ≡ Some f → HeadOf es num sent ks o → Carried (sent k.client) (num k.client) k.id f
head_sent es num sent ks k rest o j f is index at h =
    let g : HeadOf es num sent (k ∷ rest) o = subst (λ (js : List Consumer). HeadOf es num sent js o) is h in
    let x = g.1 in
    let same : x.entry ≡ f = same_Some x.entry f (sym (subst (λ (i : ℕ). slice_get es i ≡ Some x.entry) index x.stands) ∙ at) in
    subst (Carried (sent k.client) (num k.client) k.id) same x.carried

-- what is below the least that is due, and outside the cursor, is out
below_out : (m i j : ℕ) (v : Subscription) → Remembers m v → IsLeast v 0 m i → j < i → has v.cursor j ≡ false → is_out v j ≡ true
below_out m i j v r least lo outside = by (why_kept v j (r.outside j (let hi = least.high in omega (arith, hi, lo)) outside))
  where
    none : (has v.due j || nat_le v.read_index j) ≡ false
    none = below_least v 0 m i j least (omega arith) lo outside

    by : Kept v j → is_out v j ≡ true
    by (Kept.Out e) = e
    by (Kept.Due e) = absurd (unlike (has v.due j) e (first_false (has v.due j) (nat_le v.read_index j) none))
    by (Kept.Ahead e) = absurd (unlike (nat_le v.read_index j) e (second_false (has v.due j) (nat_le v.read_index j) none))

pub gives_order : (told : SettledSoFar) (t : ℕ) (mine : Makes) (es : List Entry) (num : ℕ → ℕ) (sent : ℕ → List Packet) (v : Subscription) (i at : ℕ) (key : List ℕ)
    → OnlyTold told t es v → Remembers (length es) v → SubFact mine es num sent v → least_due v (length es) ≡ Some i → pick v.kind v.consumers key ≡ Some at → serves_one v.kind ≡ true
    → (j : ℕ) (f : Entry) → j < i → slice_get es j ≡ Some f → is_data f.content ≡ true
    → Passed told t v.name (sent (consumer_at v.consumers at).client) (num (consumer_at v.consumers at).client) (consumer_at v.consumers at).id f
gives_order told t mine es num sent v i at key only r facts due picked one j f lo stands message =
    by_test (has v.cursor j)
    (λ inside. let h = only j inside in Passed.IsHanded (settled h.0 (same_Some h.0 f (sym h.1 ∙ stands)) h.2))
    (λ outside. Passed.Earlier (out (below_out (length es) i j v r (least_due_is v 0 (length es) i due) lo outside)))
  where
    settled : (e : Entry) → e ≡ f → (is_data e.content ≡ true → IsSettled told t v.name e) → IsSettled told t v.name f
    settled e same g = subst (λ (x : Entry). is_data x.content ≡ true → IsSettled told t v.name x) same g message

    first : FirstPicked v.consumers at
    first = first_picked v.kind v.consumers key at one picked

    is_first : consumer_at v.consumers at ≡ first.first
    is_first = ap (consumer_at v.consumers) first.zero_at ∙ ap (λ (js : List Consumer). consumer_at js 0) first.is

    out : is_out v j ≡ true → Carried (sent (consumer_at v.consumers at).client) (num (consumer_at v.consumers at).client) (consumer_at v.consumers at).id f
    out e =
        let o = any_found (λ (o : Unacked). (o.index == j) && is_attached o.client v) (OutFact es num sent v.kind v.consumers) v.out e facts.out in
        subst (λ (k : Consumer). Carried (sent k.client) (num k.client) k.id f) (sym is_first)
        (head_sent es num sent v.consumers first.first first.rest o.one j f first.is (eqb-true o.one.index j (left (o.one.index == j) _ o.passes)) stands (o.fact.head one))
