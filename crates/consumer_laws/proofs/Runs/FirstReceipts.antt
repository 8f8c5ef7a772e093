-- What a producer published before a message that is about to be got was handed out, by prefix and once.
use Rattle.std.proofs.Common.{◌≡◌, ℕ, zero, suc, ◌<◌, ◌≤◌, Bool, true, false, List, [], ◌∷◌, ◌++◌, filter, refl, sym, ap, subst, ◌∙◌, ◌==◌, arith, inl, inr, ◌⊎◌}
use Rattle.std.specs.Prelude.{Some, cond, slice_get}
use Rattle.std.specs.Str.{bytes_eq}
use Rattle.std.proofs.lemmas.Bool.{eq-eqb, eqb-false, eqb-true}
use Rattle.std.proofs.lemmas.Option.{none-some, same_Some}
use Rattle.std.proofs.lemmas.Slice.Eq.{bytes_eq-Decides}
use Rattle.world_laws.proofs.Types.{Entry, Ident}
use Rattle.geo_base.specs.Broker.{Broker}
use Rattle.geo_base.specs.Entry.{goes_to, is_outbound, same_stream}
use Rattle.geo_base.specs.Laws.{of_origin, outbound}
use Rattle.geo_base.specs.Safe.{IsEntry, IsOnce}
use Rattle.geo_base.specs.Setup.{Setup}
use Rattle.geo_base.specs.World.{World, node, topic_at}
use Rattle.world_laws.proofs.OnceInOrder.Members.{Stands, below_or, from_filter, head_is, stands_next, tail_is, to_filter}
use Rattle.world_laws.proofs.Snapshotting.SecondRound.{Knows}
use Rattle.world_laws.proofs.Replicating.Sizes.{IsThere}
use Rattle.world_laws.proofs.Walks.Walk.{both, by_test, left, right}

-- one element stands before another one
record BothStand {X : Type 0} (xs : List X) (a b : X) : Type 0 where
  first : ℕ
  second : ℕ
  before : first < second
  one : slice_get xs first ≡ Some a
  other : slice_get xs second ≡ Some b

both_next : {X : Type 0} (y : X) (xs : List X) (a b : X) → BothStand xs a b → BothStand (y ∷ xs) a b
both_next y xs a b h = record { first = suc h.first; second = suc h.second; before = let lt = h.before in omega (arith, lt); one = h.one; other = h.other }

-- what a filter leaves in two parts stands in that order
behind_all : {X : Type 0} (cs rest : List X) (f : X) → Stands rest f → Stands (cs ++ rest) f
behind_all [] rest f r = r
behind_all (c ∷ cs) rest f r = stands_next c (cs ++ rest) f (behind_all cs rest f r)

place_order : {X : Type 0} (p : X → Bool) (y a : X) (ys ls rest : List X) (e f : X) (k : ℕ) → slice_get (a ∷ ls) k ≡ Some e → y ≡ a → filter p ys ≡ ls ++ rest → Stands rest f
    → (Stands ls e → BothStand ys e f) → BothStand (y ∷ ys) e f
place_order p y a ys ls rest e f zero at head tail r ih =
    let l = (from_filter p ys f (subst (λ g. Stands g f) (sym tail) (behind_all ls rest f r))).stands in
    record { first = zero; second = suc l.place; before = omega arith; one = ap Some head ∙ at; other = l.is }
place_order p y a ys ls rest e f (suc k) at head tail r ih = both_next y ys e f (ih (record { place = k; is = at }))

split_order : {X : Type 0} (p : X → Bool) (es ls rest : List X) (e f : X) → filter p es ≡ ls ++ rest → Stands ls e → Stands rest f → BothStand es e f
split_order p es [] rest e f is s r = absurd (none-some e s.is)
split_order p [] (a ∷ ls) rest e f is s r = absurd (none-some a (ap (λ l. slice_get l zero) is))
split_order {X = X} p (y ∷ ys) (a ∷ ls) rest e f is s r = by (p y) is (λ g. split_order p ys (a ∷ ls) rest e f g s r) (λ g t. split_order p ys ls rest e f g t r)
  where
    by : (t : Bool) → cond t (y ∷ filter p ys) (filter p ys) ≡ a ∷ (ls ++ rest) → (filter p ys ≡ a ∷ (ls ++ rest) → BothStand ys e f) → (filter p ys ≡ ls ++ rest → Stands ls e → BothStand ys e f)
        → BothStand (y ∷ ys) e f
    by false g ih ih' = both_next y ys e f (ih g)
    by true g ih ih' =
        let tail : filter p ys ≡ ls ++ rest = tail_is y a (filter p ys) (ls ++ rest) g in
        place_order p y a ys ls rest e f s.place s.is (head_is y y a (filter p ys) (ls ++ rest) g) tail r (ih' tail)

-- of two parts of a list one has it
in_either : {X : Type 0} (ls rest : List X) (f : X) → Stands (ls ++ rest) f → Stands ls f ⊎ Stands rest f
in_either [] rest f s = inr s
in_either (a ∷ ls) rest f s = by s.place s.is (λ k at. in_either ls rest f (record { place = k; is = at }))
  where
    by : (k : ℕ) → slice_get (a ∷ (ls ++ rest)) k ≡ Some f → ((k : ℕ) → slice_get (ls ++ rest) k ≡ Some f → Stands ls f ⊎ Stands rest f) → Stands (a ∷ ls) f ⊎ Stands rest f
    by zero at ih = inl (record { place = zero; is = at })
    by (suc k) at ih = elim (ih k at) [ inl t ↦ inl (stands_next a ls f t) | inr t ↦ inr t ]

stream_back : (a b : Ident) → same_stream a b ≡ true → same_stream b a ≡ true
stream_back a b h =
    let origin = eqb-true a.origin b.origin (left (a.origin == b.origin) (bytes_eq a.producer b.producer) h) in
    let producer = (bytes_eq-Decides a.producer b.producer).0 (right (a.origin == b.origin) (bytes_eq a.producer b.producer) h) in
    both (b.origin == a.origin) (bytes_eq b.producer a.producer) (eq-eqb b.origin a.origin (sym origin)) ((bytes_eq-Decides b.producer a.producer).1 (sym producer))

-- in one topic the smaller sequence id stands before
smaller_before : (b : Broker) → IsOnce b → (i j : ℕ) (f e : Entry) → IsEntry b i f → IsEntry b j e → same_stream f.ident e.ident ≡ true → f.ident.seq < e.ident.seq → i < j
smaller_before b once i j f e at_f at_e stream lt =
    elim (below_or i j) [
      | inl small ↦ small
      | inr le ↦ by_test (i == j)
          (λ same. let is : e ≡ f = same_Some e f (sym at_e ∙ subst (λ (k : ℕ). slice_get b.entries k ≡ Some f) (eqb-true i j same) at_f) in
          let seq = ap (λ (x : Entry). x.ident.seq) is in absurd (omega (arith, lt, seq)))
          (λ other. let differ = eqb-false i j other in
          let more = once j i e f (further le differ) at_e at_f (stream_back f.ident e.ident stream) in absurd (omega (arith, lt, more)))
    ]
  where
    further : j ≤ i → (i ≡ j → ⊥) → j < i
    further le differ = elim (below_or j i) [ inl small ↦ small | inr large ↦ absurd (differ (omega (arith, le, large))) ]

own_stands : (s : Setup) (w : World) (t x i : ℕ) (f e : Entry) → IsEntry (topic_at s w t e.ident.origin) i f → x ≡ e.ident.origin → Stands (topic_at s w t x).entries f
own_stands s w t x i f e at_f own = record { place = i; is = subst (λ (o : ℕ). slice_get (topic_at s w t o).entries i ≡ Some f) (sym own) at_f }

-- it stands at the cluster that has the later one
pub earlier_stands : (s : Setup) (w : World) (t x i j : ℕ) (f e : Entry) → Knows s w → IsThere s t x → IsEntry (topic_at s w t x) j e → IsEntry (topic_at s w t e.ident.origin) i f
    → same_stream f.ident e.ident ≡ true → f.ident.seq < e.ident.seq → (x ≡ e.ident.origin) ⊎ (goes_to x f.to ≡ true) → Stands (topic_at s w t x).entries f
earlier_stands s w t x i j f e k there at_e at_f stream lt (inl own) = own_stands s w t x i f e at_f own
earlier_stands s w t x i j f e k there at_e at_f stream lt (inr goes) = by_test (x == o) (λ own. own_stands s w t x i f e at_f (eqb-true x o own)) (λ other. apart (eqb-false x o other))
  where
    o : ℕ
    o = e.ident.origin

    of_f : f.ident.origin ≡ o
    of_f = eqb-true f.ident.origin o (left (f.ident.origin == o) (bytes_eq f.ident.producer e.ident.producer) stream)

    apart : (x ≡ o → ⊥) → Stands (topic_at s w t x).entries f
    apart differ =
        let pair = k.prefix t o x ((k.answers t x there).origins j e at_e, there.1, λ is. differ (sym is)) in
        let es = (topic_at s w t o).entries in let here = of_origin o (topic_at s w t x).entries in
        let e_here : Stands here e = to_filter (λ (y : Entry). y.ident.origin == o) (topic_at s w t x).entries e j at_e (eq-eqb o o refl) in
        let f_out : Stands (outbound o x es) f =
        to_filter (is_outbound o x) es f i at_f (both (f.ident.origin == o) (goes_to x f.to) (eq-eqb f.ident.origin o of_f) goes) in
        elim (in_either here pair.0 f (subst (λ (l : List Entry). Stands l f) pair.1 f_out)) [
          | inl stands ↦ (from_filter (λ (y : Entry). y.ident.origin == o) (topic_at s w t x).entries f stands).stands
          | inr later ↦
              let order = split_order (is_outbound o x) es here pair.0 e f pair.1 e_here later in
              let more = k.once (node s t o) order.first order.second e f order.before order.one order.other (stream_back f.ident e.ident stream) in absurd (omega (arith, lt, more))
        ]

pub earlier_before : (s : Setup) (w : World) (t x i j : ℕ) (f e : Entry) → Knows s w → IsThere s t x → IsEntry (topic_at s w t x) j e → IsEntry (topic_at s w t e.ident.origin) i f
    → same_stream f.ident e.ident ≡ true → f.ident.seq < e.ident.seq → (x ≡ e.ident.origin) ⊎ (goes_to x f.to ≡ true) → (m : ℕ) × (m < j) × IsEntry (topic_at s w t x) m f
earlier_before s w t x i j f e k there at_e at_f stream lt how =
    let stands = earlier_stands s w t x i j f e k there at_e at_f stream lt how in
    (stands.place, smaller_before (topic_at s w t x) (k.once (node s t x)) stands.place j f e stands.is at_e stream lt, stands.is)
