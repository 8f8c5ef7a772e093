-- The merged list is a merge: all entries, each node's in their order, by stamp and node. It is the only one.
use Rattle.std.proofs.Common.{◌≡◌, ℕ, zero, suc, ◌+◌, ◌<◌, ◌≤◌, Bool, true, false, List, [], ◌∷◌, ◌++◌, refl, sym, ap, ◌∙◌, ◌==◌, arith, nat_lt}
use Rattle.std.specs.Prelude.{if◌then◌else◌, ◌&&◌, ◌||◌}
use Rattle.std.proofs.lemmas.Bool.{eqb-true, eq-eqb, false≢true, ltb-false, ltb-true, lt-ltb}
use Rattle.std.proofs.lemmas.List.{append-nil}
use Rattle.geo_base.specs.History.{RecordedEvent, Replays, state_after}
use Rattle.geo_base.specs.Merge.{BeforeAll, IsMerge, IsOrdered, Merged, all_from, comes_before, history_of, inserted, merge_of, of_history, of_node, ordered}
use Rattle.geo_base.specs.NodeState.{NodeState}
use Rattle.geo_base.specs.Setup.{Setup}
use Rattle.world_laws.proofs.Replicating.Effects.{Each, each_both, each_map}
use Rattle.world_laws.proofs.Walks.Walk.{left, right}
use Rattle.geo_base.proofs.Sums.{eq_apart}

-- the order in numbers
pub data Earlier (a b : Merged) : Type 0 where
  ByStamp : a.recorded.stamp < b.recorded.stamp → Earlier a b
  ByNode : a.recorded.stamp ≡ b.recorded.stamp → a.node < b.node → Earlier a b

pub is_earlier : (a b : Merged) → comes_before a b ≡ true → Earlier a b
is_earlier a b h = by (nat_lt a.recorded.stamp b.recorded.stamp) refl h
  where
    by : (t : Bool) → nat_lt a.recorded.stamp b.recorded.stamp ≡ t → (t || ((a.recorded.stamp == b.recorded.stamp) && nat_lt a.node b.node)) ≡ true → Earlier a b
    by true e h = Earlier.ByStamp (ltb-true _ _ e)
    by false e h = Earlier.ByNode (eqb-true _ _ (left (a.recorded.stamp == b.recorded.stamp) (nat_lt a.node b.node) h)) (ltb-true _ _ (right (a.recorded.stamp == b.recorded.stamp) (nat_lt a.node b.node) h))

pub earlier_is : (a b : Merged) → Earlier a b → comes_before a b ≡ true
earlier_is a b (Earlier.ByStamp lt) = ap (λ (t : Bool). t || ((a.recorded.stamp == b.recorded.stamp) && nat_lt a.node b.node)) (lt-ltb _ _ lt)
earlier_is a b (Earlier.ByNode same lt) =
    let e : (a.recorded.stamp == b.recorded.stamp) && nat_lt a.node b.node ≡ true =
    ap (λ (t : Bool). t && nat_lt a.node b.node) (eq-eqb _ _ same) ∙ lt-ltb _ _ lt in
    ap (λ (t : Bool). nat_lt a.recorded.stamp b.recorded.stamp || t) e ∙ either (nat_lt a.recorded.stamp b.recorded.stamp)
  where
    either : (t : Bool) → (t || true) ≡ true
    either true = refl
    either false = refl

then_earlier : (a b c : Merged) → Earlier a b → Earlier b c → Earlier a c
then_earlier a b c (Earlier.ByStamp lt) (Earlier.ByStamp lt') = Earlier.ByStamp (omega (arith, lt, lt'))
then_earlier a b c (Earlier.ByStamp lt) (Earlier.ByNode same lt') = Earlier.ByStamp (omega (arith, lt, same))
then_earlier a b c (Earlier.ByNode same lt) (Earlier.ByStamp lt') = Earlier.ByStamp (omega (arith, same, lt'))
then_earlier a b c (Earlier.ByNode same lt) (Earlier.ByNode same' lt') = Earlier.ByNode (same ∙ same') (omega (arith, lt, lt'))

pub not_both : (a b : Merged) → Earlier a b → Earlier b a → ⊥
not_both a b (Earlier.ByStamp lt) (Earlier.ByStamp lt') = omega (arith, lt, lt')
not_both a b (Earlier.ByStamp lt) (Earlier.ByNode same lt') = omega (arith, lt, same)
not_both a b (Earlier.ByNode same lt) (Earlier.ByStamp lt') = omega (arith, same, lt')
not_both a b (Earlier.ByNode same lt) (Earlier.ByNode same' lt') = omega (arith, lt, lt')

-- of one node's entries the earlier has the smaller stamp
abbrev pub Leads : Merged → Merged → Type 0
Leads a b = a.node ≡ b.node → a.recorded.stamp < b.recorded.stamp

-- so of two entries that do not come in this order the other is the earlier
other_way : (a b : Merged) → Leads a b → comes_before a b ≡ false → Earlier b a
other_way a b leads no' = by (nat_lt b.recorded.stamp a.recorded.stamp) refl
  where
    not_earlier : Earlier a b → ⊥
    not_earlier e = false≢true (sym no' ∙ earlier_is a b e)

    nodes : (t : Bool) → nat_lt b.node a.node ≡ t → a.recorded.stamp ≡ b.recorded.stamp → Earlier b a
    nodes true e same = Earlier.ByNode (sym same) (ltb-true _ _ e)
    nodes false e same = at (a.node == b.node) refl
      where
        at : (u : Bool) → (a.node == b.node) ≡ u → Earlier b a
        at true e' = let lt = leads (eqb-true _ _ e') in absurd (omega (arith, lt, same))
        at false e' =
            let ge = ltb-false _ _ e in
            let ne : a.node ≡ b.node → ⊥ = λ is. false≢true (sym e' ∙ eq-eqb a.node b.node is) in
            absurd (not_earlier (Earlier.ByNode same (omega (arith, ge, ne))))

    by : (t : Bool) → nat_lt b.recorded.stamp a.recorded.stamp ≡ t → Earlier b a
    by true e = Earlier.ByStamp (ltb-true _ _ e)
    by false e = stamps (nat_lt a.recorded.stamp b.recorded.stamp) refl
      where
        stamps : (u : Bool) → nat_lt a.recorded.stamp b.recorded.stamp ≡ u → Earlier b a
        stamps true e' = absurd (not_earlier (Earlier.ByStamp (ltb-true _ _ e')))
        stamps false e' = let ge = ltb-false _ _ e in let ge' = ltb-false _ _ e' in nodes (nat_lt b.node a.node) refl (omega (arith, ge, ge'))

-- insertion
each_inserted : (P : Merged → Type 0) (a : Merged) (bs : List Merged) → P a → Each P bs → Each P (inserted a bs)
each_inserted P a [] p h = (p, tt)
each_inserted P a (b ∷ bs) p h = by (comes_before a b) (each_inserted P a bs p h.1)
  where
    by : (t : Bool) → Each P (inserted a bs) → Each P (if t then a ∷ b ∷ bs else b ∷ inserted a bs)
    by true rest = (p, h)
    by false rest = (h.0, rest)

pub each_ordered : (P : Merged → Type 0) (as' : List Merged) → Each P as' → Each P (ordered as')
each_ordered P [] h = tt
each_ordered P (a ∷ as') h = each_inserted P a (ordered as') h.0 (each_ordered P as' h.1)

abbrev Before : Merged → Merged → Type 0
Before a b = comes_before a b ≡ true

before_each : (a : Merged) (bs : List Merged) → BeforeAll a bs → Each (Before a) bs
before_each a [] h = tt
before_each a (b ∷ bs) h = (h.0, before_each a bs h.1)

each_before : (a : Merged) (bs : List Merged) → Each (Before a) bs → BeforeAll a bs
each_before a [] h = tt
each_before a (b ∷ bs) h = (h.0, each_before a bs h.1)

inserted_ordered : (a : Merged) (bs : List Merged) → Each (Leads a) bs → IsOrdered bs → IsOrdered (inserted a bs)
inserted_ordered a [] h o = (tt, tt)
inserted_ordered a (b ∷ bs) h o = by (comes_before a b) refl (inserted_ordered a bs h.1 o.1)
  where
    by : (t : Bool) → comes_before a b ≡ t → IsOrdered (inserted a bs) → IsOrdered (if t then a ∷ b ∷ bs else b ∷ inserted a bs)
    by true e rest = (
      (
        e,
        each_before a bs
            (each_map (Before b) (Before a) (λ c q. earlier_is a c (then_earlier a b c (is_earlier a b e) (is_earlier b c q))) bs (before_each b bs o.0)),
      ),
      o,
    )
    by false e rest =
        (each_before b (inserted a bs) (each_inserted (Before b) a bs (earlier_is b a (other_way a b h.0 e)) (before_each b bs o.0)), rest)

-- each entry leads those of its node after it
abbrev pub AllLead : List Merged → Type 0
AllLead [] = Unit {0}
AllLead (a ∷ as') = Each (Leads a) as' × AllLead as'

pub ordered_is : (as' : List Merged) → AllLead as' → IsOrdered (ordered as')
ordered_is [] h = tt
ordered_is (a ∷ as') h = inserted_ordered a (ordered as') (each_ordered (Leads a) as' h.0) (ordered_is as' h.1)

inserted_of : (z : ℕ) (a : Merged) (bs : List Merged) → Each (Leads a) bs → of_node z (inserted a bs) ≡ of_node z (a ∷ bs)
inserted_of z a [] h = refl
inserted_of z a (b ∷ bs) h = by (comes_before a b) refl (inserted_of z a bs h.1)
  where
    swapped : (t u : Bool) → (b.node == z) ≡ t → (a.node == z) ≡ u → comes_before a b ≡ false
        → (if t then b.recorded ∷ (if u then a.recorded ∷ of_node z bs else of_node z bs) else (if u then a.recorded ∷ of_node z bs else of_node z bs))
        ≡ (if u then a.recorded ∷ (if t then b.recorded ∷ of_node z bs else of_node z bs) else (if t then b.recorded ∷ of_node z bs else of_node z bs))
    swapped true true e e' no' =
        let lt = h.0 (eqb-true _ _ e' ∙ sym (eqb-true _ _ e)) in absurd (false≢true (sym no' ∙ earlier_is a b (Earlier.ByStamp lt)))
    swapped true false e e' no' = refl
    swapped false true e e' no' = refl
    swapped false false e e' no' = refl

    by : (t : Bool) → comes_before a b ≡ t → of_node z (inserted a bs) ≡ of_node z (a ∷ bs)
        → of_node z (if t then a ∷ b ∷ bs else b ∷ inserted a bs) ≡ of_node z (a ∷ b ∷ bs)
    by true e rest = refl
    by false e rest =
        ap (λ (ds : List RecordedEvent). if b.node == z then b.recorded ∷ ds else ds) rest ∙ swapped (b.node == z) (a.node == z) refl refl e

pub ordered_of : (z : ℕ) (as' : List Merged) → AllLead as' → of_node z (ordered as') ≡ of_node z as'
ordered_of z [] h = refl
ordered_of z (a ∷ as') h =
    inserted_of z a (ordered as') (each_ordered (Leads a) as' h.0) ∙ ap (λ (ds : List RecordedEvent). if a.node == z then a.recorded ∷ ds else ds) (ordered_of z as' h.1)

-- the entries of all histories, one after another
pub of_append : (z : ℕ) (as' bs : List Merged) → of_node z (as' ++ bs) ≡ of_node z as' ++ of_node z bs
of_append z [] bs = refl
of_append z (a ∷ as') bs = by (a.node == z) (of_append z as' bs)
  where
    by : (t : Bool) → of_node z (as' ++ bs) ≡ of_node z as' ++ of_node z bs
        → (if t then a.recorded ∷ of_node z (as' ++ bs) else of_node z (as' ++ bs)) ≡ (if t then a.recorded ∷ of_node z as' else of_node z as') ++ of_node z bs
    by true rest = ap (λ (ds : List RecordedEvent). a.recorded ∷ ds) rest
    by false rest = rest

of_same : (n : ℕ) (ds : List RecordedEvent) → of_node n (of_history n ds) ≡ ds
of_same n [] = refl
of_same n (d ∷ ds) = ap (λ (t : Bool). if t then d ∷ of_node n (of_history n ds) else of_node n (of_history n ds)) (eq-eqb n n refl) ∙ ap (λ (es : List RecordedEvent). d ∷ es) (of_same n ds)

of_other : (z n : ℕ) (ds : List RecordedEvent) → (n == z) ≡ false → of_node z (of_history n ds) ≡ []
of_other z n [] e = refl
of_other z n (d ∷ ds) e = ap (λ (t : Bool). if t then d ∷ of_node z (of_history n ds) else of_node z (of_history n ds)) e ∙ of_other z n ds e

below_all : (z n : ℕ) (hs : List (List RecordedEvent)) → z < n → of_node z (all_from n hs) ≡ []
below_all z n [] lt = refl
below_all z n (h ∷ hs) lt =
    of_append z (of_history n h) (all_from (n + 1) hs)
    ∙ (ap (λ (ds : List RecordedEvent). ds ++ of_node z (all_from (n + 1) hs)) (of_other z n h (eq_apart n z (λ is. omega (arith, lt, is))))
    ∙ below_all z (n + 1) hs (omega (arith, lt)))

all_of : (n i : ℕ) (hs : List (List RecordedEvent)) → of_node (n + i) (all_from n hs) ≡ history_of hs i
all_of n i [] = refl
all_of n zero (h ∷ hs) =
    let at : n + 0 ≡ n = omega arith in
    ap (λ (z : ℕ). of_node z (all_from n (h ∷ hs))) at
    ∙ (of_append n (of_history n h) (all_from (n + 1) hs)
    ∙ (ap (λ (ds : List RecordedEvent). ds ++ of_node n (all_from (n + 1) hs)) (of_same n h)
    ∙ (ap (λ (ds : List RecordedEvent). h ++ ds) (below_all n (n + 1) hs (omega arith)) ∙ append-nil h)))
all_of n (suc i) (h ∷ hs) =
    let at : n + suc i ≡ n + 1 + i = omega arith in
    of_append (n + suc i) (of_history n h) (all_from (n + 1) hs)
    ∙ (ap (λ (ds : List RecordedEvent). ds ++ of_node (n + suc i) (all_from (n + 1) hs)) (of_other (n + suc i) n h (eq_apart n (n + suc i) (λ is. omega (arith, is))))
    ∙ (ap (λ (z : ℕ). of_node z (all_from (n + 1) hs)) at ∙ all_of (n + 1) i hs))

-- stamps rise in a history
abbrev pub Rises : List RecordedEvent → Type 0
Rises [] = Unit {0}
Rises (d ∷ ds) = Each (λ (e : RecordedEvent). d.stamp < e.stamp) ds × Rises ds

above : (s : Setup) (n : ℕ) (st : NodeState) (clock : ℕ) (ds : List RecordedEvent) → Replays s n st clock ds → Each (λ (d : RecordedEvent). clock < d.stamp) ds
above s n st clock [] r = tt
above s n st clock (d ∷ ds) r =
    let e = r.0.stamp in
    let first : clock < d.stamp = omega (arith, e) in (
      first,
      each_map (λ (e : RecordedEvent). d.stamp < e.stamp) (λ (e : RecordedEvent). clock < e.stamp) (λ e lt. omega (arith, first, lt)) ds
          (above s n (state_after s st d) d.stamp ds r.1),
    )

pub rises : (s : Setup) (n : ℕ) (st : NodeState) (clock : ℕ) (ds : List RecordedEvent) → Replays s n st clock ds → Rises ds
rises s n st clock [] r = tt
rises s n st clock (d ∷ ds) r = (above s n (state_after s st d) d.stamp ds r.1, rises s n (state_after s st d) d.stamp ds r.1)

nodes_from : (n : ℕ) (hs : List (List RecordedEvent)) → Each (λ (b : Merged). n ≤ b.node) (all_from n hs)
nodes_from n [] = tt
nodes_from n (h ∷ hs) =
    each_both (λ (b : Merged). n ≤ b.node) (of_history n h) (all_from (n + 1) hs) (own h)
    (each_map (λ (b : Merged). n + 1 ≤ b.node) (λ (b : Merged). n ≤ b.node) (λ b le. omega (arith, le)) (all_from (n + 1) hs) (nodes_from (n + 1) hs))
  where
    own : (ds : List RecordedEvent) → Each (λ (b : Merged). n ≤ b.node) (of_history n ds)
    own [] = tt
    own (d ∷ ds) = (omega arith, own ds)

history_leads : (n : ℕ) (ds : List RecordedEvent) (bs : List Merged) → Rises ds → Each (λ (b : Merged). n + 1 ≤ b.node) bs → AllLead bs → AllLead (of_history n ds ++ bs)
history_leads n [] bs r above_n lead = lead
history_leads n (d ∷ ds) bs r above_n lead = (
  each_both (Leads (record { node = n; recorded = d })) (of_history n ds) bs (own ds r.0)
      (each_map (λ (b : Merged). n + 1 ≤ b.node) (Leads (record { node = n; recorded = d })) (λ b le is. absurd (omega (arith, le, is))) bs above_n),
  history_leads n ds bs r.1 above_n lead,
)
  where
    own : (es : List RecordedEvent) → Each (λ (e : RecordedEvent). d.stamp < e.stamp) es → Each (Leads (record { node = n; recorded = d })) (of_history n es)
    own [] h = tt
    own (e ∷ es) h = ((λ _. h.0), own es h.1)

pub all_lead : (n : ℕ) (hs : List (List RecordedEvent)) → ((i : ℕ) → Rises (history_of hs i)) → AllLead (all_from n hs)
all_lead n [] r = tt
all_lead n (h ∷ hs) r = history_leads n h (all_from (n + 1) hs) (r 0) (nodes_from (n + 1) hs) (all_lead (n + 1) hs (λ i. r (suc i)))

-- the merged list has all entries of the histories, in their order, and no others, and is ordered
pub merge_is : (hs : List (List RecordedEvent)) → ((i : ℕ) → Rises (history_of hs i)) → IsMerge hs (merge_of hs)
merge_is hs r = record {
  each = λ z.
      let at : z ≡ 0 + z = omega arith in
      ordered_of z (all_from 0 hs) (all_lead 0 hs r) ∙ (ap (λ (i : ℕ). of_node i (all_from 0 hs)) at ∙ all_of 0 z hs);
  order = ordered_is (all_from 0 hs) (all_lead 0 hs r);
}
