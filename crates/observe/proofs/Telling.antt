-- What an update tells, by the first message that nobody dealt with.
use Rattle.std.proofs.Common.{◌≡◌, ℕ, zero, suc, ◌+◌, ◌<◌, ◌≤◌, ◌==◌, nat_lt, Bool, true, false, List, [], ◌∷◌, length, take, drop, inl, inr, ◌⊎◌, refl, sym, ap, ◌∙◌, arith}
use Rattle.std.specs.Prelude.{◌&&◌, ◌||◌, not, if◌then◌else◌, Some, None, slice_get}
use Rattle.std.specs.List.{list_all}
use Rattle.std.specs.Map.{lookup}
use Rattle.std.specs.Str.{bytes_eq}
use Rattle.std.proofs.lemmas.Bool.{eqb-true}
use Rattle.std.proofs.lemmas.Bool.Decides.{nat_tests}
use Rattle.std.proofs.lemmas.Option.{none-some}
use Rattle.std.proofs.lemmas.Slice.Eq.{bytes_eq-Decides}
use Rattle.geo_base.proofs.Bools.{and_first, and_second}
use Rattle.geo_base.proofs.Lists.{bytes_eq_itself}
use Rattle.geo_base.proofs.Sums.{eq_itself}
use Rattle.geo_base.proofs.Results.{some_number}
use Rattle.geo_base.specs.declared.entry.Content.{Content}
use Rattle.geo_base.specs.declared.entry.Content.TheVariants as content
use Rattle.geo_base.specs.declared.entry.Entry.{Entry}
use Rattle.geo_base.specs.declared.marker.ClusterPosition.{ClusterPosition}
use Rattle.geo_base.specs.declared.marker.Marker.TheVariants as marker
use Rattle.geo_base.specs.Entry.{meant_for}
use Rattle.geo_base.specs.Setup.{Setup}
use Rattle.indexmap.specs.IndexMap.{insert_entry}
use Rattle.observation.specs.Findings.{each_at, told_in, told_of}
use Rattle.observation.specs.Observed.{Observation, is_dealt_with}
use Rattle.observe.specs.declared.asked.Asked.{Asked}
use Rattle.observe.proofs.Each.{get_at}
use Rattle.observe.specs.Dealt.{LogsOf}
use Rattle.observe.specs.Markers.{IsNoUpdate, IsUpdate}
use Rattle.observe.specs.Telling.{AreFirsts, AskedRow, first_of, first_unsettled, is_asked}

pub no_firsts : (l : LogsOf) → AreFirsts l []
no_firsts l = record { at = λ q i h. absurd (none-some i h) }

-- ---- what is kept

asked_is : (p q : Asked) → is_asked p q ≡ true → p ≡ q
asked_is p q h =
    let o = p.origin == q.origin in let f = p.of == q.of in let b = bytes_eq p.sub q.sub in
    let both = and_first (o && f) b h in
    let origin = eqb-true p.origin q.origin (and_first o f both) in
    let of_ = eqb-true p.of q.of (and_second o f both) in
    let sub = (bytes_eq-Decides p.sub q.sub).0 (and_second (o && f) b h) in
    λ k. record { origin = origin k; of = of_ k; sub = sub k }

asked_itself : (p : Asked) → is_asked p p ≡ true
asked_itself p = rw (eq_itself p.origin, eq_itself p.of, bytes_eq_itself p.sub) refl

-- a row more tells of nothing else
noted : (rows : List AskedRow) (p q : Asked) (v i : ℕ) → lookup (is_asked q) (insert_entry is_asked rows p v) ≡ Some i → ((q ≡ p) × (i ≡ v)) ⊎ (lookup (is_asked q) rows ≡ Some i)
noted [] p q v i h = by (is_asked q p) refl h
  where
    by : (b : Bool) → is_asked q p ≡ b → (if b then Some v else None) ≡ Some i → ((q ≡ p) × (i ≡ v)) ⊎ (None ≡ Some i)
    by true is h = inl (asked_is q p is, sym (some_number v i h))
    by false is h = inr h
noted (r ∷ rows) p q v i h = by (is_asked p r.0) refl (λ g. noted rows p q v i g) h
  where
    at : (b : Bool) → is_asked q r.0 ≡ b → is_asked p r.0 ≡ true → (if b then Some v else lookup (is_asked q) rows) ≡ Some i → ((q ≡ p) × (i ≡ v)) ⊎ ((if b then Some r.1 else lookup (is_asked q) rows) ≡ Some i)
    at true is own h = inl (asked_is q r.0 is ∙ sym (asked_is p r.0 own), sym (some_number v i h))
    at false is own h = inr h

    on : (b : Bool) → (lookup (is_asked q) (insert_entry is_asked rows p v) ≡ Some i → ((q ≡ p) × (i ≡ v)) ⊎ (lookup (is_asked q) rows ≡ Some i))
        → (if b then Some r.1 else lookup (is_asked q) (insert_entry is_asked rows p v)) ≡ Some i → ((q ≡ p) × (i ≡ v)) ⊎ ((if b then Some r.1 else lookup (is_asked q) rows) ≡ Some i)
    on true rest h = inr h
    on false rest h = rest h

    by : (b : Bool) → is_asked p r.0 ≡ b → (lookup (is_asked q) (insert_entry is_asked rows p v) ≡ Some i → ((q ≡ p) × (i ≡ v)) ⊎ (lookup (is_asked q) rows ≡ Some i))
        → lookup (is_asked q) (if b then (r.0, v) ∷ rows else r ∷ insert_entry is_asked rows p v) ≡ Some i → ((q ≡ p) × (i ≡ v)) ⊎ (lookup (is_asked q) (r ∷ rows) ≡ Some i)
    by true own rest h = at (is_asked q r.0) refl own h
    by false other rest h = on (is_asked q r.0) rest h

pub firsts_more : (l : LogsOf) (rows : List AskedRow) (p : Asked) (v : ℕ) → AreFirsts l rows → v ≡ first_of l p → AreFirsts l (insert_entry is_asked rows p v)
firsts_more l rows p v h is = record {
  at = λ q i at. elim (noted rows p q v i at) [ inl new ↦ new.1 ∙ (is ∙ ap (first_of l) (sym new.0)) | inr old ↦ h.at q i old ];
}

pub first_kept : (l : LogsOf) (rows : List AskedRow) (p : Asked) (i : ℕ) → AreFirsts l rows → lookup (is_asked p) rows ≡ Some i → i ≡ first_of l p
first_kept l rows p i h at = h.at p i at

-- ---- looking for it

step : (s : Setup) (o : Observation) (t a : ℕ) (n : List ℕ) (es : List Entry) (m i : ℕ) (e : Entry) (b : Bool) → slice_get es i ≡ Some e → (not (meant_for a e) || is_dealt_with s o t n e) ≡ b
    → first_unsettled s o t a n m (drop i es) ≡ (if b then first_unsettled s o t a n (m + 1) (drop (i + 1) es) else m)
step s o t a n es m i e b at is =
    ap (first_unsettled s o t a n m) (get_at es i e at) ∙ ap (λ (c : Bool). if c then first_unsettled s o t a n (m + 1) (drop (i + 1) es) else m) is

pub first_passes : (s : Setup) (o : Observation) (t a : ℕ) (n : List ℕ) (es : List Entry) (m i : ℕ) (e : Entry) → slice_get es i ≡ Some e → (not (meant_for a e) || is_dealt_with s o t n e) ≡ true
    → first_unsettled s o t a n m (drop i es) ≡ first_unsettled s o t a n (m + 1) (drop (i + 1) es)
first_passes s o t a n es m i e at passes = step s o t a n es m i e true at passes

pub first_here : (s : Setup) (o : Observation) (t a : ℕ) (n : List ℕ) (es : List Entry) (m i : ℕ) (e : Entry) → slice_get es i ≡ Some e → (not (meant_for a e) || is_dealt_with s o t n e) ≡ false
    → first_unsettled s o t a n m (drop i es) ≡ m
first_here s o t a n es m i e at stops = step s o t a n es m i e false at stops

pub first_past : (s : Setup) (o : Observation) (t a : ℕ) (n : List ℕ) (es : List Entry) (m i : ℕ) → length es ≤ i → first_unsettled s o t a n m (drop i es) ≡ m
first_past s o t a n [] m zero le = refl
first_past s o t a n [] m (suc i) le = refl
first_past s o t a n (f ∷ es) m zero le = absurd (omega (arith, le))
first_past s o t a n (f ∷ es) m (suc i) le = first_past s o t a n es m i (omega (arith, le))

-- ---- what it tells

least : (s : Setup) (o : Observation) (t a : ℕ) (n : List ℕ) (m : ℕ) (fs : List Entry) → m ≤ first_unsettled s o t a n m fs
least s o t a n m [] = omega arith
least s o t a n m (f ∷ fs) = by (not (meant_for a f) || is_dealt_with s o t n f) (least s o t a n (m + 1) fs)
  where
    by : (b : Bool) → m + 1 ≤ first_unsettled s o t a n (m + 1) fs → m ≤ (if b then first_unsettled s o t a n (m + 1) fs else m)
    by true h = omega (arith, h)
    by false h = omega arith

upto : (s : Setup) (o : Observation) (t a : ℕ) (n : List ℕ) (m j : ℕ) (fs : List Entry) → j < length fs
    → nat_lt (m + j) (first_unsettled s o t a n m fs) ≡ list_all (λ (f : Entry). not (meant_for a f) || is_dealt_with s o t n f) (take (suc j) fs)
upto s o t a n m j [] lt = absurd (omega (arith, lt))
upto s o t a n m zero (f ∷ fs) lt = by (not (meant_for a f) || is_dealt_with s o t n f) (least s o t a n (m + 1) fs)
  where
    by : (b : Bool) → m + 1 ≤ first_unsettled s o t a n (m + 1) fs → nat_lt (m + 0) (if b then first_unsettled s o t a n (m + 1) fs else m) ≡ (b && true)
    by true h = grind (arith, nat_tests, h)
    by false h = grind (arith, nat_tests)
upto s o t a n m (suc j) (f ∷ fs) lt = by (not (meant_for a f) || is_dealt_with s o t n f) (upto s o t a n (m + 1) j fs (omega (arith, lt)))
  where
    by : (b : Bool) → nat_lt ((m + 1) + j) (first_unsettled s o t a n (m + 1) fs) ≡ list_all (λ (g : Entry). not (meant_for a g) || is_dealt_with s o t n g) (take (suc j) fs)
        → nat_lt (m + suc j) (if b then first_unsettled s o t a n (m + 1) fs else m) ≡ (b && list_all (λ (g : Entry). not (meant_for a g) || is_dealt_with s o t n g) (take (suc j) fs))
    by true h = let e : m + suc j ≡ (m + 1) + j = omega arith in ap (λ (k : ℕ). nat_lt k (first_unsettled s o t a n (m + 1) fs)) e ∙ h
    by false h = grind (arith, nat_tests)

pub tells_upto_first : (s : Setup) (o : Observation) (t a : ℕ) (n : List ℕ) (j first : ℕ) (fs : List Entry) → j < length fs → first ≡ first_unsettled s o t a n 0 fs
    → nat_lt j first ≡ list_all (λ (f : Entry). not (meant_for a f) || is_dealt_with s o t n f) (take (j + 1) fs)
tells_upto_first s o t a n j first fs lt is =
    let e : j ≡ 0 + j = omega arith in let g : suc j ≡ j + 1 = omega arith in
    ap (λ (k : ℕ). nat_lt j k) is
    ∙ (ap (λ (k : ℕ). nat_lt k (first_unsettled s o t a n 0 fs)) e
    ∙ (upto s o t a n 0 j fs lt ∙ ap (λ (k : ℕ). list_all (λ (f : Entry). not (meant_for a f) || is_dealt_with s o t n f) (take k fs)) g))

-- ---- whether an entry is an update

pub told_none : (s : Setup) (o : Observation) (t x i : ℕ) (e : Entry) (c : Content) → IsNoUpdate c → told_in s o t x i e c ≡ []
told_none s o t x i e (content.Marked (marker.Update n remote)) h = absurd h
told_none s o t x i e (content.Marked (marker.Request id source)) h = refl
told_none s o t x i e (content.Marked (marker.Response id answer)) h = refl
told_none s o t x i e (content.Marked (marker.Snapshot id local remote)) h = refl
told_none s o t x i e content.Data h = refl
told_none s o t x i e (content.Unread b) h = refl

pub told_some : (s : Setup) (o : Observation) (t x i : ℕ) (e : Entry) (c : Content) (n : List ℕ) (remote : List ClusterPosition) → IsUpdate c n remote
    → told_in s o t x i e c ≡ each_at (λ k r. told_of s o t x i e.ident.origin n r) 0 remote
told_some s o t x i e c n remote is = ap (told_in s o t x i e) is
