-- What came from another cluster: nothing is found exactly where it is a beginning of what that one has for this one, each entry standing
-- once here and there. `here` is the topic here, `there` that of y.
use Rattle.std.proofs.Common.{◌≡◌, ℕ, zero, suc, ◌+◌, ◌-◌, ◌<◌, ◌≤◌, Bool, true, false, cond, List, [], ◌∷◌, ◌++◌, length, refl, sym, ap, subst, ◌∙◌, ◌==◌, arith, inl, inr, ◌⊎◌, append_assoc}
use Rattle.std.specs.Prelude.{Option, Some, None, slice_get, take, drop, filter, not, nat_lt, is_none, ◌&&◌}
use Rattle.std.proofs.lemmas.Bool.{and_parts, false≢true, ltb-true, ltb-false}
use Rattle.std.proofs.lemmas.List.{drop-drop, take-append-drop}
use Rattle.std.proofs.lemmas.List.Elements.{filter-append}
use Rattle.std.proofs.lemmas.Option.{none-some, same_Some}
use Rattle.geo_base.specs.declared.entry.Entry.{Entry}
use Rattle.geo_base.specs.declared.entry.Ident.{Ident}
use Rattle.geo_base.specs.Audit.{same_entry}
use Rattle.geo_base.specs.Entry.{goes_to, is_outbound}
use Rattle.geo_base.specs.Laws.{of_origin, outbound}
use Rattle.observation.specs.declared.finding.Finding.TheVariants as finding
use Rattle.observation.specs.Findings.{Brought, brought_as, brought_from, gaps, is_missing, source_of, unless}
use Rattle.observation.specs.Observed.{stands_at}
use Rattle.observation.specs.Safe.{Begins, OnceIn}
use Rattle.observation.proofs.Empty.{all_none, both_empty, empty_both, held, none_at, not_empty, of_take, unless_held}
use Rattle.observation.proofs.Places.{IsAt, entry_ident, one_place, same_outbound, stands_is, stands_once}

-- ---- lists

get_drop : (n : ℕ) (xs : List Entry) (i : ℕ) → slice_get (drop n xs) i ≡ slice_get xs (n + i)
get_drop zero xs i = let e : i ≡ zero + i = omega arith in ap (slice_get xs) e
get_drop (suc n) [] i = refl
get_drop (suc n) (x ∷ xs) i = let e : suc (n + i) ≡ suc n + i = omega arith in get_drop n xs i ∙ ap (slice_get (x ∷ xs)) e

drop_at : (k : ℕ) (xs : List Entry) (f : Entry) → slice_get xs k ≡ Some f → drop k xs ≡ f ∷ drop (k + 1) xs
drop_at k [] f at = absurd (none-some f at)
drop_at zero (x ∷ xs) f at = ap (λ (e : Entry). e ∷ xs) (same_Some _ _ at)
drop_at (suc k) (x ∷ xs) f at = let e : suc (k + 1) ≡ suc k + 1 = omega arith in drop_at k xs f at ∙ ap (λ (n : ℕ). f ∷ drop n (x ∷ xs)) e

no_one_passes : (p : Entry → Bool) (xs : List Entry) → ((i : ℕ) (e : Entry) → slice_get xs i ≡ Some e → p e ≡ false) → filter p xs ≡ []
no_one_passes p [] h = refl
no_one_passes p (x ∷ xs) h = ap (λ (b : Bool). cond b (x ∷ filter p xs) (filter p xs)) (h zero x refl) ∙ no_one_passes p xs (λ i e at. h (suc i) e at)

either_part : (xs ys : List Entry) (m : ℕ) (g : Entry) → slice_get (xs ++ ys) m ≡ Some g → (slice_get xs m ≡ Some g) ⊎ ((n : ℕ) × (slice_get ys n ≡ Some g))
either_part [] ys m g at = inr (m, at)
either_part (x ∷ xs) ys zero g at = inl at
either_part (x ∷ xs) ys (suc m) g at = either_part xs ys m g at

-- the first that passes a test
pub record FirstPassing (p : Entry → Bool) (xs : List Entry) (f : Entry) (fs : List Entry) : Type 0 where
  pub place : ℕ
  pub at : slice_get xs place ≡ Some f
  pub passes : p f ≡ true
  pub before : (i : ℕ) (e : Entry) → i < place → slice_get xs i ≡ Some e → p e ≡ false
  pub after : filter p (drop (place + 1) xs) ≡ fs

first_passing : (p : Entry → Bool) (xs : List Entry) (f : Entry) (fs : List Entry) → filter p xs ≡ f ∷ fs → FirstPassing p xs f fs
first_passing p [] f fs h = let e : 0 ≡ length (f ∷ fs) = ap length h in absurd (omega (arith, e))
first_passing p (x ∷ xs) f fs h = by (p x) refl (first_passing p xs f fs) h
  where
    tail : List Entry → List Entry
    tail [] = []
    tail (e ∷ es) = es

    by : (b : Bool) → p x ≡ b → (filter p xs ≡ f ∷ fs → FirstPassing p xs f fs) → cond b (x ∷ filter p xs) (filter p xs) ≡ f ∷ fs → FirstPassing p (x ∷ xs) f fs
    by true update_writes rest is =
        let same : x ≡ f = same_Some _ _ (ap (λ l. slice_get l zero) is) in
        record {
          place = zero;
          at = ap Some same;
          passes = subst (λ (e : Entry). p e ≡ true) same update_writes;
          before = λ i e lt at. absurd (omega (arith, lt));
          after = ap tail is;
        }
    by false failing rest is =
        let r = rest is in
        record {
          place = suc r.place;
          at = r.at;
          passes = r.passes;
          before = λ i e lt at. earlier r.place r.before i e lt at;
          after = let e : suc (r.place + 1) ≡ suc r.place + 1 = omega arith in subst (λ (n : ℕ). filter p (drop n (x ∷ xs)) ≡ fs) e r.after;
        }
      where
        earlier : (place : ℕ) → ((i : ℕ) (e : Entry) → i < place → slice_get xs i ≡ Some e → p e ≡ false)
            → (i : ℕ) (e : Entry) → i < suc place → slice_get (x ∷ xs) i ≡ Some e → p e ≡ false
        earlier place h zero e lt at = subst (λ (a : Entry). p a ≡ false) (same_Some _ _ at) failing
        earlier place h (suc i) e lt at = h i e (omega (arith, lt)) at

-- ---- one step

abbrev is_of : ℕ → Entry → Bool
is_of y e = e.ident.origin == y

-- where the source of an entry stands, as far as it goes here
source_is : (y x : ℕ) (e : Entry) (there : List Entry) (k : ℕ) → source_of y x e there ≡ Some k → (is_outbound y x e ≡ true) × (stands_at e there ≡ Some k)
source_is y x e there k h = by (is_outbound y x e) refl h
  where
    by : (b : Bool) → is_outbound y x e ≡ b → cond b (stands_at e there) None ≡ Some k → (is_outbound y x e ≡ true) × (stands_at e there ≡ Some k)
    by true goes is = (goes, is)
    by false stays is = absurd (none-some k is)

is_source : (y x : ℕ) (e : Entry) (there : List Entry) (k : ℕ) → is_outbound y x e ≡ true → stands_at e there ≡ Some k → source_of y x e there ≡ Some k
is_source y x e there k out at = ap (λ (b : Bool). cond b (stands_at e there) None) out ∙ at

-- an entry of y that nothing is found of
pub record IsNext (t y x : ℕ) (here there : List Entry) (from i : ℕ) (e : Entry) (es : List Entry) : Type 0 where
  pub source : ℕ
  pub out : is_outbound y x e ≡ true
  pub at : stands_at e there ≡ Some source
  pub reached : from ≤ source
  pub no_gaps : gaps t y x here from (take (source - from) (drop from there)) ≡ []
  pub rest : brought_from t y x here there (source + 1) (i + 1) es ≡ []

next_is : (t y x : ℕ) (here there : List Entry) (from i : ℕ) (e : Entry) (es : List Entry) → brought_from t y x here there from i (e ∷ es) ≡ [] → is_of y e ≡ true
    → IsNext t y x here there from i e es
next_is t y x here there from i e es h own = by (source_of y x e there) refl (subst Found own h)
  where
    whole : Brought → Type 0
    whole b = b.found ++ brought_from t y x here there b.from (i + 1) es ≡ []

    Found : Bool → Type 0
    Found b = whole (cond b (brought_as t y x here there from i (source_of y x e there)) (record { found = []; from = from }))

    reach : (k : ℕ) (b : Bool) → source_of y x e there ≡ Some k → nat_lt k from ≡ b
        → whole (cond b (record { found = finding.Order t x i y ∷ []; from = from }) (record { found = gaps t y x here from (take (k - from) (drop from there)); from = k + 1 }))
        → IsNext t y x here there from i e es
    reach k true is less found = absurd (not_empty (finding.Order t x i y) [] (both_empty (finding.Order t x i y ∷ []) (brought_from t y x here there from (i + 1) es) found).0)
    reach k false is less found =
        let both = both_empty (gaps t y x here from (take (k - from) (drop from there))) (brought_from t y x here there (k + 1) (i + 1) es) found in
        let source = source_is y x e there k is in
        record { source = k; out = source.0; at = source.1; reached = ltb-false k from less; no_gaps = both.0; rest = both.1 }

    by : (o : Option ℕ) → source_of y x e there ≡ o → whole (brought_as t y x here there from i o) → IsNext t y x here there from i e es
    by None is found = absurd (not_empty (finding.Nowhere t x i y) [] (both_empty (finding.Nowhere t x i y ∷ []) (brought_from t y x here there from (i + 1) es) found).0)
    by (Some k) is found = reach k (nat_lt k from) is refl found

-- an entry of another cluster is passed over
other_is : (t y x : ℕ) (here there : List Entry) (from i : ℕ) (e : Entry) (es : List Entry) → brought_from t y x here there from i (e ∷ es) ≡ [] → is_of y e ≡ false
    → brought_from t y x here there from (i + 1) es ≡ []
other_is t y x here there from i e es h other = subst Found other h
  where
    whole : Brought → Type 0
    whole b = b.found ++ brought_from t y x here there b.from (i + 1) es ≡ []

    Found : Bool → Type 0
    Found b = whole (cond b (brought_as t y x here there from i (source_of y x e there)) (record { found = []; from = from }))

begins_cons : (e f : Entry) (es fs : List Entry) → same_entry e f ≡ true → Begins es fs → Begins (e ∷ es) (f ∷ fs)
begins_cons e f es fs same h zero a at = (f, refl, subst (λ (d : Entry). same_entry d f ≡ true) (same_Some _ _ at) same)
begins_cons e f es fs same h (suc k) a at = h k a at

-- ---- nothing is found: then it is a beginning

-- the sources of what is left are not passed yet
sources_left : (t y x : ℕ) (here there : List Entry) (from i : ℕ) (es : List Entry) → brought_from t y x here there from i es ≡ []
    → (n : ℕ) (g : Entry) → slice_get es n ≡ Some g → is_of y g ≡ true → (k : ℕ) × (stands_at g there ≡ Some k) × (from ≤ k)
sources_left t y x here there from i [] h n g at own = absurd (none-some g at)
sources_left t y x here there from i (e ∷ es) h zero g at own =
    let head : e ≡ g = same_Some _ _ at in
    let it = next_is t y x here there from i e es h (subst (λ (a : Entry). is_of y a ≡ true) (sym head) own) in
    (it.source, subst (λ (a : Entry). stands_at a there ≡ Some it.source) head it.at, it.reached)
sources_left t y x here there from i (e ∷ es) h (suc n) g at own =
    by (is_of y e) refl (λ m found. sources_left t y x here there m (i + 1) es found n g at own)
  where
    by : (b : Bool) → is_of y e ≡ b → ((m : ℕ) → brought_from t y x here there m (i + 1) es ≡ [] → (k : ℕ) × (stands_at g there ≡ Some k) × (m ≤ k))
        → (k : ℕ) × (stands_at g there ≡ Some k) × (from ≤ k)
    by true mine left =
        let it = next_is t y x here there from i e es h mine in
        let r = left (it.source + 1) it.rest in
        let a = it.reached in let b = r.2 in (r.0, r.1, omega (arith, a, b))
    by false other left = left from (other_is t y x here there from i e es h other)

-- what was read so far: the sources of it are passed
abbrev ArePassed : ℕ → List Entry → ℕ → List Entry → Type 0
ArePassed y there from pre = (m : ℕ) (g : Entry) → slice_get pre m ≡ Some g → is_of y g ≡ true → (k : ℕ) × (stands_at g there ≡ Some k) × (k < from)

-- two that are the same have one source
one_source : (there : List Entry) (e f : Entry) (k j : ℕ) → OnceIn there → stands_at e there ≡ Some k → slice_get there j ≡ Some f → e.ident ≡ f.ident → k ≡ j
one_source there e f k j once at atj same =
    let s = stands_is e there k at in one_place there k j s.entry f once s.at atj (sym (entry_ident e s.entry s.same) ∙ same)

nothing_between : (t y x : ℕ) (pre : List Entry) (e : Entry) (es there : List Entry) (from i : ℕ) → OnceIn there → ArePassed y there from pre
    → (it : IsNext t y x (pre ++ e ∷ es) there from i e es) → (j : ℕ) (f : Entry) → from ≤ j → j < it.source → slice_get there j ≡ Some f → is_outbound y x f ≡ false
nothing_between t y x pre e es there from i once passed it j f low high at = by (is_outbound y x f) refl
  where
    here : List Entry
    here = pre ++ e ∷ es

    here_too : (o : Option ℕ) → stands_at f here ≡ o → is_outbound y x f ≡ true → is_none o ≡ false → ⊥
    here_too None is out none = false≢true (sym none)
    here_too (Some m) is out none =
        let s = stands_is f here m is in
        let ident : s.entry.ident ≡ f.ident = sym (entry_ident f s.entry s.same) in
        let own : is_of y s.entry ≡ true = subst (λ (g : Ident). (g.origin == y) ≡ true) (sym ident) (and_parts (f.ident.origin == y) (goes_to x f.to) out).0 in
        elim (either_part pre (e ∷ es) m s.entry s.at) [
          | inl before ↦
              let r = passed m s.entry before own in let place : r.0 ≡ j = one_source there s.entry f r.0 j once r.1 at ident in
              let less = r.2 in omega (arith, less, place, low)
          | inr at_or_after ↦ later at_or_after.0 s.entry at_or_after.1 ident own
        ]
      where
        later : (n : ℕ) (g : Entry) → slice_get (e ∷ es) n ≡ Some g → g.ident ≡ f.ident → is_of y g ≡ true → ⊥
        later zero g gat ident own =
            let head : e ≡ g = same_Some _ _ gat in
            let place : it.source ≡ j = one_source there e f it.source j once it.at at (ap (λ (a : Entry). a.ident) head ∙ ident) in omega (arith, place, high)
        later (suc n) g gat ident own =
            let r = sources_left t y x here there (it.source + 1) (i + 1) es it.rest n g gat own in
            let place : r.0 ≡ j = one_source there g f r.0 j once r.1 at ident in let more = r.2 in omega (arith, more, place, high)

    taken : slice_get (take (it.source - from) (drop from there)) (j - from) ≡ Some f
    taken = in_part (it.source - from) (drop from there) (j - from) (omega (arith, low, high)) (get_drop from there (j - from) ∙ (let e : from + (j - from) ≡ j = omega (arith, low) in ap (slice_get there) e) ∙ at)
      where
        in_part : (n : ℕ) (xs : List Entry) (k : ℕ) → k < n → slice_get xs k ≡ Some f → slice_get (take n xs) k ≡ Some f
        in_part zero xs k lt h = absurd (omega (arith, lt))
        in_part (suc n) [] k lt h = absurd (none-some f h)
        in_part (suc n) (a ∷ xs) zero lt h = h
        in_part (suc n) (a ∷ xs) (suc k) lt h = in_part n xs k (omega (arith, lt)) h

    missing_not : not (is_missing y x here f) ≡ true
    missing_not =
        held (not (is_missing y x here f)) (finding.Gap t x y (from + (j - from)))
        (none_at (λ (k : ℕ) (d : Entry). unless (not (is_missing y x here d)) (finding.Gap t x y k)) from (take (it.source - from) (drop from there)) (j - from) f it.no_gaps taken)

    by : (b : Bool) → is_outbound y x f ≡ b → is_outbound y x f ≡ false
    by false stays = stays
    by true out = absurd (here_too (stands_at f here) refl out (not_none (is_none (stands_at f here)) refl))
      where
        not_none : (b : Bool) → is_none (stands_at f here) ≡ b → b ≡ false
        not_none false is = refl
        not_none true is =
            let M : Bool → Bool → Type 0 = λ c d. not (c && d) ≡ true in
            absurd (false≢true (subst (M true) is (subst (λ (c : Bool). M c (is_none (stands_at f here))) out missing_not)))

begins_on : (t y x : ℕ) (pre es there : List Entry) (from i : ℕ) → OnceIn there → ArePassed y there from pre → brought_from t y x (pre ++ es) there from i es ≡ []
    → Begins (of_origin y es) (outbound y x (drop from there))
begins_on t y x pre [] there from i once passed h = λ k a at. absurd (none-some a at)
begins_on t y x pre (e ∷ es) there from i once passed h =
    by (is_of y e) refl (λ n all rest.
    begins_on t y x (pre ++ e ∷ []) es there n (i + 1) once all
    (subst (λ (l : List Entry). brought_from t y x l there n (i + 1) es ≡ []) (sym (append_assoc pre (e ∷ []) es)) rest))
  where
    here : List Entry
    here = pre ++ e ∷ es

    On : Type 0
    On = (n : ℕ) → ArePassed y there n (pre ++ e ∷ []) → brought_from t y x here there n (i + 1) es ≡ [] → Begins (of_origin y es) (outbound y x (drop n there))

    one_more : (n : ℕ) → ArePassed y there n pre → (is_of y e ≡ true → (k : ℕ) × (stands_at e there ≡ Some k) × (k < n)) → ArePassed y there n (pre ++ e ∷ [])
    one_more n all last m g at own =
        elim (either_part pre (e ∷ []) m g at) [
          | inl before ↦ all m g before own
          | inr last_one ↦ end last_one.0 last_one.1
        ]
      where
        end : (k : ℕ) → slice_get (e ∷ []) k ≡ Some g → (k : ℕ) × (stands_at g there ≡ Some k) × (k < n)
        end zero is = let head : e ≡ g = same_Some _ _ is in
            subst (λ (a : Entry). (k : ℕ) × (stands_at a there ≡ Some k) × (k < n)) head (last (subst (λ (a : Entry). is_of y a ≡ true) (sym head) own))
        end (suc k) is = absurd (none-some g is)

    by : (b : Bool) → is_of y e ≡ b → On → Begins (cond b (e ∷ of_origin y es) (of_origin y es)) (outbound y x (drop from there))
    by false other on = on from (one_more from passed (λ own. absurd (false≢true (sym other ∙ own)))) (other_is t y x here there from i e es h other)
    by true own on = go_on it after (stands_is e there it.source it.at)
      where
        it : IsNext t y x here there from i e es
        it = next_is t y x here there from i e es h own

        after : Begins (of_origin y es) (outbound y x (drop (it.source + 1) there))
        after = on (it.source + 1)
            (one_more (it.source + 1) (λ m g at mine. let r = passed m g at mine in let a = r.2 in let b = it.reached in (r.0, r.1, omega (arith, a, b)))
            (λ mine. (it.source, it.at, omega arith))) it.rest

        go_on : (n : IsNext t y x here there from i e es) → Begins (of_origin y es) (outbound y x (drop (n.source + 1) there)) → IsAt e there n.source
            → Begins (e ∷ of_origin y es) (outbound y x (drop from there))
        go_on one rest s =
            let k = one.source in let part = take (k - from) (drop from there) in let behind = drop (k + 1) there in
            let reached = one.reached in
            let none : outbound y x part ≡ [] =
            no_one_passes (is_outbound y x) part (λ n d at.
            let r = of_take (k - from) (drop from there) n d at in let less = r.0 in
            nothing_between t y x pre e es there from i once passed one (from + n) d (omega arith) (omega (arith, less, reached)) (sym (get_drop from there n) ∙ r.1)) in
            let to_source : drop (k - from) (drop from there) ≡ s.entry ∷ behind =
            drop-drop (k - from) from there ∙ (let n : from + (k - from) ≡ k = omega (arith, reached) in ap (λ (m : ℕ). drop m there) n) ∙ drop_at k there s.entry s.at in
            let out : is_outbound y x s.entry ≡ true = sym (same_outbound y x e s.entry s.same) ∙ one.out in
            let all : outbound y x (drop from there) ≡ s.entry ∷ outbound y x behind =
            ap (outbound y x) (sym (take-append-drop (k - from) (drop from there)) ∙ ap (λ (l : List Entry). part ++ l) to_source)
            ∙ filter-append (is_outbound y x) part (s.entry ∷ behind)
            ∙ ap (λ (l : List Entry). l ++ outbound y x (s.entry ∷ behind)) none
            ∙ ap (λ (b : Bool). cond b (s.entry ∷ outbound y x behind) (outbound y x behind)) out in
            subst (λ (l : List Entry). Begins (e ∷ of_origin y es) l) (sym all) (begins_cons e s.entry (of_origin y es) (outbound y x behind) s.same rest)

pub brought_begins : (t y x : ℕ) (here there : List Entry) → OnceIn there → brought_from t y x here there 0 0 here ≡ [] → Begins (of_origin y here) (outbound y x there)
brought_begins t y x here there once h = begins_on t y x [] here there 0 0 once (λ m g at own. absurd (none-some g at)) h

-- ---- it is a beginning: then nothing is found

no_gap_in : (t y x : ℕ) (here : List Entry) (from : ℕ) (fs : List Entry) → ((n : ℕ) (f : Entry) → slice_get fs n ≡ Some f → is_outbound y x f ≡ false)
    → gaps t y x here from fs ≡ []
no_gap_in t y x here from fs h =
    all_none (λ (k : ℕ) (d : Entry). unless (not (is_missing y x here d)) (finding.Gap t x y k)) from fs
    (λ k d at. unless_held (not (is_missing y x here d)) (finding.Gap t x y (from + k)) (ap (λ (b : Bool). not (b && is_none (stands_at d here))) (h k d at)))

nothing_on : (t y x : ℕ) (here there : List Entry) (from i : ℕ) (es : List Entry) → OnceIn there → Begins (of_origin y es) (outbound y x (drop from there))
    → brought_from t y x here there from i es ≡ []
nothing_on t y x here there from i [] once h = refl
nothing_on t y x here there from i (e ∷ es) once h = by (is_of y e) refl (λ n. nothing_on t y x here there n (i + 1) es once) h
  where
    whole : Brought → Type 0
    whole b = b.found ++ brought_from t y x here there b.from (i + 1) es ≡ []

    Found : Bool → Type 0
    Found b = whole (cond b (brought_as t y x here there from i (source_of y x e there)) (record { found = []; from = from }))

    reach : (k : ℕ) (b : Bool) → nat_lt k from ≡ b → from ≤ k → gaps t y x here from (take (k - from) (drop from there)) ≡ [] → brought_from t y x here there (k + 1) (i + 1) es ≡ []
        → whole (cond b (record { found = finding.Order t x i y ∷ []; from = from }) (record { found = gaps t y x here from (take (k - from) (drop from there)); from = k + 1 }))
    reach k true less le none rest = let lt : k < from = ltb-true k from less in absurd (omega (arith, lt, le))
    reach k false less le none rest = empty_both (gaps t y x here from (take (k - from) (drop from there))) (brought_from t y x here there (k + 1) (i + 1) es) none rest

    Left : Type 0
    Left = (n : ℕ) → Begins (of_origin y es) (outbound y x (drop n there)) → brought_from t y x here there n (i + 1) es ≡ []

    on : (f : Entry) (fs : List Entry) → Left → same_entry e f ≡ true → outbound y x (drop from there) ≡ f ∷ fs → Begins (of_origin y es) fs → is_of y e ≡ true → Found (is_of y e)
    on f fs left same is rest own =
        let r = first_passing (is_outbound y x) (drop from there) f fs is in let k = from + r.place in
        let at : slice_get there k ≡ Some f = sym (get_drop from there r.place) ∙ r.at in
        let out : is_outbound y x e ≡ true = same_outbound y x e f same ∙ r.passes in
        let source : source_of y x e there ≡ Some k = is_source y x e there k out (stands_once e f there k once at same) in
        let part : gaps t y x here from (take (k - from) (drop from there)) ≡ [] =
        no_gap_in t y x here from (take (k - from) (drop from there)) (λ n d dat.
        let q = of_take (k - from) (drop from there) n d dat in let less = q.0 in r.before n d (omega (arith, less)) q.1) in
        let behind : outbound y x (drop (k + 1) there) ≡ fs =
        ap (outbound y x) (sym (drop-drop (r.place + 1) from there ∙ (let n : from + (r.place + 1) ≡ k + 1 = omega arith in ap (λ (m : ℕ). drop m there) n))) ∙ r.after in
        let after = left (k + 1) (subst (λ (l : List Entry). Begins (of_origin y es) l) (sym behind) rest) in
        subst Found (sym own) (subst (λ (o : Option ℕ). whole (brought_as t y x here there from i o)) (sym source)
        (reach k (nat_lt k from) refl (omega arith) part after))

    by : (b : Bool) → is_of y e ≡ b → Left → Begins (cond b (e ∷ of_origin y es) (of_origin y es)) (outbound y x (drop from there)) → Found (is_of y e)
    by false other left begins = subst Found (sym other) (left from begins)
    by true own left begins =
        let first = begins zero e refl in go (outbound y x (drop from there)) first.0 first.1 refl begins own first.2
      where
        go : (fs : List Entry) (f : Entry) → slice_get fs zero ≡ Some f → fs ≡ outbound y x (drop from there) → Begins (e ∷ of_origin y es) (outbound y x (drop from there))
            → is_of y e ≡ true → same_entry e f ≡ true → Found (is_of y e)
        go [] f at is begins own same = absurd (none-some f at)
        go (g ∷ gs) f at is begins own same =
            let whole_is : outbound y x (drop from there) ≡ f ∷ gs = sym is ∙ ap (λ (d : Entry). d ∷ gs) (same_Some _ _ at) in
            let begun : Begins (e ∷ of_origin y es) (f ∷ gs) = subst (λ (l : List Entry). Begins (e ∷ of_origin y es) l) whole_is begins in
            on f gs left same whole_is (λ k a kat. begun (suc k) a kat) own

pub begins_brought : (t y x : ℕ) (here there : List Entry) → OnceIn there → Begins (of_origin y here) (outbound y x there) → brought_from t y x here there 0 0 here ≡ []
begins_brought t y x here there once h = nothing_on t y x here there 0 0 here once h
