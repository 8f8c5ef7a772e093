-- Which logs are strange, and what counts of them.
use Rattle.std.proofs.Common.{◌≡◌, ℕ, zero, suc, ◌+◌, ◌<◌, ◌≤◌, Bool, true, false, List, [], ◌∷◌, ◌++◌, length, refl, sym, ap, subst, ◌∙◌, arith, inl, inr}
use Rattle.std.specs.Prelude.{None, Option, Some, slice_get, slice_index_or}
use Rattle.std.proofs.lemmas.Option.{none-some, same_Some}
use Rattle.script_text.specs.Script.{Script}
use Rattle.world_laws.proofs.OnceInOrder.Members.{below_or}
use Rattle.merge_history.specs.Kept.{kept_by}
use Rattle.merge_history.specs.declared.difference.Difference.TheVariants as difference
use Rattle.merge_history.specs.Logs.{AreKept, AreOwn, AreTold, LogView, ConfigView, Counts, IsFirstFalse, IsOwn, IsTold, counted_of, kept_of}
use Rattle.merge_history.specs.Merges.{IsFirstStrange, IsStrangeAt}
use Rattle.geo_base.proofs.Lists.{get_below, index_or_pushed, length_push}

-- ---- one log after another
abbrev pub ToldBelow : Script → List LogView → List Bool → ℕ → Type 0
ToldBelow c bs ts k =
    (length ts ≡ k) × ((n : ℕ) (b : LogView) → n < k → slice_get bs n ≡ Some b → IsTold c n b (slice_index_or ts n true))

within_front : {X : Type 0} (xs : List X) (y d : X) (n : ℕ) → n < length xs → slice_index_or (xs ++ y ∷ []) n d ≡ slice_index_or xs n d
within_front [] y d n lt = absurd (omega (arith, lt))
within_front (x ∷ xs) y d zero lt = refl
within_front (x ∷ xs) y d (suc n) lt = within_front xs y d n (omega (arith, lt))

got_is : {X : Type 0} (xs : List X) (n : ℕ) (x y : X) → slice_get xs n ≡ Some x → y ≡ slice_index_or xs n y → y ≡ x
got_is [] n x y at is = absurd (none-some x at)
got_is (z ∷ xs) zero x y at is = is ∙ same_Some z x at
got_is (z ∷ xs) (suc n) x y at is = got_is xs n x y at is

pub told_more : (c : Script) (bs : List LogView) (ts : List Bool) (k : ℕ) (b : LogView) (t : Bool) → b ≡ slice_index_or bs k b
    → (t ≡ true → IsOwn c k b) → (t ≡ false → IsOwn c k b → ⊥) → ToldBelow c bs ts k → ToldBelow c bs (ts ++ t ∷ []) (k + 1)
told_more c bs ts k b t is own strange h =
    let size = length_push ts t in let same = h.0 in (
      omega (arith, size, same),
      λ n a lt at.
          elim (below_or n k) [
            | inl lt' ↦ subst (IsTold c n a) (sym (within_front ts t true n (omega (arith, lt', same)))) (h.1 n a lt' at)
            | inr ge ↦
                let e : k ≡ n = omega (arith, lt, ge) in
                let here : slice_index_or (ts ++ t ∷ []) k true ≡ t = ap (λ (i : ℕ). slice_index_or (ts ++ t ∷ []) i true) (sym same) ∙ index_or_pushed ts t true in
                let b_is : b ≡ a = got_is bs k a b (ap (slice_get bs) e ∙ at) is in
                subst (λ (i : ℕ). IsTold c i a (slice_index_or (ts ++ t ∷ []) i true)) e
                (subst (IsTold c k a) (sym here) (subst (λ (d : LogView). IsTold c k d t) b_is (told t own strange)))
          ],
    )
  where
    told : (t : Bool) → (t ≡ true → IsOwn c k b) → (t ≡ false → IsOwn c k b → ⊥) → IsTold c k b t
    told true own strange = own refl
    told false own strange = strange refl

pub told_all : (c : Script) (bs : List LogView) (ts : List Bool) (k : ℕ) → k ≤ length bs → length bs ≤ k → ToldBelow c bs ts k → AreTold c bs ts
told_all c bs ts k le ge h =
    let same = h.0 in record {
      size = omega (arith, same, le, ge);
      each = λ n b at. let lt = get_below bs n b at in h.1 n b (omega (arith, lt, ge)) at;
    }

-- ---- what counts
kept_size : (ts : List Bool) (bs : List LogView) → length ts ≡ length bs → length (kept_of ts bs) ≡ length bs
kept_size [] [] same = refl
kept_size [] (b ∷ bs) same = absurd (omega (arith, same))
kept_size (t ∷ ts) [] same = absurd (omega (arith, same))
kept_size (t ∷ ts) (b ∷ bs) same = ap suc (kept_size ts bs (omega (arith, same)))

kept_at : (ts : List Bool) (bs : List LogView) (n : ℕ) (b : LogView) → length ts ≡ length bs → slice_get bs n ≡ Some b
    → kept_by (kept_of ts bs) n ≡ counted_of (slice_index_or ts n true) b
kept_at [] [] n b same at = absurd (none-some b at)
kept_at [] (c ∷ bs) n b same at = absurd (omega (arith, same))
kept_at (t ∷ ts) [] n b same at = absurd (none-some b at)
kept_at (t ∷ ts) (c ∷ bs) zero b same at = ap (counted_of t) (same_Some c b at)
kept_at (t ∷ ts) (c ∷ bs) (suc n) b same at = kept_at ts bs n b (omega (arith, same)) at

pub kept_is : (c : Script) (ts : List Bool) (bs : List LogView) → AreTold c bs ts → AreKept c bs (kept_of ts bs)
kept_is c ts bs told = record {
  size = kept_size ts bs told.size;
  each = λ n b at. counts n b (slice_index_or ts n true) (told.each n b at) (kept_at ts bs n b told.size at);
}
  where
    counts : (n : ℕ) (b : LogView) (t : Bool) → IsTold c n b t → kept_by (kept_of ts bs) n ≡ counted_of t b → Counts c n b (kept_by (kept_of ts bs) n)
    counts n b true own is = Counts.All own is
    counts n b false strange is = Counts.Nothing strange is

pub kept_few : (ts : List Bool) (bs : List LogView) (m : ℕ) → length ts ≡ length bs → length bs < m → length (kept_of ts bs) < m
kept_few ts bs m same lt = let e = kept_size ts bs same in omega (arith, e, lt)

-- ---- no log is strange, or one is the first
pub all_own : (c : Script) (ts : List Bool) (bs : List LogView) → AreTold c bs ts → ((k : ℕ) → slice_index_or ts k true ≡ true) → AreOwn c bs
all_own c ts bs told all n b at = subst (IsTold c n b) (all n) (told.each n b at)

strange_log : (c : Script) (ts : List Bool) (bs : List LogView) (n : ℕ) (old given : ConfigView) (o : Option LogView) → slice_get bs n ≡ o → AreTold c bs ts → IsFirstFalse ts n
    → ((b : LogView) → slice_get bs n ≡ Some b → old ≡ record { scenario = b.scenario; node = b.node }) → given ≡ record { scenario = c; node = n }
    → IsFirstStrange c bs n old given
strange_log c ts bs n old given None at told first keeps asked =
    let lt = first.within in let size = told.size in absurd (none_there bs n at (omega (arith, lt, size)))
  where
    none_there : (xs : List LogView) (n : ℕ) → slice_get xs n ≡ None → n < length xs → ⊥
    none_there [] n e lt = omega (arith, lt)
    none_there (x ∷ xs) zero e lt = none-some x (sym e)
    none_there (x ∷ xs) (suc n) e lt = none_there xs n e (omega (arith, lt))
strange_log c ts bs n old given (Some b) at told first keeps asked = record {
  log = b;
  there = at;
  strange = subst (IsTold c n b) first.is_false (told.each n b at);
  first = λ m a lt there. subst (IsTold c m a) (first.before m lt) (told.each m a there);
  keeps = keeps b at;
  asked = asked;
}

pub first_is : (c : Script) (ts : List Bool) (bs : List LogView) (n k : ℕ) (old given : ConfigView) → AreTold c bs ts → IsFirstFalse ts k
    → IsStrangeAt c bs k (difference.Config n old given) → IsFirstStrange c bs n old given
first_is c ts bs n k old given told first is =
    subst (λ (i : ℕ). IsFirstStrange c bs i old given) (sym is.0) (strange_log c ts bs k old given (slice_get bs k) refl told first is.1 is.2)

-- ---- the first that is false
past_true : (ts : List Bool) (k : ℕ) → length ts ≤ k → slice_index_or ts k true ≡ true
past_true [] k le = refl
past_true (t ∷ ts) zero le = absurd (omega (arith, le))
past_true (t ∷ ts) (suc k) le = past_true ts k (omega (arith, le))

pub true_more : (ts : List Bool) (n : ℕ) → slice_index_or ts n true ≡ true → ((k : ℕ) → k < n → slice_index_or ts k true ≡ true)
    → (k : ℕ) → k < n + 1 → slice_index_or ts k true ≡ true
true_more ts n here before k lt =
    elim (below_or k n) [
      | inl lt' ↦ before k lt'
      | inr ge ↦ let e : n ≡ k = omega (arith, lt, ge) in subst (λ (i : ℕ). slice_index_or ts i true ≡ true) e here
    ]

pub all_true : (ts : List Bool) (n : ℕ) → length ts ≤ n → ((k : ℕ) → k < n → slice_index_or ts k true ≡ true) → (k : ℕ) → slice_index_or ts k true ≡ true
all_true ts n le before k = elim (below_or k n) [ inl lt ↦ before k lt | inr ge ↦ past_true ts k (omega (arith, le, ge)) ]
