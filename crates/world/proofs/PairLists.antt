-- The events of settling, as loops over topics, sources and targets make them.
use Rattle.std.proofs.Common.{◌≡◌, ℕ, suc, ◌+◌, ◌-◌, ◌<◌, Bool, List, [], ◌∷◌, ◌++◌, refl, sym, ◌∙◌, ap, subst, append_assoc, arith}
use Rattle.std.proofs.lemmas.Bool.{eq-eqb}
use Rattle.std.proofs.lemmas.List.{append-nil}
use Rattle.std.specs.Prelude.{if◌then◌else◌}
use Rattle.std.specs.List.{range_with_len}
use Rattle.geo_base.specs.declared.event.Event.{Event}
use Rattle.geo_base.specs.declared.event.Event.TheVariants as event
use Rattle.geo_base.specs.Run.{Pair, pairs_from, pairs_of, pairs_to, resets_of, round_of}
use Rattle.world.specs.declared.settling_events.SettlingEvents.{SettlingEvents}
use Rattle.world.specs.Settling.{Adds}
use Rattle.world.proofs.SettlingRuns.{differ}

-- the numbers from i on, below n
abbrev pub numbers : ℕ → ℕ → List ℕ
numbers n i = range_with_len i (n - i)

next_number : (n i : ℕ) → i < n → numbers n i ≡ i ∷ numbers n (i + 1)
next_number n i lt = let more : n - i ≡ suc (n - (i + 1)) = omega (arith, lt) in rw more refl

-- what is made, and what is left, are the whole
pub record IsLeft (old now : SettlingEvents) (rest whole : List Pair) : Type 0 where
  pub resets : now.resets ++ resets_of rest ≡ old.resets ++ resets_of whole
  pub round : now.round ++ round_of rest ≡ old.round ++ round_of whole

resets_append : (ps qs : List Pair) → resets_of (ps ++ qs) ≡ resets_of ps ++ resets_of qs
resets_append [] qs = refl
resets_append (p ∷ ps) qs = ap (λ (es : List Event). event.Reset p.topic p.source p.target ∷ es) (resets_append ps qs)

round_append : (ps qs : List Pair) → round_of (ps ++ qs) ≡ round_of ps ++ round_of qs
round_append [] qs = refl
round_append (p ∷ ps) qs = ap (λ (es : List Event). round_of (p ∷ []) ++ es) (round_append ps qs)

added : (es ds fs bs cs : List Event) → es ≡ ds ++ fs → cs ≡ fs ++ bs → es ++ bs ≡ ds ++ cs
added es ds fs bs cs is both = rw (is, both) (append_assoc ds fs bs)

pub left_more : (old mid new : SettlingEvents) (ps rest left whole : List Pair) → IsLeft old mid left whole → left ≡ ps ++ rest → Adds mid new ps → IsLeft old new rest whole
left_more old mid new ps rest left whole h is adds = record {
  resets = added new.resets mid.resets (resets_of ps) (resets_of rest) (resets_of left) adds.resets (ap resets_of is ∙ resets_append ps rest) ∙ h.resets;
  round = added new.round mid.round (round_of ps) (round_of rest) (round_of left) adds.round (ap round_of is ∙ round_append ps rest) ∙ h.round;
}

pub left_same : (old now : SettlingEvents) (left rest whole : List Pair) → IsLeft old now left whole → left ≡ rest → IsLeft old now rest whole
left_same old now left rest whole h is = subst (λ (ps : List Pair). IsLeft old now ps whole) is h

-- ---- each loop begins, goes on and ends

pub targets_more : (old mid new : SettlingEvents) (t x n y : ℕ) (whole : List Pair) → y < n → (x ≡ y → ⊥) → IsLeft old mid (pairs_to t x (numbers n y)) whole
    → Adds mid new (record { topic = t; source = x; target = y } ∷ []) → IsLeft old new (pairs_to t x (numbers n (y + 1))) whole
targets_more old mid new t x n y whole lt apart h adds =
    let p : Pair = record { topic = t; source = x; target = y } in
    let ps : List Pair = pairs_to t x (numbers n (y + 1)) in
    left_more old mid new (p ∷ []) ps (pairs_to t x (numbers n y)) whole h
    (ap (pairs_to t x) (next_number n y lt) ∙ ap (λ (b : Bool). if b then ps else p ∷ ps) (differ x y apart)) adds

pub targets_same : (old now : SettlingEvents) (t x n y : ℕ) (whole : List Pair) → y < n → x ≡ y → IsLeft old now (pairs_to t x (numbers n y)) whole
    → IsLeft old now (pairs_to t x (numbers n (y + 1))) whole
targets_same old now t x n y whole lt is h =
    let p : Pair = record { topic = t; source = x; target = y } in
    let ps : List Pair = pairs_to t x (numbers n (y + 1)) in
    left_same old now (pairs_to t x (numbers n y)) ps whole h
    (ap (pairs_to t x) (next_number n y lt) ∙ ap (λ (b : Bool). if b then ps else p ∷ ps) (eq-eqb x y is))

all_added : (old new : SettlingEvents) (left whole : List Pair) → left ≡ [] → IsLeft old new left whole → Adds old new whole
all_added old new left whole is h =
    let k : IsLeft old new [] whole = subst (λ (ps : List Pair). IsLeft old new ps whole) is h in
    record { resets = sym (append-nil new.resets) ∙ k.resets; round = sym (append-nil new.round) ∙ k.round }

pub sources_more : (old mid new : SettlingEvents) (t n x : ℕ) (ys : List ℕ) (whole : List Pair) → x < n → IsLeft old mid (pairs_from t (numbers n x) ys) whole
    → Adds mid new (pairs_to t x ys) → IsLeft old new (pairs_from t (numbers n (x + 1)) ys) whole
sources_more old mid new t n x ys whole lt h adds =
    left_more old mid new (pairs_to t x ys) (pairs_from t (numbers n (x + 1)) ys) (pairs_from t (numbers n x) ys) whole h
    (ap (λ (xs : List ℕ). pairs_from t xs ys) (next_number n x lt)) adds

pub topics_more : (old mid new : SettlingEvents) (n t : ℕ) (xs : List ℕ) (whole : List Pair) → t < n → IsLeft old mid (pairs_of (numbers n t) xs) whole
    → Adds mid new (pairs_from t xs xs) → IsLeft old new (pairs_of (numbers n (t + 1)) xs) whole
topics_more old mid new n t xs whole lt h adds =
    left_more old mid new (pairs_from t xs xs) (pairs_of (numbers n (t + 1)) xs) (pairs_of (numbers n t) xs) whole h
    (ap (λ (ts : List ℕ). pairs_of ts xs) (next_number n t lt)) adds
