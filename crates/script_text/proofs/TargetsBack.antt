-- A list of clusters that is written reads back, and breaks no rule.
use Rattle.std.proofs.Common.{◌≡◌, ℕ, suc, ◌/◌, ◌%◌, ◌<◌, ◌^◌, nat_lt, ◌==◌, Bool, true, false, not, List, [], ◌∷◌, length, get_or, All, Some, codes, arith, refl, sym, ap, ◌∙◌, subst}
use Rattle.std.specs.List.{list_all, join_with_byte}
use Rattle.std.specs.Str.{bytes_eq}
use Rattle.std.proofs.lemmas.Bool.{and_from, and_parts, both_ways, cond_both, false_from_ne_true, ltb-true, ne_eqb, or_from, or_left, or_parts, or_right}
use Rattle.std.proofs.lemmas.List.Elements.{All-from_get_or}
use Rattle.std.proofs.lemmas.List.Folds.{list_any_none}
use Rattle.std.proofs.lemmas.List.Splits.{slice_split_at, slice_split_none}
use Rattle.std.proofs.lemmas.Option.{slice_get-get_or}
use Rattle.std.proofs.lemmas.Slice.Eq.{bytes_eq-Decides}
use Rattle.geo_base.specs.declared.entry.Targets.{Targets}
use Rattle.geo_base.specs.declared.entry.Targets.TheVariants as targets
use Rattle.geo_base.specs.Name.{is_name, name_byte}
use Rattle.geo_base.specs.Scripted.{AreDistinct, names_some}
use Rattle.script_rows.specs.NameBytes.{AreApart, has_long, has_repeat, has_stranger, is_among, mask_of, names_in}
use Rattle.script_rows.specs.NameWords.{Word, has_name_bytes, is_long, listed}
use Rattle.script_rows.proofs.Masks.{mask_back}
use Rattle.script_rows.specs.Columns.{target_names, targets_of}
use Rattle.script_rows.specs.Written.{AreNames, targets_word}
use Rattle.script_rows.proofs.Back.{passes}
use Rattle.script_rows.proofs.Plain.{is_plain, is_visible}
use Rattle.script_text.proofs.PlainWords.{has_bytes, is_short, name_high, name_plain, named_bytes, weaker}
use Rattle.std.proofs.lemmas.List.Folds.{list_all-append}

-- ---- names told apart
other_way : (a b : Word) → bytes_eq a b ≡ false → bytes_eq b a ≡ false
other_way a b apart =
    false_from_ne_true (bytes_eq b a) (λ same. both_ways (bytes_eq a b) apart ((bytes_eq-Decides a b).1 (sym ((bytes_eq-Decides b a).0 same))))

first_apart : (x : Word) (xs : List Word) → AreDistinct (x ∷ xs) → is_among xs x ≡ false
first_apart x xs a =
    list_any_none (λ n. bytes_eq n x) xs (All-from_get_or (λ n. bytes_eq n x ≡ false) xs [] (λ k within. other_way x (get_or xs k []) (a 0 (suc k) x (get_or xs k []) (omega arith) refl (slice_get-get_or xs k [] within))))

others_apart : (x : Word) (xs : List Word) → AreDistinct (x ∷ xs) → AreDistinct xs
others_apart x xs a i j m n before at_i at_j = a (suc i) (suc j) m n (omega arith) at_i at_j

all_apart : (xs : List Word) → AreDistinct xs → AreApart xs
all_apart [] a = tt
all_apart (x ∷ xs) a = (first_apart x xs a, all_apart xs (others_apart x xs a))

-- ---- the names of a set
none_chosen : (xs : List Word) (m : ℕ) (x : Word) → is_among xs x ≡ false → is_among (names_in xs m) x ≡ false
none_chosen [] m x none = refl
none_chosen (y ∷ ys) m x none =
    let parts = or_parts (bytes_eq y x) (is_among ys x) none in
    let more = none_chosen ys (m / 2) x parts.1 in
    cond_both (m % 2 == 1) (y ∷ names_in ys (m / 2)) (names_in ys (m / 2)) (λ (ws : List Word). is_among ws x ≡ false) (λ _. or_from (bytes_eq y x) (is_among (names_in ys (m / 2)) x) parts.0 more) (λ _. more)

no_repeat : (xs : List Word) (m : ℕ) → AreApart xs → has_repeat (names_in xs m) ≡ false
no_repeat [] m a = refl
no_repeat (x ∷ xs) m a =
    let more = no_repeat xs (m / 2) a.1 in
    cond_both (m % 2 == 1) (x ∷ names_in xs (m / 2)) (names_in xs (m / 2)) (λ (ws : List Word). has_repeat ws ≡ false) (λ _. or_from (is_among (names_in xs (m / 2)) x) (has_repeat (names_in xs (m / 2))) (none_chosen xs (m / 2) x a.0) more) (λ _. more)

-- what holds of each name holds of those chosen
all_chosen : (p : Word → Bool) (xs : List Word) (m : ℕ) → list_all p xs ≡ true → list_all p (names_in xs m) ≡ true
all_chosen p [] m all = refl
all_chosen p (x ∷ xs) m all =
    let parts = and_parts (p x) (list_all p xs) all in
    let more = all_chosen p xs (m / 2) parts.1 in
    cond_both (m % 2 == 1) (x ∷ names_in xs (m / 2)) (names_in xs (m / 2)) (λ (ws : List Word). list_all p ws ≡ true) (λ _. and_from (p x) (list_all p (names_in xs (m / 2))) parts.0 more) (λ _. more)

each_among : (all xs : List Word) → ((w : Word) → is_among xs w ≡ true → is_among all w ≡ true) → list_all (is_among all) xs ≡ true
each_among all [] inside = refl
each_among all (x ∷ xs) inside =
    and_from (is_among all x) (list_all (is_among all) xs) (inside x (or_left (bytes_eq x x) (is_among xs x) ((bytes_eq-Decides x x).1 refl))) (each_among all xs (λ w there. inside w (or_right (bytes_eq x w) (is_among xs w) there)))

none_strange : (all ws : List Word) → list_all (is_among all) ws ≡ true → has_stranger all ws ≡ false
none_strange all [] each = refl
none_strange all (w ∷ ws) each =
    let parts = and_parts (is_among all w) (list_all (is_among all) ws) each in
    let known : not (is_among all w) ≡ false = rw parts.0 refl in
    or_from (not (is_among all w)) (has_stranger all ws) known (none_strange all ws parts.1)

none_long : (ws : List Word) → list_all is_name ws ≡ true → has_long ws ≡ false
none_long [] all = refl
none_long (w ∷ ws) all =
    let parts = and_parts (is_name w) (list_all is_name ws) all in
    or_from (is_long w) (has_long ws) (is_short w parts.0) (none_long ws parts.1)

no_mask : (xs : List Word) → mask_of xs [] ≡ 0
no_mask [] = refl
no_mask (x ∷ xs) = rw (no_mask xs) refl

some_name : (xs ws : List Word) → 0 < mask_of xs ws → 0 < length ws
some_name xs [] some = absurd (omega (arith, no_mask xs))
some_name xs (w ∷ ws) some = omega arith

-- ---- names with commas
no_comma : (w : Word) → is_name w ≡ true → All (λ b. (b == 44) ≡ false) w
no_comma w is =
    All-from_get_or (λ b. (b == 44) ≡ false) w 0 (λ k within. ne_eqb (get_or w k 0) 44 (λ same. omega (arith, same, (name_high (get_or w k 0) (passes name_byte w k 0 (named_bytes w is) within)).least)))

listed_back : (ws : List Word) → list_all is_name ws ≡ true → 0 < length ws → listed (join_with_byte 44 ws) ≡ ws
listed_back [] all some = absurd (omega arith)
listed_back (w ∷ []) all some =
    slice_split_none (λ b. b == 44) w (no_comma w (and_parts (is_name w) true all).0)
listed_back (w ∷ x ∷ xs) all some =
    let parts = and_parts (is_name w) (list_all is_name (x ∷ xs)) all in
    slice_split_at (λ b. b == 44) w 44 (join_with_byte 44 (x ∷ xs)) (no_comma w parts.0) refl ∙ ap (λ (vs : List Word). w ∷ vs) (listed_back (x ∷ xs) parts.1 (omega arith))

-- a list of names is no `*`
not_all : (ws : List Word) → list_all is_name ws ≡ true → 0 < length ws → bytes_eq (join_with_byte 44 ws) (codes "*") ≡ false
not_all ws all some =
    false_from_ne_true (bytes_eq (join_with_byte 44 ws) (codes "*")) (λ same.
    let star : ws ≡ codes "*" ∷ [] = sym (listed_back ws all some) ∙ ap listed ((bytes_eq-Decides (join_with_byte 44 ws) (codes "*")).0 same) in
    both_ways (list_all is_name (codes "*" ∷ [])) refl (subst (λ (vs : List Word). list_all is_name vs ≡ true) star all))

visible_list : (ws : List Word) → list_all is_name ws ≡ true → is_plain (join_with_byte 44 ws) ≡ true
visible_list [] all = refl
visible_list (w ∷ []) all = name_plain w (and_parts (is_name w) true all).0
visible_list (w ∷ x ∷ xs) all =
    let parts = and_parts (is_name w) (list_all is_name (x ∷ xs)) all in
    rw (list_all-append is_visible w (44 ∷ join_with_byte 44 (x ∷ xs))) (and_from (is_plain w) (is_plain (join_with_byte 44 (x ∷ xs))) (name_plain w parts.0) (visible_list (x ∷ xs) parts.1))

-- ---- TO
pub record IsTargetsBack (clusters : List Word) (t : Targets) : Type 0 where
  pub value : targets_of clusters (targets_word clusters t) ≡ Some t
  pub long : has_long (target_names (targets_word clusters t)) ≡ false
  pub stranger : has_stranger clusters (target_names (targets_word clusters t)) ≡ false
  pub repeat : has_repeat (target_names (targets_word clusters t)) ≡ false
  pub plain : is_plain (targets_word clusters t) ≡ true

-- the names of a set
abbrev pub chosen_word : List Word → ℕ → Word
chosen_word clusters bits = join_with_byte 44 (names_in clusters bits)

only_back : (clusters : List Word) (bits : ℕ) → AreNames clusters → 0 < bits → bits < 2 ^ length clusters → IsTargetsBack clusters (targets.Only bits)
only_back clusters bits names some small =
    let ws = names_in clusters bits in
    let apart = all_apart clusters names.apart in
    let all : list_all is_name ws ≡ true = all_chosen is_name clusters bits names.each in
    let back : mask_of clusters ws ≡ bits = mask_back clusters bits apart small in
    let filled : 0 < length ws = some_name clusters ws (omega (arith, back)) in
    let other : bytes_eq (chosen_word clusters bits) (codes "*") ≡ false = not_all ws all filled in
    let list : listed (chosen_word clusters bits) ≡ ws = listed_back ws all filled in
    let bytes : list_all has_name_bytes ws ≡ true = weaker is_name has_name_bytes has_bytes ws all in
    let known : has_stranger clusters ws ≡ false = none_strange clusters ws (all_chosen (is_among clusters) clusters bits (each_among clusters clusters (λ w there. there))) in
    record {
      value = rw (other, list, bytes, back) refl;
      long = rw (other, list) (none_long ws all);
      stranger = rw (other, list) known;
      repeat = rw (other, list) (no_repeat clusters bits apart);
      plain = visible_list ws all;
    }

pub targets_back : (clusters : List Word) (t : Targets) → AreNames clusters → names_some (length clusters) t ≡ true → IsTargetsBack clusters t
targets_back clusters targets.All names some =
    record { value = refl; long = refl; stranger = refl; repeat = refl; plain = refl }
targets_back clusters (targets.Only bits) names some =
    let parts = and_parts (nat_lt 0 bits) (nat_lt bits (2 ^ length clusters)) some in
    only_back clusters bits names (ltb-true _ _ parts.0) (ltb-true _ _ parts.1)
