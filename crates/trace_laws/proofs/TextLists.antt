-- A list of clusters reads back.
use Rattle.std.proofs.Common.{◌≡◌, ℕ, suc, ◌+◌, ◌/◌, ◌%◌, ◌<◌, ◌^◌, nat_lt, ◌==◌, Bool, true, false, List, [], ◌∷◌, ◌++◌, length, get_or, Some, codes, arith, refl, sym, ap, ◌∙◌, subst, length-append}
use Rattle.std.specs.Prelude.{if◌then◌else◌}
use Rattle.std.specs.List.{list_all, join_with_byte}
use Rattle.std.specs.Str.{bytes_eq}
use Rattle.std.proofs.Math.Nat.{div-one}
use Rattle.std.proofs.lemmas.Bool.{and_from, and_parts, both_ways, cond_both, false_from_ne_true, lt-ltb, ltb-true}
use Rattle.std.proofs.lemmas.List.Elements.{All-from_get_or}
use Rattle.std.proofs.lemmas.List.Folds.{list_all-append, list_any_none}
use Rattle.std.proofs.lemmas.Option.{slice_get-get_or}
use Rattle.std.proofs.lemmas.Slice.Eq.{bytes_eq-Decides}
use Rattle.geo_base.specs.declared.entry.Targets.{Targets}
use Rattle.geo_base.specs.declared.entry.Targets.TheVariants as targets
use Rattle.geo_base.specs.Client.{target_names}
use Rattle.geo_base.specs.Name.{is_name, name_byte}
use Rattle.geo_base.specs.Report.{commas, shown_targets}
use Rattle.geo_base.specs.Scripted.{AreDistinct, names_some}
use Rattle.script_rows.specs.NameBytes.{AreApart, is_among, mask_of, names_in}
use Rattle.script_rows.specs.NameWords.{Word, listed}
use Rattle.script_rows.proofs.Masks.{mask_back}
use Rattle.script_rows.specs.Written.{AreNames}
use Rattle.trace_lines.specs.Words.{is_list, targets_of}
use Rattle.world_laws.proofs.Replicating.Effects.{Each}
use Rattle.trace_laws.proofs.Bytes.{Lacks, cut_joined, lacks}
use Rattle.trace_laws.proofs.Words.{is_plain, is_visible, name_bytes, name_plain}
use Rattle.geo_base.proofs.Sums.{half_power}

-- ---- names told apart
other_way : (a b : Word) → bytes_eq a b ≡ false → bytes_eq b a ≡ false
other_way a b apart =
    false_from_ne_true (bytes_eq b a) (λ same. both_ways (bytes_eq a b) apart ((bytes_eq-Decides a b).1 (sym ((bytes_eq-Decides b a).0 same))))

first_apart : (x : Word) (xs : List Word) → AreDistinct (x ∷ xs) → is_among xs x ≡ false
first_apart x xs a =
    list_any_none (λ n. bytes_eq n x) xs
    (All-from_get_or (λ n. bytes_eq n x ≡ false) xs [] (λ k within. other_way x (get_or xs k []) (a 0 (suc k) x (get_or xs k []) (omega arith) refl (slice_get-get_or xs k [] within))))

all_apart : (xs : List Word) → AreDistinct xs → AreApart xs
all_apart [] a = tt
all_apart (x ∷ xs) a = (first_apart x xs a, all_apart xs (λ i j m n before at_i at_j. a (suc i) (suc j) m n (omega arith) at_i at_j))

-- ---- the names of a set
all_chosen : (p : Word → Bool) (xs : List Word) (m : ℕ) → list_all p xs ≡ true → list_all p (names_in xs m) ≡ true
all_chosen p [] m all = refl
all_chosen p (x ∷ xs) m all =
    let parts = and_parts (p x) (list_all p xs) all in
    let more = all_chosen p xs (m / 2) parts.1 in
    cond_both (m % 2 == 1) (x ∷ names_in xs (m / 2)) (names_in xs (m / 2)) (λ (ws : List Word). list_all p ws ≡ true) (λ _. and_from (p x) (list_all p (names_in xs (m / 2))) parts.0 more) (λ _. more)

no_mask : (xs : List Word) → mask_of xs [] ≡ 0
no_mask [] = refl
no_mask (x ∷ xs) = rw (no_mask xs) refl

-- the names of a list's targets, from cluster x on
same_names : (names : List Word) (x bits : ℕ) → target_names x (targets.Only bits) names ≡ names_in names (bits / 2 ^ x)
same_names [] x bits = refl
same_names (n ∷ ns) x bits =
    ap (λ (ws : List Word). if (bits / 2 ^ x) % 2 == 1 then n ∷ ws else ws) (same_names ns (x + 1) bits ∙ ap (names_in ns) (half_power x bits))

-- ---- names with commas
all_names : (ws : List Word) → list_all is_name ws ≡ true → Each (Lacks 44) ws
all_names [] all = tt
all_names (w ∷ ws) all =
    let parts = and_parts (is_name w) (list_all is_name ws) all in (lacks name_byte 44 refl w (name_bytes w parts.0), all_names ws parts.1)

listed_back : (w : Word) (ws : List Word) → list_all is_name (w ∷ ws) ≡ true → listed (join_with_byte 44 (w ∷ ws)) ≡ w ∷ ws
listed_back w ws all = let each = all_names (w ∷ ws) all in cut_joined 44 w ws each.0 each.1

-- a list of names is no mark that is no name
no_mark : (m : Word) (w : Word) (ws : List Word) → list_all is_name (listed m) ≡ false → list_all is_name (w ∷ ws) ≡ true → bytes_eq (join_with_byte 44 (w ∷ ws)) m ≡ false
no_mark m w ws other all =
    false_from_ne_true (bytes_eq (join_with_byte 44 (w ∷ ws)) m) (λ same.
    let mark : w ∷ ws ≡ listed m = sym (listed_back w ws all) ∙ ap listed ((bytes_eq-Decides (join_with_byte 44 (w ∷ ws)) m).0 same) in
    both_ways (list_all is_name (listed m)) other (subst (λ (vs : List Word). list_all is_name vs ≡ true) mark all))

some_bytes : (w : Word) (ws : List Word) → list_all is_name (w ∷ ws) ≡ true → 0 < length (join_with_byte 44 (w ∷ ws))
some_bytes w [] all = ltb-true 0 (length w) (and_parts (nat_lt 0 (length w)) _ (and_parts _ (list_all name_byte w) (and_parts (is_name w) true all).0).0).0
some_bytes w (x ∷ xs) all = let l = length-append w (44 ∷ join_with_byte 44 (x ∷ xs)) in omega (arith, l)

list_plain : (w : Word) (ws : List Word) → list_all is_name (w ∷ ws) ≡ true → is_plain (join_with_byte 44 (w ∷ ws)) ≡ true
list_plain w [] all = name_plain w (and_parts (is_name w) true all).0
list_plain w (x ∷ xs) all =
    let parts = and_parts (is_name w) (list_all is_name (x ∷ xs)) all in
    rw (list_all-append is_visible w (44 ∷ join_with_byte 44 (x ∷ xs)))
    (and_from (is_plain w) (is_plain (join_with_byte 44 (x ∷ xs))) (name_plain w parts.0) (list_plain x xs parts.1))

commas_joined : (w : Word) (ws : List Word) → commas (w ∷ ws) ≡ join_with_byte 44 (w ∷ ws)
commas_joined w [] = refl
commas_joined w (x ∷ xs) = ap (λ (t : List ℕ). w ++ 44 ∷ t) (commas_joined x xs)

-- ---- the word of a list

record IsListBack (names : List Word) (bits : ℕ) (word : Word) : Type 0 where
  value : targets_of names word ≡ Some (targets.Only bits)
  plain : is_plain word ≡ true

some_back : (names : List Word) (bits : ℕ) (w : Word) (ws : List Word) → names_in names bits ≡ w ∷ ws → list_all is_name (w ∷ ws) ≡ true → mask_of names (w ∷ ws) ≡ bits
    → IsListBack names bits (commas (w ∷ ws))
some_back names bits w ws chosen all back =
    let word = join_with_byte 44 (w ∷ ws) in
    let list = listed_back w ws all in
    let is : is_list names word ≡ true =
    and_from (nat_lt 0 (length word)) (bytes_eq word (join_with_byte 44 (names_in names (mask_of names (listed word))))) (lt-ltb 0 (length word) (some_bytes w ws all))
    (rw (list, back, chosen) ((bytes_eq-Decides word word).1 refl)) in
    let value : targets_of names word ≡ Some (targets.Only bits) = rw (no_mark (codes "*") w ws refl all, no_mark (codes "?") w ws refl all, is, list, back) refl in
    subst (IsListBack names bits) (sym (commas_joined w ws)) (record { value = value; plain = list_plain w ws all })

only_back : (names : List Word) (bits : ℕ) → AreNames names → 0 < bits → bits < 2 ^ length names → IsListBack names bits (commas (names_in names bits))
only_back names bits are some small =
    by (names_in names bits) refl (all_chosen is_name names bits are.each) (mask_back names bits (all_apart names are.apart) small)
  where
    by : (ws : List Word) → names_in names bits ≡ ws → list_all is_name ws ≡ true → mask_of names ws ≡ bits → IsListBack names bits (commas ws)
    by [] chosen all back = absurd (omega (arith, some, back, no_mask names))
    by (w ∷ ws) chosen all back = some_back names bits w ws chosen all back

whole : (bits : ℕ) → bits / 2 ^ 0 ≡ bits
whole bits = div-one bits

list_is : (names : List Word) (bits : ℕ) → AreNames names → names_some (length names) (targets.Only bits) ≡ true → IsListBack names bits (shown_targets names (targets.Only bits))
list_is names bits are some =
    let parts = and_parts (nat_lt 0 bits) (nat_lt bits (2 ^ length names)) some in
    subst (λ (ws : List Word). IsListBack names bits (commas ws)) (sym (same_names names 0 bits ∙ ap (names_in names) (whole bits)))
    (only_back names bits are (ltb-true _ _ parts.0) (ltb-true _ _ parts.1))

pub targets_back : (names : List Word) (to : Targets) → AreNames names → names_some (length names) to ≡ true → targets_of names (shown_targets names to) ≡ Some to
targets_back names targets.All are some = refl
targets_back names (targets.Only bits) are some = (list_is names bits are some).value

pub targets_plain : (names : List Word) (to : Targets) → AreNames names → names_some (length names) to ≡ true → is_plain (shown_targets names to) ≡ true
targets_plain names targets.All are some = refl
targets_plain names (targets.Only bits) are some = (list_is names bits are some).plain
