-- The canonical fields of parts whose places ascend: each place has the values of its own part.
use Rattle.std.proofs.Common.{◌≡◌, ℕ, ◌+◌, ◌<◌, ◌≤◌, arith, Bool, true, false, eqb, eq-eqb, ne_eqb, List, [], ◌∷◌, ◌++◌, Some, None, map, refl, sym, ap, subst, ◌∙◌}
use Rattle.std.specs.Prelude.{nat_lt, ◌&&◌, ◌^◌}
use Rattle.std.specs.List.{AllByRecursion, flat_map}
use Rattle.std.proofs.lemmas.List.{append-nil}
use Rattle.std.proofs.lemmas.List.Concat.{flat_map-cons}
use Rattle.pb_fields.specs.declared.field.Field.{Field}
use Rattle.pb_fields.specs.declared.field.Value.{Value}
use Rattle.pb_fields.specs.declared.message.Form.TheVariants as form
use Rattle.pb_fields.specs.declared.message.Row.{Row}
use Rattle.pb_fields.specs.Canonical.{AscendFrom}
use Rattle.pb_fields.specs.Field.{IsFieldNumber}
use Rattle.pb_fields.specs.Message.{row_of, values}
use Rattle.pb_fields.proofs.LastValues.{values-other}
use Rattle.pb_fields.proofs.Order.{from_lower}
use Rattle.pb_fields.proofs.Parts.{values-append}
use Rattle.pulsar_commands.specs.Table.{required, optional}
use Rattle.pulsar_commands.specs.Part.{Part, text, optional_text, number, optional_number, number_or, flag, id, optional_id, ids, place}
use Rattle.pulsar_commands.specs.Canonical.{part_fields}
use Rattle.pulsar_commands.proofs.Numbers.{both, lt_of}

-- the places ascend from above a number, and are below 100
abbrev pub above : ℕ → List Part → Bool
above low [] = true
above low (p ∷ ps) = nat_lt low (place p) && (nat_lt (place p) 100 && above (place p) ps)

-- what is tested of the first part
lower : (low : ℕ) (p : Part) (ps : List Part) → above low (p ∷ ps) ≡ true → low < place p
lower low p ps h = lt_of low (place p) (both (nat_lt low (place p)) (nat_lt (place p) 100 && above (place p) ps) h).0

upper : (low : ℕ) (p : Part) (ps : List Part) → above low (p ∷ ps) ≡ true → place p < 100
upper low p ps h = lt_of (place p) 100 (both (nat_lt (place p) 100) (above (place p) ps) (both (nat_lt low (place p)) (nat_lt (place p) 100 && above (place p) ps) h).1).0

others : (low : ℕ) (p : Part) (ps : List Part) → above low (p ∷ ps) ≡ true → above (place p) ps ≡ true
others low p ps h = (both (nat_lt (place p) 100) (above (place p) ps) (both (nat_lt low (place p)) (nat_lt (place p) 100 && above (place p) ps) h).1).1

pub all_above : (low : ℕ) (ps : List Part) → above low ps ≡ true → AllByRecursion (λ p. low < place p) ps
all_above low [] h = tt
all_above low (p ∷ ps) h =
    let first : low < place p = lower low p ps h in
    (first, higher ps (all_above (place p) ps (others low p ps h)))
  where
    higher : (qs : List Part) → AllByRecursion (λ q. place p < place q) qs → AllByRecursion (λ q. low < place q) qs
    higher [] k = tt
    higher (q ∷ qs) k = (let first : low < place p = lower low p ps h in omega (arith, first, k.0), higher qs k.1)

pub all_numbers : (low : ℕ) (ps : List Part) → above low ps ≡ true → AllByRecursion (λ p. IsFieldNumber (place p)) ps
all_numbers low [] h = tt
all_numbers low (p ∷ ps) h =
    let first : low < place p = lower low p ps h in
    let last : place p < 100 = upper low p ps h in
    let zero : 0 < place p = omega (arith, first) in
    let range : place p < 2 ^ 29 = omega (arith, last) in
    (record { above_zero = zero; in_range = range }, all_numbers (place p) ps (others low p ps h))

-- ---- values

numbered : (n : ℕ) (fs : List Field) (k : ℕ) → AllByRecursion (λ f. f.number ≡ k) fs → (k ≡ n → ⊥) → values n fs ≡ []
numbered n [] k h other = refl
numbered n (f ∷ fs) k h other = values-other n f fs (λ e. other (sym h.0 ∙ e)) ∙ numbered n fs k h.1 other

map_numbers : {X : Type 0} (k : ℕ) (make : X → Field) (xs : List X) → ((x : X) → (make x).number ≡ k) → AllByRecursion (λ f. f.number ≡ k) (map make xs)
map_numbers k make [] h = tt
map_numbers k make (x ∷ xs) h = (h x, map_numbers k make xs h)

placed : (p : Part) → AllByRecursion (λ f. f.number ≡ place p) (part_fields p)
placed (text n t) = (refl, tt)
placed (optional_text n None) = tt
placed (optional_text n (Some t)) = (refl, tt)
placed (number n k) = (refl, tt)
placed (optional_number n None) = tt
placed (optional_number n (Some k)) = (refl, tt)
placed (number_or n absent k) = (refl, tt)
placed (flag n b) = (refl, tt)
placed (id n p) = (refl, tt)
placed (optional_id n None) = tt
placed (optional_id n (Some p)) = (refl, tt)
placed (ids n ps) = map_numbers n _ ps (λ p. refl)

elsewhere : (n : ℕ) (p : Part) → (place p ≡ n → ⊥) → values n (part_fields p) ≡ []
elsewhere n p other = numbered n (part_fields p) (place p) (placed p) other

none_above : (n : ℕ) (ps : List Part) → AllByRecursion (λ p. n < place p) ps → values n (flat_map part_fields ps) ≡ []
none_above n [] h = refl
none_above n (p ∷ ps) h =
    let lt = h.0 in
    ap (λ (fs : List Field). values n fs) (flat_map-cons part_fields p ps) ∙ values-append n (part_fields p) (flat_map part_fields ps)
    ∙ ap (λ (vs : List Value). vs ++ values n (flat_map part_fields ps)) (elsewhere n p (λ e. omega (arith, lt, e)))
    ∙ none_above n ps h.1

-- one part more in front
in_front : (p : Part) (ps qs : List Part) → AllByRecursion (λ q. place p < place q) qs → AllByRecursion (λ q. values (place q) (flat_map part_fields ps) ≡ values (place q) (part_fields q)) qs → AllByRecursion (λ q. values (place q) (flat_map part_fields (p ∷ ps)) ≡ values (place q) (part_fields q)) qs
in_front p ps [] h k = tt
in_front p ps (q ∷ qs) h k =
    let lt = h.0 in (
      ap (λ (fs : List Field). values (place q) fs) (flat_map-cons part_fields p ps) ∙ values-append (place q) (part_fields p) (flat_map part_fields ps)
          ∙ ap (λ (vs : List Value). vs ++ values (place q) (flat_map part_fields ps)) (elsewhere (place q) p (λ e. omega (arith, lt, e)))
          ∙ k.0,
      in_front p ps qs h.1 k.1,
    )

pub at_place : (low : ℕ) (ps : List Part) → above low ps ≡ true → AllByRecursion (λ p. values (place p) (flat_map part_fields ps) ≡ values (place p) (part_fields p)) ps
at_place low [] h = tt
at_place low (p ∷ ps) h =
    let rest : above (place p) ps ≡ true = others low p ps h in
    let higher = all_above (place p) ps rest in (
      ap (λ (fs : List Field). values (place p) fs) (flat_map-cons part_fields p ps) ∙ values-append (place p) (part_fields p) (flat_map part_fields ps)
          ∙ ap (λ (vs : List Value). values (place p) (part_fields p) ++ vs) (none_above (place p) ps higher)
          ∙ append-nil (values (place p) (part_fields p)),
      in_front p ps ps higher (at_place (place p) ps rest),
    )

-- ---- their order

behind_numbered : (low n : ℕ) (fs gs : List Field) → AllByRecursion (λ f. f.number ≡ n) fs → low ≤ n → AscendFrom n gs → AscendFrom low (fs ++ gs)
behind_numbered low n [] gs is le h = from_lower low n gs le h
behind_numbered low n (f ∷ fs) gs is le h =
    (omega (arith, le, is.0), subst (λ (k : ℕ). AscendFrom k (fs ++ gs)) (sym is.0) (behind_numbered n n fs gs is.1 (omega arith) h))

pub fields_ascend : (low : ℕ) (ps : List Part) → above low ps ≡ true → AscendFrom (low + 1) (flat_map part_fields ps)
fields_ascend low [] h = tt
fields_ascend low (p ∷ ps) h =
    let first : low < place p = lower low p ps h in
    let rest = from_lower (place p) (place p + 1) (flat_map part_fields ps) (omega arith) (fields_ascend (place p) ps (others low p ps h)) in
    subst (λ (fs : List Field). AscendFrom (low + 1) fs) (sym (flat_map-cons part_fields p ps)) (behind_numbered (low + 1) (place p) (part_fields p) (flat_map part_fields ps) (placed p) (omega (arith, first)) rest)

-- ---- rows

-- the row that a part has in the table
abbrev pub row : Part → Row
row (text n t) = required n form.Text
row (optional_text n t) = optional n form.Text
row (number n k) = required n form.Varint
row (optional_number n k) = optional n form.Varint
row (number_or n absent k) = optional n form.Varint
row (flag n b) = optional n form.Varint
row (id n p) = required n form.Message
row (optional_id n p) = optional n form.Message
row (ids n ps) = optional n form.Message

row_number : (p : Part) → (row p).number ≡ place p
row_number (text n t) = refl
row_number (optional_text n t) = refl
row_number (number n k) = refl
row_number (optional_number n k) = refl
row_number (number_or n absent k) = refl
row_number (flag n b) = refl
row_number (id n p) = refl
row_number (optional_id n p) = refl
row_number (ids n ps) = refl

row_same : (q : Row) (rows : List Row) (n : ℕ) → q.number ≡ n → row_of (q ∷ rows) n ≡ Some q
row_same q rows n same = let test : eqb q.number n ≡ true = eq-eqb _ _ same in rw test refl

row_other : (q : Row) (rows : List Row) (n : ℕ) → (q.number ≡ n → ⊥) → row_of (q ∷ rows) n ≡ row_of rows n
row_other q rows n other = let test : eqb q.number n ≡ false = ne_eqb _ _ other in rw test refl

row_in_front : (p : Part) (ps qs : List Part) → AllByRecursion (λ q. place p < place q) qs → AllByRecursion (λ q. row_of (map row ps) (place q) ≡ Some (row q)) qs → AllByRecursion (λ q. row_of (map row (p ∷ ps)) (place q) ≡ Some (row q)) qs
row_in_front p ps [] h k = tt
row_in_front p ps (q ∷ qs) h k =
    let lt = h.0 in
    let number = row_number p in
    (row_other (row p) (map row ps) (place q) (λ e. let same = sym number ∙ e in omega (arith, lt, same)) ∙ k.0, row_in_front p ps qs h.1 k.1)

pub row_at : (low : ℕ) (ps : List Part) → above low ps ≡ true → AllByRecursion (λ p. row_of (map row ps) (place p) ≡ Some (row p)) ps
row_at low [] h = tt
row_at low (p ∷ ps) h =
    let rest : above (place p) ps ≡ true = others low p ps h in
    (row_same (row p) (map row ps) (place p) (row_number p), row_in_front p ps ps (all_above (place p) ps rest) (row_at (place p) ps rest))
