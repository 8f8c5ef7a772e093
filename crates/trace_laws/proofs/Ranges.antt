-- The indexes of an acknowledgement read back from their ranges.
use Rattle.std.proofs.Common.{◌≡◌, ℕ, suc, ◌+◌, ◌-◌, ◌^◌, ◌<◌, ◌≤◌, ◌==◌, Bool, true, false, ◌||◌, List, [], ◌∷◌, ◌++◌, map, Option, Some, None, codes, arith, refl, sym, ap, ◌∙◌}
use Rattle.std.specs.Prelude.{if◌then◌else◌}
use Rattle.std.specs.Fmt.{decimal}
use Rattle.std.specs.List.{list_all, join_with_byte, range_with_len}
use Rattle.std.specs.Str.{bytes_eq}
use Rattle.std.proofs.lemmas.Bool.{and_from, eqb-true, false_from_ne_true, le-leb, or_left}
use Rattle.std.proofs.lemmas.Bool.Decides.{nat_tests}
use Rattle.std.proofs.lemmas.List.Folds.{list_all-append}
use Rattle.std.proofs.lemmas.List.Splits.{slice_split_at, slice_split_none}
use Rattle.std.proofs.lemmas.Option.{none-some}
use Rattle.std.proofs.lemmas.Slice.Eq.{bytes_eq-Decides}
use Rattle.cursor_acks.specs.declared.range.IndexRange.{IndexRange as AckedRange}
use Rattle.cursor_acks.specs.Ranges.{indexes_of}
use Rattle.cursor_acks.proofs.Sets.{Rising}
use Rattle.geo_base.specs.TraceText.{IndexRange, joined, ranges_of, shown_range, shown_ranges}
use Rattle.script_rows.specs.Numbers.{is_digit}
use Rattle.script_rows.specs.NameWords.{Word, cut_by, listed}
use Rattle.script_rows.proofs.Digits.{decimal_digits}
use Rattle.trace_lines.specs.Ranges.{least_behind, range_in, ranges_from, ranges_of as ranges_read}
use Rattle.world_laws.proofs.Replicating.Effects.{Each}
use Rattle.trace_laws.proofs.Bytes.{Lacks, cut_joined, lacks, weaker}
use Rattle.trace_laws.proofs.Words.{is_plain, is_visible, number_reads}

abbrev as_read : IndexRange → AckedRange
as_read r = record { first = r.first; last = r.last }

abbrev pub AreSmall : List ℕ → Type 0
AreSmall is = Each (λ (i : ℕ). i < 2 ^ 64) is

-- ranges from a number on, with a gap between each two, of numbers of 64 bits
abbrev Spaced : ℕ → List IndexRange → Type 0
Spaced low [] = Unit {0}
Spaced low (r ∷ rs) = (low ≤ r.first) × (r.first ≤ r.last) × (r.last < 2 ^ 64) × Spaced (r.last + 2) rs

-- ---- ascending indexes are such ranges
gap : (a b : ℕ) → (a == b) ≡ false → a ≤ b → a + 1 ≤ b
gap a b other le = grind (arith, nat_tests, other, le)

joined_spaced : (i : ℕ) (rs : List IndexRange) → i < 2 ^ 64 → Spaced (i + 1) rs → Spaced i (joined i rs)
joined_spaced i [] lt h = (omega arith, omega arith, lt, tt)
joined_spaced i (r ∷ rs) lt h = by (i + 1 == r.first) refl
  where
    by : (b : Bool) → (i + 1 == r.first) ≡ b → Spaced i (if b then record { first = i; last = r.last } ∷ rs else record { first = i; last = i } ∷ r ∷ rs)
    by true is = (omega arith, omega (arith, h.0, h.1), h.2, h.3)
    by false is = (omega arith, omega arith, lt, (let g = gap (i + 1) r.first is h.0 in omega (arith, g), h.1, h.2, h.3))

lower : (low i : ℕ) (rs : List IndexRange) → low ≤ i → Spaced i rs → Spaced low rs
lower low i [] le h = tt
lower low i (r ∷ rs) le h = (omega (arith, le, h.0), h.1, h.2, h.3)

ranges_spaced : (low : ℕ) (is : List ℕ) → Rising low is → AreSmall is → Spaced low (ranges_of is)
ranges_spaced low [] h small = tt
ranges_spaced low (i ∷ is) h small = lower low i (joined i (ranges_of is)) h.0 (joined_spaced i (ranges_of is) small.0 (ranges_spaced (i + 1) is h.1 small.1))

-- ---- whose indexes they are
one : (i : ℕ) → i + 1 - i ≡ 1
one i = omega arith

indexes_joined : (i : ℕ) (rs : List IndexRange) → Spaced (i + 1) rs → indexes_of (map as_read (joined i rs)) ≡ i ∷ indexes_of (map as_read rs)
indexes_joined i [] h = ap (λ (n : ℕ). range_with_len i n ++ []) (one i)
indexes_joined i (r ∷ rs) h = by (i + 1 == r.first) refl
  where
    rest : List ℕ
    rest = indexes_of (map as_read rs)

    by : (b : Bool) → (i + 1 == r.first) ≡ b
        → indexes_of (map as_read (if b then record { first = i; last = r.last } ∷ rs else record { first = i; last = i } ∷ r ∷ rs)) ≡ i ∷ (range_with_len r.first (r.last + 1 - r.first) ++ rest)
    by true is =
        let next : i + 1 ≡ r.first = eqb-true (i + 1) r.first is in
        let more : r.last + 1 - i ≡ suc (r.last + 1 - r.first) = omega (arith, next, h.1) in
        ap (λ (n : ℕ). range_with_len i n ++ rest) more ∙ ap (λ (k : ℕ). i ∷ (range_with_len k (r.last + 1 - r.first) ++ rest)) next
    by false is = ap (λ (n : ℕ). range_with_len i n ++ (range_with_len r.first (r.last + 1 - r.first) ++ rest)) (one i)

indexes_back : (low : ℕ) (is : List ℕ) → Rising low is → AreSmall is → indexes_of (map as_read (ranges_of is)) ≡ is
indexes_back low [] h small = refl
indexes_back low (i ∷ is) h small =
    indexes_joined i (ranges_of is) (ranges_spaced (i + 1) is h.1 small.1) ∙ ap (λ (js : List ℕ). i ∷ js) (indexes_back (i + 1) is h.1 small.1)

-- ---- a range
range_split : (r : IndexRange) → r.first ≤ r.last → r.last < 2 ^ 64 → cut_by 45 (shown_range r) ≡ decimal r.first ∷ decimal r.last ∷ []
range_split r le small =
    slice_split_at (λ b. b == 45) (decimal r.first) 45 (decimal r.last) (lacks is_digit 45 refl (decimal r.first) (decimal_digits r.first (omega (arith, le, small)))) refl
    ∙ ap (λ (ws : List Word). decimal r.first ∷ ws) (slice_split_none (λ b. b == 45) (decimal r.last) (lacks is_digit 45 refl (decimal r.last) (decimal_digits r.last small)))

range_back : (r : IndexRange) → r.first ≤ r.last → r.last < 2 ^ 64 → range_in (cut_by 45 (shown_range r)) ≡ Some (as_read r)
range_back r le small =
    rw (range_split r le small, number_reads r.first (omega (arith, le, small)), number_reads r.last small, le-leb r.first r.last le) refl

-- the bytes of a range
abbrev is_range_byte : ℕ → Bool
is_range_byte b = is_digit b || (b == 45)

range_byte_visible : (b : ℕ) → is_range_byte b ≡ true → is_visible b ≡ true
range_byte_visible b h = grind (arith, nat_tests, h)

range_bytes : (r : IndexRange) → r.first ≤ r.last → r.last < 2 ^ 64 → list_all is_range_byte (shown_range r) ≡ true
range_bytes r le small =
    let each : (n : ℕ) → n < 2 ^ 64 → list_all is_range_byte (decimal n) ≡ true =
    λ n lt. weaker is_digit is_range_byte (λ b is. or_left (is_digit b) (b == 45) is) (decimal n) (decimal_digits n lt) in
    rw (list_all-append is_range_byte (decimal r.first) (45 ∷ decimal r.last))
    (and_from (list_all is_range_byte (decimal r.first)) (list_all is_range_byte (45 ∷ decimal r.last)) (each r.first (omega (arith, le, small))) (each r.last small))

-- ---- ranges
all_back : (last : Option ℕ) (rs : List IndexRange) → Spaced (least_behind last) rs → ranges_from last (map shown_range rs) ≡ Some (map as_read rs)
all_back last [] h = refl
all_back last (r ∷ rs) h = rw (range_back r h.1 h.2, le-leb (least_behind last) r.first h.0, all_back (Some r.last) rs h.3) refl

all_lack : (low : ℕ) (rs : List IndexRange) → Spaced low rs → Each (Lacks 44) (map shown_range rs)
all_lack low [] h = tt
all_lack low (r ∷ rs) h = (lacks is_range_byte 44 refl (shown_range r) (range_bytes r h.1 h.2), all_lack (r.last + 2) rs h.3)

ranges_back : (rs : List IndexRange) → Spaced 0 rs → ranges_read (shown_ranges rs) ≡ Some (map as_read rs)
ranges_back [] h = refl
ranges_back (r ∷ rs) h = rw (no_dash, all) refl
  where
    word : Word
    word = shown_ranges (r ∷ rs)

    all : ranges_from None (listed word) ≡ Some (map as_read (r ∷ rs))
    all = let each = all_lack 0 (r ∷ rs) h in ap (ranges_from None) (cut_joined 44 (shown_range r) (map shown_range rs) each.0 each.1) ∙ all_back None (r ∷ rs) h

    no_dash : bytes_eq word (codes "-") ≡ false
    no_dash =
        false_from_ne_true (bytes_eq word (codes "-")) (λ same.
        none-some (map as_read (r ∷ rs)) (ap (λ (v : Word). ranges_from None (listed v)) (sym ((bytes_eq-Decides word (codes "-")).0 same)) ∙ all))

-- the ranges that are read, whose indexes are those that were written
pub record AreReadBack (is : List ℕ) : Type 0 where
  pub ranges : List AckedRange
  pub read : ranges_read (shown_ranges (ranges_of is)) ≡ Some ranges
  pub indexes : indexes_of ranges ≡ is

pub acked_back : (is : List ℕ) → Rising 0 is → AreSmall is → AreReadBack is
acked_back is h small = record {
  ranges = map as_read (ranges_of is);
  read = ranges_back (ranges_of is) (ranges_spaced 0 is h small);
  indexes = indexes_back 0 is h small;
}

joined_plain : (low : ℕ) (r : IndexRange) (rs : List IndexRange) → Spaced low (r ∷ rs) → is_plain (join_with_byte 44 (map shown_range (r ∷ rs))) ≡ true
joined_plain low r [] h = weaker is_range_byte is_visible range_byte_visible (shown_range r) (range_bytes r h.1 h.2)
joined_plain low r (q ∷ rs) h =
    let rest = join_with_byte 44 (map shown_range (q ∷ rs)) in
    rw (list_all-append is_visible (shown_range r) (44 ∷ rest))
    (and_from (is_plain (shown_range r)) (is_plain (44 ∷ rest)) (weaker is_range_byte is_visible range_byte_visible (shown_range r) (range_bytes r h.1 h.2)) (joined_plain (r.last + 2) q rs h.3))

shown_plain : (rs : List IndexRange) → Spaced 0 rs → is_plain (shown_ranges rs) ≡ true
shown_plain [] h = refl
shown_plain (r ∷ rs) h = joined_plain 0 r rs h

pub acked_plain : (is : List ℕ) → Rising 0 is → AreSmall is → is_plain (shown_ranges (ranges_of is)) ≡ true
acked_plain is h small = shown_plain (ranges_of is) (ranges_spaced 0 is h small)
