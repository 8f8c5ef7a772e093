-- What is read fits its columns.
use Rattle.std.proofs.Common.{◌≡◌, ℕ, ◌-◌, ◌<◌, ◌≤◌, ◌^◌, nat_lt, nat_le, true, false, not, ◌&&◌, List, [], ◌∷◌, length, get_or, Option, Some, None, codes, inl, inr, arith, refl, sym, ap, subst}
use Rattle.std.specs.Prelude.{⊤, unwrap_or}
use Rattle.std.specs.Fmt.{decimal}
use Rattle.std.specs.List.{list_all}
use Rattle.std.specs.Str.{bytes_eq}
use Rattle.std.proofs.lemmas.Bool.{and_from, and_parts, leb-true, le-leb, lt-ltb, ltb-false, not-false, or_parts}
use Rattle.std.proofs.lemmas.List.Quantifiers.{position-Some}
use Rattle.std.proofs.lemmas.Option.{cond_some, none-some, same_Some}
use Rattle.std.proofs.lemmas.Slice.Eq.{bytes_eq-Decides}
use Rattle.geo_base.specs.declared.position.Position.{Position}
use Rattle.geo_base.specs.Name.{is_name, name_byte}
use Rattle.script_rows.specs.NameBytes.{is_among, name_at, number_in}
use Rattle.script_rows.specs.Numbers.{number_of}
use Rattle.script_rows.specs.NameWords.{Word, cut_by, given, has_name_bytes, is_long}
use Rattle.script_rows.proofs.Digits.{number_back}
use Rattle.script_rows.specs.declared.column.Column.{Column}
use Rattle.script_rows.specs.declared.column.Column.TheVariants as column
use Rattle.script_rows.specs.declared.column.Menu.{Menu}
use Rattle.script_rows.specs.declared.fault.Rule.{Rule}
use Rattle.script_rows.specs.declared.fault.Rule.TheVariants as rule
use Rattle.script_rows.specs.declared.value.Value.{Value}
use Rattle.script_rows.specs.declared.value.Value.TheVariants as value
use Rattle.script_rows.specs.Columns.{cell_breaks, choice_of, counted, key_of, named, new_name, pair_of, place_of, seen_after, targets_of, value_of}
use Rattle.script_rows.specs.Judging.{cells_break, values_of}
use Rattle.script_rows.specs.Names.{Names, Seen, subs_of}
use Rattle.script_rows.specs.Rows.{is_later}
use Rattle.script_rows.specs.Values.{item, name}
use Rattle.script_rows.specs.Words.{◌>>=◌}
use Rattle.script_rows.specs.Written.{AreFit, Fits, IsBelow, IsKeyValue, IsNameValue, IsPositionOrEnd, IsUnbroken, IsWithin, choice_word, choices, word_of}
use Rattle.script_rows.proofs.Choices.{choice_read}
use Rattle.script_rows.proofs.Chosen.{chosen, number_small, some_part}
use Rattle.script_rows.proofs.Places.{place-in}
use Rattle.script_rows.proofs.Targets.{targets_fit}

-- ---- names
at_number : (names : List Word) (w : Word) → number_in names w < length names → name_at names (number_in names w) ≡ w
at_number names w within =
    (bytes_eq-Decides (get_or names (number_in names w) []) w).0 (position-Some (λ n. bytes_eq n w) names (number_in names w) [] (rw (lt-ltb _ _ within) refl)).1

-- a declared name that was read
pub record IsRead (names : List Word) (w : Word) (v : Value) : Type 0 where
  pub fits : IsBelow (length names) v
  pub same : v ≡ value.Item (number_in names w)
  pub back : name_at names (number_in names w) ≡ w

name_read : (names : List Word) (w : Word) (v : Value) → named names w ≡ Some v → not (is_among names w) ≡ false → IsRead names w v
name_read names w v e known =
    let parts = cond_some (has_name_bytes w) (value.Item (number_in names w)) v e in
    let within : number_in names w < length names = place-in (λ n. bytes_eq n w) names [] (not-false (is_among names w) known) in
    record {
      fits = subst (IsBelow (length names)) parts.1 within;
      same = sym parts.1;
      back = at_number names w within;
    }

-- ---- places
pair_small : (ws : List Word) (p : Position) → pair_of ws ≡ Some p → (p.ledger < 2 ^ 64) × (p.entry < 2 ^ 64)
pair_small (l ∷ e ∷ []) p is =
    let ledger = some_part (number_of (2 ^ 64 - 1) l) (λ x. number_of (2 ^ 64 - 1) e >>= λ y. Some (record { ledger = x; entry = y })) p is in
    let entry = some_part (number_of (2 ^ 64 - 1) e) (λ y. Some (record { ledger = ledger.0; entry = y })) p ledger.2 in
    let same : record { ledger = ledger.0; entry = entry.0 } ≡ p = same_Some (record { ledger = ledger.0; entry = entry.0 }) p entry.2 in
    subst (λ (q : Position). (q.ledger < 2 ^ 64) × (q.entry < 2 ^ 64)) same (omega (arith, number_small (2 ^ 64 - 1) l ledger.0 ledger.1), omega (arith, number_small (2 ^ 64 - 1) e entry.0 entry.1))
pair_small [] p is = absurd (none-some p is)
pair_small (l ∷ []) p is = absurd (none-some p is)
pair_small (l ∷ e ∷ x ∷ more) p is = absurd (none-some p is)

place_small : (w : Word) (q : Option Position) → place_of w ≡ Some q → IsPositionOrEnd (value.PositionOrEnd q)
place_small w q e =
    elim (chosen (bytes_eq w (codes "end")) (Some None) (pair_of (cut_by 58 w) >>= λ p. Some (Some p)) (Some q) e) [
      | inl end ↦ subst (λ (o : Option Position). IsPositionOrEnd (value.PositionOrEnd o)) (same_Some None q end.1) tt
      | inr other ↦
          let p = some_part (pair_of (cut_by 58 w)) (λ p. Some (Some p)) q other.1 in
          subst (λ (o : Option Position). IsPositionOrEnd (value.PositionOrEnd o)) (same_Some (Some p.0) q p.2) (pair_small (cut_by 58 w) p.0 p.1)
    ]

-- ---- new names, keys
pub short_name : (w : Word) → has_name_bytes w ≡ true → is_long w ≡ false → is_name w ≡ true
short_name w bytes short =
    let parts = and_parts (nat_lt 0 (length w)) (list_all name_byte w) bytes in
    and_from (nat_lt 0 (length w) && nat_le (length w) 16) (list_all name_byte w) (and_from (nat_lt 0 (length w)) (nat_le (length w) 16) parts.0 (le-leb _ _ (ltb-false _ _ short))) parts.1

key_small : (w : Word) (k : Option Word) → key_of w ≡ Some k → is_long w ≡ false → IsKeyValue (value.Key k)
key_small w k e short =
    elim (chosen (bytes_eq w (codes "-")) (Some None) (given (has_name_bytes w) (Some w)) (Some k) e) [
      | inl none ↦ subst (λ (o : Option Word). IsKeyValue (value.Key o)) (same_Some None k none.1) tt
      | inr some ↦
          let parts = cond_some (has_name_bytes w) (Some w) k some.1 in
          subst (λ (o : Option Word). IsKeyValue (value.Key o)) parts.1 (short_name w parts.0 short)
    ]

-- ---- a column
-- the table's numbers are those of the machine
abbrev pub IsBounded : Column → Type 0
IsBounded (column.Count least most) = most < 2 ^ 64
IsBounded c = ⊤

within_fits : (least most : ℕ) (w : Word) (v : Value) → counted least most w ≡ Some v → IsWithin least most v
within_fits least most w v e =
    let i = some_part (number_of most w) (λ i. given (nat_le least i) (value.Item i)) v e in
    let parts = cond_some (nat_le least i.0) (value.Item i.0) v i.2 in
    subst (IsWithin least most) parts.1 (leb-true _ _ parts.0, number_small most w i.0 i.1)

-- a name that a row declares, or keeps as a name
new_fits : (n : Names) (s : Seen) (c : Column) (w : Word) (v : Value) → new_name w ≡ Some v → is_long w ≡ false → IsUnbroken n s c w → IsNameValue v × IsUnbroken n s c (name v)
new_fits n s c w v e short none =
    let parts = cond_some (has_name_bytes w) (value.Name w) v e in
    subst (λ (u : Value). IsNameValue u × IsUnbroken n s c (name u)) parts.1 (short_name w parts.0 short, none)

-- the word of a declared name that was read is that name
read_back : (names : List Word) (w : Word) (v : Value) → IsRead names w v → name_at names (item v) ≡ w
read_back names w v r = rw r.same r.back

menu_fits : (m : Menu) (w : Word) (v : Value) (i : ℕ) → choice_of m w ≡ Some i → value.Item i ≡ v → is_later m w ≡ false → IsBelow (choices m) v × (is_later m (choice_word m (item v)) ≡ false)
menu_fits m w v i e is early =
    let c = choice_read m w i e in
    subst (λ (u : Value). IsBelow (choices m) u × (is_later m (choice_word m (item u)) ≡ false)) is (c.within, subst (λ (x : Word). is_later m x ≡ false) (sym c.same) early)

-- how many are lost is known also from the word that is written
lost_back : (w : Word) (i : ℕ) → number_of 1000 w ≡ Some i → unwrap_or (number_of 1000 (decimal i)) 0 ≡ unwrap_or (number_of 1000 w) 0
lost_back w i e =
    let small : i ≤ 1000 = number_small 1000 w i e in
    rw (number_back 1000 i small (omega arith), e) refl

lost_same : (w : Word) (v : Value) → counted 0 1000 w ≡ Some v → unwrap_or (number_of 1000 (decimal (item v))) 0 ≡ unwrap_or (number_of 1000 w) 0
lost_same w v e =
    let i = some_part (number_of 1000 w) (λ i. given (nat_le 0 i) (value.Item i)) v e in
    let parts = cond_some (nat_le 0 i.0) (value.Item i.0) v i.2 in
    subst (λ (u : Value). unwrap_or (number_of 1000 (decimal (item u))) 0 ≡ unwrap_or (number_of 1000 w) 0) parts.1 (lost_back w i.0 i.1)

-- the value fits, and the words after it know the same
pub value_fits : (n : Names) (s : Seen) (c : Column) (w : Word) (v : Value) → IsBounded c → value_of n s c w ≡ Some v → IsUnbroken n s c w → Fits n s c v × (seen_after n s c (word_of n s c v) ≡ seen_after n s c w)
value_fits n s column.Topic w v b e none =
    let r = name_read n.topics w v e (none rule.Undeclared) in
    (r.fits, rw (r.same, r.back) refl)
value_fits n s column.Home w v b e none =
    let r = name_read n.topics w v e (none rule.Undeclared) in
    ((r.fits, subst (IsUnbroken n s column.Home) (sym (read_back n.topics w v r)) none), refl)
value_fits n s column.Cluster w v b e none =
    let r = name_read n.clusters w v e (none rule.Undeclared) in
    (r.fits, rw (r.same, r.back) refl)
value_fits n s column.Other w v b e none =
    let r = name_read n.clusters w v e (none rule.Undeclared) in
    ((r.fits, rw (r.same, r.back) (none rule.Loop)), refl)
value_fits n s column.Client w v b e none = ((name_read n.clients w v e (none rule.Undeclared)).fits, refl)
value_fits n s (column.Doer role) w v b e none =
    let r = name_read n.clients w v e (none rule.Undeclared) in
    ((r.fits, subst (IsUnbroken n s (column.Doer role)) (sym (read_back n.clients w v r)) none), ap (λ (x : Word). seen_after n s (column.Doer role) x) (read_back n.clients w v r))
value_fits n s column.Offered w v b e none =
    ((name_read (subs_of n s.topic) w v e (none rule.StrangeSubscription)).fits, refl)
value_fits n s column.Sub w v b e none = (new_fits n s column.Sub w v e (none rule.LongName) none, refl)
value_fits n s column.Producer w v b e none = (new_fits n s column.Producer w v e (none rule.LongName) none, refl)
value_fits n s column.NewCluster w v b e none = (new_fits n s column.NewCluster w v e (none rule.LongName) none, refl)
value_fits n s column.NewTopic w v b e none = (new_fits n s column.NewTopic w v e (none rule.LongName) none, refl)
value_fits n s column.NewClient w v b e none = (new_fits n s column.NewClient w v e (none rule.LongName) none, refl)
value_fits n s column.Targets w v b e none =
    let t = some_part (targets_of n.clusters w) (λ t. Some (value.Targets t)) v e in
    (subst (Fits n s column.Targets) (same_Some (value.Targets t.0) v t.2) (targets_fit n.clusters w t.0 t.1 (none rule.Undeclared)), refl)
value_fits n s column.Key w v b e none =
    let k = some_part (key_of w) (λ k. Some (value.Key k)) v e in
    (subst (Fits n s column.Key) (same_Some (value.Key k.0) v k.2) (key_small w k.0 k.1 (none rule.LongName)), refl)
value_fits n s column.Text w v b e none =
    (subst (Fits n s column.Text) (same_Some (value.Text w) v e) (ltb-false _ _ (none rule.LongText)), refl)
value_fits n s (column.Count least most) w v b e none = ((within_fits least most w v e, b), refl)
value_fits n s column.Lost w v b e none =
    (within_fits 0 1000 w v e, ap (λ (l : ℕ). record s { lost = l }) (lost_same w v e))
value_fits n s column.Twice w v b e none = (within_fits 0 (1000 - s.lost) w v e, refl)
value_fits n s column.Seq w v b e none =
    let i = some_part (number_of (2 ^ 63 - 1) w) (λ i. Some (value.Seq i)) v e in
    let small : i.0 < 2 ^ 63 = omega (arith, number_small (2 ^ 63 - 1) w i.0 i.1) in
    (subst (Fits n s column.Seq) (same_Some (value.Seq i.0) v i.2) small, refl)
value_fits n s column.PositionOrEnd w v b e none =
    let p = some_part (place_of w) (λ p. Some (value.PositionOrEnd p)) v e in
    (subst (Fits n s column.PositionOrEnd) (same_Some (value.PositionOrEnd p.0) v p.2) (place_small w p.0 p.1), refl)
value_fits n s (column.Menu m) w v b e none =
    let i = some_part (choice_of m w) (λ i. Some (value.Item i)) v e in
    (menu_fits m w v i.0 i.1 (same_Some (value.Item i.0) v i.2) (none rule.Word), refl)

-- ---- a row
abbrev pub AreBounded : List Column → Type 0
AreBounded [] = ⊤
AreBounded (c ∷ cs) = IsBounded c × AreBounded cs

pub row_fits : (n : Names) (s : Seen) (cs : List Column) (ws : List Word) (vs : List Value) → AreBounded cs → values_of n s cs ws ≡ Some vs → ((r : Rule) → cells_break n r s cs ws ≡ false) → AreFit n s cs vs
row_fits n s [] [] vs b e none = omega (arith, ap length (same_Some [] vs e))
row_fits n s [] (w ∷ ws) vs b e none = absurd (none-some vs e)
row_fits n s (c ∷ cs) [] vs b e none = absurd (none-some vs e)
row_fits n s (c ∷ cs) (w ∷ ws) vs b e none =
    let v = some_part (value_of n s c w) (λ v. values_of n (seen_after n s c w) cs ws >>= λ vs. Some (v ∷ vs)) vs e in
    let more = some_part (values_of n (seen_after n s c w) cs ws) (λ vs. Some (v.0 ∷ vs)) vs v.2 in
    let one = value_fits n s c w v.0 b.0 v.1 (λ r. (or_parts (cell_breaks n s c w r) (cells_break n r (seen_after n s c w) cs ws) (none r)).0) in
    let others = row_fits n (seen_after n s c w) cs ws more.0 b.1 more.1 (λ r. (or_parts (cell_breaks n s c w r) (cells_break n r (seen_after n s c w) cs ws) (none r)).1) in
    subst (AreFit n s (c ∷ cs)) (same_Some (v.0 ∷ more.0) vs more.2) (omega arith, one.0, subst (λ (t : Seen). AreFit n t cs more.0) (sym one.1) others)
