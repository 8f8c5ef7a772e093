-- The words that are written are cut again where they are joined.
use Rattle.std.proofs.Common.{◌≡◌, ℕ, zero, suc, ◌<◌, ◌≤◌, ◌^◌, nat_lt, nat_le, ◌==◌, Bool, true, false, not, ◌&&◌, ◌||◌, List, [], ◌∷◌, length, get_or, All, Option, Some, None, codes, ◌++◌, inl, inr, arith, refl, sym, ap, ◌∙◌, subst}
use Rattle.std.specs.Fmt.{decimal}
use Rattle.std.specs.List.{list_all, join_with_byte}
use Rattle.std.proofs.lemmas.Bool.{and_from, and_parts, le-leb, leb-true, lt-ltb, ltb-true, ne_eqb, eqb-true, not-true, or_cases}
use Rattle.std.proofs.lemmas.List.Elements.{All-from_get_or}
use Rattle.std.proofs.lemmas.List.Folds.{list_all-append}
use Rattle.std.proofs.lemmas.List.Splits.{slice_split_at, slice_split_none}
use Rattle.geo_base.specs.declared.event.Event.{Event}
use Rattle.geo_base.specs.declared.event.Step.{Step}
use Rattle.geo_base.specs.declared.event.Step.TheVariants as step
use Rattle.geo_base.specs.declared.position.Position.{Position}
use Rattle.geo_base.specs.Name.{is_name, name_byte}
use Rattle.script_rows.specs.NameBytes.{name_at}
use Rattle.script_rows.specs.Numbers.{is_digit}
use Rattle.script_rows.specs.NameWords.{Word}
use Rattle.script_rows.proofs.Digits.{decimal_digits}
use Rattle.script_rows.specs.declared.column.Column.{Column}
use Rattle.script_rows.specs.declared.column.Column.TheVariants as column
use Rattle.script_rows.specs.declared.column.Menu.{Menu}
use Rattle.script_rows.specs.declared.column.Menu.TheVariants as menu
use Rattle.script_rows.specs.declared.event_kind.EventKind.{EventKind}
use Rattle.script_rows.specs.declared.event_kind.EventKind.TheVariants as kind
use Rattle.script_rows.specs.declared.value.Value.{Value}
use Rattle.script_rows.specs.declared.value.Value.TheVariants as value
use Rattle.script_rows.specs.Columns.{seen_after}
use Rattle.script_rows.specs.Names.{Names, Seen, nothing_seen, subs_of}
use Rattle.script_rows.specs.Rows.{event_columns, event_word}
use Rattle.script_rows.specs.Values.{name}
use Rattle.script_rows.specs.Words.{words_of}
use Rattle.script_rows.specs.Written.{AreDeclared, AreFit, AreNames, Fits, IsKeyValue, IsNameValue, IsPositionOrEnd, choice_word, event_values, event_words, key_word, kind_of, place_word, spaced, step_line, step_words, word_of, words_in}
use Rattle.script_rows.specs.Known.{IsStep}
use Rattle.script_rows.proofs.Spaced.{joined}
use Rattle.script_rows.proofs.Writable.{event_fits}
use Rattle.script_rows.proofs.Back.{is_name_at, is_targets, no_targets, passes}
use Rattle.geo_base.proofs.Lists.{all_weaker}

-- ---- words without a space
-- what ASCII prints, but no space
abbrev pub is_visible : ℕ → Bool
is_visible b = nat_lt 32 b && nat_le b 126

abbrev pub is_plain : Word → Bool
is_plain w = list_all is_visible w

no_space : (b : ℕ) → is_visible b ≡ true → (b == 32) ≡ false
no_space b is =
    let least : 32 < b = ltb-true _ _ (and_parts (nat_lt 32 b) (nat_le b 126) is).0 in ne_eqb b 32 (λ same. omega arith)

unspaced : (w : Word) → is_plain w ≡ true → All (λ b. (b == 32) ≡ false) w
unspaced w all =
    All-from_get_or (λ b. (b == 32) ≡ false) w 0 (λ k within. no_space (get_or w k 0) (passes is_visible w k 0 all within))

abbrev pub IsCut : List Word → Type 0
IsCut ws = words_of (join_with_byte 32 ws) ≡ ws

cut_one : (w : Word) → is_plain w ≡ true → IsCut (w ∷ [])
cut_one w plain = slice_split_none (λ b. b == 32) w (unspaced w plain)

cut_more : (w x : Word) (xs : List Word) → is_plain w ≡ true → IsCut (x ∷ xs) → IsCut (w ∷ x ∷ xs)
cut_more w x xs plain cut =
    slice_split_at (λ b. b == 32) w 32 (join_with_byte 32 (x ∷ xs)) (unspaced w plain) refl ∙ ap (λ (ws : List Word). w ∷ ws) cut

abbrev pub are_plain : List Word → Bool
are_plain ws = list_all is_plain ws

all_cut : (w : Word) (ws : List Word) → is_plain w ≡ true → are_plain ws ≡ true → IsCut (w ∷ ws)
all_cut w [] plain all = cut_one w plain
all_cut w (x ∷ xs) plain all =
    let parts = and_parts (is_plain x) (are_plain xs) all in
    cut_more w x xs plain (all_cut x xs parts.0 parts.1)

first_cut : (ws : List Word) → are_plain ws ≡ true → 0 < length ws → IsCut ws
first_cut [] all some = absurd (omega arith)
first_cut (w ∷ ws) all some =
    let parts = and_parts (is_plain w) (are_plain ws) all in all_cut w ws parts.0 parts.1

-- ---- what is written in a column

between : (b : ℕ) → 33 ≤ b → b ≤ 126 → is_visible b ≡ true
between b least most = and_from (nat_lt 32 b) (nat_le b 126) (lt-ltb _ _ (omega arith)) (le-leb _ _ most)

digit_plain : (b : ℕ) → is_digit b ≡ true → is_visible b ≡ true
digit_plain b is =
    let ends = and_parts (nat_le 48 b) (nat_le b 57) is in
    let least : 48 ≤ b = leb-true _ _ ends.0 in
    let most : b ≤ 57 = leb-true _ _ ends.1 in
    between b (omega arith) (omega arith)

letter_plain : (b : ℕ) → (nat_le 97 b && nat_le b 122) ≡ true → is_visible b ≡ true
letter_plain b is =
    let ends = and_parts (nat_le 97 b) (nat_le b 122) is in
    let least : 97 ≤ b = leb-true _ _ ends.0 in
    let most : b ≤ 122 = leb-true _ _ ends.1 in
    between b (omega arith) (omega arith)

name_plain : (b : ℕ) → name_byte b ≡ true → is_visible b ≡ true
name_plain b is =
    elim (or_cases ((nat_le 97 b && nat_le b 122) || (nat_le 48 b && nat_le b 57)) (b == 95) is) [
      | inl some ↦ elim (or_cases (nat_le 97 b && nat_le b 122) (nat_le 48 b && nat_le b 57) some) [
        | inl letter ↦ letter_plain b letter
        | inr digit ↦ digit_plain b digit
      ]
      | inr line ↦ let same : b ≡ 95 = eqb-true _ _ line in between b (omega arith) (omega arith)
    ]

name_is_plain : (w : Word) → is_name w ≡ true → is_plain w ≡ true
name_is_plain w is =
    all_weaker name_byte is_visible name_plain w (and_parts (nat_lt 0 (length w) && nat_le (length w) 16) (list_all name_byte w) is).1

number_plain : (n : ℕ) → n < 2 ^ 64 → is_plain (decimal n) ≡ true
number_plain n fits = all_weaker is_digit is_visible digit_plain (decimal n) (decimal_digits n fits)

declared_plain : (names : List Word) (i : ℕ) → AreNames names → i < length names → is_plain (name_at names i) ≡ true
declared_plain names i a within = name_is_plain (name_at names i) (is_name_at names i a within)

new_plain : (v : Value) → IsNameValue v → is_plain (name v) ≡ true
new_plain (value.Name w) is = name_is_plain w is
new_plain v is = absurd is

choice_plain : (m : Menu) (i : ℕ) → is_plain (choice_word m i) ≡ true
choice_plain menu.Version i = refl
choice_plain menu.Fate zero = refl
choice_plain menu.Fate (suc zero) = refl
choice_plain menu.Fate (suc (suc i)) = refl
choice_plain menu.Start zero = refl
choice_plain menu.Start (suc i) = refl
choice_plain menu.Replication zero = refl
choice_plain menu.Replication (suc i) = refl
choice_plain menu.SubKind zero = refl
choice_plain menu.SubKind (suc zero) = refl
choice_plain menu.SubKind (suc (suc zero)) = refl
choice_plain menu.SubKind (suc (suc (suc i))) = refl

place_plain : (p : Option Position) → IsPositionOrEnd (value.PositionOrEnd p) → is_plain (place_word p) ≡ true
place_plain None fits = refl
place_plain (Some p) fits =
    rw (list_all-append is_visible (decimal p.ledger) (58 ∷ decimal p.entry)) (and_from _ _ (number_plain p.ledger fits.0) (number_plain p.entry fits.1))

key_plain : (k : Option Word) → IsKeyValue (value.Key k) → is_plain (key_word k) ≡ true
key_plain None fits = refl
key_plain (Some k) fits = name_is_plain k fits

-- a column whose words may have spaces, or commas
abbrev pub is_wide : Column → Bool
is_wide column.Text = true
is_wide c = is_targets c

cell_plain : (n : Names) (s : Seen) (c : Column) (v : Value) → AreDeclared n → is_wide c ≡ false → Fits n s c v → is_plain (word_of n s c v) ≡ true
cell_plain n s column.Topic (value.Item i) d t fits = declared_plain n.topics i d.topics fits
cell_plain n s column.Home (value.Item i) d t fits = declared_plain n.topics i d.topics fits.0
cell_plain n s column.Cluster (value.Item i) d t fits = declared_plain n.clusters i d.clusters fits
cell_plain n s column.Other (value.Item i) d t fits = declared_plain n.clusters i d.clusters fits.0
cell_plain n s column.Client (value.Item i) d t fits = declared_plain n.clients i d.clients fits
cell_plain n s (column.Doer r) (value.Item i) d t fits = declared_plain n.clients i d.clients fits.0
cell_plain n s column.Offered (value.Item i) d t fits = declared_plain (subs_of n s.topic) i (d.subs s.topic) fits
cell_plain n s column.Sub v d t fits = new_plain v fits.0
cell_plain n s column.Producer v d t fits = new_plain v fits.0
cell_plain n s column.NewCluster v d t fits = new_plain v fits.0
cell_plain n s column.NewTopic v d t fits = new_plain v fits.0
cell_plain n s column.NewClient v d t fits = new_plain v fits.0
cell_plain n s column.Key (value.Key k) d t fits = key_plain k fits
cell_plain n s (column.Count least most) (value.Item i) d t fits = number_plain i (omega (arith, fits.0.1, fits.1))
cell_plain n s column.Lost (value.Item i) d t fits = number_plain i (omega (arith, fits.1))
cell_plain n s column.Twice (value.Item i) d t fits = number_plain i (omega (arith, fits.1))
cell_plain n s column.Seq (value.Seq i) d t fits = number_plain i (omega (arith, fits))
cell_plain n s column.PositionOrEnd (value.PositionOrEnd p) d t fits = place_plain p fits
cell_plain n s (column.Menu m) (value.Item i) d t fits = choice_plain m i
cell_plain n s column.Targets v d t fits = cc
cell_plain n s column.Text v d t fits = cc
cell_plain n s column.Home v d t fits = absurd fits.0
cell_plain n s column.Other v d t fits = absurd fits.0
cell_plain n s (column.Doer r) v d t fits = absurd fits.0
cell_plain n s (column.Count least most) v d t fits = absurd fits.0
cell_plain n s (column.Menu m) v d t fits = absurd fits.0
cell_plain n s c v d t fits = absurd fits

-- ---- a row
abbrev pub none_wide : List Column → Bool
none_wide cs = list_all (λ c. not (is_wide c)) cs

row_plain : (n : Names) (s : Seen) (cs : List Column) (vs : List Value) → AreDeclared n → none_wide cs ≡ true → AreFit n s cs vs → are_plain (words_in n s cs vs) ≡ true
row_plain n s [] vs d t fits = refl
row_plain n s (c ∷ cs) [] d t fits = absurd (omega (arith, fits.0))
row_plain n s (c ∷ cs) (v ∷ vs) d t fits =
    let parts = and_parts (not (is_wide c)) (none_wide cs) t in
    and_from _ _ (cell_plain n s c v d (not-true (is_wide c) parts.0) fits.1) (row_plain n (seen_after n s c (word_of n s c v)) cs vs d parts.1 fits.2)

-- ---- one line a row
event_plain : (k : EventKind) → is_plain (event_word k) ≡ true
event_plain kind.Go = refl
event_plain kind.Get = refl
event_plain kind.Reconnect = refl
event_plain kind.Serve = refl
event_plain kind.Drop = refl
event_plain kind.Reset = refl
event_plain kind.Read = refl
event_plain kind.Take = refl
event_plain kind.Receipt = refl
event_plain kind.Snap = refl
event_plain kind.Offer = refl
event_plain kind.Seek = refl
event_plain kind.Restart = refl

event_narrow : (k : EventKind) → none_wide (event_columns k) ≡ true
event_narrow kind.Go = refl
event_narrow kind.Get = refl
event_narrow kind.Reconnect = refl
event_narrow kind.Serve = refl
event_narrow kind.Drop = refl
event_narrow kind.Reset = refl
event_narrow kind.Read = refl
event_narrow kind.Take = refl
event_narrow kind.Receipt = refl
event_narrow kind.Snap = refl
event_narrow kind.Offer = refl
event_narrow kind.Seek = refl
event_narrow kind.Restart = refl

-- ---- a step
event_words_plain : (n : Names) (e : Event) → AreDeclared n → AreFit n nothing_seen (event_columns (kind_of e)) (event_values e) → are_plain (event_words n e) ≡ true
event_words_plain n e d fits =
    and_from _ _ (event_plain (kind_of e)) (row_plain n nothing_seen (event_columns (kind_of e)) (event_values e) d (event_narrow (kind_of e)) fits)

pub step_plain : (n : Names) (s : Step) → AreDeclared n → IsStep n s → are_plain (step_words n s) ≡ true
step_plain n (step.Plain e) d is = event_words_plain n e d (event_fits n nothing_seen e d is.0)
step_plain n (step.Halt k e) d is =
    and_from (is_plain (decimal k)) (are_plain (event_words n e)) (number_plain k (omega (arith, is.0))) (event_words_plain n e d (event_fits n nothing_seen e d is.1))
step_plain n step.Settle d is = refl
step_plain n step.Stop d is = refl

-- a line has a first word
pub step_cut : (n : Names) (s : Step) → AreDeclared n → IsStep n s → IsCut (step_words n s)
step_cut n (step.Plain e) d is = first_cut (step_words n (step.Plain e)) (step_plain n (step.Plain e) d is) (omega arith)
step_cut n (step.Halt k e) d is = first_cut (step_words n (step.Halt k e)) (step_plain n (step.Halt k e) d is) (omega arith)
step_cut n step.Settle d is = cut_one (codes "settle") refl
step_cut n step.Stop d is = cut_one (codes "stop") refl

-- ---- the bytes of a line
abbrev pub is_shown : ℕ → Bool
is_shown b = nat_le 32 b && nat_le b 126

visible_shown : (b : ℕ) → is_visible b ≡ true → is_shown b ≡ true
visible_shown b is =
    let ends = and_parts (nat_lt 32 b) (nat_le b 126) is in
    let least : 32 < b = ltb-true _ _ ends.0 in
    and_from (nat_le 32 b) (nat_le b 126) (le-leb _ _ (omega arith)) ends.1

joined_shown : (ws : List Word) → are_plain ws ≡ true → list_all is_shown (join_with_byte 32 ws) ≡ true
joined_shown [] all = refl
joined_shown (w ∷ []) all = all_weaker is_visible is_shown visible_shown w (and_parts (is_plain w) true all).0
joined_shown (w ∷ x ∷ xs) all =
    let parts = and_parts (is_plain w) (are_plain (x ∷ xs)) all in
    rw (list_all-append is_shown w (32 ∷ join_with_byte 32 (x ∷ xs))) (and_from _ _ (all_weaker is_visible is_shown visible_shown w parts.0) (joined_shown (x ∷ xs) parts.1))

-- each byte of a step's line is printable
pub step_shown : (n : Names) (s : Step) → AreDeclared n → IsStep n s → list_all is_shown (step_line n s) ≡ true
step_shown n s d is = joined_shown (step_words n s) (step_plain n s d is)

-- a line has a first byte, which is not that of a comment
abbrev pub IsSaid : List ℕ → Type 0
IsSaid bytes = (b : ℕ) × (bs : List ℕ) × (bytes ≡ b ∷ bs) × ((b == 35) ≡ false)

word_said : (k : EventKind) (t : List ℕ) → IsSaid (event_word k ++ t)
word_said kind.Go t = (_, _, refl, refl)
word_said kind.Get t = (_, _, refl, refl)
word_said kind.Reconnect t = (_, _, refl, refl)
word_said kind.Serve t = (_, _, refl, refl)
word_said kind.Drop t = (_, _, refl, refl)
word_said kind.Reset t = (_, _, refl, refl)
word_said kind.Read t = (_, _, refl, refl)
word_said kind.Take t = (_, _, refl, refl)
word_said kind.Receipt t = (_, _, refl, refl)
word_said kind.Snap t = (_, _, refl, refl)
word_said kind.Offer t = (_, _, refl, refl)
word_said kind.Seek t = (_, _, refl, refl)
word_said kind.Restart t = (_, _, refl, refl)

pub step_said : (n : Names) (s : Step) → IsSaid (step_line n s)
step_said n (step.Plain e) =
    subst IsSaid (sym (joined (event_word (kind_of e)) (words_in n nothing_seen (event_columns (kind_of e)) (event_values e)))) (word_said (kind_of e) (spaced (words_in n nothing_seen (event_columns (kind_of e)) (event_values e))))
step_said n (step.Halt k e) = (_, _, refl, refl)
step_said n step.Settle = (_, _, refl, refl)
step_said n step.Stop = (_, _, refl, refl)

-- columns that are not wide are no lists
one_narrow : (c : Column) → not (is_wide c) ≡ true → not (is_targets c) ≡ true
one_narrow column.Text e = refl
one_narrow column.Targets e = e
one_narrow c e = refl

narrow : (cs : List Column) → none_wide cs ≡ true → no_targets cs ≡ true
narrow [] e = refl
narrow (c ∷ cs) e =
    let parts = and_parts (not (is_wide c)) (none_wide cs) e in
    and_from _ _ (one_narrow c parts.0) (narrow cs parts.1)

pub event_listless : (k : EventKind) → no_targets (event_columns k) ≡ true
event_listless k = narrow (event_columns k) (event_narrow k)
