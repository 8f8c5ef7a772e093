-- What is written in a column reads back.
use Rattle.std.proofs.Common.{◌≡◌, ℕ, zero, suc, ◌-◌, ◌<◌, ◌≤◌, ◌^◌, nat_le, nat_lt, ◌==◌, Bool, true, false, not, ◌&&◌, List, [], ◌∷◌, ◌++◌, length, get_or, All, Option, Some, None, is_none, codes, arith, refl, sym, ap, ◌∙◌, subst}
use Rattle.std.specs.Fmt.{decimal}
use Rattle.std.specs.List.{list_all, slice_split}
use Rattle.std.specs.Str.{bytes_eq}
use Rattle.std.proofs.lemmas.Bool.{and_from, and_parts, both_ways, ne_eqb, true_from_ne_false, or_from, false_from_ne_true, le-leb, leb-true, le-ltb, not-true}
use Rattle.std.proofs.lemmas.List.Elements.{All-from_get_or}
use Rattle.std.proofs.lemmas.List.Folds.{list_any_at, list_all_at}
use Rattle.std.proofs.lemmas.List.Splits.{slice_split_at, slice_split_none}
use Rattle.std.proofs.lemmas.List.Sums.{position_or_len_is}
use Rattle.std.proofs.lemmas.Option.{slice_get-get_or}
use Rattle.std.proofs.lemmas.Slice.Eq.{bytes_eq-Decides}
use Rattle.geo_base.specs.declared.position.Position.{Position}
use Rattle.geo_base.specs.Name.{is_name, name_byte}
use Rattle.script_rows.specs.NameBytes.{is_among, name_at, number_in}
use Rattle.script_rows.specs.Numbers.{is_digit, number_of}
use Rattle.script_rows.specs.NameWords.{Word, has_name_bytes, is_long}
use Rattle.script_rows.proofs.Digits.{decimal_digits, number_back}
use Rattle.script_rows.specs.declared.column.Column.{Column}
use Rattle.script_rows.specs.declared.column.Column.TheVariants as column
use Rattle.script_rows.specs.declared.column.Menu.{Menu}
use Rattle.script_rows.specs.declared.column.Menu.TheVariants as menu
use Rattle.script_rows.specs.declared.fault.Rule.{Rule}
use Rattle.script_rows.specs.declared.fault.Rule.TheVariants as rule
use Rattle.script_rows.specs.declared.value.Value.{Value}
use Rattle.script_rows.specs.declared.value.Value.TheVariants as value
use Rattle.script_rows.specs.Columns.{cell_breaks, choice_of, counted, key_of, named, new_name, place_of, seen_after, value_of}
use Rattle.script_rows.specs.Judging.{cells_break, values_of}
use Rattle.script_rows.specs.Names.{Names, Seen, subs_of}
use Rattle.script_rows.specs.Values.{name}
use Rattle.script_rows.specs.Written.{AreDeclared, AreFit, AreNames, Fits, IsKeyValue, IsNameValue, IsPositionOrEnd, choice_word, choices, key_word, place_word, word_of, words_in}

-- an element of a list that passes as a whole
pub passes : {X : Type 0} (p : X → Bool) (xs : List X) (i : ℕ) (d : X) → list_all p xs ≡ true → i < length xs → p (get_or xs i d) ≡ true
passes p xs i d all within =
    true_from_ne_false _ (λ fails. both_ways (list_all p xs) (list_all_at p xs i d within fails) all)

-- ---- names
apart_at : (names : List Word) (k i : ℕ) → AreNames names → k < i → i < length names → bytes_eq (get_or names k []) (get_or names i []) ≡ false
apart_at names k i a before within =
    a.apart k i (get_or names k []) (get_or names i []) before (slice_get-get_or names k [] (omega arith)) (slice_get-get_or names i [] within)

pub number_at : (names : List Word) (i : ℕ) → AreNames names → i < length names → number_in names (name_at names i) ≡ i
number_at names i a within =
    position_or_len_is (λ n. bytes_eq n (name_at names i)) names i [] (omega arith) (λ k before. apart_at names k i a before within) (λ _. (bytes_eq-Decides (get_or names i []) (get_or names i [])).1 refl)

among_at : (names : List Word) (i : ℕ) → i < length names → is_among names (name_at names i) ≡ true
among_at names i within =
    list_any_at (λ n. bytes_eq n (name_at names i)) names i [] within ((bytes_eq-Decides (get_or names i []) (get_or names i [])).1 refl)

pub is_name_at : (names : List Word) (i : ℕ) → AreNames names → i < length names → is_name (name_at names i) ≡ true
is_name_at names i a within = passes is_name names i [] a.each within

named_of : (w : Word) → is_name w ≡ true → (has_name_bytes w ≡ true) × (is_long w ≡ false)
named_of w e =
    let both = and_parts (nat_lt 0 (length w) && nat_le (length w) 16) (list_all name_byte w) e in
    let ends = and_parts (nat_lt 0 (length w)) (nat_le (length w) 16) both.0 in
    (and_from (nat_lt 0 (length w)) (list_all name_byte w) ends.0 both.1, le-ltb _ _ (leb-true _ _ ends.1))

named_back : (names : List Word) (i : ℕ) → AreNames names → i < length names → named names (name_at names i) ≡ Some (value.Item i)
named_back names i a within =
    rw ((named_of _ (is_name_at names i a within)).0, number_at names i a within) refl

-- ---- choices
choice_back : (m : Menu) (i : ℕ) → i < choices m → choice_of m (choice_word m i) ≡ Some i
choice_back menu.Version zero within = refl
choice_back menu.Version (suc i) within = absurd (omega arith)
choice_back menu.Fate zero within = refl
choice_back menu.Fate (suc zero) within = refl
choice_back menu.Fate (suc (suc zero)) within = refl
choice_back menu.Fate (suc (suc (suc i))) within = absurd (omega arith)
choice_back menu.Start zero within = refl
choice_back menu.Start (suc zero) within = refl
choice_back menu.Start (suc (suc i)) within = absurd (omega arith)
choice_back menu.Replication zero within = refl
choice_back menu.Replication (suc zero) within = refl
choice_back menu.Replication (suc (suc i)) within = absurd (omega arith)
choice_back menu.SubKind zero within = refl
choice_back menu.SubKind (suc zero) within = refl
choice_back menu.SubKind (suc (suc zero)) within = refl
choice_back menu.SubKind (suc (suc (suc zero))) within = refl
choice_back menu.SubKind (suc (suc (suc (suc i)))) within = absurd (omega arith)

-- ---- places
not_colon : (b : ℕ) → is_digit b ≡ true → (b == 58) ≡ false
not_colon b is =
    let ends = and_parts (nat_le 48 b) (nat_le b 57) is in
    let most : b ≤ 57 = leb-true _ _ ends.1 in
    ne_eqb b 58 (λ same. omega arith)

no_colon : (ds : List ℕ) → list_all is_digit ds ≡ true → All (λ b. (b == 58) ≡ false) ds
no_colon ds all =
    All-from_get_or (λ b. (b == 58) ≡ false) ds 0 (λ k within. not_colon (get_or ds k 0) (passes is_digit ds k 0 all within))

split_pair : (l e : List ℕ) → list_all is_digit l ≡ true → list_all is_digit e ≡ true → slice_split (λ b. b == 58) (l ++ 58 ∷ e) ≡ l ∷ e ∷ []
split_pair l e first second =
    slice_split_at (λ b. b == 58) l 58 e (no_colon l first) refl ∙ ap (λ (ws : List Word). l ∷ ws) (slice_split_none (λ b. b == 58) e (no_colon e second))

one_is_not_two : (w l e : Word) → w ∷ [] ≡ l ∷ e ∷ [] → ⊥
one_is_not_two w l e same = omega (arith, ap length same)

not_end : (w l e : Word) → slice_split (λ b. b == 58) w ≡ l ∷ e ∷ [] → bytes_eq w (codes "end") ≡ false
not_end w l e two =
    false_from_ne_true _ (λ same. one_is_not_two (codes "end") l e (ap (λ (v : Word). slice_split (λ b. b == 58) v) (sym ((bytes_eq-Decides w (codes "end")).0 same)) ∙ two))

place_back : (p : Option Position) → IsPositionOrEnd (value.PositionOrEnd p) → place_of (place_word p) ≡ Some p
place_back None fits = refl
place_back (Some p) fits =
    let two = split_pair (decimal p.ledger) (decimal p.entry) (decimal_digits p.ledger fits.0) (decimal_digits p.entry fits.1) in
    rw (not_end (place_word (Some p)) (decimal p.ledger) (decimal p.entry) two, two, number_back (2 ^ 64 - 1) p.ledger (omega (arith, fits.0)) fits.0, number_back (2 ^ 64 - 1) p.entry (omega (arith, fits.1)) fits.1) refl

-- ---- a column
counted_back : (least most i : ℕ) → least ≤ i → i ≤ most → most < 2 ^ 64 → counted least most (decimal i) ≡ Some (value.Item i)
counted_back least most i low high fits =
    rw (number_back most i high (omega arith), le-leb _ _ low) refl

chosen_back : (n : Names) (s : Seen) (m : Menu) (i : ℕ) → i < choices m → value_of n s (column.Menu m) (choice_word m i) ≡ Some (value.Item i)
chosen_back n s m i within = rw (choice_back m i within) refl

-- a key that is a name is no `-`
no_dash : (k : Word) → is_name k ≡ true → bytes_eq k (codes "-") ≡ false
no_dash k is =
    false_from_ne_true _ (λ same. both_ways (is_name (codes "-")) refl (subst (λ (w : Word). is_name w ≡ true) ((bytes_eq-Decides k (codes "-")).0 same) is))

key_back : (k : Option Word) → IsKeyValue (value.Key k) → key_of (key_word k) ≡ Some k
key_back None fits = refl
key_back (Some k) fits = rw (no_dash k fits, (named_of k fits).0) refl

seq_back : (i : ℕ) → i < 2 ^ 63 → number_of (2 ^ 63 - 1) (decimal i) ≡ Some i
seq_back i fits = number_back (2 ^ 63 - 1) i (omega arith) (omega arith)

-- a name itself
new_back : (v : Value) → IsNameValue v → (w : Word) → w ≡ name v → new_name w ≡ Some v
new_back (value.Name t) is w same = rw (same, (named_of t is).0) refl
new_back v is w same = absurd is

-- a list of clusters
abbrev pub is_targets : Column → Bool
is_targets column.Targets = true
is_targets c = false

pub value_back : (n : Names) (s : Seen) (c : Column) (v : Value) → AreDeclared n → is_targets c ≡ false → Fits n s c v → value_of n s c (word_of n s c v) ≡ Some v
value_back n s column.Topic (value.Item i) d t fits = named_back n.topics i d.topics fits
value_back n s column.Home (value.Item i) d t fits = named_back n.topics i d.topics fits.0
value_back n s column.Cluster (value.Item i) d t fits = named_back n.clusters i d.clusters fits
value_back n s column.Other (value.Item i) d t fits = named_back n.clusters i d.clusters fits.0
value_back n s column.Client (value.Item i) d t fits = named_back n.clients i d.clients fits
value_back n s (column.Doer r) (value.Item i) d t fits = named_back n.clients i d.clients fits.0
value_back n s column.Offered (value.Item i) d t fits = named_back (subs_of n s.topic) i (d.subs s.topic) fits
value_back n s column.Sub v d t fits = new_back v fits.0 (name v) refl
value_back n s column.Producer v d t fits = new_back v fits.0 (name v) refl
value_back n s column.NewCluster v d t fits = new_back v fits.0 (name v) refl
value_back n s column.NewTopic v d t fits = new_back v fits.0 (name v) refl
value_back n s column.NewClient v d t fits = new_back v fits.0 (name v) refl
value_back n s column.Key (value.Key k) d t fits = rw (key_back k fits) refl
value_back n s column.Text (value.Text x) d t fits = refl
value_back n s (column.Count least most) (value.Item i) d t fits = counted_back least most i fits.0.0 fits.0.1 fits.1
value_back n s column.Lost (value.Item i) d t fits = counted_back 0 1000 i fits.0 fits.1 (omega arith)
value_back n s column.Twice (value.Item i) d t fits = counted_back 0 (1000 - s.lost) i fits.0 fits.1 (omega arith)
value_back n s column.Seq (value.Seq i) d t fits = rw (seq_back i fits) refl
value_back n s column.PositionOrEnd (value.PositionOrEnd p) d t fits = rw (place_back p fits) refl
value_back n s (column.Menu m) (value.Item i) d t fits = chosen_back n s m i fits.0
value_back n s column.Targets v d t fits = cc
value_back n s column.Home v d t fits = absurd fits.0
value_back n s column.Other v d t fits = absurd fits.0
value_back n s (column.Doer r) v d t fits = absurd fits.0
value_back n s (column.Count least most) v d t fits = absurd fits.0
value_back n s (column.Menu m) v d t fits = absurd fits.0
value_back n s c v d t fits = absurd fits

-- ---- the rules of a column
-- names that are declared break no rule
declared_ok : (names : List Word) (i : ℕ) → i < length names → not (is_among names (name_at names i)) ≡ false
declared_ok names i within = rw (among_at names i within) refl

short_ok : (names : List Word) (i : ℕ) → AreNames names → i < length names → is_long (name_at names i) ≡ false
short_ok names i a within = (named_of _ (is_name_at names i a within)).1

formed : (n : Names) (s : Seen) (c : Column) (v : Value) → AreDeclared n → is_targets c ≡ false → Fits n s c v → is_none (value_of n s c (word_of n s c v)) ≡ false
formed n s c v d t fits = rw (value_back n s c v d t fits) refl

long_key : (k : Option Word) → IsKeyValue (value.Key k) → is_long (key_word k) ≡ false
long_key None fits = refl
long_key (Some k) fits = (named_of k fits).1

later_ok : (n : Names) (s : Seen) (c : Column) (v : Value) → Fits n s c v → cell_breaks n s c (word_of n s c v) rule.Word ≡ false
later_ok n s (column.Menu m) v fits = fits.1
later_ok n s c v fits = refl

long_ok : (n : Names) (s : Seen) (c : Column) (v : Value) → AreDeclared n → is_targets c ≡ false → Fits n s c v → cell_breaks n s c (word_of n s c v) rule.LongName ≡ false
long_ok n s column.Topic (value.Item i) d t fits = short_ok n.topics i d.topics fits
long_ok n s column.Home v d t fits = fits.1 rule.LongName
long_ok n s column.Cluster (value.Item i) d t fits = short_ok n.clusters i d.clusters fits
long_ok n s column.Other (value.Item i) d t fits = short_ok n.clusters i d.clusters fits.0
long_ok n s column.Client (value.Item i) d t fits = short_ok n.clients i d.clients fits
long_ok n s (column.Doer r) v d t fits = fits.1 rule.LongName
long_ok n s column.Offered (value.Item i) d t fits = short_ok (subs_of n s.topic) i (d.subs s.topic) fits
long_ok n s column.Sub v d t fits = fits.1 rule.LongName
long_ok n s column.Producer v d t fits = fits.1 rule.LongName
long_ok n s column.NewCluster v d t fits = fits.1 rule.LongName
long_ok n s column.NewTopic v d t fits = fits.1 rule.LongName
long_ok n s column.NewClient v d t fits = fits.1 rule.LongName
long_ok n s column.Key (value.Key k) d t fits = long_key k fits
long_ok n s column.Text v d t fits = refl
long_ok n s (column.Count least most) v d t fits = refl
long_ok n s column.Lost v d t fits = refl
long_ok n s column.Twice v d t fits = refl
long_ok n s column.Seq v d t fits = refl
long_ok n s column.PositionOrEnd v d t fits = refl
long_ok n s (column.Menu m) v d t fits = refl
long_ok n s column.Targets v d t fits = cc
long_ok n s column.Other v d t fits = absurd fits.0
long_ok n s c v d t fits = absurd fits

ninth_ok : (n : Names) (s : Seen) (c : Column) (v : Value) → Fits n s c v → cell_breaks n s c (word_of n s c v) rule.Clusters ≡ false
ninth_ok n s column.NewCluster v fits = fits.1 rule.Clusters
ninth_ok n s c v fits = refl

again_ok : (n : Names) (s : Seen) (c : Column) (v : Value) → Fits n s c v → cell_breaks n s c (word_of n s c v) rule.NameTwice ≡ false
again_ok n s column.NewCluster v fits = fits.1 rule.NameTwice
again_ok n s column.NewTopic v fits = fits.1 rule.NameTwice
again_ok n s column.NewClient v fits = fits.1 rule.NameTwice
again_ok n s c v fits = refl

lone_ok : (n : Names) (s : Seen) (c : Column) (v : Value) → Fits n s c v → cell_breaks n s c (word_of n s c v) rule.Lone ≡ false
lone_ok n s column.NewTopic v fits = fits.1 rule.Lone
lone_ok n s c v fits = refl

topics_ok : (n : Names) (s : Seen) (c : Column) (v : Value) → Fits n s c v → cell_breaks n s c (word_of n s c v) rule.Topics ≡ false
topics_ok n s column.NewTopic v fits = fits.1 rule.Topics
topics_ok n s c v fits = refl

clients_ok : (n : Names) (s : Seen) (c : Column) (v : Value) → Fits n s c v → cell_breaks n s c (word_of n s c v) rule.Clients ≡ false
clients_ok n s column.Home v fits = fits.1 rule.Clients
clients_ok n s c v fits = refl

subs_ok : (n : Names) (s : Seen) (c : Column) (v : Value) → Fits n s c v → cell_breaks n s c (word_of n s c v) rule.Subscriptions ≡ false
subs_ok n s column.Sub v fits = fits.1 rule.Subscriptions
subs_ok n s c v fits = refl

text_ok : (n : Names) (s : Seen) (c : Column) (v : Value) → Fits n s c v → cell_breaks n s c (word_of n s c v) rule.LongText ≡ false
text_ok n s column.Text (value.Text x) fits = le-ltb _ _ fits
text_ok n s column.Text v fits = absurd fits
text_ok n s c v fits = refl

known_ok : (n : Names) (s : Seen) (c : Column) (v : Value) → is_targets c ≡ false → Fits n s c v → cell_breaks n s c (word_of n s c v) rule.Undeclared ≡ false
known_ok n s column.Topic (value.Item i) t fits = declared_ok n.topics i fits
known_ok n s column.Home v t fits = fits.1 rule.Undeclared
known_ok n s column.Cluster (value.Item i) t fits = declared_ok n.clusters i fits
known_ok n s column.Other (value.Item i) t fits = declared_ok n.clusters i fits.0
known_ok n s column.Client (value.Item i) t fits = declared_ok n.clients i fits
known_ok n s (column.Doer r) v t fits = fits.1 rule.Undeclared
known_ok n s column.Producer v t fits = fits.1 rule.Undeclared
known_ok n s column.Targets v t fits = cc
known_ok n s column.Topic v t fits = absurd fits
known_ok n s column.Cluster v t fits = absurd fits
known_ok n s column.Other v t fits = absurd fits.0
known_ok n s column.Client v t fits = absurd fits
known_ok n s c v t fits = refl

mixed_ok : (n : Names) (s : Seen) (c : Column) (v : Value) → Fits n s c v → cell_breaks n s c (word_of n s c v) rule.Mixed ≡ false
mixed_ok n s (column.Doer r) v fits = fits.1 rule.Mixed
mixed_ok n s c v fits = refl

sub_ok : (n : Names) (s : Seen) (c : Column) (v : Value) → Fits n s c v → cell_breaks n s c (word_of n s c v) rule.StrangeSubscription ≡ false
sub_ok n s column.Offered (value.Item i) fits = declared_ok (subs_of n s.topic) i fits
sub_ok n s column.Offered v fits = absurd fits
sub_ok n s c v fits = refl

loop_ok : (n : Names) (s : Seen) (c : Column) (v : Value) → Fits n s c v → cell_breaks n s c (word_of n s c v) rule.Loop ≡ false
loop_ok n s column.Other v fits = fits.1
loop_ok n s c v fits = refl

repeat_ok : (n : Names) (s : Seen) (c : Column) (v : Value) → is_targets c ≡ false → cell_breaks n s c (word_of n s c v) rule.TargetTwice ≡ false
repeat_ok n s column.Targets v t = cc
repeat_ok n s c v t = refl

-- a value that fits breaks no rule where it is written
cell_ok : (n : Names) (s : Seen) (c : Column) (v : Value) (r : Rule) → AreDeclared n → is_targets c ≡ false → Fits n s c v → cell_breaks n s c (word_of n s c v) r ≡ false
cell_ok n s c v rule.Word d t fits = later_ok n s c v fits
cell_ok n s c v rule.Form d t fits = formed n s c v d t fits
cell_ok n s c v rule.LongName d t fits = long_ok n s c v d t fits
cell_ok n s c v rule.Clusters d t fits = ninth_ok n s c v fits
cell_ok n s c v rule.NameTwice d t fits = again_ok n s c v fits
cell_ok n s c v rule.Lone d t fits = lone_ok n s c v fits
cell_ok n s c v rule.Topics d t fits = topics_ok n s c v fits
cell_ok n s c v rule.Clients d t fits = clients_ok n s c v fits
cell_ok n s c v rule.Subscriptions d t fits = subs_ok n s c v fits
cell_ok n s c v rule.LongText d t fits = text_ok n s c v fits
cell_ok n s c v rule.Undeclared d t fits = known_ok n s c v t fits
cell_ok n s c v rule.Mixed d t fits = mixed_ok n s c v fits
cell_ok n s c v rule.StrangeSubscription d t fits = sub_ok n s c v fits
cell_ok n s c v rule.Loop d t fits = loop_ok n s c v fits
cell_ok n s c v rule.TargetTwice d t fits = repeat_ok n s c v t
cell_ok n s c v r d t fits = refl

-- ---- a row
-- no column is a list of clusters, which is read as a set
abbrev pub no_targets : List Column → Bool
no_targets cs = list_all (λ c. not (is_targets c)) cs

one_no_targets : (c : Column) (cs : List Column) → no_targets (c ∷ cs) ≡ true → (is_targets c ≡ false) × (no_targets cs ≡ true)
one_no_targets c cs all =
    let parts = and_parts (not (is_targets c)) (no_targets cs) all in (not-true (is_targets c) parts.0, parts.1)

pub row_back : (n : Names) (s : Seen) (cs : List Column) (vs : List Value) → AreDeclared n → no_targets cs ≡ true → AreFit n s cs vs → values_of n s cs (words_in n s cs vs) ≡ Some vs
row_back n s [] [] d t fits = refl
row_back n s [] (v ∷ vs) d t fits = absurd (omega (arith, fits))
row_back n s (c ∷ cs) [] d t fits = absurd (omega (arith, fits.0))
row_back n s (c ∷ cs) (v ∷ vs) d t fits =
    let parts = one_no_targets c cs t in
    rw (value_back n s c v d parts.0 fits.1, row_back n (seen_after n s c (word_of n s c v)) cs vs d parts.1 fits.2) refl

pub row_ok : (n : Names) (r : Rule) (s : Seen) (cs : List Column) (vs : List Value) → AreDeclared n → no_targets cs ≡ true → AreFit n s cs vs → cells_break n r s cs (words_in n s cs vs) ≡ false
row_ok n r s [] [] d t fits = refl
row_ok n r s [] (v ∷ vs) d t fits = absurd (omega (arith, fits))
row_ok n r s (c ∷ cs) [] d t fits = absurd (omega (arith, fits.0))
row_ok n r s (c ∷ cs) (v ∷ vs) d t fits =
    let parts = one_no_targets c cs t in
    or_from _ _ (cell_ok n s c v r d parts.0 fits.1) (row_ok n r (seen_after n s c (word_of n s c v)) cs vs d parts.1 fits.2)
