-- Names and numbers that break no rule in their columns.
use Rattle.std.proofs.Common.{◌≡◌, ℕ, ◌<◌, ◌≤◌, nat_le, true, false, not, ◌&&◌, List, [], ◌∷◌, length, get_or, arith, refl, ap, ◌∙◌}
use Rattle.std.specs.Str.{bytes_eq}
use Rattle.std.proofs.lemmas.Bool.{le-ltb, lt-leb, or_parts}
use Rattle.std.proofs.lemmas.List.Folds.{list_any_at}
use Rattle.std.proofs.lemmas.Slice.Eq.{bytes_eq-Decides}
use Rattle.geo_base.specs.Name.{is_name}
use Rattle.script_rows.specs.NameBytes.{is_among, name_at}
use Rattle.script_rows.specs.NameWords.{Word}
use Rattle.script_rows.specs.declared.column.Column.{Column}
use Rattle.script_rows.specs.declared.column.Column.TheVariants as column
use Rattle.script_rows.specs.declared.column.Role.{Role}
use Rattle.script_rows.specs.declared.fault.Rule.{Rule}
use Rattle.script_rows.specs.declared.fault.Rule.TheVariants as rule
use Rattle.script_rows.specs.declared.value.Value.{Value}
use Rattle.script_rows.specs.Columns.{cell_breaks, is_other_role}
use Rattle.script_rows.specs.Names.{Names, Seen, count_of, member_at, subs_of}
use Rattle.script_rows.specs.Written.{AreDeclared, AreNames, Fits, IsUnbroken, word_of}
use Rattle.script_rows.proofs.Back.{is_name_at, is_targets, no_targets, number_at, row_ok}
use Rattle.script_text.proofs.PlainWords.{has_bytes, is_short}

pub among_at : (names : List Word) (i : ℕ) → i < length names → is_among names (name_at names i) ≡ true
among_at names i within =
    list_any_at (λ n. bytes_eq n (name_at names i)) names i [] within ((bytes_eq-Decides (get_or names i []) (get_or names i [])).1 refl)

-- ---- a name that is new
pub cluster_new : (n : Names) (z : Seen) (w : Word) → is_name w ≡ true → is_among n.clusters w ≡ false → length n.clusters < 8 → IsUnbroken n z column.NewCluster w
cluster_new n z w is new few rule.Form = rw (has_bytes w is) refl
cluster_new n z w is new few rule.LongName = is_short w is
cluster_new n z w is new few rule.Clusters = lt-leb _ _ few
cluster_new n z w is new few rule.NameTwice = new
cluster_new n z w is new few r = refl

pub topic_new : (n : Names) (z : Seen) (w : Word) → is_name w ≡ true → is_among n.topics w ≡ false → length n.topics < 16 → 2 ≤ length n.clusters → IsUnbroken n z column.NewTopic w
topic_new n z w is new few pair rule.Form = rw (has_bytes w is) refl
topic_new n z w is new few pair rule.LongName = is_short w is
topic_new n z w is new few pair rule.NameTwice = new
topic_new n z w is new few pair rule.Lone = le-ltb _ _ pair
topic_new n z w is new few pair rule.Topics = lt-leb _ _ few
topic_new n z w is new few pair r = refl

pub client_new : (n : Names) (z : Seen) (w : Word) → is_name w ≡ true → is_among n.clients w ≡ false → IsUnbroken n z column.NewClient w
client_new n z w is new rule.Form = rw (has_bytes w is) refl
client_new n z w is new rule.LongName = is_short w is
client_new n z w is new rule.NameTwice = new
client_new n z w is new r = refl

-- ---- a name that is declared
pub home_ok : (n : Names) (z : Seen) (t : ℕ) → AreNames n.topics → t < length n.topics → count_of n t < 32 → IsUnbroken n z column.Home (name_at n.topics t)
home_ok n z t names within few rule.Form = rw (has_bytes _ (is_name_at n.topics t names within)) refl
home_ok n z t names within few rule.LongName = is_short _ (is_name_at n.topics t names within)
home_ok n z t names within few rule.Clients =
    ap (λ (i : ℕ). nat_le 32 (count_of n i)) (number_at n.topics t names within) ∙ lt-leb _ _ few
home_ok n z t names within few rule.Undeclared = rw (among_at n.topics t within) refl
home_ok n z t names within few r = refl

pub doer_ok : (n : Names) (z : Seen) (r : Role) (c : ℕ) → AreNames n.clients → c < length n.clients → is_other_role (member_at n c) r ≡ false → IsUnbroken n z (column.Doer r) (name_at n.clients c)
doer_ok n z r c names within apart rule.Form = rw (has_bytes _ (is_name_at n.clients c names within)) refl
doer_ok n z r c names within apart rule.LongName = is_short _ (is_name_at n.clients c names within)
doer_ok n z r c names within apart rule.Undeclared = rw (among_at n.clients c within) refl
doer_ok n z r c names within apart rule.Mixed =
    ap (λ (i : ℕ). is_other_role (member_at n i) r) (number_at n.clients c names within) ∙ apart
doer_ok n z r c names within apart q = refl

pub producer_ok : (n : Names) (z : Seen) (w : Word) → is_name w ≡ true → is_among n.clients w ≡ true → IsUnbroken n z column.Producer w
producer_ok n z w is known rule.Form = rw (has_bytes w is) refl
producer_ok n z w is known rule.LongName = is_short w is
producer_ok n z w is known rule.Undeclared = rw known refl
producer_ok n z w is known r = refl

pub sub_ok : (n : Names) (z : Seen) (w : Word) → is_name w ≡ true → (not (is_among (subs_of n z.topic) w) && nat_le 32 (length (subs_of n z.topic))) ≡ false → IsUnbroken n z column.Sub w
sub_ok n z w is room rule.Form = rw (has_bytes w is) refl
sub_ok n z w is room rule.LongName = is_short w is
sub_ok n z w is room rule.Subscriptions = room
sub_ok n z w is room r = refl

-- ---- any value that fits
pub cell_ok : (n : Names) (r : Rule) (z : Seen) (c : Column) (v : Value) → AreDeclared n → is_targets c ≡ false → Fits n z c v → cell_breaks n z c (word_of n z c v) r ≡ false
cell_ok n r z c v d t fits =
    let narrow : no_targets (c ∷ []) ≡ true = rw t refl in
    (or_parts (cell_breaks n z c (word_of n z c v) r) false (row_ok n r z (c ∷ []) (v ∷ []) d narrow (omega arith, fits, refl))).0
