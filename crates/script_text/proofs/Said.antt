-- What the values of a row say, where they fit its columns.
use Rattle.std.proofs.Common.{◌≡◌, ℕ, ◌-◌, ◌<◌, ◌≤◌, ◌^◌, nat_lt, nat_le, ◌==◌, true, false, not, ◌&&◌, List, [], ◌∷◌, length, map, filter, Some, None, unwrap_or, arith, refl, sym, ap, subst, ◌∙◌}
use Rattle.std.specs.Fmt.{decimal}
use Rattle.std.specs.List.{list_any}
use Rattle.std.specs.Str.{bytes_eq}
use Rattle.std.proofs.lemmas.Bool.{and_from, cond_both, leb-false, le-leb, lt-ltb, not-false}
use Rattle.geo_base.specs.declared.entry.Targets.TheVariants as targets
use Rattle.geo_base.specs.Name.{is_name}
use Rattle.geo_base.specs.Scripted.{clients_of, is_known, is_line, is_optional_name, most_flow, most_text_bytes, names_some}
use Rattle.geo_base.specs.Setup.{Declared, Setup}
use Rattle.script_rows.specs.NameBytes.{is_among, name_at, number_in}
use Rattle.script_rows.specs.Numbers.{number_of}
use Rattle.script_rows.specs.NameWords.{Word}
use Rattle.script_rows.proofs.Digits.{number_back}
use Rattle.script_rows.specs.declared.act_kind.ActKind.{ActKind}
use Rattle.script_rows.specs.declared.act_kind.ActKind.TheVariants as act
use Rattle.script_rows.specs.declared.column.Column.{Column}
use Rattle.script_rows.specs.declared.column.Column.TheVariants as column
use Rattle.script_rows.specs.declared.column.Role.{Role}
use Rattle.script_rows.specs.declared.fault.Rule.TheVariants as rule
use Rattle.script_rows.specs.declared.kind.Kind.TheVariants as kind
use Rattle.script_rows.specs.declared.line_kind.LineKind.TheVariants as row
use Rattle.script_rows.specs.declared.names.Member.{Member}
use Rattle.script_rows.specs.declared.value.Value.{Value}
use Rattle.script_rows.specs.declared.value.Value.TheVariants as value
use Rattle.script_rows.specs.Columns.{is_other_role}
use Rattle.script_rows.specs.Names.{Names, Seen, count_of, member_at, member_of, nothing_seen, subs_of}
use Rattle.script_rows.specs.Rows.{act_columns, columns_of}
use Rattle.script_rows.specs.Values.{item, item_at, key, key_at, line_of, name, seq, seq_at, text, text_at, to, to_at}
use Rattle.script_rows.specs.Values as values
use Rattle.script_rows.specs.Written.{AreFit, AreNames, IsKeyValue, IsNameValue, IsSeq, IsTargetsValue, IsTextValue, IsUnbroken, IsWithin}
use Rattle.script_rows.proofs.Back.{number_at}
use Rattle.script_rows.proofs.RowValues.{item_below, item_same, value_at, value_is}
use Rattle.script_text.specs.Adding.{chance_of}
use Rattle.script_text.specs.Naming as naming
use Rattle.script_text.specs.Scenario.{IsChance}
use Rattle.script_text.specs.Subs.{noted_names}
use Rattle.script_text.proofs.Distinct.{among_names}

-- ---- a name that a row declares
name_value : (v : Value) → IsNameValue v → is_name (name v) ≡ true
name_value (value.Name w) is = is
name_value v is = absurd is

abbrev pub IsNew : Names → Seen → Column → Word → Type 0
IsNew n z c w = (is_name w ≡ true) × IsUnbroken n z c w

pub new_at : (n : Names) (z : Seen) (c : Column) (vs : List Value) (i : ℕ) → IsNameValue (value_at vs i) × IsUnbroken n z c (name (value_at vs i)) → IsNew n z c (values.name_at vs i)
new_at n z c vs i f =
    subst (IsNew n z c) (ap name (value_is vs i)) (name_value (value_at vs i) f.0, f.1)

pub cluster_said : (n : Names) (vs : List Value) → AreFit n nothing_seen (columns_of (kind.Other row.Cluster)) vs → IsNew n nothing_seen column.NewCluster (values.name_at vs 0)
cluster_said n vs f = new_at n nothing_seen column.NewCluster vs 0 f.1

pub topic_said : (n : Names) (vs : List Value) → AreFit n nothing_seen (columns_of (kind.Other row.Topic)) vs → IsNew n nothing_seen column.NewTopic (values.name_at vs 0)
topic_said n vs f = new_at n nothing_seen column.NewTopic vs 0 f.1

-- ---- numbers
within_item : (least most : ℕ) (v : Value) → IsWithin least most v → (least ≤ item v) × (item v ≤ most)
within_item least most (value.Item i) is = is
within_item least most v is = absurd is

within_at : (least most : ℕ) (vs : List Value) (i : ℕ) → IsWithin least most (value_at vs i) → (least ≤ item_at vs i) × (item_at vs i ≤ most)
within_at least most vs i is =
    subst (λ (v : Value). (least ≤ item v) × (item v ≤ most)) (value_is vs i) (within_item least most (value_at vs i) is)

pub ledger_said : (n : Names) (vs : List Value) → AreFit n nothing_seen (columns_of (kind.Other row.Ledger)) vs → (1 ≤ item_at vs 0) × (item_at vs 0 ≤ 1000000)
ledger_said n vs f = within_at 1 1000000 vs 0 f.1.0

pub lost_read : (i : ℕ) → i ≤ 1000 → unwrap_or (number_of 1000 (decimal i)) 0 ≡ i
lost_read i small = rw (number_back 1000 i small (omega arith)) refl

pub chance_said : (n : Names) (vs : List Value) → AreFit n nothing_seen (columns_of (kind.Other row.Chance)) vs → IsChance (chance_of vs)
chance_said n vs f =
    let number = within_at 0 4294967295 vs 0 f.1.0 in
    let lost = within_at 0 1000 vs 1 f.2.1 in
    let seen : unwrap_or (number_of 1000 (decimal (item (value_at vs 1)))) 0 ≡ item_at vs 1 = ap (λ (i : ℕ). unwrap_or (number_of 1000 (decimal i)) 0) (item_same vs 1) ∙ lost_read (item_at vs 1) lost.1 in
    let twice = subst (λ (l : ℕ). (0 ≤ item_at vs 2) × (item_at vs 2 ≤ 1000 - l)) seen (within_at 0 (1000 - unwrap_or (number_of 1000 (decimal (item (value_at vs 1)))) 0) vs 2 f.2.2.1) in
    let restart = within_at 0 1000 vs 3 f.2.2.2.1.0 in
    record { number = omega (arith, number.1); fates = omega (arith, lost.1, twice.1); restart = restart.1 }

-- ---- a client
pub topics_counted : (t : ℕ) (ds : List Declared) → length (filter (λ (m : Member). m.topic == t) (map naming.member_of ds)) ≡ length (filter (λ (d : Declared). d.topic == t) ds)
topics_counted t [] = refl
topics_counted t (d ∷ ds) =
    cond_both (d.topic == t) (d ∷ filter (λ (e : Declared). e.topic == t) ds) (filter (λ (e : Declared). e.topic == t) ds) (λ (es : List Declared). length (filter (λ (m : Member). m.topic == t) (map naming.member_of (d ∷ ds))) ≡ length es) (λ same. rw same (omega (arith, topics_counted t ds))) (λ other. rw other (topics_counted t ds))

pub record IsClientSaid (s : Setup) (n : Names) (vs : List Value) : Type 0 where
  pub named : IsNew n nothing_seen column.NewClient (values.name_at vs 0)
  pub topic : item_at vs 1 < length s.topics
  pub cluster : item_at vs 2 < length s.clusters
  pub few : length (clients_of s (item_at vs 1)) < 32

pub client_said : (s : Setup) (ss : List (List Word)) (vs : List Value) → AreNames s.topics → AreFit (noted_names s ss) nothing_seen (columns_of (kind.Other row.Client)) vs → IsClientSaid s (noted_names s ss) vs
client_said s ss vs topics f =
    let n = noted_names s ss in
    let topic = item_below vs 1 (length s.topics) f.2.1.0 in
    let i = item (value_at vs 1) in
    let there : i < length s.topics = subst (λ (j : ℕ). j < length s.topics) (sym (item_same vs 1)) topic in
    let number : number_in s.topics (name_at s.topics i) ≡ item_at vs 1 = number_at s.topics i topics there ∙ item_same vs 1 in
    let few = subst (λ (t : ℕ). nat_le 32 (count_of n t) ≡ false) number (f.2.1.1 rule.Clients) in
    record {
      named = new_at n nothing_seen column.NewClient vs 0 f.1;
      topic = topic;
      cluster = item_below vs 2 (length s.clusters) f.2.2.1;
      few = leb-false 32 (length (clients_of s (item_at vs 1))) (subst (λ (k : ℕ). nat_le 32 k ≡ false) (topics_counted (item_at vs 1) s.clients) few);
    }

-- ---- a client's line
pub record IsDoerSaid (n : Names) (r : Role) (vs : List Value) : Type 0 where
  pub within : item_at vs 0 < length n.clients
  pub mixed : is_other_role (member_at n (item_at vs 0)) r ≡ false

pub doer_said : (n : Names) (r : Role) (cs : List Column) (vs : List Value) → AreNames n.clients → AreFit n nothing_seen (column.Doer r ∷ cs) vs → IsDoerSaid n r vs
doer_said n r cs vs clients f =
    let within = item_below vs 0 (length n.clients) f.1.0 in
    let i = item (value_at vs 0) in
    let there : i < length n.clients = subst (λ (j : ℕ). j < length n.clients) (sym (item_same vs 0)) within in
    let number : number_in n.clients (name_at n.clients i) ≡ item_at vs 0 = number_at n.clients i clients there ∙ item_same vs 0 in
    record {
      within = within;
      mixed = subst (λ (c : ℕ). is_other_role (member_at n c) r ≡ false) number (f.1.1 rule.Mixed);
    }

-- what the words after it know of the line's topic
pub doer_topic : (n : Names) (vs : List Value) → AreNames n.clients → item_at vs 0 < length n.clients → (member_of n (name_at n.clients (item (value_at vs 0)))).topic ≡ (member_at n (item_at vs 0)).topic
doer_topic n vs clients within =
    let i = item (value_at vs 0) in
    let there : i < length n.clients = subst (λ (j : ℕ). j < length n.clients) (sym (item_same vs 0)) within in
    ap (λ (c : ℕ). (member_at n c).topic) (number_at n.clients i clients there ∙ item_same vs 0)

-- ---- the values of a line
seq_value : (v : Value) → IsSeq v → seq v < 2 ^ 63
seq_value (value.Seq i) is = is
seq_value v is = absurd is

seq_small : (vs : List Value) (i : ℕ) → IsSeq (value_at vs i) → seq_at vs i < 2 ^ 63
seq_small vs i is = subst (λ (v : Value). seq v < 2 ^ 63) (value_is vs i) (seq_value (value_at vs i) is)

to_value : (many : ℕ) (v : Value) → IsTargetsValue many v → names_some many (to v) ≡ true
to_value many (value.Targets targets.All) is = refl
to_value many (value.Targets (targets.Only mask)) is =
    and_from (nat_lt 0 mask) (nat_lt mask (2 ^ many)) (lt-ltb _ _ is.0) (lt-ltb _ _ is.1)
to_value many v is = absurd is

key_value : (v : Value) → IsKeyValue v → is_optional_name (key v) ≡ true
key_value (value.Key None) is = refl
key_value (value.Key (Some k)) is = is
key_value v is = absurd is

text_value : (v : Value) → IsTextValue v → length (text v) ≤ 1024
text_value (value.Text t) is = is
text_value v is = absurd is

pub_in : (s : Setup) (ss : List (List Word)) (z : Seen) (vs : List Value) → AreFit (noted_names s ss) z (act_columns act.Pub) vs → is_line s (line_of act.Pub vs) ≡ true
pub_in s ss z vs f =
    let id = lt-ltb (seq_at vs 0) (2 ^ 63) (seq_small vs 0 f.1) in
    let some : names_some (length s.clusters) (to_at vs 1) ≡ true = subst (λ (v : Value). names_some (length s.clusters) (to v) ≡ true) (value_is vs 1) (to_value (length s.clusters) (value_at vs 1) f.2.1) in
    let named : is_optional_name (key_at vs 2) ≡ true = subst (λ (v : Value). is_optional_name (key v) ≡ true) (value_is vs 2) (key_value (value_at vs 2) f.2.2.1) in
    let short : length (text_at vs 3) ≤ 1024 = subst (λ (v : Value). length (text v) ≤ 1024) (value_is vs 3) (text_value (value_at vs 3) f.2.2.2.1) in
    and_from (nat_lt (seq_at vs 0) (2 ^ 63) && names_some (length s.clusters) (to_at vs 1) && is_optional_name (key_at vs 2)) (nat_le (length (text_at vs 3)) most_text_bytes) (and_from (nat_lt (seq_at vs 0) (2 ^ 63) && names_some (length s.clusters) (to_at vs 1)) (is_optional_name (key_at vs 2)) (and_from (nat_lt (seq_at vs 0) (2 ^ 63)) (names_some (length s.clusters) (to_at vs 1)) id some) named) (le-leb _ _ short)

ident_in : (s : Setup) (ss : List (List Word)) (z : Seen) (vs : List Value) → AreFit (noted_names s ss) z (column.Cluster ∷ column.Producer ∷ column.Seq ∷ []) vs → is_known s (values.ident_of vs) ≡ true
ident_in s ss z vs f =
    let origin = lt-ltb _ _ (item_below vs 0 (length s.clusters) f.1) in
    let id = lt-ltb (seq_at vs 2) (2 ^ 63) (seq_small vs 2 f.2.2.1) in
    let unknown : not (is_among (map (λ (d : Declared). d.name) s.clients) (name (value_at vs 1))) ≡ false = f.2.1.1 rule.Undeclared in
    let there : is_among (map (λ (d : Declared). d.name) s.clients) (name (value_at vs 1)) ≡ true = not-false (is_among (map (λ (d : Declared). d.name) s.clients) (name (value_at vs 1))) unknown in
    let named : list_any (λ (d : Declared). bytes_eq d.name (values.name_at vs 1)) s.clients ≡ true = subst (λ (v : Value). list_any (λ (d : Declared). bytes_eq d.name (name v)) s.clients ≡ true) (value_is vs 1) (sym (among_names s.clients (name (value_at vs 1))) ∙ there) in
    and_from (nat_lt (item_at vs 0) (length s.clusters) && nat_lt (seq_at vs 2) (2 ^ 63)) (list_any (λ (d : Declared). bytes_eq d.name (values.name_at vs 1)) s.clients) (and_from (nat_lt (item_at vs 0) (length s.clusters)) (nat_lt (seq_at vs 2) (2 ^ 63)) origin id) named

flow_in : (s : Setup) (n : Names) (z : Seen) (vs : List Value) → AreFit n z (act_columns act.Flow) vs → is_line s (line_of act.Flow vs) ≡ true
flow_in s n z vs f =
    let permits = within_at 1 1000000 vs 0 f.1.0 in
    and_from (nat_lt 0 (item_at vs 0)) (nat_le (item_at vs 0) most_flow) (lt-ltb _ _ (omega (arith, permits.0))) (le-leb _ _ permits.1)

-- the numbers and names of a line are in range
pub line_in : (s : Setup) (ss : List (List Word)) (z : Seen) (k : ActKind) (vs : List Value) → AreFit (noted_names s ss) z (act_columns k) vs → is_line s (line_of k vs) ≡ true
line_in s ss z act.Pub vs f = pub_in s ss z vs f
line_in s ss z act.Sub vs f = (new_at (noted_names s ss) z column.Sub vs 0 f.1).0
line_in s ss z act.Flow vs f = flow_in s (noted_names s ss) z vs f
line_in s ss z act.Ack vs f = ident_in s ss z vs f
line_in s ss z act.AckTo vs f = ident_in s ss z vs f
line_in s ss z act.Move vs f = lt-ltb _ _ (item_below vs 0 (length s.clusters) f.1)
line_in s ss z k vs f = refl

-- there is room for the subscription of a line
pub sub_said : (n : Names) (z : Seen) (vs : List Value) → AreFit n z (act_columns act.Sub) vs → is_among (subs_of n z.topic) (values.name_at vs 0) ≡ false → length (subs_of n z.topic) < 32
sub_said n z vs f new =
    let past : (not (is_among (subs_of n z.topic) (values.name_at vs 0)) && nat_le 32 (length (subs_of n z.topic))) ≡ false = (new_at n z column.Sub vs 0 f.1).1 rule.Subscriptions in
    leb-false 32 (length (subs_of n z.topic)) (rw new at past)
