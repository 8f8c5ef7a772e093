-- The rules ask of a topic's subscriptions only which there are and how many, so that their order says nothing.
use Rattle.std.proofs.Common.{◌≡◌, ℕ, nat_le, Bool, true, false, not, cond, ◌&&◌, ◌||◌, List, [], ◌∷◌, length, find, slice_index_or, is_none, Option, Some, inl, inr, arith, refl, sym, ap, subst, ◌∙◌}
use Rattle.std.specs.List.{list_all}
use Rattle.std.proofs.lemmas.Bool.{and_parts, cases_lt}
use Rattle.std.proofs.lemmas.List.{get_or_past}
use Rattle.std.proofs.lemmas.Map.Made.{length-from_same_keys}
use Rattle.geo_base.specs.Setup.{Setup, sub_names}
use Rattle.script_rows.specs.NameBytes.{is_among, number_in}
use Rattle.script_rows.specs.NameWords.{Word, given, has_name_bytes}
use Rattle.script_rows.specs.declared.act_kind.ActKind.{ActKind}
use Rattle.script_rows.specs.declared.act_kind.ActKind.TheVariants as act
use Rattle.script_rows.specs.declared.column.Column.{Column}
use Rattle.script_rows.specs.declared.column.Column.TheVariants as column
use Rattle.script_rows.specs.declared.fault.Rule.{Rule}
use Rattle.script_rows.specs.declared.fault.Rule.TheVariants as rule
use Rattle.script_rows.specs.declared.heading.Heading.{Heading}
use Rattle.script_rows.specs.declared.heading.Heading.TheVariants as heading
use Rattle.script_rows.specs.declared.kind.Kind.{Kind}
use Rattle.script_rows.specs.declared.kind.Kind.TheVariants as kind
use Rattle.script_rows.specs.declared.line_kind.LineKind.{LineKind}
use Rattle.script_rows.specs.declared.line_kind.LineKind.TheVariants as line
use Rattle.script_rows.specs.declared.progress.Progress.{Progress}
use Rattle.script_rows.specs.declared.value.Value.{Value}
use Rattle.script_rows.specs.declared.value.Value.TheVariants as value
use Rattle.script_rows.specs.Columns.{cell_breaks, is_client_past, is_declared, is_lone, is_mixed, is_ninth_cluster, is_strange_sub, is_stranger, is_sub_past, is_topic_past, seen_after, value_of}
use Rattle.script_rows.specs.Judging.{cells_break, heading_breaks, kind_breaks, values_of}
use Rattle.script_rows.specs.Known.{schedules}
use Rattle.script_rows.specs.Names.{Names, Seen, nothing_seen, subs_of}
use Rattle.script_rows.specs.Rows.{act_columns, columns_of, line_columns}
use Rattle.script_rows.specs.Words.{◌>>=◌}
use Rattle.script_text.specs.Lines.{TextLine}
use Rattle.script_text.specs.Naming.{names_of}
use Rattle.script_text.specs.Rules.{breaks, lowest, rules, said_by}
use Rattle.script_text.specs.Subs.{AreNoted, noted_names}
use Rattle.script_text.proofs.Named.{subs_at, subs_past}
use Rattle.script_text.proofs.SubNames.{among_subs, name_laws, subs_distinct}

abbrev pub with_subs : Names → List (List Word) → Names
with_subs n ss = record n { subs = ss }

-- the same subscriptions, and as many
abbrev pub IsSameAt : Names → List (List Word) → ℕ → Type 0
IsSameAt n ss t =
    ((q : Word) → is_among (slice_index_or ss t []) q ≡ is_among (subs_of n t) q) × (length (slice_index_or ss t []) ≡ length (subs_of n t))

-- ---- a column
given_none : (b : Bool) (x y : Value) → is_none (given b x) ≡ is_none (given b y)
given_none true x y = refl
given_none false x y = refl

form_same : (n : Names) (ss : List (List Word)) (z : Seen) (c : Column) (w : Word) → is_none (value_of (with_subs n ss) z c w) ≡ is_none (value_of n z c w)
form_same n ss z column.Offered w =
    given_none (has_name_bytes w) (value.Item (number_in (slice_index_or ss z.topic []) w)) (value.Item (number_in (subs_of n z.topic) w))
form_same n ss z c w = refl

ninth_same : (n : Names) (ss : List (List Word)) (c : Column) → is_ninth_cluster (with_subs n ss) c ≡ is_ninth_cluster n c
ninth_same n ss column.NewCluster = refl
ninth_same n ss c = refl

declared_same : (n : Names) (ss : List (List Word)) (c : Column) (w : Word) → is_declared (with_subs n ss) c w ≡ is_declared n c w
declared_same n ss column.NewCluster w = refl
declared_same n ss c w = refl

lone_same : (n : Names) (ss : List (List Word)) (c : Column) → is_lone (with_subs n ss) c ≡ is_lone n c
lone_same n ss column.NewTopic = refl
lone_same n ss c = refl

topic_same : (n : Names) (ss : List (List Word)) (c : Column) → is_topic_past (with_subs n ss) c ≡ is_topic_past n c
topic_same n ss column.NewTopic = refl
topic_same n ss c = refl

client_same : (n : Names) (ss : List (List Word)) (c : Column) (w : Word) → is_client_past (with_subs n ss) c w ≡ is_client_past n c w
client_same n ss column.Home w = refl
client_same n ss c w = refl

sub_same : (n : Names) (ss : List (List Word)) (z : Seen) (c : Column) (w : Word) → IsSameAt n ss z.topic → is_sub_past (with_subs n ss) z c w ≡ is_sub_past n z c w
sub_same n ss z column.Sub w a =
    ap (λ (b : Bool). not b && nat_le 32 (length (slice_index_or ss z.topic []))) (a.0 w) ∙ ap (λ (k : ℕ). not (is_among (subs_of n z.topic) w) && nat_le 32 k) a.1
sub_same n ss z c w a = refl

stranger_same : (n : Names) (ss : List (List Word)) (c : Column) (w : Word) → is_stranger (with_subs n ss) c w ≡ is_stranger n c w
stranger_same n ss column.Topic w = refl
stranger_same n ss c w = refl

mixed_same : (n : Names) (ss : List (List Word)) (c : Column) (w : Word) → is_mixed (with_subs n ss) c w ≡ is_mixed n c w
mixed_same n ss (column.Doer r) w = refl
mixed_same n ss c w = refl

strange_same : (n : Names) (ss : List (List Word)) (z : Seen) (c : Column) (w : Word) → IsSameAt n ss z.topic → is_strange_sub (with_subs n ss) z c w ≡ is_strange_sub n z c w
strange_same n ss z column.Offered w a = ap not (a.0 w)
strange_same n ss z c w a = refl

cell_same : (n : Names) (ss : List (List Word)) (z : Seen) (c : Column) (w : Word) (r : Rule) → IsSameAt n ss z.topic → cell_breaks (with_subs n ss) z c w r ≡ cell_breaks n z c w r
cell_same n ss z c w rule.Form a = form_same n ss z c w
cell_same n ss z c w rule.Clusters a = ninth_same n ss c
cell_same n ss z c w rule.NameTwice a = declared_same n ss c w
cell_same n ss z c w rule.Lone a = lone_same n ss c
cell_same n ss z c w rule.Topics a = topic_same n ss c
cell_same n ss z c w rule.Clients a = client_same n ss c w
cell_same n ss z c w rule.Subscriptions a = sub_same n ss z c w a
cell_same n ss z c w rule.Undeclared a = stranger_same n ss c w
cell_same n ss z c w rule.Mixed a = mixed_same n ss c w
cell_same n ss z c w rule.StrangeSubscription a = strange_same n ss z c w a
cell_same n ss z c w r a = refl

seen_same : (n : Names) (ss : List (List Word)) (z : Seen) (c : Column) (w : Word) → seen_after (with_subs n ss) z c w ≡ seen_after n z c w
seen_same n ss z column.Topic w = refl
seen_same n ss z c w = refl

-- ---- a line
cells_same : (n : Names) (ss : List (List Word)) (r : Rule) (z : Seen) (cs : List Column) (ws : List Word) → ((t : ℕ) → IsSameAt n ss t) → cells_break (with_subs n ss) r z cs ws ≡ cells_break n r z cs ws
cells_same n ss r z [] [] a = refl
cells_same n ss r z [] (w ∷ ws) a = refl
cells_same n ss r z (c ∷ cs) [] a = refl
cells_same n ss r z (c ∷ cs) (w ∷ ws) a =
    let m = with_subs n ss in
    ap (λ (b : Bool). b || cells_break m r (seen_after m z c w) cs ws) (cell_same n ss z c w r (a z.topic)) ∙ (ap (λ (u : Seen). cell_breaks n z c w r || cells_break m r u cs ws) (seen_same n ss z c w) ∙ ap (λ (b : Bool). cell_breaks n z c w r || b) (cells_same n ss r (seen_after n z c w) cs ws a))

heading_same : (p : Progress) (n : Names) (ss : List (List Word)) (h : Heading) (r : Rule) → ((t : ℕ) → IsSameAt n ss t) → heading_breaks p (with_subs n ss) h r ≡ heading_breaks p n h r
heading_same p n ss heading.Unknown r a = refl
heading_same p n ss heading.Formless r a = refl
heading_same p n ss (heading.Headed k ws) r a =
    ap (λ (b : Bool). kind_breaks p k r || b) (cells_same n ss r nothing_seen (columns_of k) ws a)

line_same : (p : Progress) (n : Names) (ss : List (List Word)) (l : TextLine) (r : Rule) → ((t : ℕ) → IsSameAt n ss t) → breaks p (with_subs n ss) l r ≡ breaks p n l r
line_same p n ss l rule.Bytes a = refl
line_same p n ss l rule.Head a = refl
line_same p n ss l r a = heading_same p n ss (said_by l) r a

pub find_same : {X : Type 0} (p q : X → Bool) (xs : List X) → ((x : X) → p x ≡ q x) → find p xs ≡ find q xs
find_same {X = X} p q [] same = refl
find_same {X = X} p q (x ∷ xs) same =
    ap (λ (b : Bool). cond b (Some x) (find p xs)) (same x) ∙ ap (λ (o : Option X). cond (q x) (Some x) o) (find_same p q xs same)

lowest_same : (p : Progress) (n : Names) (ss : List (List Word)) (l : TextLine) → ((t : ℕ) → IsSameAt n ss t) → lowest p (with_subs n ss) l ≡ lowest p n l
unfolding lowest
lowest_same p n ss l a =
    find_same (breaks p (with_subs n ss) l) (breaks p n l) rules (λ r. line_same p n ss l r a)

-- ---- what is noted
same_none : (xs ys : List Word) → xs ≡ [] → ys ≡ [] → ((q : Word) → is_among xs q ≡ is_among ys q) × (length xs ≡ length ys)
same_none xs ys a b = ((λ q. ap (λ (names : List Word). is_among names q) (a ∙ sym b)), ap (λ (names : List Word). length names) (a ∙ sym b))

pub noted_among : (s : Setup) (ss : List (List Word)) (t : ℕ) (q : Word) → AreNoted s ss → is_among (slice_index_or ss t []) q ≡ is_among (sub_names s t) q
noted_among s ss t q k = k.same t q ∙ sym (among_subs s t q)

pub noted_count : (s : Setup) (ss : List (List Word)) (t : ℕ) → AreNoted s ss → length (slice_index_or ss t []) ≡ length (sub_names s t)
noted_count s ss t k =
    length-from_same_keys name_laws (slice_index_or ss t []) (sub_names s t) (k.distinct t) (subs_distinct s t) (λ q. noted_among s ss t q k)

same_at : (s : Setup) (ss : List (List Word)) (t : ℕ) → AreNoted s ss → IsSameAt (names_of s) ss t
same_at s ss t k =
    elim (cases_lt t (length s.topics)) [
      | inl within ↦
          subst (λ (names : List Word). ((q : Word) → is_among (slice_index_or ss t []) q ≡ is_among names q) × (length (slice_index_or ss t []) ≡ length names)) (sym (subs_at s t within)) ((λ q. noted_among s ss t q k), noted_count s ss t k)
      | inr past ↦
          let none : slice_index_or ss t [] ≡ [] = get_or_past ss t [] (omega (arith, k.many)) in
          same_none (slice_index_or ss t []) (subs_of (names_of s) t) none (subs_past s t past)
    ]

pub noted_lowest : (p : Progress) (s : Setup) (ss : List (List Word)) (l : TextLine) → AreNoted s ss → lowest p (noted_names s ss) l ≡ lowest p (names_of s) l
noted_lowest p s ss l k = lowest_same p (names_of s) ss l (λ t. same_at s ss t k)

-- ---- values
abbrev pub is_other : Column → Bool
is_other column.Offered = false
is_other c = true

value_same : (n : Names) (ss : List (List Word)) (z : Seen) (c : Column) (w : Word) → is_other c ≡ true → value_of (with_subs n ss) z c w ≡ value_of n z c w
value_same n ss z column.Offered w other = cc
value_same n ss z c w other = refl

values_same : (n : Names) (ss : List (List Word)) (z : Seen) (cs : List Column) (ws : List Word) → list_all is_other cs ≡ true → values_of (with_subs n ss) z cs ws ≡ values_of n z cs ws
values_same n ss z [] [] others = refl
values_same n ss z [] (w ∷ ws) others = refl
values_same n ss z (c ∷ cs) [] others = refl
values_same n ss z (c ∷ cs) (w ∷ ws) others =
    let parts = and_parts (is_other c) (list_all is_other cs) others in
    let m = with_subs n ss in
    ap (λ (o : Option Value). o >>= λ v. values_of m (seen_after m z c w) cs ws >>= λ vs. Some (v ∷ vs)) (value_same n ss z c w parts.0) ∙ (ap (λ (u : Seen). value_of n z c w >>= λ v. values_of m u cs ws >>= λ vs. Some (v ∷ vs)) (seen_same n ss z c w) ∙ ap (λ (o : Option (List Value)). value_of n z c w >>= λ v. o >>= λ vs. Some (v ∷ vs)) (values_same n ss (seen_after n z c w) cs ws parts.1))

act_others : (k : ActKind) → list_all is_other (act_columns k) ≡ true
act_others act.Pub = refl
act_others act.Sub = refl
act_others act.Flow = refl
act_others act.Ack = refl
act_others act.AckTo = refl
act_others act.Move = refl
act_others k = refl

line_others : (k : LineKind) → list_all is_other (line_columns k) ≡ true
line_others line.Chance = refl
line_others k = refl

row_others : (k : Kind) → schedules k ≡ false → list_all is_other (columns_of k) ≡ true
row_others (kind.Other k) is = line_others k
row_others (kind.Do k) is = act_others k
row_others (kind.Event k) is = cc
row_others (kind.Halt k) is = cc

pub noted_values : (s : Setup) (ss : List (List Word)) (k : Kind) (ws : List Word) → schedules k ≡ false → values_of (noted_names s ss) nothing_seen (columns_of k) ws ≡ values_of (names_of s) nothing_seen (columns_of k) ws
noted_values s ss k ws is = values_same (names_of s) ss nothing_seen (columns_of k) ws (row_others k is)
