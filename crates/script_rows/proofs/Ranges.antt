-- The numbers of a step that is read are in range.
use Rattle.std.proofs.Common.{◌≡◌, ℕ, zero, suc, ◌<◌, ◌≤◌, ◌^◌, true, false, List, [], ◌∷◌, length, arith, refl, sym, ap, ◌∙◌, subst}
use Rattle.std.specs.Str.{bytes_eq}
use Rattle.std.proofs.lemmas.Bool.{both_ways, not_from_false}
use Rattle.std.proofs.lemmas.Slice.Eq.{bytes_eq-Decides}
use Rattle.script_rows.specs.NameBytes.{name_at, number_in}
use Rattle.script_rows.specs.declared.act_kind.ActKind.{ActKind}
use Rattle.script_rows.specs.declared.act_kind.ActKind.TheVariants as act
use Rattle.script_rows.specs.declared.column.Column.{Column}
use Rattle.script_rows.specs.declared.column.Column.TheVariants as column
use Rattle.script_rows.specs.declared.column.Menu.TheVariants as menu
use Rattle.script_rows.specs.declared.event_kind.EventKind.{EventKind}
use Rattle.script_rows.specs.declared.event_kind.EventKind.TheVariants as kind
use Rattle.script_rows.specs.declared.kind.Kind.{Kind}
use Rattle.script_rows.specs.declared.kind.Kind.TheVariants as line_kind
use Rattle.script_rows.specs.declared.line_kind.LineKind.{LineKind}
use Rattle.script_rows.specs.declared.line_kind.LineKind.TheVariants as line
use Rattle.script_rows.specs.declared.value.Value.{Value}
use Rattle.script_rows.specs.declared.value.Value.TheVariants as value
use Rattle.script_rows.specs.Known.{IsEvent, IsLink, IsNode, is_fate_built}
use Rattle.script_rows.specs.Names.{Names, Seen, subs_of}
use Rattle.script_rows.specs.Rows.{act_columns, columns_of, event_columns, fated_link, is_later, line_columns}
use Rattle.script_rows.specs.Values.{event_of, fate_numbered, first, item, item_at, place, place_at}
use Rattle.script_rows.specs.Written.{AreDeclared, AreFit, IsPositionOrEnd, IsWithin, choice_word, fate_number, kind_of}
use Rattle.script_rows.proofs.Back.{number_at}
use Rattle.script_rows.proofs.Fits.{AreBounded}
use Rattle.script_rows.proofs.RowValues.{item_below, item_same, value_at, value_is}

-- ---- by form
pub link_in : (n : Names) (s : Seen) (vs : List Value) (cs : List Column) → AreFit n s (column.Topic ∷ column.Cluster ∷ column.Other ∷ cs) vs → IsLink n (item_at vs 0) (item_at vs 1) (item_at vs 2)
link_in n s vs cs f = record {
  topic_in = item_below vs 0 (length n.topics) f.1;
  source_in = item_below vs 1 (length n.clusters) f.2.1;
  target_in = item_below vs 2 (length n.clusters) f.2.2.1.0;
  apart = λ same. both_ways (bytes_eq (name_at n.clusters (item (value_at vs 1))) (name_at n.clusters (item (value_at vs 2)))) f.2.2.1.1 ((bytes_eq-Decides _ _).1 (ap (name_at n.clusters) (item_same vs 1 ∙ (same ∙ sym (item_same vs 2)))));
}

node_in : (n : Names) (s : Seen) (vs : List Value) (cs : List Column) → AreFit n s (column.Topic ∷ column.Cluster ∷ cs) vs → IsNode n (item_at vs 0) (item_at vs 1)
node_in n s vs cs f = (item_below vs 0 (length n.topics) f.1, item_below vs 1 (length n.clusters) f.2.1)

client_in : (n : Names) (s : Seen) (vs : List Value) (cs : List Column) → AreFit n s (column.Client ∷ cs) vs → item_at vs 0 < length n.clients
client_in n s vs cs f = item_below vs 0 (length n.clients) f.1

served_in : (n : Names) (s : Seen) (vs : List Value) → AreFit n s (column.Cluster ∷ column.Client ∷ []) vs → (item_at vs 0 < length n.clusters) × (item_at vs 1 < length n.clients)
served_in n s vs f = (item_below vs 0 (length n.clusters) f.1, item_below vs 1 (length n.clients) f.2.1)

offered_in : (n : Names) (s : Seen) (vs : List Value) (cs : List Column) → AreDeclared n → AreFit n s (column.Topic ∷ column.Cluster ∷ column.Offered ∷ cs) vs → IsNode n (item_at vs 0) (item_at vs 1) × (item_at vs 2 < length (subs_of n (item_at vs 0)))
offered_in n s vs cs d f =
    let within : item (value_at vs 0) < length n.topics = subst (λ (i : ℕ). i < length n.topics) (sym (item_same vs 0)) (item_below vs 0 (length n.topics) f.1) in
    let topic : number_in n.topics (name_at n.topics (item (value_at vs 0))) ≡ item_at vs 0 = number_at n.topics (item (value_at vs 0)) d.topics within ∙ item_same vs 0 in
    ((item_below vs 0 (length n.topics) f.1, item_below vs 1 (length n.clusters) f.2.1), subst (λ (t : ℕ). item_at vs 2 < length (subs_of n t)) topic (item_below vs 2 _ f.2.2.1))

-- a fate is the one of its number
pub fate_same : (i : ℕ) → i < 3 → fate_number (fate_numbered i) ≡ i
fate_same zero small = refl
fate_same (suc zero) small = refl
fate_same (suc (suc zero)) small = refl
fate_same (suc (suc (suc i))) small = absurd (omega arith)

built_fate : (i : ℕ) → i < 3 → is_later menu.Fate (choice_word menu.Fate i) ≡ false → is_fate_built (fate_numbered i) ≡ true
built_fate i small early =
    not_from_false (is_later menu.Fate (choice_word menu.Fate (fate_number (fate_numbered i)))) (subst (λ (k : ℕ). is_later menu.Fate (choice_word menu.Fate k) ≡ false) (sym (fate_same i small)) early)

fated_in : (n : Names) (s : Seen) (vs : List Value) → AreFit n s fated_link vs → IsLink n (item_at vs 0) (item_at vs 1) (item_at vs 2) × (is_fate_built (fate_numbered (item_at vs 3)) ≡ true)
fated_in n s vs f =
    (link_in n s vs (column.Menu menu.Fate ∷ []) f, built_fate (item_at vs 3) (item_below vs 3 3 f.2.2.2.1.0) (subst (λ (k : ℕ). is_later menu.Fate (choice_word menu.Fate k) ≡ false) (item_same vs 3) f.2.2.2.1.1))

means_cluster : (v : Value) → IsPositionOrEnd v → IsPositionOrEnd (value.PositionOrEnd (place v))
means_cluster (value.PositionOrEnd p) is = is
means_cluster v is = absurd is

place_in : (vs : List Value) (i : ℕ) → IsPositionOrEnd (value_at vs i) → IsPositionOrEnd (value.PositionOrEnd (place_at vs i))
place_in vs i is = subst (λ (v : Value). IsPositionOrEnd (value.PositionOrEnd (place v))) (value_is vs i) (means_cluster (value_at vs i) is)

-- ---- one line a row
pub event_in : (n : Names) (s : Seen) (k : EventKind) (vs : List Value) → AreDeclared n → AreFit n s (event_columns k) vs → IsEvent n (event_of k vs)
event_in n s kind.Go vs d f = client_in n s vs [] f
event_in n s kind.Get vs d f = client_in n s vs [] f
event_in n s kind.Reconnect vs d f = client_in n s vs [] f
event_in n s kind.Serve vs d f = served_in n s vs f
event_in n s kind.Drop vs d f = served_in n s vs f
event_in n s kind.Reset vs d f = link_in n s vs [] f
event_in n s kind.Read vs d f = link_in n s vs [] f
event_in n s kind.Take vs d f = fated_in n s vs f
event_in n s kind.Receipt vs d f = fated_in n s vs f
event_in n s kind.Snap vs d f = node_in n s vs [] f
event_in n s kind.Offer vs d f = offered_in n s vs [] d f
event_in n s kind.Seek vs d f = (offered_in n s vs (column.PositionOrEnd ∷ []) d f, place_in vs 3 f.2.2.2.1)
event_in n s kind.Restart vs d f = node_in n s vs [] f

pub made_kind : (k : EventKind) (vs : List Value) → kind_of (event_of k vs) ≡ k
made_kind kind.Go vs = refl
made_kind kind.Get vs = refl
made_kind kind.Reconnect vs = refl
made_kind kind.Serve vs = refl
made_kind kind.Drop vs = refl
made_kind kind.Reset vs = refl
made_kind kind.Read vs = refl
made_kind kind.Take vs = refl
made_kind kind.Receipt vs = refl
made_kind kind.Snap vs = refl
made_kind kind.Offer vs = refl
made_kind kind.Seek vs = refl
made_kind kind.Restart vs = refl

event_bounded : (k : EventKind) → AreBounded (event_columns k)
event_bounded kind.Go = (tt, tt)
event_bounded kind.Get = (tt, tt)
event_bounded kind.Reconnect = (tt, tt)
event_bounded kind.Serve = (tt, (tt, tt))
event_bounded kind.Drop = (tt, (tt, tt))
event_bounded kind.Reset = (tt, (tt, (tt, tt)))
event_bounded kind.Read = (tt, (tt, (tt, tt)))
event_bounded kind.Take = (tt, (tt, (tt, (tt, tt))))
event_bounded kind.Receipt = (tt, (tt, (tt, (tt, tt))))
event_bounded kind.Snap = (tt, (tt, tt))
event_bounded kind.Offer = (tt, (tt, (tt, tt)))
event_bounded kind.Seek = (tt, (tt, (tt, (tt, tt))))
event_bounded kind.Restart = (tt, (tt, tt))

act_bounded : (k : ActKind) → AreBounded (act_columns k)
act_bounded act.Produce = tt
act_bounded act.Pub = (tt, (tt, (tt, (tt, tt))))
act_bounded act.Sub = (tt, (tt, (tt, (tt, tt))))
act_bounded act.Flow = (omega arith, tt)
act_bounded act.Ack = (tt, (tt, (tt, tt)))
act_bounded act.AckTo = (tt, (tt, (tt, tt)))
act_bounded act.AckAll = tt
act_bounded act.Unsub = tt
act_bounded act.Close = tt
act_bounded act.CloseProducer = tt
act_bounded act.Ping = tt
act_bounded act.Move = (tt, tt)

line_bounded : (k : LineKind) → AreBounded (line_columns k)
line_bounded line.Geo = (tt, tt)
line_bounded line.Ledger = (omega arith, tt)
line_bounded line.Chance = (omega arith, (tt, (tt, (omega arith, tt))))
line_bounded line.Cluster = (tt, tt)
line_bounded line.Topic = (tt, tt)
line_bounded line.Client = (tt, (tt, (tt, tt)))
line_bounded line.Settle = tt
line_bounded line.Stop = tt

pub row_bounded : (k : Kind) → AreBounded (columns_of k)
row_bounded (line_kind.Other k) = line_bounded k
row_bounded (line_kind.Do k) = (tt, act_bounded k)
row_bounded (line_kind.Event k) = event_bounded k
row_bounded (line_kind.Halt k) = (omega arith, event_bounded k)

-- ---- the number before a halted event
within_eight : (v : Value) → IsWithin 0 8 v → (vs : List Value) → item v ≡ item_at vs 0 → item_at vs 0 ≤ 8
within_eight (value.Item i) f vs same = omega (arith, f.1, same)
within_eight v f vs same = absurd f

pub few_writes : (vs : List Value) → IsWithin 0 8 (first vs) × (8 < 2 ^ 64) → item_at vs 0 ≤ 8
few_writes vs f = within_eight (first vs) f.0 vs (item_same vs 0)
