-- A step whose numbers are in range has values that fit its columns.
use Rattle.std.proofs.Common.{◌≡◌, ◌≢◌, ℕ, ◌<◌, true, false, List, [], ◌∷◌, length, arith, refl, sym, subst, ◌∙◌}
use Rattle.std.specs.Str.{bytes_eq}
use Rattle.std.proofs.lemmas.Bool.{false_from_ne_true, not-true}
use Rattle.std.proofs.lemmas.Slice.Eq.{bytes_eq-Decides}
use Rattle.geo_base.specs.declared.event.Event.{Event}
use Rattle.geo_base.specs.declared.event.Event.TheVariants as event
use Rattle.geo_base.specs.declared.event.Fate.{Fate}
use Rattle.geo_base.specs.declared.event.Fate.TheVariants as fate
use Rattle.script_rows.specs.NameBytes.{name_at, number_in}
use Rattle.script_rows.specs.NameWords.{Word}
use Rattle.script_rows.specs.declared.column.Column.{Column}
use Rattle.script_rows.specs.declared.column.Column.TheVariants as column
use Rattle.script_rows.specs.declared.column.Menu.TheVariants as menu
use Rattle.script_rows.specs.declared.value.Value.{Value}
use Rattle.script_rows.specs.declared.value.Value.TheVariants as value
use Rattle.script_rows.specs.Known.{IsEvent, IsLink, IsNode, is_fate_built}
use Rattle.script_rows.specs.Names.{Names, Seen, subs_of}
use Rattle.script_rows.specs.Rows.{event_columns, is_later}
use Rattle.script_rows.specs.Written.{AreDeclared, AreFit, AreNames, choice_word, event_values, fate_number, kind_of}
use Rattle.script_rows.proofs.Back.{number_at}

named_apart : (names : List Word) (i j : ℕ) → AreNames names → i < length names → j < length names → i ≢ j → bytes_eq (name_at names i) (name_at names j) ≡ false
named_apart names i j a i_in j_in apart =
    false_from_ne_true _ (λ same. apart (sym (number_at names i a i_in) ∙ (subst (λ (w : Word). number_in names w ≡ j) (sym ((bytes_eq-Decides (name_at names i) (name_at names j)).0 same)) (number_at names j a j_in))))

link_fits : (n : Names) (s : Seen) (t x y : ℕ) (cs : List Column) (vs : List Value) → AreDeclared n → IsLink n t x y → ((z : Seen) → AreFit n z cs vs) → AreFit n s (column.Topic ∷ column.Cluster ∷ column.Other ∷ cs) (value.Item t ∷ value.Item x ∷ value.Item y ∷ vs)
link_fits n s t x y cs vs d l more =
    (omega arith, l.topic_in, (omega arith, l.source_in, (omega arith, (l.target_in, named_apart n.clusters x y d.clusters l.source_in l.target_in l.apart), more _)))

fate_small : (f : Fate) → fate_number f < 3
fate_small fate.Good = omega arith
fate_small fate.Lost = omega arith
fate_small fate.Twice = omega arith

fate_fits : (n : Names) (f : Fate) (z : Seen) → is_fate_built f ≡ true → AreFit n z (column.Menu menu.Fate ∷ []) (value.Item (fate_number f) ∷ [])
fate_fits n f z built =
    (omega arith, (fate_small f, not-true (is_later menu.Fate (choice_word menu.Fate (fate_number f))) built), refl)

sub_fits : (n : Names) (s : Seen) (t x q : ℕ) (cs : List Column) (vs : List Value) → AreDeclared n → IsNode n t x → q < length (subs_of n t) → ((z : Seen) → AreFit n z cs vs) → AreFit n s (column.Topic ∷ column.Cluster ∷ column.Offered ∷ cs) (value.Item t ∷ value.Item x ∷ value.Item q ∷ vs)
sub_fits n s t x q cs vs d is within more =
    (omega arith, is.0, (omega arith, is.1, (omega arith, subst (λ (i : ℕ). q < length (subs_of n i)) (sym (number_at n.topics t d.topics is.0)) within, more _)))

pub event_fits : (n : Names) (s : Seen) (e : Event) → AreDeclared n → IsEvent n e → AreFit n s (event_columns (kind_of e)) (event_values e)
event_fits n s (event.Go c) d is = (omega arith, is, refl)
event_fits n s (event.Get c) d is = (omega arith, is, refl)
event_fits n s (event.Reconnect c) d is = (omega arith, is, refl)
event_fits n s (event.Serve x c) d is = (omega arith, is.0, (omega arith, is.1, refl))
event_fits n s (event.Drop x c) d is = (omega arith, is.0, (omega arith, is.1, refl))
event_fits n s (event.Reset t x y) d is = link_fits n s t x y [] [] d is (λ z. refl)
event_fits n s (event.Read t x y) d is = link_fits n s t x y [] [] d is (λ z. refl)
event_fits n s (event.Take t x y f) d is =
    link_fits n s t x y (column.Menu menu.Fate ∷ []) (value.Item (fate_number f) ∷ []) d is.0 (λ z. fate_fits n f z is.1)
event_fits n s (event.Receipt t x y f) d is =
    link_fits n s t x y (column.Menu menu.Fate ∷ []) (value.Item (fate_number f) ∷ []) d is.0 (λ z. fate_fits n f z is.1)
event_fits n s (event.Snap t x) d is = (omega arith, is.0, (omega arith, is.1, refl))
event_fits n s (event.Offer t x q) d is = sub_fits n s t x q [] [] d is.0 is.1 (λ z. refl)
event_fits n s (event.Seek t x q p) d is =
    sub_fits n s t x q (column.PositionOrEnd ∷ []) (value.PositionOrEnd p ∷ []) d is.0.0 is.0.1 (λ z. (omega arith, is.1, refl))
event_fits n s (event.Restart t x) d is = (omega arith, is.0, (omega arith, is.1, refl))
