-- Names over a restart.
use Rattle.std.proofs.Common.{◌≡◌, ℕ, zero, suc, ◌<◌, false, List, [], ◌∷◌, length, get_or, map, refl, sym, ◌∙◌, arith}
use Rattle.std.specs.Prelude.{◌≢◌, None, take}
use Rattle.std.specs.Str.{bytes_eq}
use Rattle.std.proofs.lemmas.Slice.Eq.{bytes_eq-Decides}
use Rattle.std.proofs.lemmas.List.{get_or-map, length-map}
use Rattle.geo_base.specs.Broker.{sub_named}
use Rattle.geo_base.specs.Subscription.{Subscription, cleared}
use Rattle.durable_parts.specs.Parts.{AreNamedApart}
use Rattle.broker_subs.specs.SubView.{SubView, subs_of}
use Rattle.broker_subs.specs.Table.{sub_view_at, view_name, no_sub_view}
use Rattle.broker_subs.proofs.Places.{Apart, apart_behind, apart_first, other_name}
use Rattle.geo_base.proofs.Bools.{true_not_false}

apart_names : (m n : List ℕ) → bytes_eq m n ≡ false → m ≢ n
apart_names m n other same = true_not_false (sym ((bytes_eq-Decides m n).1 same) ∙ other)

-- names that no two durable parts share no two subscriptions share
pub names_apart : (bs : List SubView) → AreNamedApart (subs_of bs) → Apart (map view_name bs)
names_apart bs h i j d lt within =
    let many : length (map view_name bs) ≡ length bs = length-map bs view_name in
    let all : length (subs_of bs) ≡ length bs = length-map bs _ in
    let first : get_or (map view_name bs) i d ≡ (sub_view_at bs i).sub.name = get_or-map view_name bs i no_sub_view d (omega (arith, lt, within, many)) in
    let second : get_or (map view_name bs) j d ≡ (sub_view_at bs j).sub.name = get_or-map view_name bs j no_sub_view d (omega (arith, within, many)) in
    let e : Subscription = no_sub_view.sub in
    let one : get_or (subs_of bs) i e ≡ (sub_view_at bs i).sub = get_or-map _ bs i no_sub_view e (omega (arith, lt, within, many)) in
    let two : get_or (subs_of bs) j e ≡ (sub_view_at bs j).sub = get_or-map _ bs j no_sub_view e (omega (arith, within, many)) in
    let other = h i j e lt (omega (arith, within, many, all)) in
    rw (first, second) (apart_names (sub_view_at bs i).sub.name (sub_view_at bs j).sub.name (rw (one, two) at other))

-- no subscription before a place has the name of the one there
pub not_before : (bs : List SubView) (k : ℕ) → k < length bs → Apart (map view_name bs) → sub_named (map cleared (subs_of (take k bs))) (sub_view_at bs k).sub.name ≡ None
not_before [] k h apart = absurd (omega arith)
not_before (b ∷ bs) zero h apart = refl
not_before (b ∷ bs) (suc k) h apart =
    let other : bytes_eq b.sub.name (sub_view_at bs k).sub.name ≡ false = other_name b.sub.name (sub_view_at bs k).sub.name (apart_first b bs k apart (omega arith)) in
    rw other (not_before bs k (omega arith) (apart_behind b.sub.name (map view_name bs) apart))
