-- Subscriptions by their places.
use Rattle.std.proofs.Common.{◌≡◌, ℕ, ◌<◌, false, List, [], length, sym, ◌∙◌, ap}
use Rattle.std.specs.Option.{option_map}
use Rattle.std.specs.Prelude.{Option, Some, None, slice_get, MatchOption}
use Rattle.std.proofs.lemmas.List.{length-map}
use Rattle.std.proofs.lemmas.Option.{slice_get-get_or, slice_get-map}
use Rattle.geo_base.specs.declared.frame.SubKind.TheVariants as sub_kind
use Rattle.geo_base.specs.Subscription.{Subscription, new_subscription}
use Rattle.broker_subs.specs.SubView.{SubView, sub_of, subs_of}
use Rattle.broker_subs.specs.Table.{names_of, sub_at}

-- as many subscriptions as the table has
pub many : (bs : List SubView) (ss : List Subscription) → subs_of bs ≡ ss → length bs ≡ length ss
many bs ss is = sym (length-map bs sub_of) ∙ ap (λ (xs : List Subscription). length xs) is

pub there : (ss : List Subscription) (k : ℕ) → k < length ss → slice_get ss k ≡ Some (sub_at ss k)
there ss k h = slice_get-get_or ss k (new_subscription [] sub_kind.Exclusive false []) h

-- what the table found, among the broker's subscriptions
found_some : (bs : List SubView) (ss : List Subscription) (o : Option Subscription) (k : ℕ) → subs_of bs ≡ ss
    → (k < length bs) × (o ≡ slice_get (subs_of bs) k) → (k < length ss) × (o ≡ Some (sub_at ss k))
found_some bs ss o k is h =
    let within : k < length ss = rw (sym (many bs ss is)) h.0 in
    (within, h.1 ∙ ap (λ (xs : List Subscription). slice_get xs k) is ∙ there ss k within)

pub found : (bs : List SubView) (ss : List Subscription) (o : Option Subscription) (r : Option ℕ) → subs_of bs ≡ ss
    → MatchOption r (o ≡ None) (λ k. (k < length bs) × (o ≡ slice_get (subs_of bs) k))
    → MatchOption r (o ≡ None) (λ k. (k < length ss) × (o ≡ Some (sub_at ss k)))
found bs ss o None is h = h
found bs ss o (Some k) is h = found_some bs ss o k is h

-- the name that stands at a place
pub name_there : (ss : List Subscription) (k : ℕ) → k < length ss → slice_get (names_of ss) k ≡ Some (sub_at ss k).name
name_there ss k h = slice_get-map (λ (s : Subscription). s.name) ss k ∙ ap (λ (o : Option Subscription). option_map (λ (s : Subscription). s.name) o) (there ss k h)
