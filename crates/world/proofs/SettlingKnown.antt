-- What settling does is known of each setup.
use Rattle.std.proofs.Common.{◌≡◌, ℕ, List, [], ◌∷◌, refl, sym, ◌∙◌, All}
use Rattle.std.proofs.lemmas.Bool.{eq-eqb, false≢true}
use Rattle.std.proofs.lemmas.List.Elements.{All-from_recursion, All-same}
use Rattle.std.specs.List.{AllByRecursion}
use Rattle.geo_base.specs.declared.event.Event.{Event}
use Rattle.geo_base.specs.Run.{Pair, pairs, resets_of, round_of}
use Rattle.geo_base.specs.Setup.{Setup}
use Rattle.script_text.specs.Scenario.{IsLink}
use Rattle.world_laws.proofs.Replicating.Effects.{Each}
use Rattle.world_laws.proofs.Budget.Lowering.{IsPair, all_pairs}
use Rattle.world.specs.Settling.{IsSettlingEvent}

link_is : (s : Setup) (t x y : ℕ) → IsPair s t x y → IsLink s t x y
link_is s t x y p = record { topic_in = p.topic; source_in = p.source; target_in = p.target; apart = λ same. false≢true (sym p.other ∙ eq-eqb x y same) }

resets_in : (s : Setup) (ps : List Pair) → Each (λ (p : Pair). IsPair s p.topic p.source p.target) ps → AllByRecursion (IsSettlingEvent s) (resets_of ps)
resets_in s [] all = tt
resets_in s (p ∷ ps) all = ((tt, link_is s p.topic p.source p.target all.0), resets_in s ps all.1)

round_in : (s : Setup) (ps : List Pair) → Each (λ (p : Pair). IsPair s p.topic p.source p.target) ps → AllByRecursion (IsSettlingEvent s) (round_of ps)
round_in s [] all = tt
round_in s (p ∷ ps) all =
    let link = link_is s p.topic p.source p.target all.0 in
    ((tt, (link, refl)), ((tt, (link, refl)), ((tt, link), round_in s ps all.1)))

pub resets_known : (s : Setup) (es : List Event) → es ≡ resets_of (pairs s) → All (IsSettlingEvent s) es
resets_known s es is = All-same (IsSettlingEvent s) es (resets_of (pairs s)) is (All-from_recursion (IsSettlingEvent s) (resets_of (pairs s)) (resets_in s (pairs s) (all_pairs s)))

pub round_known : (s : Setup) (es : List Event) → es ≡ round_of (pairs s) → All (IsSettlingEvent s) es
round_known s es is = All-same (IsSettlingEvent s) es (round_of (pairs s)) is (All-from_recursion (IsSettlingEvent s) (round_of (pairs s)) (round_in s (pairs s) (all_pairs s)))
