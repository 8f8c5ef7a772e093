-- The origin as the code finds it.
use Rattle.std.proofs.Common.{◌≡◌, ℕ, List, Option, Some, None, refl, sym, ap, ◌∙◌}
use Rattle.geo_base.specs.declared.marker.ClusterRef.{ClusterRef}
use Rattle.frame_values.specs.Coded.{place_or}
use Rattle.frame_values.specs.Values.{place_from}
use Rattle.state_items.specs.Origins.{number_of, origin_of}

number_or : (n : List ℕ) (found : Option ℕ) → number_of (place_or n found) ≡ found
number_or n None = refl
number_or n (Some x) = refl

pub number_is : (names : List (List ℕ)) (own : ℕ) (n : List ℕ) (found : Option ℕ) → place_from 0 names n ≡ place_or n found → found ≡ origin_of names own (Some n)
number_is names own n found h = sym (ap (λ (p : ClusterRef). number_of p) h ∙ number_or n found)
