-- One more of each list that a loop makes.
use Rattle.std.proofs.Common.{◌≡◌, ℕ, ◌+◌, ◌%◌, [], ◌∷◌, ◌++◌, refl, ap, add-one}
use Rattle.std.specs.Prelude.{None, codes, replicate}
use Rattle.rand_pcg.specs.Lcg.{Lcg}
use Rattle.geo_base.specs.declared.client.Line.TheVariants as line
use Rattle.geo_base.specs.declared.entry.Targets.TheVariants as targets
use Rattle.geo_base.specs.declared.event.Event.TheVariants as event
use Rattle.geo_base.specs.declared.event.Step.TheVariants as step
use Rattle.script_generator.specs.Drawing.{source_of, target_of, turn_at}
use Rattle.script_generator.specs.Scenario.{publishes, stays}
use Rattle.script_generator.specs.Schedule.{connects, finishes, opens, round, rounds, turns}

pub publishes_next : (n : ℕ) → publishes (n + 1) ≡ publishes n ++ line.Pub n targets.All None (codes "x") ∷ []
unfolding publishes
publishes_next n = ap publishes (add-one n)

pub stays_next : (n : ℕ) → stays (n + 1) ≡ stays n ++ (replicate 30 line.AckAll ++ line.Move ((n + 1) % 3) ∷ [])
unfolding stays
stays_next n = ap stays (add-one n)

pub connects_next : (n : ℕ) → connects (n + 1) ≡ connects n ++ step.Plain (event.Reconnect n) ∷ []
unfolding connects
connects_next n = ap connects (add-one n)

pub opens_next : (n : ℕ) → opens (n + 1) ≡ opens n ++ step.Plain (event.Reset 0 (source_of n) (target_of n)) ∷ []
unfolding opens
opens_next n = ap opens (add-one n)

pub turns_next : (n : ℕ) (g : Lcg) → turns (n + 1) g ≡ record {
  steps = (turns n g).steps ++ step.Plain (turn_at n (turns n g).after).event ∷ [];
  after = (turn_at n (turns n g).after).after;
}
unfolding turns
turns_next n g = ap (λ (k : ℕ). turns k g) (add-one n)

pub rounds_next : (c n : ℕ) → rounds c (n + 1) ≡ rounds c n ++ round c
unfolding rounds
rounds_next c n = ap (rounds c) (add-one n)

pub finishes_next : (c : ℕ) → finishes (c + 1) ≡ finishes c ++ (step.Plain (event.Reconnect c) ∷ rounds c 4000)
unfolding finishes
finishes_next c = ap finishes (add-one c)

-- ---- none

pub publishes_none : publishes 0 ≡ []
unfolding publishes
publishes_none = refl

pub stays_none : stays 0 ≡ []
unfolding stays
stays_none = refl

pub connects_none : connects 0 ≡ []
unfolding connects
connects_none = refl

pub opens_none : opens 0 ≡ []
unfolding opens
opens_none = refl

pub turns_none : (g : Lcg) → turns 0 g ≡ record { steps = []; after = g }
unfolding turns
turns_none g = refl

pub rounds_none : (c : ℕ) → rounds c 0 ≡ []
unfolding rounds
rounds_none c = refl

pub finishes_none : finishes 0 ≡ []
unfolding finishes
finishes_none = refl
