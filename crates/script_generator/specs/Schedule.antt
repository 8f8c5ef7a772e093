-- The schedule of a generated run (own): all connect, turns at random, then each producer does all its lines, and all settles.
use Rattle.std.specs.Prelude.{ℕ, zero, suc, List, [], ◌∷◌, ◌++◌}
use Rattle.rand_pcg.specs.Lcg.{Lcg}
use Rattle.geo_base.specs.declared.event.Event.TheVariants as event
use Rattle.geo_base.specs.declared.event.Step.{Step}
use Rattle.geo_base.specs.declared.event.Step.TheVariants as step
use Rattle.script_generator.specs.Drawing.{seeded, source_of, target_of, turn_at}

-- the first n clients connect
unfoldable pub connects : ℕ → List Step
connects zero = []
connects (suc n) = connects n ++ step.Plain (event.Reconnect n) ∷ []

-- the links of the first n pairs are opened
unfoldable pub opens : ℕ → List Step
opens zero = []
opens (suc n) = opens n ++ step.Plain (event.Reset 0 (source_of n) (target_of n)) ∷ []

pub record Turns : Type 0 where
  pub steps : List Step
  pub after : Lcg

-- the first n turns, and the generator after them
unfoldable pub turns : ℕ → Lcg → Turns
turns zero g = record { steps = []; after = g }
turns (suc n) g = record {
  steps = (turns n g).steps ++ step.Plain (turn_at n (turns n g).after).event ∷ [];
  after = (turn_at n (turns n g).after).after;
}

-- a producer does its next line and gets what comes of it; it is the client of its cluster's number
abbrev pub round : ℕ → List Step
round c = step.Plain (event.Go c) ∷ step.Plain (event.Serve c c) ∷ step.Plain (event.Get c) ∷ step.Plain (event.Get c) ∷ []

unfoldable pub rounds : ℕ → ℕ → List Step
rounds c zero = []
rounds c (suc n) = rounds c n ++ round c

-- the first n producers do all their lines
unfoldable pub finishes : ℕ → List Step
finishes zero = []
finishes (suc c) = finishes c ++ (step.Plain (event.Reconnect c) ∷ rounds c 4000)

unfoldable pub generated_steps : ℕ → List Step
generated_steps number = connects 4 ++ (opens 6 ++ ((turns 20000 (seeded number)).steps ++ (finishes 3 ++ step.Settle ∷ [])))
