-- What an observer makes of a run: what it had seen before, and what it has seen then.
use Rattle.std.specs.Prelude.{◌≡◌, ℕ, zero, suc, ◌+◌, ◌==◌, Bool, true, false, ◌||◌, List, [], ◌∷◌, Some, None, Ok, Err, OnOk, Result, if◌then◌else◌, is_some}
use Rattle.geo_base.specs.declared.event.Event.{Event}
use Rattle.geo_base.specs.declared.event.Step.{Step}
use Rattle.geo_base.specs.declared.event.Step.TheVariants as step
use Rattle.geo_base.specs.Run.{Limits, Ran, all_limits, all_settle, budget, counting_round, pairs, resets_of, round_of, rounds_of, settles, steps}
use Rattle.geo_base.specs.Setup.{Setup}
use Rattle.geo_base.specs.World.{World}
use Rattle.kept_laws.specs.Reached.{Reached}
use Rattle.kept_laws.specs.Standing.{Stands}
use Rattle.world.specs.declared.fault.RunFault.{RunFault}
use Rattle.world.specs.declared.fault.RunFault.TheVariants as fault
use Rattle.world.specs.Runs.{at_world}
use Rattle.world.specs.Settling.{EndsWithin}
use Rattle.world.specs.World.{WorldView, kept_of}

-- What is seen at each thing that a run does, by what was seen before: at an event, a stop of a broker after so many writes of one, a
-- stop of everything, where settling begins, at an event of it, and where it ends. The world is the machine's before the event; where
-- settling ends, the one that it came to.
pub record Sight (T : Type 0) : Type 0 where
  pub event : Setup → World → Event → T → T
  pub halt : Setup → World → ℕ → Event → T → T
  pub stop : Setup → World → T → T
  pub settles : Setup → World → T → T
  pub settling : Setup → World → Event → T → T
  pub settled : Setup → World → T → T

-- what would pass a limit is not done, and not seen
abbrev pub unless_ended : {T : Type 0} → Ran → T → T → T
unless_ended r before after = if is_some r.ended then before else after

abbrev pub settling_seen : {T : Type 0} → Sight T → Limits → Setup → Ran → List Event → T → T
settling_seen o l s r [] t = t
settling_seen o l s r (e ∷ es) t =
    let q = settles l s r e in settling_seen o l s q es (unless_ended q t (o.settling s r.world e t))

-- rounds as settling has them: until one does nothing
abbrev pub rounds_seen : {T : Type 0} → ℕ → Sight T → Limits → Setup → Ran → T → T
rounds_seen zero o l s r t = t
rounds_seen {T} (suc more) o l s r t =
    let q = all_settle l s r (round_of (pairs s)) in
    let u = settling_seen o l s r (round_of (pairs s)) t in
    elim (is_some q.ended || (q.world.events == r.world.events)) as (λ b. T) [ true ↦ u | false ↦ rounds_seen more o l s (counting_round q) u ]

abbrev pub settle_seen : {T : Type 0} → Sight T → Limits → Setup → Ran → T → T
settle_seen o l s r t =
    rounds_seen (budget s r.world + 1) o l s (all_settle l s r (resets_of (pairs s))) (settling_seen o l s r (resets_of (pairs s)) (o.settles s r.world t))

unfoldable pub step_seen : {T : Type 0} → Sight T → Limits → Setup → Ran → Step → T → T
step_seen o l s r (step.Plain e) t = unless_ended (steps l s r (step.Plain e)) t (o.event s r.world e t)
step_seen o l s r (step.Halt k e) t = unless_ended (steps l s r (step.Halt k e)) t (o.halt s r.world k e t)
step_seen o l s r step.Settle t = let q = steps l s r step.Settle in let u = settle_seen o l s r t in unless_ended q u (o.settled s q.world u)
step_seen o l s r step.Stop t = unless_ended (steps l s r step.Stop) t (o.stop s r.world t)

-- all of a run
abbrev pub run_seen : {T : Type 0} → Sight T → Limits → Setup → Ran → List Step → T → T
run_seen o l s r [] t = t
run_seen o l s r (e ∷ es) t = run_seen o l s (steps l s r e) es (step_seen o l s r e t)

-- ---- settling, event by event and round by round

-- the machine has come to a world for which this one stands; doing these events of settling from there it comes to r, and who has seen
-- t has then seen all
pub record IsSettling {T : Type 0} (o : Sight T) (s : Setup) (b : WorldView) (t : T) (es : List Event) (r : Ran) (all : T) : Type 0 where
  pub world : World
  pub reached : Reached s world
  pub stands : Stands s (kept_of b) world
  pub comes : all_settle all_limits s (at_world world) es ≡ r
  pub seen : settling_seen o all_limits s (at_world world) es t ≡ all

-- events of settling that bring the machine to r: where they end well, r has not ended, the world stands for r's, and all is seen; a
-- limit that they come to is the one at which r ended, and the world stands for that of the events done before
pub record Settles {T : Type 0} (o : Sight T) (s : Setup) (new : WorldView) (t : T) (r : Ran) (all : T) (result : Result (Unit {0}) RunFault) : Type 0 where
  pub done : OnOk result (IsSettling o s new t [] r all)
  pub large : (n : ℕ) → result ≡ Err (fault.TooLarge n) → Stands s (kept_of new) r.world × (r.ended ≡ Some n)

-- the same by rounds, of which there are more than it takes
pub record IsRounding {T : Type 0} (o : Sight T) (s : Setup) (b : WorldView) (t : T) (r : Ran) (all : T) : Type 0 where
  pub world : World
  pub most : ℕ
  pub reached : Reached s world
  pub stands : Stands s (kept_of b) world
  pub ends : EndsWithin most s world
  pub comes : rounds_of most all_limits s (at_world world) ≡ r
  pub seen : rounds_seen most o all_limits s (at_world world) t ≡ all

-- where r has not ended, and all is seen
pub record IsSeen {T : Type 0} (s : Setup) (new : WorldView) (t : T) (r : Ran) (all : T) : Type 0 where
  pub stands : Stands s (kept_of new) r.world
  pub going : r.ended ≡ None
  pub seen : t ≡ all

-- One round on the way to r: one that did something leaves rounds to do; one that did nothing was the last, and a limit that it comes
-- to is the one at which r ended.
pub record Rounds {T : Type 0} (o : Sight T) (s : Setup) (new : WorldView) (t : T) (r : Ran) (all : T) (result : Result Bool RunFault) : Type 0 where
  pub more : result ≡ Ok true → IsRounding o s new t r all
  pub done : result ≡ Ok false → IsSeen s new t r all
  pub large : (n : ℕ) → result ≡ Err (fault.TooLarge n) → Stands s (kept_of new) r.world × (r.ended ≡ Some n)

-- and all of them
pub record Ends {T E : Type 0} (s : Setup) (new : WorldView) (t : T) (r : Ran) (all : T) (result : Result E RunFault) : Type 0 where
  pub done : OnOk result (IsSeen s new t r all)
  pub large : (n : ℕ) → result ≡ Err (fault.TooLarge n) → Stands s (kept_of new) r.world × (r.ended ≡ Some n)

-- who sees nothing
abbrev pub nothing_seen : Sight (Unit {0})
nothing_seen = record {
  event = λ s w e t. t;
  halt = λ s w k e t. t;
  stop = λ s w t. t;
  settles = λ s w t. t;
  settling = λ s w e t. t;
  settled = λ s w t. t;
}
