-- Facts of short runs: no event lowers the count of events, so that a run was short before an event where it is short after it.
use Rattle.std.proofs.Common.{ℕ, ◌≤◌, arith}
use Rattle.std.specs.Prelude.{Option, Some, None}
use Rattle.geo_base.specs.Client.{Acted}
use Rattle.geo_base.specs.Happening.{broker_does, broker_halts, client_does, stops}
use Rattle.geo_base.specs.Laws.{IsShort}
use Rattle.geo_base.specs.Planned.{Planned}
use Rattle.geo_base.specs.Setup.{Setup}
use Rattle.geo_base.specs.World.{LinkName, ToClient, World, opening_world}
use Rattle.world_laws.proofs.Induction.Layers.{KeptWith}
use Rattle.world_laws.proofs.Walks.Shapes.{Shape}
use Rattle.world_laws.proofs.Walks.Walk.{on_if}

-- Q is kept where P holds before and after, in runs that are short before the event
pub record KeptShort (s : Setup) (P Q : World → Type 0) : Type 0 where
  pub opening : Q (opening_world s)
  pub idle : (w : World) (n : ℕ) → P w → Q w → Q (record w { idle = n })
  pub round : (w : World) (n : ℕ) → P w → Q w → Q (record w { rounds = n })
  pub does : (w : World) (p : Planned) → Shape s w p → IsShort w → P w → P (broker_does s w p) → Q w → Q (broker_does s w p)
  pub halts : (w : World) (k : ℕ) (p : Planned) → Shape s w p → IsShort w → P w → P (broker_halts s w k p) → Q w → Q (broker_halts s w k p)
  pub goes : (w : World) (c : ℕ) (a : Acted) → IsShort w → P w → P (client_does s w c None a) → Q w → Q (client_does s w c None a)
  pub gets : (w : World) (c x : ℕ) (a : Acted) → IsShort w → P w → P (client_does s w c (Some (ToClient c x)) a) → Q w → Q (client_does s w c (Some (ToClient c x)) a)
  pub stop : (w : World) → IsShort w → P w → P (stops s w) → Q w → Q (stops s w)

-- it was short before
abbrev pub WasShort : World → World → Type 0
WasShort w w' = IsShort w' → IsShort w

not_fewer : (w w' : World) → w.events ≤ w'.events → WasShort w w'
not_fewer w w' le short = omega (arith, le, short)

pub does_short : (s : Setup) (w : World) (p : Planned) → WasShort w (broker_does s w p)
unfolding broker_does
does_short s w p = not_fewer w (broker_does s w p) (on_if (λ (w' : World). w.events ≤ w'.events) p.plan.idle _ _ (omega arith) (omega arith))

pub halts_short : (s : Setup) (w : World) (k : ℕ) (p : Planned) → WasShort w (broker_halts s w k p)
unfolding broker_halts
halts_short s w k p = not_fewer w (broker_halts s w k p) (omega arith)

pub client_short : (s : Setup) (w : World) (c : ℕ) (k : Option LinkName) (a : Acted) → WasShort w (client_does s w c k a)
unfolding client_does
client_short s w c k a = not_fewer w (client_does s w c k a) (on_if (λ (w' : World). w.events ≤ w'.events) a.idle _ _ (omega arith) (omega arith))

pub stops_short : (s : Setup) (w : World) → WasShort w (stops s w)
unfolding stops
stops_short s w = not_fewer w (stops s w) (omega arith)

abbrev pub WhileShort : (World → Type 0) → World → Type 0
WhileShort Q w = IsShort w → Q w

pub short_kept : (s : Setup) (P Q : World → Type 0) → KeptShort s P Q → KeptWith s P (WhileShort Q)
short_kept s P Q k = record {
  opening = λ short. k.opening;
  idle = λ w n p q short. k.idle w n p (q short);
  round = λ w n p q short. k.round w n p (q short);
  does = λ w e shape p p' q short. let was = does_short s w e short in k.does w e shape was p p' (q was);
  halts = λ w n e shape p p' q short. let was = halts_short s w n e short in k.halts w n e shape was p p' (q was);
  goes = λ w c a p p' q short. let was = client_short s w c None a short in k.goes w c a was p p' (q was);
  gets = λ w c x a p p' q short. let was = client_short s w c (Some (ToClient c x)) a short in k.gets w c x a was p p' (q was);
  stop = λ w p p' q short. let was = stops_short s w short in k.stop w was p p' (q was);
}
