-- All that is claimed of the run of a script holds of it.
use Rattle.std.proofs.Common.{◌≡◌, ℕ, List, refl}
use Rattle.std.specs.Prelude.{None}
use Rattle.geo_base.specs.Laws.{AlwaysIn, IsReceived}
use Rattle.geo_base.specs.Scripted.{IsScripted}
use Rattle.geo_base.specs.Settled.{SettledSoFar}
use Rattle.geo_base.specs.World.{World}
use Rattle.geo_base.specs.declared.event.Step.{Step}
use Rattle.geo_base.specs.Setup.{Setup}
use Rattle.script_generator.proofs.InRange.{is_scenario}
use Rattle.script_generator.specs.Generated.{generated_run}
use Rattle.script_text.specs.Script.{Script}
use Rattle.world_laws.specs.InRun.{IsCarriedIn}
use Rattle.world_laws.specs.Publishing.{AllAnswered, FewReceipts}
use Rattle.world_laws.specs.Residency.{IsMarked}
use Rattle.world_laws.proofs.Residing.EachRun.{in_each_run}
use Rattle.failover_laws.specs.Moves.{MayMove}
use Rattle.failover_laws.proofs.Handover.InRuns.{may_move}
use Rattle.run_report.specs.Claims.{HoldsOf}
use Rattle.run_report.specs.Reports.{exceeded_limit}
use Rattle.run_report.proofs.Again.{nothing_again}
use Rattle.run_report.proofs.Anew.{begins_anew}
use Rattle.run_report.proofs.Handed.{got_in, handed_in, in_order_in}
use Rattle.run_report.proofs.Headline.{always_in_time, always_kept, always_once, always_safe, always_settled}
use Rattle.run_report.proofs.ShortSettling.{part_short}

-- what holds always twice holds together
both_in : (s : Setup) (es : List Step) (P Q : World → SettledSoFar → Type 0) → AlwaysIn s es P → AlwaysIn s es Q → AlwaysIn s es (λ w told. P w told × Q w told)
both_in s es P Q p q = record {
  between = λ k at. (p.between k at, q.between k at);
  moment = λ k at e writes. (p.moment k at e writes, q.moment k at e writes);
}

pub holds_of : (n : Script) → IsScripted n.setup → exceeded_limit n ≡ None → HoldsOf n
holds_of n scripted none = record {
  chain = carried.chain scripted;
  repeated = carried.repeated scripted;
  answered = both_in n.setup n.steps (λ w told. AllAnswered n.setup w) (λ w told. FewReceipts n.setup w) (carried.answered scripted) (carried.counted scripted);
  once = always_once n;
  prefix = carried.prefix;
  resident = carried.resident;
  marked = both_in n.setup n.steps (λ w told. IsReceived n.setup w) (λ w told. IsMarked n.setup w) carried.receipt carried.marked;
  safe = always_safe n scripted none;
  handed = handed_in n scripted none;
  got = got_in n scripted none;
  in_order = in_order_in n scripted none;
  kept = always_kept n;
  settled = always_settled n scripted none;
  rounds = always_in_time n;
  again = nothing_again n scripted none;
  anew = begins_anew n scripted none;
  room = moves.room;
  drained = moves.drained;
  covers = moves.covers;
  acts = moves.acts;
  ended = moves.ended;
  switched = moves.switched;
  offered = moves.offered;
  handed_over = moves.handed_over;
}
  where
    carried : IsCarriedIn n.setup n.steps
    carried = in_each_run n.setup n.steps

    moves : MayMove n.setup n.steps
    moves = may_move n.setup scripted n.steps (λ part rest at is. part_short n.setup scripted n.steps part rest is none at)

pub generated_holds : (number : ℕ) → exceeded_limit (generated_run number) ≡ None → HoldsOf (generated_run number)
generated_holds number none = holds_of (generated_run number) (is_scenario (generated_run number) number refl).setup none
