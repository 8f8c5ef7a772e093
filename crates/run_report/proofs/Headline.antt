-- The headline, of the run of a script: messages stand once and in order, none is lost, and settling brings all over.
use Rattle.std.proofs.Common.{◌≡◌, ◌+◌, ◌≤◌, Bool, true, false, List, [], ◌∷◌, ◌++◌, refl, sym, subst, ◌∙◌, inl, inr, append_assoc}
use Rattle.std.specs.Prelude.{◌⊎◌, Some, None, take}
use Rattle.geo_base.specs.declared.event.Step.{Step}
use Rattle.geo_base.specs.declared.event.Step.TheVariants as step
use Rattle.geo_base.specs.declared.entry.Entry.{Entry}
use Rattle.geo_base.specs.Cursor.{has}
use Rattle.geo_base.specs.Entry.{is_data}
use Rattle.geo_base.specs.Laws.{AlwaysIn, BetweenEvents, IsShort, SettlesAll, after_settling}
use Rattle.geo_base.specs.Moments.{Moment, NotBegun, world_at, world_between}
use Rattle.geo_base.specs.Planned.{planned}
use Rattle.geo_base.specs.Run.{budget, is_quiet, no_limits, run}
use Rattle.geo_base.specs.Safe.{AllOnce, OnlySettled}
use Rattle.geo_base.specs.Scripted.{IsScripted}
use Rattle.geo_base.specs.Settled.{IsSettled, SettledSoFar, settled, settled_at}
use Rattle.geo_base.specs.Setup.{Setup}
use Rattle.geo_base.specs.World.{World}
use Rattle.script_text.specs.Script.{Script}
use Rattle.world_laws.proofs.Budget.InTime.{settles_in_time}
use Rattle.world_laws.proofs.ComesOver.Complete.{budget_always}
use Rattle.world_laws.proofs.Dispatching.Keeping.{kept_between}
use Rattle.world_laws.proofs.OnceInOrder.Once.{once_always}
use Rattle.world_laws.proofs.Induction.Runs.{always_in}
use Rattle.world_laws.proofs.Telling.ToldLaws.{safe_always}
use Rattle.run_report.specs.Headline.{AllCameOver, IsAlwaysInTime, IsAlwaysKept, IsAlwaysOnce, IsAlwaysSafe, IsAlwaysSettled, IsInBacklog, IsSafe, NothingIsLost, SettlesInRounds}
use Rattle.run_report.specs.Reports.{exceeded_limit}
use Rattle.run_report.proofs.Quiet.{run_settled}
use Rattle.run_report.proofs.ShortSettling.{part_short, taken_short, written_short}

-- once and in order, always
pub always_once : (n : Script) → IsAlwaysOnce n
always_once n = always_in n.setup n.steps (λ w settled. AllOnce w) (once_always n.setup)

-- one entry stands at an index
same_entry : (e f : Entry) → Some e ≡ Some f → e ≡ f
same_entry e f is = cc

-- a message that is acknowledged is settled, and one that is not stands in the backlog
nothing_lost : (s : Setup) (w : World) (settled : SettledSoFar) → OnlySettled s w settled → NothingIsLost s w settled
nothing_lost s w settled only t x i v e small sub stands message = by (has v.cursor i) refl
  where
    by : (b : Bool) → has v.cursor i ≡ b → IsSettled settled t v.name e ⊎ IsInBacklog v i
    by false r = inr r
    by true r =
        let there = only t x v small sub i r in
        let same : there.0 ≡ e = same_entry there.0 e (sym there.1 ∙ stands) in
        inl (subst (λ (f : Entry). IsSettled settled t v.name f) same (there.2 (subst (λ (f : Entry). is_data f.content ≡ true) (sym same) message)))

safe_world : (s : Setup) (w : World) (settled : SettledSoFar) → OnlySettled s w settled → IsSafe s w settled
safe_world s w settled only = record { acknowledged = only; messages = nothing_lost s w settled only }

-- a run that passes no limit is short at each of its moments
pub always_safe : (n : Script) → IsScripted n.setup → exceeded_limit n ≡ None → IsAlwaysSafe n
always_safe n scripted none =
    let s = n.setup in
    let law : AlwaysIn s n.steps (λ w settled. IsShort w → OnlySettled s w settled) = always_in s n.steps (λ w settled. IsShort w → OnlySettled s w settled) (safe_always.settled s scripted) in
    record {
      between = λ k at.
          safe_world s (world_between no_limits s (take k n.steps) at) (settled s (take k n.steps)) (law.between k at (taken_short s scripted n.steps none k at));
      moment = λ k at e writes.
          let m : Moment = record { steps = take k n.steps; settling = at; event = e; writes = writes } in
          let w = world_between no_limits s (take k n.steps) at in
          safe_world s (world_at no_limits s m) (settled_at no_limits s m)
          (law.moment k at e writes (written_short s w writes (planned s w e) (taken_short s scripted n.steps none k at)));
    }

-- nothing due is forgotten
pub always_kept : (n : Script) → IsAlwaysKept n
always_kept n = λ k at. (kept_between n.setup).between no_limits (take k n.steps) at

-- after each step that settles all has come over
pub always_settled : (n : Script) → IsScripted n.setup → exceeded_limit n ≡ None → IsAlwaysSettled n
always_settled n scripted none es fs is =
    let s = n.setup in
    let same = run_settled s es in
    let parted : n.steps ≡ (es ++ step.Settle ∷ []) ++ fs = is ∙ sym (append_assoc es (step.Settle ∷ []) fs) in
    let short : IsShort (run s (es ++ step.Settle ∷ [])) = part_short s scripted n.steps (es ++ step.Settle ∷ []) fs parted none NotBegun in
    let law : BetweenEvents s (λ w. IsShort (after_settling s w) → SettlesAll s w) = budget_always.complete s scripted in
    subst (AllCameOver s) (sym same) (law.run es (subst IsShort same short))

-- within its rounds, in a world where nothing is left to do
in_rounds : (s : Setup) (es : List Step) → SettlesInRounds s es
in_rounds s es =
    let h = settles_in_time s (run s es) in
    let same = run_settled s es in
    record {
      quiet = subst (λ (w : World). is_quiet s w ≡ true) (sym same) h.quiet;
      rounds = subst (λ (w : World). w.rounds ≤ (run s es).rounds + budget s (run s es)) (sym same) h.rounds;
      busy = h.busy;
    }

pub always_in_time : (n : Script) → IsAlwaysInTime n
always_in_time n es fs is = in_rounds n.setup es
