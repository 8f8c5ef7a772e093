-- The headline, of a call that did `run`: of the script that its source gave.
use Rattle.std.proofs.Common.{◌≡◌, ℕ, List, [], ◌++◌, ap, subst, sym, ◌∙◌, inl, inr}
use Rattle.std.proofs.lemmas.List.{append-nil}
use Rattle.std.specs.Prelude.{◌⊎◌, Option, Some, None, IsOkAnd}
use Rattle.script_text.specs.Rules.{script_of}
use Rattle.script_text.specs.Script.{Script}
use Rattle.geo_top.specs.declared.top.command.Command.{Command}
use Rattle.geo_top.specs.declared.top.command.Shown.TheVariants as shown
use Rattle.geo_top.specs.declared.top.status.Status.{Status}
use Rattle.geo_top.specs.declared.top.status.Status.TheVariants as status
use Rattle.geo_top.specs.Answered.{FaultCounts, IsAnswered, IsRead, OfRun}
use Rattle.run_report.specs.Claims.{HoldsWithin}
use Rattle.geo_top.specs.Commands.{run_command}
use Rattle.run_report.specs.Headline.{IsAlwaysOnce, IsAlwaysSafe, IsAlwaysSettled}
use Rattle.run_report.specs.Reports.{exceeded_limit, report_of}
use Rattle.geo_top.specs.Statuses.{IsMade}
use Rattle.geo_top.proofs.SavedWith.{ok_maps}

-- where a call ended with Ok, its input is what its source gave
gave_all : (c : Option Command) (given : List ℕ → Type 0) (left : Option (List ℕ)) (before now : ℕ) (s : Status) (input : List ℕ) → s ≡ status.Ok
    → IsRead c given left before now s input → given input
gave_all c given left before now s input ok r = by (r.all (subst IsMade (sym ok) tt))
  where
    by : (s ≡ status.TooLarge 1) ⊎ (r.rest ≡ []) → given input
    by (inl large) = absurd (cc (ok, large))
    by (inr none) = subst given (sym (r.is ∙ (ap (λ (rest : List ℕ). r.part ++ rest) none ∙ append-nil r.part))) r.gave

module _ (c : Option Command) (given taken : List ℕ → Type 0) (left : Option (List ℕ)) (before now : ℕ) (s : Status) (input output : List ℕ) (f : FaultCounts)
    (read : IsRead c given left before now s input) (took : taken output) (answered : IsAnswered c input output f s) where
  -- it took the report
  pub did_run : s ≡ status.Ok → c ≡ Some run_command → given input × taken output × IsOkAnd (script_of input) (λ n. (output ≡ report_of n) × HoldsWithin n)
  did_run ok run = (gave_all c given left before now s input ok read, took, answered.shows shown.Report ok run)

  of_run : (P : Script → Type 0) → ((n : Script) → output ≡ report_of n → HoldsWithin n → P n) → OfRun c given s P
  of_run P holds = λ ok run.
      let d = did_run ok run in (input, d.0, ok_maps (script_of input) (λ n. (output ≡ report_of n) × HoldsWithin n) P (λ n k. holds n k.0 k.1) d.2)

  pub told_report : OfRun c given s (λ n. taken (report_of n) × (exceeded_limit n ≡ None))
  told_report = of_run (λ n. taken (report_of n) × (exceeded_limit n ≡ None)) (λ n is k. (subst taken is took, k.0))

  pub told_once : OfRun c given s IsAlwaysOnce
  told_once = of_run IsAlwaysOnce (λ n is k. k.1.once)

  pub told_safe : OfRun c given s IsAlwaysSafe
  told_safe = of_run IsAlwaysSafe (λ n is k. k.1.safe)

  pub told_settled : OfRun c given s IsAlwaysSettled
  told_settled = of_run IsAlwaysSettled (λ n is k. k.1.settled)
