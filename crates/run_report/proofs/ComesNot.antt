-- What does not come again in a run that is short.
use Rattle.std.proofs.Common.{◌≡◌, ℕ, List, [], ◌∷◌, ◌++◌, sym, subst}
use Rattle.std.specs.Prelude.{Option, Some, None, take}
use Rattle.geo_base.specs.declared.entry.Ident.{Ident}
use Rattle.geo_base.specs.declared.event.Event.TheVariants as event
use Rattle.geo_base.specs.declared.event.Step.{Step}
use Rattle.geo_base.specs.Happening.{happens}
use Rattle.geo_base.specs.Laws.{IsShort, begun}
use Rattle.geo_base.specs.Moments.{partly_written, settling_so_far, Settling}
use Rattle.geo_base.specs.Planned.{Planned, planned}
use Rattle.geo_base.specs.Run.{Ran, no_limits, run_from}
use Rattle.geo_base.specs.Scripted.{IsScripted}
use Rattle.geo_base.specs.Setup.{Setup}
use Rattle.geo_base.specs.World.{World, client_at, opening_world, topic_at}
use Rattle.world_laws.specs.AlikeWorlds.{AlwaysOn, world_on}
use Rattle.world_laws.proofs.Induction.Reaching.{goes_on as reached_on}
use Rattle.world_laws.proofs.KeptRuns.ResumedRuns.{run_parts}
use Rattle.failover_laws.specs.Got.{CameTo, IsBehindOrApart, IsConnectedSince, IsNeverGotAgain, SubsTo}
use Rattle.failover_laws.specs.UpdatedTo.{HasUpdatedTo, UpdatesHaveEffect}
use Rattle.failover_laws.specs.Run.{IsNeverAgain}
use Rattle.failover_laws.specs.Since.{Since}
use Rattle.failover_laws.proofs.Behind.{behind_always}
use Rattle.failover_laws.proofs.Given.{not_again}
use Rattle.failover_laws.proofs.GotLines.{got_law}
use Rattle.failover_laws.proofs.Lasting.{since_keeps, still_passed, within_keeps}
use Rattle.failover_laws.proofs.Never.{never_law}
use Rattle.failover_laws.proofs.Passing.{passes_between}
use Rattle.failover_laws.proofs.Running.{run_follows, settling_follows}
use Rattle.run_report.specs.Again.{AllStayUpdated, ComesNotAgain, IsBehindRequests}

-- ---- what was passed over stays so

-- where steps lead to from a world that a run comes to
steps_come : (s : Setup) (v : World) (es : List Step) → CameTo s v → CameTo s (run_from no_limits s (begun v) es).world
steps_come s v es came = CameTo.Going v (run_from no_limits s (begun v) es).world came ((reached_on s v).limited no_limits es)

all_stay : (s : Setup) (v : World) (es : List Step) → CameTo s v → AllStayUpdated s v es
all_stay s v es came before between rest t y n at whole leave =
    let since : Since s t y n u w = follows in record {
      between = since_keeps s t y n u w since;
      moment = λ writes e leaves. within_keeps s t y n u w writes e since leaves;
      passed = λ a j h.
          let still = still_passed n (topic_at s u t y) (topic_at s w t y) a j (since_keeps s t y n u w since) h in (still, not_again s w t y n a j still);
      got = λ a j c ident of h connected subs got.
          subst (Gets a j c ident) (sym of) (got_law.gets s u w y c n a j ident (steps_come s v before came)) h since connected subs got;
    }
  where
    behind : Ran
    behind = run_from no_limits s (begun v) before

    u : World
    u = behind.world

    w : World
    w = world_on s v (before ++ between) at

    -- of a client of whatever topic
    Gets : (a j c : ℕ) → Ident → ℕ → Type 0
    Gets a j c ident x =
        HasUpdatedTo (topic_at s u x y) n a j → Since s x y n u w → IsConnectedSince s u w c y → SubsTo s w c n
        → (client_at s (happens s w (event.Get c)) c).got ≡ (client_at s w c).got ++ ident ∷ [] → IsBehindOrApart s w x y a j ident

    follows : Since s t y n u w
    follows =
        subst (λ (r : Ran). Since s t y n u (settling_so_far no_limits s r at).world) (sym (run_parts no_limits s (begun v) before between))
        (settling_follows no_limits s t y n u (run_from no_limits s behind between) at (run_follows no_limits s t y n behind between leave))

-- ---- in a run of fewer than 2^62 events

-- a write is no event
still_short : (s : Setup) (w : World) (k : ℕ) (o : Option Planned) → IsShort w → IsShort (partly_written s w k o)
still_short s w k None short = short
still_short s w k (Some p) short = short

-- the law of a run from a world that runs come to, where it is short
pub record AreOf (s : Setup) (v : World) (es : List Step) : Type 0 where
  came : CameTo s v
  passes : (at : Settling) (k : ℕ) → IsShort (world_on s v (take k es) at) → UpdatesHaveEffect s (world_on s v (take k es) at)
  never : IsNeverAgain s v es
  got : IsNeverGotAgain s v es
  behind : AlwaysOn s v [] es (λ w settled. IsShort w → IsBehindRequests s w)

pub comes_not : (s : Setup) (v : World) (es : List Step) → AreOf s v es → ((k : ℕ) (at : Settling) → IsShort (world_on s v (take k es) at)) → ComesNotAgain s v es
comes_not s v es of short = record {
  short = short;
  passes = λ k at. of.passes at k (short k at);
  never = of.never;
  got = of.got;
  stays = all_stay s v es of.came;
  behind = record {
    between = λ k at. of.behind.between k at (short k at);
    moment = λ k at e writes.
        let w = world_on s v (take k es) at in of.behind.moment k at e writes (still_short s w writes (planned s w e) (short k at));
  };
}

-- ---- from the opening world
pub of_opening : (s : Setup) → IsScripted s → (es : List Step) → AreOf s (opening_world s) es
of_opening s scripted es = record {
  came = CameTo.Opening;
  passes = λ at k short. (passes_between s scripted).between no_limits (take k es) at short;
  never = never_law.script s scripted es;
  got = got_law.script s scripted es;
  behind = record {
    between = λ k at. (behind_always s scripted).between no_limits (take k es) at;
    moment = λ k at e writes. (behind_always s scripted).moment no_limits (record { steps = take k es; settling = at; event = e; writes = writes });
  };
}
