-- The procedure of a planned switchover in a run that goes on where another was kept: no event tells the two apart.
use Rattle.std.proofs.Common.{◌≡◌, ℕ, ◌^◌, ◌<◌, ◌≤◌, List, [], ◌∷◌, ◌++◌, length, sym, ap, subst, ◌∙◌, append_assoc}
use Rattle.std.specs.Prelude.{Some}
use Rattle.world_laws.proofs.Types.{Step}
use Rattle.world_laws.proofs.Types.step
use Rattle.geo_base.specs.Broker.{Broker, backlog, sub_named}
use Rattle.geo_base.specs.Moments.{NotBegun}
use Rattle.geo_base.specs.Run.{run}
use Rattle.geo_base.specs.Safe.{IsEntry}
use Rattle.geo_base.specs.Scripted.{IsScripted}
use Rattle.geo_base.specs.Setup.{Setup, sub_name}
use Rattle.geo_base.specs.World.{World}
use Rattle.world_laws.specs.AlikeWorlds.{AreAlike}
use Rattle.world_laws.proofs.KeptRuns.ResumedRuns.{between_alike}
use Rattle.failover_laws.specs.Drained.{IsDrained}
use Rattle.failover_laws.specs.Ended.{asking_steps}
use Rattle.failover_laws.specs.Procedure.{HasTakenOver, IsHandedOver, LawHandover, led_to, offers}
use Rattle.failover_laws.proofs.Handover.HandedOver.{handed_over}
use Rattle.failover_laws.proofs.Offering.Twins.{again_alike, have_alike, same_at}

taken_over_alike : (s : Setup) (v v' z z' : World) (t y x : ℕ) (n : List ℕ) → AreAlike v v' → AreAlike z z' → HasTakenOver s v z t y x n → HasTakenOver s v' z' t y x n
taken_over_alike s v v' z z' t y x n av az h =
    let bv = same_at s v v' t y av in let bz = same_at s z z' t y az in record {
      have = have_alike s v v' z z' t y x n av az h.have;
      none_new = λ i e at message. subst (λ (b : Broker). IsEntry b i e) bv (h.none_new i e (subst (λ (b : Broker). IsEntry b i e) (sym bz) at) message);
      report = λ meant.
          let r = h.report (λ i e at. meant i e (subst (λ (b : Broker). IsEntry b i e) bz at)) in
          (r.0, subst (λ (b : Broker). sub_named b.subs n ≡ Some r.0) bz r.1, subst (λ (b : Broker). backlog b r.0 ≡ 0) bz r.2);
      again = again_alike s v v' z z' t y x n av az h.again;
    }

handed_on : (s : Setup) → IsScripted s → (v : World) (before es : List Step) → AreAlike (run s before) v → IsHandedOver s v es
handed_on s scripted from before es alike t x y num k u lt known pair here replicated drained enough short =
    taken_over_alike s (run s first') v (run s last') z t y x n v_alike z_alike
    (handed_over s scripted (before ++ es) t x y num k u lt known pair (subst (λ (b : Broker). sub_named b.subs n ≡ Some u) (sym (same_at s (run s first') v t x v_alike)) here) replicated
    (subst (λ (b : Broker). IsDrained b n) (sym (same_at s (run s first') v t x v_alike)) drained)
    (subst (λ (b : Broker). length b.entries ≤ k) (sym (same_at s (run s asked') (led_to s from (first ++ asking_steps t x)) t x a_alike)) enough)
    (subst (λ (m : ℕ). m < 2 ^ 62) (sym z_alike.events) short))
  where
    n : List ℕ
    n = sub_name s t num

    end : List Step
    end = step.Settle ∷ []

    first : List Step
    first = es ++ end

    middle : List Step
    middle = asking_steps t x ++ offers k t x num

    v : World
    v = led_to s from first

    z : World
    z = led_to s from (first ++ middle ++ end)

    first' : List Step
    first' = before ++ es ++ end

    asked' : List Step
    asked' = first' ++ asking_steps t x

    last' : List Step
    last' = first' ++ middle ++ end

    whole : (fs : List Step) → AreAlike (run s (before ++ fs)) (led_to s from fs)
    whole fs = between_alike s from before fs NotBegun alike

    first_is : first' ≡ before ++ (es ++ end)
    first_is = append_assoc before es end

    v_alike : AreAlike (run s first') v
    v_alike = subst (λ (fs : List Step). AreAlike (run s fs) v) (sym first_is) (whole first)

    a_alike : AreAlike (run s asked') (led_to s from (first ++ asking_steps t x))
    a_alike =
        subst (λ (fs : List Step). AreAlike (run s fs) (led_to s from (first ++ asking_steps t x)))
        (sym (ap (λ (fs : List Step). fs ++ asking_steps t x) first_is ∙ append_assoc before first (asking_steps t x))) (whole (first ++ asking_steps t x))

    z_alike : AreAlike (run s last') z
    z_alike =
        subst (λ (fs : List Step). AreAlike (run s fs) z)
        (sym (ap (λ (fs : List Step). fs ++ middle ++ end) first_is ∙ ap (λ (fs : List Step). fs ++ end) (append_assoc before first middle) ∙ append_assoc before (first ++ middle) end))
        (whole (first ++ middle ++ end))

pub handover_law : LawHandover
handover_law = record { script = handed_over; resumed = handed_on }
