-- Lists of logs, as the merge sees them.
use Rattle.std.proofs.Common.{◌≡◌, ℕ, zero, suc, List, [], ◌∷◌, length, sym, ap, subst, ◌∙◌}
use Rattle.std.proofs.lemmas.List.{length-map}
use Rattle.std.proofs.lemmas.Option.{none-some, same_Some}
use Rattle.std.specs.Prelude.{All, Err, IfOk, Ok, Result}
use Rattle.std.specs.List.{AllByRecursion}
use Rattle.geo_base.specs.declared.event.Step.{Step}
use Rattle.geo_base.specs.declared.memory.Memory.{Memory}
use Rattle.geo_base.specs.NodeState.{NodeState}
use Rattle.geo_base.specs.Setup.{Setup}
use Rattle.frame_laws.specs.Logs.{IsLogOf}
use Rattle.script_text.specs.Script.{Script}
use Rattle.merge_history.specs.declared.merge.Merged.{Merged}
use Rattle.merge_history.specs.Logs.{AreLogs, AreOwn, LogView}
use Rattle.merge_history.specs.Events.{AreMergedEvents, AreOwnEvents, MaySchedule}
use Rattle.merge_history.specs.Merges.{IsMerged}
use Rattle.node_log.specs.Logs.{NodeLogView, IsReplayed}
use Rattle.live_output.specs.Lists.{IsMergeOf, state_in, view_of, views_of}
use Rattle.live_output.specs.Playing.{IsEventStep}
use Rattle.live_output.proofs.Events.{all_steps}

clock_in : {E : Type 0} → List (NodeLogView E) → ℕ → ℕ
clock_in [] n = 0
clock_in (b ∷ bs) zero = b.clock
clock_in (b ∷ bs) (suc n) = clock_in bs n

are_logs : {E : Type 0} (bs : List (NodeLogView E)) → AllByRecursion IsReplayed bs → AreLogs (views_of bs) (state_in bs) (clock_in bs)
unfolding clock_in
are_logs [] h n v at = absurd (none-some v at)
are_logs (b ∷ bs) h zero v at =
    subst (λ (v : LogView). IsLogOf v.scenario.setup v.node v.history b.state b.clock) (same_Some (view_of b) v at) h.0
are_logs (b ∷ bs) h (suc n) v at = are_logs bs h.1 n v at

pub merge_of_list : {E : Type 0} (c : Script) (bs : List (NodeLogView E)) (vs : List LogView) (r : Result Merged Memory) → vs ≡ views_of bs → AllByRecursion IsReplayed bs
    → ((st : ℕ → NodeState) (clock : ℕ → ℕ) → AreLogs vs st clock → IfOk r (IsMerged c vs st)) → IfOk r (IsMergeOf c bs)
merge_of_list c bs vs r is replayed merged =
    subst (λ (us : List LogView). IfOk r (IsMerged c us (state_in bs))) is
    (merged (state_in bs) (clock_in bs) (subst (λ (us : List LogView). AreLogs us (state_in bs) (clock_in bs)) (sym is) (are_logs bs replayed)))

pub many_views : {E : Type 0} (bs : List (NodeLogView E)) (vs : List LogView) (n : ℕ) → vs ≡ views_of bs → length bs ≡ n → length vs ≡ n
many_views bs vs n is many = ap (λ (us : List LogView). length us) is ∙ (length-map bs view_of ∙ many)

-- the events of a list of logs none of which is strange
pub own_of_list : {E : Type 0} (c : Script) (bs : List (NodeLogView E)) (vs : List LogView) (r : Result (List Step) Memory) → vs ≡ views_of bs → AllByRecursion IsReplayed bs
    → ((st : ℕ → NodeState) (clock : ℕ → ℕ) → AreLogs vs st clock → AreOwn c vs → IfOk r (AreOwnEvents c vs)) → AreOwn c (views_of bs) → IfOk r (AreOwnEvents c (views_of bs))
own_of_list c bs vs r is replayed merged own =
    subst (λ (us : List LogView). IfOk r (AreOwnEvents c us)) is
    (merged (state_in bs) (clock_in bs) (subst (λ (us : List LogView). AreLogs us (state_in bs) (clock_in bs)) (sym is) (are_logs bs replayed))
    (subst (AreOwn c) (sym is) own))

pub all_of_list : {E : Type 0} (s : Setup) (bs : List (NodeLogView E)) (vs : List LogView) (r : Result (List Step) Memory) → vs ≡ views_of bs
    → IfOk r (AreMergedEvents s vs) → IfOk r (AreMergedEvents s (views_of bs))
all_of_list s bs vs r is merged = subst (λ (us : List LogView). IfOk r (AreMergedEvents s us)) is merged

pub steps_of_list : (s : Setup) (r : Result (List Step) Memory) → IfOk r (λ es. All (MaySchedule s) es) → IfOk r (λ es. All (IsEventStep s) es)
steps_of_list s (Ok es) h = all_steps s es h
steps_of_list s (Err m) h = tt
