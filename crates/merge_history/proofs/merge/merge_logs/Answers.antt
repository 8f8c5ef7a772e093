use Rattle.std.proofs.Common.{◌≡◌, ℕ, ◌<◌, List, length, subst, sym, ◌∙◌}
use Rattle.std.specs.Arc.{arc_value}
use Rattle.geo_base.specs.History.{RecordedEvent}
use Rattle.geo_base.specs.Merge.{history_of, merge_of, steps_of}
use Rattle.geo_base.specs.Scripted.{IsScripted}
use Rattle.script_text.specs.Script.{Script}
use Rattle.merge_history.specs.Firsts.{AreRising}
use Rattle.merge_history.specs.Kept.{Kept}
use Rattle.merge_history.specs.Logs.{AreTold, kept_of}
use Rattle.merge_history.specs.Merges.{DiffersAs}
use Rattle.merge_history.specs.Turns.{AlikeAll, Rise}
use Rattle.merge_history.proofs.FewNodes.{few_nodes}
use Rattle.merge_history.proofs.Fits.{merged}
use Rattle.merge_history.proofs.Judging.{kept_few}
use Rattle.merge_history.proofs.merge.merge_logs.Goals as goal

pub merged_steps-requires : goal.merged_steps-requires
merged_steps-requires c =
    let n = arc_value c.args.scenario.now in
    let known : IsScripted n.setup = subst (λ (n : Script). IsScripted n.setup) c.deref.ensures c.in_ok-layout.ensures.known in
    let few : length c.args.logs.now < 4294967296 = subst (λ (k : ℕ). k < 4294967296) (sym c.requires) (few_nodes n.setup known) in
    subst (λ (kept : List (List Kept)). length kept < 4294967296) (sym (c.as_slice.ensures.value ∙ c.in_ok-judged.ensures.kept))
    (kept_few c.in_ok-judged.judged.own.items c.args.logs.now 4294967296 c.in_ok-judged.ensures.told.size few)

pub difference_of-requires-clause-few : goal.difference_of-requires-clause-few
difference_of-requires-clause-few c =
    let n = arc_value c.args.scenario.now in
    let known : IsScripted n.setup = subst (λ (n : Script). IsScripted n.setup) c.deref.ensures c.in_ok-layout.ensures.known in
    subst (λ (k : ℕ). k < 4294967296) (sym c.requires) (few_nodes n.setup known)

pub returns : goal.returns
returns c = λ st clock logs.
    let n = arc_value c.args.scenario.now in let bs = c.args.logs.now in let ts = c.in_ok-judged.judged.own.items in
    let known : IsScripted n.setup = subst (λ (n : Script). IsScripted n.setup) c.deref.ensures c.in_ok-layout.ensures.known in
    let told : AreTold n bs ts = subst (λ (n : Script). AreTold n bs ts) c.deref-2.ensures c.in_ok-judged.ensures.told in
    let steps : (said : List (List RecordedEvent)) → AlikeAll (kept_of ts bs) said → ((i : ℕ) → Rise (history_of said i)) → c.in_ok-merged_steps.field-0 ≡ steps_of (merge_of said) =
    subst (λ (kept : List (List Kept)). (said : List (List RecordedEvent)) → AlikeAll kept said → ((i : ℕ) → Rise (history_of said i)) → c.in_ok-merged_steps.field-0 ≡ steps_of (merge_of said))
    (c.as_slice.ensures.value ∙ c.in_ok-judged.ensures.kept) c.in_ok-merged_steps.ensures in
    let differs : AreRising (kept_of ts bs) → DiffersAs n bs (kept_of ts bs) c.in_ok-difference_of.field-0 =
    subst (λ (kept : List (List Kept)). AreRising kept → DiffersAs n bs kept c.in_ok-difference_of.field-0) c.in_ok-judged.ensures.kept c.in_ok-difference_of.ensures in
    merged n bs ts st clock (record { steps = c.in_ok-merged_steps.field-0; differs = c.in_ok-difference_of.field-0 }) known c.requires told steps differs logs
