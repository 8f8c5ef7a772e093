use Rattle.std.proofs.Common.{◌≡◌, ◌<◌, Bool, true, List, length, refl, subst, sym, ◌∙◌}
use Rattle.std.specs.Prelude.{IfOk, slice_index_or}
use Rattle.std.specs.Arc.{arc_value}
use Rattle.merge_history.specs.Firsts.{AreRising}
use Rattle.merge_history.specs.Kept.{Kept}
use Rattle.merge_history.specs.Logs.{AreOwn, IsFirstFalse}
use Rattle.merge_history.specs.Merges.{DiffersAs}
use Rattle.merge_history.proofs.Fits.{none_strange, strange_differs}
use Rattle.merge_history.proofs.Judging.{all_own, kept_few}
use Rattle.merge_history.proofs.merge.difference_of.Goals as goal

pub packet_difference-requires : goal.packet_difference-requires
packet_difference-requires c = record {
  few = subst (λ (kept : List (List Kept)). length kept < 4294967296) (sym (c.as_slice-in-None.ensures.value ∙ c.requires.kept))
      (kept_few c.args.judged.now.own.items c.args.logs.now 4294967296 c.requires.told.size c.requires.few);
}

pub returns-in_ok-strange_at-in-Some : goal.returns-in_ok-strange_at-in-Some
returns-in_ok-strange_at-in-Some c = λ rising.
    let ts = c.args.judged.now.own.items in
    let first : IsFirstFalse ts c.in-Some.place = subst (λ (ts : List Bool). IsFirstFalse ts c.in-Some.place) c.as_slice.ensures.value c.in-Some.ensures.some in
    strange_differs (arc_value c.args.scenario.now) ts c.args.logs.now c.in-Some.place c.args.judged.now.histories.items c.in_ok-strange_at-in-Some.field-0 c.requires.told first
    c.in_ok-strange_at-in-Some.ensures

pub returns-in-None : goal.returns-in-None
returns-in-None c = λ rising.
    let n = arc_value c.args.scenario.now in let bs = c.args.logs.now in let ts = c.args.judged.now.own.items in
    let same = c.as_slice-in-None.ensures.value in
    let own : AreOwn n bs = all_own n ts bs c.requires.told
    (λ k. subst (λ (ts : List Bool). slice_index_or ts k true ≡ true) c.as_slice.ensures.value (c.in-None.ensures.none refl k)) in
    subst (λ (kept : List (List Kept)). IfOk c.packet_difference.result (DiffersAs n bs kept)) same
    (none_strange n bs c.as_slice-in-None.result.now c.args.layout.now c.packet_difference.result own c.requires.layout c.packet_difference.ensures.none
    (c.packet_difference.ensures.some (subst AreRising (sym same) rising)))
