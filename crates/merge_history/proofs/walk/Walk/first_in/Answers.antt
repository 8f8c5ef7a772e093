use Rattle.std.proofs.Common.{◌≡◌, ◌+◌, List, ◌∷◌, ◌++◌, [], refl, subst, sym, take, ◌∙◌, arith}
use Rattle.merge_history.specs.Kept.{Kept, kept_by}
use Rattle.merge_history.specs.Walks.{IsWalked}
use Rattle.merge_history.proofs.Tables.{next_read}
use Rattle.merge_history.proofs.Walking.{all_sent, found_here, kept_there, sent_up_to}
use Rattle.merge_history.proofs.walk.Walk.first_in.Goals as goal

pub returns-in-Some-clause-found : goal.returns-in-Some-clause-found
returns-in-Some-clause-found c =
    let kept = c.args.histories.now in let h = c.events-events.result.now in
    let own : kept_by kept c.args.node ≡ h = kept_there c.args.histories.now c.args.node c.index-histories-node.result c.requires.node (sym c.index-histories-node.is) ∙ sym c.events-events.ensures in
    found_here c.args.layout.now kept c.args.node c.loop-place.place h c.loop-place.self c.index-events-place.result c.in-Some.peer c.in-Some.index own
    c.loop-place-test.true (sym c.index-events-place.is) c.loop-place.invariant.0 c.loop-place.invariant.1 (c.in-Some.ensures.some kept c.requires.outboxes)

pub loop-place-preserved : goal.loop-place-preserved
loop-place-preserved c =
    let kept = c.args.histories.now in let h = c.events-events.result.now in let i = c.loop-place.place in let d = c.index-events-place.result in
    let own : kept_by kept c.args.node ≡ h = kept_there c.args.histories.now c.args.node c.index-histories-node.result c.requires.node (sym c.index-histories-node.is) ∙ sym c.events-events.ensures in
    let on : IsWalked c.args.layout.now c.args.node (take i h ++ d ∷ []) c.go_on.new.self =
    c.in_ok-go_on.ensures c.args.layout.now c.args.node (take i h) c.loop-place.invariant.0 in (
      subst (λ (ds : List Kept). IsWalked c.args.layout.now c.args.node ds c.go_on.new.self) (sym (next_read h i c.loop-place-test.true d (sym c.index-events-place.is))) on,
      sent_up_to c.args.layout.now kept c.args.node i h c.loop-place.self d own c.loop-place-test.true (sym c.index-events-place.is) c.loop-place.invariant.0 c.loop-place.invariant.1
          (c.in_default.ensures.none kept c.requires.outboxes refl),
    )

pub returns-clause-none : goal.returns-clause-none
returns-clause-none c = λ is.
    let kept = c.args.histories.now in let h = c.events-events.result.now in
    let own : kept_by kept c.args.node ≡ h = kept_there c.args.histories.now c.args.node c.index-histories-node.result c.requires.node (sym c.index-histories-node.is) ∙ sym c.events-events.ensures in
    all_sent c.args.layout.now kept c.args.node c.loop-place.place h own (omega (arith, c.loop-place-test.false)) c.loop-place.invariant.1
