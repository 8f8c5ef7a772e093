use Rattle.std.proofs.Common.{◌≡◌, [], ◌∷◌, subst, sym}
use Rattle.broker_state.specs.declared.write.StateWrite.{StateWrite}
use Rattle.step_lines.specs.Backlogs.{after_writes, backlogs_of}
use Rattle.step_lines.proofs.backlogs.Backlogs.count_on.Goals as goal

pub returns-in-Create : goal.returns-in-Create
returns-in-Create c = λ per ok.
    let b = c.args.broker.now.broker in let p = c.args.plan.now in let new = c.count_created.new.self.counts in
    subst (λ (w : StateWrite). new ≡ backlogs_of (after_writes per b p (w ∷ []))) (sym c.in-Create.is) (c.count_created.ensures per p ok)

pub returns-in-Delete : goal.returns-in-Delete
returns-in-Delete c = λ per ok.
    let b = c.args.broker.now.broker in let p = c.args.plan.now in let new = c.count_deleted.new.self.counts in
    subst (λ (w : StateWrite). new ≡ backlogs_of (after_writes per b p (w ∷ []))) (sym c.in-Delete.is) (c.count_deleted.ensures per ok)
