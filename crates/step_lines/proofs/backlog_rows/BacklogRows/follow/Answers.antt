use Rattle.std.proofs.Common.{ℕ, ◌<◌, List, length, subst, sym}
use Rattle.std.proofs.lemmas.List.{get_or-set_same}
use Rattle.std.specs.Prelude.{OnOk}
use Rattle.step_lines.specs.Backlogs.{KnownBacklogs, TellsBacklogs, nothing_known, wrote}
use Rattle.step_lines.proofs.backlog_rows.BacklogRows.follow.Goals as goal

pub returns-clause-followed : goal.returns-clause-followed
returns-clause-followed c = λ per.
    let rows = c.self.inside.rows.items in let n : ℕ = c.args.number in let new = c.follow.new.self in
    let there : n < length rows = subst (λ (ks : List KnownBacklogs). n < length ks) (sym c.self.view_is) c.requires.has in
    subst (λ (k : KnownBacklogs). OnOk c.follow.result (TellsBacklogs k (wrote per c.args.broker.now.broker c.args.plan.now))) (sym (get_or-set_same rows n new nothing_known there))
    (c.follow.ensures per)
