use Rattle.std.proofs.Common.{◌≡◌, ◌∙◌, ℕ, List, Some, ap, subst, sym}
use Rattle.std.specs.Map.{lookup}
use Rattle.observation.specs.Observed.{entries_seen}
use Rattle.observe.specs.declared.asked.Asked.{Asked}
use Rattle.observe.specs.Dealt.{LogsOf}
use Rattle.observe.specs.Telling.{AreFirsts, first_of, first_unsettled, is_asked}
use Rattle.observe.proofs.Telling.{first_kept, firsts_more}
use Rattle.observe.proofs.told.Updates.first_unsettled.Goals as goal

pub invariant_of-self-in-None : goal.invariant_of-self-in-None
invariant_of-self-in-None c =
    let l = c.self.inside.logs.now in let p : Asked = record { origin = c.args.update.origin; of = c.args.of; sub = c.in_ok-copy.field-0 } in
    let first : c.look_for_unsettled-first.result ≡ first_of l p =
    c.look_for_unsettled-first.ensures
    ∙ ap (λ (n : List ℕ). first_unsettled l.setup l.observed l.topic c.args.update.origin n 0 (entries_seen l.setup l.observed l.topic c.args.of)) (sym c.in_ok-copy.ensures) in
    subst (AreFirsts l) (sym c.in_ok-insert-in-None.ensures.entries) (firsts_more l c.self.inside.firsts.entries p c.look_for_unsettled-first.result c.self.invariant first)

pub returns-in-Some-clause-first : goal.returns-in-Some-clause-first
returns-in-Some-clause-first c =
    let l = c.self.inside.logs.now in let p : Asked = record { origin = c.args.update.origin; of = c.args.of; sub = c.in_ok-copy.field-0 } in
    let at : lookup (is_asked p) c.self.inside.firsts.entries ≡ Some c.in-Some.first.now = sym c.in-Some.ensures.value in
    let first : c.in-Some.first.now ≡ first_unsettled l.setup l.observed l.topic c.args.update.origin c.args.update.sub.now 0 (entries_seen l.setup l.observed l.topic c.args.of) =
    first_kept l c.self.inside.firsts.entries p c.in-Some.first.now c.self.invariant at
    ∙ ap (λ (n : List ℕ). first_unsettled l.setup l.observed l.topic c.args.update.origin n 0 (entries_seen l.setup l.observed l.topic c.args.of)) c.in_ok-copy.ensures in
    subst (λ (q : LogsOf). c.in-Some.first.now ≡ first_unsettled q.setup q.observed q.topic c.args.update.origin c.args.update.sub.now 0 (entries_seen q.setup q.observed q.topic c.args.of)) c.self.view_is first
