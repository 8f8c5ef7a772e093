use Rattle.std.proofs.Common.{◌≡◌, ℕ, ◌+◌, ◌<◌, ◌++◌, List, [], false, drop, length, ap, arith}
use Rattle.std.proofs.lemmas.List.{drop_more}
use Rattle.broker_subs.specs.Table.{sub_at}
use Rattle.geo_base.specs.declared.frame.SubKind.TheVariants as sub_kind
use Rattle.geo_base.specs.Subscription.{Subscription, new_subscription}
use Rattle.step_laws.specs.Steps.{ReportChange}
use Rattle.step_lines.specs.Noted.{shown_named, sub_told, subs_told}
use Rattle.step_lines.proofs.Lines.{next_changes}
use Rattle.step_lines.proofs.broker_changes.add_other_subs.Goals as goal

pub loop-place-preserved : goal.loop-place-preserved
loop-place-preserved c =
    let b = c.args.broker.now.broker in let ks = c.args.noted.now in let k : ℕ = c.loop-place.place in let v : Subscription = sub_at b.subs k in
    let lt : k < length b.subs = omega (arith, c.loop-place-test.true, c.subs-place-end.ensures) in
    let here : List ReportChange = sub_told b (shown_named ks v.name) v in let rest : List ReportChange = subs_told b ks (drop (k + 1) b.subs) in
    let all : subs_told b ks (drop k b.subs) ≡ here ++ rest =
    ap (λ (vs : List Subscription). subs_told b ks vs) (drop_more b.subs k (new_subscription [] sub_kind.Exclusive false []) lt) in
    next_changes c.args.indent here rest (subs_told b ks (drop k b.subs)) c.loop-place.lines c.add_other_sub.new.lines _ all c.in_ok-add_other_sub.ensures c.loop-place.invariant
