use Rattle.std.proofs.Common.{◌≡◌, ℕ, ◌<◌, ◌+◌, List, drop, get_or, length, subst}
use Rattle.step_laws.specs.Steps.{other_replicators}
use Rattle.step_lines.specs.Noted.{replicator_told}
use Rattle.step_lines.proofs.Lines.{next_changes, replicators_next}
use Rattle.step_lines.proofs.replicators.add_other_replicators.Goals as goal

pub loop-number-preserved : goal.loop-number-preserved
loop-number-preserved c = λ b h.
    let v = c.args.broker.now in let names = v.site.clusters in let k : ℕ = c.loop-number.number in
    let same : c.clusters-clusters.result.now ≡ names = rw c.site.ensures at c.clusters-clusters.ensures.clusters in
    let within : k < length names = subst (λ (ns : List (List ℕ)). k < length ns) same c.loop-number-test.true in
    let n = c.as_str.result.now in
    let text : n ≡ c.index-clusters-number.result = c.as_str.ensures.text in
    let here : n ≡ get_or names k n = rw text (subst (λ (ns : List (List ℕ)). c.index-clusters-number.result ≡ get_or ns k c.index-clusters-number.result) same c.index-clusters-number.is) in
    next_changes c.args.indent (replicator_told v.site.own k c.as_str.result.now b v.broker) (other_replicators v.site.own (k + 1) (drop (k + 1) names) b v.broker) (other_replicators v.site.own k (drop k names) b v.broker)
    c.loop-number.lines c.add_other_replicator.new.lines _
    (replicators_next v.site.own k names c.as_str.result.now b v.broker within here)
    (c.in_ok-add_other_replicator.ensures b (h.each k _ within)) (c.loop-number.invariant b h)
