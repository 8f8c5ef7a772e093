use Rattle.std.proofs.Common.{◌≡◌, ℕ, ◌<◌, ◌≤◌, List, length, subst, arith}
use Rattle.step_lines.proofs.Lines.{none_left, none_told}
use Rattle.step_lines.proofs.replicators.is_any_other.Goals as goal

pub loop-remote-preserved : goal.loop-remote-preserved
loop-remote-preserved c = λ b h.
    let v = c.args.broker.now in let k : ℕ = c.loop-remote.remote in
    let same : c.clusters-remote-end.result.now ≡ v.site.clusters = rw c.site.ensures at c.clusters-remote-end.ensures.clusters in
    let within : k < length v.site.clusters = subst (λ (ns : List (List ℕ)). k < length ns) same c.loop-remote-test.true in
    none_told v.site.own k v.site.clusters b v.broker _ within (λ n. c.is_other.ensures b n (h.each k _ within) c.if-is_other.false) (c.loop-remote.invariant b h)

pub returns : goal.returns
returns c = λ b h none.
    let v = c.args.broker.now in let k : ℕ = c.loop-remote.remote in
    let same : c.clusters-remote-end.result.now ≡ v.site.clusters = rw c.site.ensures at c.clusters-remote-end.ensures.clusters in
    let past : length v.site.clusters ≤ k = subst (λ (ns : List (List ℕ)). length ns ≤ k) same (omega (arith, c.loop-remote-test.false)) in
    none_left v.site.own k v.site.clusters b v.broker _ past (c.loop-remote.invariant b h)
