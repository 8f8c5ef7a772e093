use Rattle.std.proofs.Common.{List, ap, arith, subst, sym, ◌∙◌}
use Rattle.geo_base.specs.Audit.{position_named}
use Rattle.observation.specs.declared.finding.Finding.TheVariants as finding
use Rattle.observation.specs.Findings.{covers_one}
use Rattle.observation.specs.Observed.{entries_seen}
use Rattle.observe.specs.Needed.{AreNeeds, NeedOf}
use Rattle.observe.proofs.Cutting.{covered_found}
use Rattle.observe.proofs.Needing.{needs_at}
use Rattle.observe.proofs.observed.Observed.find_uncovered_of.Goals as goal

pub returns-else-not-covers : goal.returns-else-not-covers
returns-else-not-covers c =
    let s = c.args.scenario.now.setup in let o = c.args.self.now in let q = c.args.snapshot in let y = c.args.of in
    let needs = subst (λ (ns : List NeedOf). AreNeeds q.at.cluster (entries_seen s o q.at.topic q.at.cluster) (entries_seen s o q.at.topic y) ns) c.index-snapshot-of.is
    (needs_at s o q.at.topic q.at.cluster q.needs.now y c.index-snapshot-of.result c.requires.needs (omega (arith, c.requires.of, c.requires.needs.sized)) c.index-snapshot-of.is) in
    covered_found q.at.cluster y (covers_one s o q.at.topic q.at.cluster c.args.local y (position_named y q.remote.now)) (finding.Cut q.at.topic q.at.cluster q.index y) c.args.found.now.items c.if-cluster-of.false
    (sym (c.covers.ensures q.at.cluster needs ∙ ap (covers_one s o q.at.topic q.at.cluster c.args.local y) c.first_position-position.ensures) ∙ c.if-not-covers.false)
