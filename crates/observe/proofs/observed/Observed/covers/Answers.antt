use Rattle.std.proofs.Common.{◌<◌, ap, arith, sym, ◌∙◌}
use Rattle.std.specs.Prelude.{length, ◌≡◌, Some}
use Rattle.geo_base.specs.Mirror.{index_at}
use Rattle.observation.specs.Findings.{covers_one}
use Rattle.observation.specs.Observed.{Seen, topic_seen}
use Rattle.observe.proofs.Needing.{covers_index}
use Rattle.observe.proofs.observed.Observed.covers.Goals as goal

pub returns-in-Some-index_at : goal.returns-in-Some-index_at
returns-in-Some-index_at c = λ x needs.
    let s = c.args.scenario.now.setup in let o = c.args.self.now in
    let p = c.in-Some.position in
    let at : index_at (topic_seen s o c.args.there.topic c.args.there.cluster) p ≡ Some c.in-Some-index_at.index = sym (ap (λ (v : Seen). index_at v.topic p) c.at.ensures) ∙ (sym c.index_at.ensures.index ∙ c.in-Some-index_at.is) in
    let size = ap (λ (v : Seen). length v.topic.entries) c.at.ensures in
    let within : c.in-Some-index_at.index < length c.args.needs.now = omega (arith, c.in-Some-index_at.ensures.within, c.requires.needs, size) in
    covers_index s o c.args.there.topic x c.args.local c.args.there.cluster p c.args.needs.now c.in-Some-index_at.index c.may_be_later.result c.are_covered.result c.may_be_later.ensures c.if-may_be_later.false at within c.are_covered.ensures needs
    ∙ ap (covers_one s o c.args.there.topic x c.args.local c.args.there.cluster) (sym c.in-Some.is)
