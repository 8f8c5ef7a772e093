use Rattle.std.proofs.Common.{◌≡◌, ◌<◌, ◌==◌, ◌++◌, ◌∙◌, [], length, ap, arith, refl, subst, sym}
use Rattle.std.specs.Prelude.{if◌then◌else◌}
use Rattle.geo_base.specs.Entry.{means_cluster}
use Rattle.observation.specs.Findings.{tells_one, unless}
use Rattle.observation.specs.declared.finding.Finding.TheVariants as finding
use Rattle.observe.specs.Dealt.{LogsOf}
use Rattle.observe.proofs.Each.{each_all, each_none, number_more}
use Rattle.observe.proofs.told.Updates.find_told_of.Goals as goal

pub loop-of-init : goal.loop-of-init
loop-of-init c = record { same = refl; found = each_none _ _ _ }

pub find_told_by-requires : goal.find_told_by-requires
find_told_by-requires c =
    let size = ap (λ (q : LogsOf). length q.setup.clusters) c.self.view_is in
    subst (λ (q : LogsOf). c.loop-of.of < length q.setup.clusters) (sym c.loop-of.invariant.same) (omega (arith, c.loop-of-test.true, c.clusters-of-end.ensures, size))

pub loop-of-preserved : goal.loop-of-preserved
loop-of-preserved c =
    let size = ap (λ (q : LogsOf). length q.setup.clusters) c.self.view_is in
    record {
      same = c.find_told_by.ensures.same ∙ c.loop-of.invariant.same;
      found =
          number_more _ _ _ _ _ _ c.loop-of.invariant.found (omega (arith, c.loop-of-test.true, c.clusters-of-end.ensures, size))
          (subst (λ (q : LogsOf). c.find_told_by.new.found.items ≡ c.loop-of.found.items ++ (if c.args.update.origin == c.loop-of.of then [] else if means_cluster c.loop-of.of c.args.pair.now.cluster then unless (tells_one q.setup q.observed q.topic c.args.update.origin c.args.update.sub.now c.loop-of.of c.args.pair.now.position) (finding.Told q.topic c.args.update.cluster c.args.update.index c.loop-of.of) else [])) c.loop-of.invariant.same c.in_ok-find_told_by.ensures.found);
    }

pub returns : goal.returns
returns c =
    let size = ap (λ (q : LogsOf). length q.setup.clusters) c.self.view_is in
    record {
      same = c.loop-of.invariant.same;
      found = each_all _ _ _ _ _ c.loop-of.invariant.found (omega (arith, c.loop-of-test.false, c.clusters-of-end.ensures, size));
    }
