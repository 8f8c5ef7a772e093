use Rattle.std.proofs.Common.{◌≡◌, ◌<◌, ◌∙◌, ◌==◌, true, false, arith, length, sym}
use Rattle.std.proofs.lemmas.Bool.Decides.{nat_tests}
use Rattle.geo_base.specs.Mirror.{Mirrors}
use Rattle.geo_base.specs.Setup.{Setup}
use Rattle.audit.proofs.LineSteps.{cut_ends, cut_goes_on, is_cut_at, other_cut, own_cut}
use Rattle.audit.proofs.mirrors.AllMirrors.is_cut.Goals as goal
use Rattle.audit.proofs.mirrors.AllMirrors.is_cut.Goals.{else-other-at-via-then-other-at+in_ok-covers_other+else-not-branch, else-other-at-via-else-other-at}

pub returns-then-not-branch-clause-cut : goal.returns-then-not-branch-clause-cut
returns-then-not-branch-clause-cut c =
    let s : Setup = c.args.scenario.now.setup in let a : Mirrors = c.args.self.now in
    let t = c.args.at.topic in let x = c.args.at.cluster in let y = c.loop-other.other in
    let lt : y < length s.clusters = omega (arith, c.loop-other-test.true, c.cluster_count-other-end.ensures) in
    let other : (x == y) ≡ false = grind (arith, nat_tests, c.if-other-at.true) in
    let none : c.in_ok-covers_other.field-0 ≡ false = grind (arith, c.if-not-branch.true) in
    let fails : is_cut_at s a t x c.args.remote.now c.args.local y ≡ false =
    other_cut s a c.loop-other.self t x c.args.remote.now c.args.local y c.number_of-here.result c.number_of.result c.first_position.result c.in_ok-covers_other.field-0
    c.loop-other.invariant.same c.number_of-here.ensures.number c.number_of.ensures.number c.first_position.ensures other c.in_ok-covers_other.ensures.covers
    ∙ none in
    sym (cut_ends (is_cut_at s a t x c.args.remote.now c.args.local) y (length s.clusters) lt fails) ∙ c.loop-other.invariant.rest

pub loop-other-preserved : goal.loop-other-preserved
loop-other-preserved c =
    let s : Setup = c.args.scenario.now.setup in let a : Mirrors = c.args.self.now in
    let t = c.args.at.topic in let x = c.args.at.cluster in let y = c.loop-other.other in
    let lt : y < length s.clusters = omega (arith, c.loop-other-test.true, c.cluster_count-other-end.ensures) in
    elim c.else-other-at.branch [
      | else-other-at-via-then-other-at+in_ok-covers_other+else-not-branch w ↦
          let other : (x == y) ≡ false = grind (arith, nat_tests, w.if-other-at.true) in
          let one : w.in_ok-covers_other.field-0 ≡ true = grind (arith, w.if-not-branch.false) in
          let holds : is_cut_at s a t x c.args.remote.now c.args.local y ≡ true =
          other_cut s a c.loop-other.self t x c.args.remote.now c.args.local y c.number_of-here.result c.number_of.result w.first_position.result w.in_ok-covers_other.field-0
          c.loop-other.invariant.same c.number_of-here.ensures.number c.number_of.ensures.number w.first_position.ensures other w.in_ok-covers_other.ensures.covers
          ∙ one in
          record {
            same = w.self-is ∙ (w.in_ok-covers_other.ensures.same ∙ c.loop-other.invariant.same);
            rest = sym (cut_goes_on (is_cut_at s a t x c.args.remote.now c.args.local) y (length s.clusters) lt holds) ∙ c.loop-other.invariant.rest;
          }
      | else-other-at-via-else-other-at w ↦
          let own : (x == y) ≡ true = grind (arith, nat_tests, w.if-other-at.false) in
          record {
            same = w.self-is ∙ c.loop-other.invariant.same;
            rest =
                sym (cut_goes_on (is_cut_at s a t x c.args.remote.now c.args.local) y (length s.clusters) lt (own_cut s a t x c.args.remote.now c.args.local y own))
                ∙ c.loop-other.invariant.rest;
          }
    ]
