use Rattle.std.proofs.Common.{◌≡◌, ◌≤◌, ◌<◌, ◌∙◌, ◌==◌, true, ap, arith, length, subst, sym}
use Rattle.std.specs.Prelude.{Some, slice_get}
use Rattle.std.proofs.lemmas.Bool.Decides.{nat_tests}
use Rattle.geo_base.specs.declared.entry.Entry.{Entry}
use Rattle.geo_base.specs.Laws.{of_origin, outbound}
use Rattle.audit.specs.Brought.{AreBrought, BroughtHere}
use Rattle.audit.proofs.Bringing.{is_of, more_here, one_brought}
use Rattle.audit.proofs.EntryAcks.{some_at}
use Rattle.audit.proofs.brought.Brought.step.Goals as goal

pub returns-in-None-clause-more : goal.returns-in-None-clause-more
returns-in-None-clause-more c = λ gone.
    let here = c.args.here.now in let there = c.args.there.now in
    let b : BroughtHere = record { route = c.self.inside.route; seen = c.self.inside.seen; passed = c.self.inside.passed } in
    let brought : AreBrought here there b = subst (AreBrought here there) (sym c.self.view_is) c.requires.brought in
    subst (λ (q : BroughtHere). length (outbound q.route.origin q.route.own there) ≤ length (of_origin q.route.origin here)) c.self.view_is (more_here here there b brought c.in-None.ensures)

pub returns-in-Some-clause-brought : goal.returns-in-Some-clause-brought
returns-in-Some-clause-brought c =
    let here = c.args.here.now in let there = c.args.there.now in let e : Entry = c.index-here-self.result in
    let b : BroughtHere = record { route = c.self.inside.route; seen = c.self.inside.seen; passed = c.self.inside.passed } in
    let brought : AreBrought here there b = subst (AreBrought here there) (sym c.self.view_is) c.requires.brought in
    let within : b.seen < length here = subst (λ (q : BroughtHere). q.seen < length here) (sym c.self.view_is) c.requires.within in
    let at : slice_get here b.seen ≡ Some e = some_at here b.seen e within ∙ ap Some (sym c.index-here-self.is) in
    let own : is_of b.route.origin e ≡ true = grind (arith, nat_tests, c.if-here-self.false) in
    one_brought here there b e c.in-Some.index brought at own c.in-Some.ensures
