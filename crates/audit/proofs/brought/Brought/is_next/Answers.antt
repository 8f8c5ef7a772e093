use Rattle.std.proofs.Common.{◌≡◌, ◌∙◌, true, false, ap, arith, length, subst, sym}
use Rattle.std.specs.Prelude.{Some, slice_get}
use Rattle.geo_base.specs.declared.entry.Entry.{Entry}
use Rattle.geo_base.specs.Laws.{of_origin, outbound}
use Rattle.audit.specs.Brought.{AreBrought, BroughtHere}
use Rattle.audit.specs.Stored.{is_same_at}
use Rattle.audit.specs.declared.brought.Route.{Route}
use Rattle.audit.proofs.Bringing.{first_is_next, none_is_next}
use Rattle.audit.proofs.EntryAcks.{some_at}
use Rattle.audit.proofs.brought.Brought.is_next.Goals as goal
use Rattle.audit.proofs.brought.Brought.is_next.Goals.{in-None, in-Some}

pub returns-clause-next : goal.returns-clause-next
returns-clause-next c =
    let here = c.args.here.now in let there = c.args.there.now in let e : Entry = c.args.entry.now in
    let b : BroughtHere = record { route = c.self.inside.route; seen = c.self.inside.seen; passed = c.self.inside.passed } in
    let done : c.extend.result ≡ true = grind (arith, c.if-not-extend.false) in
    let brought : AreBrought here there b = subst (AreBrought here there) (sym c.self.view_is) c.extend.ensures.brought in
    let all : b.seen ≡ length here = ap (λ (q : BroughtHere). q.seen) c.self.view_is ∙ c.extend.ensures.reached done in
    let route : b.route ≡ c.args.self.now.route = ap (λ (q : BroughtHere). q.route) c.self.view_is ∙ c.extend.ensures.route in
    elim c.match-first_from.branch [
      | in-None w ↦
          w.result-is
          ∙ subst (λ (r : Route). false ≡ is_same_at e (slice_get (outbound r.origin r.own there) (length (of_origin r.origin here)))) route
          (none_is_next here there b e brought all w.in-None.ensures)
      | in-Some w ↦
          let f : Entry = w.index-there-index.result in
          let first = w.in-Some.ensures in
          let at : slice_get there w.in-Some.index ≡ Some f = some_at there w.in-Some.index f first.within ∙ ap Some (sym w.index-there-index.is) in
          w.result-is
          ∙ (w.is_same_entry.ensures
          ∙ subst (λ (r : Route). is_same_at e (Some f) ≡ is_same_at e (slice_get (outbound r.origin r.own there) (length (of_origin r.origin here)))) route
          (first_is_next here there b e f w.in-Some.index brought all first at))
    ]
