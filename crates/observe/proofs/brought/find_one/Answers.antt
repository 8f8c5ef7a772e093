use Rattle.std.proofs.Common.{◌≡◌, ◌==◌, true, false, ap, arith, sym, ◌∙◌}
use Rattle.std.specs.Prelude.{length}
use Rattle.std.proofs.lemmas.Bool.Decides.{nat_tests}
use Rattle.std.proofs.lemmas.Option.{same_Some}
use Rattle.geo_base.specs.declared.entry.Entry.{Entry}
use Rattle.observe.proofs.Each.{item_at}
use Rattle.observe.proofs.Walking.{nowhere_found, other_found}
use Rattle.observe.proofs.brought.find_one.Goals as goal

pub returns-then-entries-index-clause-found : goal.returns-then-entries-index-clause-found
returns-then-entries-index-clause-found c = λ e at.
    let w = c.args.way in let r : Entry = c.index-entries-index.result in
    let here = w.here.now.topic.entries in
    let is : e ≡ r = same_Some e r (sym at ∙ item_at here c.entries.result.now c.args.index r c.entries.ensures (omega (arith, c.requires, ap length c.entries.ensures)) c.index-entries-index.is) in
    let other : (e.ident.origin == w.origin) ≡ false = grind (arith, nat_tests, c.if-entries-index.true, is) in
    other_found w.at.topic w.origin w.at.cluster here w.there.now.topic.entries c.args.found.now.items c.args.from c.args.index e other

pub returns-in_ok-push-in-None-clause-found : goal.returns-in_ok-push-in-None-clause-found
returns-in_ok-push-in-None-clause-found c = λ e at.
    let w = c.args.way in let r : Entry = c.index-entries-index.result in
    let here = w.here.now.topic.entries in
    let is : e ≡ r = same_Some e r (sym at ∙ item_at here c.entries.result.now c.args.index r c.entries.ensures (omega (arith, c.requires, ap length c.entries.ensures)) c.index-entries-index.is) in
    let own : (e.ident.origin == w.origin) ≡ true = grind (arith, nat_tests, c.if-entries-index.false, is) in
    nowhere_found w.at.topic w.origin w.at.cluster here w.there.now.topic.entries c.args.found.now.items c.push.new.self.items c.args.from c.args.index e own (sym (c.source_of.ensures.source e at) ∙ c.in-None.is) c.in_ok-push-in-None.ensures.items
