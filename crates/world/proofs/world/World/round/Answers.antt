use Rattle.std.proofs.Common.{◌≡◌, ◌+◌, ◌≤◌, ap, subst, sym, ◌∙◌}
use Rattle.std.proofs.lemmas.Result.{err_from_is_err_and}
use Rattle.std.proofs.Common.{List}
use Rattle.geo_base.specs.Broker.{Broker}
use Rattle.world_laws.specs.Starts.{most_at_start}
use Rattle.world.specs.World.{WorldView, kept_of}
use Rattle.world.proofs.Observing.{round_counted, round_past, round_still}
use Rattle.world.proofs.SettlingSteps.{counted_at, counted_few}
use Rattle.world.proofs.SettlingKnown.{round_known}
use Rattle.world.proofs.world.World.round.Goals as goal

pub settle_each-requires-clause-each : goal.settle_each-requires-clause-each
settle_each-requires-clause-each g c = round_known c.args.scenario.now.setup c.args.round.now c.requires.round

pub returns-in_err-settle_each-clause-sees : goal.returns-in_err-settle_each-clause-sees
returns-in_err-settle_each-clause-sees g c =
    let p = err_from_is_err_and c.from_residual.result c.from_residual.ensures.1 in let seen = g.O.Observer.seen in
    λ r all h. rw (p.1, p.2) (round_past g.O.Observer.sight c.args.scenario.now.setup c.args.self.now c.settle_each.new.self (seen c.args.observer.now) (seen c.settle_each.new.observer) c.args.round.now r all
    c.settle_each.result c.in_err-settle_each.field-0.0 c.requires.round c.in_err-settle_each.was c.settle_each.ensures.sees h)

pub returns-then-self-before-clause-sees : goal.returns-then-self-before-clause-sees
returns-then-self-before-clause-sees g c =
    let quiet = sym (ap (λ (b : WorldView). b.events) c.self-2.view_is) ∙ c.if-self-before.true ∙ ap (λ (b : WorldView). b.events) c.self.view_is in let seen = g.O.Observer.seen in
    λ r all h. round_still g.O.Observer.sight c.args.scenario.now.setup c.args.self.now c.settle_each.new.self (seen c.args.observer.now) (seen c.settle_each.new.observer) c.args.round.now r all
    c.settle_each.result c.in_ok-settle_each.field-0 c.requires.round c.in_ok-settle_each.was c.settle_each.ensures.sees quiet h

pub counts_round-requires : goal.counts_round-requires
counts_round-requires g c =
    let busy : c.settle_each.new.self.events ≡ c.args.self.now.events → ⊥ = λ e. c.if-self-before.false (ap (λ (b : WorldView). b.events) c.self-2.view_is ∙ e ∙ sym (ap (λ (b : WorldView). b.events) c.self.view_is)) in
    let few : c.args.self.now.rounds ≤ most_at_start + c.args.self.now.events = subst (λ (b : WorldView). b.rounds ≤ most_at_start + b.events) c.self.view_is c.self.invariant.rounds in
    record { within = c.settle_each.ensures.at.within; few = counted_few c.args.self.now c.settle_each.new.self few c.settle_each.ensures.later busy }

pub returns-clause-sees : goal.returns-clause-sees
returns-clause-sees g c =
    let busy : c.settle_each.new.self.events ≡ c.args.self.now.events → ⊥ = λ e. c.if-self-before.false (ap (λ (b : WorldView). b.events) c.self-2.view_is ∙ e ∙ sym (ap (λ (b : WorldView). b.events) c.self.view_is)) in
    let seen = g.O.Observer.seen in
    λ r all h. round_counted g.O.Observer.sight c.args.scenario.now.setup c.args.self.now c.settle_each.new.self c.counts_round.new.self (seen c.args.observer.now) (seen c.settle_each.new.observer) c.args.round.now r all
    c.settle_each.result c.in_ok-settle_each.field-0 c.requires.round c.in_ok-settle_each.was c.settle_each.ensures.sees c.settle_each.ensures.later busy c.counts_round.ensures h

pub returns-clause-at : goal.returns-clause-at
returns-clause-at g c = counted_at c.args.scenario.now.setup c.settle_each.new.self c.counts_round.new.self c.settle_each.ensures.at c.counts_round.ensures

pub returns-clause-knows : goal.returns-clause-knows
returns-clause-knows g c =
    subst (λ (bs : List Broker). g.O.Observer.knows c.settle_each.new.observer c.args.scenario.now.setup bs) (sym (ap (λ (b : WorldView). (kept_of b).brokers) c.counts_round.ensures)) c.in_ok-settle_each.ensures.knows
