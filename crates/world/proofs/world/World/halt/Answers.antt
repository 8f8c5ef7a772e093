use Rattle.std.proofs.Common.{ap, ◌∙◌}
use Rattle.std.proofs.lemmas.Result.{err_from_is_err_and}
use Rattle.geo_base.specs.World.{node}
use Rattle.world.specs.declared.broker_ref.BrokerRef.{BrokerRef}
use Rattle.world.proofs.Halting.{at_halted, leads_halted, leads_large, same_still}
use Rattle.world.proofs.Leading.{wants}
use Rattle.world.proofs.Places.{at_same, at_within, cluster_below, number_below, number_of, number_rises, topic_below}
use Rattle.world.proofs.world.World.halt.Goals as goal

pub node_number-number-requires : goal.node_number-number-requires
node_number-number-requires c =
    let s = c.args.scenario.now.setup in let e = c.args.event.now in let broker_ref = c.broker_ref-broker_ref.result in
    record {
      topic = topic_below s c.args.self.now e broker_ref.topic c.requires.at c.requires.broker c.requires.scripted (ap (λ (a : BrokerRef). a.topic) c.broker_ref-broker_ref.ensures);
      cluster = cluster_below s e broker_ref.cluster c.requires.broker c.requires.scripted (ap (λ (a : BrokerRef). a.cluster) c.broker_ref-broker_ref.ensures);
    }

pub one_more-requires : goal.one_more-requires
one_more-requires c = at_within c.args.scenario.now.setup c.args.self.now c.requires.at

pub returns-in_err-one_more : goal.returns-in_err-one_more
returns-in_err-one_more c =
    let s = c.args.scenario.now.setup in let old = c.args.self.now in
    let p = err_from_is_err_and c.from_residual.result c.from_residual.ensures.1 in
    record {
      leads = λ w reached stands.
          rw (p.1, p.2) (leads_large s old old w c.args.event.now c.args.writes c.in_err-one_more.field-0.0 c.requires.broker c.requires.scripted stands c.in_err-one_more.ensures.large);
      at = c.requires.at;
      err = rw p.1 (same_still old);
    }

pub stop_at-requires : goal.stop_at-requires
stop_at-requires c =
    let s = c.args.scenario.now.setup in let old = c.args.self.now in let e = c.args.event.now in let n = c.node_number-number.result in
    let number = c.node_number-number.ensures ∙ ap (λ (a : BrokerRef). node s a.topic a.cluster) c.broker_ref-broker_ref.ensures in
    record {
      node = number_below s old e n c.requires.at c.requires.broker c.requires.scripted number;
      of = number_of s old e n c.requires.at c.requires.broker c.requires.scripted number;
      numbers = number_rises s old e n c.requires.at c.requires.broker c.requires.scripted number;
      count = c.in_ok-one_more.ensures.fits;
    }

pub returns-in_err-stop_at : goal.returns-in_err-stop_at
returns-in_err-stop_at c =
    let s = c.args.scenario.now.setup in let old = c.args.self.now in let new = c.stop_at.new.self in let same = c.in_err-stop_at.ensures.err in
    let p = err_from_is_err_and c.from_residual-in_err-stop_at.result c.from_residual-in_err-stop_at.ensures.1 in
    record {
      leads = λ w reached stands. rw (p.1, p.2) (wants s old new _);
      at = at_same s old new c.requires.at same;
      err = rw p.1 same;
    }

pub returns : goal.returns
returns c =
    let s = c.args.scenario.now.setup in let old = c.args.self.now in let new = c.stop_at.new.self in let e = c.args.event.now in
    let broker_ref = c.broker_ref-broker_ref.result in let n = c.node_number-number.result in
    let number = c.node_number-number.ensures ∙ ap (λ (a : BrokerRef). node s a.topic a.cluster) c.broker_ref-broker_ref.ensures in
    record {
      leads = λ w reached stands.
          leads_halted s old new w e broker_ref n c.args.writes tt c.requires.at c.requires.broker c.requires.scripted c.broker_ref-broker_ref.ensures number reached stands
          c.in_ok-stop_at.ensures.ok c.in_ok-one_more.ensures.within;
      at =
          at_halted s old new e broker_ref n c.args.writes c.requires.at c.requires.broker c.requires.scripted c.broker_ref-broker_ref.ensures number
          c.in_ok-stop_at.ensures.ok c.in_ok-one_more.ensures.within;
      err = tt;
    }
