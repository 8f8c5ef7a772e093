use Rattle.broker.proofs.Inputs.{read_alone}
use Rattle.broker.proofs.preparing.prepare_taking.Goals as goal

pub returns-in_ok-said-in_default : goal.returns-in_ok-said-in_default
returns-in_ok-said-in_default c =
    record {
      prepared =
          read_alone c.args.state.now.site c.site.result.now c.args.names.now c.args.state.now.broker c.args.event.now c.args.packet.now _ c.prepare.new.plan c.prepare.result
          c.in_default.not-Serve c.in_default.not-Take c.in_default.not-Receipt c.site.ensures.value c.in_ok-said-in_default.ensures.said c.prepare.ensures.prepared;
      room = c.prepare.ensures.room;
      kept = c.prepare.ensures.kept;
    }
