use Rattle.std.proofs.Common.{subst, sym}
use Rattle.std.specs.Prelude.{Option}
use Rattle.pulsar_frames.specs.declared.frame.Body.{Body}
use Rattle.frame_values.specs.Values.{Says}
use Rattle.frame_values.proofs.Entries.{carrying_rest, says_is}
use Rattle.frame_values.proofs.read.value_of.Goals as goal

pub returns-in-None-clause-value : goal.returns-in-None-clause-value
returns-in-None-clause-value c =
    subst (λ (o : Option Body). Says c.args.names.now c.args.frame.command o c.simple_frame.result) (sym c.in-None.is) c.simple_frame.ensures.value

pub returns-in-Ok-clause-value : goal.returns-in-Ok-clause-value
returns-in-Ok-clause-value c =
    says_is c.args.names.now c.args.frame.command c.args.frame.body c.in-Some.body c.carrying.result c.in-Ok.field-0.source c.in-Ok.field-0.entry c.in-Some.is c.carrying.ensures
    c.in-Ok.ensures.is

pub returns-in-Ok-clause-rest : goal.returns-in-Ok-clause-rest
returns-in-Ok-clause-rest c = carrying_rest c.args.frame.command c.in-Ok.field-0.source c.in-Ok.field-0.entry c.carrying.result c.carrying.ensures c.in-Ok.ensures.rest
