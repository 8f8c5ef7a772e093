use Rattle.frame_values.proofs.Writing.{simple_answered, simple_complete, simple_refused}
use Rattle.frame_values.proofs.write.simple_text.Goals as goal

pub write_frame-text-requires : goal.write_frame-text-requires
write_frame-text-requires c = simple_complete c.args.frame.now c.in_ok-command.command c.requires.simple c.in_ok-command.ensures

pub returns-clause-written : goal.returns-clause-written
returns-clause-written c =
    simple_answered c.args.names.now c.args.frame.now c.in_ok-command.command c.write_frame-text.result c.requires.simple c.in_ok-command.ensures c.write_frame-text.ensures.canonical c.write_frame-text.ensures.text

pub returns-clause-fault : goal.returns-clause-fault
returns-clause-fault c =
    simple_refused c.args.names.now c.args.frame.now c.in_ok-command.command c.write_frame-text.result c.requires.simple c.requires.readable c.in_ok-command.ensures c.write_frame-text.ensures.fault
