use Rattle.script_text.proofs.AllBack.{written_reads}
use Rattle.script_text.proofs.canonical.write_declarations.Goals as goal

pub returns-clause-back : goal.returns-clause-back
returns-clause-back c =
    written_reads c.args.scenario.now c.written-text.result c.in_ok-names.ensures.whole c.written-text.ensures
