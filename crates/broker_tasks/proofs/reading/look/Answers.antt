use Rattle.broker_tasks.proofs.Entries.{short_marker}
use Rattle.broker_tasks.proofs.reading.look.Goals as goal

pub read_marker-requires-clause-short : goal.read_marker-requires-clause-short
read_marker-requires-clause-short c =
    short_marker c.args.state.now.site c.args.state.now.broker c.args.at.remote c.args.at.index c.marker_at.result.now c.requires.reading c.requires.marker c.requires.can.kept c.marker_at.ensures
