use Rattle.topic_store.proofs.Tells.{tells_more}
use Rattle.topic_store.proofs.laws.law_table_with_one_more.Goals as goal

pub returns : goal.returns
returns c = tells_more
