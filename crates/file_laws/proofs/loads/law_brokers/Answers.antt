use Rattle.file_laws.proofs.AnswerEntries.{node_some}
use Rattle.file_laws.proofs.Loading.{nodes_some}
use Rattle.file_laws.proofs.loads.law_brokers.Goals as goal

pub returns : goal.returns
returns c = record { broker = node_some; brokers = nodes_some }
