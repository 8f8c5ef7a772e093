use Rattle.file_laws.proofs.AnswerEntries.{entries_some, entry_some, says_some, stored_some}
use Rattle.file_laws.proofs.loads.law_entries.Goals as goal

pub returns : goal.returns
returns c = record { metadata = says_some; stored = stored_some; entry = entry_some; entries = entries_some }
