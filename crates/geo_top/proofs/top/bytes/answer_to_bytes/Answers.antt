use Rattle.geo_top.proofs.top.bytes.answer_to_bytes.Goals as goal

pub returns-in-Resume-clause-answer : goal.returns-in-Resume-clause-answer
returns-in-Resume-clause-answer c = rw c.in-Resume.is (rw c.as_slice.ensures at c.answer_to_file.ensures)

pub returns-in-LostOn-clause-answer : goal.returns-in-LostOn-clause-answer
returns-in-LostOn-clause-answer c = rw c.in-LostOn.is (rw c.as_slice-in-LostOn.ensures at (rw c.as_bytes-in-LostOn.ensures at c.answer_to_losing_on.ensures))
