use Rattle.state_file.proofs.saving.body_of.Goals as goal

pub put_nodes-requires-clause-can : goal.put_nodes-requires-clause-can
put_nodes-requires-clause-can c = rw c.as_slice.ensures.value c.requires
