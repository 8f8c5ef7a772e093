use Rattle.geo_top.proofs.summary.append_summary.Goals as goal

pub returns-clause-ok : goal.returns-clause-ok
returns-clause-ok c = rw (← c.in_ok-add_summary.ensures) (rw c.as_slice.ensures at c.append.ensures.ok)
