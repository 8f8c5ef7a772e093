use Rattle.audit.proofs.audit_of.audit_named.Goals as goal

pub returns-clause-audited : goal.returns-clause-audited
returns-clause-audited c = rw c.in_ok-mirrors.ensures at c.read_all-audited.ensures.audited

pub returns-clause-refused : goal.returns-clause-refused
returns-clause-refused c = λ event rule is. rw c.in_ok-mirrors.ensures at c.read_all-audited.ensures.refused event rule is
