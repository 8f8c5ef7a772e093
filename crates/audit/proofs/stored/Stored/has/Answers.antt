use Rattle.std.proofs.Common.{sym}
use Rattle.audit.proofs.Tables.{stands}
use Rattle.audit.proofs.stored.Stored.has.Goals as goal

pub returns-in-Some : goal.returns-in-Some
returns-in-Some c = sym (stands c.args.entry.now c.args.self.now.entries c.in-Some.field-0 (rw c.in-Some.is at c.in_ok-place_of.ensures))
