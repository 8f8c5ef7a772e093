use Rattle.std.proofs.Common.{drop}
use Rattle.std.specs.List.{AllByRecursion}
use Rattle.broker_state.specs.Site.{IsNameLong}
use Rattle.broker_state.proofs.site.see_names.Given as goal

-- all are short where those are that are left
abbrev pub invariant-loop-name : goal.invariant-loop-name
invariant-loop-name l = AllByRecursion IsNameLong (drop l.name-index l.names) → AllByRecursion IsNameLong l.names
