use Rattle.std.proofs.Common.{◌≡◌, ◌++◌, take, drop}
use Rattle.std.specs.List.{list_any}
use Rattle.geo_base.specs.Getting.{publishes, without_seq}
use Rattle.client.proofs.client.getting.first_publish.Given as goal

-- no index before the place is of such a line
abbrev pub invariant-loop-at : goal.invariant-loop-at
invariant-loop-at l = record {
  any : list_any (publishes l.site.declared l.seq) l.unanswered ≡ list_any (publishes l.site.declared l.seq) (drop l.at l.unanswered);
  rest : without_seq l.site.declared l.unanswered l.seq ≡ take l.at l.unanswered ++ without_seq l.site.declared (drop l.at l.unanswered) l.seq;
}
