-- What a link brings can be stored: its size was judged.
use Rattle.std.proofs.Common.{◌≡◌, ℕ, ◌+◌, ◌≤◌, ◌==◌, Bool, true, false, arith}
use Rattle.std.specs.Prelude.{nat_le, if◌then◌else◌}
use Rattle.std.proofs.lemmas.Bool.Decides.{nat_tests}
use Rattle.geo_base.specs.declared.entry.Entry.{Entry}
use Rattle.geo_base.specs.Broker.{Site}
use Rattle.geo_base.specs.Entry.{with_origin}
use Rattle.geo_base.specs.Sizes.{entry_size, most_entry_size}
use Rattle.broker_plans.specs.Storable.{IsReadEntry, IsStorable}

limit_on : (own : Bool) (n : ℕ) → n ≤ 5242880 → n ≤ (if own then 5242880 + 1024 else 5242880)
limit_on true n h = omega (arith, h)
limit_on false n h = h

pub storable_within : (h : Site) (x : ℕ) (e : Entry) → IsReadEntry e → nat_le (entry_size h.clusters e) most_entry_size ≡ true → IsStorable h (with_origin x e)
storable_within h x e read small =
    let few : entry_size h.clusters e ≤ 5242880 = grind (arith, nat_tests, small) in
    record { read = record { rest = read.rest; marker = read.marker }; size = limit_on (x == h.own) (entry_size h.clusters e) few }
