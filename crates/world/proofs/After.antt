-- Where a step leads, the next one can begin.
use Rattle.std.proofs.Common.{◌≡◌, ℕ, ◌+◌, Bool, true, false, refl, sym, ◌∙◌, arith}
use Rattle.std.proofs.lemmas.Bool.Decides.{nat_tests}
use Rattle.std.proofs.lemmas.Option.{none-some}
use Rattle.std.specs.Prelude.{None, Ok, Err, OnErr, nat_lt}
use Rattle.geo_base.specs.declared.event.Event.{Event}
use Rattle.geo_base.specs.Happening.{halts_planned, happens}
use Rattle.geo_base.specs.Planned.{planned}
use Rattle.geo_base.specs.Setup.{Setup}
use Rattle.geo_base.specs.World.{World}
use Rattle.kept_laws.proofs.Keeping.{counts}
use Rattle.kept_laws.specs.Standing.{Stands, limit_of}
use Rattle.kept_laws.proofs.Reaching.{event_reached, halt_reached}
use Rattle.kept_laws.specs.Reached.{Reached}
use Rattle.world.specs.Steps.{Leads}
use Rattle.world.specs.World.{AreNodes, IsAt, IsWithin, SameWorld, WorldView, kept_of}
use Rattle.world.proofs.Leading.{Answer}
use Rattle.world.proofs.Limits.{by_tests}
use Rattle.world.proofs.Places.{at_same}

both_false : (x y : Bool) → by_tests x y ≡ None → (x ≡ false) × (y ≡ false)
both_false true y is = absurd (none-some {A = ℕ} 2 (sym is))
both_false false true is = absurd (none-some {A = ℕ} 3 (sym is))
both_false false false is = (refl, refl)

within_by : (b : WorldView) → limit_of b.events b.idle b.frame_bytes ≡ None → IsWithin b
within_by b is =
    let low = both_false (nat_lt 2000000 (b.events + b.idle)) (nat_lt 1073741824 b.frame_bytes) is in
    let few : nat_lt 2000000 (b.events + b.idle) ≡ false = low.0 in let short : nat_lt 1073741824 b.frame_bytes ≡ false = low.1 in
    record { few = grind (arith, nat_tests, few); short = grind (arith, nat_tests, short) }

pub after : (s : Setup) (old new : WorldView) (next : World → World) (r : Answer) → IsAt s old
    → ((w : World) → Reached s w → Stands s (kept_of old) w → Leads s old new (next w) r) → ((w : World) → Reached s w → Reached s (next w))
    → AreNodes s new.brokers → OnErr r (SameWorld old new) → IsAt s new
after s old new next (Err f) h leads reaches brokers same = at_same s old new h same
after s old new next (Ok unit) h leads reaches brokers same =
    let w = h.world in let led = (leads w h.reached h.stands).done in
    record {
      setup = h.setup;
      brokers = brokers;
      world = next w;
      reached = reaches w h.reached;
      stands = led.0;
      within = within_by new (sym (counts s (kept_of new) (next w) led.0) ∙ led.1);
    }

pub after_event : (s : Setup) (old new : WorldView) (e : Event) (r : Answer) → IsAt s old
    → ((w : World) → Reached s w → Stands s (kept_of old) w → Leads s old new (happens s w e) r) → AreNodes s new.brokers → OnErr r (SameWorld old new) → IsAt s new
after_event s old new e r h leads brokers same = after s old new (λ w. happens s w e) r h leads (λ w reached. event_reached s w e reached) brokers same

pub after_halt : (s : Setup) (old new : WorldView) (k : ℕ) (e : Event) (r : Answer) → IsAt s old
    → ((w : World) → Reached s w → Stands s (kept_of old) w → Leads s old new (halts_planned s w k (planned s w e)) r) → AreNodes s new.brokers → OnErr r (SameWorld old new) → IsAt s new
after_halt s old new k e r h leads brokers same = after s old new (λ w. halts_planned s w k (planned s w e)) r h leads (λ w reached. halt_reached s w k e reached) brokers same

pub err_same : (old new : WorldView) (r : Answer) → OnErr r (new ≡ old) → OnErr r (SameWorld old new)
err_same old new (Ok unit) is = tt
err_same old new (Err f) is = rw is (record { kept = refl; brokers = λ s h. h })
