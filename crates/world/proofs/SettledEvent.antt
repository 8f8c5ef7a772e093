-- An event of settling leads to the machine's world after it, where it is not counted if it is idle.
use Rattle.std.proofs.Common.{◌≡◌, ℕ, ◌+◌, Bool, true, false, refl, sym, ◌∙◌, ap, subst, arith}
use Rattle.std.proofs.lemmas.Bool.Decides.{nat_tests}
use Rattle.std.specs.Prelude.{None, Ok, Err, nat_lt}
use Rattle.geo_base.specs.declared.event.Event.{Event}
use Rattle.geo_base.specs.Happening.{happens}
use Rattle.geo_base.specs.Run.{all_limits}
use Rattle.geo_base.specs.Setup.{Setup}
use Rattle.geo_base.specs.World.{World}
use Rattle.kept_laws.proofs.Keeping.{counts}
use Rattle.kept_laws.specs.Kept.{Kept, idled}
use Rattle.kept_laws.specs.Standing.{Stands, limit_of}
use Rattle.world.specs.declared.fault.RunFault.{RunFault}
use Rattle.world.specs.declared.fault.RunFault.TheVariants as fault
use Rattle.world.specs.Settling.{settled_by}
use Rattle.world.specs.Steps.{Acts, IsLater, Leads}
use Rattle.world.specs.World.{IsAt, IsWithin, WorldView, kept_of}
use Rattle.world.proofs.Acting.{same_limit}
use Rattle.world.proofs.Halting.{ok_err}
use Rattle.world.proofs.Leading.{wants}
use Rattle.world.proofs.Limits.{by_tests}

-- the machine puts its count of idle events back
idle_back : (s : Setup) (k : Kept) (w : World) (m n : ℕ) → Stands s k w → m ≡ n → Stands s (record k { idle = m }) (record w { idle = n })
idle_back s k w m n h is = record {
  brokers = h.brokers;
  clients = h.clients;
  links = h.links;
  broker_clocks = h.broker_clocks;
  client_clocks = h.client_clocks;
  events = h.events;
  idle = is;
  rounds = h.rounds;
  frame_bytes = h.frame_bytes;
}

-- which for one that is not idle it did not change
uncounted : (s : Setup) (w : World) (e : Event) → (happens s w e).idle ≡ w.idle → settled_by s w e ≡ happens s w e
uncounted s w e is = subst (λ (n : ℕ). record (happens s w e) { idle = n } ≡ happens s w e) is refl

still_within : (b : WorldView) → IsWithin b → limit_of b.events b.idle b.frame_bytes ≡ None
still_within b h =
    let few : nat_lt 2000000 (b.events + b.idle) ≡ false = grind (arith, nat_tests, h.few) in
    let short : nat_lt 1073741824 b.frame_bytes ≡ false = grind (arith, nat_tests, h.short) in
    ap (λ (c : Bool). by_tests c (nat_lt 1073741824 b.frame_bytes)) few ∙ ap (λ (c : Bool). by_tests false c) short

pub settles_acted : (s : Setup) (old new : WorldView) (w : World) (e : Event) (enabled : Bool) → Acts s old new (happens s w e) (Ok enabled) → IsLater old new → IsAt s new
    → Stands s (kept_of old) w → Leads s old new (settled_by s w e) (Ok tt)
settles_acted s old new w e true acts later at stands = record {
  done = subst (λ (v : World). Stands s (kept_of new) v × (all_limits v ≡ None)) (sym (uncounted s w e (sym acts.0.idle ∙ later.idle ∙ stands.idle))) acts;
  large = λ i no. absurd (ok_err tt (fault.TooLarge i) no);
}
settles_acted s old new w e false acts later at stands =
    let still : Stands s (kept_of new) (settled_by s w e) = idle_back s (idled (kept_of new)) (happens s w e) new.idle w.idle acts (later.idle ∙ stands.idle) in
    record {
      done = (still, counts s (kept_of new) (settled_by s w e) still ∙ still_within new at.within);
      large = λ i no. absurd (ok_err tt (fault.TooLarge i) no);
    }

pub settles_failed : (s : Setup) (old new : WorldView) (w : World) (e : Event) (f : RunFault) → Acts s old new (happens s w e) (Err f) → Stands s (kept_of old) w
    → Leads s old new (settled_by s w e) (Err f)
settles_failed s old new w e (fault.TooLarge n) acts stands = record {
  done = tt;
  large = λ i is. ap (λ (v : World). all_limits v) (uncounted s w e (acts.0 ∙ stands.idle)) ∙ acts.1 ∙ same_limit n i is;
}
settles_failed s old new w e fault.Memory acts stands = wants s old new (settled_by s w e)
