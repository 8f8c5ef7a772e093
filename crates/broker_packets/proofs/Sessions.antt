-- What comes in the open session is done, and what comes in another one is discarded.
use Rattle.std.proofs.Common.{◌≡◌, ℕ, ◌<◌, true, false, [], length, refl}
use Rattle.std.specs.Prelude.{◌==◌, if◌then◌else◌, Option, Some, None}
use Rattle.geo_base.specs.declared.frame.Frame.{Frame}
use Rattle.geo_base.specs.declared.session.Session.{Session}
use Rattle.geo_base.specs.Broker.{Broker, Site, session_at}
use Rattle.geo_base.specs.Plan.{Plan, quiet_plan, unless_found}
use Rattle.geo_base.specs.Serving.{serve_command}
use Rattle.broker_packets.specs.Serving.{IsOpen, is_in, open_at, serves_in, session_or}

open_of : (n : ℕ) (o : Option Session) → is_in n o ≡ true → o ≡ Some (session_or o)
open_of n None h = absurd cc
open_of n (Some s) h = refl

pub opened : (b : Broker) (c n : ℕ) → c < length b.sessions → is_in n (session_at b c) ≡ true → IsOpen b c
opened b c n within h = record { client = within; there = open_of n (session_at b c) h }

served_of : (n : ℕ) (o : Option Session) (f : Session → Plan) → is_in n o ≡ true → unless_found (quiet_plan []) o (λ s. if s.number == n then f s else quiet_plan []) ≡ f (session_or o)
served_of n None f h = absurd cc
served_of n (Some s) f h = rw h refl

other_of : (n : ℕ) (o : Option Session) (f : Session → Plan) → is_in n o ≡ false → unless_found (quiet_plan []) o (λ s. if s.number == n then f s else quiet_plan []) ≡ quiet_plan []
other_of n None f h = refl
other_of n (Some s) f h = rw h refl

pub served_in : (h : Site) (b : Broker) (c n : ℕ) (f : Frame) → is_in n (session_at b c) ≡ true → serves_in h b c n f ≡ serve_command h b c (open_at b c) f
served_in h b c n f there = served_of n (session_at b c) (λ s. serve_command h b c s f) there

pub not_in : (h : Site) (b : Broker) (c n : ℕ) (f : Frame) → is_in n (session_at b c) ≡ false → serves_in h b c n f ≡ quiet_plan []
not_in h b c n f other = other_of n (session_at b c) (λ s. serve_command h b c s f) other
