-- A client's session that is open, and what comes in it.
use Rattle.std.specs.Prelude.{◌≡◌, ℕ, ◌<◌, ◌==◌, Bool, true, false, if◌then◌else◌, [], length, Option, Some, None}
use Rattle.geo_base.specs.declared.frame.Frame.{Frame}
use Rattle.geo_base.specs.declared.frame.Frame.TheVariants as frame
use Rattle.geo_base.specs.declared.session.Session.{Session}
use Rattle.geo_base.specs.Answers.{answer}
use Rattle.geo_base.specs.Broker.{Broker, Site, session_at}
use Rattle.geo_base.specs.Plan.{Plan, plan_of, quiet_plan, unless_found}
use Rattle.geo_base.specs.Serving.{serve_command, session_becomes}

-- what stands where none is open means nothing
abbrev pub session_or : Option Session → Session
session_or None = record { number = 0; producers = [] }
session_or (Some s) = s

abbrev pub open_at : Broker → ℕ → Session
open_at b c = session_or (session_at b c)

-- client c has a session open at the broker
pub record IsOpen (b : Broker) (c : ℕ) : Type 0 where
  pub client : c < length b.sessions
  pub there : session_at b c ≡ Some (open_at b c)

-- a session of this number is open
abbrev pub is_in : ℕ → Option Session → Bool
is_in number None = false
is_in number (Some s) = s.number == number

abbrev pub connected : ℕ → Session
connected number = record { number = number; producers = [] }

-- a client connects, in a session of this number
abbrev pub connects : ℕ → ℕ → Plan
connects c number = plan_of [] (session_becomes c (Some (connected number))) (answer c (connected number) frame.Connected)

-- a frame in a session of this number
abbrev pub serves_in : Site → Broker → ℕ → ℕ → Frame → Plan
serves_in h b c number f =
    unless_found (quiet_plan []) (session_at b c) (λ s. if s.number == number then serve_command h b c s f else quiet_plan [])

-- a command of a producer
abbrev pub is_producers : Frame → Bool
is_producers (frame.Producer topic id request n) = true
is_producers (frame.Send id seq source e) = true
is_producers (frame.CloseProducer id request) = true
is_producers f = false

-- a command by which a consumer comes or goes
abbrev pub is_consumers : Frame → Bool
is_consumers (frame.Subscribe topic n kind id request consumer earliest replicated) = true
is_consumers (frame.Unsubscribe id request) = true
is_consumers (frame.CloseConsumer id request) = true
is_consumers f = false
