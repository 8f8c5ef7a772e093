-- What a broker answers on a client's link (CommandError and CommandSendError; which refusal has which code is own).
use Rattle.std.specs.Prelude.{ℕ, List, []}
use Rattle.geo_base.specs.Types.{Frame, Out, Session}
use Rattle.geo_base.specs.Types.frame
use Rattle.geo_base.specs.Types.peer
use Rattle.geo_base.specs.Link.{sends}
use Rattle.geo_base.specs.Plan.{Plan, plan_of}

-- ServerError of PulsarApi.proto
abbrev pub unknown_error : ℕ
unknown_error = 0

abbrev pub consumer_busy : ℕ
consumer_busy = 5

abbrev pub consumer_not_found : ℕ
consumer_not_found = 13

abbrev pub producer_busy : ℕ
producer_busy = 16

-- to client c, in its session
abbrev pub answer : ℕ → Session → Frame → List Out
answer c s f = sends (peer.Client c) s.number f

-- an answer that changes nothing
abbrev pub answers : ℕ → Session → Frame → Plan
answers c s f = plan_of [] [] (answer c s f)

abbrev pub refuses : ℕ → Session → ℕ → ℕ → Plan
refuses c s request code = answers c s (frame.Error request code)

abbrev pub succeeds : ℕ → Session → ℕ → List Out
succeeds c s request = answer c s (frame.Success request)
