-- serve: a broker takes the next packet of a client. drop: it closes the client's session.
use Rattle.std.specs.Prelude.{ℕ, ◌==◌, if◌then◌else◌, List, [], ◌∷◌, Option, Some, None}
use Rattle.geo_base.specs.Types.{Change, Frame, Packet, Session}
use Rattle.geo_base.specs.Types.change
use Rattle.geo_base.specs.Types.frame
use Rattle.geo_base.specs.Acknowledging.{serve_ack}
use Rattle.geo_base.specs.Answers.{answer, answers}
use Rattle.geo_base.specs.Broker.{Broker, Site, session_at}
use Rattle.geo_base.specs.Plan.{Plan, idle_plan, plan_of, quiet_plan, unless_found}
use Rattle.geo_base.specs.Producing.{name_with, serve_close_producer, serve_producer, serve_send}
use Rattle.geo_base.specs.Subscribing.{consumed_by, serve_close_consumer, serve_flow, serve_subscribe, serve_unsubscribe}

-- a session ends, or another one begins, and what the client had is detached
abbrev pub session_becomes : ℕ → Option Session → List Change
session_becomes c s = change.Detach c ∷ change.Client c s ∷ []

-- a command of the open session; one that this link does not carry closes it, without an answer (own:
-- PulsarApi.proto leaves it open)
abbrev pub serve_command : Site → Broker → ℕ → Session → Frame → Plan
serve_command h b c s (frame.Producer topic id request n) = serve_producer h b c s topic id request n
serve_command h b c s (frame.Send id seq source e) = serve_send h b c s id seq source e (name_with id s.producers)
serve_command h b c s (frame.CloseProducer id request) = serve_close_producer c s id request
serve_command h b c s (frame.Subscribe topic n kind id request consumer earliest replicated) =
    serve_subscribe h b c s topic n kind id request earliest replicated
serve_command h b c s (frame.Flow id permits) = serve_flow c permits (consumed_by b.subs c id)
serve_command h b c s (frame.Ack id kind ps) = serve_ack h b kind ps (consumed_by b.subs c id)
serve_command h b c s (frame.Unsubscribe id request) = serve_unsubscribe c s request (consumed_by b.subs c id)
serve_command h b c s (frame.CloseConsumer id request) = serve_close_consumer c s request (consumed_by b.subs c id)
serve_command h b c s frame.Ping = answers c s frame.Pong
serve_command h b c s frame.Pong = quiet_plan []
serve_command h b c s f = quiet_plan (session_becomes c None)

-- The first of these that applies holds (own). CONNECT opens the packet's session: it comes first, since no session is open
-- before it. A frame that cannot be read closes whatever is open: nobody can tell what it asked, so nothing after it may
-- count. What comes in another session is discarded: it was sent on a connection that has ended. Then the command is done
abbrev pub serve_frame : Site → Broker → ℕ → Packet → Frame → Plan
serve_frame h b c p frame.Connect =
    let s : Session = record { number = p.session; producers = [] } in
    plan_of [] (session_becomes c (Some s)) (answer c s frame.Connected)
serve_frame h b c p frame.Unreadable = quiet_plan (session_becomes c None)
serve_frame h b c p f =
    unless_found (quiet_plan []) (session_at b c) (λ s. if s.number == p.session then serve_command h b c s p.frame else quiet_plan [])

unfoldable pub serve : Site → Broker → ℕ → Option Packet → Plan
serve h b c next = unless_found idle_plan next (λ p. serve_frame h b c p p.frame)

-- drop: idle where the client has no session open
abbrev pub drop_session : ℕ → Option Session → Plan
drop_session c None = idle_plan
drop_session c (Some s) = quiet_plan (session_becomes c None)

unfoldable pub drop_client : Broker → ℕ → Plan
drop_client b c = drop_session c (session_at b c)
