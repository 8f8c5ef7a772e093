-- The packet that opens a session, and what the back link answers to a packet of the forward link, also to one that is acted
-- on two times in a row.
use Rattle.std.specs.Prelude.{◌≡◌, ℕ, Bool, true, false, if◌then◌else◌, List, [], ◌∷◌, ◌++◌, Option, Some, None}
use Rattle.geo_base.specs.declared.frame.Frame.{Frame}
use Rattle.geo_base.specs.declared.frame.Frame.TheVariants as frame
use Rattle.geo_base.specs.declared.packet.Out.{Out}
use Rattle.geo_base.specs.declared.packet.Peer.TheVariants as peer
use Rattle.geo_base.specs.declared.packet.WireOut.{WireOut}
use Rattle.geo_base.specs.declared.position.Position.{Position}
use Rattle.geo_base.specs.Broker.{Site}
use Rattle.geo_base.specs.Forwarding.{link_producer}
use Rattle.geo_base.specs.Position.{no_position}
use Rattle.broker_state.specs.Plan.{PlanView}
use Rattle.broker_plans.specs.Prepared.{ArePackets}
use Rattle.frame_values.specs.Coded.{carries_entry}
use Rattle.frame_values.specs.Fitting.{IsSmall}
use Rattle.frame_values.specs.Texts.{is_readable}
use Rattle.broker_packets.specs.declared.answers.Answer.{Answer}

-- a frame without an entry, whose texts are short
pub record IsBrief (names : List (List ℕ)) (f : Frame) : Type 0 where
  pub simple : carries_entry f ≡ false
  pub readable : is_readable f ≡ true
  pub small : IsSmall names f

abbrev pub out_of : ℕ → ℕ → Frame → Out
out_of x session f = record { to = peer.Back x; session = session; frame = f }

abbrev pub second_out : ℕ → ℕ → Option Frame → List Out
second_out x session None = []
second_out x session (Some f) = out_of x session f ∷ []

abbrev pub outs_of : Answer → List Out
outs_of a = out_of a.source a.session a.first ∷ second_out a.source a.session a.second

-- the packet that opens a session to y
abbrev pub opening : Site → ℕ → Frame
opening h session = frame.Producer h.topic session session (Some (link_producer h h.own))

abbrev pub opening_out : Site → ℕ → ℕ → Out
opening_out h y session = record { to = peer.Forward y; session = session; frame = opening h session }

-- an event that sends more packets after all that it does
pub record AlsoAnswers (names : List (List ℕ)) (os : List Out) (old new : PlanView) : Type 0 where
  pub packets : List WireOut
  pub with : new ≡ record old { sent = old.sent ++ packets }
  pub written : ArePackets names os packets

abbrev pub second_of : Bool → Frame → Option Frame
second_of again f = if again then Some f else None

abbrev pub success : Site → ℕ → ℕ → Frame
success h x request = frame.ProducerSuccess request (link_producer h x)

abbrev pub success_answer : Site → ℕ → Bool → ℕ → ℕ → Answer
success_answer h x again id request = record { source = x; session = id; first = success h x request; second = second_of again (success h x request) }

abbrev pub receipt : ℕ → ℕ → Position → Frame
receipt session seq position = frame.SendReceipt session seq (Some position)

abbrev pub receipt_answer : ℕ → ℕ → Bool → ℕ → Position → Answer
receipt_answer x session again seq position = record { source = x; session = session; first = receipt session seq position; second = second_of again (receipt session seq no_position) }
