-- Frames that a client sends, each of which has a text within the limit on frames.
use Rattle.std.specs.Prelude.{◌≡◌, ◌≤◌, true, [], length, None, IfSome}
use Rattle.geo_base.specs.declared.frame.Frame.{Frame}
use Rattle.geo_base.specs.declared.frame.Frame.TheVariants as frame
use Rattle.geo_base.specs.Message.{is_message}
use Rattle.frame_values.specs.Fitting.{IsShort}

-- Its texts are short, an ACK names at most 200,000 positions, and what is published is a message of its own cluster.
abbrev pub IsSent : Frame → Type 0
IsSent frame.Connect = Unit {0}
IsSent (frame.Producer topic id request name) = IsShort topic × IfSome name IsShort
IsSent (frame.Send id seq source e) = (source ≡ None) × (is_message e ≡ true) × (e.meta.rest ≡ [])
IsSent (frame.Subscribe topic sub kind id request consumer earliest replicated) = IsShort topic × IsShort sub × IfSome consumer IsShort
IsSent (frame.Flow id permits) = Unit {0}
IsSent (frame.Ack id kind positions) = length positions ≤ 200000
IsSent (frame.Unsubscribe id request) = Unit {0}
IsSent (frame.CloseConsumer id request) = Unit {0}
IsSent (frame.CloseProducer id request) = Unit {0}
IsSent frame.Ping = Unit {0}
IsSent f = ⊥
