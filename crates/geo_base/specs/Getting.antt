-- get: a client takes the next packet of its current cluster's link. What comes in another connection is discarded, as is
-- what cannot be read and every command that tells it nothing (own).
use Rattle.std.specs.Prelude.{ℕ, ◌+◌, ◌==◌, Bool, true, false, if◌then◌else◌, List, [], ◌∷◌, ◌++◌, Option, Some, None, slice_get}
use Rattle.std.specs.List.{list_any}
use Rattle.geo_base.specs.Types.{Entry, Frame, Ident, Line, Packet, ClusterRef, Position}
use Rattle.geo_base.specs.Types.frame
use Rattle.geo_base.specs.Types.line
use Rattle.geo_base.specs.Types.cluster_ref
use Rattle.geo_base.specs.Client.{Acted, Client, becomes, stays}
use Rattle.geo_base.specs.Entry.{with_origin}
use Rattle.geo_base.specs.Position.{no_position, same_position}
use Rattle.geo_base.specs.Setup.{Declared}

abbrev pub is_number : ℕ → Option ℕ → Bool
is_number n None = false
is_number n (Some m) = m == n

-- the sequence id of a pub line
abbrev pub seq_of : Option Line → Option ℕ
seq_of (Some (line.Pub seq to key text)) = Some seq
seq_of (Some l) = None
seq_of None = None

-- the pub line at an index has a sequence id
abbrev pub publishes : Declared → ℕ → ℕ → Bool
publishes d n i = is_number n (seq_of (slice_get d.lines i))

-- the first publish of a sequence id is answered
abbrev pub without_seq : Declared → List ℕ → ℕ → List ℕ
without_seq d [] n = []
without_seq d (i ∷ is) n = if publishes d n i then is else i ∷ without_seq d is n

-- a publish of this sequence id is answered, and a count rises; else nothing
abbrev pub answered : Declared → Client → ℕ → Client → Client
answered d k n counted = if list_any (publishes d n) k.unanswered then record counted { unanswered = without_seq d k.unanswered n } else k

-- a receipt without a position is one of an entry that is stored
abbrev pub is_duplicate : Option Position → Bool
is_duplicate None = false
is_duplicate (Some p) = same_position p no_position

abbrev pub with_receipt : Client → Bool → Client
with_receipt k true = record k { duplicates = k.duplicates + 1 }
with_receipt k false = record k { receipts = k.receipts + 1 }

abbrev pub with_error : Client → Client
with_error k = record k { errors = k.errors + 1 }

-- a message for the sub line in force is held and got
abbrev pub received : Client → ℕ → Ident → Position → Client
received k id ident p =
    if is_number id k.sub then record k { held = k.held ++ record { ident = ident; position = p } ∷ []; got = k.got ++ ident ∷ [] } else k

-- a message's origin is its replicated_from; without one the cluster that it came from stored it first
abbrev pub got_message : Client → ℕ → Position → Option ClusterRef → Entry → Client
got_message k id p None e = received k id (with_origin k.cluster e).ident p
got_message k id p (Some (cluster_ref.Known x)) e = received k id (with_origin x e).ident p
got_message k id p (Some (cluster_ref.Stranger name)) e = k

abbrev pub got_frame : Declared → Client → Frame → Client
got_frame d k (frame.SendReceipt id n p) = answered d k n (with_receipt k (is_duplicate p))
got_frame d k (frame.SendError id n code) = answered d k n (with_error k)
got_frame d k (frame.Error request code) = with_error k
got_frame d k (frame.Message id p source e) = got_message k id p source e
got_frame d k f = k

unfoldable pub get : Declared → Client → Option Packet → Acted
get d k None = stays k
get d k (Some packet) = becomes (if packet.session == k.connection then got_frame d k packet.frame else k) []
