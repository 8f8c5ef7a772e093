-- A link: the packets sent on it, and how many of them were taken (own: a link loses nothing by itself).
use Rattle.std.specs.Prelude.{ℕ, ◌+◌, ◌-◌, min, List, [], ◌∷◌, ◌++◌, length, Option, slice_get}
use Rattle.geo_base.specs.Types.{Frame, Out, Packet, Peer}

pub record Link : Type 0 where
  pub sent : List Packet
  pub taken : ℕ

abbrev pub no_link : Link
no_link = record { sent = []; taken = 0 }

abbrev pub next_packet : Link → Option Packet
next_packet l = slice_get l.sent l.taken

-- one more taken, where there is one
abbrev pub took : Link → Link
took l = record { sent = l.sent; taken = min (l.taken + 1) (length l.sent) }

abbrev pub sent_on : Link → Packet → Link
sent_on l p = record { sent = l.sent ++ p ∷ []; taken = l.taken }

-- all that was sent is taken
abbrev pub discarded : Link → Link
discarded l = record { sent = l.sent; taken = length l.sent }

abbrev pub untaken : Link → ℕ
untaken l = length l.sent - l.taken

-- what a node sends to a peer
abbrev pub sends : Peer → ℕ → Frame → List Out
sends to session f = record { to = to; session = session; frame = f } ∷ []
