-- A packet like that which a recorded event took does the same: so the event is one of the world also where the world's
-- packet is only alike, and what is said of the packets of two lists in a row is said of both.
use Rattle.std.proofs.Common.{◌≡◌, ℕ, suc, ◌+◌, ◌<◌, max, Bool, true, false, List, [], ◌∷◌, ◌++◌, length, map, refl, sym, ap, ◌∙◌, ◌==◌, arith}
use Rattle.std.specs.Prelude.{Option, Some, None, if◌then◌else◌}
use Rattle.world_laws.proofs.Types.{Event, Packet, Peer}
use Rattle.geo_base.specs.Agreement.{AreAlike, IsAlike}
use Rattle.geo_base.specs.Happening.{next_stamp}
use Rattle.geo_base.specs.History.{HappensAt, RecordedEvent, is_input, sent_over, sent_with, taken_over}
use Rattle.geo_base.specs.NodeState.{NodeActed, NodeState, acts, clock_at, state_at, takes_from}
use Rattle.geo_base.specs.Nodes.{Node, link_from, node_of, same_link}
use Rattle.geo_base.specs.Setup.{Setup}
use Rattle.geo_base.specs.World.{LinkName, World, link_at, packet_at}
use Rattle.world_laws.proofs.Merges.Crossings.{IsOlder}
use Rattle.world_laws.proofs.Replicating.Effects.{Each}
use Rattle.world_laws.proofs.Merges.LinkTables.{input_link, moved}
use Rattle.world_laws.proofs.Merges.NodeEvents.{Does, Fits, entry_done}

-- a packet like that which an entry took does the same
abbrev pub LikeInput : Setup → Option Packet → Option Packet → Type 0
LikeInput s None None = Unit {0}
LikeInput s (Some p) (Some q) = IsAlike s p q
LikeInput s p q = ⊥

like_acts : (s : Setup) (p q : Option Packet) → LikeInput s p q → (st : NodeState) (e : Event) → acts s st e p ≡ acts s st e q
like_acts s None None h st e = refl
like_acts s None (Some q) h st e = absurd h
like_acts s (Some p) None h st e = absurd h
like_acts s (Some p) (Some q) h st e = h.acts st e

like_stamp : (s : Setup) (p q : Option Packet) → LikeInput s p q → (clock : ℕ) → next_stamp clock p ≡ next_stamp clock q
like_stamp s None None h clock = refl
like_stamp s None (Some q) h clock = absurd h
like_stamp s (Some p) None h clock = absurd h
like_stamp s (Some p) (Some q) h clock = ap (λ (n : ℕ). 1 + max clock n) h.stamp

like_took : (s : Setup) (p q : Option Packet) → LikeInput s p q → (n : Node) (from : Option Peer) → is_input s n from p ≡ is_input s n from q
like_took s None None h n from = refl
like_took s None (Some q) h n from = absurd h
like_took s (Some p) None h n from = absurd h
like_took s (Some p) (Some q) h n None = refl
like_took s (Some p) (Some q) h n (Some u) = refl

like_length : (s : Setup) (p q : Option Packet) → LikeInput s p q → (k : LinkName) (n : Node) (from : Option Peer)
    → length (taken_over s k n from p) ≡ length (taken_over s k n from q)
like_length s None None h k n from = refl
like_length s None (Some q) h k n from = absurd h
like_length s (Some p) None h k n from = absurd h
like_length s (Some p) (Some q) h k n None = refl
like_length s (Some p) (Some q) h k n (Some u) = by (same_link (link_from s n u) k)
  where
    by : (b : Bool) → length (if b then p ∷ [] else []) ≡ length (if b then q ∷ [] else [])
    by true = refl
    by false = refl

abbrev with_input : RecordedEvent → Option Packet → RecordedEvent
with_input d p = record { event = d.event; taken = p; sent = d.sent; stamp = d.stamp }

done_alike : (s : Setup) (n : ℕ) (st : NodeState) (clock : ℕ) (d : RecordedEvent) (p : Option Packet) → LikeInput s d.taken p → HappensAt s n st clock d
    → HappensAt s n st clock (with_input d p)
done_alike s n st clock d p like h = record {
  here = h.here;
  in_range = h.in_range;
  enabled = ap (λ (a : NodeActed). a.idle) (sym same) ∙ h.enabled;
  input = sym (like_took s d.taken p like (node_of s d.event) (takes_from st d.event)) ∙ h.input;
  stamp = h.stamp ∙ like_stamp s d.taken p like clock;
  sent = h.sent ∙ ap (λ (a : NodeActed). map (sent_with d.stamp) a.sent) same;
}
  where
    same : acts s st d.event d.taken ≡ acts s st d.event p
    same = like_acts s d.taken p like st d.event

pub entry_alike : (s : Setup) (w : World) (n : ℕ) (d : RecordedEvent) → Fits s w → HappensAt s n (state_at s w n) (clock_at s w n) d
    → LikeInput s d.taken (packet_at w.links (input_link s (node_of s d.event) (takes_from (state_at s w n) d.event))) → Does s w n d
entry_alike s w n d fits h like = record {
  fits = x.fits;
  states = λ m. x.states m
      ∙ ap (λ (a : NodeActed). if n == m then a.state else state_at s w m) (sym (like_acts s d.taken p like (state_at s w n) d.event));
  clocks = x.clocks;
  links = λ k has. x.links k has
      ∙ ap (moved (link_at w.links k) (sent_over s k (node_of s d.event) d.sent)) (sym (like_length s d.taken p like k (node_of s d.event) (takes_from (state_at s w n) d.event)));
  idle = x.idle;
  events = x.events;
}
  where
    p : Option Packet
    p = packet_at w.links (input_link s (node_of s d.event) (takes_from (state_at s w n) d.event))

    x : Does s w n (with_input d p)
    x = entry_done s w n (with_input d p) fits (done_alike s n (state_at s w n) (clock_at s w n) d p like h) refl

-- packets like those of two lists in a row
pub record Halves (s : Setup) (ps qs us : List Packet) : Type 0 where
  pub first : List Packet
  pub second : List Packet
  pub whole : us ≡ first ++ second
  pub like_first : AreAlike s ps first
  pub like_second : AreAlike s qs second

pub halves : (s : Setup) (ps qs us : List Packet) → AreAlike s (ps ++ qs) us → Halves s ps qs us
halves s [] qs us h = record { first = []; second = us; whole = refl; like_first = tt; like_second = h }
halves s (p ∷ ps) qs [] h = absurd h
halves s (p ∷ ps) qs (u ∷ us) h =
    let r = halves s ps qs us h.1 in
    record { first = u ∷ r.first; second = r.second; whole = ap (λ (vs : List Packet). u ∷ vs) r.whole; like_first = (h.0, r.like_first); like_second = r.like_second }

pub alike_length : (s : Setup) (ps qs : List Packet) → AreAlike s ps qs → length ps ≡ length qs
alike_length s [] [] h = refl
alike_length s [] (q ∷ qs) h = absurd h
alike_length s (p ∷ ps) [] h = absurd h
alike_length s (p ∷ ps) (q ∷ qs) h = ap suc (alike_length s ps qs h.1)

pub alike_older : (s : Setup) (stamp : ℕ) (ps qs : List Packet) → AreAlike s ps qs → IsOlder stamp ps → IsOlder stamp qs
alike_older s stamp ps qs h o = record { one = let e = alike_length s ps qs h in omega (arith, e, o.one); older = go ps qs h o.older }
  where
    go : (ps qs : List Packet) → AreAlike s ps qs → Each (λ (u : Packet). u.stamp < stamp) ps → Each (λ (u : Packet). u.stamp < stamp) qs
    go [] [] h o = tt
    go [] (q ∷ qs) h o = absurd h
    go (p ∷ ps) [] h o = absurd h
    go (p ∷ ps) (q ∷ qs) h o = (let e = h.0.stamp in omega (arith, e, o.0), go ps qs h.1 o.1)
