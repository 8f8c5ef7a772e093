-- The packets that wait on a link: what sending and taking makes of them.
use Rattle.std.proofs.Common.{◌≡◌, ℕ, ◌+◌, ◌≤◌, Bool, true, false, List, [], ◌∷◌, length, refl, sym, ap, subst, ◌∙◌, ◌==◌, arith, inl, inr, ◌⊎◌}
use Rattle.std.specs.Prelude.{Some, None, slice_get}
use Rattle.std.proofs.lemmas.Bool.{eqb-true}
use Rattle.std.proofs.lemmas.Bool.Decides.{nat_tests}
use Rattle.std.proofs.lemmas.Option.{same_Some, slice_get_within}
use Rattle.world_laws.proofs.Types.{Out, Packet}
use Rattle.geo_base.specs.Link.{Link, next_packet, sent_on, took}
use Rattle.geo_base.specs.World.{stamped}
use Rattle.world_laws.proofs.Replicating.Effects.{Each}
use Rattle.world_laws.proofs.OnceInOrder.Members.{get_last, get_left, get_push}
pub use Rattle.geo_base.proofs.Lists.{get_none_past as past_end}

-- a packet was sent and is not taken yet
pub record Waiting (l : Link) (p : Packet) : Type 0 where
  pub place : ℕ
  pub behind : l.taken ≤ place
  pub at : slice_get l.sent place ≡ Some p

-- some packet of which a fact holds
pub record Comes (l : Link) (P : Packet → Type 0) : Type 0 where
  pub packet : Packet
  pub waits : Waiting l packet
  pub is : P packet

-- taking
pub took_waits : (l : Link) (p : Packet) → Waiting (took l) p → Waiting l p
took_waits l p w = let lt = slice_get_within l.sent w.place p w.at in let b = w.behind in record { place = w.place; behind = omega (arith, lt, b); at = w.at }

pub next_waits : (l : Link) (p : Packet) → next_packet l ≡ Some p → Waiting l p
next_waits l p next = record { place = l.taken; behind = omega arith; at = next }

pub still_waits : (l : Link) (p u : Packet) → next_packet l ≡ Some p → Waiting l u → (p ≡ u) ⊎ Waiting (took l) u
still_waits l p u next w = by (l.taken == w.place) refl
  where
    by : (b : Bool) → (l.taken == w.place) ≡ b → (p ≡ u) ⊎ Waiting (took l) u
    by true e = inl (same_Some _ _ (sym next ∙ (ap (slice_get l.sent) (eqb-true l.taken w.place e) ∙ w.at)))
    by false e =
        let more : l.taken + 1 ≤ w.place = grind (arith, nat_tests, e, w.behind) in
        inr (record { place = w.place; behind = omega (arith, more); at = w.at })

-- one of which a fact holds, that the packet that is taken does not have
pub still_comes : (l : Link) (P : Packet → Type 0) (p : Packet) → next_packet l ≡ Some p → (P p → ⊥) → Comes l P → Comes (took l) P
still_comes l P p next other c =
    elim (still_waits l p c.packet next c.waits) [
      | inl same ↦ absurd (other (subst P (sym same) c.is))
      | inr w ↦ record { packet = c.packet; waits = w; is = c.is }
    ]

-- none waits where none is next
pub none_waits : (l : Link) (u : Packet) → next_packet l ≡ None → Waiting l u → ⊥
none_waits l u none w =
    let lt = slice_get_within l.sent w.place u w.at in let le = past_end l.sent l.taken none in let b = w.behind in omega (arith, lt, le, b)

-- sending
pub sent_waits : (l : Link) (p u : Packet) → Waiting l u → Waiting (sent_on l p) u
sent_waits l p u w = record { place = w.place; behind = w.behind; at = get_left l.sent (p ∷ []) w.place u w.at }

pub new_waits : (l : Link) (p : Packet) → l.taken ≤ length l.sent → Waiting (sent_on l p) p
new_waits l p le = record { place = length l.sent; behind = le; at = get_last l.sent p }

pub waits_sent : (l : Link) (p u : Packet) → Waiting (sent_on l p) u → Waiting l u ⊎ (p ≡ u)
waits_sent l p u w =
    elim (get_push l.sent p w.place u w.at) [
      | inl h ↦ inl (record { place = w.place; behind = w.behind; at = h.1 })
      | inr h ↦ inr h.1
    ]

pub sent_comes : (l : Link) (P : Packet → Type 0) (p : Packet) → Comes l P → Comes (sent_on l p) P
sent_comes l P p c = record { packet = c.packet; waits = sent_waits l p c.packet c.waits; is = c.is }

-- what goes on one link
abbrev pub all_sent : ℕ → Link → List Out → Link
all_sent stamp l [] = l
all_sent stamp l (o ∷ os) = all_sent stamp (sent_on l (stamped stamp o)) os

-- a fact of all packets that were sent on it
abbrev pub AllSent : (Packet → Type 0) → Link → Type 0
AllSent P l = (i : ℕ) (u : Packet) → slice_get l.sent i ≡ Some u → P u

pub one_sent : (P : Packet → Type 0) (l : Link) (p : Packet) → P p → AllSent P l → AllSent P (sent_on l p)
one_sent P l p new h i u at = elim (get_push l.sent p i u at) [ inl k ↦ h i u k.1 | inr k ↦ subst P k.1 new ]

pub more_sent : (P : Packet → Type 0) (stamp : ℕ) (l : Link) (os : List Out) → Each (λ (o : Out). P (stamped stamp o)) os → AllSent P l → AllSent P (all_sent stamp l os)
more_sent P stamp l [] new h = h
more_sent P stamp l (o ∷ os) new h = more_sent P stamp (sent_on l (stamped stamp o)) os new.1 (one_sent P l (stamped stamp o) new.0 h)
