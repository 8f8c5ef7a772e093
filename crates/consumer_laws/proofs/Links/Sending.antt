-- What an event of a broker leaves of the link to client c at y: what it sends there is told of the packets sent before.
use Rattle.std.proofs.Common.{◌≡◌, ℕ, zero, suc, ◌+◌, ◌≤◌, false, List, [], ◌∷◌, ◌++◌, length, min, refl, sym, ap, subst, ◌∙◌, arith, inl, inr}
use Rattle.std.specs.Prelude.{Option, Some, None, slice_get, take}
use Rattle.std.proofs.lemmas.Bool.{false≢true}
use Rattle.std.proofs.lemmas.Option.{none-some, same_Some}
use Rattle.world_laws.proofs.Types.{Frame, Out, Packet, Peer}
use Rattle.world_laws.proofs.Types.frame
use Rattle.world_laws.proofs.Types.peer
use Rattle.geo_base.specs.Broker.{Broker}
use Rattle.geo_base.specs.Client.{Client}
use Rattle.geo_base.specs.Link.{Link, next_packet, sent_on, took}
use Rattle.geo_base.specs.Planned.{Planned}
use Rattle.geo_base.specs.Settled.{SettledSoFar}
use Rattle.geo_base.specs.Setup.{Declared, Setup}
use Rattle.geo_base.specs.World.{Back, Forward, LinkName, Links, ToBroker, ToClient, World, cell, delivered, from_broker, link_at, stamped, taken_from, with_link}
use Rattle.world_laws.proofs.Replicating.Effects.{Each}
use Rattle.world_laws.proofs.Induction.Frames.{cell_set}
use Rattle.world_laws.proofs.OnceInOrder.Members.{get_push}
use Rattle.world_laws.proofs.Walks.Shapes.{Shape}
use Rattle.world_laws.proofs.Clients.ClientLinks.{Packets}
use Rattle.world_laws.proofs.Clients.Consumers.{IsCalmTo, IsQuiet}
use Rattle.consumer_laws.proofs.Worlds.Facts.{AllAfter, DownFact, LinkFact, TakenFact}
use Rattle.consumer_laws.proofs.Subscriptions.WhatIsOut.{carried_more}
use Rattle.geo_base.proofs.Lists.{get_none_past, length_push}
pub use Rattle.geo_base.proofs.Lists.{take_whole}

-- ---- lists

pub take_left : {X : Type 0} (k : ℕ) (xs ys : List X) → k ≤ length xs → take k (xs ++ ys) ≡ take k xs
take_left zero xs ys le = refl
take_left (suc k) [] ys le = absurd (omega (arith, le))
take_left (suc k) (x ∷ xs) ys le = ap (λ l. x ∷ l) (take_left k xs ys (omega (arith, le)))

pub take_next : {X : Type 0} (k : ℕ) (xs : List X) (x : X) → slice_get xs k ≡ Some x → take (k + 1) xs ≡ take k xs ++ x ∷ []
take_next k xs x at = subst (λ (n : ℕ). take n xs ≡ take k xs ++ x ∷ []) next (by k xs at)
  where
    next : suc k ≡ k + 1
    next = omega arith

    by : (j : ℕ) (ys : List _) → slice_get ys j ≡ Some x → take (suc j) ys ≡ take j ys ++ x ∷ []
    by zero [] h = absurd (none-some x h)
    by zero (y ∷ ys) h = ap (λ z. z ∷ []) (same_Some y x h)
    by (suc j) [] h = absurd (none-some x h)
    by (suc j) (y ∷ ys) h = ap (λ l. y ∷ l) (by j ys h)

-- ---- one packet more

pub after_push : (F : List Packet → ℕ → Frame → Type 0) (ps : List Packet) (p : Packet) → AllAfter F ps → F ps p.session p.frame → AllAfter F (ps ++ p ∷ [])
after_push F ps p all new k q at =
    elim (get_push ps p k q at) [
      | inl old ↦ subst (λ (l : List Packet). F l q.session q.frame) (sym (take_left k ps (p ∷ []) (let lt = old.0 in omega (arith, lt)))) (all k q old.1)
      | inr last ↦
          subst (λ (l : List Packet). F l q.session q.frame) (sym (ap (λ (n : ℕ). take n (ps ++ p ∷ [])) last.0 ∙ take_left (length ps) ps (p ∷ []) (omega arith) ∙ take_whole ps))
          (subst (λ (x : Packet). F ps x.session x.frame) last.1 new)
    ]

pub link_push : (told : SettledSoFar) (t x : ℕ) (b : Broker) (d : Declared) (k : Client) (sent : List Packet) (l : Link) (p : Packet) → LinkFact told t x b d k sent l
    → DownFact told t x b d k.done l.sent p.session p.frame → LinkFact told t x b d k sent (sent_on l p)
link_push told t x b d k sent l p h new = record {
  extends = λ session id e c. carried_more l.sent (p ∷ []) session id e (h.extends session id e c);
  after = after_push (DownFact told t x b d k.done) l.sent p h.after new;
  whole = let w = h.whole in let m = length_push l.sent p in omega (arith, w, m);
  taken = λ here connected. subst (Packets (TakenFact told t d k)) (sym (take_left l.taken l.sent (p ∷ []) h.whole)) (h.taken here connected);
}

-- ---- what a broker at x sends to c on its link there keeps a fact of that link

abbrev pub Pushes : ℕ → ℕ → ℕ → (Link → Type 0) → ℕ → Out → Peer → Type 0
Pushes c y x P stamp o (peer.Client z) = z ≡ c → x ≡ y → (l : Link) → P l → P (sent_on l (stamped stamp o))
Pushes c y x P stamp o q = Unit {0}

one_cell : (s : Setup) (t x stamp c y : ℕ) (P : Link → Type 0) (o : Out) (to : Peer) (ls : Links) → Pushes c y x P stamp o to → P (cell ls.to_client c y)
    → P (cell (with_link ls (from_broker s t x to) (sent_on (link_at ls (from_broker s t x to)) (stamped stamp o))).to_client c y)
one_cell s t x stamp c y P o (peer.Forward z) ls h all = all
one_cell s t x stamp c y P o (peer.Back z) ls h all = all
one_cell s t x stamp c y P o (peer.Broker z) ls h all = all
one_cell s t x stamp c y P o (peer.Client z) ls h all =
    cell_set P ls.to_client z x _ c y
    (λ e e'.
    let C : ℕ → ℕ → Type 0 = λ u v. P (cell ls.to_client u v) in
    h e e' (cell ls.to_client z x) (subst (λ (u : ℕ). C u x) (sym e) (subst (C c) (sym e') all))) all

pub delivered_cell : (s : Setup) (t x stamp c y : ℕ) (P : Link → Type 0) (os : List Out) (ls : Links) → Each (λ (o : Out). Pushes c y x P stamp o o.to) os → P (cell ls.to_client c y)
    → P (cell (delivered (from_broker s t x) stamp os ls).to_client c y)
delivered_cell s t x stamp c y P [] ls h all = all
delivered_cell s t x stamp c y P (o ∷ os) ls h all =
    delivered_cell s t x stamp c y P os (with_link ls (from_broker s t x o.to) (sent_on (link_at ls (from_broker s t x o.to)) (stamped stamp o))) h.1
    (one_cell s t x stamp c y P o o.to ls h.0 all)

-- no broker takes from a client's link to it
abbrev pub NotDown : Option LinkName → Type 0
NotDown (Some (ToClient c x)) = ⊥
NotDown o = Unit {0}

pub not_down : (o : Option LinkName) (ls : Links) → NotDown o → (taken_from o ls).to_client ≡ ls.to_client
not_down None ls h = refl
not_down (Some (Forward a b)) ls h = refl
not_down (Some (Back a b)) ls h = refl
not_down (Some (ToBroker a b)) ls h = refl
not_down (Some (ToClient a b)) ls h = absurd h

-- what is quiet is no message
pub quiet_down : (told : SettledSoFar) (t x : ℕ) (b : Broker) (d : Declared) (done : ℕ) (before : List Packet) (session : ℕ) (f : Frame) → IsQuiet f → DownFact told t x b d done before session f
quiet_down told t x b d done before session (frame.Message id p source e) q = absurd q
quiet_down told t x b d done before session f q = tt

pub calm_pushes : (told : SettledSoFar) (t x c m y stamp : ℕ) (b : Broker) (d : Declared) (k : Client) (sent : List Packet) (o : Out) (q : Peer) → IsCalmTo c m o.session o.frame q
    → Pushes c y x (LinkFact told t y b d k sent) stamp o q
calm_pushes told t x c m y stamp b d k sent o (peer.Client z) h = λ e e' l f. link_push told t y b d k sent l (stamped stamp o) f (quiet_down told t y b d k.done l.sent o.session o.frame (h e).1)
calm_pushes told t x c m y stamp b d k sent o (peer.Forward z) h = tt
calm_pushes told t x c m y stamp b d k sent o (peer.Back z) h = tt
calm_pushes told t x c m y stamp b d k sent o (peer.Broker z) h = tt

-- an event that is done takes from no such link
pub shape_not_down : (s : Setup) (w : World) (p : Planned) → Shape s w p → p.plan.idle ≡ false → NotDown p.takes
shape_not_down s w p (Shape.Serve x c q plan within next served) busy = tt
shape_not_down s w p (Shape.Drop x c v within at) busy = tt
shape_not_down s w p (Shape.Reset t x y within remote) busy = tt
shape_not_down s w p (Shape.Read t x y plan within reads) busy = tt
shape_not_down s w p (Shape.Take t x y q plan within next taken) busy = tt
shape_not_down s w p (Shape.Receipt t x y q plan within next answered) busy = tt
shape_not_down s w p (Shape.Snap t x plan within snaps) busy = tt
shape_not_down s w p (Shape.Offer t x n plan within offers) busy = tt
shape_not_down s w p (Shape.Seek t x n to plan within seeks) busy = tt
shape_not_down s w p (Shape.Restart t x within) busy = tt
shape_not_down s w p (Shape.Idle t x within) busy = tt
shape_not_down s w p (Shape.Empty t x k within next) busy = absurd (false≢true (sym busy))

-- nor does one that stopped, but where nothing waits
abbrev pub TakesNone : World → Option LinkName → Type 0
TakesNone w (Some (ToClient c x)) = next_packet (link_at w.links (ToClient c x)) ≡ None
TakesNone w o = Unit {0}

empty_takes : (w : World) (k : LinkName) → next_packet (link_at w.links k) ≡ None → TakesNone w (Some k)
empty_takes w (Forward a b) h = tt
empty_takes w (Back a b) h = tt
empty_takes w (ToBroker a b) h = tt
empty_takes w (ToClient a b) h = h

pub shape_takes_none : (s : Setup) (w : World) (p : Planned) → Shape s w p → TakesNone w p.takes
shape_takes_none s w p (Shape.Serve x c q plan within next served) = tt
shape_takes_none s w p (Shape.Drop x c v within at) = tt
shape_takes_none s w p (Shape.Reset t x y within remote) = tt
shape_takes_none s w p (Shape.Read t x y plan within reads) = tt
shape_takes_none s w p (Shape.Take t x y q plan within next taken) = tt
shape_takes_none s w p (Shape.Receipt t x y q plan within next answered) = tt
shape_takes_none s w p (Shape.Snap t x plan within snaps) = tt
shape_takes_none s w p (Shape.Offer t x n plan within offers) = tt
shape_takes_none s w p (Shape.Seek t x n to plan within seeks) = tt
shape_takes_none s w p (Shape.Restart t x within) = tt
shape_takes_none s w p (Shape.Idle t x within) = tt
shape_takes_none s w p (Shape.Empty t x k within next) = empty_takes w k next

-- where nothing waits nothing is taken
pub link_took_none : (told : SettledSoFar) (t x : ℕ) (b : Broker) (d : Declared) (k : Client) (sent : List Packet) (l : Link) → next_packet l ≡ None → LinkFact told t x b d k sent l
    → LinkFact told t x b d k sent (took l)
link_took_none told t x b d k sent l none h =
    let past = get_none_past l.sent l.taken none in let w = h.whole in
    let same : l.taken ≡ min (l.taken + 1) (length l.sent) = omega (arith, past, w) in
    record {
      extends = h.extends;
      after = h.after;
      whole = omega (arith, past, w);
      taken = λ here connected. subst (λ (n : ℕ). Packets (TakenFact told t d k) (take n l.sent)) same (h.taken here connected);
    }

pub taken_cell : (told : SettledSoFar) (t c x : ℕ) (b : Broker) (d : Declared) (k : Client) (sent : List Packet) (w : World) (o : Option LinkName) → TakesNone w o
    → LinkFact told t x b d k sent (cell w.links.to_client c x) → LinkFact told t x b d k sent (cell (taken_from o w.links).to_client c x)
taken_cell told t c x b d k sent w None none h = h
taken_cell told t c x b d k sent w (Some (Forward a z)) none h = h
taken_cell told t c x b d k sent w (Some (Back a z)) none h = h
taken_cell told t c x b d k sent w (Some (ToBroker a z)) none h = h
taken_cell told t c x b d k sent w (Some (ToClient a z)) none h =
    cell_set (LinkFact told t x b d k sent) w.links.to_client a z (took (cell w.links.to_client a z)) c x
    (λ e e'. link_took_none told t x b d k sent (cell w.links.to_client a z) none
    (subst (λ (u : ℕ). LinkFact told t x b d k sent (cell w.links.to_client u z)) (sym e) (subst (λ (v : ℕ). LinkFact told t x b d k sent (cell w.links.to_client c v)) (sym e') h))) h
