-- A packet that was sent and taken back leaves the links as they were, also where there is no such link.
use Rattle.std.proofs.Common.{◌≡◌, ℕ, zero, suc, ◌+◌, ◌-◌, List, [], ◌∷◌, ◌++◌, length, take, refl, ap, ◌∙◌, arith, length-append}
use Rattle.std.specs.Prelude.{slice_set, slice_index_or}
use Rattle.std.proofs.Math.Seq.{take-append_seam}
use Rattle.wire_ends.specs.declared.packet.WirePacket.{WirePacket}
use Rattle.links.specs.Queues.{Queue, WireLinks, queue_in, with_last, with_queue_in, without_last}

-- a place of a list that got a new value, from which f makes the old one again
set_back : {X : Type 0} (xs : List X) (i : ℕ) (v d : X) (f : X → X) → f v ≡ slice_index_or xs i d
    → slice_set (slice_set xs i v) i (f (slice_index_or (slice_set xs i v) i d)) ≡ xs
set_back [] i v d f e = refl
set_back (x ∷ xs) zero v d f e = ap (λ y. y ∷ xs) e
set_back (x ∷ xs) (suc i) v d f e = ap (λ ys. x ∷ ys) (set_back xs i v d f e)

one_less : (q : Queue) (p : WirePacket) → without_last (with_last q p) ≡ q
one_less q p =
    let e : length (q ++ p ∷ []) - 1 ≡ length q = omega (arith, length-append q (p ∷ [])) in
    ap (λ (n : ℕ). take n (q ++ p ∷ [])) e ∙ take-append_seam q (p ∷ [])

pub undone : (port : ℕ) (p : WirePacket) (ls : WireLinks)
    → with_queue_in (with_queue_in ls port (with_last (queue_in ls port) p)) port (without_last (queue_in (with_queue_in ls port (with_last (queue_in ls port) p)) port)) ≡ ls
undone port p ls = ap (λ (qs : List Queue). record ls { queues = qs }) (set_back ls.queues port (with_last (queue_in ls port) p) [] without_last (one_less (queue_in ls port) p))
