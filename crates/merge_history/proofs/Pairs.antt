-- The packets of a difference: the one that was taken, and the one that was sent.
use Rattle.std.proofs.Common.{◌≡◌, ℕ, ◌<◌, List, length, sym, ap, subst, ◌∙◌}
use Rattle.std.specs.Prelude.{Err, IfOk, None, Ok, Option, Result, Some, slice_get, slice_index_or}
use Rattle.std.proofs.lemmas.Option.{none-some, same_Some}
use Rattle.geo_base.specs.declared.memory.Memory.{Memory}
use Rattle.wire_ends.specs.declared.packet.WirePacket.{WirePacket}
use Rattle.merge_history.specs.declared.packet_layout.FarEnd.{FarEnd}
use Rattle.merge_history.specs.declared.packets.Packets.{Packets}
use Rattle.merge_history.specs.declared.walk.Found.{Found}
use Rattle.merge_history.specs.Differences.{Takes, sent_there}
use Rattle.merge_history.specs.Kept.{Kept, kept_by}
use Rattle.merge_history.specs.Peers.{LayoutView, end_of, sent_to}
use Rattle.merge_history.specs.Walks.{IsFoundAt}
use Rattle.merge_history.proofs.Walking.{got_at, got_within, kept_there}

module _ (l : LayoutView) (kept : List (List Kept)) (n : ℕ) (f : Found) (h : List Kept) (lt : n < length kept) (at : h ≡ slice_index_or kept n h) (found : IsFoundAt l kept n f) where
  there : slice_get h f.place ≡ Some found.first.takes.event
  there = ap (λ (xs : List Kept). slice_get xs f.place) (sym (kept_there kept n h lt (sym at))) ∙ found.first.takes.there

  pub place_there : f.place < length h
  place_there = got_within h f.place found.first.takes.event there

  event_is : (d : Kept) → d ≡ slice_index_or h f.place d → found.first.takes.event ≡ d
  event_is d here = same_Some found.first.takes.event d (sym there ∙ got_at h f.place d place_there (sym here))

  pub some_taken : (d : Kept) → d ≡ slice_index_or h f.place d → d.taken ≡ None → ⊥
  some_taken d here none = none-some found.packet (sym none ∙ (ap (λ (x : Kept). x.taken) (sym (event_is d here)) ∙ found.first.takes.taken))

  pub taken_there : (d : Kept) (b : WirePacket) → d ≡ slice_index_or h f.place d → d.taken ≡ Some b → Takes l kept n f.place f.peer b
  taken_there d b here is = record {
    event = found.first.takes.event;
    there = found.first.takes.there;
    comes = found.first.takes.comes;
    taken = ap (λ (x : Kept). x.taken) (event_is d here) ∙ is;
  }

pub sent_is : (l : LayoutView) (kept : List (List Kept)) (n : ℕ) (f : Found) (end : FarEnd) (o : Option WirePacket) → IsFoundAt l kept n f → end ≡ end_of l n f.peer
    → o ≡ slice_get (sent_to end.peer (kept_by kept end.node)) f.index → o ≡ sent_there l kept n f.place f.peer
sent_is l kept n f end o found same is =
    is
    ∙ (ap (λ (e : FarEnd). slice_get (sent_to e.peer (kept_by kept e.node)) f.index) same
    ∙ ap (slice_get (sent_to (end_of l n f.peer).peer (kept_by kept (end_of l n f.peer).node))) found.index)

pub takes_it : (r : Result Packets Memory) (b : WirePacket) (P : WirePacket → Type 0) → IfOk r (λ p. p.taken ≡ b) → P b → IfOk r (λ p. P p.taken)
takes_it (Ok p) b P is h = subst P (sym is) h
takes_it (Err m) b P is h = tt
