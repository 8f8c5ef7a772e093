-- An event of a client raises its count by one at most, where it takes a receipt with a position.
use Rattle.std.proofs.Common.{◌≡◌, ℕ, ◌+◌, ◌<◌, ◌≤◌, Bool, true, false, List, [], ◌∷◌, length, refl, ap, subst, ◌∙◌, ◌==◌, arith, inl, inr}
use Rattle.std.specs.List.{list_any}
use Rattle.std.specs.Prelude.{Option, Some, None, ◌&&◌, is_some, nat_lt, not, slice_get, slice_index_or, slice_set}
use Rattle.std.proofs.lemmas.List.{get_or-set_same, get_or_past}
use Rattle.std.proofs.lemmas.Option.{none-some}
use Rattle.world_laws.proofs.Types.{Frame, Held, Line, Packet, Position}
use Rattle.world_laws.proofs.Types.frame
use Rattle.world_laws.proofs.Types.line
use Rattle.world_laws.proofs.Types.cluster_ref
use Rattle.geo_base.specs.Client.{Acted, Client, reconnect}
use Rattle.geo_base.specs.Getting.{get, got_frame, is_duplicate, is_number, publishes, with_receipt}
use Rattle.geo_base.specs.Going.{acks_all, acks_one, acks_to, first_held, go, go_line, most_unanswered}
use Rattle.geo_base.specs.Link.{Link, no_link}
use Rattle.geo_base.specs.Setup.{Declared, Setup}
use Rattle.geo_base.specs.World.{cell, with_cell}
use Rattle.world_laws.proofs.OnceInOrder.Members.{below_or}
use Rattle.world_laws.proofs.Published.ReceiptCounts.{one, positioned}
use Rattle.world_laws.proofs.Walks.Walk.{on_if}

-- ---- what a client does to its count

pub record SameCount (k j : Client) : Type 0 where
  pub is : j.receipts ≡ k.receipts

line_count : (s : Setup) (d : Declared) (k : Client) (l : Option Line) → SameCount k (go_line s d k l).client
line_count s d k None = record { is = refl }
line_count s d k (Some line.Produce) = record { is = refl }
line_count s d k (Some (line.Pub seq to key text)) =
    on_if (λ (a : Acted). SameCount k a.client) (is_some k.produce && nat_lt (length k.unanswered) most_unanswered) _ _ (record { is = refl }) (record { is = refl })
line_count s d k (Some (line.Sub n kind earliest replicated)) = record { is = refl }
line_count s d k (Some (line.Flow permits)) = on_if (λ (a : Acted). SameCount k a.client) (is_some k.sub) _ _ (record { is = refl }) (record { is = refl })
line_count s d k (Some (line.Ack i)) = by (first_held k.held i)
  where
    by : (o : Option Position) → SameCount k (acks_one k i o).client
    by None = record { is = refl }
    by (Some p) = record { is = refl }
line_count s d k (Some (line.AckTo i)) = by (first_held k.held i)
  where
    by : (o : Option Position) → SameCount k (acks_to k o).client
    by None = record { is = refl }
    by (Some p) = record { is = refl }
line_count s d k (Some line.AckAll) = by k.held
  where
    by : (gs : List Held) → SameCount k (acks_all k gs).client
    by [] = record { is = refl }
    by (g ∷ gs) = record { is = refl }
line_count s d k (Some line.Unsub) = on_if (λ (a : Acted). SameCount k a.client) (is_some k.sub) _ _ (record { is = refl }) (record { is = refl })
line_count s d k (Some line.Close) = on_if (λ (a : Acted). SameCount k a.client) (is_some k.sub) _ _ (record { is = refl }) (record { is = refl })
line_count s d k (Some line.CloseProducer) = on_if (λ (a : Acted). SameCount k a.client) (is_some k.produce && (length k.unanswered == 0)) _ _ (record { is = refl }) (record { is = refl })
line_count s d k (Some line.Ping) = record { is = refl }
line_count s d k (Some (line.Move x)) = record { is = refl }

pub go_count : (s : Setup) (d : Declared) (k : Client) → SameCount k (go s d k).client
unfolding go
go_count s d k = on_if (λ (a : Acted). SameCount k a.client) k.connected _ _ (line_count s d k (slice_get d.lines k.done)) (record { is = refl })

pub reconnect_count : (s : Setup) (d : Declared) (k : Client) → SameCount k (reconnect s d k).client
unfolding reconnect
reconnect_count s d k = record { is = refl }

-- at most one more, where a receipt with a position comes
MostOne : Client → Frame → Client → Type 0
MostOne k f j = j.receipts ≤ k.receipts + one (positioned f)

receipt_most : (k : Client) (t : Bool) → (with_receipt k t).receipts ≤ k.receipts + one (not t)
receipt_most k true = omega arith
receipt_most k false = omega arith

frame_most : (d : Declared) (k : Client) (f : Frame) → (got_frame d k f).receipts ≤ k.receipts + one (positioned f)
frame_most d k (frame.SendReceipt id n o) =
    on_if (λ (j : Client). j.receipts ≤ k.receipts + one (not (is_duplicate o))) (list_any (publishes d n) k.unanswered) _ _ (receipt_most k (is_duplicate o)) (omega arith)
frame_most d k (frame.SendError id n code) = on_if (λ (j : Client). j.receipts ≤ k.receipts + 0) (list_any (publishes d n) k.unanswered) _ _ (omega arith) (omega arith)
frame_most d k (frame.Error request code) = omega arith
frame_most d k (frame.Message id p None e) = on_if (λ (j : Client). j.receipts ≤ k.receipts + 0) (is_number id k.sub) _ _ (omega arith) (omega arith)
frame_most d k (frame.Message id p (Some (cluster_ref.Known x)) e) = on_if (λ (j : Client). j.receipts ≤ k.receipts + 0) (is_number id k.sub) _ _ (omega arith) (omega arith)
frame_most d k (frame.Message id p (Some (cluster_ref.Stranger name)) e) = omega arith
frame_most d k f = omega arith

pub get_most : (d : Declared) (k : Client) (q : Packet) → (get d k (Some q)).client.receipts ≤ k.receipts + one (positioned q.frame)
unfolding get
get_most d k q = on_if (λ (j : Client). j.receipts ≤ k.receipts + one (positioned q.frame)) (q.session == k.connection) _ _ (frame_most d k q.frame) (omega arith)

pub get_none : (d : Declared) (k : Client) → (get d k None).client.receipts ≡ k.receipts
unfolding get
get_none d k = refl

-- ---- a packet that is there is in a cell that is there

row_in : (r : List Link) (j : ℕ) (q : Packet) → slice_get (slice_index_or r j no_link).sent (slice_index_or r j no_link).taken ≡ Some q → j < length r
row_in r j q at =
    elim (below_or j (length r)) [
      | inl lt ↦ lt
      | inr le ↦ absurd (none-some q (subst (λ (l : Link). slice_get l.sent l.taken ≡ Some q) (get_or_past r j no_link le) at))
    ]

table_in : (m : List (List Link)) (i j : ℕ) (q : Packet) → slice_get (cell m i j).sent (cell m i j).taken ≡ Some q → i < length m
table_in m i j q at =
    elim (below_or i (length m)) [
      | inl lt ↦ lt
      | inr le ↦ absurd (none-some q (subst (λ (r : List Link). slice_get (slice_index_or r j no_link).sent (slice_index_or r j no_link).taken ≡ Some q) (get_or_past m i [] le) at))
    ]

pub cell_taken : (m : List (List Link)) (i j : ℕ) (l : Link) (q : Packet) → slice_get (cell m i j).sent (cell m i j).taken ≡ Some q → cell (with_cell m i j l) i j ≡ l
cell_taken m i j l q at =
    ap (λ (r : List Link). slice_index_or r j no_link) (get_or-set_same m i (slice_set (slice_index_or m i []) j l) [] (table_in m i j q at))
    ∙ get_or-set_same (slice_index_or m i []) j l no_link (row_in (slice_index_or m i []) j q at)
