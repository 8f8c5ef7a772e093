-- What a client gets stands at a cluster: the identity that it notes is that of the entry that the packet carries.
use Rattle.std.proofs.Common.{◌≡◌, ℕ, ◌<◌, Bool, true, false, [], ◌∷◌, length, refl, sym, ap, subst, ◌==◌}
use Rattle.std.specs.List.{list_any}
use Rattle.std.specs.Prelude.{Option, Some, None, if◌then◌else◌}
use Rattle.std.proofs.lemmas.Bool.{eqb-true}
use Rattle.std.proofs.lemmas.Option.{none-some, same_Some}
use Rattle.world_laws.proofs.Types.{Entry, Frame, Ident, Packet, ClusterRef, Position}
use Rattle.world_laws.proofs.Types.frame
use Rattle.world_laws.proofs.Types.cluster_ref
use Rattle.geo_base.specs.Client.{Client}
use Rattle.geo_base.specs.Entry.{with_origin}
use Rattle.geo_base.specs.Getting.{answered, get, got_frame, is_duplicate, is_number, publishes, received, with_error, with_receipt}
use Rattle.geo_base.specs.Offering.{source_of}
use Rattle.geo_base.specs.Setup.{Declared, Setup}
use Rattle.geo_base.specs.World.{World, topic_at}
use Rattle.world_laws.specs.Publishing.{MessageHolds}
use Rattle.world_laws.proofs.Published.Chained.{GotThere}
use Rattle.world_laws.proofs.Published.ClientPackets.{Messaged}
use Rattle.world_laws.proofs.Replicating.Effects.{Each, each_both}
use Rattle.world_laws.proofs.Walks.Walk.{on_if}

-- a message without a source was stored first where it stands, one with a source there
source_none : (y : ℕ) (e : Entry) → None ≡ source_of y e → e.ident ≡ (with_origin y e).ident
source_none y e from = by (e.ident.origin == y) refl from
  where
    by : (b : Bool) → (e.ident.origin == y) ≡ b → None ≡ (if b then None else Some (cluster_ref.Known e.ident.origin)) → e.ident ≡ (with_origin y e).ident
    by true is from = ap (λ (z : ℕ). (with_origin z e).ident) (eqb-true e.ident.origin y is)
    by false is from = absurd (none-some _ from)

known_origin : ClusterRef → ℕ
known_origin (cluster_ref.Known x) = x
known_origin (cluster_ref.Stranger n) = 0

source_known : (y x : ℕ) (e : Entry) → Some (cluster_ref.Known x) ≡ source_of y e → e.ident ≡ (with_origin x e).ident
unfolding known_origin
source_known y x e from = by (e.ident.origin == y) refl from
  where
    by : (b : Bool) → (e.ident.origin == y) ≡ b → Some (cluster_ref.Known x) ≡ (if b then None else Some (cluster_ref.Known e.ident.origin)) → e.ident ≡ (with_origin x e).ident
    by true is from = absurd (none-some _ (sym from))
    by false is from = ap (λ (z : ℕ). (with_origin z e).ident) (sym (ap known_origin (same_Some _ _ from)))

-- what adds nothing
pub record SameGot (k j : Client) : Type 0 where
  pub is : j.got ≡ k.got

pub answered_got : (d : Declared) (k : Client) (n : ℕ) (counted : Client) → SameGot k counted → SameGot k (answered d k n counted)
answered_got d k n counted h = on_if (SameGot k) (list_any (publishes d n) k.unanswered) _ _ (record { is = h.is }) (record { is = refl })

pub receipt_got : (k : Client) (t : Bool) → SameGot k (with_receipt k t)
receipt_got k true = record { is = refl }
receipt_got k false = record { is = refl }

same_got : (P : Ident → Type 0) (k j : Client) → SameGot k j → Each P k.got → Each P j.got
same_got P k j s h = subst (Each P) (sym s.is) h

received_got : (P : Ident → Type 0) (k : Client) (id : ℕ) (i : Ident) (p : Position) → P i → Each P k.got → Each P (received k id i p).got
received_got P k id i p new h = on_if (λ (j : Client). Each P j.got) (is_number id k.sub) _ _ (each_both P k.got (i ∷ []) h (new, tt)) h

stored_there : (s : Setup) (w : World) (t y : ℕ) (p : Position) (source : Option ClusterRef) (e : Entry) (i : Ident) → y < length s.clusters → MessageHolds (topic_at s w t y) y p source e → e.ident ≡ i → GotThere s w t i
stored_there s w t y p source e i lt h is = (y, lt, record { index = h.index; entry = e; stands = h.stands; message = h.message; named = is })

frame_got : (s : Setup) (w : World) (t : ℕ) (d : Declared) (k : Client) (f : Frame) (session : ℕ) → k.cluster < length s.clusters → Messaged k.cluster (topic_at s w t k.cluster) session f → Each (GotThere s w t) k.got
    → Each (GotThere s w t) (got_frame d k f).got
frame_got s w t d k (frame.SendReceipt id n p) session lt m h = same_got (GotThere s w t) k _ (answered_got d k n (with_receipt k (is_duplicate p)) (receipt_got k (is_duplicate p))) h
frame_got s w t d k (frame.SendError id n code) session lt m h = same_got (GotThere s w t) k _ (answered_got d k n (with_error k) (record { is = refl })) h
frame_got s w t d k (frame.Error request code) session lt m h = h
frame_got s w t d k (frame.Message id p None e) session lt m h =
    received_got (GotThere s w t) k id (with_origin k.cluster e).ident p (stored_there s w t k.cluster p None e _ lt m (source_none k.cluster e m.from)) h
frame_got s w t d k (frame.Message id p (Some (cluster_ref.Known x)) e) session lt m h =
    received_got (GotThere s w t) k id (with_origin x e).ident p (stored_there s w t k.cluster p (Some (cluster_ref.Known x)) e _ lt m (source_known k.cluster x e m.from)) h
frame_got s w t d k (frame.Message id p (Some (cluster_ref.Stranger name)) e) session lt m h = h
frame_got s w t d k f session lt m h = h

pub get_got : (s : Setup) (w : World) (t : ℕ) (d : Declared) (k : Client) (o : Option Packet) → k.cluster < length s.clusters → ((q : Packet) → o ≡ Some q → Messaged k.cluster (topic_at s w t k.cluster) q.session q.frame)
    → Each (GotThere s w t) k.got → Each (GotThere s w t) (get d k o).client.got
unfolding get
get_got s w t d k None lt m h = h
get_got s w t d k (Some q) lt m h = on_if (λ (j : Client). Each (GotThere s w t) j.got) (q.session == k.connection) _ _ (frame_got s w t d k q.frame q.session lt (m q refl) h) h
