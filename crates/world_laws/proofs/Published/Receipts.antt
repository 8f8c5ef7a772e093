-- What a broker answers to those who published: a receipt is of what stands, and stays so.
use Rattle.std.proofs.Common.{◌≡◌, ℕ, ◌<◌, false, List, [], ◌∷◌, ◌++◌, length, refl, sym, ap, subst, ◌∙◌, arith}
use Rattle.std.specs.Prelude.{Option, Some, slice_get}
use Rattle.std.proofs.lemmas.Bool.Decides.{nat_tests}
use Rattle.std.proofs.lemmas.Bool.{false≢true}
use Rattle.world_laws.proofs.Types.{Entry, Frame, Ident, Out, Packet, Peer, Position}
use Rattle.world_laws.proofs.Types.frame
use Rattle.world_laws.proofs.Types.peer
use Rattle.world_laws.proofs.Types.write
use Rattle.geo_base.specs.Broker.{Broker, Site}
use Rattle.geo_base.specs.Entry.{same_stream, with_origin}
use Rattle.geo_base.specs.Forwarding.{closes}
use Rattle.geo_base.specs.Plan.{Plan, done, quiet_plan}
use Rattle.geo_base.specs.Planned.{Planned}
use Rattle.geo_base.specs.Position.{no_position}
use Rattle.geo_base.specs.Seeking.{restart}
use Rattle.geo_base.specs.Setup.{Setup, declared_at}
use Rattle.geo_base.specs.Topic.{accepts, next_position}
use Rattle.geo_base.specs.World.{World, site, topic_at}
use Rattle.world_laws.specs.Publishing.{IsReached, ReceiptHolds, StandsAt, ident_of}
use Rattle.world_laws.proofs.FrameContents.Sending.{answered_sends, fated_sends, seeks_sends, snaps_sends}
use Rattle.world_laws.proofs.OnceInOrder.Members.{get_last}
use Rattle.world_laws.proofs.Published.OwnMessages.{AllPublish, IsSent, Publishes, next_publishes, sent_is}
use Rattle.world_laws.proofs.Replicating.Effects.{Each, each_map}
use Rattle.world_laws.proofs.Replicating.Prefixes.{refused, same_self}
use Rattle.world_laws.proofs.Snapshotting.Answering.{Numbered}
use Rattle.world_laws.proofs.Snapshotting.Grows.{Lengthened}
use Rattle.world_laws.proofs.Snapshotting.Hearing.{grown_get}
use Rattle.world_laws.proofs.TopicOrder.NextPosition.{next_stands}
use Rattle.world_laws.proofs.Walks.Shapes.{IsReply, Offers, Reads, Served, Shape, Taken}

-- ---- what is refused is reached

pub refused_reached : (b : Broker) (i : Ident) → accepts b.entries i ≡ false → IsReached b i
refused_reached b i h =
    let r = refused b.entries i h in
    record { index = r.stands.place; entry = r.entry; stands = r.stands.is; same = r.same; reached = grind (arith, nat_tests, r.newer) }

-- ---- a topic that grows keeps what receipts say

pub stands_longer : (b b' : Broker) (i : Ident) (p : Position) → Lengthened b b' → StandsAt b i p → StandsAt b' i p
stands_longer b b' i p g h = record {
  index = h.index;
  entry = h.entry;
  stands = grown_get b.entries b'.entries b.ledgers b'.ledgers g h.index h.entry h.stands;
  named = h.named;
  at = g.index p h.index h.at;
}

pub reached_longer : (b b' : Broker) (i : Ident) → Lengthened b b' → IsReached b i → IsReached b' i
reached_longer b b' i g h =
    record { index = h.index; entry = h.entry; stands = grown_get b.entries b'.entries b.ledgers b'.ledgers g h.index h.entry h.stands; same = h.same; reached = h.reached }

pub receipt_longer : (b b' : Broker) (i : Ident) (o : Option Position) → Lengthened b b' → ReceiptHolds b i o → ReceiptHolds b' i o
receipt_longer b b' i o g h = record {
  position = h.position;
  told = h.told;
  stored = λ is. stands_longer b b' i h.position g (h.stored is);
  reached = reached_longer b b' i g h.reached;
}

-- ---- what a broker answers to a client

abbrev pub ReceiptOut : Setup → ℕ → ℕ → Broker → Frame → Peer → Type 0
ReceiptOut s t x b (frame.SendReceipt id seq o) (peer.Client c) =
    (t ≡ (declared_at s c).topic) × (x ≡ (declared_at s c).cluster) × ReceiptHolds b (ident_of (declared_at s c) seq) o
ReceiptOut s t x b f q = Unit {0}

abbrev pub ReceiptsOut : Setup → ℕ → ℕ → Broker → List Out → Type 0
ReceiptsOut s t x b os = Each (λ (o : Out). ReceiptOut s t x b o.frame o.to) os

reply_no_receipt : (s : Setup) (t x c : ℕ) (b : Broker) (f : Frame) → IsReply f → ReceiptOut s t x b f (peer.Client c)
reply_no_receipt s t x c b (frame.ProducerSuccess request n) h = tt
reply_no_receipt s t x c b (frame.Error request code) h = tt
reply_no_receipt s t x c b (frame.Success request) h = tt
reply_no_receipt s t x c b (frame.SendError id seq code) h = tt
reply_no_receipt s t x c b frame.Pong h = tt
reply_no_receipt s t x c b f h = absurd h

stored_receipt : (s : Setup) (t x c id seq : ℕ) (b : Broker) (e : Entry) → t ≡ (declared_at s c).topic → Numbered b.entries b.ledgers → IsSent s c x seq e
    → ReceiptHolds (done s.per_ledger b (record { idle = false; writes = write.Append (with_origin x e) ∷ []; changes = []; sent = [] })) (ident_of (declared_at s c) seq) (Some (next_position s.per_ledger b.ledgers))
stored_receipt s t x c id seq b e topic numbered sent =
    let i = ident_of (declared_at s c) seq in let e' = with_origin x e in
    let stands : slice_get (b.entries ++ e' ∷ []) (length b.entries) ≡ Some e' = get_last b.entries e' in
    record {
      position = next_position s.per_ledger b.ledgers;
      told = refl;
      stored = λ is. record {
        index = length b.entries;
        entry = e';
        stands = stands;
        named = sent.named;
        at = next_stands s.per_ledger b.ledgers numbered.some ∙ ap (λ (n : ℕ). Some n) numbered.whole;
      };
      reached = record {
        index = length b.entries;
        entry = e';
        stands = stands;
        same = ap (λ (j : Ident). same_stream j i) sent.named ∙ same_self i;
        reached = let q = ap (λ (j : Ident). j.seq) sent.named in omega (arith, q);
      };
    }

served_receipts : (s : Setup) (t x c : ℕ) (b : Broker) (p : Packet) (q : Plan) → t ≡ (declared_at s c).topic → (c < length s.clients → Numbered b.entries b.ledgers)
    → Publishes s c x p.session p.frame → Served (site s t x) b c p q → ReceiptsOut s t x (done s.per_ledger b q) q.sent
served_receipts s t x c b p q topic numbered pubs Served.Ignores = tt
served_receipts s t x c b p q topic numbered pubs Served.Disconnects = tt
served_receipts s t x c b p q topic numbered pubs (Served.Connects v is new) = (tt, tt)
served_receipts s t x c b p q topic numbered pubs (Served.Answers v f at) = (reply_no_receipt s t x c _ f at.1, tt)
served_receipts s t x c b p q topic numbered pubs (Served.ChangesProducers v ps f at) = (reply_no_receipt s t x c _ f at.1, tt)
served_receipts s t x c b p q topic numbered pubs (Served.Stores v id seq source e at sound new) =
    let sent = sent_is s c x id seq p.session source e p.frame (site s t x) sound.1.0 sound.0 sound.1.2 pubs in
    ((topic, sent.here, stored_receipt s t x c id seq b e topic (numbered sent.declared) sent), tt)
served_receipts s t x c b p q topic numbered pubs (Served.Repeats v id seq source e at sound old) =
    let sent = sent_is s c x id seq p.session source e p.frame (site s t x) sound.1.0 sound.0 sound.1.2 pubs in
    let i = ident_of (declared_at s c) seq in (
      (
        topic,
        sent.here,
        record {
          position = no_position;
          told = refl;
          stored = λ is. absurd (false≢true (sym is));
          reached = refused_reached b i (subst (λ (j : Ident). accepts b.entries j ≡ false) sent.named old);
        },
      ),
      tt,
    )
served_receipts s t x c b p q topic numbered pubs (Served.Creates v topic' n kind id request consumer earliest replicated at is may named) = (tt, tt)
served_receipts s t x c b p q topic numbered pubs (Served.Joins v topic' n kind id request consumer earliest replicated u at is may named free same) = (tt, tt)
served_receipts s t x c b p q topic numbered pubs (Served.Alters v topic' n kind id request consumer earliest replicated u at is may named free other) = (tt, tt)
served_receipts s t x c b p q topic numbered pubs (Served.Permits v id permits u at is by) = tt
served_receipts s t x c b p q topic numbered pubs (Served.Acknowledges v id kind ps u i is ws at sent by of after) = tt
served_receipts s t x c b p q topic numbered pubs (Served.Unsubscribes v id request u at is by last) = (tt, tt)
served_receipts s t x c b p q topic numbered pubs (Served.ClosesConsumer v id request u at is by) = (tt, tt)

-- no receipt goes to a client but of what it published
abbrev NoClient : Peer → Type 0
NoClient (peer.Client c) = ⊥
NoClient q = Unit {0}

abbrev NoReceipt : Frame → Peer → Type 0
NoReceipt (frame.SendReceipt id seq o) q = NoClient q
NoReceipt f q = Unit {0}

none_out : (s : Setup) (t x : ℕ) (b : Broker) (f : Frame) (q : Peer) → NoReceipt f q → ReceiptOut s t x b f q
none_out s t x b (frame.SendReceipt id seq o) (peer.Client c) h = absurd h
none_out s t x b f q h = tt

abbrev NoReceipts : List Out → Type 0
NoReceipts os = Each (λ (o : Out). NoReceipt o.frame o.to) os

none_outs : (s : Setup) (t x : ℕ) (b : Broker) (os : List Out) → NoReceipts os → ReceiptsOut s t x b os
none_outs s t x b os h = each_map (λ (o : Out). NoReceipt o.frame o.to) (λ (o : Out). ReceiptOut s t x b o.frame o.to) (λ o. none_out s t x b o.frame o.to) os h

taken_no_receipt : (h : Site) (b : Broker) (x : ℕ) (p : Packet) (q : Plan) → Taken h b x p q → NoReceipts q.sent
taken_no_receipt h b x p q (Taken.Stores id seq source e is at may new) = (tt, tt)
taken_no_receipt h b x p q (Taken.Unreadable is) = tt
taken_no_receipt h b x p q (Taken.Opens topic id request name is opening) = (tt, tt)
taken_no_receipt h b x p q (Taken.Discards else shut) = tt
taken_no_receipt h b x p q (Taken.Refuses else at may) = tt
taken_no_receipt h b x p q (Taken.Repeats id seq source e is at may old) = (tt, tt)

reads_no_receipt : (h : Site) (b : Broker) (y : ℕ) (q : Plan) → Reads h b y q → NoReceipts q.sent
reads_no_receipt h b y q Reads.NothingToRead = tt
reads_no_receipt h b y q (Reads.Forwards i e next out) = (tt, tt)
reads_no_receipt h b y q (Reads.Skips i e next other) = tt
reads_no_receipt h b y q (Reads.Responds i e id source next of is) = tt
reads_no_receipt h b y q (Reads.Counts i e id answer u u' next is heard) = tt
reads_no_receipt h b y q (Reads.AsksAgain i e id answer u u' next is heard) = tt
reads_no_receipt h b y q (Reads.Completes i e id answer u u' next is heard) = tt
reads_no_receipt h b y q (Reads.CreatesAt i j e n remote next is named) = tt
reads_no_receipt h b y q (Reads.ActsOnUpdate i j e n remote v ws next is named after) = tt

offers_no_receipt : (h : Site) (b : Broker) (n : List ℕ) (q : Plan) → Offers h b n q → NoReceipts q.sent
offers_no_receipt h b n q Offers.NothingToOffer = tt
offers_no_receipt h b n q (Offers.Gives v i at e due is picked) = (tt, tt)
offers_no_receipt h b n q (Offers.SkipsMarker v i e ws due is after) = tt
offers_no_receipt h b n q (Offers.Caches v i j e c ws due is after) = tt

pub shape_receipts : (s : Setup) (w : World) (p : Planned) → Shape s w p → AllPublish s w → ((c : ℕ) → c < length s.clients → p.topic ≡ (declared_at s c).topic → Numbered (topic_at s w p.topic p.cluster).entries (topic_at s w p.topic p.cluster).ledgers)
    → ReceiptsOut s p.topic p.cluster (done s.per_ledger (topic_at s w p.topic p.cluster) p.plan) p.plan.sent
unfolding restart
shape_receipts s w p (Shape.Idle t x within) all numbered = tt
shape_receipts s w p (Shape.Empty t x k within next) all numbered = tt
shape_receipts s w p (Shape.Serve x c q plan within next served) all numbered =
    served_receipts s (declared_at s c).topic x c _ q plan refl (λ declared. numbered c declared refl) (next_publishes s w c x q all next) served
shape_receipts s w p (Shape.Drop x c v within at) all numbered = tt
shape_receipts s w p (Shape.Reset t x y within remote) all numbered = (tt, tt)
shape_receipts s w p (Shape.Read t x y plan within reads) all numbered = none_outs s t x _ plan.sent (reads_no_receipt _ _ y plan reads)
shape_receipts s w p (Shape.Take t x y q plan within next taken) all numbered =
    none_outs s t y _ plan.sent (fated_sends (λ (o : Out). NoReceipt o.frame o.to) s.per_ledger _ _ (closes x) plan (λ b r k. taken_no_receipt (site s t y) b x q r k) tt taken)
shape_receipts s w p (Shape.Receipt t x y q plan within next answered) all numbered =
    none_outs s t x _ plan.sent
    (fated_sends (λ (o : Out). NoReceipt o.frame o.to) s.per_ledger _ _ (quiet_plan []) plan (λ b r k. answered_sends (λ (o : Out). NoReceipt o.frame o.to) b y q r k) tt answered)
shape_receipts s w p (Shape.Snap t x plan within snaps) all numbered = none_outs s t x _ plan.sent (snaps_sends (λ (o : Out). NoReceipt o.frame o.to) _ _ plan snaps)
shape_receipts s w p (Shape.Offer t x n plan within offers) all numbered = none_outs s t x _ plan.sent (offers_no_receipt _ _ _ plan offers)
shape_receipts s w p (Shape.Seek t x n to plan within seeks) all numbered = none_outs s t x _ plan.sent (seeks_sends (λ (o : Out). NoReceipt o.frame o.to) _ _ _ to plan seeks)
shape_receipts s w p (Shape.Restart t x within) all numbered = tt
