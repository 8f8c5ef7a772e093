-- An event sends a client no receipt with a position, or stores a message of that client's and sends it one.
use Rattle.std.proofs.Common.{◌≡◌, ℕ, ◌≤◌, Bool, true, false, List, [], ◌∷◌, refl, ap, subst, ◌∙◌, ◌==◌, arith, inl, inr, ◌⊎◌}
use Rattle.std.specs.Prelude.{Some, if◌then◌else◌}
use Rattle.std.proofs.lemmas.Bool.{eqb-true}
use Rattle.world_laws.proofs.Types.{Entry, Frame, Ident, Out, Packet}
use Rattle.world_laws.proofs.Types.frame
use Rattle.world_laws.proofs.Types.peer
use Rattle.world_laws.proofs.Types.write
use Rattle.geo_base.specs.Broker.{Broker, Site}
use Rattle.geo_base.specs.Entry.{same_stream, with_origin}
use Rattle.geo_base.specs.Forwarding.{closes}
use Rattle.geo_base.specs.Getting.{answered}
use Rattle.geo_base.specs.Plan.{Plan, quiet_plan}
use Rattle.geo_base.specs.Planned.{Planned}
use Rattle.geo_base.specs.Seeking.{restart}
use Rattle.geo_base.specs.Setup.{Declared, Setup, declared_at}
use Rattle.geo_base.specs.Topic.{next_position}
use Rattle.geo_base.specs.World.{World, site}
use Rattle.world_laws.specs.Publishing.{ident_of, is_produced_by}
use Rattle.world_laws.proofs.FrameContents.Sending.{answered_sends, fated_sends, seeks_sends, snaps_sends}
use Rattle.world_laws.proofs.Published.OwnMessages.{AllPublish, Publishes, next_publishes, sent_is}
use Rattle.world_laws.proofs.Published.ReceiptCounts.{one, out_one, outs, positioned}
use Rattle.world_laws.proofs.Replicating.Effects.{Each}
use Rattle.world_laws.proofs.Replicating.Prefixes.{same_self}
use Rattle.world_laws.proofs.Walks.Shapes.{IsReply, Offers, Reads, Served, Shape, Taken}

-- ---- who is sent one

zero_either : (b : Bool) → (if b then one false else one false) ≡ one false
zero_either true = refl
zero_either false = refl

-- no receipt with a position goes to c
abbrev pub ZeroOut : ℕ → Out → Type 0
ZeroOut c o = out_one c o.frame o.to ≡ 0

pub zero_outs : (c : ℕ) (os : List Out) → Each (ZeroOut c) os → outs c os ≡ 0
zero_outs c [] h = refl
zero_outs c (o ∷ os) h = let a = h.0 in let b = zero_outs c os h.1 in omega (arith, a, b)

reply_zero : (c z : ℕ) (f : Frame) → IsReply f → out_one c f (peer.Client z) ≡ 0
reply_zero c z (frame.ProducerSuccess request n) h = zero_either (z == c)
reply_zero c z (frame.Error request code) h = zero_either (z == c)
reply_zero c z (frame.Success request) h = zero_either (z == c)
reply_zero c z (frame.SendError id seq code) h = zero_either (z == c)
reply_zero c z frame.Pong h = zero_either (z == c)
reply_zero c z f h = absurd h

taken_zero : (c : ℕ) (h : Site) (b : Broker) (x : ℕ) (p : Packet) (q : Plan) → Taken h b x p q → Each (ZeroOut c) q.sent
taken_zero c h b x p q (Taken.Stores id seq source e is at may new) = (refl, tt)
taken_zero c h b x p q (Taken.Unreadable is) = tt
taken_zero c h b x p q (Taken.Opens topic id request name is opening) = (refl, tt)
taken_zero c h b x p q (Taken.Discards away shut) = tt
taken_zero c h b x p q (Taken.Refuses away at may) = tt
taken_zero c h b x p q (Taken.Repeats id seq source e is at may old) = (refl, tt)

reads_zero : (c : ℕ) (h : Site) (b : Broker) (y : ℕ) (q : Plan) → Reads h b y q → Each (ZeroOut c) q.sent
reads_zero c h b y q Reads.NothingToRead = tt
reads_zero c h b y q (Reads.Forwards i e next out) = (refl, tt)
reads_zero c h b y q (Reads.Skips i e next other) = tt
reads_zero c h b y q (Reads.Responds i e id source next of is) = tt
reads_zero c h b y q (Reads.Counts i e id answer u u' next is heard) = tt
reads_zero c h b y q (Reads.AsksAgain i e id answer u u' next is heard) = tt
reads_zero c h b y q (Reads.Completes i e id answer u u' next is heard) = tt
reads_zero c h b y q (Reads.CreatesAt i j e n remote next is named) = tt
reads_zero c h b y q (Reads.ActsOnUpdate i j e n remote v ws next is named after) = tt

offers_zero : (c : ℕ) (h : Site) (b : Broker) (n : List ℕ) (q : Plan) → Offers h b n q → Each (ZeroOut c) q.sent
offers_zero c h b n q Offers.NothingToOffer = tt
offers_zero c h b n q (Offers.Gives v i at e due is picked) = (zero_either _, tt)
offers_zero c h b n q (Offers.SkipsMarker v i e ws due is after) = tt
offers_zero c h b n q (Offers.Caches v i j e k ws due is after) = tt

-- an event sends c no receipt with a position, or stores a message of c's and sends it one
pub record StoresOne (s : Setup) (c t x : ℕ) (q : Plan) : Type 0 where
  pub entry : Entry
  pub writes : q.writes ≡ write.Append entry ∷ []
  pub topic : t ≡ (declared_at s c).topic
  pub cluster : x ≡ (declared_at s c).cluster
  pub its : is_produced_by (declared_at s c) entry ≡ true
  pub most : outs c q.sent ≤ 1

abbrev pub FewOut : Setup → ℕ → ℕ → ℕ → Plan → Type 0
FewOut s c t x q = Each (ZeroOut c) q.sent ⊎ StoresOne s c t x q

one_most : (b : Bool) → one b ≤ 1
one_most true = omega arith
one_most false = omega arith

-- what d published is produced by d
its_own : (d : Declared) (e : Entry) (seq : ℕ) → e.ident ≡ ident_of d seq → is_produced_by d e ≡ true
its_own d e seq is = ap (λ (i : Ident). same_stream i (ident_of d 0)) is ∙ same_self (ident_of d 0)

served_receipts : (s : Setup) (c x z : ℕ) (b : Broker) (p : Packet) (q : Plan) → Publishes s z x p.session p.frame → Served (site s (declared_at s z).topic x) b z p q
    → FewOut s c (declared_at s z).topic x q
served_receipts s c x z b p q pubs Served.Ignores = inl tt
served_receipts s c x z b p q pubs Served.Disconnects = inl tt
served_receipts s c x z b p q pubs (Served.Connects v is new) = inl (zero_either (z == c), tt)
served_receipts s c x z b p q pubs (Served.Answers v f at) = inl (reply_zero c z f at.1, tt)
served_receipts s c x z b p q pubs (Served.ChangesProducers v ps f at) = inl (reply_zero c z f at.1, tt)
served_receipts s c x z b p q pubs (Served.Stores v id seq source e at sound new) =
    let sent = sent_is s z x id seq p.session source e p.frame (site s (declared_at s z).topic x) sound.1.0 sound.0 sound.1.2 pubs in
    by (z == c) refl sent.here (its_own (declared_at s z) (with_origin x e) seq sent.named)
  where
    o : Out
    o = record { to = peer.Client z; session = v.number; frame = frame.SendReceipt id seq (Some (next_position s.per_ledger b.ledgers)) }

    plan : Plan
    plan = record { idle = false; writes = write.Append (with_origin x e) ∷ []; changes = []; sent = o ∷ [] }

    by : (t : Bool) → (z == c) ≡ t → x ≡ (declared_at s z).cluster → is_produced_by (declared_at s z) (with_origin x e) ≡ true → FewOut s c (declared_at s z).topic x plan
    by true is here its =
        let same = eqb-true z c is in
        let most : outs c (o ∷ []) ≤ 1 =
        (let m = one_most (positioned o.frame) in let k = ap (λ (t : Bool). if t then one (positioned o.frame) else 0) is in omega (arith, m, k)) in
        inr (record {
          entry = with_origin x e;
          writes = refl;
          topic = ap (λ (i : ℕ). (declared_at s i).topic) same;
          cluster = subst (λ (i : ℕ). x ≡ (declared_at s i).cluster) same here;
          its = subst (λ (i : ℕ). is_produced_by (declared_at s i) (with_origin x e) ≡ true) same its;
          most = most;
        })
    by false is here its = inl (ap (λ (t : Bool). if t then one (positioned o.frame) else 0) is, tt)
served_receipts s c x z b p q pubs (Served.Repeats v id seq source e at sound old) = inl (zero_either (z == c), tt)
served_receipts s c x z b p q pubs (Served.Creates v topic n kind id request consumer earliest replicated at is may named) = inl (zero_either (z == c), tt)
served_receipts s c x z b p q pubs (Served.Joins v topic n kind id request consumer earliest replicated u at is may named free same) = inl (zero_either (z == c), tt)
served_receipts s c x z b p q pubs (Served.Alters v topic n kind id request consumer earliest replicated u at is may named free other) = inl (zero_either (z == c), tt)
served_receipts s c x z b p q pubs (Served.Permits v id permits u at is by) = inl tt
served_receipts s c x z b p q pubs (Served.Acknowledges v id kind ps u i is ws at sent by of after) = inl tt
served_receipts s c x z b p q pubs (Served.Unsubscribes v id request u at is by last) = inl (zero_either (z == c), tt)
served_receipts s c x z b p q pubs (Served.ClosesConsumer v id request u at is by) = inl (zero_either (z == c), tt)

pub shape_few : (s : Setup) (w : World) (c : ℕ) (p : Planned) → Shape s w p → AllPublish s w → FewOut s c p.topic p.cluster p.plan
unfolding restart
shape_few s w c p (Shape.Idle t x within) all = inl tt
shape_few s w c p (Shape.Empty t x k within next) all = inl tt
shape_few s w c p (Shape.Serve x z q plan within next served) all = served_receipts s c x z _ q plan (next_publishes s w z x q all next) served
shape_few s w c p (Shape.Drop x z v within at) all = inl tt
shape_few s w c p (Shape.Reset t x y within remote) all = inl (refl, tt)
shape_few s w c p (Shape.Read t x y plan within reads) all = inl (reads_zero c _ _ y plan reads)
shape_few s w c p (Shape.Take t x y q plan within next taken) all =
    inl (fated_sends (ZeroOut c) s.per_ledger _ _ (closes x) plan (λ b r k. taken_zero c (site s t y) b x q r k) tt taken)
shape_few s w c p (Shape.Receipt t x y q plan within next answered) all =
    inl (fated_sends (ZeroOut c) s.per_ledger _ _ (quiet_plan []) plan (λ b r k. answered_sends (ZeroOut c) b y q r k) tt answered)
shape_few s w c p (Shape.Snap t x plan within snaps) all = inl (snaps_sends (ZeroOut c) _ _ plan snaps)
shape_few s w c p (Shape.Offer t x n plan within offers) all = inl (offers_zero c _ _ _ plan offers)
shape_few s w c p (Shape.Seek t x n to plan within seeks) all = inl (seeks_sends (ZeroOut c) _ _ _ to plan seeks)
shape_few s w c p (Shape.Restart t x within) all = inl tt
