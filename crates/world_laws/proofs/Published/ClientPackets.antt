-- The packets on a client's two links: what came to it holds where it came from, and what it sent is what it publishes at home.
use Rattle.std.proofs.Common.{◌≡◌, ℕ, ◌<◌, List, [], ◌∷◌, length, sym, subst, ◌∙◌}
use Rattle.world_laws.proofs.Types.{Frame, Out, Packet, Peer}
use Rattle.world_laws.proofs.Types.frame
use Rattle.world_laws.proofs.Types.peer
use Rattle.geo_base.specs.Broker.{Broker}
use Rattle.geo_base.specs.Link.{Link, sent_on}
use Rattle.geo_base.specs.Setup.{Declared, Setup, declared_at}
use Rattle.geo_base.specs.World.{Links, cell, delivered, from_client, link_at, stamped, with_cell, with_link}
use Rattle.world_laws.specs.Publishing.{MessageHolds, ReceiptHolds, ident_of}
use Rattle.world_laws.proofs.Clients.ClientLinks.{OutHere, Packets, SentUp, ToHere}
use Rattle.world_laws.proofs.Induction.Frames.{cell_set}
use Rattle.world_laws.proofs.Published.Homes.{HomeOut, HomeSend}
use Rattle.world_laws.proofs.Published.Messages.{MessageOut, MessagesOut, message_longer}
use Rattle.world_laws.proofs.Published.OwnMessages.{Publishes}
use Rattle.world_laws.proofs.Published.Receipts.{ReceiptOut, ReceiptsOut, receipt_longer}
use Rattle.world_laws.proofs.Replicating.Effects.{Each, each_both, each_map}
use Rattle.world_laws.proofs.Snapshotting.Grows.{Lengthened}

-- ---- packets to a client

-- a SEND_RECEIPT to a client that is declared as d, from x, where its topic is b, holds
abbrev pub Receipted : Declared → ℕ → Broker → ℕ → Frame → Type 0
Receipted d x b session (frame.SendReceipt id seq o) = (x ≡ d.cluster) × ReceiptHolds b (ident_of d seq) o
Receipted d x b session f = Unit {0}

-- a MESSAGE from x, where the topic is b, holds
abbrev pub Messaged : ℕ → Broker → ℕ → Frame → Type 0
Messaged x b session (frame.Message id p source e) = MessageHolds b x p source e
Messaged x b session f = Unit {0}

-- so does what is sent to a client
abbrev pub Told : Declared → ℕ → Broker → ℕ → Frame → Type 0
Told d x b session f = Receipted d x b session f × Messaged x b session f

-- and it still does where the topic has grown
told_longer : (d : Declared) (x : ℕ) (b b' : Broker) (session : ℕ) (f : Frame) → Lengthened b b' → Told d x b session f → Told d x b' session f
told_longer d x b b' session (frame.SendReceipt id seq o) g h = ((h.0.0, receipt_longer b b' (ident_of d seq) o g h.0.1), tt)
told_longer d x b b' session (frame.Message id p source e) g h = (tt, message_longer b b' x p source e g h.1)
told_longer d x b b' session f g h = (tt, tt)

pub packets_longer : (d : Declared) (x : ℕ) (b b' : Broker) (ps : List Packet) → Lengthened b b' → Packets (Told d x b) ps → Packets (Told d x b') ps
packets_longer d x b b' ps g all = each_map (λ (p : Packet). Told d x b p.session p.frame) (λ (p : Packet). Told d x b' p.session p.frame) (λ p h. told_longer d x b b' p.session p.frame g h) ps all

-- what an event sends to client c on its link to x, b being the broker after it and b' that of c's topic at x
told_here : (s : Setup) (t y c x session : ℕ) (b b' : Broker) (f : Frame) (q : Peer) → (t ≡ (declared_at s c).topic → y ≡ x → b ≡ b') → ReceiptOut s t y b f q → MessageOut s t y b f q
    → ToHere c x y (Told (declared_at s c) x b') session f q
told_here s t y c x session b b' (frame.SendReceipt id seq o) (peer.Client z) same r m = λ e here.
    let R : ℕ → Type 0 = λ k. (t ≡ (declared_at s k).topic) × (y ≡ (declared_at s k).cluster) × ReceiptHolds b (ident_of (declared_at s k) seq) o in
    let h : R c = subst R e r in
    ((sym here ∙ h.1, subst (λ (u : Broker). ReceiptHolds u (ident_of (declared_at s c) seq) o) (same h.0 here) h.2), tt)
told_here s t y c x session b b' (frame.Message id p source e') (peer.Client z) same r m = λ e here.
    let M : ℕ → Type 0 = λ k. (t ≡ (declared_at s k).topic) × MessageHolds b y p source e' in
    let h : M c = subst M e m in
    (tt, subst (λ (v : ℕ). MessageHolds b' v p source e') here (subst (λ (u : Broker). MessageHolds u y p source e') (same h.0 here) h.1))
told_here s t y c x session b b' f (peer.Client z) same r m = λ e here. (tt, tt)
told_here s t y c x session b b' f q same r m = tt

pub told_outs : (s : Setup) (t y c x : ℕ) (b b' : Broker) (os : List Out) → (t ≡ (declared_at s c).topic → y ≡ x → b ≡ b') → ReceiptsOut s t y b os → MessagesOut s t y b os
    → Each (OutHere c x y (Told (declared_at s c) x b')) os
told_outs s t y c x b b' [] same r m = tt
told_outs s t y c x b b' (o ∷ os) same r m = (told_here s t y c x o.session b b' o.frame o.to same r.0 m.0, told_outs s t y c x b b' os same r.1 m.1)

-- ---- packets of a client

-- the broker on whose link a client sends
abbrev peer_number : Peer → ℕ
peer_number (peer.Broker x) = x
peer_number (peer.Forward x) = x
peer_number (peer.Back x) = x
peer_number (peer.Client x) = x

-- what client z sends, where each that goes to y has Q
up_one : (z stamp c y : ℕ) (Q : ℕ → Frame → Type 0) (o : Out) (to : Peer) (ls : Links) → (z ≡ c → peer_number to ≡ y → Q o.session o.frame) → Packets Q (SentUp ls c y)
    → Packets Q (SentUp (with_link ls (from_client z to) (sent_on (link_at ls (from_client z to)) (stamped stamp o))) c y)
up_one z stamp c y Q o to ls h all = by to h
  where
    P : Packet → Type 0
    P p = Q p.session p.frame

    at : (x : ℕ) → (z ≡ c → x ≡ y → Q o.session o.frame) → Each P (cell (with_cell ls.to_broker z x (sent_on (cell ls.to_broker z x) (stamped stamp o))) c y).sent
    at x h =
        cell_set (λ (l : Link). Each P l.sent) ls.to_broker z x _ c y
        (λ e e'.
        let C : ℕ → ℕ → Type 0 = λ u v. Each P (cell ls.to_broker u v).sent in
        each_both P (cell ls.to_broker z x).sent (stamped stamp o ∷ []) (subst (λ (u : ℕ). C u x) (sym e) (subst (C c) (sym e') all)) (h e e', tt)) all

    by : (q : Peer) → (z ≡ c → peer_number q ≡ y → Q o.session o.frame) → Packets Q (SentUp (with_link ls (from_client z q) (sent_on (link_at ls (from_client z q)) (stamped stamp o))) c y)
    by (peer.Broker x) h = at x h
    by (peer.Forward x) h = at x h
    by (peer.Back x) h = at x h
    by (peer.Client x) h = at x h

abbrev UpHere : ℕ → ℕ → ℕ → (ℕ → Frame → Type 0) → Out → Type 0
UpHere z c y Q o = z ≡ c → peer_number o.to ≡ y → Q o.session o.frame

pub up_all : (z stamp c y : ℕ) (Q : ℕ → Frame → Type 0) (os : List Out) (ls : Links) → Each (UpHere z c y Q) os → Packets Q (SentUp ls c y)
    → Packets Q (SentUp (delivered (from_client z) stamp os ls) c y)
up_all z stamp c y Q [] ls h all = all
up_all z stamp c y Q (o ∷ os) ls h all =
    up_all z stamp c y Q os (with_link ls (from_client z o.to) (sent_on (link_at ls (from_client z o.to)) (stamped stamp o))) h.1 (up_one z stamp c y Q o o.to ls h.0 all)

-- it sends at home alone
sent_home : (s : Setup) (z c x session : ℕ) (f : Frame) (q : Peer) → z < length s.clients → HomeSend s (declared_at s z) f q → z ≡ c → peer_number q ≡ x → Publishes s c x session f
sent_home s z c x session (frame.Send id seq source e) (peer.Broker y) lt h same here =
    subst (λ (k : ℕ). Publishes s k x session (frame.Send id seq source e)) same (lt, sym here ∙ h.0, h.1)
sent_home s z c x session (frame.Send id seq source e) q lt h same here = absurd h
sent_home s z c x session f q lt h same here = tt

pub all_sent_home : (s : Setup) (z c x : ℕ) (os : List Out) → z < length s.clients → Each (HomeOut s (declared_at s z)) os → Each (UpHere z c x (Publishes s c x)) os
all_sent_home s z c x os lt h = each_map (HomeOut s (declared_at s z)) (UpHere z c x (Publishes s c x)) (λ o k. sent_home s z c x o.session o.frame o.to lt k) os h
