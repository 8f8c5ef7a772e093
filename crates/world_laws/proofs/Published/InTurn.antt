-- A client's publishes come in turn: of one client whose pub lines rise, what its packets, the broker's open session, the topic and what it
-- awaits have to do with each other. Here are values alone.
use Rattle.std.proofs.Common.{◌≡◌, ◌==◌, ℕ, ◌<◌, ◌≤◌, true, false, List, [], ◌∷◌, ◌++◌, length, sym, ap, subst, ◌∙◌, arith, inl, inr, ◌⊎◌}
use Rattle.std.specs.Prelude.{Option, Some, slice_get}
use Rattle.std.specs.Str.{bytes_eq}
use Rattle.std.proofs.lemmas.Bool.Decides.{nat_tests}
use Rattle.std.proofs.lemmas.Bool.{eqb-true, false≢true}
use Rattle.std.proofs.lemmas.Slice.Eq.{bytes_eq-Decides}
use Rattle.world_laws.proofs.Types.{Entry, Frame, Ident, Packet, Session}
use Rattle.world_laws.proofs.Types.frame
use Rattle.geo_base.specs.Entry.{same_stream}
use Rattle.geo_base.specs.Getting.{seq_of}
use Rattle.geo_base.specs.Setup.{Declared}
use Rattle.geo_base.specs.Topic.{accepts}
use Rattle.world_laws.specs.Publishing.{ident_of}
use Rattle.world_laws.proofs.Clients.ClientLinks.{Packets}
use Rattle.world_laws.proofs.Dispatching.SubFrames.{each_at_place}
use Rattle.world_laws.proofs.OnceInOrder.Members.{Stands, below_or, get_last, get_left, stands_left}
use Rattle.world_laws.proofs.Replicating.Effects.{Each, each_both, each_map}
use Rattle.world_laws.proofs.Replicating.Prefixes.{Refuses, refused}
use Rattle.world_laws.proofs.Walks.Walk.{left, right}

-- a sequence id of a pub line
abbrev pub IsPub : Declared → ℕ → Type 0
IsPub d q = (n : ℕ) × (seq_of (slice_get d.lines n) ≡ Some q)

-- the message of a sequence id stands
pub record HasSeq (d : Declared) (es : List Entry) (q : ℕ) : Type 0 where
  pub entry : Entry
  pub stands : Stands es entry
  pub named : entry.ident ≡ ident_of d q

pub has_longer : (d : Declared) (es more : List Entry) (q : ℕ) → HasSeq d es q → HasSeq d (es ++ more) q
has_longer d es more q h = record { entry = h.entry; stands = stands_left es more h.entry h.stands; named = h.named }

-- a SEND of a sequence id
abbrev pub Asks : ℕ → Frame → Type 0
Asks q (frame.Send id seq source e) = seq ≡ q
Asks q f = ⊥

-- it has one sequence id
pub asks_same : (f : Frame) (q r : ℕ) → Asks q f → Asks r f → q ≡ r
asks_same (frame.Send id seq source e) q r a b = sym a ∙ b
asks_same f q r a b = absurd a

-- before place i a SEND of r went out in a session
pub record Earlier (us : List Packet) (i session r : ℕ) : Type 0 where
  pub place : ℕ
  pub packet : Packet
  pub before : place < i
  pub is : slice_get us place ≡ Some packet
  pub same : packet.session ≡ session
  pub asks : Asks r packet.frame

pub earlier_longer : (us more : List Packet) (i j session r : ℕ) → i ≤ j → Earlier us i session r → Earlier (us ++ more) j session r
earlier_longer us more i j session r le h =
    let lt = h.before in record { place = h.place; packet = h.packet; before = omega (arith, lt, le); is = get_left us more h.place h.packet h.is; same = h.same; asks = h.asks }

-- of a packet after us: each pub line of a smaller id was asked for in its session, or stands
abbrev pub IsInTurn : Declared → List Entry → List Packet → ℕ → Packet → Type 0
IsInTurn d es us i p = (q r : ℕ) → Asks q p.frame → IsPub d r → r < q → HasSeq d es r ⊎ Earlier us i p.session r

-- the link to the broker: each SEND is in turn, and a CONNECT begins its session
pub record Turns (d : Declared) (es : List Entry) (us : List Packet) : Type 0 where
  pub order : (i : ℕ) (p : Packet) → slice_get us i ≡ Some p → IsInTurn d es us i p
  pub begun : (i j : ℕ) (p p' : Packet) → j < i → slice_get us i ≡ Some p → p.frame ≡ frame.Connect → slice_get us j ≡ Some p' → p'.session < p.session

-- the broker: what was taken of the open session stands
abbrev pub AllOpen : Declared → List Entry → Option Session → List Packet → ℕ → Type 0
AllOpen d es v us taken = (u : Session) → v ≡ Some u → (i : ℕ) (p : Packet) (q : ℕ) → i < taken → slice_get us i ≡ Some p → p.session ≡ u.number → Asks q p.frame → HasSeq d es q

-- below an entry of this client's each smaller id of a pub line stands
abbrev pub BelowStands : Declared → List Entry → Entry → Type 0
BelowStands d es e = same_stream e.ident (ident_of d 0) ≡ true → (r : ℕ) → IsPub d r → r < e.ident.seq → HasSeq d es r

abbrev pub AllBelow : Declared → List Entry → Type 0
AllBelow d es = Each (BelowStands d es) es

-- the link to the client: each receipt is of what stands
abbrev pub ReceiptStands : Declared → List Entry → ℕ → Frame → Type 0
ReceiptStands d es session (frame.SendReceipt id q o) = HasSeq d es q
ReceiptStands d es session f = Unit {0}

-- ---- the topic grows

either_longer : (d : Declared) (es more : List Entry) (us : List Packet) (i session r : ℕ) → HasSeq d es r ⊎ Earlier us i session r → HasSeq d (es ++ more) r ⊎ Earlier us i session r
either_longer d es more us i session r h = elim h [ inl s ↦ inl (has_longer d es more r s) | inr e ↦ inr e ]

pub turns_longer : (d : Declared) (es more : List Entry) (us : List Packet) → Turns d es us → Turns d (es ++ more) us
turns_longer d es more us h =
    record { order = λ i p at q r asks line lt. either_longer d es more us i p.session r (h.order i p at q r asks line lt); begun = h.begun }

-- a receipt is still of what stands
receipt_stands_longer : (d : Declared) (es more : List Entry) (session : ℕ) (f : Frame) → ReceiptStands d es session f → ReceiptStands d (es ++ more) session f
receipt_stands_longer d es more session (frame.SendReceipt id q o) h = has_longer d es more q h
receipt_stands_longer d es more session f h = tt

pub receipts_longer : (d : Declared) (es more : List Entry) (ps : List Packet) → Packets (ReceiptStands d es) ps → Packets (ReceiptStands d (es ++ more)) ps
receipts_longer d es more ps h =
    each_map (λ (p : Packet). ReceiptStands d es p.session p.frame) (λ (p : Packet). ReceiptStands d (es ++ more) p.session p.frame) (λ p k. receipt_stands_longer d es more p.session p.frame k) ps h

below_longer : (d : Declared) (es more fs : List Entry) → Each (BelowStands d es) fs → Each (BelowStands d (es ++ more)) fs
below_longer d es more fs h = each_map (BelowStands d es) (BelowStands d (es ++ more)) (λ e k same r line lt. has_longer d es more r (k same r line lt)) fs h

-- by entries that are not this client's
abbrev pub IsOther : Declared → Entry → Type 0
IsOther d e = same_stream e.ident (ident_of d 0) ≡ false

pub below_others : (d : Declared) (es more : List Entry) → Each (IsOther d) more → AllBelow d es → AllBelow d (es ++ more)
below_others d es more others h =
    each_both (BelowStands d (es ++ more)) es more (below_longer d es more es h)
    (each_map (IsOther d) (BelowStands d (es ++ more)) (λ e other same. absurd (false≢true (sym other ∙ same))) more others)

-- or by the message of one of its ids, below which all stand
pub below_stored : (d : Declared) (es : List Entry) (e : Entry) (q : ℕ) → e.ident ≡ ident_of d q → ((r : ℕ) → IsPub d r → r < q → HasSeq d es r) → AllBelow d es → AllBelow d (es ++ e ∷ [])
below_stored d es e q named all h =
    let seq : e.ident.seq ≡ q = ap (λ (i : Ident). i.seq) named in
    each_both (BelowStands d (es ++ e ∷ [])) es (e ∷ []) (below_longer d es (e ∷ []) es h)
    ((λ same r line lt. has_longer d es (e ∷ []) r (all r line (subst (λ (n : ℕ). r < n) seq lt))), tt)

-- which stands then
pub has_stored : (d : Declared) (es : List Entry) (e : Entry) (q : ℕ) → e.ident ≡ ident_of d q → HasSeq d (es ++ e ∷ []) q
has_stored d es e q named = record { entry = e; stands = record { place = length es; is = get_last es e }; named = named }

-- ---- a SEND is served

-- all before it stand
pub all_before : (d : Declared) (es : List Entry) (v : Option Session) (us : List Packet) (taken q : ℕ) (p : Packet) (u : Session) → Turns d es us → AllOpen d es v us taken → slice_get us taken ≡ Some p → v ≡ Some u
    → p.session ≡ u.number → Asks q p.frame → (r : ℕ) → IsPub d r → r < q → HasSeq d es r
all_before d es v us taken q p u turns begins at is same asks r line lt =
    elim (turns.order taken p at q r asks line lt) [ inl stands ↦ stands | inr e ↦ begins u is e.place e.packet r e.before e.is (e.same ∙ same) e.asks ]

-- two identities of one stream and one sequence id are one
stream_is : (i : Ident) (d : Declared) (q : ℕ) → same_stream i (ident_of d q) ≡ true → i.seq ≡ q → i ≡ ident_of d q
stream_is i d q same seq = λ j. record { origin = eqb-true i.origin d.cluster (left (i.origin == d.cluster) (bytes_eq i.producer d.name) same) j; producer = (bytes_eq-Decides i.producer d.name).0 (right (i.origin == d.cluster) (bytes_eq i.producer d.name) same) j; seq = seq j }

-- what a topic refuses as a duplicate stands in it
pub repeat_stands : (d : Declared) (es : List Entry) (q : ℕ) → AllBelow d es → IsPub d q → accepts es (ident_of d q) ≡ false → HasSeq d es q
repeat_stands d es q h line old = by (below_or q r.entry.ident.seq)
  where
    r : Refuses es (ident_of d q)
    r = refused es (ident_of d q) old

    by : (q < r.entry.ident.seq) ⊎ (r.entry.ident.seq ≤ q) → HasSeq d es q
    by (inl lt) = each_at_place (BelowStands d es) es r.stands.place r.entry h r.stands.is r.same q line lt
    by (inr le) =
        let ge : q ≤ r.entry.ident.seq = grind (arith, nat_tests, r.newer) in
        record { entry = r.entry; stands = r.stands; named = stream_is r.entry.ident d q r.same (omega (arith, le, ge)) }
