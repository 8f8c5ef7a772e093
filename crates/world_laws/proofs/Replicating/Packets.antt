-- The packets of a link between clusters: which of them carry an entry, open a session, or are receipts.
use Rattle.std.proofs.Common.{◌≡◌, ℕ, zero, ◌<◌, Bool, true, false, List, [], ◌∷◌, ◌++◌, length, sym, ap, subst, ◌∙◌, inl, inr, ◌⊎◌}
use Rattle.std.specs.Prelude.{Option, Some, slice_get}
use Rattle.std.proofs.lemmas.Bool.{false≢true}
use Rattle.std.proofs.lemmas.Option.{same_Some}
use Rattle.world_laws.proofs.Types.{Entry, Frame, Packet, ClusterRef, Position}
use Rattle.world_laws.proofs.Types.frame
use Rattle.world_laws.proofs.OnceInOrder.Members.{get_push, get_left}

-- a packet carries an entry, in session m under number k
pub record Carries (p : Packet) (m k : ℕ) (e : Entry) : Type 0 where
  pub session : p.session ≡ m
  pub id : ℕ
  pub source : Option ClusterRef
  pub is : p.frame ≡ frame.Send id k source e

-- the packet at a place of a link does
pub record IsSend (sent : List Packet) (q m k : ℕ) (e : Entry) : Type 0 where
  pub packet : Packet
  pub at : slice_get sent q ≡ Some packet
  pub carries : Carries packet m k e

-- a packet asks for session m to be opened
pub record Asks (p : Packet) (m : ℕ) : Type 0 where
  pub session : p.session ≡ m
  pub topic : List ℕ
  pub id : ℕ
  pub request : ℕ
  pub name : Option (List ℕ)
  pub is : p.frame ≡ frame.Producer topic id request name

pub record IsOpener (sent : List Packet) (q m : ℕ) : Type 0 where
  pub packet : Packet
  pub at : slice_get sent q ≡ Some packet
  pub asks : Asks packet m

-- a packet is a receipt of session m for number k
pub record Receives (p : Packet) (m k : ℕ) : Type 0 where
  pub session : p.session ≡ m
  pub id : ℕ
  pub position : Option Position
  pub is : p.frame ≡ frame.SendReceipt id k position

pub record IsReceipt (back : List Packet) (a m k : ℕ) : Type 0 where
  pub packet : Packet
  pub at : slice_get back a ≡ Some packet
  pub receives : Receives packet m k

-- an entry was sent in session m
pub record WasSent (sent : List Packet) (m : ℕ) (e : Entry) : Type 0 where
  pub place : ℕ
  pub number : ℕ
  pub send : IsSend sent place m number e

-- and before a place
pub record WasSentBefore (sent : List Packet) (q m : ℕ) (e : Entry) : Type 0 where
  pub place : ℕ
  pub number : ℕ
  pub before : place < q
  pub send : IsSend sent place m number e

-- kinds of frames are told apart
is_send : Frame → Bool
is_send (frame.Send id k source e) = true
is_send f = false

abbrev number_of : Frame → ℕ
number_of (frame.Send id k source e) = k
number_of f = zero

abbrev entry_or : Entry → Frame → Entry
entry_or d (frame.Send id k source e) = e
entry_or d f = d

pub not_both : (p : Packet) (m n k : ℕ) (e : Entry) → Asks p m → Carries p n k e → ⊥
unfolding is_send
not_both p m n k e a c = false≢true (sym (ap is_send a.is) ∙ ap is_send c.is)

pub same_number : (p : Packet) (m n k l : ℕ) (e f : Entry) → Carries p m k e → Carries p n l f → k ≡ l
same_number p m n k l e f a b = sym (ap number_of a.is) ∙ ap number_of b.is

pub same_entry : (p : Packet) (m n k l : ℕ) (e f : Entry) → Carries p m k e → Carries p n l f → e ≡ f
same_entry p m n k l e f a b = sym (ap (entry_or e) a.is) ∙ ap (entry_or e) b.is

-- what was sent stays sent
pub send_left : (sent more : List Packet) (q m k : ℕ) (e : Entry) → IsSend sent q m k e → IsSend (sent ++ more) q m k e
send_left sent more q m k e s = record { packet = s.packet; at = get_left sent more q s.packet s.at; carries = s.carries }

pub sent_left : (sent more : List Packet) (m : ℕ) (e : Entry) → WasSent sent m e → WasSent (sent ++ more) m e
sent_left sent more m e s = record { place = s.place; number = s.number; send = send_left sent more s.place m s.number e s.send }

pub before_left : (sent more : List Packet) (q m : ℕ) (e : Entry) → WasSentBefore sent q m e → WasSentBefore (sent ++ more) q m e
before_left sent more q m e s = record { place = s.place; number = s.number; before = s.before; send = send_left sent more s.place m s.number e s.send }

-- what stands on a link with one more packet stood there, or is that packet
pub last_send : (sent : List Packet) (p : Packet) (q m k : ℕ) (e : Entry) → IsSend (sent ++ p ∷ []) q m k e
    → IsSend sent q m k e ⊎ ((q ≡ length sent) × Carries p m k e)
last_send sent p q m k e s =
    elim (get_push sent p q s.packet s.at) [
      | inl h ↦ inl (record { packet = s.packet; at = h.1; carries = s.carries })
      | inr h ↦ inr (h.0, subst (λ (r : Packet). Carries r m k e) (sym h.1) s.carries)
    ]

pub last_opener : (sent : List Packet) (p : Packet) (q m : ℕ) → IsOpener (sent ++ p ∷ []) q m → IsOpener sent q m ⊎ ((q ≡ length sent) × Asks p m)
last_opener sent p q m s =
    elim (get_push sent p q s.packet s.at) [
      | inl h ↦ inl (record { packet = s.packet; at = h.1; asks = s.asks })
      | inr h ↦ inr (h.0, subst (λ (r : Packet). Asks r m) (sym h.1) s.asks)
    ]

pub last_receipt : (back : List Packet) (p : Packet) (a m k : ℕ) → IsReceipt (back ++ p ∷ []) a m k → IsReceipt back a m k ⊎ Receives p m k
last_receipt back p a m k s =
    elim (get_push back p a s.packet s.at) [
      | inl h ↦ inl (record { packet = s.packet; at = h.1; receives = s.receives })
      | inr h ↦ inr (subst (λ (r : Packet). Receives r m k) (sym h.1) s.receives)
    ]

-- two packets at one place are one
pub same_cluster_ref : (sent : List Packet) (q : ℕ) (p r : Packet) → slice_get sent q ≡ Some p → slice_get sent q ≡ Some r → p ≡ r
same_cluster_ref sent q p r a b = same_Some _ _ (sym a ∙ b)
