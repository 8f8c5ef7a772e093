-- The facts of a pair of clusters, over six values: near is the topic at x and far the one at y; the replicator at x and its
-- cursor; the session that is open at y; the packets sent on the forward link with how many were taken, and those on the
-- back link. Each record of facts says what every event keeps of it.
use Rattle.std.proofs.Common.{◌≡◌, ℕ, ◌<◌, ◌≤◌, true, List, [], ◌∷◌, ◌++◌, length, sym, ap, subst, ◌∙◌, arith, inl, inr, ◌⊎◌, length-append}
use Rattle.std.proofs.lemmas.List.{append-nil}
use Rattle.std.specs.Prelude.{Option, Some, None, slice_get}
use Rattle.std.proofs.lemmas.Option.{none-some, slice_get_within}
use Rattle.world_laws.proofs.Types.{Entry, Packet, Pending}
use Rattle.world_laws.proofs.Types.replicator_state
use Rattle.geo_base.specs.Cursor.{has}
use Rattle.geo_base.specs.Entry.{is_outbound}
use Rattle.geo_base.specs.Replicator.{Replicator}
use Rattle.world_laws.proofs.OnceInOrder.Members.{Stands, get_left, get_within}
use Rattle.world_laws.proofs.Replicating.Packets.{Carries, IsOpener, IsReceipt, IsSend, Receives, WasSent, WasSentBefore, before_left, last_receipt, last_send, send_left}
use Rattle.world_laws.proofs.Replicating.Prefixes.{Begins, near_grows}

-- where a SEND's entry stands at x, and that all before it which is for y is in the cursor or was sent before in its session
pub record IsPlaced (x y : ℕ) (near : List Entry) (cursor : List ℕ) (sent : List Packet) (q m : ℕ) (e : Entry) : Type 0 where
  pub index : ℕ
  pub at : slice_get near index ≡ Some e
  pub out : is_outbound x y e ≡ true
  pub before : (j : ℕ) (f : Entry) → j < index → slice_get near j ≡ Some f → is_outbound x y f ≡ true → (has cursor j ≡ true) ⊎ WasSentBefore sent q m f

-- the SEND that a receipt answers, whose entry stands at y
pub record IsAnswered (far : List Entry) (sent : List Packet) (m k : ℕ) : Type 0 where
  pub place : ℕ
  pub entry : Entry
  pub send : IsSend sent place m k entry
  pub stands : Stands far entry

-- What each durable write keeps: far has a beginning, what the cursor has of it stands there, and so does what a receipt
-- answers
pub record Carried (x y : ℕ) (near : List Entry) (cursor : List ℕ) (far : List Entry) (sent back : List Packet) : Type 0 where
  pub begins : Begins x y near far
  pub received : (i : ℕ) (e : Entry) → has cursor i ≡ true → slice_get near i ≡ Some e → is_outbound x y e ≡ true → Stands far e
  pub within : (i : ℕ) → has cursor i ≡ true → i < length near
  pub sends : (q m k : ℕ) (e : Entry) → IsSend sent q m k e → IsPlaced x y near cursor sent q m e
  pub receipts : (a m k : ℕ) → IsReceipt back a m k → IsAnswered far sent m k

-- the SEND of an index whose receipt is awaited
pub record IsPending (near : List Entry) (sent : List Packet) (m : ℕ) (d : Pending) : Type 0 where
  pub place : ℕ
  pub entry : Entry
  pub send : IsSend sent place m d.number entry
  pub at : slice_get near d.index ≡ Some entry

-- What the replicator's memory is worth: no session on the link is above its own, its numbers are new, one number is one entry,
-- a session is opened before it is used, and all that was read is in the cursor or was sent in this session
pub record InSession (x y : ℕ) (near : List Entry) (sent : List Packet) (s : Replicator) : Type 0 where
  pub bounded : (q : ℕ) (p : Packet) → slice_get sent q ≡ Some p → p.session ≤ s.session
  pub numbered : (s.state ≡ replicator_state.Closed → ⊥) → (q k : ℕ) (e : Entry) → IsSend sent q s.session k e → k < s.next
  pub unique : (q r m k : ℕ) (e f : Entry) → IsSend sent q m k e → IsSend sent r m k f → e ≡ f
  pub opened : (q r m k : ℕ) (e : Entry) → IsOpener sent q m → IsSend sent r m k e → q < r
  pub read : (j : ℕ) (f : Entry) → j < s.read_index → slice_get near j ≡ Some f → is_outbound x y f ≡ true → (has s.cursor j ≡ true) ⊎ WasSent sent s.session f
  pub read_within : s.read_index ≤ length near
  pub pending : (a : ℕ) (d : Pending) → slice_get s.pending a ≡ Some d → IsPending near sent s.session d

-- no more is taken than was sent, and where a session is open at y, the entries of all its SENDs that were taken stand there
pub record Receiving (session : Option ℕ) (far : List Entry) (sent : List Packet) (taken : ℕ) : Type 0 where
  pub within : taken ≤ length sent
  pub stands : (m : ℕ) → session ≡ Some m → (q k : ℕ) (e : Entry) → q < taken → IsSend sent q m k e → Stands far e

-- no session is open
pub none_open : (far : List Entry) (sent : List Packet) (taken : ℕ) → taken ≤ length sent → Receiving None far sent taken
none_open far sent taken within = record { within = within; stands = λ m is. absurd (none-some m is) }

-- a list with more after it
pub record Grows (es es' : List Entry) : Type 0 where
  pub more : List Entry
  pub is : es' ≡ es ++ more

pub same_grows : (es : List Entry) → Grows es es
same_grows es = record { more = []; is = sym (append-nil es) }

pub grows_get : (es es' : List Entry) (g : Grows es es') (i : ℕ) (e : Entry) → slice_get es i ≡ Some e → slice_get es' i ≡ Some e
grows_get es es' g i e h = let P : List Entry → Type 0 = λ l. slice_get l i ≡ Some e in subst P (sym g.is) (get_left es g.more i e h)

pub grows_within : (es es' : List Entry) (g : Grows es es') (i : ℕ) (e : Entry) → i < length es → slice_get es' i ≡ Some e → slice_get es i ≡ Some e
grows_within es es' g i e lt h =
    let P : List Entry → Type 0 = λ l. slice_get l i ≡ Some e in sym (get_within es g.more i lt) ∙ subst P g.is h

pub grows_length : (es es' : List Entry) → Grows es es' → length es ≤ length es'
grows_length es es' g = let h = ap (λ (l : List Entry). length l) g.is ∙ length-append es g.more in omega (arith, h)

pub grows_begins : (x y : ℕ) (near near' far : List Entry) → Grows near near' → Begins x y near far → Begins x y near' far
grows_begins x y near near' far g b = let P : List Entry → Type 0 = λ l. Begins x y l far in subst P (sym g.is) (near_grows x y near far g.more b)

-- an index that the cursor may gain: it is stored, and where its entry is for y it stands there
pub record MayAck (x y : ℕ) (near far : List Entry) (i : ℕ) : Type 0 where
  pub within : i < length near
  pub stands : (e : Entry) → slice_get near i ≡ Some e → is_outbound x y e ≡ true → Stands far e

-- what the writes of an event at x do: the topic grows, and the cursor gains what it may
pub record Grew (x y : ℕ) (near far : List Entry) (cursor : List ℕ) (near' : List Entry) (cursor' : List ℕ) : Type 0 where
  pub entries : Grows near near'
  pub keeps : (i : ℕ) → has cursor i ≡ true → has cursor' i ≡ true
  pub gains : (i : ℕ) → has cursor' i ≡ true → (has cursor i ≡ true) ⊎ MayAck x y near far i

placed_grew : (x y : ℕ) (near far : List Entry) (cursor : List ℕ) (near' : List Entry) (cursor' : List ℕ) (sent : List Packet) (q m : ℕ) (e : Entry)
    → Grew x y near far cursor near' cursor' → IsPlaced x y near cursor sent q m e → IsPlaced x y near' cursor' sent q m e
placed_grew x y near far cursor near' cursor' sent q m e g p = record {
  index = p.index;
  at = grows_get near near' g.entries p.index e p.at;
  out = p.out;
  before = λ j f lt at out.
      elim (p.before j f lt (grows_within near near' g.entries j f (omega (arith, lt, slice_get_within near p.index e p.at)) at) out) [
        | inl h ↦ inl (g.keeps j h)
        | inr s ↦ inr s
      ];
}

pub carried_grew : (x y : ℕ) (near far : List Entry) (cursor : List ℕ) (near' : List Entry) (cursor' : List ℕ) (sent back : List Packet)
    → Grew x y near far cursor near' cursor' → Carried x y near cursor far sent back → Carried x y near' cursor' far sent back
carried_grew x y near far cursor near' cursor' sent back g c = record {
  begins = grows_begins x y near near' far g.entries c.begins;
  received = λ i e h at out.
      elim (g.gains i h) [
        | inl k ↦ c.received i e k (grows_within near near' g.entries i e (c.within i k) at) out
        | inr may ↦ may.stands e (grows_within near near' g.entries i e may.within at) out
      ];
  within = λ i h.
      elim (g.gains i h) [
        | inl k ↦ omega (arith, c.within i k, grows_length near near' g.entries)
        | inr may ↦ omega (arith, may.within, grows_length near near' g.entries)
      ];
  sends = λ q m k e s. placed_grew x y near far cursor near' cursor' sent q m e g (c.sends q m k e s);
  receipts = c.receipts;
}

-- what an event at y does: far has the same and more, and begins as it should
pub carried_far : (x y : ℕ) (near : List Entry) (cursor : List ℕ) (far far' : List Entry) (sent back : List Packet)
    → Begins x y near far' → ((e : Entry) → Stands far e → Stands far' e) → Carried x y near cursor far sent back → Carried x y near cursor far' sent back
carried_far x y near cursor far far' sent back begins more c = record {
  begins = begins;
  received = λ i e h at out. more e (c.received i e h at out);
  within = c.within;
  sends = c.sends;
  receipts = λ a m k r. let n = c.receipts a m k r in record { place = n.place; entry = n.entry; send = n.send; stands = more n.entry n.stands };
}

-- one more packet on the back link: no receipt, or one that is answered
pub carried_back : (x y : ℕ) (near : List Entry) (cursor : List ℕ) (far : List Entry) (sent back : List Packet) (p : Packet)
    → ((m k : ℕ) → Receives p m k → IsAnswered far sent m k) → Carried x y near cursor far sent back → Carried x y near cursor far sent (back ++ p ∷ [])
carried_back x y near cursor far sent back p may c = record {
  begins = c.begins;
  received = c.received;
  within = c.within;
  sends = c.sends;
  receipts = λ a m k r. elim (last_receipt back p a m k r) [ inl h ↦ c.receipts a m k h | inr h ↦ may m k h ];
}

-- one more packet on the forward link: it carries nothing, or an entry that is placed
pub carried_sent : (x y : ℕ) (near : List Entry) (cursor : List ℕ) (far : List Entry) (sent back : List Packet) (p : Packet)
    → ((m k : ℕ) (e : Entry) → Carries p m k e → IsPlaced x y near cursor (sent ++ p ∷ []) (length sent) m e)
    → Carried x y near cursor far sent back → Carried x y near cursor far (sent ++ p ∷ []) back
carried_sent x y near cursor far sent back p may c = record {
  begins = c.begins;
  received = c.received;
  within = c.within;
  sends = λ q m k e s.
      elim (last_send sent p q m k e s) [
        | inl h ↦
            let n = c.sends q m k e h in
            record {
              index = n.index;
              at = n.at;
              out = n.out;
              before = λ j f lt at out. elim (n.before j f lt at out) [ inl i ↦ inl i | inr w ↦ inr (before_left sent (p ∷ []) q m f w) ];
            }
        | inr h ↦
            let P : ℕ → Type 0 = λ n. IsPlaced x y near cursor (sent ++ p ∷ []) n m e in subst P (sym h.0) (may m k e h.1)
      ];
  receipts = λ a m k r.
      let n = c.receipts a m k r in record { place = n.place; entry = n.entry; send = send_left sent (p ∷ []) n.place m k n.entry n.send; stands = n.stands };
}
