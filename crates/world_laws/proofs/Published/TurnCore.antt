-- All of it at once, of client c over its broker, its link there, itself and what was sent to it: what each kind of event leaves of it.
use Rattle.std.proofs.Common.{◌≡◌, ℕ, ◌+◌, ◌<◌, ◌≤◌, List, [], ◌++◌, length, min, sym, ap, subst, ◌∙◌, arith, inl, inr, ◌⊎◌, length-append}
use Rattle.std.specs.Prelude.{Some, None, slice_get}
use Rattle.std.proofs.lemmas.Bool.{eq-eqb}
use Rattle.std.proofs.lemmas.List.{append-nil}
use Rattle.std.proofs.lemmas.Option.{none-some, same_Some, slice_get_within}
use Rattle.world_laws.proofs.Types.{Entry, Packet, Session}
use Rattle.geo_base.specs.Broker.{Broker, session_at}
use Rattle.geo_base.specs.Client.{Client, unconnected}
use Rattle.geo_base.specs.Link.{Link, discarded, next_packet, took}
use Rattle.geo_base.specs.Setup.{Declared}
use Rattle.world_laws.proofs.Clients.ClientLinks.{Packets}
use Rattle.world_laws.proofs.Merges.LinkTables.{moved}
use Rattle.world_laws.proofs.OnceInOrder.Members.{below_or, get_within}
use Rattle.world_laws.proofs.Published.InTurn.{AllBelow, AllOpen, Asks, HasSeq, IsOther, ReceiptStands, below_others, has_longer, turns_longer}
use Rattle.world_laws.proofs.Published.TurnAsides.{SessionsIn}
use Rattle.world_laws.proofs.Published.TurnHands.{HandOf, hand_longer}
use Rattle.world_laws.proofs.Published.TurnLines.{Turned, unconnected_hand}
use Rattle.world_laws.proofs.Published.TurnServes.{OpenAfter}
use Rattle.world_laws.proofs.Replicating.Effects.{Each}
use Rattle.world_laws.proofs.Walks.Shapes.{InSession}

pub record Core (d : Declared) (c : ℕ) (b : Broker) (l : Link) (k : Client) (ds : List Packet) : Type 0 where
  pub turned : Turned d b.entries l.sent k
  pub begins : AllOpen d b.entries (session_at b c) l.sent l.taken
  pub below : AllBelow d b.entries
  pub receipts : Packets (ReceiptStands d b.entries) ds
  pub within : l.taken ≤ length l.sent

-- a session of this number was open
abbrev pub WasOpen : Broker → ℕ → ℕ → Type 0
WasOpen b c n = (v : Session) × (session_at b c ≡ Some v) × (v.number ≡ n)

turned_longer : (d : Declared) (es more : List Entry) (us : List Packet) (k : Client) → Turned d es us k → Turned d (es ++ more) us k
turned_longer d es more us k h =
    (turns_longer d es more us h.0, subst (λ (l : List Packet). HandOf d (es ++ more) l k) (append-nil us) (hand_longer d es more us [] k.done k.unanswered k.connected k.connection h.1))

-- an event that serves no packet of c
pub core_aside : (d : Declared) (c : ℕ) (b b' : Broker) (l : Link) (k : Client) (ds ds' : List Packet) (more : List Entry) → b'.entries ≡ b.entries ++ more → Each (IsOther d) more → SessionsIn c (WasOpen b c) b'
    → Packets (ReceiptStands d (b.entries ++ more)) ds' → Core d c b l k ds → Core d c b' l k ds'
core_aside d c b b' l k ds ds' more is others sessions receipts h =
    let back = sym is in record {
      turned = subst (λ (es : List Entry). Turned d es l.sent k) back (turned_longer d b.entries more l.sent k h.turned);
      begins = subst (λ (es : List Entry). AllOpen d es (session_at b' c) l.sent l.taken) back
          (λ u at i p q lt there same asks. let w = sessions u at in has_longer d b.entries more q (h.begins w.0 w.1 i p q lt there (same ∙ sym w.2) asks));
      below = subst (AllBelow d) back (below_others d b.entries more others h.below);
      receipts = subst (λ (es : List Entry). Packets (ReceiptStands d es) ds') back receipts;
      within = h.within;
    }

-- one that does
pub core_serves : (d : Declared) (c : ℕ) (b b' : Broker) (l : Link) (k : Client) (ds ds' : List Packet) (more : List Entry) (q : Packet) → next_packet l ≡ Some q → b'.entries ≡ b.entries ++ more → AllBelow d (b.entries ++ more)
    → SessionsIn c (OpenAfter b c q) b' → ((u : Session) → session_at b' c ≡ Some u → (v : Session) (z : ℕ) → InSession b c q v → Asks z q.frame → HasSeq d (b.entries ++ more) z) → Packets (ReceiptStands d (b.entries ++ more)) ds'
    → Core d c b l k ds → Core d c b' (took l) k ds'
core_serves d c b b' l k ds ds' more q next is below sessions stands receipts h =
    let back = sym is in let lt = slice_get_within l.sent l.taken q next in record {
      turned = subst (λ (es : List Entry). Turned d es l.sent k) back (turned_longer d b.entries more l.sent k h.turned);
      begins = subst (λ (es : List Entry). AllOpen d es (session_at b' c) l.sent (min (l.taken + 1) (length l.sent))) back
          (λ u at i p z low there same asks. by u at i p z (below_or i l.taken) (omega (arith, low)) there same asks (sessions u at));
      below = subst (AllBelow d) back below;
      receipts = subst (λ (es : List Entry). Packets (ReceiptStands d es) ds') back receipts;
      within = omega arith;
    }
  where
    here : (i : ℕ) (p : Packet) → i ≡ l.taken → slice_get l.sent i ≡ Some p → q ≡ p
    here i p place there = same_Some q p (sym next ∙ subst (λ (n : ℕ). slice_get l.sent n ≡ Some p) place there)

    by : (u : Session) → session_at b' c ≡ Some u → (i : ℕ) (p : Packet) (z : ℕ) → (i < l.taken) ⊎ (l.taken ≤ i) → i < l.taken + 1 → slice_get l.sent i ≡ Some p → p.session ≡ u.number → Asks z p.frame
        → OpenAfter b c q u.number → HasSeq d (b.entries ++ more) z
    by u at i p z (inl low) lt there same asks (inl w) = has_longer d b.entries more z (h.begins w.0 w.1 i p z low there (same ∙ sym w.2) asks)
    by u at i p z (inl low) lt there same asks (inr w) =
        let less = h.turned.0.begun l.taken i q p low next w.0 there in
        let equal : p.session ≡ q.session = same ∙ w.1 in absurd (omega (arith, less, equal))
    by u at i p z (inr high) lt there same asks (inl w) =
        let one = here i p (omega (arith, high, lt)) there in
        stands u at w.0 z (w.1, eq-eqb w.0.number q.session (w.2 ∙ sym (ap (λ (x : Packet). x.session) one ∙ same))) (subst (λ (x : Packet). Asks z x.frame) (sym one) asks)
    by u at i p z (inr high) lt there same asks (inr w) =
        let one = here i p (omega (arith, high, lt)) there in absurd (subst (Asks z) (sym (ap (λ (x : Packet). x.frame) one) ∙ w.0) asks)

-- one that finds nothing to take
pub core_empty : (d : Declared) (c : ℕ) (b : Broker) (l : Link) (k : Client) (ds : List Packet) → next_packet l ≡ None → Core d c b l k ds → Core d c b (took l) k ds
core_empty d c b l k ds none h = record {
  turned = h.turned;
  begins = λ u at i p q lt there same asks. elim (below_or i l.taken) [
    | inl low ↦ h.begins u at i p q low there same asks
    | inr high ↦ let place : i ≡ l.taken = omega (arith, lt, high) in absurd (none-some p (sym none ∙ subst (λ (n : ℕ). slice_get l.sent n ≡ Some p) place there))
  ];
  below = h.below;
  receipts = h.receipts;
  within = omega arith;
}

-- an event of the client
pub core_acts : (d : Declared) (c : ℕ) (b : Broker) (l : Link) (k k' : Client) (ds ps : List Packet) → Turned d b.entries (l.sent ++ ps) k' → Core d c b l k ds → Core d c b (moved l ps 0) k' ds
core_acts d c b l k k' ds ps turned h = record {
  turned = turned;
  begins = λ u at i p q lt there same asks. let le = h.within in let low : i < l.taken = omega (arith, lt) in
      h.begins u at i p q low (sym (get_within l.sent ps i (omega (arith, low, le))) ∙ there) same asks;
  below = h.below;
  receipts = h.receipts;
  within = let le = h.within in let size = length-append l.sent ps in omega (arith, le, size);
}

-- a stop of everything
pub core_stops : (d : Declared) (c : ℕ) (b b' : Broker) (l : Link) (k : Client) (ds : List Packet) → b'.entries ≡ b.entries → SessionsIn c (λ n. ⊥) b' → Core d c b l k ds → Core d c b' (discarded l) (unconnected k) ds
core_stops d c b b' l k ds is none h = record {
  turned = subst (λ (es : List Entry). Turned d es l.sent (unconnected k)) (sym is) (h.turned.0, unconnected_hand d b.entries l.sent k h.turned.1);
  begins = λ u at. absurd (none u at);
  below = subst (AllBelow d) (sym is) h.below;
  receipts = subst (λ (es : List Entry). Packets (ReceiptStands d es) ds) (sym is) h.receipts;
  within = omega arith;
}
