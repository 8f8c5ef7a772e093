-- What becomes of a publish, of one client: its receipt is awaited, or it was answered, and what the answer says of the topic holds.
use Rattle.std.proofs.Common.{◌≡◌, ℕ, ◌+◌, ◌<◌, ◌≤◌, Bool, true, false, List, [], ◌∷◌, ◌++◌, length, refl, sym, ap, subst, ◌∙◌, ◌==◌, arith, inl, inr, ◌⊎◌}
use Rattle.std.specs.List.{list_any}
use Rattle.std.specs.Prelude.{Option, Some, None, ◌&&◌, ◌||◌, if◌then◌else◌, is_some, nat_lt, slice_get}
use Rattle.std.proofs.lemmas.Bool.{eq-eqb, eqb-true, false≢true}
use Rattle.std.proofs.lemmas.Option.{none-some}
use Rattle.world_laws.proofs.Types.{Frame, Held, Ident, Line, Packet, Position}
use Rattle.world_laws.proofs.Types.frame
use Rattle.world_laws.proofs.Types.line
use Rattle.world_laws.proofs.Types.cluster_ref
use Rattle.geo_base.specs.Broker.{Broker}
use Rattle.geo_base.specs.Client.{Acted, Client, reconnect}
use Rattle.geo_base.specs.Entry.{with_origin}
use Rattle.geo_base.specs.Getting.{answered, get, got_frame, is_duplicate, is_number, publishes, received, seq_of, with_error, with_receipt, without_seq}
use Rattle.geo_base.specs.Going.{acks_all, acks_one, acks_to, first_held, go, go_line, most_unanswered}
use Rattle.geo_base.specs.Setup.{Declared, Setup}
use Rattle.world_laws.specs.Publishing.{IsAnsweredFor, ReceiptHolds, ident_of, is_awaited}
use Rattle.world_laws.proofs.Dispatching.Remembers.{any_left, any_right}
use Rattle.world_laws.proofs.OnceInOrder.Members.{below_or}
use Rattle.world_laws.proofs.Published.Receipts.{reached_longer, stands_longer}
use Rattle.world_laws.proofs.Replicating.Cursors.{or_left, or_right}
use Rattle.world_laws.proofs.Snapshotting.Grows.{Lengthened}
use Rattle.world_laws.proofs.Walks.Walk.{on_if}

-- the first publish of a sequence id is no more awaited; each other one still is
pub still_or_first : (d : Declared) (is : List ℕ) (n i : ℕ) → is_awaited i is ≡ true → (is_awaited i (without_seq d is n) ≡ true) ⊎ (publishes d n i ≡ true)
still_or_first d [] n i h = absurd (false≢true h)
still_or_first d (j ∷ is) n i h = by (publishes d n j) refl (j == i) refl (still_or_first d is n i) h
  where
    Goal : Bool → Type 0
    Goal t = (is_awaited i (if t then is else j ∷ without_seq d is n) ≡ true) ⊎ (publishes d n i ≡ true)

    by : (t : Bool) → publishes d n j ≡ t → (b : Bool) → (j == i) ≡ b → (is_awaited i is ≡ true → (is_awaited i (without_seq d is n) ≡ true) ⊎ (publishes d n i ≡ true)) → (b || is_awaited i is) ≡ true → Goal t
    by true is_t true is_b ih h = inr (subst (λ (k : ℕ). publishes d n k ≡ true) (eqb-true j i is_b) is_t)
    by true is_t false is_b ih h = inl h
    by false is_t true is_b ih h = inl (or_left (j == i) _ is_b)
    by false is_t false is_b ih h = elim (ih h) [ inl still ↦ inl (or_right (j == i) _ still) | inr it ↦ inr it ]

-- ---- of one client

-- each pub line that is done is awaited, or answered for
abbrev Awaits : Declared → Broker → ℕ → List ℕ → ℕ → ℕ → Type 0
Awaits d b done is errors duplicates = (i seq : ℕ) → seq_of (slice_get d.lines i) ≡ Some seq → i < done → (is_awaited i is ≡ true) ⊎ IsAnsweredFor errors duplicates b (ident_of d seq)

abbrev pub ClientAwaits : Declared → Broker → Client → Type 0
ClientAwaits d b k = Awaits d b k.done k.unanswered k.errors k.duplicates

-- what is answered stays so where topics grow and counts rise
answered_longer : (b b' : Broker) (i : Ident) (errors duplicates : ℕ) → Lengthened b b' → IsAnsweredFor errors duplicates b i → IsAnsweredFor errors duplicates b' i
answered_longer b b' i errors duplicates g h =
    elim h [
      | inl e ↦ inl e
      | inr p ↦ inr (reached_longer b b' i g p.0, λ none. let q = p.1 none in (q.0, stands_longer b b' i q.0 g q.1))
    ]

answered_more : (b : Broker) (i : Ident) (e e' n n' : ℕ) → e ≤ e' → n ≤ n' → IsAnsweredFor e n b i → IsAnsweredFor e' n' b i
answered_more b i e e' n n' le le' h =
    elim h [
      | inl lt ↦ inl (omega (arith, le, lt))
      | inr p ↦ inr (p.0, λ none. p.1 (omega (arith, none, le')))
    ]

pub awaits_longer : (d : Declared) (b b' : Broker) (k : Client) → Lengthened b b' → ClientAwaits d b k → ClientAwaits d b' k
awaits_longer d b b' k g h i seq is lt = elim (h i seq is lt) [ inl w ↦ inl w | inr a ↦ inr (answered_longer b b' (ident_of d seq) k.errors k.duplicates g a) ]

-- one more line is done, which publishes nothing
awaits_past : (d : Declared) (b : Broker) (k : Client) → seq_of (slice_get d.lines k.done) ≡ None → ClientAwaits d b k → Awaits d b (k.done + 1) k.unanswered k.errors k.duplicates
awaits_past d b k none h i seq is lt =
    elim (below_or i k.done) [
      | inl low ↦ h i seq is low
      | inr high ↦ let same : k.done ≡ i = omega (arith, lt, high) in absurd (none-some seq (sym none ∙ subst (λ (n : ℕ). seq_of (slice_get d.lines n) ≡ Some seq) (sym same) is))
    ]

-- or which publishes
awaits_pub : (d : Declared) (b : Broker) (k : Client) → ClientAwaits d b k → Awaits d b (k.done + 1) (k.unanswered ++ k.done ∷ []) k.errors k.duplicates
awaits_pub d b k h i seq is lt =
    elim (below_or i k.done) [
      | inl low ↦ elim (h i seq is low) [ inl w ↦ inl (any_left (λ j. j == i) k.unanswered (k.done ∷ []) w) | inr a ↦ inr a ]
      | inr high ↦ let same : k.done ≡ i = omega (arith, lt, high) in inl (any_right (λ j. j == i) k.unanswered (k.done ∷ []) (or_left (k.done == i) false (eq-eqb k.done i same)))
    ]

-- lines that acknowledge
one_awaits : (d : Declared) (b : Broker) (k : Client) (i : Ident) (o : Option Position) → seq_of (slice_get d.lines k.done) ≡ None → ClientAwaits d b k → ClientAwaits d b (acks_one k i o).client
one_awaits d b k i None none h = h
one_awaits d b k i (Some p) none h = awaits_past d b k none h

to_awaits : (d : Declared) (b : Broker) (k : Client) (o : Option Position) → seq_of (slice_get d.lines k.done) ≡ None → ClientAwaits d b k → ClientAwaits d b (acks_to k o).client
to_awaits d b k None none h = h
to_awaits d b k (Some p) none h = awaits_past d b k none h

all_awaits : (d : Declared) (b : Broker) (k : Client) (gs : List Held) → seq_of (slice_get d.lines k.done) ≡ None → ClientAwaits d b k → ClientAwaits d b (acks_all k gs).client
all_awaits d b k [] none h = h
all_awaits d b k (g ∷ gs) none h = awaits_past d b k none h

line_awaits : (s : Setup) (d : Declared) (b : Broker) (k : Client) (l : Option Line) → slice_get d.lines k.done ≡ l → ClientAwaits d b k → ClientAwaits d b (go_line s d k l).client
line_awaits s d b k None at h = h
line_awaits s d b k (Some line.Produce) at h = awaits_past d b k (ap seq_of at) h
line_awaits s d b k (Some (line.Pub seq to key text)) at h =
    on_if (λ (a : Acted). ClientAwaits d b a.client) (is_some k.produce && nat_lt (length k.unanswered) most_unanswered) _ _ (awaits_pub d b k h) h
line_awaits s d b k (Some (line.Sub n kind earliest replicated)) at h = awaits_past d b k (ap seq_of at) h
line_awaits s d b k (Some (line.Flow permits)) at h = on_if (λ (a : Acted). ClientAwaits d b a.client) (is_some k.sub) _ _ (awaits_past d b k (ap seq_of at) h) h
line_awaits s d b k (Some (line.Ack i)) at h = one_awaits d b k i (first_held k.held i) (ap seq_of at) h
line_awaits s d b k (Some (line.AckTo i)) at h = to_awaits d b k (first_held k.held i) (ap seq_of at) h
line_awaits s d b k (Some line.AckAll) at h = all_awaits d b k k.held (ap seq_of at) h
line_awaits s d b k (Some line.Unsub) at h = on_if (λ (a : Acted). ClientAwaits d b a.client) (is_some k.sub) _ _ (awaits_past d b k (ap seq_of at) h) h
line_awaits s d b k (Some line.Close) at h = on_if (λ (a : Acted). ClientAwaits d b a.client) (is_some k.sub) _ _ (awaits_past d b k (ap seq_of at) h) h
line_awaits s d b k (Some line.CloseProducer) at h =
    on_if (λ (a : Acted). ClientAwaits d b a.client) (is_some k.produce && (length k.unanswered == 0)) _ _ (awaits_past d b k (ap seq_of at) h) h
line_awaits s d b k (Some line.Ping) at h = awaits_past d b k (ap seq_of at) h
line_awaits s d b k (Some (line.Move x)) at h = awaits_past d b k (ap seq_of at) h

-- so do all lines, and a reconnect
pub go_awaits : (s : Setup) (d : Declared) (b : Broker) (k : Client) → ClientAwaits d b k → ClientAwaits d b (go s d k).client
unfolding go
go_awaits s d b k h = on_if (λ (a : Acted). ClientAwaits d b a.client) k.connected _ _ (line_awaits s d b k (slice_get d.lines k.done) refl h) h

pub reconnect_awaits : (s : Setup) (d : Declared) (b : Broker) (k : Client) → ClientAwaits d b k → ClientAwaits d b (reconnect s d k).client
unfolding reconnect
reconnect_awaits s d b k h = h

-- ---- what comes

-- a sequence id is that of the line
pub its_seq : (d : Declared) (n i seq : ℕ) → publishes d n i ≡ true → seq_of (slice_get d.lines i) ≡ Some seq → seq ≡ n
its_seq d n i seq h is = eqb-true seq n (subst (λ (o : Option ℕ). is_number n o ≡ true) is h)

-- an answer to sequence id n, after which these are the counts
answered_awaits : (d : Declared) (b : Broker) (k : Client) (n : ℕ) (counted : Client) → counted.done ≡ k.done → k.errors ≤ counted.errors → k.duplicates ≤ counted.duplicates
    → IsAnsweredFor counted.errors counted.duplicates b (ident_of d n) → ClientAwaits d b k → ClientAwaits d b (answered d k n counted)
answered_awaits d b k n counted done le le' a h =
    on_if (ClientAwaits d b) (list_any (publishes d n) k.unanswered) (record counted { unanswered = without_seq d k.unanswered n }) k
    (λ i seq is lt.
    elim (h i seq is (omega (arith, lt, done))) [
      | inl w ↦ elim (still_or_first d k.unanswered n i w) [
        | inl still ↦ inl still
        | inr it ↦ inr (subst (λ (m : ℕ). IsAnsweredFor counted.errors counted.duplicates b (ident_of d m)) (sym (its_seq d n i seq it is)) a)
      ]
      | inr old ↦ inr (answered_more b (ident_of d seq) k.errors counted.errors k.duplicates counted.duplicates le le' old)
    ]) h

-- what a receipt says of it
receipt_answers : (b : Broker) (i : Ident) (k : Client) (o : Option Position) → ReceiptHolds b i o → (t : Bool) → is_duplicate o ≡ t → IsAnsweredFor (with_receipt k t).errors (with_receipt k t).duplicates b i
receipt_answers b i k o h true is = inr (h.reached, λ none. absurd (omega (arith, none)))
receipt_answers b i k o h false is =
    inr (h.reached, λ none. (h.position, h.stored (ap is_duplicate (sym h.told) ∙ is)))

receipt_done : (k : Client) (t : Bool) → (with_receipt k t).done ≡ k.done
receipt_done k true = refl
receipt_done k false = refl

receipt_errors : (k : Client) (t : Bool) → k.errors ≤ (with_receipt k t).errors
receipt_errors k true = omega arith
receipt_errors k false = omega arith

receipt_duplicates : (k : Client) (t : Bool) → k.duplicates ≤ (with_receipt k t).duplicates
receipt_duplicates k true = omega arith
receipt_duplicates k false = omega arith

received_awaits : (d : Declared) (b : Broker) (k : Client) (id : ℕ) (i : Ident) (p : Position) → ClientAwaits d b k → ClientAwaits d b (received k id i p)
received_awaits d b k id i p h = on_if (ClientAwaits d b) (is_number id k.sub) _ _ h h

-- a receipt comes from the cluster of the client
abbrev pub IsTold : Declared → Broker → Frame → Type 0
IsTold d b (frame.SendReceipt id n o) = ReceiptHolds b (ident_of d n) o
IsTold d b f = Unit {0}

frame_awaits : (d : Declared) (b : Broker) (k : Client) (f : Frame) → IsTold d b f → ClientAwaits d b k → ClientAwaits d b (got_frame d k f)
frame_awaits d b k (frame.SendReceipt id n o) told h =
    let t = is_duplicate o in
    answered_awaits d b k n (with_receipt k t) (receipt_done k t) (receipt_errors k t) (receipt_duplicates k t) (receipt_answers b (ident_of d n) k o told t refl) h
frame_awaits d b k (frame.SendError id n code) told h = answered_awaits d b k n (with_error k) refl (omega arith) (omega arith) (inl (omega arith)) h
frame_awaits d b k (frame.Error request code) told h =
    λ i seq is lt. elim (h i seq is lt) [ inl w ↦ inl w | inr a ↦ inr (answered_more b (ident_of d seq) k.errors (k.errors + 1) k.duplicates k.duplicates (omega arith) (omega arith) a) ]
frame_awaits d b k (frame.Message id p None e) told h = received_awaits d b k id (with_origin k.cluster e).ident p h
frame_awaits d b k (frame.Message id p (Some (cluster_ref.Known x)) e) told h = received_awaits d b k id (with_origin x e).ident p h
frame_awaits d b k (frame.Message id p (Some (cluster_ref.Stranger name)) e) told h = h
frame_awaits d b k f told h = h

pub get_awaits : (d : Declared) (b : Broker) (k : Client) (o : Option Packet) → ((q : Packet) → o ≡ Some q → IsTold d b q.frame) → ClientAwaits d b k → ClientAwaits d b (get d k o).client
unfolding get
get_awaits d b k None told h = h
get_awaits d b k (Some q) told h = on_if (ClientAwaits d b) (q.session == k.connection) _ _ (frame_awaits d b k q.frame (told q refl) h) h
