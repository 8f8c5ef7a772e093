-- What keeps the facts of a replicator's memory: one lemma for each kind of change.
use Rattle.std.proofs.Common.{◌≡◌, ℕ, zero, suc, ◌+◌, ◌<◌, ◌≤◌, Bool, true, false, List, [], ◌∷◌, ◌++◌, length, refl, sym, ap, subst, ◌∙◌, ◌==◌, arith, inl, inr, ◌⊎◌}
use Rattle.std.specs.Prelude.{Some, if◌then◌else◌, nat_lt, slice_get}
use Rattle.std.proofs.lemmas.Bool.{eqb-true, ltb-true}
use Rattle.std.proofs.lemmas.Bool.Decides.{nat_tests}
use Rattle.std.proofs.lemmas.Option.{none-some, same_Some, slice_get_within}
use Rattle.world_laws.proofs.Types.{Entry, Packet, Pending, ReplicatorState}
use Rattle.world_laws.proofs.Types.replicator_state
use Rattle.geo_base.specs.Cursor.{has}
use Rattle.geo_base.specs.Entry.{is_outbound}
use Rattle.geo_base.specs.Replicator.{Replicator, pending_index, replicator_sent, without_number}
use Rattle.world_laws.proofs.OnceInOrder.Members.{get_push, Stands, get_last, stands_next}
use Rattle.world_laws.proofs.Replicating.Packets.{Asks, Carries, IsOpener, IsSend, WasSent, last_opener, last_send, not_both, same_entry, same_number, send_left, sent_left}
use Rattle.world_laws.proofs.Replicating.PairFacts.{Grows, InSession, IsPending, grows_get, grows_length, grows_within}

-- the topic grows, and the cursor too
pub session_grew : (x y : ℕ) (near near' : List Entry) (sent : List Packet) (s : Replicator) (cursor : List ℕ) → Grows near near'
    → ((i : ℕ) → has s.cursor i ≡ true → has cursor i ≡ true) → InSession x y near sent s → InSession x y near' sent (record s { cursor = cursor })
session_grew x y near near' sent s cursor g keeps f = record {
  bounded = f.bounded;
  numbered = f.numbered;
  unique = f.unique;
  opened = f.opened;
  read = λ j e lt at out.
      elim (f.read j e lt (grows_within near near' g j e (omega (arith, lt, f.read_within)) at) out) [
        | inl h ↦ inl (keeps j h)
        | inr w ↦ inr w
      ];
  read_within = omega (arith, f.read_within, grows_length near near' g);
  pending = λ a d is.
      let p = f.pending a d is in
      record { place = p.place; entry = p.entry; send = p.send; at = grows_get near near' g d.index p.entry p.at };
}

-- a replicator that has no memory, in a session that may be new
abbrev pub forgetful : Replicator → ℕ → ReplicatorState → Replicator
forgetful s m state = record { cursor = s.cursor; session = m; state = state; read_index = 0; next = 0; pending = [] }

-- its session is closed, or no packet has it yet
pub session_forgot : (x y : ℕ) (near : List Entry) (sent : List Packet) (s : Replicator) (m : ℕ) (state : ReplicatorState) → s.session ≤ m
    → (state ≡ replicator_state.Closed) ⊎ (s.session < m) → InSession x y near sent s → InSession x y near sent (forgetful s m state)
session_forgot x y near sent s m state le new f = record {
  bounded = λ q p at. omega (arith, le, f.bounded q p at);
  numbered = λ live q k e is.
      elim new [
        | inl h ↦ absurd (live h)
        | inr h ↦ let b = f.bounded q is.packet is.at in absurd (omega (arith, h, b, is.carries.session))
      ];
  unique = f.unique;
  opened = f.opened;
  read = λ j e lt at out. absurd (omega (arith, lt));
  read_within = omega arith;
  pending = λ a d is. absurd (none-some d is);
}

-- the packet that opens a new session goes out
pub session_opens : (x y : ℕ) (near : List Entry) (sent : List Packet) (s : Replicator) (p : Packet) → Asks p s.session
    → ((q k : ℕ) (e : Entry) → IsSend sent q s.session k e → ⊥) → InSession x y near sent s → InSession x y near (sent ++ p ∷ []) s
session_opens x y near sent s p asks unused f = record {
  bounded = λ q r at. elim (get_push sent p q r at) [ inl h ↦ f.bounded q r h.1 | inr h ↦ omega (arith, asks.session, ap (λ (r : Packet). r.session) h.1) ];
  numbered = λ live q k e is. absurd (none_new q k e is);
  unique = λ q r m k e g is is'. f.unique q r m k e g (old q m k e is) (old r m k g is');
  opened = λ q r m k e is is'.
      elim (last_opener sent p q m is) [
        | inl h ↦ f.opened q r m k e h (old r m k e is')
        | inr h ↦
            let P : ℕ → Type 0 = λ n. IsSend sent r n k e in
            absurd (unused r k e (subst P (sym h.1.session ∙ asks.session) (old r m k e is')))
      ];
  read = λ j e lt at out. elim (f.read j e lt at out) [ inl h ↦ inl h | inr w ↦ inr (sent_left sent (p ∷ []) s.session e w) ];
  read_within = f.read_within;
  pending = λ a d is.
      let n = f.pending a d is in
      record { place = n.place; entry = n.entry; send = send_left sent (p ∷ []) n.place s.session d.number n.entry n.send; at = n.at };
}
  where
    old : (q m k : ℕ) (e : Entry) → IsSend (sent ++ p ∷ []) q m k e → IsSend sent q m k e
    old q m k e is = elim (last_send sent p q m k e is) [ inl h ↦ h | inr h ↦ absurd (not_both p s.session m k e asks h.1) ]

    none_new : (q k : ℕ) (e : Entry) → IsSend (sent ++ p ∷ []) q s.session k e → ⊥
    none_new q k e is = unused q k e (old q s.session k e is)

-- the other side opened the session
pub session_opened : (x y : ℕ) (near : List Entry) (sent : List Packet) (s : Replicator) → (s.state ≡ replicator_state.Closed → ⊥) → InSession x y near sent s
    → InSession x y near sent (record s { state = replicator_state.Open })
session_opened x y near sent s live f = record {
  bounded = f.bounded;
  numbered = λ _. f.numbered live;
  unique = f.unique;
  opened = f.opened;
  read = f.read;
  read_within = f.read_within;
  pending = f.pending;
}

-- the replicator passes indexes that its cursor has
pub session_read : (x y : ℕ) (near : List Entry) (sent : List Packet) (s : Replicator) (i : ℕ) → i ≤ length near
    → ((j : ℕ) → s.read_index ≤ j → j < i → has s.cursor j ≡ true) → InSession x y near sent s → InSession x y near sent (record s { read_index = i })
session_read x y near sent s i le covered f = record {
  bounded = f.bounded;
  numbered = f.numbered;
  unique = f.unique;
  opened = f.opened;
  read = λ j e lt at out. at_index j e lt at out (nat_lt j s.read_index) refl;
  read_within = le;
  pending = f.pending;
}
  where
    at_index : (j : ℕ) (e : Entry) → j < i → slice_get near j ≡ Some e → is_outbound x y e ≡ true → (b : Bool) → nat_lt j s.read_index ≡ b
        → (has s.cursor j ≡ true) ⊎ WasSent sent s.session e
    at_index j e lt at out true h = f.read j e (ltb-true _ _ h) at out
    at_index j e lt at out false h = inl (covered j (grind (arith, nat_tests, h)) lt)

-- the elements of a list without one of its numbers are elements of it
without_at : (p d : Pending) (ps qs : List Pending) (b : Bool) (a : ℕ) → ((a : ℕ) → slice_get qs a ≡ Some d → Stands ps d)
    → slice_get (if b then ps else p ∷ qs) a ≡ Some d → Stands (p ∷ ps) d
without_at p d ps qs true a ih h = record { place = suc a; is = h }
without_at p d ps qs false zero ih h = record { place = zero; is = h }
without_at p d ps qs false (suc a) ih h = stands_next p ps d (ih a h)

pub without_is : (ps : List Pending) (n a : ℕ) (d : Pending) → slice_get (without_number ps n) a ≡ Some d → Stands ps d
without_is [] n a d h = absurd (none-some d h)
without_is (p ∷ ps) n a d h = without_at p d ps (without_number ps n) (p.number == n) a (λ a h. without_is ps n a d h) h

-- a receipt is no longer awaited
pub session_received : (x y : ℕ) (near : List Entry) (sent : List Packet) (s : Replicator) (n : ℕ) → InSession x y near sent s
    → InSession x y near sent (record s { pending = without_number s.pending n })
session_received x y near sent s n f = record {
  bounded = f.bounded;
  numbered = f.numbered;
  unique = f.unique;
  opened = f.opened;
  read = f.read;
  read_within = f.read_within;
  pending = λ a d is. let w = without_is s.pending n a d is in f.pending w.place d w.is;
}

-- what is pending under a number
pending_at : (p : Pending) (ps : List Pending) (n i : ℕ) (b : Bool) → (p.number == n) ≡ b → (if b then Some p.index else pending_index ps n) ≡ Some i
    → (pending_index ps n ≡ Some i → Stands ps (record { number = n; index = i })) → Stands (p ∷ ps) (record { number = n; index = i })
pending_at p ps n i true same h ih =
    let is : p ≡ record { number = n; index = i } = ap (λ (m : ℕ). record { number = m; index = p.index }) (eqb-true p.number n same) ∙ ap (λ (j : ℕ). record { number = n; index = j }) (same_Some _ _ h) in
    record { place = zero; is = ap Some is }
pending_at p ps n i false other h ih = stands_next p ps _ (ih h)

pub pending_is : (ps : List Pending) (n i : ℕ) → pending_index ps n ≡ Some i → Stands ps (record { number = n; index = i })
pending_is [] n i h = absurd (none-some i h)
pending_is (p ∷ ps) n i h = pending_at p ps n i (p.number == n) refl h (pending_is ps n i)

-- An entry for y goes out under the next number. The replicator's session is open, so that its numbers are new
pub session_sent : (x y : ℕ) (near : List Entry) (sent : List Packet) (s : Replicator) (i : ℕ) (e : Entry) (p : Packet) → (s.state ≡ replicator_state.Closed → ⊥)
    → slice_get near i ≡ Some e → ((j : ℕ) → s.read_index ≤ j → j < i → has s.cursor j ≡ true) → Carries p s.session s.next e
    → InSession x y near sent s → InSession x y near (sent ++ p ∷ []) (replicator_sent i s)
session_sent x y near sent s i e p live at covered carries f = record {
  bounded = λ q r h. elim (get_push sent p q r h) [ inl h ↦ f.bounded q r h.1 | inr h ↦ omega (arith, carries.session, ap (λ (r : Packet). r.session) h.1) ];
  numbered = λ _ q k g is.
      elim (last_send sent p q s.session k g is) [
        | inl h ↦ let lt = f.numbered live q k g h in omega (arith, lt)
        | inr h ↦ let same = same_number p s.session s.session s.next k e g carries h.1 in omega (arith, same)
      ];
  unique = unique_sent;
  opened = λ q r m k g is is'. opened_sent q r m k g is (last_send sent p r m k g is');
  read = λ j g lt at' out. read_sent j g lt at' out (nat_lt j s.read_index) (j == i) refl refl;
  read_within = let w = slice_get_within near i e at in omega (arith, w);
  pending = λ a d is.
      elim (get_push s.pending (record { number = s.next; index = i }) a d is) [
        | inl h ↦
            let n = f.pending a d h.1 in
            record { place = n.place; entry = n.entry; send = send_left sent (p ∷ []) n.place s.session d.number n.entry n.send; at = n.at }
        | inr h ↦ let P : Pending → Type 0 = λ d. IsPending near (sent ++ p ∷ []) s.session d in subst P h.1 here
      ];
}
  where
    new : IsSend (sent ++ p ∷ []) (length sent) s.session s.next e
    new = record { packet = p; at = get_last sent p; carries = carries }

    here : IsPending near (sent ++ p ∷ []) s.session (record { number = s.next; index = i })
    here = record { place = length sent; entry = e; send = new; at = at }

    -- an earlier SEND has another number
    earlier : (q m k : ℕ) (g h : Entry) → IsSend sent q m k g → Carries p m k h → ⊥
    earlier q m k g h is c =
        let P : ℕ → Type 0 = λ n. IsSend sent q n k g in
        let lt = f.numbered live q k g (subst P (sym c.session ∙ carries.session) is) in
        let same = same_number p s.session m s.next k e h carries c in
        omega (arith, lt, same)

    unique_sent : (q r m k : ℕ) (g h : Entry) → IsSend (sent ++ p ∷ []) q m k g → IsSend (sent ++ p ∷ []) r m k h → g ≡ h
    unique_sent q r m k g h is is' = go (last_send sent p q m k g is) (last_send sent p r m k h is')
      where
        go : IsSend sent q m k g ⊎ ((q ≡ length sent) × Carries p m k g) → IsSend sent r m k h ⊎ ((r ≡ length sent) × Carries p m k h) → g ≡ h
        go (inl a) (inl b) = f.unique q r m k g h a b
        go (inl a) (inr b) = absurd (earlier q m k g h a b.1)
        go (inr a) (inl b) = absurd (earlier r m k h g b a.1)
        go (inr a) (inr b) = same_entry p m m k k g h a.1 b.1

    opened_sent : (q r m k : ℕ) (g : Entry) → IsOpener (sent ++ p ∷ []) q m → IsSend sent r m k g ⊎ ((r ≡ length sent) × Carries p m k g) → q < r
    opened_sent q r m k g is is' =
        elim (last_opener sent p q m is) [
          | inr h ↦ absurd (not_both p m s.session s.next e h.1 carries)
          | inl h ↦ elim is' [
            | inl h' ↦ f.opened q r m k g h h'
            | inr h' ↦ let w = slice_get_within sent q h.packet h.at in omega (arith, w, h'.0)
          ]
        ]

    read_sent : (j : ℕ) (g : Entry) → j < i + 1 → slice_get near j ≡ Some g → is_outbound x y g ≡ true → (b c : Bool) → nat_lt j s.read_index ≡ b → (j == i) ≡ c
        → (has s.cursor j ≡ true) ⊎ WasSent (sent ++ p ∷ []) s.session g
    read_sent j g lt at' out true c h h' =
        elim (f.read j g (ltb-true _ _ h) at' out) [ inl k ↦ inl k | inr w ↦ inr (sent_left sent (p ∷ []) s.session g w) ]
    read_sent j g lt at' out false true h h' =
        let P : Entry → Type 0 = λ g. WasSent (sent ++ p ∷ []) s.session g in
        let same : e ≡ g = same_Some _ _ (sym at ∙ (ap (slice_get near) (sym (eqb-true j i h')) ∙ at')) in
        inr (subst P same (record { place = length sent; number = s.next; send = new }))
    read_sent j g lt at' out false false h h' = inl (covered j (grind (arith, nat_tests, h)) (grind (arith, nat_tests, h', lt)))
