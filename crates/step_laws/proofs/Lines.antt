-- What a reader makes of the lines of entries and of replicators that are told of a broker.
use Rattle.std.proofs.Common.{◌≡◌, ℕ, suc, ◌+◌, ◌<◌, Bool, true, false, List, [], ◌∷◌, ◌++◌, length, map, drop, refl, sym, ap, ◌∙◌, ◌==◌, append_assoc, length-append, arith}
use Rattle.std.specs.Prelude.{◌&&◌, if◌then◌else◌, slice_set, codes, decimal}
use Rattle.std.proofs.lemmas.Bool.{eqb-true, false≢true}
use Rattle.std.proofs.lemmas.List.{append-nil}
use Rattle.std.proofs.Math.Seq.{drop-append_seam, set-append_seam}
use Rattle.world_laws.proofs.Types.{Entry, Position, ReplicatorState}
use Rattle.world_laws.proofs.Types.replicator_state
use Rattle.geo_base.specs.Broker.{Broker, replicator_at}
use Rattle.geo_base.specs.Cursor.{mark}
use Rattle.geo_base.specs.Report.{entry_line, entry_lines, replicator_line, shown_state, words}
use Rattle.geo_base.specs.Replicator.{Replicator}
use Rattle.geo_base.specs.Topic.{position_at}
use Rattle.world_laws.proofs.Snapshotting.Hearing.{Stays}
use Rattle.world_laws.proofs.Walks.Walk.{left, right}
use Rattle.step_laws.specs.Steps.{ReportChange, NewEntry, ReplicatorNow, new_entries, other_replicators, same_replicator, same_state}
use Rattle.step_laws.specs.StepsFold.{KeptBroker, broker_reads, broker_reads_all, kept_replicators}

-- one list of changes after another
pub reads_both : (k : KeptBroker) (xs ys : List ReportChange) → broker_reads_all k (xs ++ ys) ≡ broker_reads_all (broker_reads_all k xs) ys
reads_both k [] ys = refl
reads_both k (c ∷ xs) ys = reads_both (broker_reads k c) xs ys

-- ---- entries

reads_lines : (k : KeptBroker) (ls : List (List ℕ)) → broker_reads_all k (map (λ line. NewEntry line) ls) ≡ record k { entries = k.entries ++ ls }
reads_lines k [] = ap (λ (es : List (List ℕ)). record k { entries = es }) (sym (append-nil k.entries))
reads_lines k (l ∷ ls) =
    reads_lines (record k { entries = k.entries ++ l ∷ [] }) ls ∙ ap (λ (es : List (List ℕ)). record k { entries = es }) (append_assoc k.entries (l ∷ []) ls)

lines_both : (names : List (List ℕ)) (ls : List ℕ) (i : ℕ) (xs ys : List Entry) → entry_lines names ls i (xs ++ ys) ≡ entry_lines names ls i xs ++ entry_lines names ls (i + length xs) ys
lines_both names ls i [] ys = ap (λ (n : ℕ). entry_lines names ls n ys) (omega arith)
lines_both names ls i (e ∷ xs) ys =
    let more : i + 1 + length xs ≡ i + suc (length xs) = omega arith in
    ap (λ (r : List (List ℕ)). entry_line names (position_at ls i) e ∷ r)
    (lines_both names ls (i + 1) xs ys ∙ ap (λ (n : ℕ). entry_lines names ls (i + 1) xs ++ entry_lines names ls n ys) more)

lines_stay : (names : List (List ℕ)) (ls ms : List ℕ) (i : ℕ) (xs : List Entry) → ((k : ℕ) → k < i + length xs → position_at ms k ≡ position_at ls k)
    → entry_lines names ms i xs ≡ entry_lines names ls i xs
lines_stay names ls ms i [] same = refl
lines_stay names ls ms i (e ∷ xs) same =
    ap (λ (p : Position). entry_line names p e ∷ entry_lines names ms (i + 1) xs) (same i (omega arith))
    ∙ ap (λ (r : List (List ℕ)). entry_line names (position_at ls i) e ∷ r) (lines_stay names ls ms (i + 1) xs (λ k lt. same k (omega (arith, lt))))

all_lines : (names : List (List ℕ)) (b a : Broker) → Stays b.entries a.entries b.ledgers a.ledgers
    → entry_lines names b.ledgers 0 b.entries ++ entry_lines names a.ledgers (length b.entries) (drop (length b.entries) a.entries) ≡ entry_lines names a.ledgers 0 a.entries
all_lines names b a stays =
    let more : drop (length b.entries) a.entries ≡ stays.more = ap (drop (length b.entries)) stays.is ∙ drop-append_seam b.entries stays.more in
    let none : length b.entries ≡ 0 + length b.entries = omega arith in
    ap (λ (es : List Entry). entry_lines names b.ledgers 0 b.entries ++ entry_lines names a.ledgers (length b.entries) es) more
    ∙ ap (λ (r : List (List ℕ)). r ++ entry_lines names a.ledgers (length b.entries) stays.more) (sym (lines_stay names b.ledgers a.ledgers 0 b.entries (λ k lt. stays.position k (omega (arith, lt)))))
    ∙ ap (λ (n : ℕ). entry_lines names a.ledgers 0 b.entries ++ entry_lines names a.ledgers n stays.more) none
    ∙ sym (lines_both names a.ledgers 0 b.entries stays.more)
    ∙ ap (entry_lines names a.ledgers 0) (sym stays.is)

-- who kept the entries' lines of b keeps those of a
pub reads_entries : (names : List (List ℕ)) (b a : Broker) (k : KeptBroker) → Stays b.entries a.entries b.ledgers a.ledgers
    → k.entries ≡ entry_lines names b.ledgers 0 b.entries
    → broker_reads_all k (new_entries names b a) ≡ record k { entries = entry_lines names a.ledgers 0 a.entries }
reads_entries names b a k stays is =
    let more = entry_lines names a.ledgers (length b.entries) (drop (length b.entries) a.entries) in
    reads_lines k more ∙ ap (λ (es : List (List ℕ)). record k { entries = es }) (ap (λ (r : List (List ℕ)). r ++ more) is ∙ all_lines names b a stays)

-- ---- replicators

state_is : (a b : ReplicatorState) → same_state a b ≡ true → a ≡ b
state_is replicator_state.Closed replicator_state.Closed h = refl
state_is replicator_state.Opening replicator_state.Opening h = refl
state_is replicator_state.Open replicator_state.Open h = refl
state_is replicator_state.Closed replicator_state.Opening h = absurd (false≢true h)
state_is replicator_state.Closed replicator_state.Open h = absurd (false≢true h)
state_is replicator_state.Opening replicator_state.Closed h = absurd (false≢true h)
state_is replicator_state.Opening replicator_state.Open h = absurd (false≢true h)
state_is replicator_state.Open replicator_state.Closed h = absurd (false≢true h)
state_is replicator_state.Open replicator_state.Opening h = absurd (false≢true h)

-- the line of a replicator says what is compared
line_is : (n : List ℕ) (s q : Replicator) → same_replicator s q ≡ true → replicator_line n s ≡ replicator_line n q
line_is n s q h =
    let by : (i j : ℕ) (t u : ReplicatorState) (m k : ℕ) → i ≡ j → t ≡ u → m ≡ k
    → words (codes "sender" ∷ n ∷ codes "session" ∷ decimal i ∷ shown_state t ∷ codes "mark" ∷ decimal m ∷ [])
    ≡ words (codes "sender" ∷ n ∷ codes "session" ∷ decimal j ∷ shown_state u ∷ codes "mark" ∷ decimal k ∷ []) = λ i j t u m k e f g.
    ap (λ (x : ℕ). words (codes "sender" ∷ n ∷ codes "session" ∷ decimal x ∷ shown_state t ∷ codes "mark" ∷ decimal m ∷ [])) e
    ∙ ap (λ (x : ReplicatorState). words (codes "sender" ∷ n ∷ codes "session" ∷ decimal j ∷ shown_state x ∷ codes "mark" ∷ decimal m ∷ [])) f
    ∙ ap (λ (x : ℕ). words (codes "sender" ∷ n ∷ codes "session" ∷ decimal j ∷ shown_state u ∷ codes "mark" ∷ decimal x ∷ [])) g in
    by s.session q.session s.state q.state (mark s.cursor) (mark q.cursor)
    (eqb-true s.session q.session (left (s.session == q.session) _ (left ((s.session == q.session) && same_state s.state q.state) _ h)))
    (state_is s.state q.state (right (s.session == q.session) _ (left ((s.session == q.session) && same_state s.state q.state) _ h)))
    (eqb-true (mark s.cursor) (mark q.cursor) (right ((s.session == q.session) && same_state s.state q.state) _ h))

-- one replicator's place, own where t, told where it is not the same
one_place : (k : KeptBroker) (y : ℕ) (pre rest : List (List ℕ)) (t u : Bool) (before after : List ℕ) → length pre ≡ y → (u ≡ true → before ≡ after)
    → k.replicators ≡ pre ++ (if t then [] else before) ∷ rest
    → broker_reads_all k (if t then [] else if u then [] else ReplicatorNow y after ∷ []) ≡ record k { replicators = pre ++ (if t then [] else after) ∷ rest }
one_place k y pre rest true u before after at same is = ap (λ (ss : List (List ℕ)). record k { replicators = ss }) is
one_place k y pre rest false true before after at same is =
    ap (λ (ss : List (List ℕ)). record k { replicators = ss }) (is ∙ ap (λ (l : List ℕ). pre ++ l ∷ rest) (same refl))
one_place k y pre rest false false before after at same is =
    ap (λ (ss : List (List ℕ)). record k { replicators = ss })
    (ap (λ (ss : List (List ℕ)). slice_set ss y after) is ∙ ap (λ (n : ℕ). slice_set (pre ++ before ∷ rest) n after) (sym at) ∙ set-append_seam pre before rest after)

reads_replicators_from : (own y : ℕ) (names : List (List ℕ)) (b a : Broker) (k : KeptBroker) (pre : List (List ℕ)) → length pre ≡ y
    → k.replicators ≡ pre ++ kept_replicators own y names b
    → broker_reads_all k (other_replicators own y names b a) ≡ record k { replicators = pre ++ kept_replicators own y names a }
reads_replicators_from own y [] b a k pre at is = ap (λ (ss : List (List ℕ)). record k { replicators = ss }) is
reads_replicators_from own y (n ∷ ns) b a k pre at is =
    let s = replicator_at b y in let q = replicator_at a y in
    let u = same_replicator s q in
    let here = if own == y then [] else if u then [] else ReplicatorNow y (replicator_line n q) ∷ [] in
    let line = if own == y then [] else replicator_line n q in
    let k' = record k { replicators = pre ++ line ∷ kept_replicators own (y + 1) ns b } in
    reads_both k here (other_replicators own (y + 1) ns b a)
    ∙ ap (λ (j : KeptBroker). broker_reads_all j (other_replicators own (y + 1) ns b a)) (one_place k y pre (kept_replicators own (y + 1) ns b) (own == y) u (replicator_line n s) (replicator_line n q) at (line_is n s q) is)
    ∙ reads_replicators_from own (y + 1) ns b a k' (pre ++ line ∷ []) (length-append pre (line ∷ []) ∙ ap (λ (m : ℕ). m + 1) at) (sym (append_assoc pre (line ∷ []) (kept_replicators own (y + 1) ns b)))
    ∙ ap (λ (ss : List (List ℕ)). record k { replicators = ss }) (append_assoc pre (line ∷ []) (kept_replicators own (y + 1) ns a))

-- who kept the replicators' lines of b keeps those of a
pub reads_replicators : (own : ℕ) (names : List (List ℕ)) (b a : Broker) (k : KeptBroker) → k.replicators ≡ kept_replicators own 0 names b
    → broker_reads_all k (other_replicators own 0 names b a) ≡ record k { replicators = kept_replicators own 0 names a }
reads_replicators own names b a k is = reads_replicators_from own 0 names b a k [] refl is
