-- The facts of snapshots, and that they are enough for the second round and the cut. All over values: the topics a of x, b of y, cs of
-- c, the ledgers of each, and the builder at x.
use Rattle.std.proofs.Common.{◌≡◌, ℕ, suc, ◌-◌, ◌^◌, ◌<◌, ◌≤◌, true, false, List, length, refl, sym, ap, subst, ◌∙◌, arith, inl, inr, ◌⊎◌}
use Rattle.std.specs.Prelude.{Some, None, slice_get, slice_index_or}
use Rattle.std.proofs.lemmas.Option.{same_Some, slice_get_within}
use Rattle.std.proofs.lemmas.Bool.{eq-eqb, false≢true}
use Rattle.world_laws.proofs.Types.{SnapshotBuilder, ClusterPosition, Entry, Position}
use Rattle.world_laws.proofs.Types.content
use Rattle.world_laws.proofs.Types.marker
use Rattle.world_laws.proofs.Types.targets
use Rattle.geo_base.specs.SnapshotBuilder.{second_id, snapshot_id}
use Rattle.geo_base.specs.Cursor.{has}
use Rattle.geo_base.specs.Entry.{goes_to, is_outbound, meant_for}
use Rattle.geo_base.specs.Position.{position_le}
use Rattle.geo_base.specs.Topic.{index_of, position_at}
use Rattle.world_laws.proofs.Snapshotting.Answering.{AllAnswers, AnswerAt, Answering, Answers, Asks, RequestAt}
use Rattle.world_laws.proofs.Snapshotting.Everyone.{apart}
use Rattle.world_laws.proofs.OnceInOrder.Members.{Stands, from_filter, stands_left, to_filter}
use Rattle.world_laws.proofs.OnceInOrder.Once.{OnceIn}
use Rattle.world_laws.proofs.TopicOrder.Order.{Below, Chain, Follows, FromWhom, covered, of_source, round_two}
use Rattle.world_laws.proofs.Replicating.Prefixes.{Begins, is_of}
use Rattle.world_laws.proofs.Walks.Walk.{by_test}
use Rattle.geo_base.proofs.Bools.{and_of_both, and_second, or_other}

-- an own request has the id of its place, or that of a request before it, for the second round
pub data Form (name : List ℕ) (es : List Entry) (ls : List ℕ) (x k : ℕ) (id : List ℕ) : Type 0 where
  First : id ≡ snapshot_id name (position_at ls k) → Form name es ls x k id
  Second : (j : ℕ) → j < k → RequestAt x es j (snapshot_id name (position_at ls j)) → id ≡ second_id (snapshot_id name (position_at ls j)) → Form name es ls x k id

pub record Own (n x : ℕ) (name : List ℕ) (es : List Entry) (ls : List ℕ) : Type 0 where
  pub answering : Answering n x es ls
  pub forms : (k : ℕ) (id : List ℕ) → RequestAt x es k id → Form name es ls x k id

-- an answer that counted, not above the builder's local position
pub record Counted (y : ℕ) (es : List Entry) (ls : List ℕ) (id : List ℕ) (p local : Position) : Type 0 where
  pub index : ℕ
  pub entry : Entry
  pub answer : ClusterPosition
  pub heard : AnswerAt y es index id answer entry
  pub names : answer.position ≡ p
  pub low : position_le (position_at ls index) local ≡ true

-- in round two it stands before each own request of the second id
pub record FirstCounted (x y : ℕ) (es : List Entry) (ls : List ℕ) (u : SnapshotBuilder) (p : Position) : Type 0 where
  pub counted : Counted y es ls u.id p u.cut.local
  pub early : u.second ≡ true → (i : ℕ) (g : Entry) → slice_get es i ≡ Some g → is_of x g ≡ true → Asks (second_id u.id) g → counted.index < i

pub record Made (n x : ℕ) (name : List ℕ) (es : List Entry) (ls : List ℕ) (u : SnapshotBuilder) : Type 0 where
  pub own : u.own ≡ x
  pub clusters : u.clusters ≡ n
  pub asked : (k : ℕ) × (u.id ≡ snapshot_id name (position_at ls k)) × RequestAt x es k u.id
  pub places : length u.cut.remote ≡ n
  pub empty : slice_index_or u.cut.remote x None ≡ None
  pub others : (c : ℕ) → has u.heard c ≡ true → (c < n) × (c ≡ x → ⊥)
  pub distinct : apart u.heard ≡ true
  pub local : (u.second ≡ true) ⊎ (0 < length u.heard) → (l : ℕ) × (index_of ls u.cut.local ≡ Some l)
  pub zero : u.second ≡ false → length u.heard ≡ 0 → u.cut.local ≡ record { ledger = 0; entry = 0 }
  pub first : (y : ℕ) (p : Position) → slice_index_or u.cut.remote y None ≡ Some p → FirstCounted x y es ls u p
  pub one : u.second ≡ false → (c : ℕ) → has u.heard c ≡ true → (p : Position) × (slice_index_or u.cut.remote c None ≡ Some p)
  pub all : u.second ≡ true → (c : ℕ) → c < n → (c ≡ x → ⊥) → (p : Position) × (slice_index_or u.cut.remote c None ≡ Some p)
  pub again : u.second ≡ true → (c : ℕ) → has u.heard c ≡ true → (p : Position) × Counted c es ls (second_id u.id) p u.cut.local

-- between events alone
abbrev pub NotYet : ℕ → List Entry → SnapshotBuilder → Type 0
NotYet x es u = u.second ≡ false → (k : ℕ) → RequestAt x es k (second_id u.id) → ⊥

-- what a beginning has of y is for x
pub out_there : (x y : ℕ) (near far : List Entry) → Begins y x near far → (k : ℕ) (e : Entry) → slice_get far k ≡ Some e → is_of y e ≡ true → is_outbound y x e ≡ true
out_there x y near far begins k e at of =
    let P : List Entry → Type 0 = λ l. Stands l e in
    (from_filter (is_outbound y x) near e (subst P (sym begins.1) (stands_left _ begins.0 e (to_filter (is_of y) far e k at of)))).passes

-- where y has the entry that x counted, it stands after the index that it names
named_before : (n x y : ℕ) (b : List Entry) (ls : List ℕ) → AllAnswers n y b ls → (id : List ℕ) (answer : ClusterPosition) (r : Entry) (l : ℕ)
    → is_of y r ≡ true → r.content ≡ content.Marked (marker.Response id answer) → index_of ls answer.position ≡ Some l → (k : ℕ) → slice_get b k ≡ Some r → l < k
named_before n x y b ls known id answer r l of is at k here =
    let h = known k id answer r (record { at = here; of = of; is = is }) in
    let same : k - 1 ≡ l = same_Some _ _ (sym h.names ∙ at) in
    omega (arith, same, h.below)

-- the second round: an answer e of c to the second id, whose asker is x
pub comes_after : (n x c y : ℕ) (name : List ℕ) (a cs b : List Entry) (la lc lb : List ℕ) (u : SnapshotBuilder) → Begins y x b a → Begins x c a cs → Chain x c y a cs b
    → Made n x name a la u → u.second ≡ true → AllAnswers n c cs lc → AllAnswers n y b lb
    → (j : ℕ) (answer : ClusterPosition) (e : Entry) (at : AnswerAt c cs j (second_id u.id) answer e)
    → ((h : Answers n c cs lc j (second_id u.id) answer e) → h.asker ≡ x)
    → (p : Position) (l : ℕ) → slice_index_or u.cut.remote y None ≡ Some p → index_of lb p ≡ Some l
    → (i : ℕ) (f : Entry) → slice_get b i ≡ Some f → i ≤ l → is_of c f ≡ true → Below cs j f
comes_after n x c y name a cs b la lc lb u y_to_x x_to_c chain made second at_c at_y j answer e at mine p l kept named i f at_i le from =
    let first = made.first y p kept in
    let r = first.counted in
    let h = at_c j (second_id u.id) answer e at in
    let P : ℕ → Type 0 = λ z. RequestAt z cs h.index (second_id u.id) in
    let request : RequestAt x cs h.index (second_id u.id) = subst P (mine h) h.request in
    let named' : index_of lb r.answer.position ≡ Some l = ap (index_of lb) r.names ∙ named in
    let found = round_two x c y a cs b y_to_x x_to_c chain r.index l h.index i r.entry request.entry f (Asks (second_id u.id)) r.heard.at r.heard.of (first.early second)
    (named_before n x y b lb at_y u.id r.answer r.entry l r.heard.of r.heard.is named') request.at request.of request.asks at_i le from in
    record { place = found.place; below = omega (arith, found.below, h.below); is = found.is }

-- All topics of a name: tops are their entries, ledgers the lengths of theirs
pub record Around (n x : ℕ) (names : ℕ → List ℕ) (tops : ℕ → List Entry) (ledgers : ℕ → List ℕ) : Type 0 where
  pub begins : (v w : ℕ) → v < n → w < n → (v ≡ w → ⊥) → Begins v w (tops v) (tops w)
  pub once : (v : ℕ) → v < n → OnceIn (tops v)
  pub follows : (y : ℕ) → y < n → (x ≡ y → ⊥) → Follows x y (tops x) (tops y)
  pub chain : (c y : ℕ) → c < n → y < n → (x ≡ c → ⊥) → (x ≡ y → ⊥) → (c ≡ y → ⊥) → Chain x c y (tops x) (tops c) (tops y)
  pub own : (v : ℕ) → v < n → Own n v (names v) (tops v) (ledgers v)
  -- of positions and of targets, by arithmetic
  pub low : (k l : ℕ) (local : Position) → k < length (tops x) → position_le (position_at (ledgers x) k) local ≡ true → index_of (ledgers x) local ≡ Some l → k ≤ l
  pub only : (z : ℕ) → goes_to x (targets.Only (2 ^ z)) ≡ true → z ≡ x

-- a builder that has heard all, in its last round
pub record Finished (n x : ℕ) (u : SnapshotBuilder) : Type 0 where
  pub heard : (c : ℕ) → c < n → (c ≡ x → ⊥) → has u.heard c ≡ true
  pub last : (u.second ≡ true) ⊎ (n ≡ 2)

pub record CoversAll (x : ℕ) (a b : List Entry) (lb : List ℕ) (u : SnapshotBuilder) (y l : ℕ) : Type 0 where
  pub position : Position
  pub kept : slice_index_or u.cut.remote y None ≡ Some position
  pub index : ℕ
  pub stands : index_of lb position ≡ Some index
  pub covers : (i : ℕ) (f : Entry) → i ≤ index → slice_get b i ≡ Some f → meant_for x f ≡ true → Below a (suc l) f

kept_for : (n x y : ℕ) (name : List ℕ) (a : List Entry) (la : List ℕ) (u : SnapshotBuilder) → Made n x name a la u → Finished n x u → y < n → (y ≡ x → ⊥)
    → (p : Position) × (slice_index_or u.cut.remote y None ≡ Some p)
kept_for n x y name a la u made done small other = by_test u.second (λ second. made.all second y small other) (λ first. made.one first y (done.heard y small other))

-- the cut at y of a builder that is done, l being the index of its local position
pub cut_done : (n x y l : ℕ) (names : ℕ → List ℕ) (tops : ℕ → List Entry) (ledgers : ℕ → List ℕ) (u : SnapshotBuilder) → Around n x names tops ledgers
    → Made n x (names x) (tops x) (ledgers x) u → Finished n x u → index_of (ledgers x) u.cut.local ≡ Some l → x < n → y < n → (x ≡ y → ⊥)
    → CoversAll x (tops x) (tops y) (ledgers y) u y l
cut_done n x y l names tops ledgers u around made done at_l small_x small_y other = record {
  position = kept.0;
  kept = kept.1;
  index = there.place - 1;
  stands = named;
  covers = λ i f le at meant. covers i f le at meant;
}
  where
    back : y ≡ x → ⊥
    back e = other (sym e)

    kept : (p : Position) × (slice_index_or u.cut.remote y None ≡ Some p)
    kept = kept_for n x y (names x) (tops x) (ledgers x) u made done small_y back

    first : FirstCounted x y (tops x) (ledgers x) u kept.0
    first = made.first y kept.0 kept.1

    r : Counted y (tops x) (ledgers x) u.id kept.0 u.cut.local
    r = first.counted

    there : Stands (tops y) r.entry
    there = of_source y x (tops y) (tops x) (around.begins y x small_y small_x back) r.index r.entry r.heard.at r.heard.of

    known : Answers n y (tops y) (ledgers y) there.place u.id r.answer r.entry
    known = (around.own y small_y).answering.answers there.place u.id r.answer r.entry (record { at = there.is; of = r.heard.of; is = r.heard.is })

    named : index_of (ledgers y) kept.0 ≡ Some (there.place - 1)
    named = ap (index_of (ledgers y)) (sym r.names) ∙ known.names

    low : r.index ≤ l
    low = around.low r.index l u.cut.local (slice_get_within (tops x) r.index r.entry r.heard.at) r.low at_l

    out_r : is_outbound y x r.entry ≡ true
    out_r = out_there x y (tops y) (tops x) (around.begins y x small_y small_x back) r.index r.entry r.heard.at r.heard.of

    third : (i : ℕ) (f : Entry) → i ≤ there.place - 1 → slice_get (tops y) i ≡ Some f → is_of x f ≡ false → is_of y f ≡ false → goes_to x f.to ≡ true
        → FromWhom x y (tops x) (tops y) tops l f
    third i f le at not_x not_y goes = by done.last
      where
        c : ℕ
        c = f.ident.origin

        small_c : c < n
        small_c = (around.own y small_y).answering.origins i f at

        from : is_of c f ≡ true
        from = eq-eqb c c refl

        c_x : c ≡ x → ⊥
        c_x e = false≢true (sym not_x ∙ eq-eqb c x e)

        c_y : c ≡ y → ⊥
        c_y e = false≢true (sym not_y ∙ eq-eqb c y e)

        later : u.second ≡ true → FromWhom x y (tops x) (tops y) tops l f
        later second =
            let again = made.again second c (done.heard c small_c c_x) in
            let e = again.1 in
            let begins = around.begins c x small_c small_x c_x in
            let s = of_source c x (tops c) (tops x) begins e.index e.entry e.heard.at e.heard.of in
            let out_e = out_there x c (tops c) (tops x) begins e.index e.entry e.heard.at e.heard.of in
            let mine : (h : Answers n c (tops c) (ledgers c) s.place (second_id u.id) e.answer e.entry) → h.asker ≡ x =
            λ h. around.only h.asker (subst (λ to. goes_to x to ≡ true) h.to (and_second (is_of c e.entry) (goes_to x e.entry.to) out_e)) in
            let before = comes_after n x c y (names x) (tops x) (tops c) (tops y) (ledgers x) (ledgers c) (ledgers y) u
            (around.begins y x small_y small_x back) (around.begins x c small_x small_c (λ h. c_x (sym h)))
            (around.chain c y small_c small_y (λ h. c_x (sym h)) other c_y) made second (around.own c small_c).answering.answers (around.own y small_y).answering.answers
            s.place e.answer e.entry (record { at = s.is; of = e.heard.of; is = e.heard.is }) mine kept.0 (there.place - 1) kept.1 named i f at le from in
            FromWhom.Third c s.place e.index e.entry begins (around.once c small_c) (and_of_both (is_of c f) (goes_to x f.to) from goes) out_e s.is e.heard.at
            (around.low e.index l u.cut.local (slice_get_within (tops x) e.index e.entry e.heard.at) e.low at_l) before

        by : (u.second ≡ true) ⊎ (n ≡ 2) → FromWhom x y (tops x) (tops y) tops l f
        by (inl second) = later second
        by (inr two) = absurd (no_third x y c (omega (arith, small_x, two)) (omega (arith, small_y, two)) (omega (arith, small_c, two)) other c_x c_y)
          where
            no_third : (x y c : ℕ) → x < 2 → y < 2 → c < 2 → (x ≡ y → ⊥) → (c ≡ x → ⊥) → (c ≡ y → ⊥) → ⊥
            no_third x y c hx hy hc h k m = omega (arith, hx, hy, hc, h, k, m)

    whom : (i : ℕ) (f : Entry) → i ≤ there.place - 1 → slice_get (tops y) i ≡ Some f → meant_for x f ≡ true → FromWhom x y (tops x) (tops y) tops l f
    whom i f le at meant =
        by_test (is_of x f) FromWhom.Own
        (λ not_x. let goes = or_other (is_of x f) (goes_to x f.to) meant not_x in
        by_test (is_of y f) (λ of_y. FromWhom.There (and_of_both (is_of y f) (goes_to x f.to) of_y goes)) (λ not_y. third i f le at not_x not_y goes))

    covers : (i : ℕ) (f : Entry) → i ≤ there.place - 1 → slice_get (tops y) i ≡ Some f → meant_for x f ≡ true → Below (tops x) (suc l) f
    covers i f le at meant =
        covered x y (tops x) (tops y) tops (around.begins y x small_y small_x back) (around.follows y small_y other) (around.once x small_x) (around.once y small_y)
        r.index there.place (there.place - 1) i l r.entry f r.heard.at there.is out_r low (omega (arith, known.below)) at le (whom i f le at meant)
