-- Six of the facts of what is observed of a run: once, brought, alike, received, stored and only.
use Rattle.std.proofs.Common.{◌≡◌, ℕ, zero, suc, ◌+◌, ◌<◌, ◌≤◌, Bool, true, false, List, [], ◌∷◌, ◌++◌, length, map, refl, sym, ap, subst, ◌∙◌, ◌==◌, arith, inl, inr, ◌⊎◌}
use Rattle.std.specs.Prelude.{◌≢◌, Some, slice_get, slice_index_or, take, filter, ◌&&◌, ◌||◌}
use Rattle.std.specs.List.{list_any}
use Rattle.std.proofs.lemmas.Bool.{eqb-true}
use Rattle.std.proofs.lemmas.List.{append-nil}
use Rattle.std.proofs.lemmas.List.Elements.{filter-append, filter_agree}
use Rattle.std.proofs.lemmas.Option.{none-some, same_Some}
use Rattle.world_laws.proofs.Types.{Entry, Ident, Position, Step}
use Rattle.geo_base.specs.Broker.{replicator_at}
use Rattle.geo_base.specs.Cursor.{has}
use Rattle.geo_base.specs.Entry.{goes_to, is_data, is_outbound, meant_for, same_ident}
use Rattle.geo_base.specs.Audit.{same_entry}
use Rattle.geo_base.specs.Laws.{ArePair, of_origin, outbound}
use Rattle.geo_base.specs.Mirror.{MirrorSub}
use Rattle.geo_base.specs.Position.{no_position, same_position}
use Rattle.geo_base.specs.Run.{run}
use Rattle.geo_base.specs.Settled.{settled}
use Rattle.geo_base.specs.Topic.{index_of}
use Rattle.geo_base.specs.Safe.{IsEntry}
use Rattle.geo_base.specs.Setup.{Setup, declared_at}
use Rattle.geo_base.specs.Subscription.{Subscription}
use Rattle.geo_base.specs.World.{World, node, opening_world, topic_at}
use Rattle.world_laws.proofs.Induction.Reaching.{indexes}
use Rattle.world_laws.proofs.KeptRuns.Starting.{opening_starts}
use Rattle.world_laws.proofs.OnceInOrder.Members.{below_or, get_left, get_within}
use Rattle.world_laws.proofs.Published.PublishedLaw.{published_always}
use Rattle.world_laws.proofs.Replicating.Pairs.{prefix_always, receipt_always}
use Rattle.world_laws.proofs.Replicating.Sizes.{IsThere}
use Rattle.world_laws.proofs.Telling.ToldLaws.{safe_always}
use Rattle.world_laws.specs.Publishing.{StandsAt, ident_of}
use Rattle.observation.specs.declared.said.Said.{Said}
use Rattle.observation.specs.declared.said.Said.TheVariants as said
use Rattle.observation.specs.Observed.{Seen, entries_seen, is_dealt_with, received_at, topic_seen}
use Rattle.observation.specs.Safe.{AreAlike, Begins, IsBrought, IsReceived, IsStored, OnceIn, Stands, is_common}
use Rattle.observation.proofs.Places.{ident_self}
use Rattle.observed_laws.specs.Reads.{Reading, WasReceipted, observation_of}
use Rattle.trace_laws.specs.Seen.{sub_seen}
use Rattle.observed_laws.proofs.Beginnings.{begins_of, both_same, filter_both, made_here, one_begins}
use Rattle.observed_laws.proofs.Moments.{after, at_end, grown, grown_end, reached, short_before}
use Rattle.observed_laws.proofs.Seeing.{IsRead, PlaceSeen, StandsThere, early, entries_there, grown_quiet, late, once_at, place_seen, seen_nothing, seen_there, settled_dealt, stands_seen, stands_there, there_stands}

-- ---- once

pub once_seen : (s : Setup) (es : List Step) (r : Reading) (logs : List Said) (t x : ℕ) → IsThere s t x → OnceIn (entries_seen s (observation_of s es r logs) t x)
once_seen s es r logs t x there = by (r.read (node s t x)) refl
  where
    by : (b : Bool) → r.read (node s t x) ≡ b → OnceIn (entries_seen s (observation_of s es r logs) t x)
    by true read = subst OnceIn (sym (entries_there s es r logs t x there read)) (once_at s es (r.entries (node s t x)) t x)
    by false read =
        subst (λ (v : Seen). OnceIn v.topic.entries) (sym (seen_nothing s es r logs t x there read)) (λ i j e f lt ati atj same. absurd (none-some e ati))

-- ---- brought

-- what stands at x of y's is a beginning of what y has for x, at each moment
prefix_at : (s : Setup) (es : List Step) (k t x y : ℕ) → ArePair s y x
    → (rest : List Entry) × (outbound y x (topic_at s (after s es k) t y).entries ≡ of_origin y (topic_at s (after s es k) t x).entries ++ rest)
prefix_at s es k t x y pair = (prefix_always s).run (take k es) t y x pair

pub brought_seen : (s : Setup) (es : List Step) (r : Reading) (logs : List Said) (t x y : ℕ) → IsRead s es r logs → IsThere s t x → IsThere s t y → x ≢ y
    → r.read (node s t x) ≡ true → r.read (node s t y) ≡ true → IsBrought s (observation_of s es r logs) t x y
brought_seen s es r logs t x y read there_x there_y differ read_x read_y = seen (by r.quiet refl)
  where
    X : List Entry
    X = (late s es r t x).entries

    Y : List Entry
    Y = (late s es r t y).entries

    m : ℕ
    m = r.entries (node s t x)

    n : ℕ
    n = r.entries (node s t y)

    is_of : Entry → Bool
    is_of e = e.ident.origin == y

    pair : ArePair s y x
    pair = (there_y.1, there_x.1, λ e. differ (sym e))

    -- y was read after x, or at a moment at which all of x stood there
    whole : (more : List Entry) (k : ℕ) → (topic_at s (after s es k) t x).entries ≡ X ++ more → (topic_at s (after s es k) t y).entries ≡ Y → Begins (of_origin y X) (outbound y x Y)
    whole more k grown_x same_y =
        let p = prefix_at s es k t x y pair in
        let all : outbound y x Y ≡ of_origin y X ++ (of_origin y more ++ p.0) =
        ap (outbound y x) (sym same_y) ∙ p.1 ∙ ap (λ (l : List Entry). of_origin y l ++ p.0) grown_x ∙ ap (λ (l : List Entry). l ++ p.0) (filter-append is_of X more)
        ∙ joined (of_origin y X) (of_origin y more) p.0 in
        begins_of (of_origin y X) (outbound y x Y) (of_origin y more ++ p.0) all
      where
        joined : (xs ys zs : List Entry) → (xs ++ ys) ++ zs ≡ xs ++ (ys ++ zs)
        joined [] ys zs = refl
        joined (a ∷ xs) ys zs = ap (λ (l : List Entry). a ∷ l) (joined xs ys zs)

    two : n ≤ m → Begins (of_origin y X) (outbound y x Y) ⊎ Begins (outbound y x Y) (of_origin y X)
    two le =
        let p = prefix_at s es m t x y pair in let more = grown s read.scripted es n m le t y there_y in
        let all : of_origin y X ++ p.0 ≡ outbound y x Y ++ outbound y x more.more =
        sym p.1 ∙ ap (outbound y x) more.is ∙ filter-append (is_outbound y x) Y more.more in
        one_begins (of_origin y X) p.0 (outbound y x Y) (outbound y x more.more) all

    by : (q : Bool) → r.quiet ≡ q → Begins (of_origin y X) (outbound y x Y) ⊎ ((r.quiet ≡ false) × Begins (outbound y x Y) (of_origin y X))
    by true quiet = let more = grown_quiet s es r (node s t y) m read.scripted read.rest quiet t x there_x in inl (whole more.more n more.is refl)
    by false quiet =
        elim (below_or m n) [
          | inl lt ↦ let more = grown s read.scripted es m n (omega (arith, lt)) t x there_x in inl (whole more.more n more.is refl)
          | inr ge ↦ elim (two ge) [ inl begun ↦ inl begun | inr begun ↦ inr (quiet, begun) ]
        ]

    seen : Begins (of_origin y X) (outbound y x Y) ⊎ ((r.quiet ≡ false) × Begins (outbound y x Y) (of_origin y X)) → IsBrought s (observation_of s es r logs) t x y
    seen h =
        let B : List Entry → List Entry → Type 0 = λ k l. Begins (of_origin y k) (outbound y x l) ⊎ ((r.quiet ≡ false) × Begins (outbound y x l) (of_origin y k)) in
        subst (λ (k : List Entry). B k (entries_seen s (observation_of s es r logs) t y)) (sym (entries_there s es r logs t x there_x read_x))
        (subst (λ (l : List Entry). B X l) (sym (entries_there s es r logs t y there_y read_y)) h)

-- ---- alike

-- of what y has for x, what z could have too; it is the same from both sides
abbrev for_both : (y x z : ℕ) → Entry → Bool
for_both y x z e = is_outbound y x e && (is_data e.content && meant_for z e)

same_for_both : (y x z : ℕ) → x ≢ y → z ≢ y → (e : Entry) → for_both y x z e ≡ for_both y z x e
same_for_both y x z differ_x differ_z e = by (e.ident.origin == y) refl
  where
    other : (w : ℕ) → w ≢ y → (e.ident.origin == y) ≡ true → (e.ident.origin == w) ≡ false
    other w differ own = go (e.ident.origin == w) refl
      where
        go : (b : Bool) → (e.ident.origin == w) ≡ b → (e.ident.origin == w) ≡ false
        go true is = absurd (differ (sym (eqb-true e.ident.origin w is) ∙ eqb-true e.ident.origin y own))
        go false is = is

    turned : (gx d gz : Bool) → (gx && (d && gz)) ≡ (gz && (d && gx))
    turned true true true = refl
    turned true true false = refl
    turned true false true = refl
    turned true false false = refl
    turned false true true = refl
    turned false true false = refl
    turned false false true = refl
    turned false false false = refl

    by : (b : Bool) → (e.ident.origin == y) ≡ b
        → (((e.ident.origin == y) && goes_to x e.to) && (is_data e.content && ((e.ident.origin == z) || goes_to z e.to)))
        ≡ (((e.ident.origin == y) && goes_to z e.to) && (is_data e.content && ((e.ident.origin == x) || goes_to x e.to)))
    by true own =
        let L : Bool → Bool → Bool = λ a b. (a && goes_to x e.to) && (is_data e.content && (b || goes_to z e.to)) in
        let R : Bool → Bool → Bool = λ a b. (a && goes_to z e.to) && (is_data e.content && (b || goes_to x e.to)) in
        ap (λ (a : Bool). L a (e.ident.origin == z)) own ∙ ap (L true) (other z differ_z own) ∙ turned (goes_to x e.to) (is_data e.content) (goes_to z e.to)
        ∙ sym (ap (λ (a : Bool). R a (e.ident.origin == x)) own ∙ ap (R true) (other x differ_x own))
    by false not_own =
        ap (λ (a : Bool). (a && goes_to x e.to) && (is_data e.content && ((e.ident.origin == z) || goes_to z e.to))) not_own
        ∙ sym (ap (λ (a : Bool). (a && goes_to z e.to) && (is_data e.content && ((e.ident.origin == x) || goes_to x e.to))) not_own)

abbrev common_of : (y z : ℕ) → List Entry → List Entry
common_of y z es = filter (is_common y z) es

-- what is common of a topic at some moment begins what is for both of y's at it, and that of what was read before begins it too
common_begins : (s : Setup) (es : List Step) (k t x y z : ℕ) (xs more : List Entry) → ArePair s y x → (topic_at s (after s es k) t x).entries ≡ xs ++ more
    → (rest : List Entry) × (filter (for_both y x z) (topic_at s (after s es k) t y).entries ≡ common_of y z xs ++ rest)
common_begins s es k t x y z xs more pair grown_x =
    let p = prefix_at s es k t x y pair in
    let T = (topic_at s (after s es k) t x).entries in let U = (topic_at s (after s es k) t y).entries in
    let Q : Entry → Bool = λ e. is_data e.content && meant_for z e in
    let is_of : Entry → Bool = λ e. e.ident.origin == y in
    let common : filter Q (of_origin y T) ≡ common_of y z xs ++ common_of y z more =
    filter_both is_of Q T ∙ ap (common_of y z) grown_x ∙ filter-append (is_common y z) xs more in (
      common_of y z more ++ filter Q p.0,
      sym (filter_both (is_outbound y x) Q U) ∙ ap (filter Q) p.1 ∙ filter-append Q (of_origin y T) p.0 ∙ ap (λ (l : List Entry). l ++ filter Q p.0) common
          ∙ joined (common_of y z xs) (common_of y z more) (filter Q p.0),
    )
  where
    joined : (ks ls ms : List Entry) → (ks ++ ls) ++ ms ≡ ks ++ (ls ++ ms)
    joined [] ls ms = refl
    joined (a ∷ ks) ls ms = ap (λ (l : List Entry). a ∷ l) (joined ks ls ms)

pub alike_seen : (s : Setup) (es : List Step) (r : Reading) (logs : List Said) (t y x z : ℕ) → IsRead s es r logs → IsThere s t y → IsThere s t x → IsThere s t z → x ≢ y → z ≢ y
    → r.read (node s t x) ≡ true → r.read (node s t z) ≡ true → AreAlike s (observation_of s es r logs) t y x z
alike_seen s es r logs t y x z read there_y there_x there_z differ_x differ_z read_x read_z k e f ate atf = at (below_or m n)
  where
    m : ℕ
    m = r.entries (node s t x)

    n : ℕ
    n = r.entries (node s t z)

    here : slice_get (common_of y z (late s es r t x).entries) k ≡ Some e
    here = subst (λ (l : List Entry). slice_get (common_of y z l) k ≡ Some e) (entries_there s es r logs t x there_x read_x) ate

    there : slice_get (common_of y x (late s es r t z).entries) k ≡ Some f
    there = subst (λ (l : List Entry). slice_get (common_of y x l) k ≡ Some f) (entries_there s es r logs t z there_z read_z) atf

    both : (k' : ℕ) (more_x more_z : List Entry) → (topic_at s (after s es k') t x).entries ≡ (late s es r t x).entries ++ more_x
        → (topic_at s (after s es k') t z).entries ≡ (late s es r t z).entries ++ more_z → same_entry e f ≡ true
    both k' more_x more_z grown_x grown_z =
        let U = (topic_at s (after s es k') t y).entries in
        let a = common_begins s es k' t x y z (late s es r t x).entries more_x (there_y.1, there_x.1, λ is. differ_x (sym is)) grown_x in
        let b = common_begins s es k' t z y x (late s es r t z).entries more_z (there_y.1, there_z.1, λ is. differ_z (sym is)) grown_z in
        let same : common_of y z (late s es r t x).entries ++ a.0 ≡ common_of y x (late s es r t z).entries ++ b.0 =
        sym a.1 ∙ filter_agree (for_both y x z) (for_both y z x) (same_for_both y x z differ_x differ_z) U ∙ b.1 in
        both_same (common_of y z (late s es r t x).entries) a.0 (common_of y x (late s es r t z).entries) b.0 k e f same here there

    at : (m < n) ⊎ (n ≤ m) → same_entry e f ≡ true
    at (inl lt) =
        let more = grown s read.scripted es m n (omega (arith, lt)) t x there_x in both n more.more [] more.is (sym (append-nil (late s es r t z).entries))
    at (inr ge) =
        let more = grown s read.scripted es n m ge t z there_z in both m [] more.more (sym (append-nil (late s es r t x).entries)) more.is

-- ---- received

pub received_seen : (s : Setup) (es : List Step) (r : Reading) (logs : List Said) (t x y : ℕ) → IsRead s es r logs → IsThere s t x → IsThere s t y → x ≢ y
    → r.read (node s t x) ≡ true → r.read (node s t y) ≡ true → IsReceived s (observation_of s es r logs) t x y
received_seen s es r logs t x y read there_x there_y differ read_x read_y i e has_it at out =
    let c = r.cursors (node s t x) in let w = after s es c in let b = early s es r t x in
    let cursor : has (replicator_at b y).cursor i ≡ true = subst (λ (l : List ℕ). has l i ≡ true) received has_it in
    let within : i < length b.entries = ((indexes s (opening_world s) w (opening_starts s) (reached s (take c es)) (node s t x)).replicators y).acked i cursor in
    let more = grown s read.scripted es c (r.entries (node s t x)) (read.first (node s t x) (node s t x)) t x there_x in
    let stands : IsEntry b i e =
    sym (get_within b.entries more.more i within) ∙ subst (λ (l : List Entry). slice_get l i ≡ Some e) more.is (stands_there s es r logs t x i e there_x at).at in
    let came = (receipt_always s).run (take c es) t x y i e (there_x.1, there_y.1, differ) cursor stands out in
    let later = grown s read.scripted es c (r.entries (node s t y)) (read.first (node s t x) (node s t y)) t y there_y in
    let there : slice_get (late s es r t y).entries came.0 ≡ Some e =
    subst (λ (l : List Entry). slice_get l came.0 ≡ Some e) (sym later.is) (get_left (topic_at s w t y).entries later.more came.0 e came.1) in
    (came.0, stands_seen s es r logs t y came.0 e there_y read_y there)
  where
    received : received_at s (observation_of s es r logs) t x y ≡ (replicator_at (early s es r t x) y).cursor
    received =
        ap (λ (v : Seen). slice_index_or v.received y []) (seen_there s es r logs t x there_x read_x)
        ∙ made_here (λ (z : ℕ). (replicator_at (early s es r t x) z).cursor) [] (length s.clusters) y there_y.1

-- ---- stored

pub stored_seen : (s : Setup) (es : List Step) (r : Reading) (logs : List Said) (t k : ℕ) (g : Ident) (p : Position) → IsRead s es r logs → t < length s.topics
    → slice_get logs k ≡ Some (said.Receipt t g p) → IsStored s (observation_of s es r logs) t g p
stored_seen s es r logs t k g p read topic at = go (read.receipts k t g p at)
  where
    -- the message stands at its cluster by the end, and so it stands in what was read, or comes later
    placed : g.origin < length s.clusters → StandsAt (topic_at s (run s es) t g.origin) g p → IsStored s (observation_of s es r logs) t g p
    placed lt h =
        let there : IsThere s t g.origin = (topic, lt) in
        by there (subst (λ (w : World). IsEntry (topic_at s w t g.origin) h.index h.entry) (sym end) h.stands)
        (place_seen s es r logs (length es) t g.origin h.index p read there (subst (λ (w : World). index_of (topic_at s w t g.origin).ledgers p ≡ Some h.index) (sym end) h.at))
      where
        end : after s es (length es) ≡ run s es
        end = at_end s es (length es) (omega arith)

        by : IsThere s t g.origin → IsEntry (topic_at s (after s es (length es)) t g.origin) h.index h.entry → PlaceSeen s es r logs t g.origin h.index p
            → IsStored s (observation_of s es r logs) t g p
        by there stands (PlaceSeen.Later later) = inl later
        by there stands (PlaceSeen.Here was lt' index) =
            let more = (grown_end s read.scripted es (r.entries (node s t g.origin))) t g.origin there in
            let end_stands : slice_get (topic_at s (run s es) t g.origin).entries h.index ≡ Some h.entry = h.stands in
            let here : slice_get (late s es r t g.origin).entries h.index ≡ Some h.entry =
            sym (get_within (late s es r t g.origin).entries more.more h.index lt') ∙ subst (λ (l : List Entry). slice_get l h.index ≡ Some h.entry) more.is end_stands in
            inr (h.index, h.entry, there_stands s es r logs t g.origin h.index h.entry there was here, subst (λ (i : Ident). same_ident h.entry.ident i ≡ true) h.named (ident_self h.entry.ident))

    go : WasReceipted s es t g p → IsStored s (observation_of s es r logs) t g p
    go w =
        let held = ((published_always s read.scripted).run es).receipts w.client w.cluster w.place w.packet w.id w.seq (Some p) w.declared w.there w.sent w.is in
        let d = declared_at s w.client in
        let same : held.1.position ≡ p = same_Some _ _ (sym held.1.told) in
        let stands = held.1.stored (subst (λ (q : Position). same_position q no_position ≡ false) (sym same) w.stored) in
        let at_p : StandsAt (topic_at s (run s es) d.topic w.cluster) (ident_of d w.seq) p =
        subst (λ (q : Position). StandsAt (topic_at s (run s es) d.topic w.cluster) (ident_of d w.seq) q) same stands in
        let at_g : StandsAt (topic_at s (run s es) d.topic w.cluster) g p = subst (λ (i : Ident). StandsAt (topic_at s (run s es) d.topic w.cluster) i p) w.of at_p in
        let of_topic : StandsAt (topic_at s (run s es) t w.cluster) g p = subst (λ (u : ℕ). StandsAt (topic_at s (run s es) u w.cluster) g p) w.topic at_g in
        let cluster : w.cluster ≡ g.origin = held.0 ∙ ap (λ (i : Ident). i.origin) w.of in
        placed (subst (λ (x : ℕ). x < length s.clusters) cluster w.there) (subst (λ (x : ℕ). StandsAt (topic_at s (run s es) t x) g p) cluster of_topic)

-- ---- only

pub only_seen : (s : Setup) (es : List Step) (r : Reading) (logs : List Said) (t x k i : ℕ) (v : MirrorSub) (e : Entry) → IsRead s es r logs → IsThere s t x
    → slice_get (topic_seen s (observation_of s es r logs) t x).subs k ≡ Some v → has v.cursor i ≡ true → Stands s (observation_of s es r logs) t x i e
    → is_dealt_with s (observation_of s es r logs) t v.name e ≡ true
only_seen s es r logs t x k i v e read there sub inside at = go (stands_there s es r logs t x i e there at)
  where
    c : ℕ
    c = r.cursors (node s t x)

    found : (vs : List Subscription) (j : ℕ) → slice_get (map sub_seen vs) j ≡ Some v → (u : Subscription) × (slice_get vs j ≡ Some u) × (sub_seen u ≡ v)
    found [] j h = absurd (none-some v h)
    found (u ∷ vs) zero h = (u, refl, same_Some _ _ h)
    found (u ∷ vs) (suc j) h = found vs j h

    go : StandsThere s es r t x i e → is_dealt_with s (observation_of s es r logs) t v.name e ≡ true
    go stands =
        let b = early s es r t x in
        let subs : slice_get (map sub_seen b.subs) k ≡ Some v = subst (λ (w : Seen). slice_get w.topic.subs k ≡ Some v) (seen_there s es r logs t x there stands.read) sub in
        let u = found b.subs k subs in
        let cursor : has u.0.cursor i ≡ true = subst (λ (m : MirrorSub). has m.cursor i ≡ true) (sym u.2) inside in
        let name : u.0.name ≡ v.name = ap (λ (m : MirrorSub). m.name) u.2 in
        let safe = (safe_always.settled s read.scripted).run (take c es) (short_before s es c read.short) t x u.0 there.1 (k, u.1) i cursor in
        let more = grown s read.scripted es c (r.entries (node s t x)) (read.first (node s t x) (node s t x)) t x there in
        let same : safe.0 ≡ e =
        same_Some _ _ (sym (subst (λ (l : List Entry). slice_get l i ≡ Some safe.0) (sym more.is) (get_left b.entries more.more i safe.0 safe.1)) ∙ stands.at) in
        settled_dealt s es r logs c t v.name e read
        (λ message.
        subst (λ (n : List ℕ). list_any (same_ident e.ident) (settled s (take c es) t n) ≡ true) name
        (subst (λ (d : Entry). is_data d.content ≡ true → list_any (same_ident d.ident) (settled s (take c es) t u.0.name) ≡ true) same safe.2 message))
