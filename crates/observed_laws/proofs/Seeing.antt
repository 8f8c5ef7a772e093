-- What is seen of a run that is read: where a topic was read, what its broker has; where it was not, nothing.
use Rattle.std.proofs.Common.{◌≡◌, ℕ, zero, suc, ◌+◌, ◌*◌, ◌<◌, ◌≤◌, Bool, true, false, cond, List, [], length, refl, sym, ap, subst, ◌∙◌, arith, inl, inr, ◌⊎◌}
use Rattle.std.specs.Prelude.{Some, slice_get, take, not, ◌&&◌, ◌||◌}
use Rattle.std.specs.List.{list_any}
use Rattle.std.proofs.lemmas.Bool.{and_from, false≢true, or_left, or_right}
use Rattle.std.proofs.lemmas.Option.{none-some}
use Rattle.world_laws.proofs.Types.{Entry, Position, Step}
use Rattle.geo_base.specs.Broker.{Broker}
use Rattle.geo_base.specs.Entry.{is_data, same_ident}
use Rattle.geo_base.specs.Laws.{IsShort}
use Rattle.geo_base.specs.Mirror.{index_at}
use Rattle.geo_base.specs.Position.{position_lt}
use Rattle.geo_base.specs.Run.{run}
use Rattle.geo_base.specs.Safe.{IsEntry}
use Rattle.geo_base.specs.Scripted.{IsScripted}
use Rattle.geo_base.specs.Settled.{settled}
use Rattle.geo_base.specs.Setup.{Setup}
use Rattle.geo_base.specs.Topic.{index_of, position_at}
use Rattle.geo_base.specs.World.{node, topic_at}
use Rattle.world_laws.proofs.OnceInOrder.Members.{below_or, get_left, get_within}
use Rattle.world_laws.proofs.OnceInOrder.Once.{once_always}
use Rattle.world_laws.proofs.Replicating.Sizes.{IsThere, node_lt}
use Rattle.world_laws.proofs.Snapshotting.Answering.{Numbered}
use Rattle.world_laws.proofs.Snapshotting.Grows.{Grown}
use Rattle.world_laws.proofs.TopicOrder.Ledgers.{at_index, of_index}
use Rattle.trace_laws.specs.Seen.{positions_in}
use Rattle.trace_laws.proofs.Events.{Whole}
use Rattle.trace_laws.proofs.Places.{index_seen}
use Rattle.trace_laws.proofs.Snapshots.{entry_itself}
use Rattle.trace_laws.proofs.Told.{numbered_here}
use Rattle.observation.specs.declared.said.Said.{Said}
use Rattle.observation.specs.Observed.{Observation, Seen, all_settled, entries_seen, is_above_all, is_dealt_with, is_read, is_unsure, may_be_later, nothing_seen, seen_at, stands_at, topic_seen}
use Rattle.observation.specs.Safe.{OnceIn, Stands}
use Rattle.observation.proofs.Places.{stands_once}
use Rattle.observed_laws.specs.Reads.{CursorsFirst, IsQuietWhere, OnlyReceipts, Reading, SaysAll, node_read, observation_of, seen_of}
use Rattle.observed_laws.proofs.Beginnings.{made_here}
use Rattle.observed_laws.proofs.Moments.{after, at_end, earlier_before, grown, grown_end, index_before, known, settled_later, short_before}

-- a run that is read, and what is said of it
pub record IsRead (s : Setup) (es : List Step) (r : Reading) (logs : List Said) : Type 0 where
  pub scripted : IsScripted s
  pub short : IsShort (run s es)
  pub first : CursorsFirst r
  pub rest : IsQuietWhere es r
  pub all : SaysAll s es (observation_of s es r logs)
  pub receipts : OnlyReceipts s es logs

-- the broker of a topic at a cluster when its entries are read, and when its cursors are
abbrev pub late : Setup → List Step → Reading → (t x : ℕ) → Broker
late s es r t x = topic_at s (after s es (r.entries (node s t x))) t x

abbrev pub early : Setup → List Step → Reading → (t x : ℕ) → Broker
early s es r t x = topic_at s (after s es (r.cursors (node s t x))) t x

-- ---- what is seen

pub seen_node : (s : Setup) (es : List Step) (r : Reading) (logs : List Said) (t x : ℕ) → IsThere s t x → seen_at s (observation_of s es r logs) t x ≡ node_read s es r (node s t x)
seen_node s es r logs t x there = made_here (node_read s es r) nothing_seen (length s.topics * length s.clusters) (node s t x) (node_lt s t x there)

pub seen_there : (s : Setup) (es : List Step) (r : Reading) (logs : List Said) (t x : ℕ) → IsThere s t x → r.read (node s t x) ≡ true
    → seen_at s (observation_of s es r logs) t x ≡ seen_of s (late s es r t x) (early s es r t x)
seen_there s es r logs t x there read =
    seen_node s es r logs t x there ∙ ap (λ (b : Bool). cond b (seen_of s (late s es r t x) (early s es r t x)) nothing_seen) read

pub seen_nothing : (s : Setup) (es : List Step) (r : Reading) (logs : List Said) (t x : ℕ) → IsThere s t x → r.read (node s t x) ≡ false
    → seen_at s (observation_of s es r logs) t x ≡ nothing_seen
seen_nothing s es r logs t x there unread =
    seen_node s es r logs t x there ∙ ap (λ (b : Bool). cond b (seen_of s (late s es r t x) (early s es r t x)) nothing_seen) unread

pub was_read : (s : Setup) (es : List Step) (r : Reading) (logs : List Said) (t x : ℕ) → IsThere s t x → is_read s (observation_of s es r logs) t x ≡ true → r.read (node s t x) ≡ true
was_read s es r logs t x there read = by (r.read (node s t x)) refl
  where
    by : (b : Bool) → r.read (node s t x) ≡ b → r.read (node s t x) ≡ true
    by true is = is
    by false is = absurd (false≢true (sym (ap (λ (v : Seen). v.is_read) (seen_nothing s es r logs t x there is)) ∙ read))

pub entries_there : (s : Setup) (es : List Step) (r : Reading) (logs : List Said) (t x : ℕ) → IsThere s t x → r.read (node s t x) ≡ true
    → entries_seen s (observation_of s es r logs) t x ≡ (late s es r t x).entries
entries_there s es r logs t x there read = ap (λ (v : Seen). v.topic.entries) (seen_there s es r logs t x there read)

-- what stands in what was read stands at its broker
pub record StandsThere (s : Setup) (es : List Step) (r : Reading) (t x i : ℕ) (e : Entry) : Type 0 where
  pub read : r.read (node s t x) ≡ true
  pub at : slice_get (late s es r t x).entries i ≡ Some e

pub stands_there : (s : Setup) (es : List Step) (r : Reading) (logs : List Said) (t x i : ℕ) (e : Entry) → IsThere s t x → Stands s (observation_of s es r logs) t x i e
    → StandsThere s es r t x i e
stands_there s es r logs t x i e there at = by (r.read (node s t x)) refl
  where
    by : (b : Bool) → r.read (node s t x) ≡ b → StandsThere s es r t x i e
    by true is = record { read = is; at = subst (λ (l : List Entry). slice_get l i ≡ Some e) (entries_there s es r logs t x there is) at }
    by false is =
        let none : slice_get [] i ≡ Some e = subst (λ (v : Seen). slice_get v.topic.entries i ≡ Some e) (seen_nothing s es r logs t x there is) at in absurd (none-some e none)

pub there_stands : (s : Setup) (es : List Step) (r : Reading) (logs : List Said) (t x i : ℕ) (e : Entry) → IsThere s t x → r.read (node s t x) ≡ true
    → slice_get (late s es r t x).entries i ≡ Some e → Stands s (observation_of s es r logs) t x i e
there_stands s es r logs t x i e there read at = subst (λ (l : List Entry). slice_get l i ≡ Some e) (sym (entries_there s es r logs t x there read)) at

-- each of a topic's entries stands once there
pub once_at : (s : Setup) (es : List Step) (k t x : ℕ) → OnceIn (topic_at s (after s es k) t x).entries
once_at s es k t x = (once_always s).run (take k es) (node s t x)

pub stands_seen : (s : Setup) (es : List Step) (r : Reading) (logs : List Said) (t x i : ℕ) (e : Entry) → IsThere s t x → r.read (node s t x) ≡ true
    → slice_get (late s es r t x).entries i ≡ Some e → stands_at e (entries_seen s (observation_of s es r logs) t x) ≡ Some i
stands_seen s es r logs t x i e there read at =
    subst (λ (l : List Entry). stands_at e l ≡ Some i) (sym (entries_there s es r logs t x there read))
    (stands_once e e (late s es r t x).entries i (once_at s es (r.entries (node s t x)) t x) at (entry_itself e))

-- ---- topics at two moments

pub known_at : (s : Setup) (es : List Step) (k : ℕ) → IsScripted s → IsShort (run s es) → Whole s (after s es k)
known_at s es k scripted short = known s scripted (take k es) (short_before s es k short)

pub numbered_at : (s : Setup) (es : List Step) (k t x : ℕ) → IsScripted s → IsShort (run s es) → IsThere s t x
    → Numbered (topic_at s (after s es k) t x).entries (topic_at s (after s es k) t x).ledgers
numbered_at s es k t x scripted short there = numbered_here s (after s es k) t x ((known_at s es k scripted short).here t x there)

-- where nothing moved, what was read has what stands at any moment
pub grown_quiet : (s : Setup) (es : List Step) (r : Reading) (n k : ℕ) → IsScripted s → IsQuietWhere es r → r.quiet ≡ true → Grown s (after s es k) (after s es (r.entries n))
grown_quiet s es r n k scripted rest quiet = subst (Grown s (after s es k)) (sym (at_end s es (r.entries n) (rest quiet n))) (grown_end s scripted es k)

-- an entry at or below a position's index, at a moment k, that stands in what was read stood at that moment
pub stood : (s : Setup) (es : List Step) (r : Reading) (k t y j i : ℕ) (p : Position) (f : Entry) → IsScripted s → IsShort (run s es) → IsThere s t y
    → index_of (topic_at s (after s es k) t y).ledgers p ≡ Some j → i ≤ j → slice_get (late s es r t y).entries i ≡ Some f → IsEntry (topic_at s (after s es k) t y) i f
stood s es r k t y j i p f scripted short there at le stands =
    elim (below_or k (r.entries (node s t y))) [
      | inl lt ↦
          let more = grown s scripted es k (r.entries (node s t y)) (omega (arith, lt)) t y there in
          let found = (of_index b.ledgers p j at).within in let w = (numbered_at s es k t y scripted short there).whole in
          sym (get_within b.entries more.more i (omega (arith, found, w, le))) ∙ subst (λ (l : List Entry). slice_get l i ≡ Some f) more.is stands
      | inr ge ↦
          let more = grown s scripted es (r.entries (node s t y)) k ge t y there in
          subst (λ (l : List Entry). slice_get l i ≡ Some f) (sym more.is) (get_left (late s es r t y).entries more.more i f stands)
    ]
  where
    b : Broker
    b = topic_at s (after s es k) t y

-- ---- positions

pub index_in : (s : Setup) (es : List Step) (r : Reading) (logs : List Said) (t y j : ℕ) (p : Position) → IsScripted s → IsShort (run s es) → IsThere s t y → r.read (node s t y) ≡ true
    → index_of (late s es r t y).ledgers p ≡ Some j → index_at (topic_seen s (observation_of s es r logs) t y) p ≡ Some j
index_in s es r logs t y j p scripted short there read at =
    ap (λ (v : Seen). index_at v.topic p) (seen_there s es r logs t y there read)
    ∙ (index_seen (late s es r t y) p (numbered_at s es (r.entries (node s t y)) t y scripted short there) ∙ at)

all_before : (ls : List ℕ) (p : Position) (a n : ℕ) → ((i : ℕ) → i < a + n → position_lt (position_at ls i) p ≡ true) → is_above_all p (positions_in ls a n) ≡ true
all_before ls p a zero h = refl
all_before ls p a (suc n) h =
    and_from (position_lt (position_at ls a) p) (is_above_all p (positions_in ls (a + 1) n)) (h a (omega arith)) (all_before ls p (a + 1) n (λ i lt. h i (omega (arith, lt))))

-- a position that stood at some moment stands in what was read, or tells nothing there
pub data PlaceSeen (s : Setup) (es : List Step) (r : Reading) (logs : List Said) (t y j : ℕ) (p : Position) : Type 0 where
  Later : may_be_later s (observation_of s es r logs) t y p ≡ true → PlaceSeen s es r logs t y j p
  Here : r.read (node s t y) ≡ true → j < length (late s es r t y).entries → index_at (topic_seen s (observation_of s es r logs) t y) p ≡ Some j → PlaceSeen s es r logs t y j p

pub place_seen : (s : Setup) (es : List Step) (r : Reading) (logs : List Said) (k t y j : ℕ) (p : Position) → IsRead s es r logs → IsThere s t y
    → index_of (topic_at s (after s es k) t y).ledgers p ≡ Some j → PlaceSeen s es r logs t y j p
unfolding may_be_later
place_seen s es r logs k t y j p read there at = by (r.read (node s t y)) refl
  where
    o : Observation
    o = observation_of s es r logs

    n : ℕ
    n = r.entries (node s t y)

    w : Broker
    w = topic_at s (after s es k) t y

    b : Broker
    b = late s es r t y

    within : j < length w.entries
    within = let found = (of_index w.ledgers p j at).within in let whole = (numbered_at s es k t y read.scripted read.short there).whole in omega (arith, found, whole)

    numbered : Numbered b.entries b.ledgers
    numbered = numbered_at s es n t y read.scripted read.short there

    here : r.read (node s t y) ≡ true → j < length b.entries → PlaceSeen s es r logs t y j p
    here was lt = PlaceSeen.Here was lt (index_in s es r logs t y j p read.scripted read.short there was (place (below_or k n)))
      where
        place : (k < n) ⊎ (n ≤ k) → index_of b.ledgers p ≡ Some j
        place (inl lt') = (grown s read.scripted es k n (omega (arith, lt')) t y there).index p j at
        place (inr ge) = index_before b w p j numbered (grown s read.scripted es n k ge t y there).position at lt

    -- it is not read yet
    later : r.read (node s t y) ≡ true → length b.entries ≤ j → PlaceSeen s es r logs t y j p
    later was ge = go r.quiet refl (below_or k n)
      where
        short_of : Grown s (after s es k) (after s es n) → ⊥
        short_of more =
            let lt = within in
            let at' = (more t y there).index p j at in let found = (of_index b.ledgers p j at').within in let whole = numbered.whole in omega (arith, found, whole, ge)

        above : n ≤ k → is_above_all p (positions_in b.ledgers 0 (length b.entries)) ≡ true
        above le =
            let more = grown s read.scripted es n k le t y there in let whole = numbered.whole in
            all_before b.ledgers p 0 (length b.entries)
            (λ i lt. earlier_before w.ledgers (position_at b.ledgers i) p i j (more.index (position_at b.ledgers i) i (at_index b.ledgers i (omega (arith, lt, whole)))) at (omega (arith, lt, ge)))

        go : (q : Bool) → r.quiet ≡ q → (k < n) ⊎ (n ≤ k) → PlaceSeen s es r logs t y j p
        go true quiet either = absurd (short_of (grown_quiet s es r (node s t y) k read.scripted read.rest quiet))
        go false quiet (inl lt) = absurd (short_of (grown s read.scripted es k n (omega (arith, lt))))
        go false quiet (inr le) =
            let all : is_above_all p (topic_seen s o t y).positions ≡ true =
            subst (λ (v : Seen). is_above_all p v.topic.positions ≡ true) (sym (seen_there s es r logs t y there was)) (above le) in
            PlaceSeen.Later (or_right (not (is_read s o t y)) (not o.quiet && is_above_all p (topic_seen s o t y).positions)
            (and_from (not o.quiet) (is_above_all p (topic_seen s o t y).positions) (ap not quiet) all))

    by : (c : Bool) → r.read (node s t y) ≡ c → PlaceSeen s es r logs t y j p
    by true was = elim (below_or j (length b.entries)) [ inl lt ↦ here was lt | inr ge ↦ later was ge ]
    by false was =
        let unread : is_read s o t y ≡ false = ap (λ (v : Seen). v.is_read) (seen_nothing s es r logs t y there was) in
        PlaceSeen.Later (or_left (not (is_read s o t y)) (not o.quiet && is_above_all p (topic_seen s o t y).positions) (ap not unread))

-- ---- what is dealt with

pub dealt : (s : Setup) (o : Observation) (t : ℕ) (n : List ℕ) (e : Entry) → (is_data e.content ≡ true → list_any (same_ident e.ident) (all_settled s o t n o.said) ≡ true)
    → is_dealt_with s o t n e ≡ true
unfolding is_dealt_with
dealt s o t n e h = by (is_data e.content) refl
  where
    told : Bool
    told = list_any (same_ident e.ident) (all_settled s o t n o.said)

    unsure : Bool
    unsure = list_any (is_unsure s o t n e.ident) o.said

    by : (d : Bool) → is_data e.content ≡ d → (not (is_data e.content) || (told || unsure)) ≡ true
    by true message = or_right (not (is_data e.content)) (told || unsure) (or_left told unsure (h message))
    by false marker = or_left (not (is_data e.content)) (told || unsure) (ap not marker)

-- what was settled at a moment
pub settled_dealt : (s : Setup) (es : List Step) (r : Reading) (logs : List Said) (k t : ℕ) (n : List ℕ) (e : Entry) → IsRead s es r logs
    → (is_data e.content ≡ true → list_any (same_ident e.ident) (settled s (take k es) t n) ≡ true) → is_dealt_with s (observation_of s es r logs) t n e ≡ true
settled_dealt s es r logs k t n e read h =
    dealt s (observation_of s es r logs) t n e (λ message. read.all t n e.ident (settled_later s es k t n e.ident (h message)))
