-- What stands at each moment of a run between steps: topics grow, positions stay, what is settled stays so.
use Rattle.std.proofs.Common.{◌≡◌, ℕ, ◌+◌, ◌<◌, ◌≤◌, Bool, true, false, List, [], ◌∷◌, ◌++◌, length, refl, sym, ap, subst, ◌∙◌, arith, inl, inr, append_assoc}
use Rattle.std.specs.Prelude.{Some, None, take, drop, is_some, if◌then◌else◌, not}
use Rattle.std.specs.List.{list_any}
use Rattle.std.proofs.lemmas.Bool.{or_left}
use Rattle.std.proofs.lemmas.List.{take-append-drop, take_all}
use Rattle.std.proofs.lemmas.List.Folds.{list_any-append}
use Rattle.world_laws.proofs.Types.{Ident, Position, Step}
use Rattle.geo_base.specs.Broker.{Broker}
use Rattle.geo_base.specs.Entry.{same_ident}
use Rattle.geo_base.specs.Laws.{IsShort}
use Rattle.geo_base.specs.Position.{position_lt}
use Rattle.geo_base.specs.Run.{Limits, Ran, no_limits, run, run_from, steps}
use Rattle.geo_base.specs.Scripted.{IsScripted}
use Rattle.geo_base.specs.Settled.{settled, settled_from, settled_step, settled_under}
use Rattle.geo_base.specs.Setup.{Setup}
use Rattle.geo_base.specs.Topic.{index_of, position_at}
use Rattle.geo_base.specs.World.{World, opening_world, topic_at}
use Rattle.world_laws.specs.Reached.{ReachedFrom}
use Rattle.world_laws.proofs.Induction.Reaching.{comes}
use Rattle.world_laws.proofs.Induction.Runs.{between_by_events}
use Rattle.world_laws.proofs.OnceInOrder.Members.{below_or}
use Rattle.world_laws.proofs.Snapshotting.Answering.{Numbered}
use Rattle.world_laws.proofs.Snapshotting.Asked.{named as names_of}
use Rattle.world_laws.proofs.Snapshotting.Grows.{Grown, unchanged}
use Rattle.world_laws.proofs.TopicOrder.Ledgers.{at_index, position_is}
use Rattle.world_laws.proofs.TopicOrder.NextPosition.{le_index}
use Rattle.failover_laws.proofs.Acting.RunOn.{reached_on}
use Rattle.failover_laws.proofs.Covers.Known.{fewer_before, grown_on, kept_there}
use Rattle.trace_laws.proofs.Events.{Whole}
use Rattle.trace_laws.proofs.Traced.{Tracing, tracing_kept, whole}
use Rattle.observed_laws.proofs.Beginnings.{take_first}

-- the world after the first so many steps
abbrev pub after : Setup → List Step → ℕ → World
after s es k = run s (take k es)

pub reached : (s : Setup) (es : List Step) → ReachedFrom s (opening_world s) (run s es)
reached s es = let R = ReachedFrom s (opening_world s) in (between_by_events s R R (comes s) (λ w r. r)).run es

-- the first so many steps begin the first of more
parts : (es : List Step) (k m : ℕ) → k ≤ m → take k es ++ drop k (take m es) ≡ take m es
parts es k m le = ap (λ (l : List Step). l ++ drop k (take m es)) (sym (take_first k m es le)) ∙ take-append-drop k (take m es)

onward : (s : Setup) (es : List Step) (k m : ℕ) → k ≤ m → ReachedFrom s (after s es k) (after s es m)
onward s es k m le = subst (λ (l : List Step). ReachedFrom s (after s es k) (run s l)) (parts es k m le) (reached_on s (take k es) (drop k (take m es)))

pub grown : (s : Setup) → IsScripted s → (es : List Step) (k m : ℕ) → k ≤ m → Grown s (after s es k) (after s es m)
grown s scripted es k m le = grown_on s scripted (after s es k) (after s es m) (reached s (take k es)) (onward s es k m le)

-- so many steps as there are, or more, are all of them
pub at_end : (s : Setup) (es : List Step) (k : ℕ) → length es ≤ k → after s es k ≡ run s es
at_end s es k le = ap (run s) (take_all k es le)

pub grown_end : (s : Setup) → IsScripted s → (es : List Step) (k : ℕ) → Grown s (after s es k) (run s es)
grown_end s scripted es k =
    elim (below_or k (length es)) [
      | inl lt ↦ subst (Grown s (after s es k)) (at_end s es (length es) (omega arith)) (grown s scripted es k (length es) (omega (arith, lt)))
      | inr le ↦ subst (Grown s (after s es k)) (at_end s es k le) (λ t x there. unchanged (topic_at s (after s es k) t x))
    ]

pub short_before : (s : Setup) (es : List Step) (k : ℕ) → IsShort (run s es) → IsShort (after s es k)
short_before s es k short =
    let all : take k es ++ drop k es ≡ es = take-append-drop k es in
    let on : ReachedFrom s (after s es k) (run s es) = subst (λ (l : List Step). ReachedFrom s (after s es k) (run s l)) all (reached_on s (take k es) (drop k es)) in
    let few = fewer_before s (after s es k) (run s es) on in omega (arith, few, short)

-- what is known of each of these worlds
pub known : (s : Setup) → IsScripted s → (es : List Step) → IsShort (run s es) → Whole s (run s es)
known s scripted es short =
    whole s (run s es) scripted (kept_there s (Tracing s) (tracing_kept s (names_of s scripted)) (run s es) (reached s es)) short

-- ---- what is settled stays so

settled_parts : (l : Limits) (s : Setup) (r : Ran) (xs ys : List Step) (t : ℕ) (n : List ℕ)
    → settled_from l s r (xs ++ ys) t n ≡ settled_from l s r xs t n ++ settled_from l s (run_from l s r xs) ys t n
settled_parts l s r [] ys t n = refl
settled_parts l s r (e ∷ xs) ys t n =
    let r' = steps l s r e in let here : List Ident = if is_some r'.ended then [] else settled_step s r.world t n e in
    ap (λ (is : List Ident). here ++ is) (settled_parts l s r' xs ys t n)
    ∙ sym (append_assoc here (settled_from l s r' xs t n) (settled_from l s (run_from l s r' xs) ys t n))

pub settled_later : (s : Setup) (es : List Step) (k t : ℕ) (n : List ℕ) (g : Ident) → list_any (same_ident g) (settled s (take k es) t n) ≡ true
    → list_any (same_ident g) (settled s es t n) ≡ true
unfolding settled_under
settled_later s es k t n g h =
    let r : Ran = record { world = opening_world s; ended = None } in
    let first = settled_from no_limits s r (take k es) t n in let rest = settled_from no_limits s (run_from no_limits s r (take k es)) (drop k es) t n in
    let P : List Step → Type 0 = λ l. list_any (same_ident g) (settled_from no_limits s r l t n) ≡ true in
    subst P (take-append-drop k es)
    (ap (list_any (same_ident g)) (settled_parts no_limits s r (take k es) (drop k es) t n)
    ∙ (list_any-append (same_ident g) first rest ∙ or_left (list_any (same_ident g) first) (list_any (same_ident g) rest) h))

-- ---- positions

-- the position of an earlier index is before that of a later one
pub earlier_before : (ls : List ℕ) (p q : Position) (i j : ℕ) → index_of ls p ≡ Some i → index_of ls q ≡ Some j → i < j → position_lt p q ≡ true
earlier_before ls p q i j ati atj lt = by (position_lt p q) refl
  where
    by : (b : Bool) → position_lt p q ≡ b → position_lt p q ≡ true
    by true is = is
    by false is = let le = le_index ls q p j i atj ati (ap not is) in absurd (omega (arith, le, lt))

-- an index that is stored in a shorter topic, of a position in the longer one, is that of the position there too
pub index_before : (b b' : Broker) (p : Position) (j : ℕ) → Numbered b.entries b.ledgers → ((k : ℕ) → k < length b.entries → position_at b'.ledgers k ≡ position_at b.ledgers k)
    → index_of b'.ledgers p ≡ Some j → j < length b.entries → index_of b.ledgers p ≡ Some j
index_before b b' p j numbered stays at lt =
    let w = numbered.whole in
    let same : position_at b.ledgers j ≡ p = sym (stays j lt) ∙ position_is b'.ledgers p j at in
    subst (λ (q : Position). index_of b.ledgers q ≡ Some j) same (at_index b.ledgers j (omega (arith, w, lt)))
