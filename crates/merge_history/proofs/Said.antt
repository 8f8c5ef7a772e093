-- What the histories that count stand for.
use Rattle.std.proofs.Common.{◌≡◌, ℕ, zero, suc, List, [], ◌∷◌, length, refl, sym, ap, subst, ◌∙◌, arith}
use Rattle.std.specs.Prelude.{None, Option, Some, slice_get, slice_index_or}
use Rattle.std.proofs.lemmas.Option.{none-some, same_Some}
use Rattle.geo_base.specs.History.{RecordedEvent, Replays, replayed}
use Rattle.geo_base.specs.Merge.{history_of}
use Rattle.geo_base.specs.NodeState.{NodeState, opening_state}
use Rattle.geo_base.specs.Nodes.{node_count}
use Rattle.geo_base.specs.Scripted.{IsScripted}
use Rattle.script_text.specs.Script.{Script}
use Rattle.frame_laws.specs.Logs.{IsLogOf, StandsAs}
use Rattle.world_laws.specs.ByteHistories.{StandAll}
use Rattle.merge_history.proofs.Firsts.{nothing_past}
use Rattle.merge_history.proofs.Runs.{layout_is}
use Rattle.merge_history.specs.Ends.{AreStood, layout_of}
use Rattle.merge_history.specs.Kept.{Kept, kept_by}
use Rattle.merge_history.specs.Logs.{AreLogs, AreKept, LogView, Counts, IsOwn}
use Rattle.geo_base.proofs.Lists.{get_below, get_none_past}

-- ---- one for each of a list
pub record Chosen {Y : Type 0} (P : ℕ → Y → Type 0) (size : ℕ) : Type 0 where
  pub list : List Y
  pub many : length list ≡ size
  pub each : (n : ℕ) (y : Y) → slice_get list n ≡ Some y → P n y

with_first : {Y : Type 0} (P : ℕ → Y → Type 0) (size : ℕ) (first : Y) → P 0 first → Chosen (λ (n : ℕ) (y : Y). P (suc n) y) size → Chosen P (suc size)
with_first {Y} P size first h rest = record { list = first ∷ rest.list; many = ap suc rest.many; each = each }
  where
    each : (n : ℕ) (y : Y) → slice_get (first ∷ rest.list) n ≡ Some y → P n y
    each zero y at = subst (P 0) (same_Some first y at) h
    each (suc n) y at = rest.each n y at

chosen : {X Y : Type 0} (xs : List X) (P : ℕ → Y → Type 0) → ((n : ℕ) (x : X) → slice_get xs n ≡ Some x → (y : Y) × P n y) → Chosen P (length xs)
chosen [] P f = record { list = []; many = refl; each = λ n y at. absurd (none-some y at) }
chosen (x ∷ xs) P f =
    let here = f 0 x refl in with_first P (length xs) here.0 here.1 (chosen xs (λ n y. P (suc n) y) (λ n a at. f (suc n) a at))

-- ---- what one node's history stands for
pub record Fits (c : Script) (bs : List LogView) (kept : List (List Kept)) (st : ℕ → NodeState) (n : ℕ) (ds : List RecordedEvent) : Type 0 where
  pub stands : StandAll (StandsAs c.setup.clusters) (kept_by kept n) ds
  pub replay : Replays c.setup n (opening_state c.setup n) 0 ds
  pub state : (b : LogView) → slice_get bs n ≡ Some b → IsOwn c n b → st n ≡ replayed c.setup (opening_state c.setup n) ds

fit : (c : Script) (bs : List LogView) (kept : List (List Kept)) (st : ℕ → NodeState) (clock : ℕ → ℕ) → AreLogs bs st clock → (n : ℕ) (b : LogView)
    → slice_get bs n ≡ Some b → Counts c n b (kept_by kept n) → (ds : List RecordedEvent) × Fits c bs kept st n ds
fit c bs kept st clock logs n b at (Counts.All own is) =
    let log : IsLogOf c.setup n b.history (st n) (clock n) =
    subst (λ (m : ℕ). IsLogOf c.setup m b.history (st n) (clock n)) own.node
    (subst (λ (d : Script). IsLogOf d.setup b.node b.history (st n) (clock n)) own.scenario (logs n b at)) in (
      log.said,
      record {
        stands = subst (λ (h : List Kept). StandAll (StandsAs c.setup.clusters) h log.said) (sym is) log.stands;
        replay = log.replay;
        state = λ a there own'. log.state;
      },
    )
fit c bs kept st clock logs n b at (Counts.Nothing strange is) = (
  [],
  record {
    stands = subst (λ (h : List Kept). StandAll (StandsAs c.setup.clusters) h []) (sym is) tt;
    replay = tt;
    state = λ a there own. absurd (strange (subst (IsOwn c n) (same_Some a b (sym there ∙ at)) own));
  },
)

-- ---- what all stand for
abbrev pub Said : Script → List LogView → List (List Kept) → (ℕ → NodeState) → Type 0
Said c bs kept st = Chosen (Fits c bs kept st) (length bs)

pub said_of : (c : Script) (bs : List LogView) (kept : List (List Kept)) (st : ℕ → NodeState) (clock : ℕ → ℕ) → AreKept c bs kept → AreLogs bs st clock → Said c bs kept st
said_of c bs kept st clock counts logs = chosen bs (Fits c bs kept st) (λ n b at. fit c bs kept st clock logs n b at (counts.each n b at))

got_or : {X : Type 0} (xs : List X) (n : ℕ) (x d : X) → slice_get xs n ≡ Some x → slice_index_or xs n d ≡ x
got_or [] n x d at = absurd (none-some x at)
got_or (y ∷ xs) zero x d at = same_Some y x at
got_or (y ∷ xs) (suc n) x d at = got_or xs n x d at

pub said_fits : (c : Script) (bs : List LogView) (kept : List (List Kept)) (st : ℕ → NodeState) → AreKept c bs kept → (said : Said c bs kept st) → (n : ℕ)
    → Fits c bs kept st n (history_of said.list n)
said_fits c bs kept st counts said n = by (slice_get said.list n) refl
  where
    by : (o : Option (List RecordedEvent)) → slice_get said.list n ≡ o → Fits c bs kept st n (history_of said.list n)
    by (Some ds) at = subst (Fits c bs kept st n) (sym (got_or said.list n ds [] at)) (said.each n ds at)
    by None at =
        let le = get_none_past said.list n at in let many = said.many in let size = counts.size in
        subst (Fits c bs kept st n) (sym (nothing_past said.list n le)) (record {
          stands = subst (λ (h : List Kept). StandAll (StandsAs c.setup.clusters) h []) (sym (nothing_past kept n (omega (arith, le, many, size)))) tt;
          replay = tt;
          state = λ b there own. let lt = get_below bs n b there in absurd (omega (arith, lt, le, many));
        })

pub are_stood : (c : Script) (bs : List LogView) (kept : List (List Kept)) (st : ℕ → NodeState) → IsScripted c.setup → length bs ≡ node_count c.setup → AreKept c bs kept
    → (said : Said c bs kept st) → AreStood c.setup (layout_of c.setup) kept said.list
are_stood c bs kept st scripted count counts said = record {
  scripted = scripted;
  nodes = said.many ∙ count;
  layout = layout_is c.setup;
  stands = λ n. (said_fits c bs kept st counts said n).stands;
  replay = λ n. (said_fits c bs kept st counts said n).replay;
}
