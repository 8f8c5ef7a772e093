-- The events at sorted turns are the steps of the merge.
use Rattle.std.proofs.Common.{◌≡◌, ℕ, zero, suc, ◌+◌, ◌<◌, List, [], ◌∷◌, ◌++◌, length, map, refl, sym, ap, subst, ◌∙◌, arith}
use Rattle.std.specs.Prelude.{All, slice_index_or}
use Rattle.std.specs.List.Sorted.{IsPermutation}
use Rattle.std.proofs.lemmas.List.{append_assoc}
use Rattle.geo_base.specs.declared.event.Event.{Event}
use Rattle.geo_base.specs.declared.event.Step.{Step}
use Rattle.geo_base.specs.declared.event.Step.TheVariants as step
use Rattle.geo_base.specs.History.{RecordedEvent}
use Rattle.geo_base.specs.Merge.{history_of, merge_of, steps_of}
use Rattle.world_laws.proofs.Replicating.Effects.{Each, each_both}
use Rattle.merge_history.specs.declared.turn.Turn.{Turn}
use Rattle.merge_history.specs.Kept.{Kept, kept_by, kept_stamp}
use Rattle.merge_history.specs.Turns.{AlikeAll, AlikeEvents, AreSorted, IsIn, Rise, all_turns, entry_at, event_at, no_event, no_kept, stamp_of, step_at, turns_from}
use Rattle.merge_history.proofs.Entries.{each_all, each_moved, longer, past, sorted_law}
use Rattle.merge_history.proofs.Walking.{kept_there}
use Rattle.geo_base.proofs.Lists.{index_or_any}

-- ---- a turn is one of an event that is kept
longer_yet : {X : Type 0} (xs : List X) (y : X) (ys : List X) → length xs < length (xs ++ y ∷ ys)
longer_yet [] y ys = omega arith
longer_yet (x ∷ xs) y ys = let lt = longer_yet xs y ys in omega (arith, lt)

in_from : (kept : List (List Kept)) (n : ℕ) (front ds : List Kept) → n < length kept → kept_by kept n ≡ front ++ ds
    → Each (IsIn kept) (turns_from kept_stamp n (length front) ds)
in_from kept n front [] lt whole = tt
in_from kept n front (d ∷ ds) lt whole = (
  (lt, subst (λ (xs : List Kept). length front < length xs) (sym whole) (longer_yet front d ds)),
  subst (λ (i : ℕ). Each (IsIn kept) (turns_from kept_stamp n i ds)) (longer front d)
      (in_from kept n (front ++ d ∷ []) ds lt (whole ∙ sym (append_assoc front (d ∷ []) ds))),
)

in_all : (kept front rest : List (List Kept)) → kept ≡ front ++ rest → Each (IsIn kept) (all_turns kept_stamp (length front) rest)
in_all kept front [] whole = tt
in_all kept front (xs ∷ rest) whole =
    let n = length front in
    let own : kept_by kept n ≡ [] ++ xs = ap (λ (ys : List (List Kept)). slice_index_or ys n []) whole ∙ past front xs rest [] in
    let lt : n < length kept = subst (λ (ys : List (List Kept)). n < length ys) (sym whole) (longer_yet front xs rest) in
    each_both (IsIn kept) (turns_from kept_stamp n 0 xs) (all_turns kept_stamp (n + 1) rest) (in_from kept n [] xs lt own)
    (subst (λ (i : ℕ). Each (IsIn kept) (all_turns kept_stamp i rest)) (longer front xs)
    (in_all kept (front ++ xs ∷ []) rest (whole ∙ sym (append_assoc front (xs ∷ []) rest))))

pub turns_in : (kept : List (List Kept)) (ts : List Turn) → IsPermutation (all_turns kept_stamp 0 kept) ts → All (IsIn kept) ts
turns_in kept ts moved = each_all (IsIn kept) ts (each_moved (IsIn kept) (all_turns kept_stamp 0 kept) ts moved (in_all kept [] kept refl))

own_history : (kept : List (List Kept)) (t : Turn) (h : List Kept) → IsIn kept t → h ≡ slice_index_or kept t.node h → kept_by kept t.node ≡ h
own_history kept t h is at = kept_there kept t.node h is.0 (sym at)

pub place_in : (kept : List (List Kept)) (t : Turn) (h : List Kept) → IsIn kept t → h ≡ slice_index_or kept t.node h → t.place < length h
place_in kept t h is at = subst (λ (xs : List Kept). t.place < length xs) (own_history kept t h is at) is.1

pub event_there : (kept : List (List Kept)) (t : Turn) (h : List Kept) (d : Kept) → IsIn kept t → h ≡ slice_index_or kept t.node h → d ≡ slice_index_or h t.place d
    → d.event ≡ event_at kept t
event_there kept t h d is at here =
    let own = own_history kept t h is at in
    ap (λ (x : Kept). x.event) (here ∙ (index_or_any h t.place d no_kept (place_in kept t h is at) ∙ ap (λ (xs : List Kept). slice_index_or xs t.place no_kept) (sym own)))

-- ---- histories of bytes and of values with the same events and stamps
same_turns : (n i : ℕ) (xs : List Kept) (ds : List RecordedEvent) → AlikeEvents xs ds → turns_from kept_stamp n i xs ≡ turns_from stamp_of n i ds
same_turns n i [] [] h = refl
same_turns n i [] (d ∷ ds) h = absurd h
same_turns n i (x ∷ xs) [] h = absurd h
same_turns n i (x ∷ xs) (d ∷ ds) h =
    ap (λ (s : ℕ). record { stamp = s; node = n; place = i } ∷ turns_from kept_stamp n (i + 1) xs) h.0.1
    ∙ ap (λ (ts : List Turn). record { stamp = d.stamp; node = n; place = i } ∷ ts) (same_turns n (i + 1) xs ds h.1)

same_all : (n : ℕ) (kept : List (List Kept)) (hs : List (List RecordedEvent)) → AlikeAll kept hs → all_turns kept_stamp n kept ≡ all_turns stamp_of n hs
same_all n [] [] h = refl
same_all n [] (ds ∷ hs) h = absurd h
same_all n (xs ∷ kept) [] h = absurd h
same_all n (xs ∷ kept) (ds ∷ hs) h =
    ap (λ (ts : List Turn). ts ++ all_turns kept_stamp (n + 1) kept) (same_turns n 0 xs ds h.0)
    ∙ ap (λ (ts : List Turn). turns_from stamp_of n 0 ds ++ ts) (same_all (n + 1) kept hs h.1)

same_cluster_ref : (xs : List Kept) (ds : List RecordedEvent) (i : ℕ) → AlikeEvents xs ds → (slice_index_or xs i no_kept).event ≡ (slice_index_or ds i no_event).event
same_cluster_ref [] [] i h = refl
same_cluster_ref [] (d ∷ ds) i h = absurd h
same_cluster_ref (x ∷ xs) [] i h = absurd h
same_cluster_ref (x ∷ xs) (d ∷ ds) zero h = h.0.0
same_cluster_ref (x ∷ xs) (d ∷ ds) (suc i) h = same_cluster_ref xs ds i h.1

same_node : (kept : List (List Kept)) (hs : List (List RecordedEvent)) (n i : ℕ) → AlikeAll kept hs
    → (slice_index_or (slice_index_or kept n []) i no_kept).event ≡ (slice_index_or (slice_index_or hs n []) i no_event).event
same_node [] [] n i h = refl
same_node [] (ds ∷ hs) n i h = absurd h
same_node (xs ∷ kept) [] n i h = absurd h
same_node (xs ∷ kept) (ds ∷ hs) zero i h = same_cluster_ref xs ds i h.0
same_node (xs ∷ kept) (ds ∷ hs) (suc n) i h = same_node kept hs n i h.1

same_steps : (kept : List (List Kept)) (hs : List (List RecordedEvent)) (ts : List Turn) → AlikeAll kept hs → map (step_at kept) ts ≡ steps_of (map (entry_at hs) ts)
same_steps kept hs [] h = refl
same_steps kept hs (t ∷ ts) h =
    ap (λ (e : Event). step.Plain e ∷ map (step_at kept) ts) (same_node kept hs t.node t.place h)
    ∙ ap (λ (ss : List Step). step.Plain (entry_at hs t).recorded.event ∷ ss) (same_steps kept hs ts h)

pub steps_are : (kept : List (List Kept)) (hs : List (List RecordedEvent)) (ts : List Turn) (steps : List Step) → IsPermutation (all_turns kept_stamp 0 kept) ts → AreSorted ts
    → steps ≡ map (step_at kept) ts → AlikeAll kept hs → ((n : ℕ) → Rise (history_of hs n)) → steps ≡ steps_of (merge_of hs)
steps_are kept hs ts steps moved sorted is alike rise =
    is
    ∙ (same_steps kept hs ts alike
    ∙ ap steps_of (sorted_law hs ts rise (subst (λ (us : List Turn). IsPermutation us ts) (same_all 0 kept hs alike) moved) sorted))
