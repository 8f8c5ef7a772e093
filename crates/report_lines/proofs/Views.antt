-- What each line of a compacted view leaves of the whole.
use Rattle.std.proofs.Common.{◌≡◌, ℕ, zero, suc, ◌+◌, ◌-◌, ◌<◌, ◌≤◌, Bool, true, false, List, [], ◌∷◌, ◌++◌, length, drop, refl, sym, ap, subst, ◌∙◌, arith}
use Rattle.std.specs.Prelude.{Option, Some, None, min, slice_get}
use Rattle.std.proofs.Math.ListN.{drop_of_length-le}
use Rattle.std.proofs.lemmas.List.{append-nil}
use Rattle.std.proofs.lemmas.Option.{slice_get_within}
use Rattle.topic_compaction.specs.View.{IsLeast, is_entry_shown, is_shown}
use Rattle.geo_base.specs.declared.entry.Entry.{Entry}
use Rattle.geo_base.specs.Report.{entry_line, with_line_feeds}
use Rattle.geo_base.specs.Topic.{position_at}
use Rattle.report_lines.proofs.Added.{drop_here, line_added}
use Rattle.report_lines.specs.Views.{if_shown, shown_lines}
use Rattle.geo_base.proofs.Lists.{get_none_past}

-- of an index of a view the entry is there
shown_there : (h i : ℕ) (all : List Entry) → is_shown h all i ≡ true → (e : Entry) × (slice_get all i ≡ Some e)
shown_there h i all shown = by (slice_get all i) refl shown
  where
    by : (o : Option Entry) → slice_get all i ≡ o → is_entry_shown h all i o ≡ true → (e : Entry) × (slice_get all i ≡ Some e)
    by (Some e) at t = (e, at)
    by None at t = absurd (cc t)

module _ (names : List (List ℕ)) (ledgers : List ℕ) (h : ℕ) (all : List Entry) where
  -- the lines of the view from an index on
  abbrev pub lines_from : ℕ → List (List ℕ)
  lines_from i = shown_lines names ledgers h all i (drop i all)

  -- an entry that is not shown has no line
  not_shown : (i : ℕ) → is_shown h all i ≡ false → lines_from i ≡ lines_from (i + 1)
  not_shown i none = by (slice_get all i) refl
    where
      by : (o : Option Entry) → slice_get all i ≡ o → lines_from i ≡ lines_from (i + 1)
      by (Some e) at =
          ap (shown_lines names ledgers h all i) (drop_here all i e at)
          ∙ ap (λ (t : Bool). if_shown t (entry_line names (position_at ledgers i) e) (lines_from (i + 1))) none
      by None at =
          let past = get_none_past all i at in
          ap (shown_lines names ledgers h all i) (drop_of_length-le all past)
          ∙ sym (ap (shown_lines names ledgers h all (i + 1)) (drop_of_length-le all (omega (arith, past))))

  -- nor have those between
  skipped : (k i : ℕ) → ((j : ℕ) → i ≤ j → j < i + k → is_shown h all j ≡ false) → lines_from i ≡ lines_from (i + k)
  skipped zero i none = let e : i ≡ i + 0 = omega arith in ap lines_from e
  skipped (suc k) i none =
      let e : (i + 1) + k ≡ i + suc k = omega arith in
      not_shown i (none i (omega arith) (omega arith)) ∙ (skipped k (i + 1) (λ j from to. none j (omega (arith, from)) (omega (arith, to))) ∙ ap lines_from e)

  -- the next message of the view is the one of its least index
  pub message_added : (i j : ℕ) (old new whole : List ℕ) → IsLeast (is_shown h all) i (Some j)
      → ((e : Entry) → slice_get all j ≡ Some e → new ≡ old ++ (entry_line names (position_at ledgers j) e ++ 10 ∷ []))
      → old ++ with_line_feeds (lines_from i) ≡ whole → new ++ with_line_feeds (lines_from (j + 1)) ≡ whole
  message_added i j old new whole least added before =
      line_added old new (entry_line names (position_at ledgers j) e.0) whole (lines_from (j + 1)) (added e.0 e.1)
      (subst (λ (ls : List (List ℕ)). old ++ with_line_feeds ls ≡ whole) (passed ∙ first) before)
    where
      e : (e : Entry) × (slice_get all j ≡ Some e)
      e = shown_there h j all least.1

      at : i + (j - i) ≡ j
      at = let le = least.0 in omega (arith, le)

      passed : lines_from i ≡ lines_from j
      passed = skipped (j - i) i (λ k from to. least.2 k from (omega (arith, at, to))) ∙ ap lines_from at

      first : lines_from j ≡ entry_line names (position_at ledgers j) e.0 ∷ lines_from (j + 1)
      first =
          ap (shown_lines names ledgers h all j) (drop_here all j e.0 e.1)
          ∙ ap (λ (t : Bool). if_shown t (entry_line names (position_at ledgers j) e.0) (lines_from (j + 1))) least.1

  -- where there is none, the lines are whole
  pub all_shown : (i : ℕ) (old whole : List ℕ) → IsLeast (is_shown h all) i None → old ++ with_line_feeds (lines_from i) ≡ whole → old ≡ whole
  all_shown i old whole none before =
      let past : length all ≤ i + length all = omega arith in
      let end : lines_from i ≡ [] =
      skipped (length all) i (λ j from to. none j from) ∙ ap (shown_lines names ledgers h all (i + length all)) (drop_of_length-le all past) in
      sym (append-nil old) ∙ subst (λ (ls : List (List ℕ)). old ++ with_line_feeds ls ≡ whole) end before

  pub within : (i j : ℕ) → IsLeast (is_shown h all) i (Some j) → j < length all
  within i j least = let e = shown_there h j all least.1 in slice_get_within all j e.0 e.1

-- an answer that is no index is none
pub none_left : (r : Option ℕ) → ((i : ℕ) → r ≡ Some i → ⊥) → r ≡ None
none_left (Some i) not = absurd (not i refl)
none_left None not = refl

-- the horizon of a view is the one asked for, or the topic's length
pub same_horizon : (h r x l n : ℕ) → h ≡ r → r ≡ min x l → l ≡ n → h ≡ min x n
same_horizon h r x l n first then len = first ∙ (then ∙ ap (min x) len)
