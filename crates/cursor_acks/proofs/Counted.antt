-- The blocks before the last one stay counted.
use Rattle.std.proofs.Common.{◌≡◌, ℕ, suc, ◌+◌, ◌-◌, ◌<◌, ◌≤◌, List, [], ◌∷◌, ◌++◌, length, get_or, take, drop, set, refl, ap, sym, ◌∙◌, arith}
use Rattle.std.specs.List.{All}
use Rattle.std.proofs.lemmas.List.{get_or_read}
use Rattle.std.proofs.lemmas.List.Elements.{All-append, All-drop, All-nil, All-push, All-set, All-take}
use Rattle.cursor_acks.specs.Blocks.{AreCounted, excess, split_at}
use Rattle.cursor_acks.proofs.Joined.{Ranges, excess_append, excess_drop, excess_set, split_excess, split_is, split_some}
use Rattle.cursor_acks.proofs.Parts.{gone_excess}

abbrev IsSome : Ranges → Type 0
IsSome b = 0 < length b

-- another block in range_index of one
pub counted_set : (xs : List Ranges) (over over' k : ℕ) (e e' : Ranges) → AreCounted xs over → k < length xs → e ≡ get_or xs k e → 0 < length e' → over' + (length e - 32) ≡ over + (length e' - 32) → AreCounted (set xs k e') over'
counted_set xs over over' k e e' h lt is pos sums = record {
  some = All-set IsSome xs k e' pos h.some;
  counted = omega (arith, h.counted, excess_set xs k e' lt, ap length (get_or_read xs k e lt is []), sums);
}

pub counted_gone : (xs : List Ranges) (over k : ℕ) (e : Ranges) → AreCounted xs over → k < length xs → e ≡ get_or xs k e → length e ≡ 1 → AreCounted (take k xs ++ drop (suc k) xs) over
counted_gone xs over k e h lt is one = record {
  some = All-append IsSome (take k xs) (drop (suc k) xs) (All-take IsSome k xs h.some) (All-drop IsSome (suc k) xs h.some);
  counted = omega (arith, h.counted, gone_excess xs k lt (sym (ap length (get_or_read xs k e lt is [])) ∙ one));
}

pub counted_dropped : (xs : List Ranges) (over k gone : ℕ) → All IsSome xs → over ≡ excess xs → gone ≡ excess (take k xs) → AreCounted (drop k xs) (over - gone)
counted_dropped xs over k gone some counted is = record {
  some = All-drop IsSome k xs some;
  counted = omega (arith, counted, is, excess_drop xs k);
}

-- the same blocks, as the split's clause says them
pub split_list : (xs : List Ranges) (k : ℕ) (e lower upper : Ranges) → k < length xs → e ≡ get_or xs k e → lower ≡ take 32 e → upper ≡ drop 32 e
    → take k (set xs k upper) ++ lower ∷ drop k (set xs k upper) ≡ split_at xs k
split_list xs k e lower upper lt is low high =
    let there : e ≡ get_or xs k [] = get_or_read xs k e lt is [] in
    split_is xs k lower upper lt
    ∙ (ap (λ (b : Ranges). take k xs ++ b ∷ upper ∷ drop (suc k) xs) (low ∙ ap (λ (b : Ranges). take 32 b) there)
    ∙ ap (λ (b : Ranges). take k xs ++ take 32 (get_or xs k []) ∷ b ∷ drop (suc k) xs) (high ∙ ap (λ (b : Ranges). drop 32 b) there))

pub counted_split : (xs : List Ranges) (over k : ℕ) (e lower upper : Ranges) → AreCounted xs over → k < length xs → e ≡ get_or xs k e → length e ≡ 64 → lower ≡ take 32 e → upper ≡ drop 32 e
    → AreCounted (take k (set xs k upper) ++ lower ∷ drop k (set xs k upper)) (over - 32)
counted_split xs over k e lower upper h lt is full low high =
    let there : e ≡ get_or xs k [] = get_or_read xs k e lt is [] in
    let size : length (get_or xs k []) ≡ 64 = sym (ap length there) ∙ full in
    let same : take k (set xs k upper) ++ lower ∷ drop k (set xs k upper) ≡ split_at xs k = split_list xs k e lower upper lt is low high in
    rw same (record { some = split_some xs k lt size h.some; counted = omega (arith, h.counted, split_excess xs k lt size) })

pub counted_pushed : (xs : List Ranges) (over : ℕ) (b : Ranges) → AreCounted xs over → 0 < length b → length b ≤ 32 → AreCounted (xs ++ b ∷ []) over
counted_pushed xs over b h some half = record {
  some = All-push IsSome xs b h.some some;
  counted = omega (arith, h.counted, excess_append xs (b ∷ []), half);
}

pub counted_none : AreCounted [] 0
counted_none = record { some = All-nil IsSome; counted = refl }
