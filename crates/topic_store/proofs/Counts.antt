-- Messages counted up to each entry.
use Rattle.std.proofs.Common.{◌≡◌, ◌∙◌, ℕ, ◌+◌, ◌-◌, ◌<◌, ◌≤◌, nat_lt, Bool, true, false, List, [], ◌∷◌, ◌++◌, length, get_or, take, refl, ap, sym, arith}
use Rattle.std.specs.Prelude.{if◌then◌else◌}
use Rattle.std.specs.List.{count_by}
use Rattle.std.proofs.lemmas.List.{get_or_append_left, get_or_past, get_or_push, length_push, length-take-le, take-append-le, take_all}
use Rattle.std.proofs.lemmas.List.Sums.{count_by-le-length, sum_by_push}
use Rattle.std.proofs.lemmas.Bool.Decides.{nat_tests}
use Rattle.geo_base.specs.declared.entry.Entry.{Entry}
use Rattle.topic_store.specs.Messages.{is_message, messages_before, CountMessages}

-- how many messages there are after all entries: the last count, or 0
last_count : (es : List Entry) (ms : List ℕ) → CountMessages es ms → get_or ms (length ms - 1) 0 ≡ messages_before es (length es)
last_count [] ms c = get_or_past ms (length ms - 1) 0 (omega (arith, c.many))
last_count (e ∷ es) ms c =
    let at : length ms - 1 ≡ length es = omega (arith, c.many) in
    let all : length es + 1 ≡ length (e ∷ es) = omega arith in
    ap (λ (k : ℕ). get_or ms k 0) at ∙ c.each (length es) (omega arith) ∙ ap (λ (k : ℕ). messages_before (e ∷ es) k) all

pub count_fits : (es : List Entry) (ms : List ℕ) → CountMessages es ms → get_or ms (length ms - 1) 0 ≤ length ms
count_fits es ms c =
    omega (arith, last_count es ms c, c.many, count_by-le-length is_message (take (length es) es), length-take-le (length es) es (omega arith))

before_push : (es : List Entry) (e : Entry) (k : ℕ) → k ≤ length es → messages_before (es ++ e ∷ []) k ≡ messages_before es k
before_push es e k h = ap (λ (xs : List Entry). count_by is_message xs) (take-append-le k es (e ∷ []) h)

after_push : (es : List Entry) (e : Entry) → messages_before (es ++ e ∷ []) (length es + 1) ≡ messages_before es (length es) + (if is_message e then 1 else 0)
after_push es e =
    ap (λ (xs : List Entry). count_by is_message xs) (take_all (length es + 1) (es ++ e ∷ []) (omega (arith, length_push es e)))
    ∙ sum_by_push (λ (x : Entry). if is_message x then 1 else 0) es e
    ∙ ap (λ (xs : List Entry). count_by is_message xs + (if is_message e then 1 else 0)) (sym (take_all (length es) es (omega arith)))

counted_at : (es : List Entry) (ms : List ℕ) (e : Entry) (n k : ℕ) (b : Bool) → nat_lt k (length es) ≡ b → CountMessages es ms → n ≡ get_or ms (length ms - 1) 0 + (if is_message e then 1 else 0) → k < length (es ++ e ∷ []) → get_or (ms ++ n ∷ []) k 0 ≡ messages_before (es ++ e ∷ []) (k + 1)
counted_at es ms e n k true t c h l =
    let in_es : k < length es = grind (arith, nat_tests) in
    get_or_append_left ms (n ∷ []) 0 k (omega (arith, c.many)) ∙ c.each k in_es ∙ sym (before_push es e (k + 1) (omega arith))
counted_at es ms e n k false t c h l =
    let past : length es ≤ k = grind (arith, nat_tests) in
    let at : k ≡ length es = omega (arith, length_push es e) in
    get_or_push ms n 0 k (omega (arith, c.many)) ∙ h
    ∙ ap (λ (m : ℕ). m + (if is_message e then 1 else 0)) (last_count es ms c)
    ∙ sym (after_push es e) ∙ ap (λ (m : ℕ). messages_before (es ++ e ∷ []) (m + 1)) (sym at)

pub counted_push : (es : List Entry) (ms : List ℕ) (e : Entry) (n : ℕ) → CountMessages es ms → n ≡ get_or ms (length ms - 1) 0 + (if is_message e then 1 else 0) → CountMessages (es ++ e ∷ []) (ms ++ n ∷ [])
counted_push es ms e n c h = record {
  many = omega (arith, c.many, length_push es e, length_push ms n);
  each = λ k l. counted_at es ms e n k (nat_lt k (length es)) refl c h l;
}

pub counted_before : (es : List Entry) (ms : List ℕ) (i : ℕ) → CountMessages es ms → 0 < i → i ≤ length es → get_or ms (i - 1) 0 ≡ messages_before es i
counted_before es ms i c o h =
    let at : i - 1 + 1 ≡ i = omega arith in
    c.each (i - 1) (omega arith) ∙ ap (λ (k : ℕ). messages_before es k) at
