-- Steps in their forms: what a list of forms says stays when one more step is kept.
use Rattle.std.proofs.Common.{◌≡◌, ℕ, suc, ◌+◌, ◌<◌, true, All, List, [], ◌∷◌, ◌++◌, length, map, refl, ap, ◌∙◌, arith}
use Rattle.std.specs.Prelude.{slice_index_or}
use Rattle.std.proofs.Math.Seq.{get_or-append_seam}
use Rattle.std.proofs.lemmas.Bool.{false≢true}
use Rattle.std.proofs.lemmas.List.{get_or_append_left, map-append}
use Rattle.std.proofs.lemmas.List.Elements.{All-push}
use Rattle.geo_base.specs.declared.event.Step.{Step}
use Rattle.geo_base.specs.declared.event.Step.TheVariants as step
use Rattle.script_text.specs.declared.form.Form.{Form}
use Rattle.script_text.specs.declared.form.Form.TheVariants as form
use Rattle.script_text.specs.Forms.{IsAmong, is_short, step_in}

-- a short form says the same whatever stands apart
pub short_same : (apart more : List Step) (f : Form) → is_short f ≡ true → step_in apart f ≡ step_in more f
short_same apart more (form.Go c) s = refl
short_same apart more (form.Get c) s = refl
short_same apart more (form.Reconnect c) s = refl
short_same apart more (form.Serve x c) s = refl
short_same apart more (form.Drop x c) s = refl
short_same apart more (form.Reset t x y) s = refl
short_same apart more (form.Read t x y) s = refl
short_same apart more (form.Take g t x y) s = refl
short_same apart more (form.Receipt g t x y) s = refl
short_same apart more (form.Snap t x) s = refl
short_same apart more (form.Offer t x n) s = refl
short_same apart more (form.Restart t x) s = refl
short_same apart more form.Settle s = refl
short_same apart more form.Stop s = refl
short_same apart more (form.Apart i) s = absurd (false≢true s)

short_among : (n : ℕ) (f : Form) → is_short f ≡ true → IsAmong n f
short_among n (form.Go c) s = tt
short_among n (form.Get c) s = tt
short_among n (form.Reconnect c) s = tt
short_among n (form.Serve x c) s = tt
short_among n (form.Drop x c) s = tt
short_among n (form.Reset t x y) s = tt
short_among n (form.Read t x y) s = tt
short_among n (form.Take g t x y) s = tt
short_among n (form.Receipt g t x y) s = tt
short_among n (form.Snap t x) s = tt
short_among n (form.Offer t x m) s = tt
short_among n (form.Restart t x) s = tt
short_among n form.Settle s = tt
short_among n form.Stop s = tt
short_among n (form.Apart i) s = absurd (false≢true s)

-- a form says the same when one more step stands apart
one_more_apart : (apart : List Step) (e : Step) (f : Form) → IsAmong (length apart) f → step_in (apart ++ e ∷ []) f ≡ step_in apart f
one_more_apart apart e (form.Go c) s = refl
one_more_apart apart e (form.Get c) s = refl
one_more_apart apart e (form.Reconnect c) s = refl
one_more_apart apart e (form.Serve x c) s = refl
one_more_apart apart e (form.Drop x c) s = refl
one_more_apart apart e (form.Reset t x y) s = refl
one_more_apart apart e (form.Read t x y) s = refl
one_more_apart apart e (form.Take g t x y) s = refl
one_more_apart apart e (form.Receipt g t x y) s = refl
one_more_apart apart e (form.Snap t x) s = refl
one_more_apart apart e (form.Offer t x m) s = refl
one_more_apart apart e (form.Restart t x) s = refl
one_more_apart apart e form.Settle s = refl
one_more_apart apart e form.Stop s = refl
one_more_apart apart e (form.Apart i) s = get_or_append_left apart (e ∷ []) step.Stop i s

among_more : (n : ℕ) (f : Form) → IsAmong n f → IsAmong (n + 1) f
among_more n (form.Go c) s = tt
among_more n (form.Get c) s = tt
among_more n (form.Reconnect c) s = tt
among_more n (form.Serve x c) s = tt
among_more n (form.Drop x c) s = tt
among_more n (form.Reset t x y) s = tt
among_more n (form.Read t x y) s = tt
among_more n (form.Take g t x y) s = tt
among_more n (form.Receipt g t x y) s = tt
among_more n (form.Snap t x) s = tt
among_more n (form.Offer t x m) s = tt
among_more n (form.Restart t x) s = tt
among_more n form.Settle s = tt
among_more n form.Stop s = tt
among_more n (form.Apart i) s = omega (arith, s)

same_apart : (apart : List Step) (e : Step) (fs : List Form) → All (IsAmong (length apart)) fs → map (step_in (apart ++ e ∷ [])) fs ≡ map (step_in apart) fs
same_apart apart e [] all = refl
same_apart apart e (f ∷ fs) all =
    let rest : All (IsAmong (length apart)) fs = λ k d under. all (suc k) d (omega (arith, under)) in
    ap (λ (s : Step). s ∷ map (step_in (apart ++ e ∷ [])) fs) (one_more_apart apart e f (all 0 f (omega arith)))
    ∙ ap (λ (ss : List Step). step_in apart f ∷ ss) (same_apart apart e fs rest)

-- one more step in its short form
pub pushed_short : (apart : List Step) (fs : List Form) (f : Form) → is_short f ≡ true → map (step_in apart) (fs ++ f ∷ []) ≡ map (step_in apart) fs ++ step_in [] f ∷ []
pushed_short apart fs f s = map-append (step_in apart) fs (f ∷ []) ∙ ap (λ (e : Step). map (step_in apart) fs ++ e ∷ []) (short_same apart [] f s)

pub short_kept : (n : ℕ) (fs : List Form) (f : Form) → All (IsAmong n) fs → is_short f ≡ true → All (IsAmong n) (fs ++ f ∷ [])
short_kept n fs f all s = All-push (IsAmong n) fs f all (short_among n f s)

-- one more step that stands apart
pub pushed_apart : (apart more : List Step) (fs gs : List Form) (n : ℕ) (e : Step) → All (IsAmong (length apart)) fs → n ≡ length apart
    → more ≡ apart ++ e ∷ [] → gs ≡ fs ++ form.Apart n ∷ [] → map (step_in more) gs ≡ map (step_in apart) fs ++ e ∷ []
pushed_apart apart more fs gs n e all at grown kept =
    let own : step_in (apart ++ e ∷ []) (form.Apart n) ≡ e =
    ap (λ (k : ℕ). slice_index_or (apart ++ e ∷ []) k step.Stop) at ∙ get_or-append_seam apart e [] step.Stop in
    ap (λ (xs : List Step). map (step_in xs) gs) grown ∙ ap (map (step_in (apart ++ e ∷ []))) kept
    ∙ map-append (step_in (apart ++ e ∷ [])) fs (form.Apart n ∷ [])
    ∙ ap (λ (ss : List Step). ss ++ step_in (apart ++ e ∷ []) (form.Apart n) ∷ []) (same_apart apart e fs all)
    ∙ ap (λ (s : Step). map (step_in apart) fs ++ s ∷ []) own

pub apart_kept : (n : ℕ) (fs : List Form) → All (IsAmong n) fs → All (IsAmong (n + 1)) (fs ++ form.Apart n ∷ [])
apart_kept n fs all = All-push (IsAmong (n + 1)) fs (form.Apart n) (λ k d under. among_more n (slice_index_or fs k d) (all k d under)) (let e : n < n + 1 = omega arith in e)
