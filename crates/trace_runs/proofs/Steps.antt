-- The lines of an event, write by write.
use Rattle.std.proofs.Common.{◌≡◌, ℕ, zero, suc, ◌+◌, ◌<◌, ◌≤◌, Bool, true, false, List, [], ◌∷◌, ◌++◌, drop, length, map, refl, sym, ap, subst, append_assoc, ◌∙◌, arith}
use Rattle.std.proofs.lemmas.List.{append-nil}
use Rattle.std.specs.Prelude.{Some, Result, Ok, Err, OnOk, min, slice_get, take, find, if◌then◌else◌}
use Rattle.std.specs.Str.{bytes_eq}
use Rattle.geo_base.specs.declared.entry.Entry.{Entry}
use Rattle.geo_base.specs.declared.planned.Cause.{Cause}
use Rattle.geo_base.specs.declared.write.Write.{Write}
use Rattle.geo_base.specs.Broker.{Broker, Site, written}
use Rattle.geo_base.specs.Subscription.{Subscription}
use Rattle.geo_base.specs.TraceItems.{Act}
use Rattle.geo_base.specs.Traced.{act_of, cursor_of}
use Rattle.broker_subs.specs.Steps.{SubWriteFits}
use Rattle.broker_subs.specs.declared.writing.SubWrite.{SubWrite}
use Rattle.broker_subs.specs.declared.writing.SubWrite.TheVariants as sub_write
use Rattle.broker_subs.specs.Table.{sub_at}
use Rattle.broker_state.specs.declared.write.StateWrite.{StateWrite}
use Rattle.broker_state.specs.declared.write.StateWrite.TheVariants as state_write
use Rattle.broker_state.specs.Fits.{AllWritesFit, WriteFits}
use Rattle.broker_state.specs.Writes.{machine_write}
use Rattle.trace_runs.specs.Naming.{Naming, act_line}
use Rattle.report_lines.proofs.Added.{drop_here}
use Rattle.trace_runs.specs.Acts.{acts_before}
use Rattle.trace_runs.specs.Writes.{IsWithin, SubIsWithin, lines_of, naming}

-- ---- one write

pub one_line : (h : Site) (a : Act) (old new : List ℕ) → new ≡ old ++ act_line (naming h) a → new ≡ old ++ lines_of h (a ∷ [])
one_line h a old new is = is ∙ ap (λ (t : List ℕ). old ++ t) (sym (append-nil (act_line (naming h) a)))

-- the same, of a result and of a line that says the same
pub on_said : {T E : Type 0} (r : Result T E) (n m : Naming) (a b : Act) (old new : List ℕ) → n ≡ m → a ≡ b → OnOk r (new ≡ old ++ act_line n a) → OnOk r (new ≡ old ++ act_line m b)
on_said (Ok x) n m a b old new at same is = is ∙ (ap (λ (k : Naming). old ++ act_line k a) at ∙ ap (λ (c : Act). old ++ act_line m c) same)
on_said (Err e) n m a b old new at same is = tt

pub on_line : {T E : Type 0} (r : Result T E) (h : Site) (a : Act) (old new : List ℕ) → OnOk r (new ≡ old ++ act_line (naming h) a) → OnOk r (new ≡ old ++ lines_of h (a ∷ []))
on_line (Ok x) h a old new is = one_line h a old new is
on_line (Err e) h a old new is = tt

pub no_line : (old : List ℕ) → old ≡ old ++ []
no_line old = sym (append-nil old)

-- ---- what a write gains is stored

fits_within : (es : List Entry) (k : ℕ) (b : Broker) (w : StateWrite) → WriteFits es k b w → IsWithin es w
fits_within es k b (state_write.Append e stream) h = tt
fits_within es k b (state_write.Create s latest) h = tt
fits_within es k b state_write.Delete h = tt
fits_within es k b (state_write.Sub w) h = by w (subst (λ (fs : List Entry). SubWriteFits fs (sub_at b.subs k) w) (sym h.0) h.1)
  where
    by : (w : SubWrite) → SubWriteFits es (sub_at b.subs k) w → SubIsWithin es w
    by (sub_write.Acks is) f = f
    by (sub_write.AckTo i) f = f
    by (sub_write.UpdateTo i from runs) f = f.0
    by (sub_write.Seek i) f = tt
    by (sub_write.Alter kind replicated) f = tt
fits_within es k b (state_write.ReplicatorAck y i) h = tt
fits_within es k b (state_write.SessionNumber y session) h = tt
fits_within es k b state_write.Ledger h = tt

pub within_at : (per : ℕ) (n : List ℕ) (es : List Entry) (k : ℕ) (b : Broker) (ws : List StateWrite) (j : ℕ) (w : StateWrite) → AllWritesFit per n es k b ws → slice_get ws j ≡ Some w
    → IsWithin es w
within_at per n es k b [] j w fits at = cc
within_at per n es k b (v ∷ ws) zero w fits at = subst (λ (u : StateWrite). IsWithin es u) (same at) (fits_within es k b v fits.0)
  where
    same : Some v ≡ Some w → v ≡ w
    same is = cc
within_at per n es k b (v ∷ ws) (suc j) w fits at = within_at per n es k (written per b (machine_write n es v)) ws j w fits.1 at

-- ---- write after write

here_left : (f : StateWrite → Write) (k j : ℕ) (ws : List StateWrite) (w : StateWrite) → slice_get ws j ≡ Some w → j < k
    → drop j (take k (map f ws)) ≡ f w ∷ drop (j + 1) (take k (map f ws))
here_left f zero j ws w at lt = absurd (omega (arith, lt))
here_left f (suc k) j [] w at lt = cc
here_left f (suc k) zero (v ∷ ws) w at lt = first at
  where
    first : Some v ≡ Some w → f v ∷ take k (map f ws) ≡ f w ∷ take k (map f ws)
    first is = cc
here_left f (suc k) (suc j) (v ∷ ws) w at lt =
    let one : suc j + 1 ≡ suc (j + 1) = omega arith in
    rw one (here_left f k j ws w at (omega (arith, lt)))

none_left : (f : StateWrite → Write) (k j : ℕ) (ws : List StateWrite) → min k (length ws) ≤ j → drop j (take k (map f ws)) ≡ []
none_left f zero zero ws le = refl
none_left f zero (suc j) ws le = refl
none_left f (suc k) zero [] le = refl
none_left f (suc k) (suc j) [] le = refl
none_left f (suc k) zero (v ∷ ws) le = absurd (omega (arith, le))
none_left f (suc k) (suc j) (v ∷ ws) le = none_left f k j ws (omega (arith, le))

lines_append : (h : Site) (ds cs : List Act) → lines_of h (ds ++ cs) ≡ lines_of h ds ++ lines_of h cs
lines_append h [] cs = refl
lines_append h (a ∷ ds) cs = ap (λ (t : List ℕ). act_line (naming h) a ++ t) (lines_append h ds cs) ∙ sym (append_assoc (act_line (naming h) a) (lines_of h ds) (lines_of h cs))

-- the lines so far and those that are left
abbrev pub with_left : Site → Cause → Broker → List ℕ → List Write → List ℕ
with_left h c b lines ws = lines ++ lines_of h (acts_before h c b ws)

pub write_added : (h : Site) (c d : Cause) (b : Broker) (m n : List ℕ) (k j : ℕ) (ws : List StateWrite) (w : StateWrite) (old new whole : List ℕ)
    → slice_get ws j ≡ Some w → j < k → d ≡ c → m ≡ n → new ≡ old ++ lines_of h (act_of h d b (machine_write m b.entries w))
    → with_left h c b old (drop j (take k (map (machine_write n b.entries) ws))) ≡ whole → with_left h c b new (drop (j + 1) (take k (map (machine_write n b.entries) ws))) ≡ whole
write_added h c d b m n k j ws w old new whole at lt cause name is before =
    let f = machine_write n b.entries in
    let rest = drop (j + 1) (take k (map f ws)) in
    let here : with_left h c b old (f w ∷ rest) ≡ whole = ap (λ (vs : List Write). with_left h c b old vs) (sym (here_left f k j ws w at lt)) ∙ before in
    let parts = lines_append h (act_of h c b (f w)) (acts_before h c b rest) in
    let told : new ≡ old ++ lines_of h (act_of h c b (f w)) =
    is
    ∙ (ap (λ (z : Cause). old ++ lines_of h (act_of h z b (machine_write m b.entries w))) cause
    ∙ ap (λ (z : List ℕ). old ++ lines_of h (act_of h c b (machine_write z b.entries w))) name) in
    ap (λ (t : List ℕ). t ++ lines_of h (acts_before h c b rest)) told
    ∙ (append_assoc old (lines_of h (act_of h c b (f w))) (lines_of h (acts_before h c b rest))
    ∙ (ap (λ (t : List ℕ). old ++ t) (sym parts) ∙ here))

pub all_added : (h : Site) (c : Cause) (b : Broker) (f : StateWrite → Write) (k j : ℕ) (ws : List StateWrite) (new whole : List ℕ) → min k (length ws) ≤ j
    → with_left h c b new (drop j (take k (map f ws))) ≡ whole → new ≡ whole
all_added h c b f k j ws new whole past before =
    sym (append-nil new) ∙ (ap (λ (vs : List Write). with_left h c b new vs) (sym (none_left f k j ws past)) ∙ before)

-- ---- the subscription of a name

abbrev pub found_from : List ℕ → ℕ → List Subscription → List ℕ
found_from n i vs = cursor_of (find (λ (v : Subscription). bytes_eq v.name n) (drop i vs))

at_place : (n : List ℕ) (vs : List Subscription) (i : ℕ) (v : Subscription) → slice_get vs i ≡ Some v
    → found_from n i vs ≡ cursor_of (if bytes_eq v.name n then Some v else find (λ (v : Subscription). bytes_eq v.name n) (drop (i + 1) vs))
at_place n vs i v at = ap (λ (us : List Subscription). cursor_of (find (λ (v : Subscription). bytes_eq v.name n) us)) (drop_here vs i v at)

pub found_here : (n : List ℕ) (vs : List Subscription) (i : ℕ) (v : Subscription) (total : List ℕ) → slice_get vs i ≡ Some v → bytes_eq v.name n ≡ true → found_from n i vs ≡ total → v.cursor ≡ total
found_here n vs i v total at same before =
    sym (ap (λ (b : Bool). cursor_of (if b then Some v else find (λ (v : Subscription). bytes_eq v.name n) (drop (i + 1) vs))) same) ∙ (sym (at_place n vs i v at) ∙ before)

pub found_next : (n : List ℕ) (vs : List Subscription) (i : ℕ) (v : Subscription) (total : List ℕ) → slice_get vs i ≡ Some v → bytes_eq v.name n ≡ false → found_from n i vs ≡ total
    → found_from n (i + 1) vs ≡ total
found_next n vs i v total at other before =
    sym (ap (λ (b : Bool). cursor_of (if b then Some v else find (λ (v : Subscription). bytes_eq v.name n) (drop (i + 1) vs))) other) ∙ (sym (at_place n vs i v at) ∙ before)
