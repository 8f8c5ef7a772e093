-- What a reader that took in one piece says of it.
use Rattle.std.proofs.Common.{◌≡◌, ℕ, List, [], ◌∷◌, Option, Some, None, Result, Ok, Err, inl, inr, refl, sym, ap, subst, ◌∙◌}
use Rattle.std.specs.Prelude.{IfOk}
use Rattle.geo_base.specs.declared.memory.Memory.{Memory}
use Rattle.pulsar_frames.specs.declared.fault.FrameFault.{FrameFault}
use Rattle.pulsar_frames.specs.declared.fault.FrameFault.TheVariants as fault
use Rattle.pulsar_frames.specs.declared.frame.Frame.{Frame}
use Rattle.pulsar_frames.specs.Layout.{IsUnfinished}
use Rattle.pulsar_frames.specs.Frames.{TakesFrame, HasFault}
use Rattle.pulsar_frames.specs.Streams.{AreFrames, end, next, Ends, unfinished, refused, Reading, fresh, Feeds, reads, refuses, Answered, answer, Takes}
use Rattle.byte_answers.specs.declared.answer.Answer.{Answer}
use Rattle.byte_answers.specs.declared.answer.Answer.TheVariants as answers
use Rattle.byte_answers.specs.Answers.{IsFrameAnswer, IsNoFrame, IsWritten}

none_more : {s r : List ℕ} {fs : List Frame} → AreFrames s fs r → fs ≡ [] → s ≡ r
none_more end e = refl
none_more (next t h) e = absurd cc

first_frame : {s r : List ℕ} {fs : List Frame} → AreFrames s fs r → (f : Frame) (gs : List Frame) → fs ≡ f ∷ gs → (more : List ℕ) × TakesFrame s f more
first_frame end f gs e = absurd cc
first_frame (next {stream = s} {more = m} {f = g} {fs = hs} t h) f gs e = (m, subst (λ (x : Frame). TakesFrame s x m) (heads g f hs gs e) t)
  where
    heads : (a b : Frame) (as_ bs : List Frame) → a ∷ as_ ≡ b ∷ bs → a ≡ b
    heads a b as_ bs e = cc

is_unfinished : (r : List ℕ) (why : Option FrameFault) → Ends r why → why ≡ None → IsUnfinished r
is_unfinished r why (unfinished h) e = h
is_unfinished r why (refused h) e = absurd cc

is_refused : (r : List ℕ) (why : Option FrameFault) (x : FrameFault) → Ends r why → why ≡ Some x → HasFault r x
is_refused r why x (unfinished h) e = absurd cc
is_refused r why x (refused {why = y} h) e = subst (λ (z : FrameFault). HasFault r z) (some_is y x e) h
  where
    some_is : (a b : FrameFault) → ◌≡◌ {A = Option FrameFault} (Some a) (Some b) → a ≡ b
    some_is a b e = cc

-- ---- a frame was taken

fed_first : (bytes : List ℕ) (r : Reading) (f : Frame) (gs : List Frame) → Feeds fresh bytes r → r.waiting ≡ f ∷ gs → (more : List ℕ) × TakesFrame bytes f more
fed_first bytes r f gs (reads fs free stream is) w = first_frame stream.whole f gs (sym is ∙ w)
fed_first bytes r f gs (refuses why at same) w = absurd (let e : ◌≡◌ {A = Option FrameFault} None (Some why) = at in cc)

taken_first : (bytes : List ℕ) (result : Result (Unit {0}) FrameFault) (r s : Reading) (f : Frame) → Answered fresh bytes result r → Takes r f s → (more : List ℕ) × TakesFrame bytes f more
taken_first bytes (Err fault.Memory) r s f h t = absurd (let e : ◌≡◌ {A = List Frame} [] (f ∷ s.waiting) = sym (ap (λ (x : Reading). x.waiting) h) ∙ t.waiting in cc)
taken_first bytes (Ok u) r s f h t = fed_first bytes r f s.waiting h.0 t.waiting
taken_first bytes (Err (fault.TooLarge n)) r s f h t = fed_first bytes r f s.waiting h.0 t.waiting
taken_first bytes (Err fault.Sizes) r s f h t = fed_first bytes r f s.waiting h.0 t.waiting
taken_first bytes (Err fault.Checksum) r s f h t = fed_first bytes r f s.waiting h.0 t.waiting
taken_first bytes (Err (fault.Command w)) r s f h t = fed_first bytes r f s.waiting h.0 t.waiting
taken_first bytes (Err (fault.Meta w)) r s f h t = fed_first bytes r f s.waiting h.0 t.waiting

pub written_is : (bytes : List ℕ) (result : Result (Unit {0}) FrameFault) (r s : Reading) (f : Frame) (a : Result Answer Memory) → Answered fresh bytes result r → Takes r f s → IfOk a (IsWritten f) → IfOk a (IsFrameAnswer bytes)
written_is bytes result r s f (Err e) h t w = tt
written_is bytes result r s f (Ok (answers.Canonical out)) h t w = let first = taken_first bytes result r s f h t in (f, first.0, first.1, w)
written_is bytes result r s f (Ok (answers.NoFrame why)) h t w = let first = taken_first bytes result r s f h t in inr (f, first.0, first.1, w)
written_is bytes result r s f (Ok (answers.NoFields x)) h t w = w
written_is bytes result r s f (Ok (answers.NoMeta x)) h t w = w
written_is bytes result r s f (Ok (answers.NoMarker x)) h t w = w
written_is bytes result r s f (Ok (answers.NoCommand x)) h t w = w
written_is bytes result r s f (Ok answers.Incomplete) h t w = absurd w
written_is bytes result r s f (Ok answers.Unreadable) h t w = w
written_is bytes result r s f (Ok answers.BadLine) h t w = w

-- ---- none was there

answer_none : (why : Option FrameFault) (u : Unit {0}) → Ok u ≡ answer why → why ≡ None
answer_none None u e = refl
answer_none (Some w) u e = absurd cc

answer_some : (why : Option FrameFault) (x : FrameFault) → Err x ≡ answer why → why ≡ Some x
answer_some None x e = absurd cc
answer_some (Some w) x e = ap (λ (y : FrameFault). Some y) (err_is w x (sym e))
  where
    err_is : (a b : FrameFault) → ◌≡◌ {A = Result (Unit {0}) FrameFault} (Err a) (Err b) → a ≡ b
    err_is a b e = cc

fed_rest : (bytes : List ℕ) (r : Reading) → Feeds fresh bytes r → r.waiting ≡ [] → Ends bytes r.fault
fed_rest bytes r (reads fs free stream is) w = subst (λ (s : List ℕ). Ends s r.fault) (sym (none_more stream.whole (sym is ∙ w))) stream.ends
fed_rest bytes r (refuses why at same) w = absurd (let e : ◌≡◌ {A = Option FrameFault} None (Some why) = at in cc)

refusal : (bytes : List ℕ) (r : Reading) (x : FrameFault) (a : Answer) → Feeds fresh bytes r → Err x ≡ answer r.fault → r.waiting ≡ [] → IsNoFrame (Err x) a → IsFrameAnswer bytes a
refusal bytes r x (answers.NoFrame why) h is w n = inl (subst (λ (y : FrameFault). HasFault bytes y) (sym n.1) (is_refused bytes r.fault x (fed_rest bytes r h w) (answer_some r.fault x is)))
refusal bytes r x (answers.Canonical out) h is w n = absurd n
refusal bytes r x (answers.NoFields y) h is w n = n
refusal bytes r x (answers.NoMeta y) h is w n = n
refusal bytes r x (answers.NoMarker y) h is w n = n
refusal bytes r x (answers.NoCommand y) h is w n = n
refusal bytes r x answers.Incomplete h is w n = absurd n
refusal bytes r x answers.Unreadable h is w n = n
refusal bytes r x answers.BadLine h is w n = n

incomplete : (bytes : List ℕ) (r : Reading) (u : Unit {0}) (a : Answer) → Feeds fresh bytes r → Ok u ≡ answer r.fault → r.waiting ≡ [] → IsNoFrame (Ok u) a → IsFrameAnswer bytes a
incomplete bytes r u answers.Incomplete h is w n = is_unfinished bytes r.fault (fed_rest bytes r h w) (answer_none r.fault u is)
incomplete bytes r u (answers.NoFrame why) h is w n = absurd n
incomplete bytes r u (answers.Canonical out) h is w n = absurd n
incomplete bytes r u (answers.NoFields y) h is w n = n
incomplete bytes r u (answers.NoMeta y) h is w n = n
incomplete bytes r u (answers.NoMarker y) h is w n = n
incomplete bytes r u (answers.NoCommand y) h is w n = n
incomplete bytes r u answers.Unreadable h is w n = n
incomplete bytes r u answers.BadLine h is w n = n

no_memory : (a : Answer) (P : Answer → Type 0) → IsNoFrame (Err fault.Memory) a → P a
no_memory (answers.NoFrame why) P n = absurd (n.0 refl)
no_memory a P n = absurd n

pub none_is : (bytes : List ℕ) (result : Result (Unit {0}) FrameFault) (r : Reading) (a : Result Answer Memory) → Answered fresh bytes result r → r.waiting ≡ [] → IfOk a (IsNoFrame result) → IfOk a (IsFrameAnswer bytes)
none_is bytes result r (Err e) h w n = tt
none_is bytes (Ok u) r (Ok a) h w n = incomplete bytes r u a h.0 h.1 w n
none_is bytes (Err fault.Memory) r (Ok a) h w n = no_memory a (IsFrameAnswer bytes) n
none_is bytes (Err (fault.TooLarge k)) r (Ok a) h w n = refusal bytes r (fault.TooLarge k) a h.0 h.1 w n
none_is bytes (Err fault.Sizes) r (Ok a) h w n = refusal bytes r fault.Sizes a h.0 h.1 w n
none_is bytes (Err fault.Checksum) r (Ok a) h w n = refusal bytes r fault.Checksum a h.0 h.1 w n
none_is bytes (Err (fault.Command k)) r (Ok a) h w n = refusal bytes r (fault.Command k) a h.0 h.1 w n
none_is bytes (Err (fault.Meta k)) r (Ok a) h w n = refusal bytes r (fault.Meta k) a h.0 h.1 w n
