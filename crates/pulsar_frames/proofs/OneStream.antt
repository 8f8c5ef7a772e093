-- A stream is one list of frames, one rest and one fault at most, however it came.
use Rattle.std.proofs.Common.{◌≡◌, ℕ, List, [], ◌∷◌, ◌++◌, Option, Some, None, refl, sym, ap, subst, ◌∙◌, append_assoc, arith}
use Rattle.std.proofs.lemmas.List.{append-nil}
use Rattle.pulsar_frames.specs.declared.fault.FrameFault.{FrameFault}
use Rattle.pulsar_frames.specs.declared.frame.Frame.{Frame}
use Rattle.pulsar_frames.specs.Layout.{sized, layout_text, begun, BrokenLayout, too_large, content, size}
use Rattle.pulsar_frames.specs.Frames.{IsFrameText, TakesFrame, HasFault, sizes, parts}
use Rattle.pulsar_frames.specs.Streams.{AreFrames, end, next, Ends, unfinished, refused, IsStream, Reading, Feeds, reads, refuses, Came, begins, fed, took, ReadsStream}
use Rattle.pulsar_frames.proofs.OneFrame.{frame_one, frame_finished, frame_sound, fault_unfinished, fault_one}

-- ---- one stream

pub ends_sound : (rest : List ℕ) (why : Option FrameFault) (f : Frame) (more : List ℕ) → Ends rest why → TakesFrame rest f more → ⊥
ends_sound rest why f more (unfinished h) t = frame_finished rest f more t h
ends_sound rest why f more (refused h) t = frame_sound rest f more _ t h

ends_one : (rest : List ℕ) (a b : Option FrameFault) → Ends rest a → Ends rest b → a ≡ b
ends_one rest a b (unfinished h) (unfinished k) = refl
ends_one rest a b (unfinished h) (refused k) = absurd (fault_unfinished rest _ h k)
ends_one rest a b (refused h) (unfinished k) = absurd (fault_unfinished rest _ k h)
ends_one rest a b (refused {why = x} h) (refused {why = y} k) = ap (λ (e : FrameFault). Some e) (fault_one rest x y h k)

both_same : (f g : Frame) (fs gs : List Frame) → f ≡ g → fs ≡ gs → f ∷ fs ≡ g ∷ gs
both_same f g fs gs e h = cc

frames_one : {s : List ℕ} {fs gs : List Frame} {r q : List ℕ} {a b : Option FrameFault} → AreFrames s fs r → Ends r a → AreFrames s gs q → Ends q b → (fs ≡ gs) × (r ≡ q)
frames_one end h end k = (refl, refl)
frames_one end h (next t ts) k = absurd (ends_sound _ _ _ _ h t)
frames_one (next t ts) h end k = absurd (ends_sound _ _ _ _ k t)
frames_one (next {more = m} {rest = r} {f = f} {fs = fs} t ts) h (next {more = n} {f = g} u us) k =
    let head = frame_one _ f g m n t u in
    let tail = frames_one (subst (λ (x : List ℕ). AreFrames x fs r) head.1 ts) h us k in
    (both_same f g _ _ head.0 tail.0, tail.1)

pub stream_one : (s : List ℕ) (fs gs : List Frame) (r q : List ℕ) (a b : Option FrameFault) → IsStream s fs r a → IsStream s gs q b → (fs ≡ gs) × (r ≡ q) × (a ≡ b)
stream_one s fs gs r q a b h k =
    let one = frames_one h.whole h.ends k.whole k.ends in
    (one.0, one.1, ends_one q a b (subst (λ (x : List ℕ). Ends x a) one.1 h.ends) k.ends)

-- ---- more bytes

takes_more : {s r : List ℕ} {f : Frame} → TakesFrame s f r → (x : List ℕ) → TakesFrame (s ++ x) f (r ++ x)
takes_more {r = r} h x = record { text = h.text; parts = ap (λ (b : List ℕ). b ++ x) h.parts ∙ append_assoc h.text r x; frame = h.frame }

frames_more : {s r : List ℕ} {fs : List Frame} → AreFrames s fs r → (x : List ℕ) → AreFrames (s ++ x) fs (r ++ x)
frames_more end x = end
frames_more (next t h) x = next (takes_more t x) (frames_more h x)

pub frames_append : {s r q : List ℕ} {fs gs : List Frame} → AreFrames s fs r → AreFrames r gs q → AreFrames s (fs ++ gs) q
frames_append end k = k
frames_append (next t h) k = next t (frames_append h k)

layout_more : {s : List ℕ} {e : FrameFault} → BrokenLayout s e → (x : List ℕ) → BrokenLayout (s ++ x) e
layout_more (too_large n after large fits e) x = too_large n (after ++ x) large fits (ap (λ (b : List ℕ). b ++ x) e ∙ append_assoc (size n) after x)
layout_more (content c rest le e broken) x = content c (rest ++ x) le (ap (λ (b : List ℕ). b ++ x) e ∙ append_assoc (sized c) rest x) broken

-- what is refused stays refused
fault_more : {s : List ℕ} {e : FrameFault} → HasFault s e → (x : List ℕ) → HasFault (s ++ x) e
fault_more (sizes h) x = sizes (layout_more h x)
fault_more (parts l rest t wrong) x =
    parts l (rest ++ x) (record { parts = ap (λ (b : List ℕ). b ++ x) t.parts ∙ append_assoc (layout_text l) rest x; fits = t.fits }) wrong

-- ---- a reader

same_reading : (a b : Reading) → a.waiting ≡ b.waiting → a.rest ≡ b.rest → a.fault ≡ b.fault → a ≡ b
same_reading a b e f g = all (λ w r x. record { waiting = w; rest = r; fault = x }) e f g
  where
    all : (make : List Frame → List ℕ → Option FrameFault → Reading) {w w' : List Frame} {r r' : List ℕ} {x x' : Option FrameFault} → w ≡ w' → r ≡ r' → x ≡ x' → make w r x ≡ make w' r' x'
    all make e f g = cc

pub feeds_one : (old : Reading) (piece : List ℕ) (a b : Reading) → Feeds old piece a → Feeds old piece b → a ≡ b
feeds_one old piece a b (reads fs free h w) (reads gs free' k v) =
    let one = stream_one (old.rest ++ piece) fs gs a.rest b.rest a.fault b.fault h k in
    same_reading a b (w ∙ ap (λ (x : List Frame). old.waiting ++ x) one.0 ∙ sym v) one.1 one.2
feeds_one old piece a b (reads fs free h w) (refuses why is same) = absurd (let e : ◌≡◌ {A = Option FrameFault} None (Some why) = sym free ∙ is in cc)
feeds_one old piece a b (refuses why is same) (reads gs free k v) = absurd (let e : ◌≡◌ {A = Option FrameFault} None (Some why) = sym free ∙ is in cc)
feeds_one old piece a b (refuses why is same) (refuses why' is' same') = same ∙ sym same'

-- a rest that is refused, and the more of it
refused_more : (r : List ℕ) (why : Option FrameFault) (e : FrameFault) (x : List ℕ) → why ≡ Some e → Ends r why → Ends (r ++ x) why
refused_more r why e x is (unfinished h) = absurd (let k : ◌≡◌ {A = Option FrameFault} None (Some e) = is in cc)
refused_more r why e x is (refused h) = refused (fault_more h x)

pub came : {stream : List ℕ} {taken : List Frame} {r : Reading} → Came stream taken r → ReadsStream stream taken r
came begins = record { rest = []; is = record { whole = end; ends = unfinished (begun (omega arith)) }; same = λ e. refl }
came (fed {stream = s} {piece = x} {taken = t} {old = old} {new = new} h (reads fs free k w)) =
    let before = came h in
    let rest : before.rest ≡ old.rest = before.same free in
    let first : AreFrames (s ++ x) (t ++ old.waiting) (old.rest ++ x) = subst (λ (b : List ℕ). AreFrames (s ++ x) (t ++ old.waiting) (b ++ x)) rest (frames_more before.is.whole x) in
    let frames : (t ++ old.waiting) ++ fs ≡ t ++ new.waiting = append_assoc t old.waiting fs ∙ ap (λ (b : List Frame). t ++ b) (sym w) in
    record {
      rest = new.rest;
      is = record { whole = subst (λ (b : List Frame). AreFrames (s ++ x) b new.rest) frames (frames_append first k.whole); ends = k.ends };
      same = λ e. refl;
    }
came (fed {stream = s} {piece = x} {taken = t} {old = old} {new = new} h (refuses why is same)) =
    let before = came h in
    let after : ReadsStream (s ++ x) t old = record {
      rest = before.rest ++ x;
      is = record { whole = frames_more before.is.whole x; ends = refused_more before.rest old.fault why x is before.is.ends };
      same = λ e. absurd (let k : ◌≡◌ {A = Option FrameFault} None (Some why) = sym e ∙ is in cc);
    } in
    subst (λ (r : Reading). ReadsStream (s ++ x) t r) (sym same) after
came (took {stream = s} {taken = t} {f = f} {old = old} {new = new} h k) =
    let before = came h in
    let frames : t ++ old.waiting ≡ (t ++ f ∷ []) ++ new.waiting = ap (λ (b : List Frame). t ++ b) k.waiting ∙ sym (append_assoc t (f ∷ []) new.waiting) in
    let stream : IsStream s ((t ++ f ∷ []) ++ new.waiting) before.rest new.fault =
    subst (λ (e : Option FrameFault). IsStream s ((t ++ f ∷ []) ++ new.waiting) before.rest e) (sym k.fault) (subst (λ (b : List Frame). IsStream s b before.rest old.fault) frames before.is) in
    record {
      rest = before.rest;
      is = stream;
      same = λ e. before.same (sym k.fault ∙ e) ∙ sym k.rest;
    }

-- ---- one frame

pub one_there : (bytes : List ℕ) (f : Frame) → IsFrameText bytes f → IsStream bytes (f ∷ []) [] None
one_there bytes f h = record {
  whole = next (record { text = bytes; parts = sym (append-nil bytes); frame = h }) end;
  ends = unfinished (begun (omega arith));
}

no_more : {s r : List ℕ} {fs : List Frame} → AreFrames s fs r → fs ≡ [] → s ≡ r
no_more end e = refl
no_more (next t h) e = absurd cc

alone : {s r : List ℕ} {fs : List Frame} → AreFrames s fs r → (f : Frame) → fs ≡ f ∷ [] → r ≡ [] → IsFrameText s f
alone end f e is = absurd cc
alone (next {stream = s} {more = m} {rest = r} {f = g} {fs = fs} t h) f e is =
    let empty : m ≡ [] = no_more h (tails g f fs [] e) ∙ is in
    let text : t.text ≡ s = sym (append-nil t.text) ∙ ap (λ (b : List ℕ). t.text ++ b) (sym empty) ∙ sym t.parts in
    subst (λ (k : Frame). IsFrameText s k) (heads g f fs [] e) (subst (λ (b : List ℕ). IsFrameText b g) text t.frame)
  where
    tails : (a b : Frame) (as_ bs : List Frame) → a ∷ as_ ≡ b ∷ bs → as_ ≡ bs
    tails a b as_ bs e = cc

    heads : (a b : Frame) (as_ bs : List Frame) → a ∷ as_ ≡ b ∷ bs → a ≡ b
    heads a b as_ bs e = cc

pub one_back : (bytes : List ℕ) (f : Frame) → IsStream bytes (f ∷ []) [] None → IsFrameText bytes f
one_back bytes f h = alone h.whole f refl refl
