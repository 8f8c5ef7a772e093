-- What a call of feed comes to.
use Rattle.std.proofs.Common.{◌≡◌, ℕ, List, [], ◌++◌, Option, Some, None, Result, Ok, Err, inr, refl, sym, ap, subst, ◌∙◌}
use Rattle.std.proofs.lemmas.List.{append-nil}
use Rattle.pulsar_frames.specs.declared.fault.FrameFault.{FrameFault}
use Rattle.pulsar_frames.specs.declared.fault.FrameFault.TheVariants as fault
use Rattle.pulsar_frames.specs.declared.frame.Frame.{Frame}
use Rattle.pulsar_frames.specs.Layout.{Layout, BrokenLayout, too_large, content, BrokenContent, command, checksum, meta}
use Rattle.pulsar_frames.specs.Frames.{HasFault, sizes, parts, WrongFrame}
use Rattle.pulsar_frames.specs.Frames as frames
use Rattle.pulsar_frames.specs.Streams.{Ends, unfinished, refused, IsStream, Reading, Feeds, reads, refuses, Answered, CameTo, answer}
use Rattle.pulsar_frames.proofs.OneStream.{feeds_one}

-- ---- want of memory is no fault

content_not_memory : (c : List ℕ) (e : FrameFault) → BrokenContent c e → e ≡ fault.Memory → ⊥
content_not_memory c e (command cut) is = cc
content_not_memory c e (checksum d after at sum) is = cc
content_not_memory c e (meta d after at some not cut) is = cc

layout_not_memory : (s : List ℕ) (e : FrameFault) → BrokenLayout s e → e ≡ fault.Memory → ⊥
layout_not_memory s e (too_large n after large fits at) is = cc
layout_not_memory s e (content c rest le at broken) is = content_not_memory c e broken is

frame_not_memory : (l : Layout) (e : FrameFault) → WrongFrame l e → e ≡ fault.Memory → ⊥
frame_not_memory l e (frames.command why wrong at) is = cc
frame_not_memory l e (frames.carried c text other at) is = cc
frame_not_memory l e (frames.meta c b why text does there wrong at) is = cc

not_memory : (s : List ℕ) (e : FrameFault) → HasFault s e → e ≡ fault.Memory → ⊥
not_memory s e (sizes broken) is = layout_not_memory s e broken is
not_memory s e (parts l rest t wrong) is = frame_not_memory l e wrong is

ends_not_memory : (s : List ℕ) (why : Option FrameFault) → Ends s why → why ≡ Some fault.Memory → ⊥
ends_not_memory s why (unfinished h) is = cc
ends_not_memory s why (refused {why = e} h) is = not_memory s e h (some_is e fault.Memory is)
  where
    some_is : (a b : FrameFault) → ◌≡◌ {A = Option FrameFault} (Some a) (Some b) → a ≡ b
    some_is a b e = cc

-- ---- a refused reader

pub answered_refused : (old : Reading) (piece : List ℕ) (why : FrameFault) → old.fault ≡ Some why → Answered old piece (Err why) old
answered_refused old piece fault.Memory is = refl
answered_refused old piece (fault.TooLarge n) is = (refuses (fault.TooLarge n) is refl, ap (λ (o : Option FrameFault). answer o) (sym is))
answered_refused old piece fault.Sizes is = (refuses fault.Sizes is refl, ap (λ (o : Option FrameFault). answer o) (sym is))
answered_refused old piece fault.Checksum is = (refuses fault.Checksum is refl, ap (λ (o : Option FrameFault). answer o) (sym is))
answered_refused old piece (fault.Command w) is = (refuses (fault.Command w) is refl, ap (λ (o : Option FrameFault). answer o) (sym is))
answered_refused old piece (fault.Meta w) is = (refuses (fault.Meta w) is refl, ap (λ (o : Option FrameFault). answer o) (sym is))

-- ---- a piece that is read

-- the piece joined first, and then all read
pub feeds_piece : (old mid new : Reading) (piece : List ℕ) → mid.waiting ≡ old.waiting → mid.rest ≡ old.rest ++ piece → mid.fault ≡ old.fault → old.fault ≡ None → Feeds mid [] new → Feeds old piece new
feeds_piece old mid new piece w r f none (reads fs free stream is) =
    reads fs none
    (subst (λ (s : List ℕ). IsStream s fs new.rest new.fault) (append-nil mid.rest ∙ r) stream)
    (is ∙ ap (λ (ws : List Frame). ws ++ fs) w)
feeds_piece old mid new piece w r f none (refuses why at same) = absurd (let e : ◌≡◌ {A = Option FrameFault} None (Some why) = sym none ∙ sym f ∙ at in cc)

err_is : (a b : FrameFault) → ◌≡◌ {A = Result (Unit {0}) FrameFault} (Err a) (Err b) → a ≡ b
err_is a b e = cc

answer_is : (why : Option FrameFault) (e : FrameFault) → Err e ≡ answer why → why ≡ Some e
answer_is None e is = absurd cc
answer_is (Some w) e is = ap (λ (x : FrameFault). Some x) (sym (err_is e w is))

fault_ends : (old : Reading) (piece : List ℕ) (new : Reading) → old.fault ≡ None → Feeds old piece new → Ends new.rest new.fault
fault_ends old piece new none (reads fs free stream is) = stream.ends
fault_ends old piece new none (refuses why at same) = absurd (let e : ◌≡◌ {A = Option FrameFault} None (Some why) = sym none ∙ at in cc)

pub answered : (old : Reading) (piece : List ℕ) (r : Result (Unit {0}) FrameFault) (new : Reading) → old.fault ≡ None → Feeds old piece new → r ≡ answer new.fault → Answered old piece r new
answered old piece (Ok u) new none h is = (h, is)
answered old piece (Err fault.Memory) new none h is = absurd (ends_not_memory new.rest new.fault (fault_ends old piece new none h) (answer_is new.fault fault.Memory is))
answered old piece (Err (fault.TooLarge n)) new none h is = (h, is)
answered old piece (Err fault.Sizes) new none h is = (h, is)
answered old piece (Err fault.Checksum) new none h is = (h, is)
answered old piece (Err (fault.Command w)) new none h is = (h, is)
answered old piece (Err (fault.Meta w)) new none h is = (h, is)

pub came_to : (old : Reading) (piece : List ℕ) (r : Result (Unit {0}) FrameFault) (new : Reading) → Feeds old piece new → r ≡ answer new.fault → (k : Reading) → Feeds old piece k → CameTo k r new
came_to old piece r new h is k h' =
    let same : new ≡ k = feeds_one old piece new k h h' in
    inr (is ∙ ap (λ (x : Reading). answer x.fault) same, same)
