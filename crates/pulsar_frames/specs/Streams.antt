-- Streams of frames: whole frames, and then a rest that is no frame.
use Rattle.std.specs.Prelude.{◌≡◌, ℕ, List, [], ◌∷◌, ◌++◌, Option, Some, None, Result, Ok, Err, ◌⊎◌}
use Rattle.pulsar_frames.specs.declared.fault.FrameFault.{FrameFault}
use Rattle.pulsar_frames.specs.declared.fault.FrameFault.TheVariants as fault
use Rattle.pulsar_frames.specs.declared.frame.Frame.{Frame}
use Rattle.pulsar_frames.specs.Layout.{IsUnfinished}
use Rattle.pulsar_frames.specs.Frames.{TakesFrame, HasFault}

-- The stream is the frames one after another, and then the rest.
pub data AreFrames : List ℕ → List Frame → List ℕ → Type 0 where
  end : {rest : List ℕ} → AreFrames rest [] rest
  next : {stream more rest : List ℕ} {f : Frame} {fs : List Frame} → TakesFrame stream f more → AreFrames more fs rest → AreFrames stream (f ∷ fs) rest

-- No frame begins the rest: either more has to come, or it is refused.
pub data Ends : List ℕ → Option FrameFault → Type 0 where
  unfinished : {rest : List ℕ} → IsUnfinished rest → Ends rest None
  refused : {rest : List ℕ} {why : FrameFault} → HasFault rest why → Ends rest (Some why)

-- The frames of a stream, what comes after them, and why it is refused, if it is.
pub record IsStream (stream : List ℕ) (frames : List Frame) (rest : List ℕ) (why : Option FrameFault) : Type 0 where
  pub whole : AreFrames stream frames rest
  pub ends : Ends rest why

-- ---- a reader of a stream that comes in pieces

-- The frames that were read and not yet taken, the bytes after the last whole frame, and why these are refused.
pub record Reading : Type 0 where
  pub waiting : List Frame
  pub rest : List ℕ
  pub fault : Option FrameFault

abbrev pub fresh : Reading
fresh = record { waiting = []; rest = []; fault = None }

-- A piece comes: the frames that are whole now join those that wait. After a refusal nothing is read any more.
pub data Feeds (old : Reading) (piece : List ℕ) (new : Reading) : Type 0 where
  reads : (frames : List Frame) → old.fault ≡ None → IsStream (old.rest ++ piece) frames new.rest new.fault → new.waiting ≡ old.waiting ++ frames → Feeds old piece new
  refuses : (why : FrameFault) → old.fault ≡ Some why → new ≡ old → Feeds old piece new

-- what the call answers then
abbrev pub answer : Option FrameFault → Result (Unit {0}) FrameFault
answer None = Ok tt
answer (Some why) = Err why

-- What a call that fed a piece did: want of memory changes nothing.
abbrev pub Answered : Reading → List ℕ → Result (Unit {0}) FrameFault → Reading → Type 0
Answered old piece (Err fault.Memory) new = new ≡ old
Answered old piece r new = Feeds old piece new × (r ≡ answer new.fault)

-- It came to this, unless memory ran out.
abbrev pub CameTo : Reading → Result (Unit {0}) FrameFault → Reading → Type 0
CameTo r result new = (result ≡ Err fault.Memory) ⊎ ((result ≡ answer r.fault) × (new ≡ r))

-- The frame that waited longest is taken.
pub record Takes (old : Reading) (f : Frame) (new : Reading) : Type 0 where
  pub waiting : old.waiting ≡ f ∷ new.waiting
  pub rest : new.rest ≡ old.rest
  pub fault : new.fault ≡ old.fault

-- A reader came to this after some calls: the pieces that came, joined, and the frames that were taken.
pub data Came : List ℕ → List Frame → Reading → Type 0 where
  begins : Came [] [] fresh
  fed : {stream piece : List ℕ} {taken : List Frame} {old new : Reading} → Came stream taken old → Feeds old piece new → Came (stream ++ piece) taken new
  took : {stream : List ℕ} {taken : List Frame} {f : Frame} {old new : Reading} → Came stream taken old → Takes old f new → Came stream (taken ++ f ∷ []) new

-- The frames taken and those that wait are those of the stream, which is refused where the reader refuses it.
pub record ReadsStream (stream : List ℕ) (taken : List Frame) (r : Reading) : Type 0 where
  pub rest : List ℕ
  pub is : IsStream stream (taken ++ r.waiting) rest r.fault
  pub same : r.fault ≡ None → rest ≡ r.rest
