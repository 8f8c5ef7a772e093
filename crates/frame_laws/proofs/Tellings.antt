-- What is plain is told whole and can be written; so is all that runs send and store.
use Rattle.std.proofs.Common.{◌≡◌, ℕ, ◌+◌, ◌≤◌, true, List, [], refl, sym, subst}
use Rattle.std.specs.Prelude.{None}
use Rattle.geo_base.specs.declared.frame.Frame.{Frame}
use Rattle.geo_base.specs.declared.frame.Frame.TheVariants as frame
use Rattle.geo_base.specs.FrameSizes.{frame_size, most_frame_size}
use Rattle.geo_base.specs.Laws.{Always, IsShort}
use Rattle.geo_base.specs.Scripted.{AreDistinct}
use Rattle.geo_base.specs.Setup.{Setup}
use Rattle.geo_base.specs.World.{World}
use Rattle.message_meta.specs.Known.{IsRest}
use Rattle.frame_values.specs.Coded.{IsWritable}
use Rattle.frame_values.specs.Texts.{is_readable, unread_bytes}
use Rattle.frame_values.proofs.Entries.{no_rest}
use Rattle.world_laws.specs.Frames.{SendsPlain, SendsSmall}
use Rattle.world_laws.specs.Plain.{IsPlain}
use Rattle.world_laws.proofs.FrameContents.PlainRuns.{fits_always, plain_always}
use Rattle.frame_laws.specs.Telling.{AllTold, AllWritable, LawTold, LawWritten}
use Rattle.frame_laws.proofs.Plain.{entry_told, told}

plain_rest : (bytes : List ℕ) → bytes ≡ [] → IsRest bytes
plain_rest bytes none = subst IsRest (sym none) no_rest

-- a plain frame has a text
record HasText (f : Frame) : Type 0 where
  readable : is_readable f ≡ true
  rest : IsRest (unread_bytes f)

has_text : (names : List (List ℕ)) (f : Frame) → IsPlain names f → HasText f
has_text names (frame.Send id seq source e) h = record { readable = refl; rest = plain_rest e.meta.rest h.rest }
has_text names (frame.Message id position source e) h = record { readable = refl; rest = plain_rest e.meta.rest h.rest }
has_text names frame.Unreadable h = absurd h
has_text names frame.Connect h = record { readable = refl; rest = no_rest }
has_text names frame.Connected h = record { readable = refl; rest = no_rest }
has_text names (frame.Subscribe topic sub kind id request consumer earliest replicated) h = record { readable = refl; rest = no_rest }
has_text names (frame.Producer topic id request name) h = record { readable = refl; rest = no_rest }
has_text names (frame.SendReceipt id seq position) h = record { readable = refl; rest = no_rest }
has_text names (frame.SendError id seq code) h = record { readable = refl; rest = no_rest }
has_text names (frame.Ack id kind positions) h = record { readable = refl; rest = no_rest }
has_text names (frame.Flow id permits) h = record { readable = refl; rest = no_rest }
has_text names (frame.Unsubscribe id request) h = record { readable = refl; rest = no_rest }
has_text names (frame.Success request) h = record { readable = refl; rest = no_rest }
has_text names (frame.Error request code) h = record { readable = refl; rest = no_rest }
has_text names (frame.CloseProducer id request) h = record { readable = refl; rest = no_rest }
has_text names (frame.CloseConsumer id request) h = record { readable = refl; rest = no_rest }
has_text names (frame.ProducerSuccess request name) h = record { readable = refl; rest = no_rest }
has_text names frame.Ping h = record { readable = refl; rest = no_rest }
has_text names frame.Pong h = record { readable = refl; rest = no_rest }

-- what follows from what holds always holds always
always_from : (s : Setup) (P Q : World → Type 0) → ((w : World) → P w → Q w) → Always s (λ w settled. P w) → Always s (λ w settled. Q w)
always_from s P Q f a = record {
  run = λ es. f _ (a.run es);
  limited = λ l es. f _ (a.limited l es);
  between = λ l es at. f _ (a.between l es at);
  moment = λ l m. f _ (a.moment l m);
}

always_both : (s : Setup) (P Q : World → Type 0) → Always s (λ w settled. P w) → Always s (λ w settled. Q w) → Always s (λ w settled. P w × Q w)
always_both s P Q a b = record {
  run = λ es. (a.run es, b.run es);
  limited = λ l es. (a.limited l es, b.limited l es);
  between = λ l es at. (a.between l es at, b.between l es at);
  moment = λ l m. (a.moment l m, b.moment l m);
}

plain_is_told : (s : Setup) → AreDistinct s.clusters → (w : World) → SendsPlain s w → AllTold s w
plain_is_told s apart w h = (
  λ k i p at. told s.clusters p.frame apart (h.0 k i p at),
  λ t x i e small at.
      let plain = h.1 t x i e small at in
      record { told = entry_told s.clusters None e apart plain; rest = plain_rest e.meta.rest plain.rest },
)

pub told_always : LawTold
told_always s scripted = always_from s (SendsPlain s) (AllTold s) (plain_is_told s scripted.cluster_names.1) (plain_always s scripted)

written_frame : (names : List (List ℕ)) (f : Frame) → IsPlain names f → frame_size names f ≤ 4 + most_frame_size → IsWritable names f
written_frame names f plain size = let t = has_text names f plain in record { readable = t.readable; rest = t.rest; size = size }

abbrev SmallWhileShort : Setup → World → Type 0
SmallWhileShort s w = IsShort w → SendsSmall s w

abbrev WritableWhileShort : Setup → World → Type 0
WritableWhileShort s w = IsShort w → AllWritable s w

plain_is_written : (s : Setup) (w : World) → SendsPlain s w × SmallWhileShort s w → WritableWhileShort s w
plain_is_written s w h short k i p at = written_frame s.clusters p.frame (h.0.0 k i p at) ((h.1 short).0 k i p at)

pub written_always : LawWritten
written_always s scripted =
    let P : World → Type 0 = λ w. SendsPlain s w × SmallWhileShort s w in
    always_from s P (WritableWhileShort s) (plain_is_written s) (always_both s (SendsPlain s) (SmallWhileShort s) (plain_always s scripted) (fits_always s scripted))
