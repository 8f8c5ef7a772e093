-- How a frame is laid out (Pulsar binary protocol, "Framing"): its total size, the command's size, the command; and in a
-- payload frame the metadata's size, the metadata, the payload. A size is four bytes, the greatest first.
use Rattle.std.specs.Prelude.{◌≡◌, ◌≢◌, ℕ, ◌<◌, ◌≤◌, ◌^◌, List, [], ◌∷◌, ◌++◌, length, Option, Some, None}
use Rattle.std.specs.Int.{w32, to_be_bytes}
use Rattle.pulsar_frames.specs.declared.fault.FrameFault.{FrameFault}
use Rattle.pulsar_frames.specs.declared.fault.FrameFault.TheVariants as fault

-- The most that a total size counts: Pulsar's largest message, 5 MiB, and 10 KiB for what frames it (maxMessageSize, and
-- MESSAGE_SIZE_FRAME_PADDING of Pulsar's Commands).
abbrev pub frame_limit : ℕ
frame_limit = 5253120

unfoldable pub size : ℕ → List ℕ
size n = to_be_bytes w32 n

-- bytes after their size
abbrev pub sized : List ℕ → List ℕ
sized bytes = size (length bytes) ++ bytes

-- what follows the command in a payload frame
pub record BodyLayout : Type 0 where
  pub meta : List ℕ
  pub payload : List ℕ

pub record Layout : Type 0 where
  pub command : List ℕ
  pub body : Option BodyLayout

abbrev pub body_text : Option BodyLayout → List ℕ
body_text None = []
body_text (Some b) = sized b.meta ++ b.payload

-- what the total size counts
abbrev pub content_text : Layout → List ℕ
content_text l = sized l.command ++ body_text l.body

abbrev pub layout_text : Layout → List ℕ
layout_text l = sized (content_text l)

-- The total size is within the limit, so each size within has 32 bits.
pub record Fits (l : Layout) : Type 0 where
  pub total : length (content_text l) ≤ frame_limit

-- A frame stands at the front of the bytes, as far as its sizes go, and rest comes after it.
pub record TakesLayout (bytes : List ℕ) (l : Layout) (rest : List ℕ) : Type 0 where
  pub parts : bytes ≡ layout_text l ++ rest
  pub fits : Fits l

-- ---- less than a frame

-- The bytes end within the total size, or before what it counts.
pub data IsUnfinished : List ℕ → Type 0 where
  begun : {bytes : List ℕ} → length bytes < 4 → IsUnfinished bytes
  under_way : {bytes : List ℕ} (n : ℕ) (after : List ℕ) → n ≤ frame_limit → bytes ≡ size n ++ after → length after < n → IsUnfinished bytes

-- ---- what is wrong

-- Within a frame the bytes end within a size, or before what it counts.
pub data IsCut : List ℕ → Type 0 where
  no_size : {bytes : List ℕ} → length bytes < 4 → IsCut bytes
  short : {bytes : List ℕ} (n : ℕ) (after : List ℕ) → n < 2 ^ 32 → bytes ≡ size n ++ after → length after < n → IsCut bytes

-- a checksum's magic number (Pulsar binary protocol, "Payload commands")
abbrev pub HasChecksum : List ℕ → Type 0
HasChecksum after = (rest : List ℕ) × (after ≡ 14 ∷ 1 ∷ rest)

-- What is wrong with what the total size counts, in the order of judgement: the command's size does not fit; a checksum
-- follows the command; something else follows the command, and the metadata's size does not fit.
pub data BrokenContent : List ℕ → FrameFault → Type 0 where
  command : {content : List ℕ} → IsCut content → BrokenContent content fault.Sizes
  checksum : {content : List ℕ} (command after : List ℕ) → content ≡ sized command ++ after → HasChecksum after → BrokenContent content fault.Checksum
  meta : {content : List ℕ} (command after : List ℕ) → content ≡ sized command ++ after → after ≢ [] → ¬ (HasChecksum after) → IsCut after → BrokenContent content fault.Sizes

-- What is wrong at the front of the bytes: the total size passes the limit; or the whole frame is there, and its
-- content is wrong.
pub data BrokenLayout : List ℕ → FrameFault → Type 0 where
  too_large : {bytes : List ℕ} (n : ℕ) (after : List ℕ) → frame_limit < n → n < 2 ^ 32 → bytes ≡ size n ++ after → BrokenLayout bytes (fault.TooLarge n)
  content : {bytes : List ℕ} {why : FrameFault} (content rest : List ℕ) → length content ≤ frame_limit → bytes ≡ sized content ++ rest → BrokenContent content why → BrokenLayout bytes why
