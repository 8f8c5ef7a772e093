-- That something is said: by the payload of an entry, and by bytes.
use Rattle.std.specs.Prelude.{ℕ, List, Option}
use Rattle.geo_base.specs.declared.entry.Content.{Content}
use Rattle.geo_base.specs.declared.frame.Frame.{Frame}
use Rattle.frame_values.specs.Standing.{Reads, StandFor}
use Rattle.frame_values.specs.Values.{IsContent}

-- An entry of a marker type and a payload is something, and keeps some payload.
pub record HasContent (names : List (List ℕ)) (number : Option ℕ) (payload : List ℕ) : Type 0 where
  pub content : Content
  pub kept : List ℕ
  pub is : IsContent names number payload content kept

-- Bytes say a value, and stand for it.
pub record HasValue (names : List (List ℕ)) (bytes : List ℕ) : Type 0 where
  pub frame : Frame
  pub says : Reads names bytes frame
  pub stands : StandFor names bytes frame
