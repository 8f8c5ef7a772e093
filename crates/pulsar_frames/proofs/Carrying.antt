-- The text of a frame whose parts stand apart.
use Rattle.std.proofs.Common.{◌≡◌, ℕ, List, Some, true, refl, sym, ap, subst, ◌∙◌, length}
use Rattle.pb_fields.specs.Canonical.{text}
use Rattle.message_meta.specs.declared.known.KnownMeta.{KnownMeta}
use Rattle.message_meta.specs.Known.{IsJoinedText, IsRest}
use Rattle.pulsar_commands.specs.declared.command.Command.{Command}
use Rattle.pulsar_commands.specs.Canonical.{command_text}
use Rattle.pulsar_commands.specs.Parts.{kind_of}
use Rattle.pulsar_commands.specs.Text.{IsCommandText}
use Rattle.pulsar_frames.specs.declared.fault.FrameFault.{FrameFault}
use Rattle.pulsar_frames.specs.declared.fault.FrameFault.TheVariants as fault
use Rattle.pulsar_frames.specs.Layout.{Layout, Fits, content_text, layout_text}
use Rattle.pulsar_frames.specs.Frames.{carries}
use Rattle.pulsar_frames.specs.Canonical.{IsTooLarge, canonical_layout}
use Rattle.pulsar_frames.specs.Carrying.{IsCarryingFault, IsCarryingText, carrying}

-- the layout of texts in their places
abbrev laid : List ℕ → List ℕ → List ℕ → Layout
laid command meta payload = record { command = command; body = Some (record { meta = meta; payload = payload }) }

laid_is : (c : Command) (k : KnownMeta) (rest payload command meta : List ℕ) → command ≡ command_text c → (h : IsJoinedText k rest meta)
    → laid command meta payload ≡ canonical_layout (carrying c k h.fields payload)
laid_is c k rest payload command meta is h = let e = h.canonical in cc

pub carrying_is : (c : Command) (k : KnownMeta) (rest payload command meta bytes : List ℕ) → command ≡ command_text c → IsCommandText command c → carries (kind_of c) ≡ true
    → IsJoinedText k rest meta → bytes ≡ layout_text (laid command meta payload) → Fits (laid command meta payload) → IsCarryingText c k rest payload bytes
carrying_is c k rest payload command meta bytes is command_is carried h whole fits =
    record {
      fields = h.fields;
      kept = h.kept;
      canonical = whole ∙ ap (λ (l : Layout). layout_text l) (laid_is c k rest payload command meta is h);
      is_text = record {
        layout = laid command meta payload;
        text = whole;
        fits = fits;
        means = record { command = command_is; carried = sym carried; body = (h.is_text, refl) };
      };
    }

pub carrying_fault : (c : Command) (k : KnownMeta) (rest payload command meta : List ℕ) (e : FrameFault) → command ≡ command_text c
    → IsJoinedText k rest meta → IsTooLarge (length (content_text (laid command meta payload))) e → IsCarryingFault c k rest payload e
carrying_fault c k rest payload command meta e is h large = record {
  fields = h.fields;
  kept = h.kept;
  large = subst (λ (l : Layout). IsTooLarge (length (content_text l)) e) (laid_is c k rest payload command meta is h) large;
}

pub want_of_memory : (c : Command) (k : KnownMeta) (rest payload : List ℕ) → IsRest rest → IsCarryingFault c k rest payload fault.Memory
want_of_memory c k rest payload h = record { fields = h.fields; kept = h.is; large = tt }
