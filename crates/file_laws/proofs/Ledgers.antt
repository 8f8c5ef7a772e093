-- What a run stores can stand in a ledger's text.
use Rattle.std.proofs.Common.{◌≡◌, ℕ, ◌<◌, ◌≤◌, ◌^◌, List, [], ◌∷◌, length, arith}
use Rattle.std.specs.Prelude.{None, IfSome}
use Rattle.geo_base.specs.declared.entry.Content.{Content}
use Rattle.geo_base.specs.declared.entry.Content.TheVariants as content
use Rattle.geo_base.specs.declared.entry.Entry.{Entry}
use Rattle.geo_base.specs.declared.event.Step.{Step}
use Rattle.geo_base.specs.declared.marker.Marker.{Marker}
use Rattle.geo_base.specs.declared.marker.Marker.TheVariants as marker
use Rattle.geo_base.specs.Run.{all_limits, run_under}
use Rattle.geo_base.specs.Scripted.{IsScripted}
use Rattle.geo_base.specs.Setup.{Setup}
use Rattle.geo_base.specs.Sizes.{entry_size, marker_type, most_entry_size}
use Rattle.geo_base.specs.Laws.{IsShort}
use Rattle.geo_base.specs.World.{World, topic_at}
use Rattle.frame_values.specs.Texts.{marker_number}
use Rattle.tiered_storage.specs.Readable.{AreReadable, AreTellable, IsReadable}
use Rattle.message_meta.specs.Known.{IsRest}
use Rattle.world_laws.specs.Plain.{IsPlainContent, IsPlainEntry}
use Rattle.world_laws.proofs.Replicating.Effects.{Each}
use Rattle.world_laws.proofs.ComesOver.FittingRuns.{Fitting, fitting_kept}
use Rattle.world_laws.proofs.Induction.LimitedRuns.{limited_short}
use Rattle.world_laws.proofs.FrameContents.NewEntries.{IsFit}
use Rattle.world_laws.proofs.Induction.Runs.{IsKeptByEvents, between_by_events, by_events}
use Rattle.file_laws.specs.Ledgers.{LawReadable}
use Rattle.kept_laws.proofs.Clients.{AllClients}
use Rattle.kept_laws.proofs.Entries.{AreNames, written}
use Rattle.kept_laws.proofs.Got.{Below, Goes, going_kept}
use Rattle.kept_laws.proofs.Sayable.{IsSayable}

kept_now : (s : Setup) (P : World → Type 0) → IsKeptByEvents s P → (es : List Step) → P (run_under all_limits s es).world
kept_now s P k es = (between_by_events s P P k (λ w p. p)).limited all_limits es

names_of : (s : Setup) → IsScripted s → AreNames s.clusters
names_of s scripted = record { all_ = scripted.cluster_names.0; apart = scripted.cluster_names.1; few = scripted.clusters.1 }

-- ---- an entry

type_small : (m : Marker) → marker_type m < 2 ^ 64
type_small (marker.Request id source) = omega arith
type_small (marker.Response id answer) = omega arith
type_small (marker.Snapshot id local remote) = omega arith
type_small (marker.Update sub remote) = omega arith

number_small : (names : List (List ℕ)) (c : Content) (payload : List ℕ) → IsPlainContent names c payload → IfSome (marker_number c) (λ n. n < 2 ^ 64)
number_small names content.Data payload h = tt
number_small names (content.Marked m) payload h = type_small m
number_small names (content.Unread k) payload h = absurd h

no_rest : (bytes : List ℕ) → bytes ≡ [] → IsRest bytes
no_rest bytes none = record { fields = []; is = none; writable = tt; unknown = tt }

readable : (names : List (List ℕ)) (own : ℕ) (e : Entry) → AreNames names → IsPlainEntry names None e → IsSayable e → e.ident.origin < length names → entry_size names e ≤ most_entry_size → IsReadable names own e
readable names own e ns plain say lt small =
    let w = written names own e ns plain say lt small in
    let few = ns.few in
    let name = say.producer.short in
    record {
      tellable = record { rest = no_rest e.meta.rest plain.rest; told = w.told };
      texts = w.texts;
      short = record { metadata = w.metadata; payload = w.payload };
      origin = omega (arith, lt, few);
      seq = say.seq;
      kind = number_small names e.content e.payload plain.content;
      producer = omega (arith, name);
    }

all_readable : (names : List (List ℕ)) (own : ℕ) (es : List Entry) → AreNames names → Each (λ (e : Entry). IsPlainEntry names None e × (e.ident.origin < length names)) es → Each IsSayable es → Each (IsFit names) es
    → AreReadable names own es
all_readable names own [] ns plain say fit = tt
all_readable names own (e ∷ es) ns plain say fit = (readable names own e ns plain.0.0 say.0 plain.0.1 fit.0, all_readable names own es ns plain.1 say.1 fit.1)

-- ---- those of a run

pub readable_law : LawReadable
readable_law s scenario es t x topic cluster =
    let w : World = (run_under all_limits s.setup es).world in
    let short = limited_short s.setup es in
    let going = kept_now s.setup (λ (w : World). Below s.setup w × (IsShort w → AllClients s.setup (Goes s.setup) w)) (going_kept s.setup scenario.setup) es in
    let fitting = kept_now s.setup (Fitting s.setup) (by_events s.setup (Fitting s.setup) (fitting_kept s.setup scenario.setup)) es in
    all_readable s.setup.clusters x (topic_at s.setup w t x).entries (names_of s.setup scenario.setup) (going.0.1.1.entries t x (topic, cluster)) ((going.0.0.say short).brokers t x (topic, cluster)).stored
    (fitting.1 short t x (topic, cluster))

-- and so their texts say what they are
pub readable_tellable : (names : List (List ℕ)) (own : ℕ) (es : List Entry) → AreReadable names own es → AreTellable names own es
readable_tellable names own [] h = tt
readable_tellable names own (e ∷ es) h = (h.0.tellable, readable_tellable names own es h.1)
