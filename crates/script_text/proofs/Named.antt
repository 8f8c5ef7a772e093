-- The names of a script are names, each told from the others, and its steps are those that its names let a line schedule.
use Rattle.std.proofs.Common.{◌≡◌, ℕ, ◌<◌, ◌≤◌, List, [], length, map, inl, inr, arith, refl, sym, subst}
use Rattle.std.specs.List.{range_with_len}
use Rattle.std.proofs.lemmas.Bool.{cases_lt}
use Rattle.std.proofs.lemmas.List.{length-map}
use Rattle.std.proofs.lemmas.List.FromFn.{get_or-map-range_with_len, length-map-range_with_len}
use Rattle.std.proofs.lemmas.List.{get_or_past}
use Rattle.geo_base.specs.declared.event.Event.{Event}
use Rattle.geo_base.specs.declared.event.Event.TheVariants as event
use Rattle.geo_base.specs.declared.event.Step.{Step}
use Rattle.geo_base.specs.declared.event.Step.TheVariants as step
use Rattle.geo_base.specs.Setup.{Declared, Setup, sub_names}
use Rattle.script_rows.specs.Known as known
use Rattle.script_rows.specs.Names.{subs_of}
use Rattle.script_rows.specs.Written.{AreDeclared, AreNames}
use Rattle.script_text.specs.Drafts.{IsDeclared}
use Rattle.script_text.specs.Scenario.{IsEvent, IsLink, IsNode, IsStep}
use Rattle.script_text.specs.Naming.{names_of}
use Rattle.script_rows.specs.NameWords.{Word}
use Rattle.script_text.proofs.Distinct.{AreDistinct-nil}
use Rattle.script_text.proofs.Tables.{clients_named, subs_apart, subs_named}

-- ---- the subscriptions of a topic
pub subs_at : (s : Setup) (t : ℕ) → t < length s.topics → subs_of (names_of s) t ≡ sub_names s t
subs_at s t within = get_or-map-range_with_len (sub_names s) 0 (length s.topics) t t [] within (omega arith)

pub subs_past : (s : Setup) (t : ℕ) → length s.topics ≤ t → subs_of (names_of s) t ≡ []
subs_past s t past =
    get_or_past (map (sub_names s) (range_with_len 0 (length s.topics))) t [] (omega (arith, length-map-range_with_len (sub_names s) 0 (length s.topics)))

no_names : AreNames []
no_names = record { each = refl; apart = AreDistinct-nil }

subs_are : (s : Setup) → IsDeclared s → (t : ℕ) → AreNames (subs_of (names_of s) t)
subs_are s k t =
    elim (cases_lt t (length s.topics)) [
      | inl within ↦ subst AreNames (sym (subs_at s t within)) (record { each = subs_named s t k.clients; apart = subs_apart s t })
      | inr past ↦ subst AreNames (sym (subs_past s t past)) no_names
    ]

pub names_declared : (s : Setup) → IsDeclared s → AreDeclared (names_of s)
names_declared s k = record {
  clusters = k.clusters;
  topics = k.topics;
  clients = record { each = clients_named s s.clients k.clients; apart = k.clients_apart };
  subs = subs_are s k;
}

-- ---- steps
client_there : (s : Setup) (c : ℕ) → c < length s.clients → c < length (map (λ (d : Declared). d.name) s.clients)
client_there s c within = omega (arith, length-map s.clients (λ (d : Declared). d.name))

client_here : (s : Setup) (c : ℕ) → c < length (map (λ (d : Declared). d.name) s.clients) → c < length s.clients
client_here s c within = omega (arith, length-map s.clients (λ (d : Declared). d.name))

link_there : (s : Setup) (t x y : ℕ) → IsLink s t x y → known.IsLink (names_of s) t x y
link_there s t x y l =
    record { topic_in = l.topic_in; source_in = l.source_in; target_in = l.target_in; apart = l.apart }

link_here : (s : Setup) (t x y : ℕ) → known.IsLink (names_of s) t x y → IsLink s t x y
link_here s t x y l =
    record { topic_in = l.topic_in; source_in = l.source_in; target_in = l.target_in; apart = l.apart }

sub_there : (s : Setup) (t x q : ℕ) → IsNode s t x × (q < length (sub_names s t)) → known.IsNode (names_of s) t x × (q < length (subs_of (names_of s) t))
sub_there s t x q is =
    (is.0, subst (λ (names : List Word). q < length names) (sym (subs_at s t is.0.0)) is.1)

sub_here : (s : Setup) (t x q : ℕ) → known.IsNode (names_of s) t x × (q < length (subs_of (names_of s) t)) → IsNode s t x × (q < length (sub_names s t))
sub_here s t x q is = (is.0, subst (λ (names : List Word). q < length names) (subs_at s t is.0.0) is.1)

-- an event of the script is one that its names let a line schedule
event_there : (s : Setup) (e : Event) → IsEvent s e → known.IsEvent (names_of s) e
event_there s (event.Go c) is = client_there s c is
event_there s (event.Get c) is = client_there s c is
event_there s (event.Reconnect c) is = client_there s c is
event_there s (event.Serve x c) is = (is.0, client_there s c is.1)
event_there s (event.Drop x c) is = (is.0, client_there s c is.1)
event_there s (event.Reset t x y) is = link_there s t x y is
event_there s (event.Read t x y) is = link_there s t x y is
event_there s (event.Take t x y f) is = (link_there s t x y is.0, is.1)
event_there s (event.Receipt t x y f) is = (link_there s t x y is.0, is.1)
event_there s (event.Snap t x) is = is
event_there s (event.Offer t x q) is = sub_there s t x q is
event_there s (event.Seek t x q p) is = (sub_there s t x q is.0, is.1)
event_there s (event.Restart t x) is = is

-- and the other way
event_here : (s : Setup) (e : Event) → known.IsEvent (names_of s) e → IsEvent s e
event_here s (event.Go c) is = client_here s c is
event_here s (event.Get c) is = client_here s c is
event_here s (event.Reconnect c) is = client_here s c is
event_here s (event.Serve x c) is = (is.0, client_here s c is.1)
event_here s (event.Drop x c) is = (is.0, client_here s c is.1)
event_here s (event.Reset t x y) is = link_here s t x y is
event_here s (event.Read t x y) is = link_here s t x y is
event_here s (event.Take t x y f) is = (link_here s t x y is.0, is.1)
event_here s (event.Receipt t x y f) is = (link_here s t x y is.0, is.1)
event_here s (event.Snap t x) is = is
event_here s (event.Offer t x q) is = sub_here s t x q is
event_here s (event.Seek t x q p) is = (sub_here s t x q is.0, is.1)
event_here s (event.Restart t x) is = is

pub step_there : (s : Setup) (st : Step) → IsStep s st → known.IsStep (names_of s) st
step_there s (step.Plain e) is = (event_there s e is.0, is.1)
step_there s (step.Halt k e) is = (is.0, event_there s e is.1, is.2)
step_there s step.Settle is = is
step_there s step.Stop is = is

pub step_here : (s : Setup) (st : Step) → known.IsStep (names_of s) st → IsStep s st
step_here s (step.Plain e) is = (event_here s e is.0, is.1)
step_here s (step.Halt k e) is = (is.0, event_here s e is.1, is.2)
step_here s step.Settle is = is
step_here s step.Stop is = is
