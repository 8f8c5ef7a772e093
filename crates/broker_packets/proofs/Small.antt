-- Frames on a link without an entry are brief: their names are short.
use Rattle.std.proofs.Common.{◌≡◌, ℕ, ◌≤◌, List, [], length, refl, arith}
use Rattle.std.specs.Prelude.{codes, slice_index_or, Some}
use Rattle.std.proofs.lemmas.List.{length-append}
use Rattle.geo_base.specs.declared.frame.Frame.{Frame}
use Rattle.geo_base.specs.declared.frame.Frame.TheVariants as frame
use Rattle.geo_base.specs.declared.position.Position.{Position}
use Rattle.geo_base.specs.Broker.{Site}
use Rattle.geo_base.specs.Forwarding.{link_producer}
use Rattle.broker_state.specs.Site.{IsSite}
use Rattle.broker_plans.proofs.Packets.{name_most}
use Rattle.broker_packets.specs.Answers.{IsBrief, opening, receipt, success}

producer_short : (h : Site) (x : ℕ) → IsSite h → length (link_producer h x) ≤ 1024
producer_short h x site =
    omega (arith, length-append (codes "pulsar.repl.") (slice_index_or h.clusters x []), name_most h.clusters x site.names)

pub success_brief : (h : Site) (x request : ℕ) (f : Frame) → IsSite h → f ≡ success h x request → IsBrief h.clusters f
success_brief h x request f site is = rw is (record { simple = refl; readable = refl; small = producer_short h x site })

pub success_is : (h g : Site) (x request : ℕ) (name : List ℕ) → g ≡ h → name ≡ link_producer g x → frame.ProducerSuccess request name ≡ success h x request
success_is h g x request name site is_name = rw (is_name, site) refl

pub receipt_brief : (names : List (List ℕ)) (session seq : ℕ) (position : Position) (f : Frame) → f ≡ receipt session seq position → IsBrief names f
receipt_brief names session seq position f is = rw is (record { simple = refl; readable = refl; small = tt })

topic_short : (h : Site) → IsSite h → length h.topic ≤ 1024
topic_short h site = omega (arith, site.topic)

-- what opens a session
pub opening_brief : (h : Site) (session : ℕ) (f : Frame) → IsSite h → f ≡ frame.Producer h.topic session session (Some (link_producer h h.own)) → IsBrief h.clusters f
opening_brief h session f site is = rw is (record { simple = refl; readable = refl; small = (topic_short h site, producer_short h h.own site) })

-- the packet that opens a session, from what the site says of itself
pub opening_is : (h g : Site) (session own : ℕ) (shown topic name : List ℕ) → g ≡ h → shown ≡ g.topic → topic ≡ shown → own ≡ g.own → name ≡ link_producer g own
    → frame.Producer topic session session (Some name) ≡ opening h session
opening_is h g session own shown topic name site is_shown is_topic is_own is_name = rw (is_topic, is_shown, is_name, is_own, site) refl
