-- The walk through all events: whatever is planned has a shape.
use Rattle.std.proofs.Common.{◌≡◌, ℕ, true, length, refl}
use Rattle.std.specs.Prelude.{Option, Some, None, nat_lt}
use Rattle.world_laws.proofs.Types.{Event, Fate, Packet, Session}
use Rattle.world_laws.proofs.Types.event
use Rattle.geo_base.specs.Broker.{session_at}
use Rattle.geo_base.specs.Forwarding.{is_remote, receipt, reset, take_packet}
use Rattle.geo_base.specs.Link.{next_packet}
use Rattle.geo_base.specs.Plan.{Plan}
use Rattle.geo_base.specs.Planned.{Planned, has_client, has_node, has_pair, has_sub, in_range, planned, planned_in}
use Rattle.geo_base.specs.Serving.{drop_client, drop_session, serve}
use Rattle.geo_base.specs.Setup.{Setup, declared_at, sub_name, sub_names}
use Rattle.geo_base.specs.World.{Back, Forward, LinkName, ToBroker, World, link_at, node, site, topic_at}
use Rattle.world_laws.proofs.Walks.LinkWalk.{fate_answered, fate_taken}
use Rattle.world_laws.proofs.Walks.OfferWalk.{offer_shape, seek_shape, snap_shape}
use Rattle.world_laws.proofs.Walks.ReadWalk.{read_shape}
use Rattle.world_laws.proofs.Walks.ServeWalk.{frame_served}
use Rattle.world_laws.proofs.Walks.Shapes.{Shape}
use Rattle.world_laws.proofs.Walks.Walk.{left, on_test, right}

-- the numbers that are in range
pub of_node : (s : Setup) (t x : ℕ) → has_node s t x ≡ true → nat_lt x (length s.clusters) ≡ true
of_node s t x h = right (nat_lt t (length s.topics)) (nat_lt x (length s.clusters)) h

pub of_pair : (s : Setup) (t x y : ℕ) → has_pair s t x y ≡ true → has_node s t x ≡ true
of_pair s t x y h = left (has_node s t x) (nat_lt y (length s.clusters)) h

pub of_sub : (s : Setup) (t x n : ℕ) → has_sub s t x n ≡ true → has_node s t x ≡ true
of_sub s t x n h = left (has_node s t x) (nat_lt n (length (sub_names s t))) h

pub of_target : (s : Setup) (t x y : ℕ) → has_pair s t x y ≡ true → nat_lt y (length s.clusters) ≡ true
of_target s t x y h = right (has_node s t x) (nat_lt y (length s.clusters)) h

-- what an event of a broker plans, with the link that it takes from
abbrev ShapeOf : Setup → World → ℕ → ℕ → Option LinkName → Plan → Type 0
ShapeOf s w t x k p = Shape s w (record { topic = t; cluster = x; takes = k; plan = p })

serve_planned : (s : Setup) (w : World) (x c : ℕ) (o : Option Packet) → nat_lt x (length s.clusters) ≡ true → next_packet (link_at w.links (ToBroker c x)) ≡ o
    → ShapeOf s w (declared_at s c).topic x (Some (ToBroker c x)) (serve (site s (declared_at s c).topic x) (topic_at s w (declared_at s c).topic x) c o)
unfolding serve
serve_planned s w x c None within next = Shape.Empty _ x (ToBroker c x) within next
serve_planned s w x c (Some p) within next = Shape.Serve x c p _ within next (frame_served _ _ c p p.frame refl)

drop_planned : (s : Setup) (w : World) (x c : ℕ) (o : Option Session) → nat_lt x (length s.clusters) ≡ true
    → session_at (topic_at s w (declared_at s c).topic x) c ≡ o → ShapeOf s w (declared_at s c).topic x None (drop_session c o)
drop_planned s w x c None within at = Shape.Idle _ x within
drop_planned s w x c (Some v) within at = Shape.Drop x c v within at

reset_planned : (s : Setup) (w : World) (t x y : ℕ) → has_pair s t x y ≡ true → ShapeOf s w t x None (reset (site s t x) (topic_at s w t x) y)
unfolding reset
reset_planned s w t x y within =
    on_test (ShapeOf s w t x None) (is_remote (site s t x) y) _ _ (λ remote. Shape.Reset t x y within remote) (λ _. Shape.Idle t x (of_node s t x (of_pair s t x y within)))

take_planned : (s : Setup) (w : World) (t x y : ℕ) (f : Fate) (o : Option Packet) → has_pair s t x y ≡ true
    → next_packet (link_at w.links (Forward (node s t x) y)) ≡ o
    → ShapeOf s w t y (Some (Forward (node s t x) y)) (take_packet (site s t y) (topic_at s w t y) x f o)
unfolding take_packet
take_planned s w t x y f None within next = Shape.Empty t y (Forward (node s t x) y) (of_target s t x y within) next
take_planned s w t x y f (Some p) within next = Shape.Take t x y p _ within next (fate_taken (site s t y) (topic_at s w t y) x p f)

receipt_planned : (s : Setup) (w : World) (t x y : ℕ) (f : Fate) (o : Option Packet) → has_pair s t x y ≡ true
    → next_packet (link_at w.links (Back (node s t x) y)) ≡ o
    → ShapeOf s w t x (Some (Back (node s t x) y)) (receipt (site s t x) (topic_at s w t x) y f o)
unfolding receipt
receipt_planned s w t x y f None within next = Shape.Empty t x (Back (node s t x) y) (of_node s t x (of_pair s t x y within)) next
receipt_planned s w t x y f (Some p) within next = Shape.Receipt t x y p _ within next (fate_answered (site s t x) (topic_at s w t x) y p f)

abbrev pub HasShape : Setup → World → Option Planned → Type 0
HasShape s w None = Unit {0}
HasShape s w (Some p) = Shape s w p

in_range_shape : (s : Setup) (w : World) (e : Event) → in_range s e ≡ true → HasShape s w (planned_in s w e)
unfolding drop_client
in_range_shape s w (event.Serve x c) within = serve_planned s w x c _ (left (nat_lt x (length s.clusters)) (has_client s c) within) refl
in_range_shape s w (event.Drop x c) within = drop_planned s w x c _ (left (nat_lt x (length s.clusters)) (has_client s c) within) refl
in_range_shape s w (event.Reset t x y) within = reset_planned s w t x y within
in_range_shape s w (event.Read t x y) within = Shape.Read t x y _ within (read_shape (site s t x) (topic_at s w t x) y)
in_range_shape s w (event.Take t x y f) within = take_planned s w t x y f _ within refl
in_range_shape s w (event.Receipt t x y f) within = receipt_planned s w t x y f _ within refl
in_range_shape s w (event.Snap t x) within = Shape.Snap t x _ within (snap_shape (site s t x) (topic_at s w t x))
in_range_shape s w (event.Offer t x n) within = Shape.Offer t x n _ (of_sub s t x n within) (offer_shape (site s t x) (topic_at s w t x) (sub_name s t n))
in_range_shape s w (event.Seek t x n to) within = Shape.Seek t x n to _ (of_sub s t x n within) (seek_shape (site s t x) (topic_at s w t x) (sub_name s t n) to)
in_range_shape s w (event.Restart t x) within = Shape.Restart t x within
in_range_shape s w (event.Go c) within = tt
in_range_shape s w (event.Get c) within = tt
in_range_shape s w (event.Reconnect c) within = tt

pub planned_shape : (s : Setup) (w : World) (e : Event) → HasShape s w (planned s w e)
unfolding planned
planned_shape s w e = on_test (HasShape s w) (in_range s e) (planned_in s w e) None (λ within. in_range_shape s w e within) (λ _. tt)
