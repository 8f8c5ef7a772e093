-- No event looks at what the bytes of a packet do not say.
use Rattle.std.proofs.Common.{◌≡◌, ℕ, ap, ◌∙◌}
use Rattle.std.specs.Prelude.{Some}
use Rattle.geo_base.specs.declared.event.Fate.{Fate}
use Rattle.geo_base.specs.declared.frame.Frame.{Frame}
use Rattle.geo_base.specs.declared.packet.Packet.{Packet}
use Rattle.geo_base.specs.Broker.{Broker, Site}
use Rattle.geo_base.specs.Client.{Client}
use Rattle.geo_base.specs.Forwarding.{receipt, take_packet}
use Rattle.geo_base.specs.Getting.{get}
use Rattle.geo_base.specs.Serving.{serve}
use Rattle.geo_base.specs.Setup.{Declared}
use Rattle.world_laws.proofs.Merges.Origins.{get_same, packet_of, receipt_same, serve_same, take_same}
use Rattle.frame_laws.specs.BytePackets.{bare_packet}
use Rattle.frame_laws.proofs.AlikeBytes.{bare_is}

pub serve_bare : (h : Site) (b : Broker) (c : ℕ) (p : Packet) → serve h b c (Some (bare_packet p)) ≡ serve h b c (Some p)
serve_bare h b c p = ap (λ (f : Frame). serve h b c (packet_of p.session p.stamp f)) (bare_is p.frame) ∙ serve_same h b c p.session p.stamp p.frame

pub take_bare : (h : Site) (b : Broker) (x : ℕ) (fate : Fate) (p : Packet) → take_packet h b x fate (Some (bare_packet p)) ≡ take_packet h b x fate (Some p)
take_bare h b x fate p =
    ap (λ (f : Frame). take_packet h b x fate (packet_of p.session p.stamp f)) (bare_is p.frame) ∙ take_same h b x fate p.session p.stamp p.frame

pub receipt_bare : (h : Site) (b : Broker) (y : ℕ) (fate : Fate) (p : Packet) → receipt h b y fate (Some (bare_packet p)) ≡ receipt h b y fate (Some p)
receipt_bare h b y fate p =
    ap (λ (f : Frame). receipt h b y fate (packet_of p.session p.stamp f)) (bare_is p.frame) ∙ receipt_same h b y fate p.session p.stamp p.frame

pub get_bare : (d : Declared) (k : Client) (p : Packet) → get d k (Some (bare_packet p)) ≡ get d k (Some p)
get_bare d k p = ap (λ (f : Frame). get d k (packet_of p.session p.stamp f)) (bare_is p.frame) ∙ get_same d k p.session p.stamp p.frame
