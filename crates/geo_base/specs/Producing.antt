-- What a broker does with the producers of a client: CommandProducer, CommandSend, CommandCloseProducer.
use Rattle.std.specs.Prelude.{ℕ, ◌+◌, nat_le, ◌==◌, Bool, false, not, ◌&&◌, ◌||◌, if◌then◌else◌, List, [], ◌∷◌, ◌++◌, length, filter, take, Option, Some, None, is_none, is_some, codes}
use Rattle.std.specs.List.{list_any}
use Rattle.std.specs.Str.{bytes_eq}
use Rattle.geo_base.specs.Types.{AttachedProducer, Change, Entry, ClusterRef, Session}
use Rattle.geo_base.specs.Types.change
use Rattle.geo_base.specs.Types.frame
use Rattle.geo_base.specs.Answers.{answer, answers, producer_busy, refuses, succeeds, unknown_error}
use Rattle.geo_base.specs.Broker.{Broker, Site}
use Rattle.geo_base.specs.Entry.{is_data, with_origin}
use Rattle.geo_base.specs.Plan.{Plan, plan_of}
use Rattle.geo_base.specs.Sizes.{entry_size, most_entry_size}
use Rattle.geo_base.specs.Storing.{receipt_position, storing}

-- the name of the producer of an id
abbrev pub name_with : ℕ → List AttachedProducer → Option (List ℕ)
name_with id [] = None
name_with id (p ∷ ps) = if p.id == id then Some p.name else name_with id ps

abbrev pub without_producer : ℕ → List AttachedProducer → List AttachedProducer
without_producer id ps = filter (λ (p : AttachedProducer). not (p.id == id)) ps

abbrev pub uses_name : List ℕ → Option Session → Bool
uses_name n None = false
uses_name n (Some s) = list_any (λ (p : AttachedProducer). bytes_eq p.name n) s.producers

-- the open session of a client other than c has a producer of this name; d is the client of the first session of the list
abbrev pub is_taken : List ℕ → ℕ → ℕ → List (Option Session) → Bool
is_taken n c d [] = false
is_taken n c d (s ∷ ss) = (not (c == d) && uses_name n s) || is_taken n c (d + 1) ss

-- the most bytes of a producer's name (own: PulsarApi.proto has no limit; a session keeps its producers' names in memory)
abbrev pub most_producer_name : ℕ
most_producer_name = 1024

-- a name that a broker attaches: not too long, and none that begins with `pulsar.`, as the system's own do
abbrev pub may_attach : List ℕ → Bool
may_attach n = nat_le (length n) most_producer_name && not (bytes_eq (take 7 n) (codes "pulsar."))

abbrev pub with_producers : ℕ → Session → List AttachedProducer → Change
with_producers c s ps = change.Client c (Some (record { number = s.number; producers = ps }))

-- in place of a producer with this id in this session
abbrev pub attaches : ℕ → Session → ℕ → ℕ → List ℕ → Plan
attaches c s id request n =
    plan_of [] (with_producers c s (without_producer id s.producers ++ record { id = id; name = n } ∷ []) ∷ []) (answer c s (frame.ProducerSuccess request n))

abbrev pub serve_producer : Site → Broker → ℕ → Session → List ℕ → ℕ → ℕ → Option (List ℕ) → Plan
serve_producer h b c s topic id request None = refuses c s request unknown_error
serve_producer h b c s topic id request (Some n) =
    if not (bytes_eq topic h.topic && may_attach n) then refuses c s request unknown_error
    else if is_taken n c 0 b.sessions then refuses c s request producer_busy
    else attaches c s id request n

-- a message that the producer of this name may publish: metadata and command agree, no cluster stored it before, it is no
-- marker, and it is not too large
abbrev pub is_sound : Site → List ℕ → ℕ → Option ClusterRef → Entry → Bool
is_sound h n seq source e =
    bytes_eq n e.ident.producer && (seq == e.ident.seq) && is_none source && is_data e.content && nat_le (entry_size h.clusters e) most_entry_size

abbrev pub stores : Site → Broker → ℕ → Session → ℕ → ℕ → Entry → Plan
stores h b c s id seq e = plan_of (storing b e) [] (answer c s (frame.SendReceipt id seq (receipt_position h.per_ledger b e)))

abbrev pub serve_send : Site → Broker → ℕ → Session → ℕ → ℕ → Option ClusterRef → Entry → Option (List ℕ) → Plan
serve_send h b c s id seq source e None = answers c s (frame.SendError id seq unknown_error)
serve_send h b c s id seq source e (Some n) =
    if is_sound h n seq source e then stores h b c s id seq (with_origin h.own e) else answers c s (frame.SendError id seq unknown_error)

abbrev pub serve_close_producer : ℕ → Session → ℕ → ℕ → Plan
serve_close_producer c s id request =
    if is_some (name_with id s.producers)
    then plan_of [] (with_producers c s (without_producer id s.producers) ∷ []) (succeeds c s request)
    else refuses c s request unknown_error
