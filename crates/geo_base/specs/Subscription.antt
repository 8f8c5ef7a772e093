-- A subscription at one cluster, and what its consumers' coming and going and its cursor's writes do to it.
use Rattle.std.specs.Prelude.{ℕ, ◌+◌, min, ◌==◌, Bool, not, ◌&&◌, if◌then◌else◌, List, [], ◌∷◌, ◌++◌, map, filter}
use Rattle.std.specs.List.{list_any}
use Rattle.geo_base.specs.Types.{CachedSnapshot, Consumer, Unacked, SubKind}
use Rattle.geo_base.specs.Cache.{not_passed}
use Rattle.geo_base.specs.Cursor.{below, has, mark, with_indexes}

-- name, kind, replicated, cursor and seeks are durable. In memory are the consumers in order of attachment, what is out
-- with them, what is due again, where reading goes on, and the snapshots that the cursor has not passed
pub record Subscription : Type 0 where
  pub name : List ℕ
  pub kind : SubKind
  pub replicated : Bool
  pub cursor : List ℕ
  pub seeks : ℕ
  pub consumers : List Consumer
  pub out : List Unacked
  pub due : List ℕ
  pub read_index : ℕ
  pub cache : List CachedSnapshot

abbrev pub new_subscription : List ℕ → SubKind → Bool → List ℕ → Subscription
new_subscription name kind replicated cursor =
    record { name = name; kind = kind; replicated = replicated; cursor = cursor; seeks = 0; consumers = []; out = []; due = []; read_index = 0; cache = [] }

-- without what is in memory: what a restart and a seek leave
abbrev pub cleared : Subscription → Subscription
cleared s =
    record { name = s.name; kind = s.kind; replicated = s.replicated; cursor = s.cursor; seeks = s.seeks; consumers = []; out = []; due = []; read_index = 0; cache = [] }

abbrev pub is_of : ℕ → Consumer → Bool
is_of c k = k.client == c

-- the consumer of a client with an id is here
abbrev pub has_consumer : ℕ → ℕ → Subscription → Bool
has_consumer c id s = list_any (λ (k : Consumer). is_of c k && (k.id == id)) s.consumers

abbrev pub is_attached : ℕ → Subscription → Bool
is_attached c s = list_any (is_of c) s.consumers

abbrev pub attached : Consumer → Subscription → Subscription
attached k s = record s { consumers = s.consumers ++ k ∷ [] }

-- the indexes that are out with a client
abbrev pub out_with : ℕ → List Unacked → List ℕ
out_with c [] = []
out_with c (o ∷ os) = if o.client == c then o.index ∷ out_with c os else out_with c os

-- a client's consumers leave: what was out with them and is not acknowledged is due again (Pulsar manual: unacknowledged
-- messages of a consumer that disconnects are redelivered)
abbrev pub detached : ℕ → Subscription → Subscription
detached c s = record s {
  consumers = filter (λ (k : Consumer). not (is_of c k)) s.consumers;
  out = filter (λ (o : Unacked). not (o.client == c)) s.out;
  due = with_indexes s.due (filter (λ i. not (has s.cursor i)) (out_with c s.out));
}

-- the most permits of a consumer: what a FLOW can name
abbrev pub most_permits : ℕ
most_permits = 4294967295

abbrev pub permitted : ℕ → ℕ → Subscription → Subscription
permitted c n s = record s { consumers = map (λ (k : Consumer). if is_of c k then record k { permits = min most_permits (k.permits + n) } else k) s.consumers }

-- the cursor gains some indexes
abbrev pub with_acks : List ℕ → Subscription → Subscription
with_acks is s = record s { cursor = with_indexes s.cursor is }

-- the cursor becomes all below an index, and the count of seeks rises
abbrev pub sought : ℕ → Subscription → Subscription
sought i s = record s { cursor = below i; seeks = s.seeks + 1 }

-- acknowledged indexes are neither out nor due
abbrev pub forgotten : Subscription → Subscription
forgotten s = record s {
  out = filter (λ (o : Unacked). not (has s.cursor o.index)) s.out;
  due = filter (λ i. not (has s.cursor i)) s.due;
}

-- after a write of the cursor what it has is forgotten, and the cache gives up what the mark-delete has passed
abbrev pub after_acks : Subscription → Subscription
after_acks s = record (forgotten s) { cache = if s.replicated then not_passed (mark s.cursor) s.cache else s.cache }
