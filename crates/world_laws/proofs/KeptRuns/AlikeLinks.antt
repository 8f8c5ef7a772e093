-- Links on which the same packets wait: what is sent on them and taken from them leaves the same to wait.
use Rattle.std.proofs.Common.{◌≡◌, ℕ, zero, suc, ◌+◌, ◌≤◌, List, [], ◌∷◌, ◌++◌, length, map, refl, sym, ap, ◌∙◌, sum, arith}
use Rattle.std.specs.Prelude.{Option, Some, None, drop, slice_get, slice_index_or, slice_set}
use Rattle.std.specs.Option.{option_map}
use Rattle.std.proofs.lemmas.List.{drop-append-le, drop_all, drop_min, length-append, length-drop, length-map, map-append, map-set}
use Rattle.world_laws.proofs.Types.{Out, Packet, Peer}
use Rattle.geo_base.specs.Happening.{all_discarded}
use Rattle.geo_base.specs.Link.{Link, discarded, next_packet, no_link, sent_on, took, untaken}
use Rattle.geo_base.specs.Run.{untaken_of}
use Rattle.geo_base.specs.World.{Back, Forward, LinkName, Links, ToBroker, ToClient, cell, delivered, link_at, stamped, taken_from, with_cell, with_link}
use Rattle.world_laws.specs.AlikeWorlds.{IsSound, LinksAlike, waiting, waiting_on, without_stamp}
use Rattle.world_laws.proofs.Counters.Bounds.{link_set}
use Rattle.world_laws.proofs.KeptRuns.Starting.{made_or}

-- ---- one link

abbrev pub IsLinkSound : Link → Type 0
IsLinkSound l = l.taken ≤ length l.sent

sent_waits : (l : Link) (p : Packet) → IsLinkSound l → waiting (sent_on l p) ≡ waiting l ++ without_stamp p ∷ []
sent_waits l p sound = ap (λ (ps : List Packet). map without_stamp ps) (drop-append-le l.taken l.sent (p ∷ []) sound) ∙ map-append without_stamp (drop l.taken l.sent) (p ∷ [])

abbrev rest : List Packet → List Packet
rest [] = []
rest (p ∷ ps) = ps

drop_next : (n : ℕ) (ps : List Packet) → map without_stamp (drop (suc n) ps) ≡ rest (map without_stamp (drop n ps))
drop_next zero [] = refl
drop_next zero (p ∷ ps) = refl
drop_next (suc n) [] = refl
drop_next (suc n) (p ∷ ps) = drop_next n ps

took_waits : (l : Link) → waiting (took l) ≡ rest (waiting l)
took_waits l =
    let more : l.taken + 1 ≡ suc l.taken = omega arith in
    ap (λ (ps : List Packet). map without_stamp ps) (drop_min (l.taken + 1) l.sent ∙ ap (λ (n : ℕ). drop n l.sent) more) ∙ drop_next l.taken l.sent

none_waits : (l : Link) → waiting (discarded l) ≡ []
none_waits l = ap (λ (ps : List Packet). map without_stamp ps) (drop_all (length l.sent) l.sent (omega arith))

untaken_waits : (l : Link) → untaken l ≡ length (waiting l)
untaken_waits l = sym (length-map (drop l.taken l.sent) without_stamp ∙ length-drop l.taken l.sent)

abbrev first : List Packet → Option Packet
first [] = None
first (p ∷ ps) = Some p

first_waits : (n : ℕ) (ps : List Packet) → option_map without_stamp (slice_get ps n) ≡ first (map without_stamp (drop n ps))
first_waits zero [] = refl
first_waits zero (p ∷ ps) = refl
first_waits (suc n) [] = refl
first_waits (suc n) (p ∷ ps) = first_waits n ps

sent_sound : (l : Link) (p : Packet) → IsLinkSound l → IsLinkSound (sent_on l p)
sent_sound l p sound = let more = length-append l.sent (p ∷ []) in omega (arith, more, sound)

took_sound : (l : Link) → IsLinkSound (took l)
took_sound l = grind arith

-- ---- tables

pub get_map : {X Y : Type 0} (f : X → Y) (xs : List X) (i : ℕ) (d : X) → f (slice_index_or xs i d) ≡ slice_index_or (map f xs) i (f d)
get_map f [] i d = refl
get_map f (x ∷ xs) zero d = refl
get_map f (x ∷ xs) (suc i) d = get_map f xs i d

abbrev row_waits : List Link → List (List Packet)
row_waits ls = map waiting ls

abbrev pub Waits : Type 0
Waits = List (List (List Packet))

cell_waits : (m : List (List Link)) (i j : ℕ) → waiting (cell m i j) ≡ slice_index_or (slice_index_or (waiting_on m) i []) j []
cell_waits m i j = get_map waiting (slice_index_or m i []) j no_link ∙ ap (λ (r : List (List Packet)). slice_index_or r j []) (get_map row_waits m i [])

pub with_waits : (m : List (List Link)) (i j : ℕ) (l : Link)
    → waiting_on (with_cell m i j l) ≡ slice_set (waiting_on m) i (slice_set (slice_index_or (waiting_on m) i []) j (waiting l))
with_waits m i j l =
    map-set row_waits m i (slice_set (slice_index_or m i []) j l)
    ∙ ap (λ (r : List (List Packet)). slice_set (waiting_on m) i r)
    (map-set waiting (slice_index_or m i []) j l ∙ ap (λ (r : List (List Packet)). slice_set r j (waiting l)) (get_map row_waits m i []))

same_cell : (m n : List (List Link)) (i j : ℕ) → waiting_on m ≡ waiting_on n → waiting (cell m i j) ≡ waiting (cell n i j)
same_cell m n i j h = cell_waits m i j ∙ ap (λ (ws : Waits). slice_index_or (slice_index_or ws i []) j []) h ∙ sym (cell_waits n i j)

same_with : (m n : List (List Link)) (i j : ℕ) (k l : Link) → waiting_on m ≡ waiting_on n → waiting k ≡ waiting l → waiting_on (with_cell m i j k) ≡ waiting_on (with_cell n i j l)
same_with m n i j k l h same =
    with_waits m i j k
    ∙ ap (λ (ws : Waits). slice_set ws i (slice_set (slice_index_or ws i []) j (waiting k))) h
    ∙ ap (λ (ps : List Packet). slice_set (waiting_on n) i (slice_set (slice_index_or (waiting_on n) i []) j ps)) same
    ∙ sym (with_waits n i j l)

-- ---- all links

pub link_alike : (ks ls : Links) → LinksAlike ks ls → (k : LinkName) → waiting (link_at ks k) ≡ waiting (link_at ls k)
link_alike ks ls h (Forward n y) = same_cell ks.forward ls.forward n y h.forward
link_alike ks ls h (Back n y) = same_cell ks.back ls.back n y h.back
link_alike ks ls h (ToBroker c x) = same_cell ks.to_broker ls.to_broker c x h.to_broker
link_alike ks ls h (ToClient c x) = same_cell ks.to_client ls.to_client c x h.to_client

with_sound : (ls : Links) (k : LinkName) (l : Link) → IsLinkSound l → IsSound ls → IsSound (with_link ls k l)
with_sound ls k l sound all j = link_set IsLinkSound ls k j l sound (all j)

with_alike : (ks ls : Links) (k : LinkName) (a b : Link) → LinksAlike ks ls → waiting a ≡ waiting b → IsLinkSound a → IsLinkSound b → LinksAlike (with_link ks k a) (with_link ls k b)
with_alike ks ls (Forward n y) a b h same sa sb = record {
  forward = same_with ks.forward ls.forward n y a b h.forward same;
  back = h.back;
  to_broker = h.to_broker;
  to_client = h.to_client;
  left = with_sound ks (Forward n y) a sa h.left;
  right = with_sound ls (Forward n y) b sb h.right;
}
with_alike ks ls (Back n y) a b h same sa sb = record {
  forward = h.forward;
  back = same_with ks.back ls.back n y a b h.back same;
  to_broker = h.to_broker;
  to_client = h.to_client;
  left = with_sound ks (Back n y) a sa h.left;
  right = with_sound ls (Back n y) b sb h.right;
}
with_alike ks ls (ToBroker c x) a b h same sa sb = record {
  forward = h.forward;
  back = h.back;
  to_broker = same_with ks.to_broker ls.to_broker c x a b h.to_broker same;
  to_client = h.to_client;
  left = with_sound ks (ToBroker c x) a sa h.left;
  right = with_sound ls (ToBroker c x) b sb h.right;
}
with_alike ks ls (ToClient c x) a b h same sa sb = record {
  forward = h.forward;
  back = h.back;
  to_broker = h.to_broker;
  to_client = same_with ks.to_client ls.to_client c x a b h.to_client same;
  left = with_sound ks (ToClient c x) a sa h.left;
  right = with_sound ls (ToClient c x) b sb h.right;
}

-- what is sent, with whatever stamps
one_delivered : (ks ls : Links) (k : LinkName) (m n : ℕ) (o : Out) → LinksAlike ks ls
    → LinksAlike (with_link ks k (sent_on (link_at ks k) (stamped m o))) (with_link ls k (sent_on (link_at ls k) (stamped n o)))
one_delivered ks ls k m n o h =
    with_alike ks ls k (sent_on (link_at ks k) (stamped m o)) (sent_on (link_at ls k) (stamped n o)) h
    (sent_waits (link_at ks k) (stamped m o) (h.left k)
    ∙ ap (λ (ps : List Packet). ps ++ without_stamp (stamped m o) ∷ []) (link_alike ks ls h k)
    ∙ sym (sent_waits (link_at ls k) (stamped n o) (h.right k)))
    (sent_sound (link_at ks k) (stamped m o) (h.left k)) (sent_sound (link_at ls k) (stamped n o) (h.right k))

pub all_delivered : (to : Peer → LinkName) (m n : ℕ) (os : List Out) (ks ls : Links) → LinksAlike ks ls → LinksAlike (delivered to m os ks) (delivered to n os ls)
all_delivered to m n [] ks ls h = h
all_delivered to m n (o ∷ os) ks ls h = all_delivered to m n os _ _ (one_delivered ks ls (to o.to) m n o h)

-- what is taken
pub all_taken : (o : Option LinkName) (ks ls : Links) → LinksAlike ks ls → LinksAlike (taken_from o ks) (taken_from o ls)
all_taken None ks ls h = h
all_taken (Some k) ks ls h =
    with_alike ks ls k (took (link_at ks k)) (took (link_at ls k)) h (took_waits (link_at ks k) ∙ ap rest (link_alike ks ls h k) ∙ sym (took_waits (link_at ls k)))
    (took_sound (link_at ks k)) (took_sound (link_at ls k))

pub next_alike : (ks ls : Links) → LinksAlike ks ls → (k : LinkName) → option_map without_stamp (next_packet (link_at ks k)) ≡ option_map without_stamp (next_packet (link_at ls k))
next_alike ks ls h k =
    let a = link_at ks k in let b = link_at ls k in
    first_waits a.taken a.sent ∙ ap first (link_alike ks ls h k) ∙ sym (first_waits b.taken b.sent)

-- ---- a stop

-- nothing waits on any link of a table of this form
abbrev pub empty_form : Waits → Waits
empty_form ws = map (λ (r : List (List Packet)). map (λ (ps : List Packet). []) r) ws

row_empty : (ls : List Link) → row_waits (map discarded ls) ≡ map (λ (ps : List Packet). []) (row_waits ls)
row_empty [] = refl
row_empty (l ∷ ls) = rw (none_waits l, row_empty ls) refl

pub all_empty : (m : List (List Link)) → waiting_on (all_discarded m) ≡ empty_form (waiting_on m)
all_empty [] = refl
all_empty (ls ∷ m) = rw (row_empty ls, all_empty m) refl

stopped_cell : (m : List (List Link)) (i j : ℕ) → IsLinkSound (cell (all_discarded m) i j)
stopped_cell m i j =
    let Sound : Link → Type 0 = λ l. l.taken ≤ length l.sent in
    made_or (λ (r : List Link). Sound (slice_index_or r j no_link)) (λ (ls : List Link). map discarded ls) [] (λ r. made_or Sound discarded no_link (λ l. omega arith) (omega arith) r j)
    (omega arith) m i

abbrev pub after_stop : Links → Links
after_stop ls = record {
  forward = all_discarded ls.forward;
  back = all_discarded ls.back;
  to_broker = all_discarded ls.to_broker;
  to_client = all_discarded ls.to_client;
}

pub stopped_sound : (ls : Links) → IsSound (after_stop ls)
stopped_sound ls (Forward n y) = stopped_cell ls.forward n y
stopped_sound ls (Back n y) = stopped_cell ls.back n y
stopped_sound ls (ToBroker c x) = stopped_cell ls.to_broker c x
stopped_sound ls (ToClient c x) = stopped_cell ls.to_client c x

same_stopped : (m n : List (List Link)) → waiting_on m ≡ waiting_on n → waiting_on (all_discarded m) ≡ waiting_on (all_discarded n)
same_stopped m n h = all_empty m ∙ ap empty_form h ∙ sym (all_empty n)

pub stopped_alike : (ks ls : Links) → LinksAlike ks ls → LinksAlike (after_stop ks) (after_stop ls)
stopped_alike ks ls h = record {
  forward = same_stopped ks.forward ls.forward h.forward;
  back = same_stopped ks.back ls.back h.back;
  to_broker = same_stopped ks.to_broker ls.to_broker h.to_broker;
  to_client = same_stopped ks.to_client ls.to_client h.to_client;
  left = stopped_sound ks;
  right = stopped_sound ls;
}

-- ---- how much waits

row_untaken : (ls : List Link) → map untaken ls ≡ map length (row_waits ls)
row_untaken [] = refl
row_untaken (l ∷ ls) = rw (untaken_waits l, row_untaken ls) refl

abbrev row_count : List (List Packet) → ℕ
row_count r = sum (map length r)

rows_untaken : (m : List (List Link)) → map (λ (ls : List Link). sum (map untaken ls)) m ≡ map row_count (waiting_on m)
rows_untaken [] = refl
rows_untaken (ls ∷ m) = rw (row_untaken ls, rows_untaken m) refl

pub same_untaken : (m n : List (List Link)) → waiting_on m ≡ waiting_on n → untaken_of m ≡ untaken_of n
same_untaken m n h = ap sum (rows_untaken m) ∙ ap (λ (ws : Waits). sum (map row_count ws)) h ∙ sym (ap sum (rows_untaken n))
