-- What `lost` prints of a world (own), line by line; docs/LOST.md says what each line means. Numbers come first, the messages that they
-- count after them, each by its identity in a line that begins with two spaces.
use Rattle.std.specs.Prelude.{ℕ, ◌+◌, ◌==◌, Bool, if◌then◌else◌, List, [], ◌∷◌, ◌++◌, length, map, slice_index_or, codes, decimal}
use Rattle.geo_base.specs.declared.entry.Entry.{Entry}
use Rattle.geo_base.specs.Broker.{Broker}
use Rattle.geo_base.specs.Report.{shown_ident, with_line_feeds, words}
use Rattle.geo_base.specs.Setup.{Setup}
use Rattle.geo_base.specs.Subscription.{Subscription}
use Rattle.geo_base.specs.World.{World, topic_at}
use Rattle.loss_laws.specs.Lost.{again, alone, asked, backlog_at, differ, lost, making, missing, untold}

-- ---- lines of all kinds

-- what is counted, and the number
abbrev pub number_line : List ℕ → ℕ → List ℕ
number_line label n = label ++ (32 ∷ decimal n)

-- a message's identity: its origin, its producer, its sequence id
abbrev pub name_line : List (List ℕ) → Entry → List ℕ
name_line clusters e = 32 ∷ 32 ∷ words (shown_ident clusters e.ident)

abbrev pub name_lines : Bool → List (List ℕ) → List Entry → List (List ℕ)
name_lines names clusters es = if names then map (name_line clusters) es else []

-- their number, and their names, unless numbers alone are wanted
abbrev pub named_lines : Bool → List (List ℕ) → List ℕ → List Entry → List (List ℕ)
named_lines names clusters label es = number_line label (length es) ∷ name_lines names clusters es

-- those of each of some items, i being the number of the first one
abbrev pub lines_of_each : {X : Type 0} → (ℕ → X → List (List ℕ)) → ℕ → List X → List (List ℕ)
lines_of_each f i [] = []
lines_of_each f i (x ∷ xs) = f i x ++ lines_of_each f (i + 1) xs

-- ---- of a topic whose broker at x, the cluster that goes, is b

-- of each subscription that is replicated there
abbrev pub untold_lines : ℕ → Broker → ℕ → Subscription → List (List ℕ)
untold_lines x b place v = if v.replicated then number_line (words (codes "untold" ∷ codes "sub" ∷ v.name ∷ [])) (untold x b v) ∷ [] else []

-- at another cluster y, whose name is n and whose broker is c: what is missing there, and of each subscription what would come again
abbrev pub missing_label : List ℕ → List ℕ
missing_label n = words (codes "missing" ∷ codes "at" ∷ n ∷ [])

abbrev pub again_label : List ℕ → List ℕ → List ℕ
again_label sub n = words (codes "again" ∷ codes "sub" ∷ sub ∷ codes "at" ∷ n ∷ [])

abbrev pub backlog_label : List ℕ → List ℕ → List ℕ
backlog_label sub n = words (codes "backlog" ∷ codes "sub" ∷ sub ∷ codes "at" ∷ n ∷ [])

abbrev pub sub_lines : Bool → List (List ℕ) → Broker → Broker → List ℕ → ℕ → Subscription → List (List ℕ)
sub_lines names clusters b c n place v =
    if v.replicated
    then named_lines names clusters (again_label v.name n) (again b v c) ++ number_line (backlog_label v.name n) (backlog_at c v.name) ∷ []
    else []

abbrev pub lines_at : Bool → List (List ℕ) → ℕ → ℕ → Broker → Broker → List ℕ → List (List ℕ)
lines_at names clusters x y b c n =
    named_lines names clusters (missing_label n) (missing x y b c) ++ lines_of_each (sub_lines names clusters b c n) 0 b.subs

abbrev pub other_lines : Bool → Setup → World → ℕ → ℕ → ℕ → List ℕ → List (List ℕ)
other_lines names s w t x y n = if x == y then [] else lines_at names s.clusters x y (topic_at s w t x) (topic_at s w t y) n

-- if x never comes back
abbrev pub end_lines : Bool → Setup → World → ℕ → ℕ → List (List ℕ)
end_lines names s w t x =
    named_lines names s.clusters (codes "lost") (lost s w t x)
    ++ (named_lines names s.clusters (codes "alone") (alone s w t x) ++ named_lines names s.clusters (codes "differ") (differ s w t x))

-- ---- of topic t, whose name is topic

abbrev pub number_of_bool : Bool → ℕ
number_of_bool b = if b then 1 else 0

-- which cluster goes, and of which topic the lines are
abbrev pub lost_head : Setup → ℕ → List ℕ → List ℕ
lost_head s x topic = words (codes "lost" ∷ slice_index_or s.clusters x [] ∷ codes "topic" ∷ topic ∷ [])

-- what x's own topic shows, and whether its broker makes a snapshot
abbrev pub own_lines : ℕ → Broker → List (List ℕ)
own_lines x b =
    number_line (codes "asked") (number_of_bool (asked x b))
    ∷ number_line (codes "making") (number_of_bool (making b))
    ∷ lines_of_each (untold_lines x b) 0 b.subs

abbrev pub topic_lines : Bool → Setup → World → ℕ → ℕ → List ℕ → List (List ℕ)
topic_lines names s w x t topic =
    lost_head s x topic ∷ own_lines x (topic_at s w t x) ++ (lines_of_each (other_lines names s w t x) 0 s.clusters ++ end_lines names s w t x)

-- ---- all of them, with the names or without

abbrev pub lost_lines : Bool → Setup → World → ℕ → List (List ℕ)
lost_lines names s w x = lines_of_each (topic_lines names s w x) 0 s.topics

-- their bytes
abbrev pub lost_text : Bool → Setup → World → ℕ → List ℕ
lost_text names s w x = with_line_feeds (lost_lines names s w x)
