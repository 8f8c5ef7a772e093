-- The words of a trace's lines: what each says, where it has its form (own).
use Rattle.std.specs.Prelude.{ℕ, ◌-◌, ◌^◌, nat_lt, nat_le, Bool, true, false, ◌&&◌, if◌then◌else◌, List, [], ◌∷◌, length, Option, Some, None, codes}
use Rattle.std.specs.List.{join_with_byte, list_all}
use Rattle.std.specs.Str.{bytes_eq}
use Rattle.geo_base.specs.declared.entry.Targets.{Targets}
use Rattle.geo_base.specs.declared.entry.Targets.TheVariants as targets
use Rattle.geo_base.specs.declared.marker.ClusterPosition.{ClusterPosition}
use Rattle.geo_base.specs.declared.marker.ClusterRef.{ClusterRef}
use Rattle.geo_base.specs.declared.marker.ClusterRef.TheVariants as cluster_ref
use Rattle.geo_base.specs.declared.position.Position.{Position}
use Rattle.geo_base.specs.Name.{is_name}
use Rattle.script_rows.specs.NameBytes.{is_among, mask_of, names_in, number_in}
use Rattle.script_rows.specs.Numbers.{number_of}
use Rattle.script_rows.specs.NameWords.{Word, cut_by, given, listed}
use Rattle.script_rows.specs.Columns.{pair_of}
use Rattle.script_rows.specs.Words.{◌>>=◌}

-- a number of 64 bits
abbrev pub number : Word → Option ℕ
number w = number_of (2 ^ 64 - 1) w

-- L:E
abbrev pub position_of : Word → Option Position
position_of w = pair_of (cut_by 58 w)

-- the number of a name that is declared
abbrev pub declared : List Word → Word → Option ℕ
declared names w = if is_among names w then Some (number_in names w) else None

-- the name of a subscription
abbrev pub sub_of : Word → Option Word
sub_of w = given (is_name w) w

-- a byte that a terminal shows as itself
abbrev pub is_printable : ℕ → Bool
is_printable b = nat_le 32 b && nat_le b 126

-- a text: one byte at least, each one printable
abbrev pub is_text : Word → Bool
is_text w = nat_lt 0 (length w) && list_all is_printable w

abbrev pub text_of : Word → Option Word
text_of w = given (is_text w) w

-- - for none, or a text
abbrev pub key_of : Word → Option (Option Word)
key_of w = if bytes_eq w (codes "-") then Some None else do
  k ← text_of w
  Some (Some k)

-- the number of a cluster, or a name that no cluster has
abbrev pub named_cluster_ref : List Word → Word → ClusterRef
named_cluster_ref clusters w = if is_among clusters w then cluster_ref.Known (number_in clusters w) else cluster_ref.Stranger w

abbrev pub place_of : List Word → Word → Option ClusterRef
place_of clusters w = given (is_text w) (named_cluster_ref clusters w)

-- CLUSTER=L:E
abbrev pub pair_in : List Word → List Word → Option ClusterPosition
pair_in clusters (c ∷ p ∷ []) = do
  cluster ← place_of clusters c
  position ← position_of p
  Some (record { cluster = cluster; position = position })
pair_in clusters ws = None

abbrev pub cluster_position_of : List Word → Word → Option ClusterPosition
cluster_position_of clusters w = pair_in clusters (cut_by 61 w)

-- *, which is all clusters; ?, which is none; or names of clusters in their order, with commas
abbrev pub is_list : List Word → Word → Bool
is_list clusters w = nat_lt 0 (length w) && bytes_eq w (join_with_byte 44 (names_in clusters (mask_of clusters (listed w))))

abbrev pub targets_of : List Word → Word → Option Targets
targets_of clusters w =
    if bytes_eq w (codes "*") then Some targets.All
    else if bytes_eq w (codes "?") then Some (targets.Only 0)
    else given (is_list clusters w) (targets.Only (mask_of clusters (listed w)))

-- whether a creation is at Latest
abbrev pub start_of : Word → Option Bool
start_of w = if bytes_eq w (codes "latest") then Some true else if bytes_eq w (codes "earliest") then Some false else None
