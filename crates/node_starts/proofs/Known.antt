-- What a client of a script knows.
use Rattle.std.proofs.Common.{◌≡◌, ℕ, ◌<◌, ◌≤◌, true, List, length}
use Rattle.std.specs.List.{list_all}
use Rattle.client.proofs.Short.{declared_short}
use Rattle.client.specs.Site.{is_short_line}
use Rattle.geo_base.specs.declared.client.Line.{Line}
use Rattle.geo_base.specs.Name.{is_name}
use Rattle.geo_base.specs.Scripted.{IsScripted, is_declared}
use Rattle.geo_base.specs.Setup.{Declared, Setup, declared_at, nobody}
use Rattle.world_laws.proofs.Merges.ClientRoams.{all_index}

pub lines_short : (s : Setup) (c : ℕ) → IsScripted s → c < length s.clients → list_all is_short_line (declared_at s c).lines ≡ true
lines_short s c scripted lt = declared_short s (declared_at s c) (all_index (is_declared s) s.clients c nobody scripted.clients.0 lt)

pub short_lines : (d : Declared) (ls : List Line) → list_all is_short_line d.lines ≡ true → ls ≡ d.lines → list_all is_short_line ls ≡ true
short_lines d ls short is = rw is short

pub few_clusters : (s : Setup) → IsScripted s → length s.clusters ≤ 8
few_clusters s scripted = scripted.clusters.1

pub names_are : (s : Setup) → IsScripted s → list_all is_name s.clusters ≡ true
names_are s scripted = scripted.cluster_names.0
