-- A message: an entry that is no marker, and that no broker refuses for its size.
use Rattle.std.specs.Prelude.{◌+◌, nat_le, Bool, ◌&&◌, length}
use Rattle.geo_base.specs.declared.entry.Entry.{Entry}
use Rattle.geo_base.specs.Entry.{is_data}
use Rattle.geo_base.specs.Sizes.{metadata_size, most_entry_size}

-- its size is the same for all names of clusters, which only a marker's payload names
unfoldable pub is_message : Entry → Bool
is_message e = is_data e.content && nat_le (metadata_size e + length e.payload) most_entry_size
