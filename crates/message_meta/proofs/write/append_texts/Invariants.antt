use Rattle.std.proofs.Common.{◌≡◌, ◌++◌, map, take}
use Rattle.std.specs.Prelude.{IsUtf8}
use Rattle.std.specs.List.{AllByRecursion}
use Rattle.pb_fields.specs.Field.{IsField, bytes_field}
use Rattle.pb_fields.specs.Canonical.{text}
use Rattle.message_meta.proofs.write.append_texts.Given as goal

abbrev pub invariant-loop-content : goal.invariant-loop-content
invariant-loop-content l = record {
  so_far : l.out ≡ l.fn.out ++ text (map (bytes_field l.number) (take l.content-index l.contents));
  fields : AllByRecursion IsField (map (bytes_field l.number) (take l.content-index l.contents));
  utf8 : AllByRecursion IsUtf8 (take l.content-index l.contents);
}
