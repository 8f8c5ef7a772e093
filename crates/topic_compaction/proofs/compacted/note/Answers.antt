use Rattle.std.proofs.Common.{rules, ◌≡◌, ◌∷◌, [], ◌++◌, List, ap, sym, ◌∙◌}
use Rattle.std.specs.Option.{option_or}
use Rattle.std.specs.Prelude.{string_eq}
use Rattle.indexmap.specs.IndexMap.{insert_entry}
use Rattle.topic_compaction.specs.Last.{index_in, Row}
use Rattle.topic_compaction.proofs.Noted.{moved}
use Rattle.topic_compaction.proofs.compacted.note.Goals as goal

pub loop-key-preserved : goal.loop-key-preserved
loop-key-preserved c =
    let popped : c.loop-key.rows.items ≡ c.pop.new.self.items ++ (c.in-Some.key, c.in-Some.index) ∷ [] = search rules in
    let put : c.insert.new.self.entries ≡ insert_entry string_eq c.loop-key.last.entries c.in-Some.key c.in-Some.index = search rules in
    record {
      room = search rules;
      noted = λ k. ap (λ (es : List Row). option_or (index_in k c.pop.new.self.items) (index_in k es)) put
          ∙ moved k c.pop.new.self.items c.loop-key.last.entries c.in-Some.key c.in-Some.index _
          (ap (λ (rs : List Row). option_or (index_in k rs) (index_in k c.loop-key.last.entries)) (sym popped) ∙ c.loop-key.invariant.noted k);
    }
