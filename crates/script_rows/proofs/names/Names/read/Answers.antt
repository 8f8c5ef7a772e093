use Rattle.std.proofs.Common.{◌≡◌, find, sym, ap, ◌∙◌}
use Rattle.script_rows.specs.declared.heading.Heading.{Heading}
use Rattle.script_rows.specs.declared.heading.Heading.TheVariants as heading
use Rattle.script_rows.specs.Judging.{cells_break, heading_breaks, kind_breaks, word_rules}
use Rattle.script_rows.specs.Names.{nothing_seen}
use Rattle.script_rows.specs.Reading.{lower}
use Rattle.script_rows.specs.Rows.{columns_of}
use Rattle.script_rows.proofs.Lowers.{lowest_of_either}
use Rattle.script_rows.proofs.names.Names.read.Goals as goal

pub returns-in-Headed-clause-broken : goal.returns-in-Headed-clause-broken
returns-in-Headed-clause-broken c =
    let p = c.args.progress in
    let n = c.args.self.now in
    let k = c.in-Headed.kind in
    let ws = c.in-Headed.cells in
    let both : lower c.broken.result c.read_cells-broken.result ≡ find (heading_breaks p n (heading.Headed k ws)) word_rules = rw (c.broken.ensures, c.read_cells-broken.ensures.broken, c.of.ensures, c.copied.ensures) (sym (lowest_of_either (kind_breaks p k) (λ r. cells_break n r nothing_seen (columns_of k) ws))) in
    c.lower.ensures ∙ (both ∙ ap (λ (h : Heading). find (heading_breaks p n h) word_rules) (sym c.in-Headed.is))
