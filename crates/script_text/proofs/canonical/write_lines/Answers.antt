use Rattle.std.proofs.Common.{◌≡◌, ℕ, ◌+◌, List, [], ◌∷◌, ◌++◌, codes, drop, arith, sym, ap, ◌∙◌}
use Rattle.std.proofs.lemmas.List.{drop_more}
use Rattle.geo_base.specs.declared.client.Line.{Line}
use Rattle.script_rows.specs.NameWords.{Word}
use Rattle.script_text.specs.Canonical.{line_words, lines_text, pushed}
use Rattle.script_text.proofs.Written.{line_then}
use Rattle.script_text.proofs.canonical.write_lines.Goals as goal

pub loop-line-preserved : goal.loop-line-preserved
loop-line-preserved c =
    let at = c.loop-line in
    let clusters = c.args.clusters.now in
    let d = c.args.client.now in
    let l : Line = c.line-item.result in
    let i = at.line-index in
    let items = c.lines-line-items.result.now in
    let begun : c.append.new.self ≡ at.out ++ codes "do" = c.in_ok-append.ensures.ok in
    let named : c.push_word.new.out ≡ (at.out ++ codes "do") ++ 32 ∷ d.name = c.in_ok-push_word.ensures ∙ (ap (λ (t : List ℕ). t ++ 32 ∷ c.as_bytes.result.now) begun ∙ ap (λ (w : Word). (at.out ++ codes "do") ++ 32 ∷ w) (c.as_bytes.ensures ∙ c.name.ensures.name)) in
    let said : c.push_line.new.out ≡ pushed ((at.out ++ codes "do") ++ 32 ∷ d.name) (line_words clusters l) = c.in_ok-push_line.ensures ∙ ap (λ (t : List ℕ). pushed t (line_words clusters l)) named in
    let ended : c.append-in-loop-line.new.self ≡ pushed ((at.out ++ codes "do") ++ 32 ∷ d.name) (line_words clusters l) ++ 10 ∷ [] = c.in_ok-append-2.ensures.ok ∙ ap (λ (t : List ℕ). t ++ 10 ∷ []) said in
    let lines : items ≡ d.lines = c.lines-line-items.ensures in
    let dropped : drop i items ≡ l ∷ drop (i + 1) items = drop_more items i l (omega (arith, c.loop-line-test.true)) ∙ ap (λ (m : Line). m ∷ drop (i + 1) items) (sym c.line-item.is) in
    let left : drop i d.lines ≡ l ∷ drop (i + 1) d.lines = ap (λ (ls : List Line). drop i ls) (sym lines) ∙ (dropped ∙ ap (λ (ls : List Line). l ∷ drop (i + 1) ls) lines) in
    ap (λ (t : List ℕ). t ++ lines_text clusters d.name (drop (i + 1) d.lines)) ended ∙ (line_then at.out clusters d.name l (drop (i + 1) d.lines) ∙ (ap (λ (ls : List Line). at.out ++ lines_text clusters d.name ls) (sym left) ∙ at.invariant))
