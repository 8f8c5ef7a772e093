use Rattle.std.proofs.Common.{◌+◌, ◌≡◌, ◌∙◌, length, drop, take, ap, min, arith, length-drop, length-take, ◌-◌}
use Rattle.std.proofs.lemmas.List.{drop_all, take_rest}
use Rattle.geo_io.proofs.Parts.{drop_copied}
use Rattle.geo_io.proofs.mem_source.MemSourceSource.read.Goals as goal

pub returns-clause-bytes : goal.returns-clause-bytes
returns-clause-bytes c =
    let items = c.self.inside.bytes.items in
    let taken = c.self.inside.taken in
    let n = c.copy_front-n.result in
    let whole : take (length c.deref.result.now - taken) (drop taken c.deref.result.now) ≡ drop taken items =
    take_rest c.deref.result.now taken ∙ ap (λ l. drop taken l) c.deref.ensures.value in
    let copied : take n c.copy_front-n.new.to ≡ take n (take c.min.result (drop taken items)) =
    c.copy_front-n.ensures.copied ∙ ap (λ l. take n (take c.min.result l)) whole in
    let left : length (take (length c.deref.result.now - taken) (drop taken c.deref.result.now)) ≡ length items - taken =
    ap length whole ∙ length-drop taken items in
    let part : length (take c.min.result (take (length c.deref.result.now - taken) (drop taken c.deref.result.now))) ≡ min c.min.result (length items - taken) =
    length-take c.min.result _ ∙ ap (λ k. min c.min.result k) left in
    rw (← c.self.view_is) (
      drop_copied items c.copy_front-n.new.to taken n c.min.result (omega (arith, c.copy_front-n.ensures.count, part)) copied,
      λ none room. drop_all (taken + n) items (omega (arith, c.copy_front-n.ensures.count, part, left, c.min.ensures, c.copy_front-n.auto.to, c.self.invariant.1)),
    )

pub returns-clause-given : goal.returns-clause-given
returns-clause-given c = (returns-clause-bytes c).0
