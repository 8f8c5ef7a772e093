use Rattle.std.proofs.Common.{◌≡◌, ℕ, List, [], ◌++◌, drop, subst, sym, ap, ◌∙◌}
use Rattle.std.proofs.lemmas.List.{append-nil}
use Rattle.pulsar_frames.specs.Streams.{IsStream, Reading, reads}
use Rattle.pulsar_frames.proofs.reader.FrameReader.read_rest.Goals as goal

pub returns-clause-ok : goal.returns-clause-ok
returns-clause-ok c =
    let rest : c.self.inside.rest.items ≡ c.args.self.now.rest = ap (λ (r : Reading). r.rest) c.self.view_is in
    let bytes : c.as_slice.result.now ≡ c.args.self.now.rest ++ [] = c.as_slice.ensures ∙ rest ∙ sym (append-nil c.args.self.now.rest) in
    let left : drop c.in_ok-parsed.parsed.used c.as_slice.result.now ≡ c.advance.new.self.items = ap (λ (s : List ℕ). drop c.in_ok-parsed.parsed.used s) c.as_slice.ensures ∙ sym c.advance.ensures.items in
    reads c.in_ok-parsed.parsed.frames c.requires
    (subst (λ (s : List ℕ). IsStream s c.in_ok-parsed.parsed.frames c.advance.new.self.items c.in_ok-parsed.parsed.fault) bytes
    (subst (λ (s : List ℕ). IsStream c.as_slice.result.now c.in_ok-parsed.parsed.frames s c.in_ok-parsed.parsed.fault) left c.in_ok-parsed.ensures.stream))
    (c.in_ok-append.ensures.ok ∙ ap (λ (r : Reading). r.waiting ++ c.in_ok-parsed.parsed.frames) c.self.view_is)
