use Rattle.std.proofs.Common.{◌∙◌, sym, ap, ◌++◌, ◌≡◌}
use Rattle.std.proofs.lemmas.Result.{on_ok_weaker}
use Rattle.chunk_format.specs.Blank.{drop_blanks}
use Rattle.chunk_format.proofs.Blanks.{IsPaired-drop_blanks}
use Rattle.chunk_format.proofs.Sources.{IsSource-plain}
use Rattle.chunk_format.proofs.source.source_of.Goals as goal

pub halve_marks-requires : goal.halve_marks-requires
halve_marks-requires c = rw c.without_blanks-paired.ensures (IsPaired-drop_blanks _ c.requires.paired)

pub returns-then-not-chunk-clause-ok : goal.returns-then-not-chunk-clause-ok
returns-then-not-chunk-clause-ok c =
    let body = c.args.chunk.now.body.now in
    on_ok_weaker _ (λ (e : c.push_slice.new.self ≡ c.args.out.now ++ c.without_blanks-paired.result.now). (drop_blanks body, IsSource-plain body (sym c.requires.doubled ∙ c.if-not-chunk.true), e ∙ ap (λ s. c.args.out.now ++ s) c.without_blanks-paired.ensures)) c.push_slice.ensures.ok
