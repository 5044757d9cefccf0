use Rattle.std.proofs.Common.{◌≡◌, ◌++◌, ◌∙◌, ap, sym, not}
use Rattle.std.proofs.lemmas.Result.{on_ok_weaker}
use Rattle.chunk_format.proofs.Sources.{doubled-not_found}
use Rattle.chunk_format.proofs.source.write_chunk.Goals as goal

pub returns-then-is_none-clause-ok : goal.returns-then-is_none-clause-ok
returns-then-is_none-clause-ok c =
    let plain = doubled-not_found c.args.source.now c.memchr.result c.memchr.ensures (c.is_none.ensures ∙ ap not c.if-is_none.true) in
    on_ok_weaker _ (λ (e : c.push_slice.new.self ≡ c.args.out.now ++ c.args.source.now). e ∙ ap (λ s. c.args.out.now ++ s) (sym plain)) c.push_slice.ensures.ok
