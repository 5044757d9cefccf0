use Rattle.std.proofs.Common.{slice_get}
use Rattle.std.proofs.lemmas.Result.{IfOk-weaker}
use Rattle.image_search.proofs.Records.{doit_told}
use Rattle.image_search.proofs.parts.number_lines.Goals as goal

pub returns-in-Some-Some : goal.returns-in-Some-Some
returns-in-Some-Some g c =
    let s = c.args.image.now in
    IfOk-weaker c.body_lines.result _ _
    (λ text lines. doit_told s c.args.pattern.now text c.args.number (slice_get s.doits c.args.number) c.in-Some-Some.source.now c.in-Some-Some.body.now c.in-Some-Some.ensures c.in-Some-Some.ensures'.body lines)
    c.body_lines.ensures
