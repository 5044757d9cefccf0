use Rattle.std.proofs.lemmas.Result.{IfOk-weaker}
use Rattle.std.proofs.Common.{None, Some}
use Rattle.image_queries.specs.Asked.{query_of}
use Rattle.image_queries.proofs.Wholes.{methods_told}
use Rattle.image_queries.proofs.answers.asked_methods.Goals as goal

pub returns-in-None : goal.returns-in-None
returns-in-None c =
    methods_told c.args.image.now c.requires.orderly (query_of c.args.query.now) c.requires.known None c.new.result c.in-None.ensures c.new.ensures

pub returns-in-Some : goal.returns-in-Some
returns-in-Some c =
    IfOk-weaker c.implementor_lines.result _ _
    (λ text lines. methods_told c.args.image.now c.requires.orderly (query_of c.args.query.now) c.requires.known (Some c.in-Some.selector) text c.in-Some.ensures lines)
    c.implementor_lines.ensures
