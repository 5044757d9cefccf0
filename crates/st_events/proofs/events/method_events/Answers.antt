use Rattle.std.proofs.Common.{◌∙◌, ap}
use Rattle.st_events.specs.Starts.{method_of}
use Rattle.st_events.proofs.WholeEvents.{law_Method}
use Rattle.st_events.proofs.events.method_events.Goals as goal

pub returns-in-Some-clause-found : goal.returns-in-Some-clause-found
returns-in-Some-clause-found c = λ ts m lexed d.
    let found = rw c.in-Some.is at c.in_ok-reader.ensures.found in
    c.found_method.ensures ∙ ap method_of (found ts lexed) ∙ law_Method c.args.kernel ts m d
