use Rattle.std.proofs.Common.{◌∙◌, ap}
use Rattle.st_events.specs.Starts.{sequence_of}
use Rattle.st_events.proofs.WholeEvents.{law_DoIt}
use Rattle.st_events.proofs.events.doit_events.Goals as goal

pub returns-in-Some-clause-found : goal.returns-in-Some-clause-found
returns-in-Some-clause-found c = λ ts s lexed d.
    let found = rw c.in-Some.is at c.in_ok-reader.ensures.found in
    c.found_sequence.ensures ∙ ap sequence_of (found ts lexed) ∙ law_DoIt ts s d
