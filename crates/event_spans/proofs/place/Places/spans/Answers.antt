-- The nodes walked by are those of the tree.
use Rattle.std.proofs.Common.{◌≡◌, List, [], ap, ◌∙◌}
use Rattle.event_spans.specs.declared.place.Place.{Place}
use Rattle.event_spans.specs.Walk.{walked, listed}
use Rattle.event_spans.proofs.Told.{spans_told}
use Rattle.event_spans.proofs.place.Places.spans.Goals as goal

pub returns : goal.returns
returns c = λ s e.
    let places : c.as_slice.result.now ≡ c.args.self.now = cc in
    c.in_ok-listed.ensures ∙ ap (λ (ps : List Place). listed (walked [] ps)) places ∙ spans_told s c.args.self.now e
