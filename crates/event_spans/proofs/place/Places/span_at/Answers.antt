-- The node found through the places is the node of the tree.
use Rattle.std.proofs.Common.{◌≡◌, List, None, ap, ◌∙◌}
use Rattle.std.specs.Prelude.{option_map}
use Rattle.event_spans.specs.declared.place.Place.{Place}
use Rattle.event_spans.specs.Descent.{descend}
use Rattle.event_spans.proofs.Told.{place_span, span_told}
use Rattle.event_spans.proofs.place.Places.span_at.Goals as goal

pub returns-in-Some : goal.returns-in-Some
returns-in-Some c = λ s e.
    let path : c.as_slice-2.result.now ≡ c.args.path.now = c.as_slice-2.ensures in
    let places : c.as_slice.result.now ≡ c.args.self.now = cc in
    ap (option_map place_span) (c.in-Some.ensures ∙ ap (descend None c.as_slice.result.now) path ∙ ap (λ (ps : List Place). descend None ps c.args.path.now) places)
    ∙ span_told s c.args.self.now c.args.path.now e

pub returns-in-None : goal.returns-in-None
returns-in-None c = λ s e.
    let path : c.as_slice-2.result.now ≡ c.args.path.now = c.as_slice-2.ensures in
    let places : c.as_slice.result.now ≡ c.args.self.now = cc in
    ap (option_map place_span) (c.in-None.ensures ∙ ap (descend None c.as_slice.result.now) path ∙ ap (λ (ps : List Place). descend None ps c.args.path.now) places)
    ∙ span_told s c.args.self.now c.args.path.now e
