use Rattle.std.proofs.Common.{refl}
use Rattle.law_examples.specs.UnfoldedExamples.{example_before, example_after}
use Rattle.law_examples.proofs.ExampleInlined.{example-inlined}
use Rattle.law_examples.proofs.places.law_example_inlined.Goals as goal

pub returns-clause-inlined : goal.returns-clause-inlined
returns-clause-inlined g = example-inlined

pub returns-clause-unfolds : goal.returns-clause-unfolds
returns-clause-unfolds g = (g.law_inlined_once.ensures example_before example_after (refl, (refl, tt)) example-inlined).0
