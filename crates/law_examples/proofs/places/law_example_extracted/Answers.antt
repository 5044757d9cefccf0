use Rattle.std.proofs.Common.{refl}
use Rattle.law_examples.specs.UnfoldedExamples.{example_whole, example_extracted}
use Rattle.law_examples.proofs.ExampleExtracted.{example-extracted}
use Rattle.law_examples.proofs.places.law_example_extracted.Goals as goal

pub returns-clause-extracted : goal.returns-clause-extracted
returns-clause-extracted g = example-extracted

pub returns-clause-unfolds : goal.returns-clause-unfolds
returns-clause-unfolds g = (g.law_extracted_once.ensures example_whole example_extracted (refl, (refl, tt)) example-extracted).0
