use Rattle.std.proofs.Common.{refl}
use Rattle.law_examples.specs.UnfoldedExamples.{example_plain, example_accessed}
use Rattle.law_examples.proofs.ExampleAccessed.{accessors_gone, example-accessed}
use Rattle.law_examples.proofs.places.law_example_accessed.Goals as goal

pub returns : goal.returns
returns g =
    let m = g.law_inlined_values.ensures.matched example_accessed example_plain accessors_gone (refl, (refl, tt)) example-accessed in
    (g.law_inlined_values.ensures.unfolds example_accessed example_plain accessors_gone (refl, (refl, tt)) example-accessed, m.1, m.0)
