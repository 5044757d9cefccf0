use Rattle.mapped_model.specs.NamesOfImages.{names_in}
use Rattle.mapped_model.proofs.NamesFound.{words-used}
use Rattle.mapped_model.proofs.NamesOfImagesHold.{uses-names, all-inherited}
use Rattle.mapped_model.proofs.MatchedByMaps.{matched-mapped}
use Rattle.mapped_model.proofs.laws.law_matched_images.Goals as goal

pub returns-clause-names : goal.returns-clause-names
returns-clause-names g = λ i. uses-names i

pub returns-clause-words : goal.returns-clause-words
returns-clause-words g = λ i. words-used i

pub returns-clause-inherited : goal.returns-clause-inherited
returns-clause-inherited g = λ f i ordered calls. all-inherited i ordered f calls

pub returns-clause-matched : goal.returns-clause-matched
returns-clause-matched g = λ r f i j classes selectors ordered single keeps calls e.
    matched-mapped r f (names_in i) i j classes selectors single (words-used i) keeps (uses-names i) (all-inherited i ordered f calls) e
