use Rattle.mapped_model.specs.NamesOfImages.{names_in}
use Rattle.mapped_model.proofs.NamesFound.{words-used}
use Rattle.mapped_model.proofs.NamesOfImagesHold.{uses-names, all-inherited}
use Rattle.mapped_model.proofs.MatchedByMaps.{matched-mapped}
use Rattle.mapped_model.proofs.ChangedImageLemmas.{image-changed}
use Rattle.mapped_model.proofs.laws.law_changed_images.Goals as goal

pub returns-clause-resolved : goal.returns-clause-resolved
returns-clause-resolved g = λ f i j h. image-changed f i j h

pub returns-clause-matched : goal.returns-clause-matched
returns-clause-matched g = λ r f i j classes selectors ordered single keeps calls h.
    matched-mapped r f (names_in i) i j classes selectors single (words-used i) keeps (uses-names i) (all-inherited i ordered f calls) (image-changed f i j h)
