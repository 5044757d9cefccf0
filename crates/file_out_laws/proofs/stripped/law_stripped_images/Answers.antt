use Rattle.image_model.specs.Image.{DoItOf, ImageOf, plus}
use Rattle.run_model.specs.Values.{Name}
use Rattle.mapped_model.specs.NamesOfImages.{HasOrderedClasses}
use Rattle.file_model.specs.Fileable.{reading_of}
use Rattle.strip_laws.proofs.ValidAfter.{strip-valid, strip-fileable}
use Rattle.file_out_laws.proofs.stripped.law_stripped_images.Goals as goal

-- a further do-it does not change the classes
further : (i : ImageOf Name) (e : DoItOf Name) → HasOrderedClasses i → HasOrderedClasses (plus i e)
further i e h = record { named = h.named; distinct = h.distinct; before = h.before }

pub returns-clause-valid : goal.returns-clause-valid
returns-clause-valid k = λ dialect kernel image e r is valid closed.
    strip-valid (reading_of dialect kernel) image e r closed (further image e (k.every_image_may_be_renamed.ensures.behind_kernel dialect kernel image is valid).ordered) valid

pub returns-clause-fileable : goal.returns-clause-fileable
returns-clause-fileable k = λ dialect kernel image r fileable. strip-fileable (reading_of dialect kernel) image r fileable

pub returns-clause-run : goal.returns-clause-run
returns-clause-run k = λ dialect kernel image e r n is valid closed.
    k.law_stripped.ensures.run image e r n (k.every_image_may_be_renamed.ensures.behind_kernel dialect kernel image is valid).ordered (k.every_image_has_kernel_chains.ensures dialect kernel image is valid) closed

pub returns-clause-matched : goal.returns-clause-matched
returns-clause-matched k = λ dialect kernel image e r is valid closed.
    k.law_stripped.ensures.matched image e r (k.every_image_may_be_renamed.ensures.behind_kernel dialect kernel image is valid).ordered (k.every_image_has_kernel_chains.ensures dialect kernel image is valid) closed
