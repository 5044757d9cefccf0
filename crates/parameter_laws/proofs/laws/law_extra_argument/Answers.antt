use Rattle.run_model.specs.Renamings.{no_renaming}
use Rattle.rb_base.specs.Names.{text_eq}
use Rattle.rename_model.specs.OneRenamed.{one_selector}
use Rattle.rename_model.specs.SelectorRenamed.{selector_renamed}
use Rattle.parameter_laws.proofs.Composed.{nothing-first, nothing-last}
use Rattle.parameter_laws.proofs.RenamedBack.{fresh-then, image-back}
use Rattle.parameter_laws.proofs.laws.law_extra_argument.Goals as goal

pub returns-clause-forward : goal.returns-clause-forward
returns-clause-forward c = λ writing i j s t k old new fresh may e.
    let between = selector_renamed text_eq writing i s t in
    c.law_matched.ensures.composed i between j (one_selector s t) no_renaming (one_selector s t) (nothing-last s t)
    (c.law_renamed_selector.ensures.matched writing i s t old new fresh).matched (c.law_argument_gone.ensures.added between j t k new may e)

pub returns-clause-backward : goal.returns-clause-backward
returns-clause-backward c = λ writing i j s t k old new apart fresh may e.
    let between = selector_renamed text_eq writing i s t in
    let again = selector_renamed text_eq writing between t s in
    c.law_matched.ensures.composed j between i no_renaming (one_selector t s) (one_selector t s) (nothing-first t s) (c.law_argument_gone.ensures.removed j between t k new may e)
    (c.law_matched.ensures.composed between again i (one_selector t s) no_renaming (one_selector t s) (nothing-last t s)
    (c.law_renamed_selector.ensures.matched writing between t s new old (fresh-then s t apart writing i)).matched (c.law_same_resolved.ensures.matched again i (image-back s t writing i fresh)))
