use Rattle.std.proofs.Common.{sym, subst}
use Rattle.run_model.specs.Renamings.{no_renaming}
use Rattle.run_model.specs.Matched.{AreMatched}
use Rattle.command_model.specs.Asked.{text_asked}
use Rattle.command_model.specs.Commands.{AbstractInstVar}
use Rattle.command_model.proofs.Held.{all-hold}
use Rattle.moved_code_laws.proofs.InlinedHere.{named-classes}
use Rattle.moved_code_laws.proofs.AbstractedHere.{image_after, effect-abstracted, variable-abstracted}
use Rattle.moved_code_laws.proofs.laws.law_abstracted_variable.Goals as goal

pub returns : goal.returns
returns g = λ writing i c x setter given sound none names.
    let hold = all-hold text_asked i (AbstractInstVar c x setter given) none in
    subst (λ j. AreMatched i j no_renaming × AreMatched j i no_renaming) (sym (effect-abstracted writing i sound c x setter given hold names))
    (g.law_variable_abstracted.ensures i (image_after writing i sound c x setter given hold names) (named-classes i sound) (variable-abstracted writing i sound c x setter given hold names))
