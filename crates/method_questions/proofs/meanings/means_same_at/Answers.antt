use Rattle.std.proofs.Common.{ℕ, List, ap, ◌∙◌}
use Rattle.std.specs.Prelude.{nat_eq}
use Rattle.image_model.specs.Image.{EntryOf}
use Rattle.image_model.specs.Words.{number_words}
use Rattle.image_model.specs.Means.{means}
use Rattle.class_table.specs.View.{number_image}
use Rattle.command_model.specs.SameMethods.{same_meaning}
use Rattle.method_questions.specs.Found.{as_entry}
use Rattle.method_questions.specs.Meanings.{means_same_at}
use Rattle.method_questions.proofs.meanings.means_same_at.Goals as goal

pub returns : goal.returns
unfolding means_same_at
returns c =
    let s = c.args.image.now in
    let at = λ (m : EntryOf ℕ) (path : List ℕ). means (number_words s.names) (number_image s) m path c.args.name in
    c.same_meaning.ensures
    ∙ (λ i. same_meaning nat_eq ((c.method_meaning-meaning.ensures ∙ ap (at (as_entry s.classes c.args.method.now)) c.requires.top) i) ((c.method_meaning-again.ensures ∙ ap (at (as_entry s.classes c.args.other.now)) c.requires.top) i))
