-- Names that mean the same at the top of two methods.
use Rattle.std.specs.Prelude.{ℕ, [], Bool, nat_eq}
use Rattle.image_model.specs.Words.{number_words}
use Rattle.image_model.specs.Means.{means}
use Rattle.class_table.specs.Slots.{Slots}
use Rattle.class_table.specs.View.{number_image}
use Rattle.command_model.specs.SameMethods.{same_meaning}
use Rattle.method_questions.specs.declared.found.Found.{Found}
use Rattle.method_questions.specs.Found.{as_entry}

-- whether a name means the same there
unfoldable pub means_same_at : Slots → Found → Found → ℕ → Bool
means_same_at s m n x =
    same_meaning nat_eq (means (number_words s.names) (number_image s) (as_entry s.classes m) [] x) (means (number_words s.names) (number_image s) (as_entry s.classes n) [] x)
