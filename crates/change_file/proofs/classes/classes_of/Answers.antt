use Rattle.std.proofs.Common.{List, sym, ap, subst, ◌∙◌}
use Rattle.class_table.specs.View.{image_of}
use Rattle.image_model.specs.Image.{ClassOf}
use Rattle.file_model.specs.Filing.{Text}
use Rattle.change_model.specs.Equal.{is_namesake}
use Rattle.change_laws.specs.Merged.{AreApart}
use Rattle.change_file.specs.Shown.{class_texts}
use Rattle.change_file.proofs.Differing.{users_apart}
use Rattle.change_file.proofs.classes.classes_of.Goals as goal

pub names_of-requires-clause-apart : goal.names_of-requires-clause-apart
names_of-requires-clause-apart c =
    subst (λ (cs : List (ClassOf Text)). AreApart is_namesake cs)
    (sym (ap (class_texts c.args.image.now) c.as_slice.ensures.value ∙ c.in_ok-recs.ensures.classes))
    (users_apart (image_of c.args.image.now) c.requires.apart)
