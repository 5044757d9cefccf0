use Rattle.std.proofs.Common.{ℕ, List, ap, sym, ◌∙◌}
use Rattle.std.specs.Prelude.{nat_eq}
use Rattle.std.specs.List.{list_all}
use Rattle.scope_model.specs.NameTests.{is_pseudo_in}
use Rattle.scope_model.specs.FreeNames.{free_names_of_run}
use Rattle.st_tree.specs.View.{method_of}
use Rattle.image_model.specs.Words.{number_words}
use Rattle.class_table.specs.View.{number_image}
use Rattle.class_table.proofs.Live.{eqb-equal}
use Rattle.method_questions.specs.Found.{as_entry}
use Rattle.method_questions.specs.Meanings.{means_same_at}
use Rattle.method_questions.proofs.MeansSame.{free-tell}
use Rattle.method_questions.proofs.meanings.means_same.Goals as goal

pub returns : goal.returns
unfolding means_same_at
returns c =
    let s = c.args.image.now in
    c.all_mean_same.ensures
    ∙ ap (list_all (means_same_at s c.args.method.now c.args.other.now)) (c.as_slice.ensures ∙ (c.in_ok-names.ensures ∙ ap (λ (names : List (List ℕ)). free_names_of_run nat_eq (is_pseudo_in names) (method_of c.args.method.now.tree.now).body.statements) c.names.ensures))
    ∙ sym (free-tell (number_words s.names) eqb-equal (number_image s) (number_image s) (as_entry s.classes c.args.method.now) (as_entry s.classes c.args.other.now) c.requires.code)
