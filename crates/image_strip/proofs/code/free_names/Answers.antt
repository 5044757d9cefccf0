use Rattle.std.proofs.Common.{List, ℕ, ◌++◌, ap, ◌∙◌}
use Rattle.std.specs.Prelude.{nat_eq}
use Rattle.scope_model.specs.NameTests.{is_pseudo_in}
use Rattle.st_tree.specs.View.{sequence_of}
use Rattle.st_tree.specs.declared.path.Part.TheVariants.{Run}
use Rattle.st_scope.specs.Parts.{free_names_of_part}
use Rattle.use_questions.proofs.Free.{whole-names}
use Rattle.image_strip.proofs.code.free_names.Goals as goal

pub returns : goal.returns
returns c =
    let is_pseudo = is_pseudo_in c.args.names.now in
    let body = c.args.body.now in
    let part = free_names_of_part nat_eq is_pseudo (sequence_of body) (Run c.new.result 0 c.len.result) in
    c.in_ok-free_names_doit.ensures.ok ∙ ap (λ (ns : List ℕ). ns ++ part) c.new-free.ensures
    ∙ whole-names is_pseudo body c.new.result c.len.result c.new.ensures c.len.ensures
