use Rattle.std.proofs.Common.{◌≡◌, ℕ, ◌&&◌, Bool, true, List, ◌++◌, sym, ap, ◌∙◌}
use Rattle.std.specs.Prelude.{nat_eq}
use Rattle.std.specs.List.{list_any}
use Rattle.scope_model.specs.NameTests.{is_pseudo_in}
use Rattle.scope_model.specs.FreeNames.{free_in_statements}
use Rattle.st_tree.specs.View.{statements_of, sequence_of}
use Rattle.st_tree.specs.declared.path.Part.TheVariants.{Run}
use Rattle.st_scope.specs.Parts.{free_names_of_part}
use Rattle.name_meanings.specs.Meanings.{meaning_of}
use Rattle.use_questions.specs.Questions.{name_of, is_meant}
use Rattle.use_questions.proofs.Free.{once-any, whole-names}
use Rattle.use_questions.proofs.code.in_code.Goals as goal

pub returns : goal.returns
returns c =
    let is_pseudo = is_pseudo_in c.args.names.now in
    let body = c.args.body.now in
    let what = c.args.what.now in
    let free = free_in_statements nat_eq is_pseudo (statements_of body.statements) in
    let part = free_names_of_part nat_eq is_pseudo (sequence_of body) (Run c.new.result 0 c.len.result) in
    let known : is_meant what (meaning_of c.args.outside) ≡ true = sym c.is_meant.ensures ∙ c.if-not-is_meant.false in
    let out : c.free_names_doit.new.out ≡ part =
    c.in_ok-free_names_doit.ensures.ok ∙ ap (λ (ns : List ℕ). ns ++ part) c.new-free.ensures in
    c.is_among.ensures
    ∙ ap (list_any (nat_eq c.name.result)) (c.as_slice.ensures ∙ out ∙ whole-names is_pseudo body c.new.result c.len.result c.new.ensures c.len.ensures)
    ∙ once-any c.name.result free
    ∙ ap (λ (n : ℕ). list_any (nat_eq n) free) c.name.ensures
    ∙ ap (λ (b : Bool). b && list_any (nat_eq (name_of what)) free) (sym known)
