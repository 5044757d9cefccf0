use Rattle.std.proofs.Common.{◌≡◌, ℕ, ◌<◌, length, Option, Some, sym, ap, subst, ◌∙◌}
use Rattle.std.specs.Prelude.{Bool, option_map, MatchOption}
use Rattle.std.specs.Option.{option_copied}
use Rattle.rb_base.specs.Names.{name_at}
use Rattle.tree_model.specs.Tree.{TreeOf, map_names}
use Rattle.tree_model.specs.AllNames.{AllNames}
use Rattle.tree_model.specs.Path.{part_in, replaced_in}
use Rattle.st_tree.specs.View.{sequence_of}
use Rattle.certificates.specs.Shown.{step_shown}
use Rattle.derivations.specs.Numbered.{table_of}
use Rattle.derivations.specs.Taken.{IsTaken}
use Rattle.derivations.proofs.TakenSteps.{taken_nowhere, taken_unfit, taken_on, part_is_known, first_known, second_known, ok_of}
use Rattle.derivations.proofs.steps.take_step.Goals as goal

pub returns-in_default-part_at_doit-clause-taken : goal.returns-in_default-part_at_doit-clause-taken
returns-in_default-part_at_doit-clause-taken c =
    let before = sequence_of c.args.tree.now in
    taken_nowhere c.args.names.now (table_of c.args.marks.now) (step_shown c.args.step.now) before before c.len.ensures.distinct c.requires.words c.requires.table c.in-Some.sides _ c.in-Some.is c.in_ok-sides.ensures c.args.names.now
    (ap (part_in before) (sym c.in_ok-path.ensures) ∙ sym c.part_at_doit.ensures ∙ ap option_copied c.in_default-part_at_doit.is)

pub turned-requires-clause-first : goal.turned-requires-clause-first
turned-requires-clause-first c = first_known c.args.names.now c.len.ensures.distinct c.requires.words (table_of c.args.marks.now) c.requires.table (step_shown c.args.step.now) c.in-Some.sides (sym c.in-Some.is ∙ c.in_ok-sides.ensures)

pub turned-requires-clause-second : goal.turned-requires-clause-second
turned-requires-clause-second c = second_known c.args.names.now c.len.ensures.distinct c.requires.words (table_of c.args.marks.now) c.requires.table (step_shown c.args.step.now) c.in-Some.sides (sym c.in-Some.is ∙ c.in_ok-sides.ensures)

pub turned-requires-clause-node : goal.turned-requires-clause-node
turned-requires-clause-node c =
    let before = sequence_of c.args.tree.now in
    part_is_known c.args.names.now (table_of c.args.marks.now) (step_shown c.args.step.now) before before c.len.ensures.distinct c.requires.words c.requires.table c.in-Some.sides _ c.in-Some.is c.in_ok-sides.ensures c.in-Some-part_at_doit.part.now
    (ap (part_in before) (sym c.in_ok-path.ensures) ∙ sym c.part_at_doit.ensures ∙ ap option_copied c.in-Some-part_at_doit.is) c.requires.one

pub returns-in_default-found-clause-taken : goal.returns-in_default-found-clause-taken
returns-in_default-found-clause-taken c =
    let before = sequence_of c.args.tree.now in
    let f = ap (part_in before) (sym c.in_ok-path.ensures) ∙ sym c.part_at_doit.ensures ∙ ap option_copied c.in-Some-part_at_doit.is in
    taken_unfit c.args.names.now (table_of c.args.marks.now) (step_shown c.args.step.now) before before c.len.ensures.distinct c.requires.words c.requires.table c.in-Some.sides _ c.in-Some.is c.in_ok-sides.ensures c.in-Some-part_at_doit.part.now f c.args.names.now
    (ap (option_map (map_names (name_at c.turned.new.names))) (sym c.in_default-found.is) ∙ c.in_ok-found.ensures.turned)

pub returns-clause-taken : goal.returns-clause-taken
returns-clause-taken c =
    let before = sequence_of c.args.tree.now in
    let names = c.args.names.now in
    let new = c.turned.new.names in
    let table = table_of c.args.marks.now in
    let x = step_shown c.args.step.now in
    let f = ap (part_in before) (sym c.in_ok-path.ensures) ∙ sym c.part_at_doit.ensures ∙ ap option_copied c.in-Some-part_at_doit.is in
    let after = sequence_of c.replace_at_doit-replaced.new.body in
    let there : part_in before c.in_ok-path.path ≡ Some c.in-Some-part_at_doit.part.now = sym c.part_at_doit.ensures ∙ ap option_copied c.in-Some-part_at_doit.is in
    let done = ok_of c.replace_at_doit-replaced.result (after ≡ replaced_in before c.in_ok-path.path c.in_ok-boxed.boxed.value) (part_in before c.in_ok-path.path) c.in-Some-part_at_doit.part.now c.replace_at_doit-replaced.ensures.after c.replace_at_doit-replaced.ensures.nowhere there in
    let made : TreeOf ℕ = c.in-Some-found.made in
    let known = subst (λ (o : Option (TreeOf ℕ)). MatchOption o (Unit {0}) (AllNames (λ n. n < length new))) c.in-Some-found.is c.in_ok-found.ensures.known in
    subst (λ (b : Bool). IsTaken names new table x before after b) (sym (c.is_ok.ensures.value ∙ done.0))
    (taken_on names table x before after c.len.ensures.distinct c.requires.words c.requires.table c.in-Some.sides _ c.in-Some.is c.in_ok-sides.ensures c.in-Some-part_at_doit.part.now f c.turned.ensures.grows c.len-2.ensures.distinct made
    (ap (option_map (map_names (name_at new))) (sym c.in-Some-found.is) ∙ c.in_ok-found.ensures.turned) known
    (done.1 ∙ (λ i. replaced_in before (c.in_ok-path.ensures i) (c.in_ok-boxed.ensures.ok i))))
