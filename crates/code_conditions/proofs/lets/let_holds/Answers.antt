use Rattle.std.proofs.Common.{◌≡◌, ℕ, Bool, List, Some, None, option_map, sym, ap, ◌∙◌}
use Rattle.std.specs.Prelude.{false}
use Rattle.std.specs.Option.{option_map_or}
use Rattle.std.proofs.lemmas.Result.{IfOk-weaker}
use Rattle.st_tree.specs.View.{method_of}
use Rattle.image_model.specs.Image.{EntryOf}
use Rattle.class_table.specs.View.{number_image}
use Rattle.command_model.specs.Asked.{no_parts}
use Rattle.command_model.specs.CodeEffects.{method_at}
use Rattle.command_model.specs.Numbers.{number_asked}
use Rattle.command_model.specs.Temporaries.{LetOf, let_of}
use Rattle.commands.specs.Views.{asked_by}
use Rattle.let_code.specs.Lets.{let_as}
use Rattle.part_questions.specs.Codes.{entry_of}
use Rattle.code_conditions.specs.Passes.{let_passes}
use Rattle.code_conditions.proofs.Assigned.{no_let, one_let, let-alone}
use Rattle.code_conditions.proofs.lets.let_holds.Goals as goal

pub returns-in_default-2 : goal.returns-in_default-2
returns-in_default-2 g c =
    let s = c.args.image.now in
    let m = c.in-Some.found in
    let none : None ≡ let_of (asked_by s.names) (method_of m.tree.now) c.args.variable =
    sym (ap (option_map let_as) c.in_default-2.is) ∙ c.in_ok-assignment.ensures.found ∙ ap (λ (ns : List (List ℕ)). let_of (number_asked ns 0 no_parts) (method_of m.tree.now) c.args.variable) c.names.ensures in
    no_let s c.args.method.now c.args.variable c.args.condition.now m c.in-Some.ensures.method none

pub returns : goal.returns
returns g c =
    let s = c.args.image.now in
    let m = c.in-Some.found in
    let e : LetOf ℕ = let_as c.in-Some-2.assignment in
    let one : Some e ≡ let_of (asked_by s.names) (method_of m.tree.now) c.args.variable =
    sym (ap (option_map let_as) c.in-Some-2.is) ∙ c.in_ok-assignment.ensures.found ∙ ap (λ (ns : List (List ℕ)). let_of (number_asked ns 0 no_parts) (method_of m.tree.now) c.args.variable) c.names.ensures in
    IfOk-weaker {X = Bool} c.let_passes.result (λ is. is ≡ let_passes s c.args.variable c.args.condition.now (entry_of s (record { class = m.class; meta = m.meta; tree = m.tree })) e)
    (λ is. is ≡ option_map_or (λ (k : EntryOf ℕ). option_map_or (let_passes s c.args.variable c.args.condition.now k) (let_of (asked_by s.names) k.tree c.args.variable) false) (method_at (asked_by s.names) (number_image s) c.args.method.now.class c.args.method.now.meta c.args.method.now.selector) false)
    (λ is h. h ∙ let-alone s c.args.variable c.args.condition.now m e ∙ one_let s c.args.method.now c.args.variable c.args.condition.now m e c.in-Some.ensures.method one) c.let_passes.ensures
