use Rattle.std.proofs.Common.{◌≡◌, ℕ, List, ◌++◌, sym, ap, subst, ◌∙◌}
use Rattle.std.specs.Prelude.{codes}
use Rattle.std.specs.Fmt.{decimal}
use Rattle.std.proofs.lemmas.Result.{IfOk-weaker}
use Rattle.rb_base.specs.Names.{name_at}
use Rattle.class_table.specs.View.{image_of}
use Rattle.refusal_witnesses.specs.Witnesses.{AClass, ASelector, AStep}
use Rattle.refusal_witnesses.specs.Lines.{IsLine, class_line, selector_line, step_line, line_of}
use Rattle.witness_lists.specs.declared.witness.Witness.{Witness}
use Rattle.witness_lists.specs.Views.{witness_of}
use Rattle.witness_numbers.specs.MappedWitnesses.{map_witness}
use Rattle.witness_texts.proofs.lines.witness_line.Goals as goal

pub returns-in-Class : goal.returns-in-Class
returns-in-Class c =
    let s = c.args.image.now in
    let n = c.in-Class.name in
    IfOk-weaker c.name_line.result (λ (t : List ℕ). t ≡ line_of (codes "class " ++ c.text_of.result.now)) (IsLine (image_of s) (map_witness (name_at s.names) (witness_of s c.args.witness.now)))
    (λ t e. subst (λ (w : Witness). IsLine (image_of s) (map_witness (name_at s.names) (witness_of s w)) t) (sym c.in-Class.is)
    (subst (IsLine (image_of s) (AClass (name_at s.names n))) (sym (e ∙ ap (λ (x : List ℕ). line_of (codes "class " ++ x)) c.text_of.ensures)) class_line))
    c.name_line.ensures

pub returns-in-Selector : goal.returns-in-Selector
returns-in-Selector c =
    let s = c.args.image.now in
    let n = c.in-Selector.name in
    IfOk-weaker c.name_line-in-Selector.result (λ (t : List ℕ). t ≡ line_of (codes "selector " ++ c.text_of-in-Selector.result.now)) (IsLine (image_of s) (map_witness (name_at s.names) (witness_of s c.args.witness.now)))
    (λ t e. subst (λ (w : Witness). IsLine (image_of s) (map_witness (name_at s.names) (witness_of s w)) t) (sym c.in-Selector.is)
    (subst (IsLine (image_of s) (ASelector (name_at s.names n))) (sym (e ∙ ap (λ (x : List ℕ). line_of (codes "selector " ++ x)) c.text_of-in-Selector.ensures)) selector_line))
    c.name_line-in-Selector.ensures

pub returns-in-Step : goal.returns-in-Step
returns-in-Step c =
    let s = c.args.image.now in
    let k = c.in-Step.step in
    IfOk-weaker c.step_line.result (λ (t : List ℕ). t ≡ line_of (codes "step " ++ decimal k)) (IsLine (image_of s) (map_witness (name_at s.names) (witness_of s c.args.witness.now)))
    (λ t e. subst (λ (w : Witness). IsLine (image_of s) (map_witness (name_at s.names) (witness_of s w)) t) (sym c.in-Step.is) (subst (IsLine (image_of s) (AStep k)) (sym e) step_line))
    c.step_line.ensures
