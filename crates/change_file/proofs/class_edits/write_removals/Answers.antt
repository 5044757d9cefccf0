use Rattle.std.proofs.Common.{◌≡◌, ℕ, ◌+◌, ◌-◌, Bool, true, false, not, List, [], ◌++◌, take, Option, ◌∙◌, ap, sym, arith, append-nil}
use Rattle.std.specs.Prelude.{is_some, unwrap_or, if◌then◌else◌}
use Rattle.rb_base.specs.Names.{name_at, number_in}
use Rattle.image_model.specs.Image.{ClassOf}
use Rattle.class_table.specs.View.{image_of}
use Rattle.file_model.specs.Changes.{RemoveClass}
use Rattle.file_model.specs.Filing.{Text}
use Rattle.file_model.specs.Written.{user_classes, paragraph}
use Rattle.image_file.specs.Writable.{text_class}
use Rattle.change_model.specs.Differs.{is_among}
use Rattle.change_model.specs.Edits.{Change}
use Rattle.change_model.specs.Equal.{is_namesake}
use Rattle.change_model.specs.Text.{change_source, edit_text}
use Rattle.change_file.specs.declared.classes.Classes.{Classes}
use Rattle.change_file.specs.Partners.{is_listed}
use Rattle.change_file.specs.Shown.{AreClasses}
use Rattle.change_file.proofs.Chosen.{among_named, removal_step}
use Rattle.change_file.proofs.ClassLists.{item_at}
use Rattle.change_file.proofs.Differing.{text_at}
use Rattle.change_file.proofs.EditTexts.{removals_text}
use Rattle.change_file.proofs.KeyWalks.{number_listed}
use Rattle.change_file.proofs.class_edits.write_removals.Goals as goal

-- a class has a namesake where its name is found
among_found : (new : Classes) → AreClasses new → (x : ClassOf Text) (t : Text) (found : Option ℕ) → t ≡ x.name → found ≡ number_in new.names t → is_among is_namesake (user_classes (image_of new.image.now)) x ≡ is_some found
among_found new are x t found name number =
    among_named (user_classes (image_of new.image.now)) x ∙ ap (λ (ns : List Text). is_listed ns x.name) (sym are.names) ∙ sym (number_listed new.names x.name)
    ∙ ap (λ (n : Text). is_some (number_in new.names n)) (sym name) ∙ ap (λ (o : Option ℕ). is_some o) (sym number)

pub loop-left-preserved-then-is_none : goal.loop-left-preserved-then-is_none
loop-left-preserved-then-is_none c =
    let old = c.args.old.now in
    let new = c.args.new.now in
    let s = old.image.now in
    let left = c.loop-left.left in
    let xs = user_classes (image_of s) in
    let ys = user_classes (image_of new.image.now) in
    let goes = λ (d : ClassOf Text). not (is_among is_namesake ys d) in
    let r = c.index.result.now in
    let t = c.text_of-name.result.now in
    let x = text_class s r.now in
    let name : t ≡ x.name = ap (λ (o : Option Text). unwrap_or o []) c.text_of-name.ensures ∙ ap (λ (ns : List Text). name_at ns r.now.name) c.names.ensures in
    let at = text_at s old.recs.items xs (left - 1) r c.requires.old.classes
    (item_at old.recs.items (left - 1) r (omega (arith, c.loop-left-test.true, c.loop-left.invariant.1)) c.index.ensures) in
    let next : left ≡ left - 1 + 1 = omega (arith, c.loop-left-test.true) in
    let gone : goes x ≡ true =
    ap not (among_found new c.requires.new x t c.find.result name c.find.ensures ∙ c.is_none.ensures) ∙ ap (λ (b : Bool). not (not b)) c.if-is_none.true in (
      removal_step goes xs (left - 1) x c.loop-left.out c.write_paragraph.new.out _ at
          (ap (λ (k : ℕ). c.loop-left.out ++ removals_text goes (take k xs)) (sym next) ∙ c.loop-left.invariant.0)
          (c.in_ok-write_paragraph.ensures
          ∙ ap (λ (u : Text). c.loop-left.out ++ paragraph u) (c.as_slice.ensures ∙ c.in_ok-source.ensures ∙ ap (λ (n : Text). change_source (RemoveClass n)) name)
          ∙ ap (λ (b : Bool). c.loop-left.out ++ (if b then edit_text (Change (RemoveClass x.name)) else [])) (sym gone)),
      omega (arith, c.loop-left.invariant.1),
    )

pub loop-left-preserved : goal.loop-left-preserved
loop-left-preserved c =
    let old = c.args.old.now in
    let new = c.args.new.now in
    let s = old.image.now in
    let left = c.loop-left.left in
    let xs = user_classes (image_of s) in
    let ys = user_classes (image_of new.image.now) in
    let goes = λ (d : ClassOf Text). not (is_among is_namesake ys d) in
    let r = c.index.result.now in
    let t = c.text_of-name.result.now in
    let x = text_class s r.now in
    let name : t ≡ x.name = ap (λ (o : Option Text). unwrap_or o []) c.text_of-name.ensures ∙ ap (λ (ns : List Text). name_at ns r.now.name) c.names.ensures in
    let at = text_at s old.recs.items xs (left - 1) r c.requires.old.classes
    (item_at old.recs.items (left - 1) r (omega (arith, c.loop-left-test.true, c.loop-left.invariant.1)) c.index.ensures) in
    let next : left ≡ left - 1 + 1 = omega (arith, c.loop-left-test.true) in
    let stays : goes x ≡ false =
    ap not (among_found new c.requires.new x t c.find.result name c.find.ensures ∙ c.is_none.ensures) ∙ ap (λ (b : Bool). not (not b)) c.if-is_none.false in (
      removal_step goes xs (left - 1) x c.loop-left.out c.loop-left.out _ at
          (ap (λ (k : ℕ). c.loop-left.out ++ removals_text goes (take k xs)) (sym next) ∙ c.loop-left.invariant.0)
          (sym (append-nil c.loop-left.out) ∙ ap (λ (b : Bool). c.loop-left.out ++ (if b then edit_text (Change (RemoveClass x.name)) else [])) (sym stays)),
      omega (arith, c.loop-left.invariant.1),
    )
