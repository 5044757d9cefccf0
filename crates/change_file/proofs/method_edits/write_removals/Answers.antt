use Rattle.std.proofs.Common.{Bool, not, length, ◌++◌, ◌∙◌, ap, sym, arith}
use Rattle.std.specs.Prelude.{flat_map, ◌&&◌}
use Rattle.rb_base.specs.Names.{text_eq}
use Rattle.image_model.specs.Image.{EntryOf}
use Rattle.class_table.specs.View.{image_of}
use Rattle.file_model.specs.Filing.{Text}
use Rattle.file_model.specs.Hierarchy.{has_class}
use Rattle.file_model.specs.Written.{user_methods, run_of}
use Rattle.change_model.specs.Differs.{is_among}
use Rattle.change_model.specs.Equal.{is_counterpart}
use Rattle.change_file.specs.Partners.{is_listed}
use Rattle.change_file.specs.Shown.{shown, shown_method, key_shown}
use Rattle.change_file.proofs.EditTexts.{removal_at, method_removals_written}
use Rattle.change_file.proofs.MethodLists.{entry_tells}
use Rattle.change_file.proofs.Pairs.{among_listed}
use Rattle.change_file.proofs.Walks.{written_end}
use Rattle.change_file.proofs.method_edits.write_removals.Goals as goal

pub returns : goal.returns
returns c =
    let us = user_methods (image_of c.args.old.now.image.now) in
    let vs = user_methods (image_of c.args.new.now.image.now) in
    let classes = (image_of c.args.new.now.image.now).classes in
    let key = λ (e : EntryOf Text). key_shown (shown e) in
    let text = removal_at c.args.new.now.keys c.args.classes.now in
    written_end shown_method text c.args.old.now.items.items c.loop-item.item-index c.loop-item.out _ (omega (arith, c.loop-item-test.false, ap length c.deref-item-items.ensures.value)) c.loop-item.invariant
    ∙ ap (λ (t : Text). c.args.out.now ++ t) (ap (flat_map text) c.requires.old.items
    ∙ method_removals_written c.args.new.now.keys c.args.classes.now (λ m. not (is_among is_counterpart vs m) && has_class text_eq classes (run_of m).class) us
    (λ m. (λ k. not (is_listed (c.requires.new.keys k) (key m)) && c.requires.classes (run_of m).class k)
    ∙ ap (λ (b : Bool). not b && has_class text_eq classes (run_of m).class) (sym (among_listed key is_counterpart entry_tells vs m))))
