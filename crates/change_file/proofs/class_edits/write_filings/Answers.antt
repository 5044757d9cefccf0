use Rattle.std.proofs.Common.{◌++◌, ◌∙◌, ap, map}
use Rattle.image_model.specs.Image.{ClassOf}
use Rattle.file_model.specs.Filing.{Text}
use Rattle.file_model.specs.Places.{PlacedOf}
use Rattle.change_model.specs.Edits.{filed}
use Rattle.change_file.specs.Shown.{placed_class}
use Rattle.change_file.specs.Texts.{edit_texts}
use Rattle.change_file.proofs.ClassLists.{item_at}
use Rattle.change_file.proofs.Walks.{written_next, written_end, filings_written}
use Rattle.change_file.proofs.class_edits.write_filings.Goals as goal

pub loop-class-preserved : goal.loop-class-preserved
loop-class-preserved c =
    let p = c.class-item.result in
    written_next (placed_class c.args.image.now) (λ (p : PlacedOf (ClassOf Text)). edit_texts (filed p)) c.args.differing.now c.loop-class.class-index p c.loop-class.out _ _
    (item_at c.args.differing.now c.loop-class.class-index p c.loop-class-test.true c.class-item.is) c.loop-class.invariant c.in_ok-write_filed.ensures

pub returns : goal.returns
returns c =
    written_end (placed_class c.args.image.now) (λ (p : PlacedOf (ClassOf Text)). edit_texts (filed p)) c.args.differing.now c.loop-class.class-index c.loop-class.out _ c.loop-class-test.false c.loop-class.invariant
    ∙ ap (λ (t : Text). c.args.out.now ++ t) (filings_written (map (placed_class c.args.image.now) c.args.differing.now))
