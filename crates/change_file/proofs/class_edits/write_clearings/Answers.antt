use Rattle.std.proofs.Common.{◌≡◌, List, Option, Some, None, [], ◌∷◌, ◌++◌, ◌∙◌, ap, sym, slice_get, length, append-nil}
use Rattle.std.specs.Prelude.{flat_map, unwrap_or}
use Rattle.std.specs.Borrow.{Bor}
use Rattle.std.proofs.lemmas.Bool.{ltb-true, ltb-false}
use Rattle.class_table.specs.declared.record.ClassRec.{ClassRec}
use Rattle.rb_base.specs.Names.{name_at, number_in}
use Rattle.image_model.specs.Image.{ClassOf}
use Rattle.class_table.specs.View.{image_of}
use Rattle.file_model.specs.Changes.{Define, SetClassSide}
use Rattle.file_model.specs.Filing.{Text}
use Rattle.file_model.specs.Places.{PlacedOf}
use Rattle.file_model.specs.Written.{user_classes}
use Rattle.image_file.specs.Writable.{text_class}
use Rattle.change_model.specs.Differs.{class_stays}
use Rattle.change_model.specs.Edits.{Change, bare_definition, category_in}
use Rattle.change_file.specs.Shown.{placed_class}
use Rattle.change_file.specs.Texts.{edit_texts}
use Rattle.change_file.proofs.Chosen.{is_cleared, later_category, not_cleared, has_later}
use Rattle.change_file.proofs.ClassLists.{item_at}
use Rattle.change_file.proofs.EditTexts.{clearing_text, clearings_written}
use Rattle.change_file.proofs.Walks.{written_next, written_end, nothing_past}
use Rattle.change_file.proofs.class_edits.write_clearings.Goals as goal
use Rattle.change_file.proofs.class_edits.write_clearings.Goals.{in-Some+in-Some-get+in_ok-write_cleared, in-Some+in_default-get, in_default}

pub loop-class-preserved : goal.loop-class-preserved
loop-class-preserved c =
    let s = c.args.old.now.image.now in
    let new = c.args.new.now in
    let j = image_of new.image.now in
    let i = c.loop-class.class-index in
    let p = c.class-item.result in
    let d = text_class s p.rec.now in
    let t = c.text_of-name.result.now in
    let texts = λ (p : PlacedOf (ClassOf Text)). clearing_text j p.item in
    let at = item_at c.args.differing.now i p c.loop-class-test.true c.class-item.is in
    let name : t ≡ d.name = ap (λ (o : Option Text). unwrap_or o []) c.text_of-name.ensures ∙ ap (λ (ns : List Text). name_at ns p.rec.now.name) c.names.ensures in
    elim c.match-find.branch [
      | in-Some+in-Some-get+in_ok-write_cleared w ↦
          let n = w.number.inside.0 in
          let same : n ≡ w.in-Some.number = w.number.view_is in
          let r = w.in-Some-get.later.now in
          let e : number_in new.names d.name ≡ Some n = sym (w.in-Some.ensures ∙ ap (number_in new.names) name) ∙ ap Some (sym same) in
          let lookup = w.in-Some-get.ensures.lookup in
          let f : slice_get new.recs.items n ≡ Some r = ap (λ (rs : List (Bor ClassRec)). slice_get rs n) (sym w.deref.ensures.value)
          ∙ item_at w.deref.result.now n r (ltb-true n (length w.deref.result.now) (sym lookup.0)) lookup.1 in
          let category : w.as_slice.result.now ≡ category_in j d = w.as_slice.ensures ∙ sym (later_category new c.requires.new c.requires.apart d n r e f) in
          written_next (placed_class s) texts c.args.differing.now i p c.loop-class.out c.match-find.out _ at c.loop-class.invariant
          (w.out-is ∙ w.in_ok-write_cleared.ensures
          ∙ (λ k. c.loop-class.out ++ edit_texts (Change (Define (bare_definition (name k) (category k))) ∷ Change (SetClassSide (name k) []) ∷ []))
          ∙ ap (λ (x : Text). c.loop-class.out ++ x) (sym (is_cleared new c.requires.new c.requires.apart d n r e f)))
      | in-Some+in_default-get w ↦
          let n = w.number.inside.0 in
          let same : n ≡ w.in-Some.number = w.number.view_is in
          let e : number_in new.names d.name ≡ Some n = sym (w.in-Some.ensures ∙ ap (number_in new.names) name) ∙ ap Some (sym same) in
          absurd (has_later new c.requires.new c.requires.apart d n e
          (ap (λ (rs : List (Bor ClassRec)). slice_get rs n) (sym w.deref.ensures.value) ∙ nothing_past w.deref.result.now n (ltb-false n (length w.deref.result.now) (sym w.in_default-get.ensures.lookup.0))))
      | in_default w ↦
          let e : number_in new.names d.name ≡ None = sym (w.in_default.ensures ∙ ap (number_in new.names) name) in
          written_next (placed_class s) texts c.args.differing.now i p c.loop-class.out c.match-find.out _ at c.loop-class.invariant
          (w.out-is ∙ sym (append-nil c.loop-class.out) ∙ ap (λ (x : Text). c.loop-class.out ++ x) (sym (not_cleared new c.requires.new c.requires.apart d e)))
    ]

pub returns : goal.returns
returns c =
    let i = image_of c.args.old.now.image.now in
    let j = image_of c.args.new.now.image.now in
    let texts = λ (p : PlacedOf (ClassOf Text)). clearing_text j p.item in
    written_end (placed_class c.args.old.now.image.now) texts c.args.differing.now c.loop-class.class-index c.loop-class.out _ c.loop-class-test.false c.loop-class.invariant
    ∙ ap (λ (x : Text). c.args.out.now ++ x) (ap (flat_map texts) c.requires.others.classes ∙ clearings_written j (class_stays i j) 1 (user_classes i))
