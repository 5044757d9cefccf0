use Rattle.std.proofs.Common.{◌≡◌, ℕ, List, Option, ◌+◌, ◌++◌, ◌∙◌, drop, map, refl, sym, ap, subst, slice_get, Some}
use Rattle.std.specs.List.{AllByRecursion}
use Rattle.std.specs.Borrow.{Bor}
use Rattle.class_table.specs.declared.record.ClassRec.{ClassRec}
use Rattle.image_file.specs.Writable.{IsWritableClass, text_class}
use Rattle.class_table.specs.View.{image_of}
use Rattle.file_model.specs.Written.{user_classes}
use Rattle.change_model.specs.Differs.{differing_from, class_stays}
use Rattle.change_model.specs.Equal.{is_equal_class}
use Rattle.change_file.specs.declared.classes.PlacedClass.{PlacedClass}
use Rattle.change_file.specs.Partners.{partner_at, is_partner_equal}
use Rattle.change_file.specs.Shown.{class_texts, placed_class}
use Rattle.change_file.proofs.ClassLists.{item_at, writable_at}
use Rattle.change_file.proofs.Differing.{text_at, class_partner, class_left, class_taken, placed_writable}
use Rattle.change_file.proofs.classes.differing_classes.Goals as goal
use Rattle.change_file.proofs.classes.differing_classes.Goals.{then-not-is_partner_same+in_ok-push, else-not-is_partner_same}

pub is_partner_same-requires-clause-writable : goal.is_partner_same-requires-clause-writable
is_partner_same-requires-clause-writable c =
    writable_at c.args.mine.now.image.now c.args.mine.now.recs.items c.loop-number.number c.rec-item.result c.requires.mine.writable
    (ap (λ (rs : List (Bor ClassRec)). slice_get rs c.loop-number.number) (sym c.deref-rec-items.ensures.value) ∙ item_at c.deref-rec-items.result.now c.loop-number.number c.rec-item.result c.loop-number-test.true c.rec-item.is)

pub loop-number-preserved : goal.loop-number-preserved
loop-number-preserved c =
    let mine = c.args.mine.now in
    let theirs = c.args.theirs.now in
    let s = mine.image.now in
    let i = image_of s in
    let n = c.loop-number.number in
    let r = c.rec-item.result in
    let at : slice_get mine.recs.items n ≡ Some r = ap (λ (rs : List (Bor ClassRec)). slice_get rs n) (sym c.deref-rec-items.ensures.value) ∙ item_at c.deref-rec-items.result.now n r c.loop-number-test.true c.rec-item.is in
    let x = text_class s r.now in
    let xs = user_classes i in
    let stay = class_stays i (image_of theirs.image.now) in
    let there = text_at s mine.recs.items xs n r c.requires.mine.classes at in
    let rest = differing_from (n + 1 + 1) stay (drop (n + 1) xs) in
    let same : c.is_partner_same.result ≡ stay x =
    c.is_partner_same.ensures
    ∙ ap (is_partner_equal is_equal_class (class_texts theirs.image.now theirs.recs.items) x) (c.partner_at.ensures ∙ ap (λ (os : List (Option ℕ)). partner_at os n) (c.as_slice.ensures.value ∙ c.in_ok-partners.ensures))
    ∙ class_partner mine theirs n r c.requires.mine c.requires.theirs c.requires.apart c.requires.theirs_apart at in
    elim c.if-not-is_partner_same.branch [
      | then-not-is_partner_same+in_ok-push w ↦
          let put = ap (λ v. v.items) w.found-is ∙ w.in_ok-push.ensures.items in (
            ap (λ (ps : List PlacedClass). map (placed_class s) ps ++ rest) put ∙ class_taken s stay xs n x there c.loop-number.found.items _ c.loop-number.invariant.0 _ refl refl (sym same ∙ w.if-not-is_partner_same.true),
            subst (AllByRecursion (λ (p : PlacedClass). IsWritableClass s p.rec.now)) (sym put)
                (placed_writable s c.loop-number.found.items _ c.loop-number.invariant.1 (writable_at s mine.recs.items n r c.requires.mine.writable at)),
          )
      | else-not-is_partner_same w ↦ (
        ap (λ v. map (placed_class s) v.items ++ rest) w.found-is ∙ class_left s stay xs n x there c.loop-number.found.items _ c.loop-number.invariant.0 (sym same ∙ w.if-not-is_partner_same.false),
        subst (AllByRecursion (λ (p : PlacedClass). IsWritableClass s p.rec.now)) (sym (ap (λ v. v.items) w.found-is)) c.loop-number.invariant.1,
      )
    ]
