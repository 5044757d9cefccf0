use Rattle.std.proofs.Common.{◌≡◌, map, not, ◌∙◌, ◌≤◌, ap, sym, refl, subst}
use Rattle.std.proofs.lemmas.Result.{IfOk-weaker}
use Rattle.image_model.specs.Image.{ClassOf}
use Rattle.class_table.specs.Slots.{Slots}
use Rattle.class_table.specs.View.{image_of}
use Rattle.file_model.specs.Filing.{Text}
use Rattle.file_model.specs.Places.{PlacedOf}
use Rattle.file_model.specs.Written.{user_classes}
use Rattle.change_model.specs.Differs.{differing_from, class_stays}
use Rattle.change_model.specs.Equal.{is_namesake, is_equal_class}
use Rattle.change_file.specs.declared.classes.PlacedClass.{PlacedClass}
use Rattle.change_file.specs.Members.{class_in}
use Rattle.change_file.specs.Partners.{is_listed, places_from}
use Rattle.change_file.specs.Shown.{class_keys, placed_class}
use Rattle.change_file.proofs.Picked.{shown_end, place_before, class_before, above_nothing, map_twice, members_differ}
use Rattle.change_file.proofs.differences.class_differences.Goals as goal

pub overflow_sub-class : goal.overflow_sub-class
overflow_sub-class c =
    let s = c.in_ok-before.before.image.now in
    let i = image_of s in
    let ps = c.deref-class-items.result.now in
    let n = c.loop-class.class-index in
    let p = c.class-item.result in
    let same : map (λ (q : PlacedClass). q.place) ps ≡ map (λ (q : PlacedOf (ClassOf Text)). q.place) (differing_from 1 (class_stays i (image_of c.in_ok-after.after.image.now)) (user_classes i)) =
    map_twice (placed_class s) (λ (q : PlacedOf (ClassOf Text)). q.place) ps
    ∙ ap (map (λ (q : PlacedOf (ClassOf Text)). q.place)) (ap (map (placed_class s)) c.deref-class-items.ensures.value ∙ c.in_ok-differing.ensures.classes) in
    let above = above_nothing (class_stays i (image_of c.in_ok-after.after.image.now)) (λ (q : PlacedClass). q.place) ps (user_classes i) n p same c.loop-class-test.true in
    subst (λ (q : PlacedClass). 1 ≤ q.place) (sym c.class-item.is) above

pub returns : goal.returns
returns c =
    let s = c.args.earlier.now in
    let t = c.args.later.now in
    let b = c.in_ok-before.ensures.image in
    let a = c.in_ok-after.ensures.image in
    let xs = user_classes (image_of s) in
    let ys = user_classes (image_of t) in
    let places : c.as_slice-2.result.now ≡ map place_before (differing_from 1 (class_stays (image_of s) (image_of t)) xs) =
    c.as_slice-2.ensures.value
    ∙ shown_end class_before c.deref-class-items.result.now c.loop-class.class-index c.loop-class.places.items _ c.loop-class-test.false c.loop-class.invariant
    ∙ ap (map class_before) c.deref-class-items.ensures.value
    ∙ map_twice (placed_class c.in_ok-before.before.image.now) place_before c.in_ok-differing.differing.items
    ∙ ap (map place_before) c.in_ok-differing.ensures.classes
    ∙ (λ j. map place_before (differing_from 1 (class_stays (image_of (b j)) (image_of (a j))) (user_classes (image_of (b j))))) in
    let keys : c.in_ok-before.before.names ≡ class_keys xs = c.in_ok-before.ensures.classes.names ∙ ap (λ (u : Slots). class_keys (user_classes (image_of u))) b in
    let others : c.in_ok-after.after.names ≡ class_keys ys = c.in_ok-after.ensures.classes.names ∙ ap (λ (u : Slots). class_keys (user_classes (image_of u))) a in
    let lone : c.as_slice-4.result.now ≡ places_from 0 (λ k. not (is_listed (class_keys xs) k)) (class_keys ys) =
    c.as_slice-4.ensures.value ∙ c.in_ok-lone.ensures ∙ (λ j. places_from 0 (λ k. not (is_listed (keys j) k)) (others j)) in
    IfOk-weaker c.members.result _ _
    (λ found is.
    members_differ (λ (d : ClassOf Text). d.name) is_namesake is_equal_class (λ d e. refl) (class_in s) (class_in t) xs ys c.as_slice.result.now c.as_slice-3.result.now
    (ap (map (class_in s)) c.as_slice.ensures.value ∙ c.in_ok-ids.ensures) (ap (map (class_in t)) c.as_slice-3.ensures.value ∙ c.in_ok-later_ids.ensures)
    c.as_slice-2.result.now c.as_slice-4.result.now found.items places lone is)
    c.members.ensures
