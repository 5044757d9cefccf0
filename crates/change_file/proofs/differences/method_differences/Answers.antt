use Rattle.std.proofs.Common.{◌≡◌, map, not, ◌∙◌, ap, sym}
use Rattle.std.proofs.lemmas.Result.{IfOk-weaker}
use Rattle.image_model.specs.Image.{EntryOf}
use Rattle.class_table.specs.Slots.{Slots}
use Rattle.class_table.specs.View.{image_of}
use Rattle.file_model.specs.Filing.{Text}
use Rattle.file_model.specs.Places.{PlacedOf}
use Rattle.file_model.specs.Written.{user_methods}
use Rattle.change_model.specs.Differs.{differing_from, method_stays}
use Rattle.change_model.specs.Equal.{is_counterpart, is_equal_method}
use Rattle.change_file.specs.declared.methods.PlacedMethod.{PlacedMethod}
use Rattle.change_file.specs.Members.{method_in}
use Rattle.change_file.specs.Partners.{is_listed, places_from}
use Rattle.change_file.specs.Shown.{Shown, shown, key_shown, placed_method, placed_shown}
use Rattle.change_file.proofs.MethodLists.{entry_tells}
use Rattle.change_file.proofs.MethodTexts.{blank}
use Rattle.change_file.proofs.Picked.{shown_end, place_before, method_before, above_nothing, map_twice, members_differ}
use Rattle.change_file.proofs.differences.method_differences.Goals as goal

pub overflow_sub-method : goal.overflow_sub-method
overflow_sub-method c =
    let i = image_of c.in_ok-before.before.image.now in
    let stay = method_stays i (image_of c.in_ok-after.after.image.now) in
    let xs = user_methods i in
    let ps = c.deref-method-items.result.now in
    let same : map (λ (q : PlacedMethod). q.place) ps ≡ map (λ (q : PlacedOf (EntryOf Text)). q.place) (differing_from 1 stay xs) =
    map_twice placed_method (λ (q : PlacedOf Shown). q.place) ps
    ∙ ap (map (λ (q : PlacedOf Shown). q.place)) (ap (map placed_method) c.deref-method-items.ensures.value ∙ c.in_ok-differing.ensures)
    ∙ sym (map_twice placed_shown (λ (q : PlacedOf Shown). q.place) (differing_from 1 stay xs)) in
    above_nothing stay (λ (q : PlacedMethod). q.place) ps xs c.loop-method.method-index (record { place = 0; item = blank }) same c.loop-method-test.true

pub returns : goal.returns
returns c =
    let s = c.args.earlier.now in
    let t = c.args.later.now in
    let b = c.in_ok-before.ensures.image in
    let a = c.in_ok-after.ensures.image in
    let xs = user_methods (image_of s) in
    let ys = user_methods (image_of t) in
    let key = λ (e : EntryOf Text). key_shown (shown e) in
    let places : c.as_slice-2.result.now ≡ map place_before (differing_from 1 (method_stays (image_of s) (image_of t)) xs) =
    c.as_slice-2.ensures.value
    ∙ shown_end method_before c.deref-method-items.result.now c.loop-method.method-index c.loop-method.places.items _ c.loop-method-test.false c.loop-method.invariant
    ∙ ap (map method_before) c.deref-method-items.ensures.value
    ∙ map_twice placed_method place_before c.in_ok-differing.differing.items
    ∙ ap (map place_before) c.in_ok-differing.ensures
    ∙ (λ j. map place_before (map placed_shown (differing_from 1 (method_stays (image_of (b j)) (image_of (a j))) (user_methods (image_of (b j))))))
    ∙ sym (map_twice placed_shown place_before (differing_from 1 (method_stays (image_of s) (image_of t)) xs)) in
    let keys : c.in_ok-before.before.keys ≡ map key xs = c.in_ok-before.ensures.methods.keys ∙ ap (λ (u : Slots). map key (user_methods (image_of u))) b in
    let others : c.in_ok-after.after.keys ≡ map key ys = c.in_ok-after.ensures.methods.keys ∙ ap (λ (u : Slots). map key (user_methods (image_of u))) a in
    let lone : c.as_slice-4.result.now ≡ places_from 0 (λ k. not (is_listed (map key xs) k)) (map key ys) =
    c.as_slice-4.ensures.value ∙ c.in_ok-lone.ensures ∙ (λ j. places_from 0 (λ k. not (is_listed (keys j) k)) (others j)) in
    IfOk-weaker c.members.result _ _
    (λ found is.
    members_differ key is_counterpart is_equal_method entry_tells (method_in s) (method_in t) xs ys c.as_slice.result.now c.as_slice-3.result.now
    (ap (map (method_in s)) c.as_slice.ensures.value ∙ c.in_ok-slots.ensures) (ap (map (method_in t)) c.as_slice-3.ensures.value ∙ c.in_ok-later_slots.ensures)
    c.as_slice-2.result.now c.as_slice-4.result.now found.items places lone is)
    c.members.ensures
