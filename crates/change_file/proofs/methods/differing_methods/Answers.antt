use Rattle.std.proofs.Common.{◌≡◌, ℕ, List, Option, ◌+◌, ◌++◌, ◌∙◌, drop, map, get_or, refl, sym, ap, slice_get, Some}
use Rattle.class_table.specs.View.{image_of}
use Rattle.file_model.specs.Written.{user_methods}
use Rattle.change_model.specs.Differs.{differing_from, method_stays}
use Rattle.change_file.specs.declared.methods.PlacedMethod.{PlacedMethod}
use Rattle.change_file.specs.declared.methods.SignedMethod.{SignedMethod}
use Rattle.change_file.specs.Partners.{partner_at, is_partner_equal}
use Rattle.change_file.specs.Shown.{shown_method, is_equal_shown, placed_method, placed_shown}
use Rattle.change_file.proofs.Differing.{method_partner, method_left, method_taken}
use Rattle.change_file.proofs.MethodTexts.{blank, item_there}
use Rattle.change_file.proofs.methods.differing_methods.Goals as goal
use Rattle.change_file.proofs.methods.differing_methods.Goals.{then-not-is_partner_same+in_ok-push, else-not-is_partner_same}

pub loop-number-preserved : goal.loop-number-preserved
loop-number-preserved c =
    let mine = c.args.mine.now in
    let theirs = c.args.theirs.now in
    let i = image_of mine.image.now in
    let n = c.loop-number.number in
    let m = get_or c.deref-item-items.result.now n blank in
    let at : slice_get mine.items.items n ≡ Some m = ap (λ (ms : List SignedMethod). slice_get ms n) (sym c.deref-item-items.ensures.value) ∙ item_there c.deref-item-items.result.now n blank c.loop-number-test.true in
    let xs = user_methods i in
    let stay = method_stays i (image_of theirs.image.now) in
    let rest = map placed_shown (differing_from (n + 1 + 1) stay (drop (n + 1) xs)) in
    let f = method_partner mine theirs n m c.requires.mine c.requires.theirs c.requires.apart c.requires.theirs_apart at in
    let others : map shown_method c.as_slice-in-loop-number.result.now ≡ map shown_method theirs.items.items = ap (map shown_method) c.as_slice-in-loop-number.ensures.value in
    let partner : c.partner_at-partner.result ≡ partner_at _ n = c.partner_at-partner.ensures ∙ ap (λ (os : List (Option ℕ)). partner_at os n) (c.as_slice.ensures.value ∙ c.in_ok-partners.ensures) in
    let same : c.is_partner_same.result ≡ stay f.entry =
    c.is_partner_same.ensures ∙ (λ j. is_partner_equal is_equal_shown (others j) (shown_method m) (partner j)) ∙ f.stays in
    elim c.if-not-is_partner_same.branch [
      | then-not-is_partner_same+in_ok-push w ↦
          ap (λ (ps : List PlacedMethod). map placed_method ps ++ rest) (ap (λ v. v.items) w.found-is ∙ w.in_ok-push.ensures.items)
          ∙ method_taken stay xs n f.entry f.at c.loop-number.found.items _ c.loop-number.invariant _ refl (sym f.shows) (sym same ∙ w.if-not-is_partner_same.true)
      | else-not-is_partner_same w ↦
          ap (λ v. map placed_method v.items ++ rest) w.found-is ∙ method_left stay xs n f.entry f.at c.loop-number.found.items _ c.loop-number.invariant (sym same ∙ w.if-not-is_partner_same.false)
    ]
