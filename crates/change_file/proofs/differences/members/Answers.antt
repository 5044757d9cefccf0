use Rattle.std.proofs.Common.{◌≡◌, Some, None, slice_get, get_or, ◌∙◌, ap, sym}
use Rattle.std.proofs.lemmas.Option.{slice_get-get_or, slice_get_past}
use Rattle.change_file.specs.declared.differences.Member.TheVariants.{Earlier, Later}
use Rattle.change_file.proofs.Picked.{gathered_taken, gathered_left}
use Rattle.change_file.proofs.differences.members.Goals as goal
use Rattle.change_file.proofs.differences.members.Goals.{in-Some+in_ok-push, in_default, in-Some-get+in_ok-push-2, in_default-get}

pub loop-place-preserved : goal.loop-place-preserved
loop-place-preserved g c =
    let slots = c.args.earlier.now in
    let ns = c.args.differing.now in
    let k = c.loop-place.place-index in
    let n = get_or ns k 0 in
    let at : slice_get ns k ≡ Some n = slice_get-get_or ns k 0 c.loop-place-test.true in
    elim c.match-get.branch [
      | in-Some+in_ok-push w ↦
          let look = w.in-Some.ensures.lookup in
          let there : slice_get slots n ≡ Some w.in-Some.slot.now = slice_get-get_or slots n w.in-Some.slot.now look.3.0 ∙ ap Some (sym look.1) in
          gathered_taken (slice_get slots) Earlier ns k n w.in-Some.slot.now c.loop-place.found.items c.match-get.found.items _ at there c.loop-place.invariant
          (ap (λ v. v.items) w.found-is ∙ w.in_ok-push.ensures.items)
      | in_default w ↦
          let none : slice_get slots n ≡ None = slice_get_past slots n w.in_default.ensures.lookup.3 in
          gathered_left (slice_get slots) Earlier ns k n c.loop-place.found.items c.match-get.found.items _ at none c.loop-place.invariant (ap (λ v. v.items) w.found-is)
    ]

pub loop-place-2-preserved : goal.loop-place-2-preserved
loop-place-2-preserved g c =
    let slots = c.args.later.now in
    let ns = c.args.lone.now in
    let k = c.loop-place-2.place-index in
    let n = get_or ns k 0 in
    let at : slice_get ns k ≡ Some n = slice_get-get_or ns k 0 c.loop-place-2-test.true in
    elim c.match-get-2.branch [
      | in-Some-get+in_ok-push-2 w ↦
          let look = w.in-Some-get.ensures.lookup in
          let there : slice_get slots n ≡ Some w.in-Some-get.slot.now = slice_get-get_or slots n w.in-Some-get.slot.now look.3.0 ∙ ap Some (sym look.1) in
          gathered_taken (slice_get slots) Later ns k n w.in-Some-get.slot.now c.loop-place-2.found.items c.match-get-2.found.items _ at there c.loop-place-2.invariant
          (ap (λ v. v.items) w.found-is ∙ w.in_ok-push-2.ensures.items)
      | in_default-get w ↦
          let none : slice_get slots n ≡ None = slice_get_past slots n w.in_default-get.ensures.lookup.3 in
          gathered_left (slice_get slots) Later ns k n c.loop-place-2.found.items c.match-get-2.found.items _ at none c.loop-place-2.invariant (ap (λ v. v.items) w.found-is)
    ]
