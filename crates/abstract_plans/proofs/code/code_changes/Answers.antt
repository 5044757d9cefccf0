use Rattle.std.proofs.Common.{sym, ap, ◌∙◌}
use Rattle.std.proofs.lemmas.List.{take_all}
use Rattle.remade_plans.specs.Remade.{changes_at, touched}
use Rattle.remade_plans.proofs.SoFar.{next-some, next-none}
use Rattle.abstract_plans.specs.Abstracted.{remaking_of}
use Rattle.abstract_plans.proofs.code.code_changes.Goals as goal
use Rattle.abstract_plans.proofs.code.code_changes.Goals.{in-Some+in_ok-push+in_ok-push-2, in_default}

pub loop-place-preserved : goal.loop-place-preserved
loop-place-preserved g c =
    let s = c.args.image.now in
    let r = remaking_of s c.args.abstraction.now in
    let places = c.listed-place-items.result.now in
    elim c.match-branch-2.branch [
      | in-Some+in_ok-push+in_ok-push-2 w ↦
          next-some s r places c.loop-place.place-index c.place-item.result c.loop-place-test.true c.place-item.is c.loop-place.changes c.loop-place.touched.items
          w.in-Some.change c.match-branch-2.changes c.match-branch-2.touched.items (sym w.in-Some.is ∙ c.in_ok-change.ensures)
          (w.changes-is ∙ w.in_ok-push.ensures.ok) (ap (λ v. v.items) w.touched-is ∙ w.in_ok-push-2.ensures.items) c.loop-place.invariant
      | in_default w ↦
          next-none s r places c.loop-place.place-index c.place-item.result c.loop-place-test.true c.place-item.is c.loop-place.changes c.loop-place.touched.items
          c.match-branch-2.changes c.match-branch-2.touched.items (sym w.in_default.is ∙ c.in_ok-change.ensures) w.changes-is (ap (λ v. v.items) w.touched-is) c.loop-place.invariant
    ]

pub returns : goal.returns
returns g c =
    let s = c.args.image.now in
    let r = remaking_of s c.args.abstraction.now in
    let places = c.listed-place-items.result.now in
    let all = take_all c.loop-place.place-index places c.loop-place-test.false in
    record {
      places = places;
      lists = c.listed-place-items.ensures;
      changes_are = c.loop-place.invariant.changes_are ∙ ap (changes_at s r) all;
      touched_are = c.loop-place.invariant.touched_are ∙ ap (touched s r) all;
    }
