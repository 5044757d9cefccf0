use Rattle.std.proofs.Common.{ℕ, sym, ap, subst, ◌∙◌}
use Rattle.std.proofs.lemmas.List.{take_all}
use Rattle.reference_index.specs.Mentioned.{ListsPlaces}
use Rattle.parameter_plans.specs.Given.{remaking_of}
use Rattle.remade_plans.specs.Remade.{changes_at, touched}
use Rattle.parameter_plans.proofs.Planned.{is_plan}
use Rattle.remade_plans.proofs.SoFar.{next-some, next-none}
use Rattle.parameter_plans.proofs.planning.plan_parameter.Goals as goal
use Rattle.parameter_plans.proofs.planning.plan_parameter.Goals.{in-Some+in_ok-push+in_ok-push-2, in_default}

pub loop-place-preserved : goal.loop-place-preserved
loop-place-preserved g c =
    let s = c.args.image.now in
    let r = remaking_of c.args.parameter.now in
    let places = c.listed-place-items.result.now in
    elim c.match-branch-2.branch [
      | in-Some+in_ok-push+in_ok-push-2 w ↦
          next-some s r places c.loop-place.place-index c.place-item.result c.loop-place-test.true c.place-item.is c.loop-place.changes c.loop-place.touched.items
          w.in-Some.change c.match-branch-2.changes c.match-branch-2.touched.items (sym w.in-Some.is ∙ c.in_ok-change.ensures)
          (w.changes-is ∙ w.in_ok-push.ensures.ok) (ap (λ v. v.items) w.touched-is ∙ w.in_ok-push-2.ensures.items) c.loop-place.invariant
      | in_default w ↦
          next-none s r places c.loop-place.place-index c.place-item.result c.loop-place-test.true c.place-item.is c.loop-place.changes c.loop-place.touched.items
          c.match-branch-2.changes c.match-branch-2.touched.items (sym w.in_default.is ∙ c.in_ok-change.ensures) w.changes-is (ap (λ v. v.items) w.touched-is) c.loop-place.invariant
    ]

pub returns : goal.returns
returns g c =
    let s = c.args.image.now in
    let r = remaking_of c.args.parameter.now in
    let places = c.listed-place-items.result.now in
    let all = take_all c.loop-place.place-index places c.loop-place-test.false in
    is_plan s c.args.parameter.now c.args.index.now places c.loop-place.changes c.loop-place.touched.items
    c.requires.orderly (c.law_known.ensures s c.args.parameter.now c.requires.orderly c.requires.known) c.requires.index
    (subst (λ (n : ℕ). ListsPlaces c.args.index.now n places) c.selector.ensures c.listed-place-items.ensures)
    (c.loop-place.invariant.changes_are ∙ ap (changes_at s r) all) (c.loop-place.invariant.touched_are ∙ ap (touched s r) all)
