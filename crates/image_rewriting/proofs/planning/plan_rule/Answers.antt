use Rattle.std.proofs.Common.{List, refl, sym, ap, subst, ◌∙◌}
use Rattle.std.proofs.lemmas.List.{take_all}
use Rattle.event_trees.proofs.Known.{Grows-none, Grows-twice}
use Rattle.class_table.specs.declared.record.Place.{Place}
use Rattle.class_table.specs.Slots.{Slots}
use Rattle.class_table.specs.Valid.{IsOrderly}
use Rattle.image_rewriting.specs.Planned.{renamed, IsFound}
use Rattle.image_rewriting.proofs.Effects.{found-plan}
use Rattle.image_rewriting.proofs.Grown.{still-orderly}
use Rattle.image_rewriting.proofs.Places.{FoundSoFar, found-none, found-same, found-more, found-in}
use Rattle.image_rewriting.proofs.SameRule.{still-known}
use Rattle.image_rewriting.proofs.planning.plan_rule.Goals as goal
use Rattle.image_rewriting.proofs.planning.plan_rule.Goals.{in-Some+in_ok-push+in_ok-push-2, in_default}

pub loop-place-init : goal.loop-place-init
loop-place-init g c = record {
  rest = refl;
  grows = Grows-none c.args.image.now.names;
  once = c.requires.orderly.names_distinct;
  found = found-none c.args.image.now c.args.image.now.names c.args.rule.now c.new-changes.result c.new-touched.result.items c.new-changes.ensures c.new-touched.ensures.items;
}

pub code_change-requires-clause-orderly : goal.code_change-requires-clause-orderly
code_change-requires-clause-orderly g c =
    let s = c.args.image.now in
    let i = c.loop-place.invariant in
    subst IsOrderly (sym i.rest) (still-orderly s c.loop-place.image.names c.requires.orderly i.grows i.once)

pub code_change-requires-clause-rule : goal.code_change-requires-clause-rule
code_change-requires-clause-rule g c = still-known c.args.image.now.names c.loop-place.image.names c.args.rule.now c.loop-place.invariant.grows c.requires.rule

pub loop-place-preserved : goal.loop-place-preserved
loop-place-preserved g c =
    let s = c.args.image.now in
    let i = c.loop-place.invariant in
    let t = c.loop-place.image in
    let u = c.code_change.new.image in
    let here = found-in s t u.names c.args.rule.now c.place-item.result _ i.rest c.in_ok-change.ensures.found in
    record {
      rest = c.code_change.ensures.rest ∙ (λ j. record (i.rest j) { names = u.names });
      grows = Grows-twice i.grows c.code_change.ensures.grows;
      once = c.code_change.ensures.once;
      found =
          elim c.match-branch-3.branch [
            | in-Some+in_ok-push+in_ok-push-2 w ↦
                found-more s t.names u.names c.args.rule.now c.as_slice-place-items.result.now c.loop-place.place-index c.place-item.result c.loop-place-test.true c.place-item.is c.loop-place.changes c.loop-place.touched.items
                c.code_change.ensures.grows i.found w.in-Some.change (subst (IsFound s u.names c.args.rule.now c.place-item.result) w.in-Some.is here) c.match-branch-3.changes c.match-branch-3.touched.items
                (w.changes-is ∙ w.in_ok-push.ensures.ok) (ap (λ v. v.items) w.touched-is ∙ w.in_ok-push-2.ensures.items)
            | in_default w ↦
                found-same s t.names u.names c.args.rule.now c.as_slice-place-items.result.now c.loop-place.place-index c.place-item.result c.loop-place-test.true c.place-item.is c.loop-place.changes c.loop-place.touched.items
                c.code_change.ensures.grows i.found (subst (IsFound s u.names c.args.rule.now c.place-item.result) w.in_default.is here) c.match-branch-3.changes c.match-branch-3.touched.items w.changes-is (ap (λ v. v.items) w.touched-is)
          ];
    }

pub returns-clause-plan : goal.returns-clause-plan
returns-clause-plan g c =
    let s = c.args.image.now in
    let i = c.loop-place.invariant in
    let t = c.loop-place.image in
    let all = take_all c.loop-place.place-index c.as_slice-place-items.result.now c.loop-place-test.false ∙ c.as_slice-place-items.ensures.value ∙ c.in_ok-places.ensures in
    found-plan s t c.args.rule.now c.loop-place.changes c.loop-place.touched.items c.requires.orderly c.requires.rule i.rest i.grows i.once
    (subst (λ (ps : List Place). FoundSoFar s t.names c.args.rule.now ps c.loop-place.changes c.loop-place.touched.items) all i.found)
