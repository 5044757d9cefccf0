use Rattle.std.proofs.Common.{◌≡◌, ◌≤◌, not, ◌++◌, length, ◌∙◌, arith}
use Rattle.std.specs.Prelude.{nat_eq}
use Rattle.command_model.specs.SameMethods.{same_meaning}
use Rattle.refusal_witnesses.specs.Witnesses.{TwoMeanings, where_true}
use Rattle.witness_lists.specs.Views.{shown}
use Rattle.part_witnesses.specs.Changed.{meaning, changed_name}
use Rattle.part_witnesses.specs.Held.{held_as}
use Rattle.part_witnesses.proofs.Pushed.{taken-more, taken-all}
use Rattle.part_witnesses.proofs.lets.changed_at.Goals as goal

pub loop-name-preserved : goal.loop-name-preserved
loop-name-preserved c =
    let s = c.args.image.now in
    let m = held_as s.classes c.args.method.now in
    let x = c.name-item.result in
    let path = c.args.path.now in
    let read = c.args.read.now in
    let all = shown s c.loop-name.found.items in
    let same : c.means_same-changed.result ≡ same_meaning nat_eq (meaning s m path x) (meaning s m read x) = c.means_same-changed.ensures in
    taken-more (changed_name s m path read) c.args.names.now c.loop-name.name-index x (shown s c.args.found.now.items) all (shown s c.push_meanings_if.new.found.items) c.loop-name-test.true c.name-item.is c.loop-name.invariant
    (c.in_ok-push_meanings_if.ensures s
    ∙ (λ j. all ++ where_true (not (same j)) (TwoMeanings (c.requires.held.owner j) read x (c.meaning_in-before.ensures j) (c.meaning_in-after.ensures j))))

pub returns : goal.returns
returns c =
    let s = c.args.image.now in
    let over : length c.args.names.now ≤ c.loop-name.name-index = omega (arith, c.loop-name-test.false) in
    taken-all (changed_name s (held_as s.classes c.args.method.now) c.args.path.now c.args.read.now) c.args.names.now c.loop-name.name-index over _ _ c.loop-name.invariant
