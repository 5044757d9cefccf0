use Rattle.std.proofs.Common.{◌≡◌, ◌≤◌, ◌++◌, length, ap, ◌∙◌, arith}
use Rattle.std.specs.Prelude.{nat_eq}
use Rattle.scope_model.specs.NameTests.{is_pseudo_in}
use Rattle.scope_model.specs.Scope.{local_in}
use Rattle.st_tree.specs.View.{method_of}
use Rattle.command_model.specs.Places.{is_of_block}
use Rattle.refusal_witnesses.specs.Witnesses.{TwoMeanings, where_true}
use Rattle.witness_lists.specs.Views.{shown}
use Rattle.part_witnesses.specs.Sending.{captured_free}
use Rattle.part_witnesses.proofs.Pushed.{taken-more, taken-all}
use Rattle.part_witnesses.proofs.captured.captured_free.Goals as goal

pub loop-name-preserved : goal.loop-name-preserved
loop-name-preserved c =
    let s = c.args.image.now in
    let it = c.args.sending.now in
    let x = c.name-item.result in
    let path = c.args.path.now in
    let all = shown s c.loop-name.found.items in
    let declared : c.is_of_block.result ≡ is_of_block (local_in nat_eq (is_pseudo_in s.names) (method_of it.target.now.tree.now) path x) =
    c.is_of_block.ensures ∙ ap is_of_block (c.local_at-local.ensures ∙ ap (λ ns. local_in nat_eq (is_pseudo_in ns) (method_of it.target.now.tree.now) path x) c.names.ensures) in
    taken-more (captured_free s it path) c.args.names.now c.loop-name.name-index x (shown s c.args.found.now.items) all (shown s c.push_meanings_if.new.found.items) c.loop-name-test.true c.name-item.is c.loop-name.invariant
    (c.in_ok-push_meanings_if.ensures s
    ∙ (λ j. all ++ where_true (declared j) (TwoMeanings (c.requires.sending.target.owner j) path x (c.meaning_in-here.ensures j) (c.meaning_in-there.ensures j))))

pub returns : goal.returns
returns c =
    let s = c.args.image.now in
    let over : length c.args.names.now ≤ c.loop-name.name-index = omega (arith, c.loop-name-test.false) in
    taken-all (captured_free s c.args.sending.now c.args.path.now) c.args.names.now c.loop-name.name-index over _ _ c.loop-name.invariant
