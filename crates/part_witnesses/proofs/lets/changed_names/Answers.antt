use Rattle.std.proofs.Common.{◌≡◌, ◌≤◌, ℕ, List, ◌++◌, length, ap, ◌∙◌, arith}
use Rattle.std.specs.Prelude.{nat_eq}
use Rattle.std.specs.List.{flat_map}
use Rattle.scope_model.specs.FreeNames.{free_names}
use Rattle.scope_model.specs.NameTests.{is_pseudo_in}
use Rattle.st_tree.specs.View.{method_of}
use Rattle.class_table.specs.View.{number_image}
use Rattle.command_model.specs.Asked.{no_parts}
use Rattle.command_model.specs.LetConditions.{let_path}
use Rattle.command_model.specs.Numbers.{number_asked}
use Rattle.command_model.specs.Temporaries.{reads_of}
use Rattle.commands.specs.Views.{asked_by}
use Rattle.let_code.specs.Lets.{let_as}
use Rattle.refusal_witnesses.specs.TemporaryWitnesses as model
use Rattle.refusal_witnesses.specs.Witnesses.{WitnessOf}
use Rattle.witness_lists.specs.Views.{shown}
use Rattle.part_witnesses.specs.Changed.{changed_name}
use Rattle.part_witnesses.specs.Held.{held_as}
use Rattle.part_witnesses.proofs.Pushed.{taken-more, taken-all}
use Rattle.part_witnesses.proofs.lets.changed_names.Goals as goal

pub loop-read-preserved : goal.loop-read-preserved
loop-read-preserved c =
    let s = c.args.image.now in
    let m = held_as s.classes c.args.method.now in
    let e = let_as c.args.assignment.now in
    let r = c.read-item.result in
    let all = shown s c.loop-read.found.items in
    let way : c.in_ok-path.path ≡ let_path e = c.in_ok-path.ensures in
    let free : c.as_slice.result.now ≡ free_names nat_eq (is_pseudo_in s.names) e.value =
    c.as_slice.ensures ∙ c.in_ok-free.ensures ∙ ap (λ (ns : List (List ℕ)). free_names nat_eq (is_pseudo_in ns) e.value) c.names-names.ensures in
    taken-more (model.changed_at (asked_by s.names) (number_image s) m c.args.variable e) c.as_slice-read-items.result.now c.loop-read.read-index r (shown s c.args.found.now.items) all (shown s c.changed_at.new.found.items) c.loop-read-test.true c.read-item.is c.loop-read.invariant
    (c.in_ok-changed_at.ensures ∙ (λ j. all ++ flat_map (changed_name s m (way j) r) (free j)))

pub returns : goal.returns
returns c =
    let s = c.args.image.now in
    let m = held_as s.classes c.args.method.now in
    let e = let_as c.args.assignment.now in
    let items = c.as_slice-read-items.result.now in
    let reads : c.as_slice-read-items.result.now ≡ reads_of (asked_by s.names) (method_of c.args.method.now.tree.now) c.args.variable =
    c.as_slice-read-items.ensures.value ∙ c.in_ok-reads.ensures ∙ ap (λ (ns : List (List ℕ)). reads_of (number_asked ns 0 no_parts) (method_of c.args.method.now.tree.now) c.args.variable) c.names-names.ensures in
    let over : length items ≤ c.loop-read.read-index = omega (arith, c.loop-read-test.false) in
    let f : List ℕ → List (WitnessOf ℕ) = model.changed_at (asked_by s.names) (number_image s) m c.args.variable e in
    taken-all f items c.loop-read.read-index over _ _ c.loop-read.invariant
    ∙ ap (λ (rs : List (List ℕ)). shown s c.args.found.now.items ++ flat_map f rs) reads
