use Rattle.std.proofs.Common.{ℕ, List, ◌++◌, map, ◌∙◌}
use Rattle.std.specs.Prelude.{filter, nat_eq}
use Rattle.std.specs.List.{flat_map}
use Rattle.std.proofs.lemmas.Result.{on_ok_weaker}
use Rattle.tree_model.specs.Nodes.{nodes}
use Rattle.image_model.specs.Image.{EntryOf}
use Rattle.refusal_witnesses.specs.Witnesses.{OwnerOf, AWhole}
use Rattle.witness_lists.specs.declared.witness.Owner.TheVariants as owner
use Rattle.witness_lists.specs.Views.{owner_of, shown}
use Rattle.part_witnesses.specs.Changed.{declared_at}
use Rattle.part_witnesses.specs.Held.{held_as}
use Rattle.part_witnesses.proofs.Pushed.{third}
use Rattle.part_witnesses.proofs.declarations.declarations.Goals as goal

pub returns : goal.returns
returns c =
    let s = c.args.image.now in
    let m : EntryOf ℕ = held_as s.classes c.args.method.now in
    let x = c.args.name in
    let old = shown s c.args.found.now.items in
    let wholes = λ (o : OwnerOf ℕ) (ns : List ℕ). map (λ (y : ℕ). AWhole o) (filter (nat_eq x) ns) in
    let blocks = λ (o : OwnerOf ℕ). flat_map (declared_at o x) (nodes m.tree.body) in
    let o = owner_of s (owner.Method c.args.method.now.slot) in
    on_ok_weaker c.block_declarations.result
    (λ e. e
    ∙ third (shown s c.wholes.new.found.items) (shown s c.wholes-2.new.found.items) old (wholes o c.as_slice.result.now) (wholes o c.as_slice-2.result.now) (blocks o) (c.in_ok-wholes.ensures s) (c.in_ok-wholes-2.ensures s)
    ∙ (λ j. old ++ (wholes (c.requires.owner j) (c.as_slice.ensures j) ++ (wholes (c.requires.owner j) (c.as_slice-2.ensures j) ++ blocks (c.requires.owner j)))))
    c.block_declarations.ensures
