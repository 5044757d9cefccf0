use Rattle.std.proofs.Common.{◌≡◌, ◌++◌, [], drop}
use Rattle.std.specs.List.{flat_map}
use Rattle.strip_model.specs.Reach.{class_meant}
use Rattle.image_strip.specs.Code.{method_at}
use Rattle.image_strip.proofs.code.method_classes.Given as goal

abbrev pub invariant-loop-name : goal.invariant-loop-name
invariant-loop-name l =
    l.classes ++ flat_map (λ n. class_meant ((method_at l.image l.class l.meta l.tree).0 [] n)) (drop l.name-index l.name-items)
    ≡ flat_map (λ n. class_meant ((method_at l.image l.class l.meta l.tree).0 [] n)) l.name-items
