use Rattle.std.proofs.Common.{rules, ◌≡◌, ◌++◌, flat_map}
use Rattle.strip_texts.specs.Lines.{class_line_at, method_line_at}
use Rattle.strip_texts.proofs.LinesLeft.{lines-told}
use Rattle.strip_texts.proofs.sets.write_sets.Goals as goal

pub returns-clause-written : goal.returns-clause-written
returns-clause-written c =
    let classes : c.push_classes.new.out ≡ flat_map (class_line_at c.args.image.now) c.args.image.now.class_order = search rules in
    let lines : c.push_methods.new.out ≡ c.push_classes.new.out ++ flat_map (method_line_at c.args.image.now) c.args.image.now.method_order = search rules in
    lines-told c.args.image.now c.args.out.now c.push_classes.new.out c.push_methods.new.out _ c.push_slice.result classes lines (search rules)
