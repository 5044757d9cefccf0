use Rattle.std.proofs.Common.{◌≡◌, ◌++◌, take, map}
use Rattle.std.specs.Prelude.{codes}
use Rattle.rb_base.specs.Names.{name_at}
use Rattle.text_model.specs.Pieces.{pieces_behind}
use Rattle.image_file.proofs.strings.write_further_names.Given as goal

abbrev pub invariant-loop-id : goal.invariant-loop-id
invariant-loop-id l = l.out ≡ l.initial.out ++ pieces_behind (codes " ") (map (name_at l.names) (take l.id-index l.ids))
