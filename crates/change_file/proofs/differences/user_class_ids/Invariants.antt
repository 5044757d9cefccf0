use Rattle.std.proofs.Common.{◌≡◌, ◌++◌, drop, map, Some}
use Rattle.change_file.specs.Members.{class_in}
use Rattle.change_file.proofs.ClassLists.{user_texts}
use Rattle.change_file.proofs.differences.user_class_ids.Given as goal

abbrev pub invariant-loop-id : goal.invariant-loop-id
invariant-loop-id l = map (class_in l.image) l.ids.items ++ map Some (user_texts l.image (drop l.id-index l.id-items)) ≡ map Some (user_texts l.image l.id-items)
