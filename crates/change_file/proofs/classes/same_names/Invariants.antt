use Rattle.std.proofs.Common.{◌≡◌, drop, map}
use Rattle.rb_base.specs.Names.{name_at}
use Rattle.change_model.specs.Equal.{names_eq}
use Rattle.change_file.proofs.classes.same_names.Given as goal

abbrev pub invariant-loop-place : goal.invariant-loop-place
invariant-loop-place l =
    names_eq (map (name_at l.names) (drop l.place l.ids)) (map (name_at l.other_names) (drop l.place l.others))
    ≡ names_eq (map (name_at l.names) l.ids) (map (name_at l.other_names) l.others)
