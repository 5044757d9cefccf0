-- Methods by their class, side and tree.
use Rattle.std.specs.Prelude.{ℕ, false, []}
use Rattle.image_model.specs.Image.{EntryOf}
use Rattle.st_tree.specs.View.{method_of}
use Rattle.class_table.specs.Slots.{Slots}
use Rattle.class_table.specs.View.{class_name}
use Rattle.part_questions.specs.declared.code.MethodCode.{MethodCode}

-- such a method without its texts
abbrev pub entry_of : Slots → MethodCode → EntryOf ℕ
entry_of s m = record { class = class_name s.classes m.class; meta = m.meta; protocol = []; source = []; tree = method_of m.tree.now; kernel = false }
