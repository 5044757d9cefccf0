-- The lines of what live slots hold.
use Rattle.std.specs.Prelude.{ℕ, List, [], ◌++◌, codes, if◌then◌else◌}
use Rattle.std.specs.Option.{option_map_or}
use Rattle.rb_base.specs.Names.{name_at}
use Rattle.class_table.specs.declared.record.ClassRec.{ClassRec}
use Rattle.class_table.specs.declared.record.MethodRec.{MethodRec}
use Rattle.class_table.specs.Slots.{Slots}
use Rattle.class_table.specs.View.{live_at}
use Rattle.image_queries.specs.Parts.{title_of}

-- the line of a class, if it is one of a user
abbrev pub class_line : Slots → ClassRec → List ℕ
class_line s c = if c.kernel then [] else codes "class " ++ (name_at s.names c.name ++ codes "\n")

-- the line of a method, if it is one of a user
abbrev pub method_line : Slots → MethodRec → List ℕ
method_line s m = if m.kernel then [] else codes "method " ++ (title_of s.names s.classes m.class m.meta m.tree.selector ++ codes "\n")

-- the line of the class in a slot
abbrev pub class_line_at : Slots → ℕ → List ℕ
class_line_at s k = option_map_or (class_line s) (live_at s.classes s.class_order k) []

-- the line of the method in a slot
abbrev pub method_line_at : Slots → ℕ → List ℕ
method_line_at s k = option_map_or (method_line s) (live_at s.methods s.method_order k) []
