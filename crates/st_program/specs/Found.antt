-- Methods as a run sees them.
use Rattle.std.specs.Prelude.{List, [], false}
use Rattle.rb_base.specs.Names.{name_at}
use Rattle.tree_model.specs.Tree.{map_method}
use Rattle.st_tree.specs.View.{method_of}
use Rattle.image_model.specs.Image.{EntryOf}
use Rattle.run_model.specs.Values.{Name}
use Rattle.st_program.specs.declared.found.Found.{Found}

-- the method without what no run sees of it
abbrev pub bare : EntryOf Name → EntryOf Name
bare m = record { class = m.class; meta = m.meta; protocol = []; source = []; tree = m.tree; kernel = false }

-- the method that was found, without what no run sees of it
abbrev pub entry_from : List Name → Found → EntryOf Name
entry_from names f = record {
  class = f.class;
  meta = f.meta;
  protocol = [];
  source = [];
  tree = map_method (name_at names) (method_of f.tree.now);
  kernel = false;
}
