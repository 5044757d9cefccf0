-- Images without what no run looks at: sources, comments, categories, protocols, and which part is the kernel's.
use Rattle.std.specs.Prelude.{[], map, false}
use Rattle.tree_model.specs.Bare.{bare_sequence, bare_method}
use Rattle.image_model.specs.Image.{ClassOf, EntryOf, DoItOf, ImageOf}

-- the class without category and comment
abbrev pub bare_class : {N : Type 0} → ClassOf N → ClassOf N
bare_class c = record c { category = []; comment = []; kernel = false }

-- the method without protocol, source and comments
abbrev pub bare_entry : {N : Type 0} → EntryOf N → EntryOf N
bare_entry m = record m { protocol = []; source = []; tree = bare_method m.tree; kernel = false }

-- the do-it without source and comments
abbrev pub bare_doit : {N : Type 0} → DoItOf N → DoItOf N
bare_doit d = record { source = []; body = bare_sequence d.body }

-- the image without all these
abbrev pub bare_image : {N : Type 0} → ImageOf N → ImageOf N
bare_image i = record { classes = map bare_class i.classes; methods = map bare_entry i.methods; doits = map bare_doit i.doits; heads = 0 }
