-- Images in which one class, method or do-it is replaced, or the source or the tree of one.
use Rattle.std.specs.Prelude.{ℕ, List, slice_set}
use Rattle.tree_model.specs.Tree.{MethodOf, SequenceOf}
use Rattle.image_model.specs.Image.{ClassOf, EntryOf, DoItOf, ImageOf}
use Rattle.class_table.specs.Changing.{changed_at}

-- the image with another class at a place
abbrev pub with_other_class : {N : Type 0} → ImageOf N → ℕ → ClassOf N → ImageOf N
with_other_class i p c = record i { classes = slice_set i.classes p c }

-- the image with another method at a place
abbrev pub with_other_method : {N : Type 0} → ImageOf N → ℕ → EntryOf N → ImageOf N
with_other_method i p m = record i { methods = slice_set i.methods p m }

-- the image with another do-it at a place
abbrev pub with_other_doit : {N : Type 0} → ImageOf N → ℕ → DoItOf N → ImageOf N
with_other_doit i n d = record i { doits = slice_set i.doits n d }

-- the image with another source of the method at a place
abbrev pub with_method_source : {N : Type 0} → ImageOf N → ℕ → List ℕ → ImageOf N
with_method_source i p text = record i { methods = changed_at (λ m. record m { source = text }) i.methods p }

-- the image with another tree of the method at a place
abbrev pub with_method_tree : {N : Type 0} → ImageOf N → ℕ → MethodOf N → ImageOf N
with_method_tree i p tree = record i { methods = changed_at (λ m. record m { tree = tree }) i.methods p }

-- the image with another source of the do-it at a place
abbrev pub with_doit_source : {N : Type 0} → ImageOf N → ℕ → List ℕ → ImageOf N
with_doit_source i n text = record i { doits = changed_at (λ d. record d { source = text }) i.doits n }

-- the image with another body of the do-it at a place
abbrev pub with_doit_body : {N : Type 0} → ImageOf N → ℕ → SequenceOf N → ImageOf N
with_doit_body i n body = record i { doits = changed_at (λ d. record d { body = body }) i.doits n }
