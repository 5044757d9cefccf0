-- Images in which names are changed at their places, when what they mean is mapped.
use Rattle.std.specs.Prelude.{◌≡◌, None, option_map}
use Rattle.std.specs.List.{AllZip}
use Rattle.scope_model.specs.Scope.{method_scope, doit_scope}
use Rattle.image_model.specs.Image.{ClassOf, EntryOf, DoItOf, ImageOf}
use Rattle.run_model.specs.Values.{Name}
use Rattle.run_model.specs.Runs.{doit_class}
use Rattle.resolved_model.specs.Resolving.{meant_in, meant_in_doit}
use Rattle.mapped_model.specs.NameMaps.{NameMaps}
use Rattle.mapped_model.specs.MappedImages.{class_or_none}
use Rattle.mapped_model.specs.ChangedTrees.{NewNames, changed_scope, MeaningsAreMapped}

-- a class has the mapped name and the mapped superclass
pub record IsChangedClass (f : NameMaps) (c d : ClassOf Name) : Type 0 where
  pub name : d.name ≡ f.class c.name
  pub superclass : d.superclass ≡ option_map f.class c.superclass

-- A method of the image j is one of the image i with new names: its class and selector are mapped; and where it is no primitive, names are changed at their places, and what they mean is mapped.
pub record IsChangedMethod (f : NameMaps) (i j : ImageOf Name) (m n : EntryOf Name) : Type 0 where
  pub class : n.class ≡ option_map f.class m.class
  pub meta : n.meta ≡ m.meta
  pub selector : n.tree.selector ≡ f.selector m.tree.selector
  pub primitive : n.tree.primitive ≡ m.tree.primitive
  pub names : NewNames
  pub scope : m.tree.primitive ≡ None → method_scope n.tree ≡ changed_scope names f.selector (method_scope m.tree)
  pub meanings : m.tree.primitive ≡ None → MeaningsAreMapped f (class_or_none m.class) names (method_scope m.tree) (meant_in i m) (meant_in j n)

-- the same of a do-it
pub record IsChangedDoIt (f : NameMaps) (i j : ImageOf Name) (d e : DoItOf Name) : Type 0 where
  pub names : NewNames
  pub scope : doit_scope e.body ≡ changed_scope names f.selector (doit_scope d.body)
  pub meanings : MeaningsAreMapped f (class_or_none (doit_class i)) names (doit_scope d.body) (meant_in_doit i d) (meant_in_doit j e)

-- the same of an image, with classes, methods and do-its in order
pub record IsChangedImage (f : NameMaps) (i j : ImageOf Name) : Type 0 where
  pub classes : AllZip (IsChangedClass f) i.classes j.classes
  pub methods : AllZip (IsChangedMethod f i j) i.methods j.methods
  pub doits : AllZip (IsChangedDoIt f i j) i.doits j.doits
