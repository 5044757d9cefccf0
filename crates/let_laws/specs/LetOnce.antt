-- An image and the one in which a temporary of one method is gone.
use Rattle.std.specs.Prelude.{◌≡◌, List, [], ◌∷◌, ◌++◌}
use Rattle.tree_model.specs.Tree.{MethodOf}
use Rattle.image_model.specs.Image.{EntryOf, ImageOf}
use Rattle.run_model.specs.Values.{Name}
use Rattle.resolved_model.specs.Environments.{code_in}
use Rattle.unfolded_places.specs.Standing.{outer_of}
use Rattle.let_laws.specs.Lets.{LetIn}

-- In one method a temporary that is set once is gone, and what it was set to stands where it was read. Comments and sources are free: once names are resolved, both methods have the code of such trees.
pub record IsLetOnce (i j : ImageOf Name) : Type 0 where
  pub earlier : List (EntryOf Name)
  pub later : List (EntryOf Name)
  pub method : EntryOf Name
  pub methods : i.methods ≡ earlier ++ method ∷ later
  pub setting : MethodOf Name
  pub inlined : MethodOf Name
  pub step : LetIn (outer_of i method) setting inlined
  pub code_before : code_in (outer_of i method) [] setting.arguments setting.body ≡ code_in (outer_of i method) [] method.tree.arguments method.tree.body
  pub changed : EntryOf Name
  pub code_after : code_in (outer_of i method) [] inlined.arguments inlined.body ≡ code_in (outer_of i method) [] changed.tree.arguments changed.tree.body
  pub class : method.class ≡ changed.class
  pub meta : method.meta ≡ changed.meta
  pub selector : method.tree.selector ≡ changed.tree.selector
  pub primitive : method.tree.primitive ≡ changed.tree.primitive
  pub after : j ≡ record i { methods = earlier ++ changed ∷ later }
