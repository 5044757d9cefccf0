-- An image and the one in which a send of one method is inlined.
use Rattle.std.specs.Prelude.{◌≡◌, ℕ, Bool, false, List, [], ◌∷◌, ◌++◌, Some}
use Rattle.tree_model.specs.Tree.{TreeOf}
use Rattle.tree_model.specs.Path.{part_in, method_replaced}
use Rattle.image_model.specs.Image.{EntryOf, ImageOf}
use Rattle.run_model.specs.Values.{Name}
use Rattle.resolved_model.specs.ResolvedImages.{resolved_entry, resolved_image}
use Rattle.resolved_model.specs.Environments.{opened}
use Rattle.unfolded_calls.specs.Unfolding.{Allowed, IsOpen}
use Rattle.unfolded_places.specs.PartsReplaced.{declared_among, StaysMessageAmong}
use Rattle.unfolded_places.specs.Inlining.{IsInlined}

-- nothing is missing, and nothing is evaluated earlier
abbrev pub none_gone : Allowed
none_gone = record { is_gone = λ s. false; reach = 0 }

-- In a method of a class and side, not of `Class` or a class above it, an expression stands where a path led to a send that it is inlined for, and the node above becomes no control send.
pub record IsInlinedOnce (i j : ImageOf Name) : Type 0 where
  pub earlier : List (EntryOf Name)
  pub later : List (EntryOf Name)
  pub method : EntryOf Name
  pub methods : i.methods ≡ earlier ++ method ∷ later
  pub class : Name
  pub meta : Bool
  pub opens : IsOpen (resolved_image i) none_gone (resolved_entry i method) (class, meta)
  pub path : List ℕ
  pub send : TreeOf Name
  pub found : part_in method.tree.body path ≡ Some send
  pub expression : TreeOf Name
  pub inlined : IsInlined i none_gone method (Some (class, meta)) (declared_among (opened method.tree.arguments method.tree.body.temporaries []) method.tree.body.statements path) send expression
  pub message : StaysMessageAmong method.tree.body.statements path send expression
  pub source : List ℕ
  pub after : j ≡ record i { methods = earlier ++ record method { source = source; tree = method_replaced method.tree path expression } ∷ later }
