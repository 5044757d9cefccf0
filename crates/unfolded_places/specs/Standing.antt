-- Parts that unfold to each other where they stand.
use Rattle.std.specs.Prelude.{◌≡◌, Bool, false, codes, List, Option, None}
use Rattle.tree_model.specs.Tree.{TreeOf, var, send, more_trees, no_trees}
use Rattle.scope_model.specs.Control.{is_control}
use Rattle.scope_model.specs.SpecialNames.{control_form}
use Rattle.image_model.specs.Image.{EntryOf, ImageOf}
use Rattle.image_model.specs.Words.{text_words}
use Rattle.image_model.specs.Means.{MeaningOf, means_outside}
use Rattle.run_model.specs.Values.{Name}
use Rattle.resolved_model.specs.ResolvedTrees.{ResolvedTree, assigning}
use Rattle.resolved_model.specs.ResolvedImages.{ResolvedImage, resolved_image}
use Rattle.resolved_model.specs.ResolvedShapes.{plain_code}
use Rattle.resolved_model.specs.Environments.{Declared, target_in, tree_in}
use Rattle.unfolded_calls.specs.Unfolding.{Allowed, Context, Unfolds}
use Rattle.unfolded_calls.specs.SameContexts.{IsSame}
use Rattle.unfolded_places.specs.ImagesChanged.{PartsOf, StoresOf}

-- a context of a place's class and side, in which nothing changes
pub record IsHere (place : Option (Name × Bool)) (g : Context) (A B : List Declared) : Type 0 where
  pub same : A ≡ B
  pub keeps : IsSame g A
  pub standing : g.place ≡ place

module _ (i : ResolvedImage) (gone : Allowed) (outer : Name → MeaningOf Name) where
  -- each part unfolds to the other one in such contexts
  abbrev pub PartsUnfold : (List Declared → TreeOf Name → TreeOf Name → Type 0) → Option (Name × Bool) → Type 0
  PartsUnfold here place = (g : Context) (A : List Declared) (t u : TreeOf Name) → IsHere place g A A → here A t u → Unfolds i gone g (tree_in outer A t) (tree_in outer A u)

  -- each message to self of one argument unfolds to the assignment, with what stands in place of the argument
  abbrev pub StoresUnfold : (List Declared → Name → Name → Type 0) → Option (Name × Bool) → Type 0
  StoresUnfold stores place =
      (g : Context) (A : List Declared) (s n : Name) (t : TreeOf Name) (x : ResolvedTree) → IsHere place g A A → stores A s n → is_control control_form (send (var (codes "self")) s (more_trees t no_trees)) ≡ false →
      Unfolds i gone g (tree_in outer A t) x → Unfolds i gone g (tree_in outer A (send (var (codes "self")) s (more_trees t no_trees))) (assigning (target_in A (outer n) n) x)

-- no part is a block without parameters, which might be run in place
abbrev pub PartsNoBlocks : (Name → MeaningOf Name) → (List Declared → TreeOf Name → TreeOf Name → Type 0) → Type 0
PartsNoBlocks outer here = (A : List Declared) (t u : TreeOf Name) → here A t u → plain_code (tree_in outer A t) ≡ None

-- what names mean outside the scopes of a method
abbrev pub outer_of : ImageOf Name → EntryOf Name → Name → MeaningOf Name
outer_of i m n = means_outside text_words i m.class m.meta n

module _ (i : ImageOf Name) (gone : Allowed) (here : PartsOf) (stores : StoresOf) where
  -- in each method
  abbrev pub AllPartsUnfold : Type 0
  AllPartsUnfold = (m : EntryOf Name) (place : Option (Name × Bool)) → PartsUnfold (resolved_image i) gone (outer_of i m) (here m place) place

  abbrev pub AllPartsNoBlocks : Type 0
  AllPartsNoBlocks = (m : EntryOf Name) (place : Option (Name × Bool)) → PartsNoBlocks (outer_of i m) (here m place)

  abbrev pub AllStoresUnfold : Type 0
  AllStoresUnfold = (m : EntryOf Name) (place : Option (Name × Bool)) → StoresUnfold (resolved_image i) gone (outer_of i m) (stores m place) place
