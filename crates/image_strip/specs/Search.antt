-- What holds while what is reached is searched for.
use Rattle.std.specs.Prelude.{◌≡◌, ℕ, Bool, true, false}
use Rattle.std.specs.List.{list_all}
use Rattle.image_model.specs.Image.{plus}
use Rattle.image_model.specs.Words.{number_words}
use Rattle.st_tree.specs.declared.tree.Sequence.{Sequence}
use Rattle.strip_model.specs.Reach.{ReachOf, is_closed}
use Rattle.class_table.specs.Slots.{Slots}
use Rattle.class_table.specs.View.{number_image}
use Rattle.image_strip.specs.Closed.{start_of}
use Rattle.image_strip.specs.Code.{doit_at}
use Rattle.image_strip.specs.Least.{IsBelow, IsOpened, is_method_settled}
use Rattle.image_strip.specs.Reached.{Marks}
use Rattle.image_strip.specs.SlotsClosed.{class_closed, code_closed, doit_closed}

-- what do-its demand and what methods demand that are marked is marked, no more than in all that is closed, and all is settled where nothing has changed
pub record IsSearch (s : Slots) (start : Sequence) (changed : Bool) (m : Marks) : Type 0 where
  pub start_closed : code_closed m (doit_at s start) ≡ true
  pub doits_closed : list_all (doit_closed s m) s.doits ≡ true
  pub opened : IsOpened s m
  pub sound : (r : ReachOf ℕ) → is_closed (number_words s.names) (plus (number_image s) (start_of start)) r ≡ true → IsBelow s r m
  pub classes_settled : changed ≡ false → list_all (class_closed s m) s.class_order ≡ true
  pub methods_settled : changed ≡ false → list_all (is_method_settled s m) s.method_order ≡ true
