-- Ways back.
use Rattle.image_model.specs.Image.{ImageOf}
use Rattle.run_model.specs.Values.{Name}
use Rattle.run_model.specs.Renamings.{Renaming}
use Rattle.run_model.specs.Matched.{AreMatched}

-- maps with which an image is matched by the one before
pub record HasWayBack (before after : ImageOf Name) : Type 0 where
  pub back : Renaming
  pub matched : AreMatched after before back
