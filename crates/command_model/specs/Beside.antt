-- Images with one more do-it.
use Rattle.std.specs.Prelude.{◌≡◌}
use Rattle.image_model.specs.Image.{DoItOf, ImageOf, plus}
use Rattle.command_model.specs.Commands.{CommandOf, RenameClass, RenameInstVar, RenameClassVar, RenameClassSideVar, RenameSelector, AddParameter, RemoveParameter, AbstractInstVar}

-- the later image is the other one with one more do-it, which is its last
pub record HasOneMore {N : Type 0} (i j : ImageOf N) : Type 0 where
  pub last : DoItOf N
  pub added : j ≡ plus i last

-- a command leaves all do-its as they are, whatever they are
abbrev pub LeavesDoIts : {N : Type 0} → CommandOf N → Type 0
LeavesDoIts (RenameClass c d) = ⊥
LeavesDoIts (RenameInstVar c x y) = ⊥
LeavesDoIts (RenameClassVar c x y) = ⊥
LeavesDoIts (RenameClassSideVar c x y) = ⊥
LeavesDoIts (RenameSelector s t) = ⊥
LeavesDoIts (AddParameter s t x passed) = ⊥
LeavesDoIts (RemoveParameter s k t) = ⊥
LeavesDoIts (AbstractInstVar c x setter given) = ⊥
LeavesDoIts command = Unit {0}
