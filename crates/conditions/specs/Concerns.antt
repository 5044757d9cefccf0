-- Which conditions are asked of which commands.
use Rattle.std.specs.Prelude.{◌≡◌, ℕ, true, nat_eq}
use Rattle.image_model.specs.Image.{ImageOf}
use Rattle.command_model.specs.Commands.{CommandOf, AddMethod, PushUpMethod, PushDownMethod, AddParameter, AbstractInstVar, ExtractMethod, InlineMethod, ExtractTemp, InlineTemp}
use Rattle.command_model.specs.Conditions.{ConditionOf, Unreached, OneTarget, Shallow}
use Rattle.command_model.specs.Hierarchy.{is_class}

-- a condition on who finds another method is asked for the selector of the method that comes or moves; one on what a class finds, of a class that is there; and one on heights, where a parameter comes or code moves
abbrev pub Concerns : ImageOf ℕ → CommandOf ℕ → ConditionOf ℕ → Type 0
Concerns i (AddMethod c meta protocol text tree) (Unreached s) = s ≡ tree.selector
Concerns i (PushUpMethod c meta t) (Unreached s) = s ≡ t
Concerns i (PushDownMethod c meta t) (Unreached s) = s ≡ t
Concerns i (AddParameter s t x passed) Shallow = Unit {0}
Concerns i (AbstractInstVar c x setter given) Shallow = Unit {0}
Concerns i (ExtractMethod c meta s from to t) Shallow = Unit {0}
Concerns i (InlineMethod c meta s from to) Shallow = Unit {0}
Concerns i (ExtractTemp c meta s from to x) Shallow = Unit {0}
Concerns i (InlineTemp c meta s x) Shallow = Unit {0}
Concerns i command Shallow = ⊥
Concerns i command (OneTarget c meta s) = is_class nat_eq i c ≡ true
Concerns i command condition = Unit {0}
