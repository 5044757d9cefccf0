-- How parts of sources are looked up does not matter to commands that move no code.
use Rattle.std.proofs.Common.{◌≡◌, ℕ, List, refl}
use Rattle.image_model.specs.Image.{ImageOf}
use Rattle.rename_model.specs.ClassRenamed.{WritingOf}
use Rattle.command_model.specs.Located.{Locating}
use Rattle.command_model.specs.Commands.{CommandOf, RenameClass, AbstractInstVar, ExtractMethod, InlineMethod, ExtractTemp, InlineTemp, MovesNoCode}
use Rattle.command_model.specs.Conditions.{ConditionOf, NoReflection, PartIs, NoReturn, AssignsNoOuter, TempsSteady, ValueUnused, SelfSend, OneTarget, Inlinable, PlainActuals, NoCapture, NoNewControl, LetForm, FirstEvaluated, Shallow}
use Rattle.command_model.specs.Asked.{asked_of_texts}
use Rattle.command_model.specs.Needs.{needs}
use Rattle.command_model.specs.Holds.{holds}
use Rattle.command_model.specs.Effects.{effect}
use Rattle.command_numbers.specs.MappedCommands.{map_command, map_condition}
use Rattle.command_numbers.specs.WithoutMove.{IsWithoutMove}

-- whether a command moves code does not hang on names
pub no_move-mapped : {M N : Type 0} (f : M → N) (command : CommandOf M) → MovesNoCode command → MovesNoCode (map_command f command)
no_move-mapped f (RenameClass c d) still = still
no_move-mapped f command still = still

pub without_move-mapped : {M N : Type 0} (f : M → N) (command : CommandOf M) (condition : ConditionOf M) → IsWithoutMove command condition → IsWithoutMove (map_command f command) (map_condition f condition)
without_move-mapped f command NoReflection still = still
without_move-mapped f command Shallow still = no_move-mapped f command still
without_move-mapped f command condition still = still

module _ (p q : Locating) (i : ImageOf (List ℕ)) where
  -- the conditions
  pub needs-parts : (command : CommandOf (List ℕ)) → MovesNoCode command → needs (asked_of_texts p) i command ≡ needs (asked_of_texts q) i command
  needs-parts (RenameClass c d) still = refl
  needs-parts (AbstractInstVar c x setter given) still = absurd still
  needs-parts (ExtractMethod c meta s from to t) still = absurd still
  needs-parts (InlineMethod c meta s from to) still = absurd still
  needs-parts (ExtractTemp c meta s from to x) still = absurd still
  needs-parts (InlineTemp c meta s x) still = absurd still
  needs-parts command still = refl

  -- which of them hold
  shallow-parts : (command : CommandOf (List ℕ)) → MovesNoCode command → holds (asked_of_texts p) i command Shallow ≡ holds (asked_of_texts q) i command Shallow
  shallow-parts (RenameClass c d) still = refl
  shallow-parts (AbstractInstVar c x setter given) still = absurd still
  shallow-parts (ExtractMethod c meta s from to t) still = absurd still
  shallow-parts (InlineMethod c meta s from to) still = absurd still
  shallow-parts (ExtractTemp c meta s from to x) still = absurd still
  shallow-parts (InlineTemp c meta s x) still = absurd still
  shallow-parts command still = refl

  pub holds-parts : (command : CommandOf (List ℕ)) (condition : ConditionOf (List ℕ)) → IsWithoutMove command condition → holds (asked_of_texts p) i command condition ≡ holds (asked_of_texts q) i command condition
  holds-parts command NoReflection still = refl
  holds-parts command (PartIs c meta s from to) still = absurd still
  holds-parts command (NoReturn c meta s from to) still = absurd still
  holds-parts command (AssignsNoOuter c meta s from to) still = absurd still
  holds-parts command (TempsSteady c meta s from to) still = absurd still
  holds-parts command (ValueUnused c meta s from to) still = absurd still
  holds-parts command (SelfSend c meta s from to) still = absurd still
  holds-parts command (OneTarget c meta s) still = absurd still
  holds-parts command (Inlinable c meta s) still = absurd still
  holds-parts command (PlainActuals c meta s from to) still = absurd still
  holds-parts command (NoCapture c meta s spot) still = absurd still
  holds-parts command (NoNewControl c meta s spot) still = absurd still
  holds-parts command (LetForm c meta s x) still = absurd still
  holds-parts command (FirstEvaluated c meta s from to) still = absurd still
  holds-parts command Shallow still = shallow-parts command still
  holds-parts command condition still = refl

  -- the image after
  pub effect-parts : (writing : WritingOf (List ℕ)) (command : CommandOf (List ℕ)) → MovesNoCode command → effect (asked_of_texts p) writing command i ≡ effect (asked_of_texts q) writing command i
  effect-parts writing (RenameClass c d) still = refl
  effect-parts writing (AbstractInstVar c x setter given) still = absurd still
  effect-parts writing (ExtractMethod c meta s from to t) still = absurd still
  effect-parts writing (InlineMethod c meta s from to) still = absurd still
  effect-parts writing (ExtractTemp c meta s from to x) still = absurd still
  effect-parts writing (InlineTemp c meta s x) still = absurd still
  effect-parts writing command still = refl
