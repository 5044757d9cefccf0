use Rattle.std.proofs.Common.{◌≡◌, None}
use Rattle.run_model.specs.Matched.{AreMatched}
use Rattle.file_model.specs.Filing.{Text}
use Rattle.rename_model.specs.ClassRenamed.{canonical}
use Rattle.command_model.specs.Asked.{text_asked}
use Rattle.command_model.specs.Commands.{CommandOf, MovesNoCode, AddParameter, RemoveParameter, AbstractInstVar, ExtractMethod, InlineMethod, ExtractTemp, InlineTemp, RenameTemp}
use Rattle.command_model.specs.Effects.{effect}
use Rattle.command_model.specs.Judged.{first_false}
use Rattle.command_model.specs.Renamings.{renaming_of}
use Rattle.file_out_laws.proofs.commands.law_matched_commands.Goals as goal

pub returns : goal.returns
returns k dialect kernel image command is valid = by command
  where
    by : (command : CommandOf Text) → MovesNoCode command → first_false text_asked image command ≡ None → AreMatched image (effect text_asked canonical command image) (renaming_of image command)
    by (AddParameter s t x passed) moves none = k.law_changed_parameters.ensures.added dialect kernel image s t x passed is valid none
    by (RemoveParameter s n t) moves none = k.law_changed_parameters.ensures.removed dialect kernel image s t n is valid none
    by (RenameTemp c meta s x y) moves none = (k.law_renamed_temporaries.ensures.image dialect kernel image c meta s x y is valid none).matched
    by (AbstractInstVar c x setter given) moves none = absurd moves
    by (ExtractMethod c meta s from to t) moves none = absurd moves
    by (InlineMethod c meta s from to) moves none = absurd moves
    by (ExtractTemp c meta s from to x) moves none = absurd moves
    by (InlineTemp c meta s x) moves none = absurd moves
    by command moves none = (k.law_commands.ensures dialect kernel image command is valid tt none).matched
