use Rattle.std.proofs.Common.{◌∙◌}
use Rattle.std.specs.List.{slice_split}
use Rattle.chunk_format.specs.Blank.{is_blank}
use Rattle.file_model.specs.Words.{may_name}
use Rattle.chunk_forms.proofs.Strings.{list_all-filled}
use Rattle.chunk_forms.proofs.words.may_name_all.Goals as goal

pub returns : goal.returns
returns c = c.all_may_stand.ensures ∙ list_all-filled may_name (slice_split is_blank c.args.text.now)
