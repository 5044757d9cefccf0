use Rattle.inverse_laws.proofs.commands.law_command_files_back.Goals as goal

pub returns : goal.returns
returns k = record {
  matched = λ dialect text image command is moves none.
      k.law_commands_back.ensures.matched dialect is.kernel image command is.is_kernel (k.every_image_is_valid.ensures.valid dialect text is.kernel image is.is_kernel is) moves none;
  runs = λ dialect text image command is keeps none.
      k.law_commands_back.ensures.runs dialect is.kernel image command is.is_kernel (k.every_image_is_valid.ensures.valid dialect text is.kernel image is.is_kernel is) keeps none;
}
