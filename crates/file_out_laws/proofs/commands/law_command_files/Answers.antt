use Rattle.file_out_laws.proofs.commands.law_command_files.Goals as goal

pub returns : goal.returns
returns k dialect text image command is keeps none = k.law_commands.ensures dialect is.kernel image command is.is_kernel (k.every_image_is_valid.ensures.valid dialect text is.kernel image is.is_kernel is) keeps none
