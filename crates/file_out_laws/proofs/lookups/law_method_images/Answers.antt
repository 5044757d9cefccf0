use Rattle.rename_model.specs.ClassRenamed.{canonical}
use Rattle.file_out_laws.proofs.lookups.law_method_images.Goals as goal

pub returns-clause-added : goal.returns-clause-added
returns-clause-added k dialect kernel image c meta protocol text tree is valid none =
    k.law_method_commands.ensures.added canonical image c meta protocol text tree (k.every_image_may_be_renamed.ensures.behind_kernel dialect kernel image is valid).ordered (k.every_image_has_kernel_chains.ensures dialect kernel image is valid) none

pub returns-clause-removed : goal.returns-clause-removed
returns-clause-removed k dialect kernel image c meta s is valid none =
    k.law_method_commands.ensures.removed canonical image c meta s (k.every_image_may_be_renamed.ensures.behind_kernel dialect kernel image is valid).ordered none

pub returns-clause-pushed_up : goal.returns-clause-pushed_up
returns-clause-pushed_up k dialect kernel image c meta s is valid none =
    k.law_method_commands.ensures.pushed_up canonical image c meta s (k.every_image_may_be_renamed.ensures.behind_kernel dialect kernel image is valid).ordered (k.every_image_has_kernel_chains.ensures dialect kernel image is valid) none

pub returns-clause-pushed_down : goal.returns-clause-pushed_down
returns-clause-pushed_down k dialect kernel image c meta s is valid none =
    k.law_method_commands.ensures.pushed_down canonical image c meta s (k.every_image_may_be_renamed.ensures.behind_kernel dialect kernel image is valid).ordered (k.every_image_has_kernel_chains.ensures dialect kernel image is valid) none
