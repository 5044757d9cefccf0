use Rattle.std.proofs.Common.{◌∙◌}
use Rattle.file_out_laws.proofs.KernelReached.{agree-on-reached}
use Rattle.file_out_laws.proofs.lookups.law_lookups_agree.Goals as goal

pub returns-clause-run : goal.returns-clause-run
returns-clause-run k dialect kernel before after r n is valid valid_after agree =
    let behind = k.every_image_may_be_renamed.ensures.behind_kernel dialect kernel before is valid in
    let behind_after = k.every_image_may_be_renamed.ensures.behind_kernel dialect kernel after is valid_after in
    let classes = k.kernel_has_these_classes.ensures dialect kernel is in
    k.law_lookups_agree_on.ensures.run r before after n behind.ordered behind_after.ordered
    (agree-on-reached r before after behind.ordered behind_after.ordered (valid.kernel_classes ∙ classes) (valid_after.kernel_classes ∙ classes) behind.words agree)

pub returns-clause-matched : goal.returns-clause-matched
returns-clause-matched k dialect kernel before after r is valid valid_after agree =
    let behind = k.every_image_may_be_renamed.ensures.behind_kernel dialect kernel before is valid in
    let behind_after = k.every_image_may_be_renamed.ensures.behind_kernel dialect kernel after is valid_after in
    let classes = k.kernel_has_these_classes.ensures dialect kernel is in
    k.law_lookups_agree_on.ensures.matched r before after behind.ordered behind_after.ordered
    (agree-on-reached r before after behind.ordered behind_after.ordered (valid.kernel_classes ∙ classes) (valid_after.kernel_classes ∙ classes) behind.words agree)
