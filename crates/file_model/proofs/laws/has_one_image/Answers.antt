use Rattle.file_model.proofs.OneImage.{image_or_refusal, one_image, one_refusal, no_image_where_refused, one_kernel}
use Rattle.file_model.proofs.laws.has_one_image.Goals as goal

pub returns-clause-either : goal.returns-clause-either
returns-clause-either c = image_or_refusal

pub returns-clause-not_both : goal.returns-clause-not_both
returns-clause-not_both c = no_image_where_refused

pub returns-clause-one_image : goal.returns-clause-one_image
returns-clause-one_image c = one_image

pub returns-clause-one_refusal : goal.returns-clause-one_refusal
returns-clause-one_refusal c = one_refusal

pub returns-clause-one_kernel : goal.returns-clause-one_kernel
returns-clause-one_kernel c = one_kernel
