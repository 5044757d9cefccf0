use Rattle.file_model.specs.Changes.{SetClassSide}
use Rattle.image_draft.specs.Drafted.{image_of}
use Rattle.image_draft.proofs.Drafts.{at_kernel}
use Rattle.image_draft.proofs.draft.Draft.apply.Goals as goal

pub returns-in-Comment-clause-made : goal.returns-in-Comment-clause-made
returns-in-Comment-clause-made c = rw c.in-Comment.is (c.comment.ensures.made c.args.kernel)

pub returns-in-SetClassSide-clause-made : goal.returns-in-SetClassSide-clause-made
returns-in-SetClassSide-clause-made c =
    rw c.in-SetClassSide.is (at_kernel c.set_class_side.result (SetClassSide c.in-SetClassSide.class c.in-SetClassSide.names) (image_of c.args.self.now) (image_of c.set_class_side.new.self) c.set_class_side.ensures.made c.args.kernel)

pub returns-in-RemoveMethod-clause-made : goal.returns-in-RemoveMethod-clause-made
returns-in-RemoveMethod-clause-made c = rw c.in-RemoveMethod.is (c.remove_method.ensures.made c.args.kernel)

pub returns-in-RemoveClass-clause-made : goal.returns-in-RemoveClass-clause-made
returns-in-RemoveClass-clause-made c = rw c.in-RemoveClass.is (c.remove_class.ensures.made c.args.kernel)
