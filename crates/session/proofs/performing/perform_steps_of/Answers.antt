use Rattle.session.proofs.performing.perform_steps_of.Goals as goal

pub returns-in-Single : goal.returns-in-Single
returns-in-Single g c = rw c.in-Single.is c.perform_one.ensures

pub returns-in-CreateAccessors : goal.returns-in-CreateAccessors
returns-in-CreateAccessors g c = rw c.in-CreateAccessors.is c.perform_steps.ensures

pub returns-in-PushUpWithMethods : goal.returns-in-PushUpWithMethods
returns-in-PushUpWithMethods g c = rw c.in-PushUpWithMethods.is c.perform_steps-in-PushUpWithMethods.ensures
