use Rattle.refusal_lines.proofs.conditions.push_code_condition.Goals as goal

pub returns-in-PlainArguments-clause-told : goal.returns-in-PlainArguments-clause-told
returns-in-PlainArguments-clause-told c = rw c.in-PlainArguments.is c.push_counted-in-PlainArguments.ensures.told

pub returns-in-AtomLiteral-clause-told : goal.returns-in-AtomLiteral-clause-told
returns-in-AtomLiteral-clause-told c = rw c.in-AtomLiteral.is c.push_title.ensures.told

pub returns-in-NoCapture-clause-told : goal.returns-in-NoCapture-clause-told
returns-in-NoCapture-clause-told c = rw c.in-NoCapture.is c.push_spot.ensures.told

pub returns-in-NoNewControl-clause-told : goal.returns-in-NoNewControl-clause-told
returns-in-NoNewControl-clause-told c = rw c.in-NoNewControl.is c.push_spot-in-NoNewControl.ensures.told

pub returns-in-FirstEvaluated-clause-told : goal.returns-in-FirstEvaluated-clause-told
returns-in-FirstEvaluated-clause-told c = rw c.in-FirstEvaluated.is c.push_part-in-FirstEvaluated.ensures.told
