use Rattle.run_texts.proofs.errors.write_error.Goals as goal

pub returns-in-NotAssignable : goal.returns-in-NotAssignable
returns-in-NotAssignable c =
    rw (← c.error.view_is, c.in-NotAssignable.is, ← c.as_slice-in-NotAssignable.ensures) c.write_pair-in-NotAssignable.ensures

pub returns-in-Unsupported : goal.returns-in-Unsupported
returns-in-Unsupported c = rw (← c.error.view_is, c.in-Unsupported.is) c.push_slice-in-Unsupported.ensures.ok

pub returns-in-DivideByZero : goal.returns-in-DivideByZero
returns-in-DivideByZero c = rw (← c.error.view_is, c.in-DivideByZero.is) c.push_slice-in-DivideByZero.ensures.ok

pub returns-in-BadArgument : goal.returns-in-BadArgument
returns-in-BadArgument c = rw (← c.error.view_is, c.in-BadArgument.is) c.write_numbered.ensures
