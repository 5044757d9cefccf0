-- What an error of the program stands for.
use Rattle.run_model.specs.Values.{RunError, does_not_understand, cannot_return, non_boolean, undeclared_name, not_assignable, unsupported, reflective, overflow, divide_by_zero, bad_index, bad_argument, wrong_arity, too_long, user_error}
use Rattle.st_meaning.specs.declared.error.RunErrorKind.{RunErrorKind}
use Rattle.st_meaning.specs.declared.error.RunErrorKind.TheVariants as kind

-- the error of runs
abbrev pub error_of : RunErrorKind → RunError
error_of (kind.DoesNotUnderstand c meta s) = does_not_understand c meta s
error_of kind.CannotReturn = cannot_return
error_of kind.NonBoolean = non_boolean
error_of (kind.Undeclared n) = undeclared_name n
error_of (kind.NotAssignable n) = not_assignable n
error_of kind.Unsupported = unsupported
error_of kind.Reflective = reflective
error_of kind.Overflow = overflow
error_of kind.DivideByZero = divide_by_zero
error_of kind.BadIndex = bad_index
error_of (kind.BadArgument n) = bad_argument n
error_of (kind.WrongArity n) = wrong_arity n
error_of kind.TooLong = too_long
error_of (kind.UserError t) = user_error t
