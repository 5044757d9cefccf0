-- The text of the kernel classes.
use Rattle.std.specs.Prelude.{ℕ, List}
use Rattle.st_kernel.specs.declared.kernel_text.TheConstants.{PRELUDE}

-- the text that the program holds
unfoldable pub prelude_text : List ℕ
prelude_text = PRELUDE.now
