-- The bytes of a text, which stand in it or in memory of their own.
use Rattle.std.specs.Prelude.{ℕ, List}
use Rattle.rb_base.specs.declared.text.Bytes.{Bytes}
use Rattle.rb_base.specs.declared.text.Bytes.TheVariants.{Short, Long}

-- the bytes, wherever they stand
abbrev pub bytes_of : Bytes → List ℕ
bytes_of (Short b) = b
bytes_of (Long b) = b.value.items
