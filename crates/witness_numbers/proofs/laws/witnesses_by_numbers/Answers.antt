use Rattle.std.proofs.Common.{◌<◌, length}
use Rattle.rb_base.specs.Names.{name_at}
use Rattle.command_model.specs.Asked.{asked_of_texts}
use Rattle.command_model.specs.Numbers.{number_asked}
use Rattle.code_command_numbers.proofs.Tables.{KeepsMoves-number_asked}
use Rattle.witness_numbers.proofs.Named.{witnesses-named}
use Rattle.witness_numbers.proofs.laws.witnesses_by_numbers.Goals as goal

pub returns : goal.returns
returns c =
    λ names self_number part_of i command condition distinct is_self p q r.
    witnesses-named (λ n. n < length names) (name_at names) (number_asked names self_number part_of) (asked_of_texts part_of) (KeepsMoves-number_asked names self_number part_of distinct is_self) i command condition p q r
