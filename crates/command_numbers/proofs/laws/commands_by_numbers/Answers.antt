use Rattle.std.proofs.Common.{◌<◌, length}
use Rattle.rb_base.specs.Names.{name_at}
use Rattle.rename_model.specs.ClassRenamed.{canonical}
use Rattle.command_model.specs.Asked.{text_asked}
use Rattle.command_model.specs.Numbers.{number_asked, number_writing}
use Rattle.command_numbers.proofs.Named.{needs-named, holds-named, first_false-named, effect-named, judged-named}
use Rattle.command_numbers.proofs.Tables.{KeepsAsked-number_asked, KeepsWriting-number_writing}
use Rattle.command_numbers.proofs.laws.commands_by_numbers.Goals as goal

pub returns-clause-needs : goal.returns-clause-needs
returns-clause-needs c =
    λ names self_number part_of i command distinct p q still. needs-named (λ n. n < length names) (name_at names) (number_asked names self_number part_of) text_asked (KeepsAsked-number_asked names self_number part_of distinct) i command p q still

pub returns-clause-holds : goal.returns-clause-holds
returns-clause-holds c =
    λ names self_number part_of i command condition distinct p q r still. holds-named (λ n. n < length names) (name_at names) (number_asked names self_number part_of) text_asked (KeepsAsked-number_asked names self_number part_of distinct) i command condition p q r still

pub returns-clause-first_false : goal.returns-clause-first_false
returns-clause-first_false c =
    λ names self_number part_of i command distinct p q still. first_false-named (λ n. n < length names) (name_at names) (number_asked names self_number part_of) text_asked (KeepsAsked-number_asked names self_number part_of distinct) i command p q still

pub returns-clause-effect : goal.returns-clause-effect
returns-clause-effect c =
    λ names self_number part_of i command distinct p q still. effect-named (λ n. n < length names) (name_at names) (number_asked names self_number part_of) text_asked (KeepsAsked-number_asked names self_number part_of distinct) (number_writing names) canonical (KeepsWriting-number_writing names) i command p q still

pub returns-clause-judged : goal.returns-clause-judged
returns-clause-judged c =
    λ names self_number part_of i command distinct p q still. judged-named (λ n. n < length names) (name_at names) (number_asked names self_number part_of) text_asked (KeepsAsked-number_asked names self_number part_of distinct) (number_writing names) canonical (KeepsWriting-number_writing names) i command p q still
