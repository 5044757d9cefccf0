use Rattle.std.proofs.Common.{◌≡◌, true, false, rules}
use Rattle.name_meanings.specs.Meanings.{meaning_of}
use Rattle.abstracted_code.proofs.Meant.{doit-out, doit-unused, doit-made}
use Rattle.abstracted_code.proofs.abstracted.abstracted_doit.Goals as goal

pub returns-then-not-is_meant : goal.returns-then-not-is_meant
returns-then-not-is_meant c =
    let none : c.is_meant.result ≡ false = search rules in
    doit-out c.args.image.now c.args.abstraction.now c.args.body (meaning_of c.doit_meaning-outside.result) c.new-top.result c.is_meant.result
    c.new-top.ensures c.doit_meaning-outside.ensures c.is_meant.ensures none

pub returns-then-not-used : goal.returns-then-not-used
returns-then-not-used c =
    let some : c.is_meant.result ≡ true = search rules in
    let none : c.in_ok-used.used ≡ false = search rules in
    doit-unused c.args.image.now c.args.abstraction.now c.args.body (meaning_of c.doit_meaning-outside.result) c.new-top.result c.is_meant.result
    c.new-top.ensures c.doit_meaning-outside.ensures c.is_meant.ensures some c.names.result c.names.ensures c.in_ok-used.used c.in_ok-used.ensures none

pub returns : goal.returns
returns c =
    let some : c.is_meant.result ≡ true = search rules in
    let there : c.in_ok-used.used ≡ true = search rules in
    doit-made c.args.image.now c.args.abstraction.now c.args.body (meaning_of c.doit_meaning-outside.result) c.new-top.result c.is_meant.result
    c.new-top.ensures c.doit_meaning-outside.ensures c.is_meant.ensures some c.names.result c.names.ensures c.in_ok-used.used c.in_ok-used.ensures there
    c.in_ok-after.after c.remake_doit.new.body c.in_ok-after.ensures c.in_ok-remake_doit.ensures
