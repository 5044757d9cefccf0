use Rattle.std.proofs.Common.{◌≡◌, ◌++◌, ◌-◌, ◌∙◌, ap, take, drop, length, arith}
use Rattle.std.specs.Prelude.{flat_map}
use Rattle.rb_base.specs.Names.{name_at}
use Rattle.image_file.specs.Writable.{doit_text_of}
use Rattle.image_file.proofs.Joined.{joined4_in_line}
use Rattle.image_file.proofs.Written.{first_doits, last_doits}
use Rattle.image_file.proofs.file_text.write_file.Goals as goal

pub returns : goal.returns
returns c =
    let s = c.args.image.now in
    let f = name_at s.names in
    joined4_in_line c.args.out.now c.write_doits.new.out c.write_classes.new.out c.write_methods.new.out c.write_doits-2.new.out _ _ _ _
    (c.in_ok-write_doits.ensures ∙ ap (λ n. c.args.out.now ++ flat_map doit_text_of (take (n - 0) s.doits)) c.heads.ensures ∙ ap (λ n. c.args.out.now ++ flat_map doit_text_of (take n s.doits)) (omega arith) ∙ ap (λ t. c.args.out.now ++ t) (first_doits f s.doits s.heads))
    c.in_ok-write_classes.ensures
    c.in_ok-write_methods.ensures
    (c.in_ok-write_doits-2.ensures ∙ ap (λ n. c.write_methods.new.out ++ flat_map doit_text_of (take (n - c.heads-2.result) (drop c.heads-2.result s.doits))) c.doits.ensures ∙ ap (λ t. c.write_methods.new.out ++ t) (ap (λ n. flat_map doit_text_of (take (length s.doits - n) (drop n s.doits))) c.heads-2.ensures ∙ last_doits f s.doits s.heads))
