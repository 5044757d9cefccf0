use Rattle.std.proofs.Common.{◌≡◌, ◌∙◌}
use Rattle.token_model.specs.declared.kind.Dialect.TheVariants.{Second}
use Rattle.rb_base.specs.Names.{name_at}
use Rattle.tree_model.specs.Tree.{map_sequence}
use Rattle.st_tree.specs.View.{sequence_of}
use Rattle.file_model.specs.Forms.{form_of}
use Rattle.file_model.specs.Filing.{form_taken}
use Rattle.file_reading.specs.Filed.{filed, text_doit}
use Rattle.file_reading.specs.Said.{said_text}
use Rattle.file_reading.proofs.Growing.{filed-grown, IsSoundSoFar-grown, sequence-grown, sequence_numbers-grown}
use Rattle.file_reading.proofs.Taking.{Answers-weaker, with_draft}
use Rattle.file_reading.proofs.take.take_body.Goals as goal

pub take_said-requires-clause-sound : goal.take_said-requires-clause-sound
take_said-requires-clause-sound c = IsSoundSoFar-grown c.args.reading c.said_in.new.names c.in_ok-said.ensures.grows c.requires.sound

pub take_said-requires-clause-known : goal.take_said-requires-clause-known
take_said-requires-clause-known c = sequence_numbers-grown c.in_ok-said.ensures.grows (sequence_of c.args.body) c.requires.known

pub returns : goal.returns
returns c =
    let names = c.said_in.new.names in
    let last = with_draft names c.args.reading.draft in
    Answers-weaker
    (λ r. r ≡ form_taken c.args.kernel (filed last) (text_doit names c.args.source.now c.args.body) (said_text names c.in_ok-said.said))
    (λ r. r ≡ form_taken c.args.kernel (filed c.args.reading) (text_doit c.args.reading.names c.args.source.now c.args.body) (form_of Second c.args.kernel (map_sequence (name_at c.args.reading.names) (sequence_of c.args.body))))
    (λ r e. e ∙ (λ i. form_taken c.args.kernel (filed-grown c.args.reading names c.in_ok-said.ensures.grows c.requires.sound i)
    (record { source = c.args.source.now; body = sequence-grown c.in_ok-said.ensures.grows (sequence_of c.args.body) c.requires.known i }) (c.in_ok-said.ensures.text i)))
    c.take_said.result c.take_said.ensures
