use Rattle.std.proofs.Common.{false, refl, ap, ◌∙◌}
use Rattle.rb_base.specs.Names.{name_at}
use Rattle.token_model.specs.declared.kind.Dialect.TheVariants.{Second}
use Rattle.tree_model.specs.Tree.{map_sequence}
use Rattle.st_tree.specs.View.{sequence_of}
use Rattle.chunk_format.specs.Chunks.{piece}
use Rattle.file_model.specs.Causes.{PoolsNotEmpty, UnknownDefinition}
use Rattle.file_model.specs.Forms.{Refuses, form_of}
use Rattle.import_model.specs.Steps.{Outside, InRun, kept, said}
use Rattle.import_chunks.proofs.Taking.{Answers-same}
use Rattle.import_chunks.proofs.Saying.{otherwise_said}
use Rattle.import_chunks.proofs.steps.take_said.Goals as goal

pub returns-in-HasPools : goal.returns-in-HasPools
returns-in-HasPools c =
    let p = piece c.args.chunk.now in
    let b = map_sequence (name_at c.args.names.now) (sequence_of c.args.body.now) in
    Answers-same (said p b (Refuses PoolsNotEmpty)) (said p b (form_of Second false b)) (ap (said p b) c.in-HasPools.ensures) c.args.names.now c.args.out.now c.take_refused.new.out c.take_refused.result (c.take_refused.ensures PoolsNotEmpty refl)

pub returns-in-IsUnknown : goal.returns-in-IsUnknown
returns-in-IsUnknown c =
    let p = piece c.args.chunk.now in
    let b = map_sequence (name_at c.args.names.now) (sequence_of c.args.body.now) in
    Answers-same (said p b (Refuses UnknownDefinition)) (said p b (form_of Second false b)) (ap (said p b) c.in-IsUnknown.ensures) c.args.names.now c.args.out.now c.take_refused-in-IsUnknown.new.out c.take_refused-in-IsUnknown.result (c.take_refused-in-IsUnknown.ensures UnknownDefinition refl)

pub returns-in-Opens : goal.returns-in-Opens
returns-in-Opens c =
    let p = piece c.args.chunk.now in
    let b = map_sequence (name_at c.args.names.now) (sequence_of c.args.body.now) in
    Answers-same (kept p InRun) (said p b (form_of Second false b)) (ap (said p b) c.in-Opens.ensures) c.args.names.now c.args.out.now c.keep.new.out c.keep.result (c.keep.ensures c.args.names.now)

pub returns-in-OpensAt : goal.returns-in-OpensAt
returns-in-OpensAt c =
    let p = piece c.args.chunk.now in
    let b = map_sequence (name_at c.args.names.now) (sequence_of c.args.body.now) in
    Answers-same (kept p InRun) (said p b (form_of Second false b)) (ap (said p b) c.in-OpensAt.ensures) c.args.names.now c.args.out.now c.keep-in-OpensAt.new.out c.keep-in-OpensAt.result (c.keep-in-OpensAt.ensures c.args.names.now)

pub returns-in_default : goal.returns-in_default
returns-in_default c =
    let p = piece c.args.chunk.now in
    let b = map_sequence (name_at c.args.names.now) (sequence_of c.args.body.now) in
    Answers-same (kept p Outside) (said p b (form_of Second false b))
    (otherwise_said p b c.args.names.now c.chunk_form.result c.in_default.not-HasPools c.in_default.not-IsUnknown c.in_default.not-Opens c.in_default.not-OpensAt ∙ ap (said p b) c.chunk_form.ensures)
    c.args.names.now c.args.out.now c.keep-in_default.new.out c.keep-in_default.result (c.keep-in_default.ensures c.args.names.now)
